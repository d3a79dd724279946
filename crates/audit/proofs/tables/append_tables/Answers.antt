use Rattle.std.proofs.Common.{ℕ, ◌++◌, List, sym, ap, ◌∙◌, append-nil, append_assoc}
use Rattle.std.specs.List.{flat_map}
use Rattle.stage2.specs.Reading.{TableEntry}
use Rattle.stage2.specs.Readings.{Reading, entries_of}
use Rattle.stage2.specs.Tables.{view_of}
use Rattle.stage2.specs.Listing.{entries}
use Rattle.stage2.proofs.Reading.Listing.{listed}
use Rattle.audit.specs.Texts.{tables_header, tables_text, entry_line}
use Rattle.audit.specs.TableLines.{line_of}
use Rattle.audit.proofs.TableLines.{line-shown}
use Rattle.audit.proofs.tables.append_tables.Goals as goal

pub returns : goal.returns
unfolding tables_text
returns g c =
    let t = c.args.tables.now in
    let view = view_of t c.args.p in
    let none = c.in_default.ensures.steps.0 in
    let all = c.entries-left.ensures ∙ ap (λ (r : Reading). entries_of r c.args.p) c.reader.ensures.reading in
    let header = c.in_ok-append_header.ensures ∙ ap (λ n. c.args.text.now.items ++ tables_header c.args.p n) c.used.ensures in
    sym (append-nil c.loop-entry.text.items)
    ∙ ap (λ (es : List TableEntry). c.loop-entry.text.items ++ flat_map line_of es) (sym none)
    ∙ c.loop-entry.invariant
    ∙ ap (λ (es : List TableEntry). c.append_header.new.text.items ++ flat_map line_of es) all
    ∙ ap (λ (xs : List ℕ). c.append_header.new.text.items ++ xs) (listed line_of entry_line t c.args.p line-shown c.reader.ensures.canonical)
    ∙ ap (λ (xs : List ℕ). xs ++ flat_map entry_line (entries view)) header
    ∙ append_assoc c.args.text.now.items _ (flat_map entry_line (entries view))
