use Rattle.std.proofs.Common.{◌∙◌, ◌+◌, ◌-◌, [], length, sym, ap, subst, rules, arith}
use Rattle.spans.specs.Spans.{ascend}
use Rattle.spans.specs.Blocks.{AreDense, AreFilled}
use Rattle.spans.proofs.Stacked.{filled_both, later}
use Rattle.spans.proofs.Dense.{IsSettled, settled-all}
use Rattle.spans.proofs.Taken.{settled-gone, settled-kept}
use Rattle.spans.proofs.blocks.Blocks.tidy.Goals.{then-is_empty, else-is_empty}
use Rattle.spans.proofs.blocks.Blocks.tidy.Goals as goal

pub join-requires-clause-ascending : goal.join-requires-clause-ascending
join-requires-clause-ascending c = later 0 0 (c.args.place + 1 - 1) c.args.self.now.list c.requires.ascending (omega arith)

pub join-requires-then-place-gt0-clause-ascending : goal.join-requires-then-place-gt0-clause-ascending
join-requires-then-place-gt0-clause-ascending c =
    let old = c.args.self.now.list in
    let place = c.args.place in
    let mid = c.if-is_empty.self.list in
    let long = ap length (c.spans.ensures.same ∙ c.block.ensures.block []) in
    let s : IsSettled place old mid = elim c.if-is_empty.branch [
      | then-is_empty w ↦ rw w.self-is (settled-gone old w.retire.new.self.list place c.requires.inside c.requires.behind (search rules) w.retire.ensures.list)
      | else-is_empty w ↦ rw w.self-is (settled-kept old w.join.new.self.list place c.requires.inside c.requires.behind (search rules) c.requires.short w.join.ensures.joined)
    ] in
    later 0 0 (place - 1) mid (ap (ascend 0) (settled-all place old mid s) ∙ c.requires.ascending) (omega arith)

settled : (c : goal.After-join-then-place-gt0) → IsSettled c.args.place c.args.self.now.list c.if-is_empty.self.list
settled c =
    let old = c.args.self.now.list in
    let place = c.args.place in
    elim c.if-is_empty.branch [
      | then-is_empty w ↦ rw w.self-is (settled-gone old w.retire.new.self.list place c.requires.inside c.requires.behind (search rules) w.retire.ensures.list)
      | else-is_empty w ↦ rw w.self-is (settled-kept old w.join.new.self.list place c.requires.inside c.requires.behind (search rules) c.requires.short w.join.ensures.joined)
    ]

pub returns-then-place-gt0-clause-spans : goal.returns-then-place-gt0-clause-spans
returns-then-place-gt0-clause-spans c =
    c.join-then-place-gt0.ensures.joined.spans 0 (omega (arith, c.if-place-gt0.true)) ∙ settled-all c.args.place c.args.self.now.list c.if-is_empty.self.list (settled c)

pub returns-then-place-gt0-clause-tidy : goal.returns-then-place-gt0-clause-tidy
returns-then-place-gt0-clause-tidy c =
    let s = settled c in
    let old = c.args.self.now.list in
    let mid = c.if-is_empty.self.list in
    let one = c.join-then-place-gt0.ensures.joined in
    let lt = c.if-place-gt0.true in
    record {
      stacked = record {
        ascending = ap (ascend 0) (one.spans 0 lt ∙ settled-all c.args.place old mid s) ∙ c.requires.ascending;
        filled = one.filled 0 lt (filled_both c.args.place mid (subst AreFilled (sym s.before) c.requires.before) s.filled);
      };
      dense = one.dense 0 lt (subst AreDense (sym s.before) c.requires.dense_before) (s.dense c.requires.dense_behind);
    }
