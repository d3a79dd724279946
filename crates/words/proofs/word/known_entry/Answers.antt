use Rattle.std.proofs.Common.{◌≡◌, ℕ, ◌*◌, ◌/◌, ◌%◌, ◌^◌, sym, ap₂, arith, ◌∙◌}
use Rattle.std.specs.Int.Bits.{bit_and}
use Rattle.std.proofs.lemmas.Nat.Bits.{and_high}
use Rattle.words.specs.declared.word.Entry.TheVariants.{Leaf}
use Rattle.words.proofs.Known.{known-invalid, known-leaf}
use Rattle.words.proofs.word.known_entry.Goals as goal
use Rattle.words.proofs.word.known_entry.Goals.{else-level-lt3-via-then-level-lt3+else-word-eq-TABLE_OR_PAGE, else-level-lt3-via-else-level-lt3}

-- bit 0
low : (w : ℕ) → bit_and w 1 ≡ w % 2
low w = let bit : bit_and w 1 ≡ w / 2 ^ 0 % 2 ^ 1 * 2 ^ 0 = and_high w 1 0 in omega (arith, bit)

pub returns-then-word-eq0 : goal.returns-then-word-eq0
returns-then-word-eq0 c = known-invalid c.args.level c.args.word (sym (low c.args.word) ∙ c.if-word-eq0.true)

pub returns : goal.returns
returns c =
    ap₂ Leaf c.page_of-page.ensures c.access_of.ensures
    ∙ known-leaf c.args.level c.args.word c.requires.known (λ even. c.if-word-eq0.false (low c.args.word ∙ even))
    (elim c.else-level-lt3.branch [
      | else-level-lt3-via-then-level-lt3+else-word-eq-TABLE_OR_PAGE w ↦ λ low. w.if-word-eq-TABLE_OR_PAGE.false
      | else-level-lt3-via-else-level-lt3 w ↦ λ low kind. omega (arith, low, w.if-level-lt3.false)
    ])
