use Rattle.std.proofs.lemmas.Bool.{cases_Bool, eqb-false}
use Rattle.stage2.proofs.Names.{covers, words_of, IsOutcome, read_after, tells, Next, nat_tests, common_steps, ◌≡◌, ℕ, ◌+◌, ◌*◌, ◌<◌, ◌==◌, Bool, true, false, is_some, ◌∙◌, arith, not, refl, sym, ap, subst, inl, inr}
use Rattle.stage2.proofs.Counting.Operations.{others-alike, emptied-alike}
use Rattle.stage2.proofs.Counting.Outcomes.{stray-mixed}
use Rattle.stage2.proofs.Counting.Pieces.{none-beside, words-least}
use Rattle.stage2.proofs.Editing.Gigabyte.{is-none}
use Rattle.stage2.proofs.outcome.is_alike_in_table.Goals as goal

pub returns-then-is_told_mixed : goal.returns-then-is_told_mixed
returns-then-is_told_mixed g c = grind (arith, common_steps, nat_tests, stray-mixed)

-- the words of the runs' pages are not 0, and no more are; and they are not reached any more
pub returns-then-is_none : goal.returns-then-is_none
returns-then-is_none g c =
    let e = c.args.edit.now in
    let k = c.args.third in
    let pool = g.M.TableMem.state c.args.memory.now in
    let words = words_of pool.memory.words in
    let none = is-none e.access (c.is_none.ensures ∙ ap not c.if-is_none.true) in
    let which : ℕ → Bool = λ i. covers e.runs (512 * e.chunk + i) in
    let some : (i : ℕ) → i < 512 → which i ≡ true → (words k i == 0) ≡ false = λ i small covered. c.requires.turned c.if-edit.true i small covered ∙ ap (λ a. is_some a) none in
    let least = words-least words k which some in
    let most = c.is_told_mixed.ensures.no c.if-is_told_mixed.false none in
    emptied-alike e.layout.now pool e.runs e.access (Next k) e.chunk k refl none (none-beside words k which (omega (arith, least, most, e.pages)) (λ i small covered. eqb-false _ _ (some i small covered)))

pub returns : goal.returns
returns g c =
    let e = c.args.edit.now in
    let pool = g.M.TableMem.state c.args.memory.now in
    elim (cases_Bool c.has_stray.result) [
      | inl t ↦ subst (λ b. IsOutcome e.chunk (read_after e (Next c.args.third) pool) (tells b e.access)) (ap not (sym t)) (stray-mixed e c.args.third pool c.requires.spelled (c.has_stray.ensures.yes t))
      | inr f ↦ subst (λ b. IsOutcome e.chunk (read_after e (Next c.args.third) pool) (tells b e.access)) (ap not (sym f)) (others-alike e.layout.now pool e.runs e.access (Next c.args.third) e.chunk c.args.third refl (c.has_stray.ensures.no f))
    ]
