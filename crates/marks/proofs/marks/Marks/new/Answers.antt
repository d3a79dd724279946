use Rattle.std.proofs.Common.{◌≡◌, ℕ, ◌+◌, ◌<◌, ◌≤◌, Bool, true, false, List, length, replicate, slice_index_or, ◌++◌, ◌∙◌, sym, arith, inl, inr}
use Rattle.std.proofs.lemmas.Bool.{cases_lt}
use Rattle.std.proofs.lemmas.Grind.{common_steps}
use Rattle.std.proofs.lemmas.List.{same_lists, get_or_default, length-append, length-replicate}
use Rattle.marks.proofs.marks.Marks.new.Goals as goal

-- marks that are so one by one
made : (marks : List Bool) (marked unmarked : ℕ) → length marks ≡ marked + unmarked → ((k : ℕ) → k < marked → slice_index_or marks k false ≡ true)
    → ((k : ℕ) → marked ≤ k → k < marked + unmarked → slice_index_or marks k false ≡ false) → marks ≡ replicate marked true ++ replicate unmarked false
made marks marked unmarked count first behind =
    same_lists marks (replicate marked true ++ replicate unmarked false) (simp (length-append, length-replicate) count)
    (λ k d inside. get_or_default marks k d false inside ∙ (elim (cases_lt k marked) [
      | inl early ↦ first k early ∙ sym (grind (arith, common_steps))
      | inr late ↦ behind k late (omega (arith, inside, count)) ∙ sym (grind (arith, common_steps))
    ]))

pub returns : goal.returns
returns c =
    let is = c.loop-n.invariant in
    made c.loop-n.marks c.args.marked c.args.unmarked is.count is.first (λ k from below. is.behind k from (omega (arith, below, c.loop-n-test.false)))
