use Rattle.std.proofs.Common.{◌≡◌, ◌∙◌, ℕ, ap, sym, List, reverse, rules}
use Rattle.std.proofs.lemmas.List.Sorted.{list_any-IsPermutation, sum_by-IsPermutation, IsPermutation-reverse}
use Rattle.base.specs.Pages.{PageRun, in_run, covers}
use Rattle.base.specs.Descriptors.Send.{pages_in}
use Rattle.base.proofs.runs.normal_of_many.Goals.{then-fall, else-fall}
use Rattle.base.proofs.runs.normal_of_many.Goals as goal

pub returns-clause-same : goal.returns-clause-same
returns-clause-same c = elim c.if-fall.branch [
  | then-fall w ↦ λ n.
      let is : c.if-fall.list.items ≡ reverse c.args.runs.now = search rules in
      ap (λ runs. covers runs n) is ∙ sym (list_any-IsPermutation (λ run. in_run run n) _ _ (IsPermutation-reverse c.args.runs.now))
  | else-fall w ↦ search rules
]

pub returns-clause-sum : goal.returns-clause-sum
returns-clause-sum c = elim c.if-fall.branch [
  | then-fall w ↦
      let is : c.if-fall.list.items ≡ reverse c.args.runs.now = search rules in
      ap pages_in is ∙ sum_by-IsPermutation (λ (run : PageRun). run.count) _ _ (IsPermutation-reverse c.args.runs.now)
  | else-fall w ↦ search rules
]
