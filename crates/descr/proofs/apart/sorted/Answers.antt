use Rattle.std.proofs.Common.{◌≡◌, ℕ, ◌++◌, List, length, take, drop, ap, subst, rules, ◌∙◌}
use Rattle.std.specs.List.Sorted.{IsNonDecreasingBy}
use Rattle.std.proofs.lemmas.List.Sorted.{IsNonDecreasingBy-from_sort_by_key}
use Rattle.base.specs.declared.page.Run.{Run}
use Rattle.descr.proofs.Following.{refilled}
use Rattle.descr.proofs.apart.sorted.Goals as goal

pub returns-clause-ascending : goal.returns-clause-ascending
returns-clause-ascending c =
    let sorted : IsNonDecreasingBy (λ (r : Run). r.first) c.sort_unstable_by_key.new.self = IsNonDecreasingBy-from_sort_by_key (λ (r : Run). r.first) _ c.sort_unstable_by_key.ensures.sorted (λ a r q k. search rules) in
    let before : c.deref_mut.result.now ≡ c.listed-runs.result.items = c.deref_mut.ensures.value in
    let same = refilled c.listed-runs.result.items c.sort_unstable_by_key.new.self (c.sort_unstable_by_key.ensures.len ∙ ap length before) in
    subst (λ (l : List Run). IsNonDecreasingBy (λ (r : Run). r.first) l) same sorted
