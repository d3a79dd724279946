use Rattle.std.proofs.Common.{◌≡◌, ◌∙◌, length, sym, ap, arith, rules}
use Rattle.std.proofs.lemmas.List.Sorted.{list_any-IsPermutation, length_permutation, sum_by-IsPermutation, IsNonDecreasingBy-from_sort_by_key}
use Rattle.base.specs.Pages.{PageRun, in_run, rise}
use Rattle.base.proofs.Gathering.{all_gathered, rise_from_normal}
use Rattle.base.proofs.Joining.{spread, are_disjoint-IsPermutation}
use Rattle.base.proofs.order.gather.Goals as goal

pub returns : goal.returns
returns c =
    let sorted = c.sort_unstable_by_key.ensures in
    let ordered = IsNonDecreasingBy-from_sort_by_key (λ (run : PageRun). run.first) _ sorted.sorted (λ a r q k. search rules) in
    let all = all_gathered _ _ (λ x k b f' x' k' r. search rules) _ _ ordered c.dedup_by.ensures.filtered in
    let long : length c.sort_unstable_by_key.new.self.items ≡ length c.args.runs.now.items = length_permutation _ _ sorted.permutation in
    record {
      normal = all.normal;
      ascending = all.rises;
      same = λ n. all.same n ∙ sym (list_any-IsPermutation (λ (run : PageRun). in_run run n) _ _ sorted.permutation);
      fewer = omega (arith, all.fewer, long);
      some = λ h. all.some (omega (arith, h, long));
      capacity = search rules;
      sum = λ disjoint.
          let spread_out = spread _ (are_disjoint-IsPermutation c.args.runs.now.items _ sorted.permutation disjoint) ordered in
          all.sum spread_out ∙ sum_by-IsPermutation (λ (run : PageRun). run.count) _ _ sorted.permutation;
    }

pub returns-then-are_normal-clause-ascending : goal.returns-then-are_normal-clause-ascending
returns-then-are_normal-clause-ascending c = ap (rise 0) (sym c.deref.ensures.value) ∙ rise_from_normal c.deref.result.now (sym c.are_normal.ensures ∙ c.if-are_normal.true)
