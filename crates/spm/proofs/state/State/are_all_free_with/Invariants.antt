use Rattle.std.proofs.Common.{◌≡◌, ◌≤◌, ◌<◌, ℕ, true}
use Rattle.base.specs.State as spec
use Rattle.spm.proofs.state.State.are_all_free_with.Given as goal

abbrev pub invariant-loop-run : goal.invariant-loop-run
invariant-loop-run l = record {
  rest : spec.each_page_in (spec.is_free_with l.self l.owner.partition l.home) l.run-iterator ≡ spec.each_page_in (spec.is_free_with l.self l.owner.partition l.home) l.desc.ranges;
  first : (n : ℕ) → l.looks.first.first ≤ n → n < l.looks.first.end → spec.is_free_with l.self l.owner.partition l.home n ≡ true;
  last : (n : ℕ) → l.looks.last.first ≤ n → n < l.looks.last.end → spec.is_free_with l.self l.owner.partition l.home n ≡ true;
}
