use Rattle.std.proofs.Common.{◌≡◌, ◌≤◌, ◌<◌, ◌-◌, ℕ, true}
use Rattle.base.specs.State as spec
use Rattle.spm.proofs.state.State.free_until.Given as goal

abbrev pub invariant-loop-known : goal.invariant-loop-known
invariant-loop-known l = record {
  rest : spec.each_page (spec.is_free_with l.self l.owner.partition l.home) l.known.end (l.end - l.known.end) ≡ spec.each_page (spec.is_free_with l.self l.owner.partition l.home) l.first (l.end - l.first);
  known : (n : ℕ) → l.known.first ≤ n → n < l.known.end → spec.is_free_with l.self l.owner.partition l.home n ≡ true;
}

abbrev pub decreases-loop-known : goal.decreases-loop-known
decreases-loop-known l = l.end - l.known.end
