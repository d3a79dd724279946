use Rattle.std.proofs.Common.{◌≡◌, ◌≤◌, ◌+◌, ◌-◌}
use Rattle.base.specs.State as spec
use Rattle.rules.specs.Calls.Buffers as buffers
use Rattle.spm.proofs.calls.buffers.may_be_buffers.Given as goal

abbrev pub invariant-loop-number : goal.invariant-loop-number
invariant-loop-number l = record {
  inside : l.number ≤ l.run.first + l.run.count;
  rest : spec.each_page (buffers.may_be_buffer l.state l.fn.p) l.number (l.run.first + l.run.count - l.number) ≡ spec.each_page (buffers.may_be_buffer l.state l.fn.p) l.run.first l.run.count;
}

abbrev pub decreases-loop-number : goal.decreases-loop-number
decreases-loop-number l = l.run.first + l.run.count - l.number
