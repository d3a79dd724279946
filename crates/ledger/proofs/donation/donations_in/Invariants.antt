use Rattle.std.proofs.Common.{◌≡◌, ◌-◌, ◌≤◌, ◌^◌}
use Rattle.base.specs.Runs.{maximal_runs}
use Rattle.base.specs.Transactions.{is_same_gift}
use Rattle.ledger.specs.Gifts.{left_at}
use Rattle.ledger.proofs.donation.donations_in.Given as goal

-- what is left of the pages before this one
abbrev pub invariant-loop-number : goal.invariant-loop-number
invariant-loop-number l = record {
  runs : l.found.items ≡ maximal_runs is_same_gift (left_at l.manifest l.given.spans) l.number;
  inside : l.number ≤ 2 ^ 27;
}

abbrev pub decreases-loop-number : goal.decreases-loop-number
decreases-loop-number l = 134217728 - l.number
