use Rattle.std.proofs.Common.{◌≡◌, ◌≤◌, ℕ, drop, length}
use Rattle.base.specs.Ledger.{donation_at}
use Rattle.spans.specs.Spans.{value_at}
use Rattle.audit.specs.Alike.{gift_at}
use Rattle.audit.proofs.lists.places_of_donations.Given as goal

-- the places of the donations from this one on
abbrev pub invariant-loop-left : goal.invariant-loop-left
invariant-loop-left l = (l.left ≤ length l.donations) × ((n : ℕ) → donation_at (drop l.left l.donations) n ≡ gift_at l.donations (value_at l.places.spans n))

abbrev pub decreases-loop-left : goal.decreases-loop-left
decreases-loop-left l = l.left
