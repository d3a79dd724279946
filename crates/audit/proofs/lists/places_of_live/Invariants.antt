use Rattle.std.proofs.Common.{◌≡◌, ℕ, take}
use Rattle.base.specs.Ledger.{live_at}
use Rattle.spans.specs.Spans.{value_at}
use Rattle.audit.specs.Alike.{at_place}
use Rattle.audit.proofs.lists.places_of_live.Given as goal

-- the places of the transactions before this one
abbrev pub invariant-loop-place : goal.invariant-loop-place
invariant-loop-place l = (n : ℕ) → live_at (take l.place l.live) n ≡ at_place l.live (value_at l.places.spans n)
