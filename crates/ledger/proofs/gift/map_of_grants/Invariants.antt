use Rattle.std.proofs.Common.{◌≡◌, ℕ, None}
use Rattle.ledger.specs.Gifts.{left_at}
use Rattle.ledger.proofs.gift.map_of_grants.Given as goal

-- the numbers so far say what the manifest says
abbrev pub invariant-loop-region : goal.invariant-loop-region
invariant-loop-region l = (n : ℕ) → left_at l.manifest l.map.spans n ≡ None
