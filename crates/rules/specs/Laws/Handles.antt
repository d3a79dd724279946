-- No handle is used twice.
use Rattle.std.specs.Prelude.{◌≡◌, ℕ, ◌+◌, ◌*◌, ◌^◌, ◌<◌, ◌≤◌, is_some}
use Rattle.std.specs.List.{AllByRecursion}
use Rattle.base.specs.Manifest.{is_partition}
use Rattle.base.specs.Transactions.{Live, AreAscending}
use Rattle.base.specs.State.{State, state_of, sends_of}

-- the handle's high half is the sender, and its low half one of the sender's accepted sends, from 1
abbrev pub IsCounted : State → Live → Type 0
IsCounted s t =
    (t.sender * 2 ^ 32 < t.handle) × (t.handle ≤ t.sender * 2 ^ 32 + sends_of s.partitions t.sender)

-- each partition has its state, no count of sends is too large, no live handle is above its sender's count, and they ascend
pub record AreHandlesUsedOnce (s : State) : Type 0 where
  pub rows : (p : ℕ) → is_some (state_of s.partitions p) ≡ is_partition s.manifest p
  pub counts : (p : ℕ) → sends_of s.partitions p < 2 ^ 32
  pub counted : AllByRecursion (IsCounted s) s.live
  pub ascending : AreAscending s.live
