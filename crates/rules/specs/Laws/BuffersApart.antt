-- No page of a live transaction lies in a registered buffer.
use Rattle.std.specs.Prelude.{◌≡◌, ℕ, true, false, is_some}
use Rattle.base.specs.Buffers.{is_buffer}
use Rattle.base.specs.Ledger.{live_at}
use Rattle.base.specs.State.{State}

pub record AreBuffersApart (s : State) : Type 0 where
  pub apart : (n : ℕ) → is_buffer s.mailboxes n ≡ true → is_some (live_at s.live n) ≡ false
