-- What a partition may learn of the state.
use Rattle.std.specs.Prelude.{◌≡◌, ℕ, Bool, true, false, ◌||◌, ◌==◌, List, filter}
use Rattle.std.specs.List.{list_any}
use Rattle.std.specs.Option.{option_map_or}
use Rattle.base.specs.Buffers.{Mailbox}
use Rattle.base.specs.Manifest.{ids_of, grant, region_at, is_sharable}
use Rattle.base.specs.Transactions.{Live}
use Rattle.base.specs.State.{State, state_of, owns, home_of, sees}
use Rattle.manifest.specs.Valid.{quota_of}
use Rattle.rules.specs.Call.{CallWords}
use Rattle.rules.specs.Run.{answer, step}

-- the partition is the sender or a receiver
abbrev pub names : ℕ → Live → Bool
names p t = (t.sender == p) || list_any (λ r. r.partition == p) t.receivers

abbrev pub transactions_of : ℕ → List Live → List Live
transactions_of p ts = filter (names p) ts

abbrev pub mailboxes_of : ℕ → List Mailbox → List Mailbox
mailboxes_of p boxes = filter (λ b. b.partition == p) boxes

-- normal memory with exactly one grant
abbrev pub is_sharable_at : State → ℕ → Bool
is_sharable_at s n = option_map_or is_sharable (region_at s.manifest n) false

-- The partition cannot tell the two states apart: which partitions there are; its quota, its grants, its version and its count of sends; its buffers; the pages that it owns, each with its home and whether it may be shared; the transactions that name it; and what it reaches.
pub record AreAlikeTo (p : ℕ) (s t : State) : Type 0 where
  pub partitions : ids_of s.manifest.partitions ≡ ids_of t.manifest.partitions
  pub quota : quota_of s.manifest p ≡ quota_of t.manifest p
  pub grants : (n : ℕ) → grant s.manifest p n ≡ grant t.manifest p n
  pub state : state_of s.partitions p ≡ state_of t.partitions p
  pub buffers : mailboxes_of p s.mailboxes ≡ mailboxes_of p t.mailboxes
  pub owned : (n : ℕ) → owns s p n ≡ owns t p n
  pub homes : (n : ℕ) → owns s p n ≡ true → home_of s n ≡ home_of t n
  pub sharable : (n : ℕ) → owns s p n ≡ true → is_sharable_at s n ≡ is_sharable_at t n
  pub transactions : transactions_of p s.live ≡ transactions_of p t.live
  pub views : (n : ℕ) → sees s p n ≡ sees t p n

-- a call of a partition that cannot tell two states apart is answered alike, and the partition cannot tell the states after it apart
pub record IsIsolated (s t : State) (c : CallWords) : Type 0 where
  pub answers : answer s c ≡ answer t c
  pub alike : AreAlikeTo c.caller (step s c) (step t c)
