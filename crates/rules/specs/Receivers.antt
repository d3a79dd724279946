-- What a receiver has of a transaction (FF-A 1.1, "Memory management").
use Rattle.std.specs.Prelude.{ℕ, Bool, ◌&&◌, ◌==◌, Option, is_some}
use Rattle.std.specs.List.{list_any, find}
use Rattle.base.specs.Access.{View}
use Rattle.base.specs.Ledger.{retrieved}
use Rattle.base.specs.Transactions.{Live, with_retrieval_of}
use Rattle.base.specs.State.{State}

-- the partition is one of its receivers
abbrev pub is_received_by : ℕ → Live → Bool
is_received_by p t = list_any (λ r. r.partition == p) t.receivers

-- the live transaction of a handle of which a partition is a receiver
abbrev pub received_with : State → ℕ → ℕ → Option Live
received_with s p handle = find (λ t. (t.handle == handle) && is_received_by p t) s.live

-- the partition has retrieved it, and has not relinquished it since
abbrev pub has_retrieved : ℕ → Live → Bool
has_retrieved p t = is_some (retrieved t.receivers p)

-- what the partition has retrieved of the transaction of the handle is this now
unfoldable pub with_retrieval_by : State → ℕ → ℕ → View → State
with_retrieval_by s p handle view = record s { live = with_retrieval_of handle p view s.live }
