-- Live transactions, and what completed donations have left, as data (FF-A 1.1, "Memory management").
use Rattle.std.specs.Prelude.{ℕ, ◌==◌, ◌<◌, ◌&&◌, Bool, nat_lt, List, [], ◌∷◌, if◌then◌else◌}
use Rattle.std.specs.List.{AllByRecursion}
use Rattle.base.specs.declared.access.Rights.{Rights}
use Rattle.base.specs.declared.transaction.Kind.{Kind}
use Rattle.base.specs.Pages.{PageRun}
use Rattle.base.specs.Access.{Access, View, is_same}
use Rattle.base.specs.Runs.{ValuedRun}

-- a receiver, the most that it may retrieve, and what it has retrieved
pub record Receiver : Type 0 where
  pub partition : ℕ
  pub cap : Rights
  pub retrieved : View

-- a transaction that was sent and has not ended; its ranges stand in the order sent
pub record Live : Type 0 where
  pub handle : ℕ
  pub kind : Kind
  pub sender : ℕ
  pub tag : ℕ
  pub ranges : List PageRun
  pub receivers : List Receiver
  pub home : Access

-- what a donation that was retrieved gives: the new owner of its pages, and what they are to it
pub record Gift : Type 0 where
  pub taker : ℕ
  pub access : Access

abbrev pub is_same_gift : Gift → Gift → Bool
is_same_gift a b = (a.taker == b.taker) && is_same a.access b.access

-- pages that donations have left with this owner, to which they are this
abbrev pub Donation : Type 0
Donation = ValuedRun Gift

-- they stand in ascending order of their handles
abbrev pub AreAscending : List Live → Type 0
AreAscending [] = Unit {0}
AreAscending (t ∷ ts) = AllByRecursion (λ u. t.handle < u.handle) ts × AreAscending ts

-- these with one more, behind those of lower handles
abbrev pub with_live : Live → List Live → List Live
with_live t [] = t ∷ []
with_live t (u ∷ us) = if nat_lt t.handle u.handle then t ∷ u ∷ us else u ∷ with_live t us

-- these without the transaction of a handle
abbrev pub without : ℕ → List Live → List Live
without h [] = []
without h (t ∷ ts) = if t.handle == h then ts else t ∷ without h ts

-- what one of the receivers has retrieved is this now
abbrev pub with_retrieved : ℕ → View → List Receiver → List Receiver
with_retrieved p view [] = []
with_retrieved p view (r ∷ rs) =
    if r.partition == p then record r { retrieved = view } ∷ rs else r ∷ with_retrieved p view rs

-- the same of a receiver of the transaction
abbrev pub with_retrieval : ℕ → View → Live → Live
with_retrieval p view t = record t { receivers = with_retrieved p view t.receivers }

-- the same of a receiver of the transaction of a handle
abbrev pub with_retrieval_of : ℕ → ℕ → View → List Live → List Live
with_retrieval_of h p view [] = []
with_retrieval_of h p view (t ∷ ts) =
    if t.handle == h then with_retrieval p view t ∷ ts else t ∷ with_retrieval_of h p view ts

-- what a partition is given that retrieves a donation with this access
abbrev pub gift : ℕ → Access → Gift
gift p access = record { taker = p; access = access }
