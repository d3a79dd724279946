-- What a transaction says of its pages stays true while it is live.
use Rattle.std.specs.Prelude.{◌≡◌, ℕ, ◌≤◌, true, false, length, Some, None}
use Rattle.std.specs.List.{AllByRecursion}
use Rattle.base.specs.declared.transaction.Kind.TheVariants.{Donate}
use Rattle.base.specs.Descriptors.Send.{pages_in}
use Rattle.base.specs.Ledger.{retrieved}
use Rattle.base.specs.Pages.{covers, are_disjoint}
use Rattle.base.specs.Transactions.{Live}
use Rattle.base.specs.State.{State, owns, home_of}
use Rattle.rules.specs.Laws.Isolation.{is_sharable_at}
use Rattle.rules.specs.Receivers.{is_received_by}

-- the sender owns the page, which may be shared, and its home is that of the transaction
abbrev pub IsSentPage : State → Live → ℕ → Type 0
IsSentPage s t n =
    (owns s t.sender n ≡ true) × (is_sharable_at s n ≡ true) × (home_of s n ≡ Some t.home)

abbrev pub AreSentPages : State → Live → Type 0
AreSentPages s t = (n : ℕ) → covers t.ranges n ≡ true → IsSentPage s t n

-- its sender is none of its receivers
abbrev pub IsSentToOthers : Live → Type 0
IsSentToOthers t = is_received_by t.sender t ≡ false

-- a donation that has been retrieved is live no more
abbrev pub IsNotTaken : Live → Type 0
IsNotTaken t = t.kind ≡ Donate → (p : ℕ) → retrieved t.receivers p ≡ None

-- it has at most 512 ranges, of at most 262,144 pages (1 GB) together
abbrev pub IsWithinLimits : Live → Type 0
IsWithinLimits t = (length t.ranges ≤ 512) × (pages_in t.ranges ≤ 262144)

-- so is each page of a live transaction, no two of its ranges share a page, it keeps the limits of a descriptor, it was sent to others, and no receiver has taken a donation
pub record AreTransactionsKept (s : State) : Type 0 where
  pub pages : AllByRecursion (AreSentPages s) s.live
  pub apart : AllByRecursion (λ t. are_disjoint t.ranges ≡ true) s.live
  pub limits : AllByRecursion IsWithinLimits s.live
  pub others : AllByRecursion IsSentToOthers s.live
  pub not_taken : AllByRecursion IsNotTaken s.live
