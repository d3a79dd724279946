-- The intervals that stand for the lists.
use Rattle.std.specs.Prelude.{◌≡◌, ℕ, ◌<◌, true, false, List, [], ◌∷◌}
use Rattle.std.specs.List.{AllByRecursion}
use Rattle.std.specs.Option.{option_map}
use Rattle.base.specs.Pages.{covers}
use Rattle.base.specs.Transactions.{Live, Donation}
use Rattle.base.specs.Ledger.{live_at}
use Rattle.base.specs.Manifest.{ManifestRows}
use Rattle.spans.specs.Spans.{Span, value_at}
use Rattle.ledger.specs.Gifts.{gift_of, Says}
use Rattle.ledger.specs.Ledger.{NamesItsSender}

-- no page is in both, and the first has the lower handle
pub record AreSeparate (t u : Live) : Type 0 where
  pub pages : (n : ℕ) → covers t.ranges n ≡ true → covers u.ranges n ≡ false
  pub handles : t.handle < u.handle

-- the same of any two of them, in their order
abbrev pub AreAllSeparate : List Live → Type 0
AreAllSeparate [] = Unit {0}
AreAllSeparate (t ∷ ts) = AllByRecursion (AreSeparate t) ts × AreAllSeparate ts

-- what the number of a page spells, else its region, says who owns it and what it is to its owner
abbrev pub AreGifts : ManifestRows → List Donation → List Span → Type 0
AreGifts m donations given =
    (n : ℕ) → Says m donations n (option_map gift_of (value_at given n))

-- the number of a page is the handle of the live transaction that covers it
abbrev pub AreHandles : List Live → List Span → Type 0
AreHandles live shared = (n : ℕ) → value_at shared n ≡ option_map (λ t. t.handle) (live_at live n)

-- the intervals agree with the lists and the manifest; no two live transactions share a page, they stand in ascending order of their handles, and each handle names its sender
pub record IsKept (m : ManifestRows) (donations : List Donation) (live : List Live) (given shared : List Span) : Type 0 where
  pub gifts : AreGifts m donations given
  pub handles : AreHandles live shared
  pub separate : AreAllSeparate live
  pub named : AllByRecursion NamesItsSender live
