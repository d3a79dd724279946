-- A page has one owner, in each state that some list of calls reaches.
use Rattle.std.specs.Prelude.{◌≡◌, ℕ, true, false, List, [], ◌∷◌, Some, is_some}
use Rattle.std.specs.List.{AllByRecursion}
use Rattle.base.specs.Pages.{covers}
use Rattle.base.specs.Transactions.{Live}
use Rattle.base.specs.Manifest.{region_at}
use Rattle.base.specs.State.{State, owner_of}

-- the sender of a transaction owns its pages
abbrev pub IsOwnSend : State → Live → Type 0
IsOwnSend s t = (n : ℕ) → covers t.ranges n ≡ true → owner_of s n ≡ Some t.sender

-- no page is in both
abbrev pub AreApart : Live → Live → Type 0
AreApart t u = (n : ℕ) → covers t.ranges n ≡ true → covers u.ranges n ≡ false

-- no page is in two of them
abbrev pub AreAllApart : List Live → Type 0
AreAllApart [] = Unit {0}
AreAllApart (t ∷ ts) = AllByRecursion (AreApart t) ts × AreAllApart ts

-- a page has an owner exactly where it is a region's, each live transaction's sender owns its pages, and no two of them share a page
pub record IsOwnedOnce (s : State) : Type 0 where
  pub owners : (n : ℕ) → is_some (owner_of s n) ≡ is_some (region_at s.manifest n)
  pub senders : AllByRecursion (IsOwnSend s) s.live
  pub apart : AreAllApart s.live
