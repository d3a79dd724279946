-- Maximal runs of pages that have one value.
use Rattle.std.specs.Prelude.{◌≡◌, ℕ, ◌-◌, ◌^◌, Bool, ◌&&◌, ◌==◌, List, [], ◌∷◌, ◌++◌, length, Option, Some, None}
use Rattle.std.specs.List.{flat_map}
use Rattle.std.specs.Option.{option_map_or}
use Rattle.base.specs.Access.{Access, View, is_same}
use Rattle.base.specs.Ledger.{owner, home}
use Rattle.base.specs.Manifest.{ManifestRows}
use Rattle.base.specs.Runs.{ValuedRun, valued, with_next, maximal_runs}
use Rattle.base.specs.Transactions.{Donation}
use Rattle.digits.specs.Digits.{extent_text}

-- pages that are reached alike
abbrev pub ReachedRun : Type 0
ReachedRun = ValuedRun Access

-- the maximal runs of all pages that are reached alike
abbrev pub reached_runs : (ℕ → View) → List (ValuedRun Access)
reached_runs view = maximal_runs is_same view (2 ^ 27)

-- ---- owners

-- the owner of a page, and what the page is to it
pub record Ownership : Type 0 where
  pub owner : ℕ
  pub home : Access

-- pages of one owner and one home
abbrev pub OwnedRun : Type 0
OwnedRun = ValuedRun Ownership

-- an owner and a home, where there are both
abbrev pub ownership_of : Option ℕ → View → Option Ownership
ownership_of None home = None
ownership_of (Some owner) None = None
ownership_of (Some owner) (Some home) = Some (record { owner = owner; home = home })

-- the owner and the home of a page
abbrev pub ownership : ManifestRows → List Donation → ℕ → Option Ownership
ownership m ds n = ownership_of (owner m ds n) (home m ds n)

abbrev pub is_same_ownership : Ownership → Ownership → Bool
is_same_ownership a b = (a.owner == b.owner) && is_same a.home b.home

-- the maximal runs of all pages with one owner and one home
abbrev pub owned_runs : ManifestRows → List Donation → List OwnedRun
owned_runs m ds = maximal_runs is_same_ownership (ownership m ds) (2 ^ 27)

-- these runs and the next pages, where they have an owner
abbrev pub with_owned : List OwnedRun → ℕ → ℕ → Option Ownership → List OwnedRun
with_owned runs first end value =
    option_map_or (λ a. with_next is_same_ownership runs (valued first (end - first) a)) value runs

-- ---- the lines of runs that come one behind another

-- the line of a run: its pages, and what stands behind them
abbrev pub line_of : {A : Type 0} → (A → List ℕ) → ValuedRun A → List ℕ
line_of rest r = extent_text r.run ++ rest r.value

-- the run that waits for the next, if there is one
abbrev pub waiting : {A : Type 0} → Option A → List A
waiting None = []
waiting (Some run) = run ∷ []

-- the lines of these runs are appended and counted, but for the last one, which waits
pub record AreLined {A : Type 0} (rest : A → List ℕ) (before text : List ℕ) (count : ℕ) (last : Option (ValuedRun A)) (runs : List (ValuedRun A)) : Type 0 where
  pub complete : List (ValuedRun A)
  pub all : runs ≡ complete ++ waiting last
  pub lines : text ≡ before ++ flat_map (line_of rest) complete
  pub counted : count ≡ length complete
  pub first : last ≡ None → complete ≡ []
