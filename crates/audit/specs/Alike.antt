-- How far the pages behind a page are like it, by the lists of a state.
use Rattle.std.specs.Prelude.{◌≡◌, ◌==◌, ℕ, ◌<◌, ◌≤◌, ◌^◌, List, Option, Some, None, if◌then◌else◌}
use Rattle.std.specs.List.{slice_get}
use Rattle.std.specs.Option.{option_map, option_and_then, option_map_or}
use Rattle.base.specs.Access.{View}
use Rattle.base.specs.Ledger.{donation_at, live_at, view_under}
use Rattle.base.specs.Manifest.{RegionRow, ManifestRows, region_at, granted_in}
use Rattle.base.specs.Transactions.{Gift, Donation, Live}

-- the same regions, donations and live transactions have the pages from one up to an end
pub record IsSegment (m : ManifestRows) (ds : List Donation) (live : List Live) (page end : ℕ) : Type 0 where
  pub behind : page < end
  pub inside : end ≤ 2 ^ 27
  pub regions : (n : ℕ) → page ≤ n → n < end → region_at m n ≡ region_at m page
  pub donations : (n : ℕ) → page ≤ n → n < end → donation_at ds n ≡ donation_at ds page
  pub transactions : (n : ℕ) → page ≤ n → n < end → live_at live n ≡ live_at live page

-- what stands at a place of a list, if a place is named
abbrev pub at_place : {A : Type 0} → List A → Option ℕ → Option A
at_place items place = option_and_then (slice_get items) place

-- what the donation there has given, if a place is named
abbrev pub gift_at : List Donation → Option ℕ → Option Gift
gift_at ds place = option_map (λ d. d.value) (at_place ds place)

-- ---- what is reached of a page, by what covers it

-- what the page is to its owner
abbrev pub home_by : Option RegionRow → Option Gift → View
home_by region gift =
    option_map_or (λ g. Some g.access) gift (option_and_then (λ r. granted_in r r.owner) region)

-- what a partition reaches of the page, where no live transaction covers it
abbrev pub settled_by : ℕ → Option RegionRow → Option Gift → View
settled_by p region gift =
    option_map_or (λ g. if g.taker == p then Some g.access else None) gift
    (option_and_then (λ r. granted_in r p) region)

-- what a partition reaches of the page
abbrev pub view_by : ℕ → Option RegionRow → Option Gift → Option Live → View
view_by p region gift transaction =
    option_map_or (λ t. view_under t (home_by region gift) p) transaction
    (settled_by p region gift)
