-- Who owns a page, what it is to its owner, and what each partition reaches of it.
use Rattle.std.specs.Prelude.{ℕ, Bool, false, ◌&&◌, ◌==◌, not, if◌then◌else◌, List, ◌++◌, map, Option, Some, None, is_some}
use Rattle.std.specs.List.{find}
use Rattle.std.specs.Option.{option_map, option_and_then, option_map_or}
use Rattle.base.specs.declared.transaction.Kind.{Kind}
use Rattle.base.specs.declared.transaction.Kind.TheVariants.{Share, Lend, Donate}
use Rattle.base.specs.Pages.{PageRun, covers}
use Rattle.base.specs.Access.{View, is_reached_with}
use Rattle.base.specs.Manifest.{ManifestRows, RegionRow, region_at, granted_in, grant, is_sharable}
use Rattle.base.specs.Runs.{maximal_runs, valued_at, end_of_all}
use Rattle.base.specs.Transactions.{Receiver, Live, Gift, Donation, is_same_gift}

-- the live transaction that covers a page
abbrev pub live_at : List Live → ℕ → Option Live
live_at live n = find (λ t. covers t.ranges n) live

-- what the donations have left of a page
abbrev pub donation_at : List Donation → ℕ → Option Gift
donation_at ds n = valued_at ds n

-- the taker of the donation that has the page, else the manifest's owner
abbrev pub owner : ManifestRows → List Donation → ℕ → Option ℕ
owner m ds n =
    option_map_or (λ g. Some g.taker) (donation_at ds n) (option_map (λ r. r.owner) (region_at m n))

-- the access of that donation, else the owner's grant
abbrev pub home : ManifestRows → List Donation → ℕ → View
home m ds n =
    option_map_or (λ g. Some g.access) (donation_at ds n)
    (option_and_then (λ r. granted_in r r.owner) (region_at m n))

-- what a partition reaches of a page that no live transaction covers: where a donation has it the owner has the home and all others nothing, else the manifest's grants decide
abbrev pub settled_view : ManifestRows → List Donation → ℕ → ℕ → View
settled_view m ds p n =
    option_map_or (λ g. if g.taker == p then Some g.access else None) (donation_at ds n)
    (grant m p n)

-- what a partition has retrieved as one of these receivers
abbrev pub retrieved : List Receiver → ℕ → View
retrieved receivers p = option_and_then (λ r. r.retrieved) (find (λ r. r.partition == p) receivers)

-- what the sender keeps of its home: all of it under a share, else nothing
abbrev pub kept : Kind → View → View
kept Share home = home
kept Lend home = None
kept Donate home = None

-- what a partition reaches of a page that a live transaction covers: the sender what it keeps, a receiver what it has retrieved, all others nothing
abbrev pub view_under : Live → View → ℕ → View
view_under t home p = if t.sender == p then kept t.kind home else retrieved t.receivers p

-- what a partition reaches of a page
abbrev pub view : ManifestRows → List Donation → List Live → ℕ → ℕ → View
view m ds live p n =
    option_map_or (λ t. view_under t (home m ds n) p) (live_at live n) (settled_view m ds p n)

-- the partition owns the page
abbrev pub is_owner : ManifestRows → List Donation → ℕ → ℕ → Bool
is_owner m ds p n = option_map_or (λ o. o == p) (owner m ds n) false

-- the partition owns the page, its region is normal memory with exactly one grant, and no live transaction covers it
abbrev pub is_idle : ManifestRows → List Donation → List Live → ℕ → ℕ → Bool
is_idle m ds live p n =
    is_owner m ds p n
    && option_map_or is_sharable (region_at m n) false
    && not (is_some (live_at live n))

-- ---- a donation is retrieved

-- the region says the same of its pages: its owner alone reaches them, with this access
unfoldable pub is_granted_in : Option RegionRow → Gift → Bool
is_granted_in None g = false
is_granted_in (Some r) g =
    is_sharable r && (r.owner == g.taker) && is_reached_with g.access (granted_in r r.owner)

-- what a donation leaves of one of its pages: nothing where the page has come back as the manifest has it
abbrev pub left_of : ManifestRows → Gift → ℕ → Option Gift
left_of m g n = if is_granted_in (region_at m n) g then None else Some g

-- what donations have left of a page after one of these runs
abbrev pub left_after : ManifestRows → List PageRun → Gift → List Donation → ℕ → Option Gift
left_after m runs g ds n = if covers runs n then left_of m g n else donation_at ds n

-- what donations have left after one of these runs, as maximal runs, upward
unfoldable pub with_donation_of : ManifestRows → List PageRun → Gift → List Donation → List Donation
with_donation_of m runs g ds =
    maximal_runs is_same_gift (left_after m runs g ds) (end_of_all (runs ++ map (λ d. d.run) ds))
