-- The number that spells an owner and a home, what it says of a page, and what donations have left by the numbers of pages.
use Rattle.std.specs.Prelude.{◌≡◌, ℕ, List, map, Option, Some, ◌-◌, ◌/◌, ◌%◌, ◌^◌, Bool, true, false, ◌==◌, if◌then◌else◌}
use Rattle.base.specs.declared.access.Rights.{Rights}
use Rattle.base.specs.declared.access.Rights.TheVariants.{Ro, Rw}
use Rattle.base.specs.declared.access.MemoryKind.TheVariants.{Normal, Device}
use Rattle.std.specs.Option.{option_map, option_map_or, option_and_then}
use Rattle.base.specs.Access.{Access, View}
use Rattle.base.specs.Ledger.{owner, home, left_of}
use Rattle.base.specs.Manifest.{ManifestRows, RegionRow, region_at, granted_in}
use Rattle.base.specs.Runs.{valued, with_next, maximal_runs, end_of_all}
use Rattle.base.specs.Transactions.{Gift, Donation, is_same_gift}
use Rattle.spans.specs.Spans.{Span, value_at}

-- access to normal memory
abbrev pub normal : Rights → Bool → Access
normal rights exec = record { rights = rights; exec = exec; kind = Normal }

-- access to device memory
abbrev pub device : Rights → Access
device rights = record { rights = rights; exec = false; kind = Device }

-- the access that a code spells
abbrev pub access_of : ℕ → Access
access_of code =
    if code == 0 then normal Ro false
    else if code == 1 then normal Ro true
    else if code == 2 then normal Rw false
    else if code == 3 then normal Rw true
    else if code == 4 then device Ro
    else device Rw

-- what a number spells: the taker in bits 18:3, the code of the access in bits 2:0
abbrev pub gift_of : ℕ → Gift
gift_of number = record { taker = number / 8 % 2 ^ 16; access = access_of (number % 8) }

-- the taker of the gift, else the owner of the region
abbrev pub owner_by : Option Gift → Option RegionRow → Option ℕ
owner_by gift region = option_map_or (λ g. Some g.taker) gift (option_map (λ r. r.owner) region)

-- the access of the gift, else what the region grants to its owner
abbrev pub home_by : Option Gift → Option RegionRow → View
home_by gift region =
    option_map_or (λ g. Some g.access) gift (option_and_then (λ r. granted_in r r.owner) region)

-- the gift, else the region of the page, says who owns the page and what it is to its owner
pub record Says (m : ManifestRows) (donations : List Donation) (n : ℕ) (gift : Option Gift) : Type 0 where
  pub owner : owner m donations n ≡ owner_by gift (region_at m n)
  pub home : home m donations n ≡ home_by gift (region_at m n)

-- what the number of a page says that the manifest does not
abbrev pub left_by : ManifestRows → Option ℕ → ℕ → Option Gift
left_by m number n = option_and_then (λ k. left_of m (gift_of k) n) number

-- the same of each page, by the intervals of numbers
abbrev pub left_at : ManifestRows → List Span → ℕ → Option Gift
left_at m given n = left_by m (value_at given n) n

-- what donations have left, as maximal runs, upward
unfoldable pub left : ManifestRows → List Span → List Donation
left m given = maximal_runs is_same_gift (left_at m given) (end_of_all (map (λ s. s.run) given))

-- these runs and the pages from one up to another, where something is left of them
abbrev pub with_left : List Donation → ℕ → ℕ → Option Gift → List Donation
with_left ds first end gift =
    option_map_or (λ g. with_next is_same_gift ds (valued first (end - first) g)) gift ds
