-- Pages that may be sent, buffers apart, and what decides that.
use Rattle.std.specs.Prelude.{◌≡◌, ℕ, Bool, false, ◌&&◌, ◌==◌, not, if◌then◌else◌, List, None, is_some}
use Rattle.std.specs.Option.{option_map_or}
use Rattle.base.specs.Access.{View}
use Rattle.base.specs.Manifest.{ManifestRows, is_sharable, region_at}
use Rattle.base.specs.Transactions.{Live, Donation}
use Rattle.base.specs.Ledger.{owner, home, is_idle, live_at}
use Rattle.ledger.specs.declared.free.Standing.{Standing}

-- the home of a page that is idle for the partition
abbrev pub idle_home : ManifestRows → List Donation → List Live → ℕ → ℕ → View
idle_home m ds live p n = if is_idle m ds live p n then home m ds n else None

-- the page has this owner and home, and is live or not, and sharable or not, as this says
pub record IsAlike (m : ManifestRows) (ds : List Donation) (live : List Live) (s : Standing) (n : ℕ) : Type 0 where
  pub same_owner : owner m ds n ≡ s.owner
  pub same_home : home m ds n ≡ s.home
  pub same_live : is_some (live_at live n) ≡ s.is_live
  pub same_sharable : option_map_or is_sharable (region_at m n) false ≡ s.is_sharable

-- pages of which this holds are idle for the partition
abbrev pub is_idle_for : Standing → ℕ → Bool
is_idle_for s p = option_map_or (λ o. o == p) s.owner false && s.is_sharable && not s.is_live
