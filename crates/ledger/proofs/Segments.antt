-- What a segment tells of its pages.
use Rattle.std.proofs.Common.{◌≡◌, ℕ, Bool, cond, List, None, refl}
use Rattle.base.specs.Manifest.{ManifestRows}
use Rattle.base.specs.Transactions.{Live, Donation}
use Rattle.ledger.specs.declared.free.Standing.{Standing}
use Rattle.ledger.specs.Free.{IsAlike, idle_home, is_idle_for}

pub idle_home-as : (m : ManifestRows) (ds : List Donation) (live : List Live) (s : Standing) (p n : ℕ) (idle : Bool) → IsAlike m ds live s n → is_idle_for s p ≡ idle → idle_home m ds live p n ≡ cond idle s.home None
idle_home-as m ds live s p n idle alike is = rw (← is, alike.same_owner, alike.same_home, alike.same_live, alike.same_sharable) refl
