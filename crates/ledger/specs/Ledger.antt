-- What is shared, as the ledger keeps it.
use Rattle.std.specs.Prelude.{◌≡◌, ℕ, ◌≤◌, ◌<◌, ◌==◌, List, Option, length, get_or}
use Rattle.std.specs.List.{find}
use Rattle.base.specs.Manifest.{ManifestRows}
use Rattle.base.specs.Handles.{high_half}
use Rattle.base.specs.Transactions.{Live, Donation}

-- the manifest, what donations have left, and the live transactions in ascending order of their handles
pub record LedgerView : Type 0 where
  pub manifest : ManifestRows
  pub donations : List Donation
  pub live : List Live

-- the live transaction of a handle
abbrev pub found : List Live → ℕ → Option Live
found live h = find (λ t. t.handle == h) live

-- so many of them have lower handles than this, and those stand before the others
pub record IsPoint (h : ℕ) (live : List Live) (i : ℕ) : Type 0 where
  pub most : i ≤ length live
  pub lower : (k : ℕ) (d : Live) → k < i → (get_or live k d).handle < h
  pub others : (k : ℕ) (d : Live) → i ≤ k → k < length live → h ≤ (get_or live k d).handle

-- its handle has its sender in the high half
abbrev pub NamesItsSender : Live → Type 0
NamesItsSender t = high_half t.handle ≡ t.sender
