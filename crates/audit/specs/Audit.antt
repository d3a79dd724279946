-- What an audit says of tables and a ledger.
use Rattle.std.specs.Prelude.{◌≡◌, ℕ, Bool, true, false, ◌⊎◌, List, codes}
use Rattle.base.specs.Ledger.{view}
use Rattle.base.specs.Manifest.{ManifestRows, is_partition}
use Rattle.base.specs.Transactions.{Donation, Live}
use Rattle.stage2.specs.Tables.{TablesView, view_of}
use Rattle.stage2.specs.Listing.{entries}

-- the tables of each partition have the entries that its views by these lists give
pub record HaveEntriesOf (m : ManifestRows) (ds : List Donation) (live : List Live) (t : TablesView) : Type 0 where
  pub same : (p : ℕ) → is_partition m p ≡ true
      → entries (view_of t p) ≡ entries (view m ds live p)

-- the tables of each partition have the same entries in both
pub record HaveSameEntries (m : ManifestRows) (t u : TablesView) : Type 0 where
  pub same : (p : ℕ) → is_partition m p ≡ true → entries (view_of t p) ≡ entries (view_of u p)

-- the answer tells whether the fact holds
abbrev pub Tells : Bool → Type 0 → Type 0
Tells answer fact = ((answer ≡ true) × fact) ⊎ ((answer ≡ false) × (fact → ⊥))

-- the line `equal` where the fact holds, and else the line `differs`
abbrev pub IsAuditText : List ℕ → Type 0 → Type 0
IsAuditText text fact =
    ((text ≡ codes "equal\n") × fact) ⊎ ((text ≡ codes "differs\n") × (fact → ⊥))
