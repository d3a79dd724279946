-- Who writes a page.
use Rattle.std.specs.Prelude.{◌≡◌, ℕ, ◌⊎◌, Some, None}
use Rattle.base.specs.declared.access.Rights.TheVariants.{Rw}
use Rattle.base.specs.declared.transaction.Kind.TheVariants.{Share}
use Rattle.base.specs.Access.{View}
use Rattle.base.specs.Manifest.{grant}
use Rattle.base.specs.Transactions.{Live}
use Rattle.base.specs.Ledger.{live_at, donation_at, retrieved}
use Rattle.base.specs.State.{State, sees, home_of}

-- the page is reached, and may be written
abbrev pub IsReadWrite : View → Type 0
IsReadWrite None = ⊥
IsReadWrite (Some a) = a.rights ≡ Rw

-- the partition shares the page, whose home is read-write, or has retrieved it read-write
abbrev pub WritesBy : Live → View → ℕ → Type 0
WritesBy t home p =
    ((p ≡ t.sender) × (t.kind ≡ Share) × IsReadWrite home) ⊎ IsReadWrite (retrieved t.receivers p)

-- no live transaction and no donation covers the page, and the manifest grants it read-write to both
pub record MayBothWriteByGrants (s : State) (p q n : ℕ) : Type 0 where
  pub live : live_at s.live n ≡ None
  pub donation : donation_at s.donations n ≡ None
  pub first : IsReadWrite (grant s.manifest p n)
  pub second : IsReadWrite (grant s.manifest q n)

-- one live transaction covers the page, by which both write it
pub record MayBothWriteByTransaction (s : State) (p q n : ℕ) : Type 0 where
  pub transaction : Live
  pub live : live_at s.live n ≡ Some transaction
  pub first : WritesBy transaction (home_of s n) p
  pub second : WritesBy transaction (home_of s n) q

-- two partitions write a page only where the manifest or one live transaction lets both
pub record AreWritersAllowed (s : State) : Type 0 where
  pub allowed : (p q n : ℕ) → (p ≡ q → ⊥) → IsReadWrite (sees s p n) → IsReadWrite (sees s q n)
      → MayBothWriteByGrants s p q n ⊎ MayBothWriteByTransaction s p q n
