-- How what is shared, and what donations have left, change (FF-A 1.1, "Memory management").
use Rattle.std.specs.Prelude.{ℕ, List, Option, Some, None}
use Rattle.base.specs.declared.transaction.Kind.{Kind}
use Rattle.base.specs.declared.transaction.Kind.TheVariants.{Share, Lend, Donate}
use Rattle.base.specs.Access.{Access}
use Rattle.base.specs.Ledger.{with_donation_of}
use Rattle.base.specs.Manifest.{ManifestRows}
use Rattle.base.specs.Transactions.{Live, Donation}
pub use Rattle.base.specs.Transactions.{with_live, without, with_retrieved, with_retrieval, with_retrieval_of, gift}

abbrev pub donations_after_kind : ManifestRows → ℕ → Access → Live → Kind → List Donation → List Donation
donations_after_kind m p access t Share ds = ds
donations_after_kind m p access t Lend ds = ds
donations_after_kind m p access t Donate ds = with_donation_of m t.ranges (gift p access) ds

-- what donations have left after a retrieval of this transaction
abbrev pub donations_after : ManifestRows → ℕ → Access → Option Live → List Donation → List Donation
donations_after m p access None ds = ds
donations_after m p access (Some t) ds = donations_after_kind m p access t t.kind ds

abbrev pub live_after_kind : ℕ → ℕ → Access → Kind → List Live → List Live
live_after_kind h p access Share live = with_retrieval_of h p (Some access) live
live_after_kind h p access Lend live = with_retrieval_of h p (Some access) live
live_after_kind h p access Donate live = without h live

-- the live transactions after it: a donation ends, and of a share and a lend the receiver has the access
abbrev pub live_after : ℕ → ℕ → Access → Option Live → List Live → List Live
live_after h p access None live = live
live_after h p access (Some t) live = live_after_kind h p access t.kind live
