-- The views of a reached state.
use Rattle.std.proofs.Common.{◌≡◌, ℕ, ◌≤◌, List, sym, ap, subst, ◌∙◌}
use Rattle.base.specs.Access.{View}
use Rattle.base.specs.Ledger.{view}
use Rattle.base.specs.Manifest.{ManifestRows}
use Rattle.base.specs.Need.{need}
use Rattle.base.specs.Transactions.{Donation, Live}
use Rattle.manifest.specs.Valid.{quota_of}
use Rattle.rules.specs.Laws.OneOwner.{AreAllApart}
use Rattle.rules.proofs.Laws.OneOwner.{owned_once}
use Rattle.audit.specs.Laws.{AreOfReached}
use Rattle.audit.proofs.Quotas.{within_quotas}

module _ (m : ManifestRows) (ds : List Donation) (live : List Live) (r : AreOfReached m ds live) where
  pub views-fit : (p : ℕ) → need (view m ds live p) ≤ quota_of m p
  views-fit p =
      let fits = (within_quotas r.state r.reached).fits p in
      let of_m = subst (λ (x : ManifestRows). need (view x r.state.donations r.state.live p) ≤ quota_of x p) r.of_manifest fits in
      let of_ds = subst (λ (x : List Donation). need (view m x r.state.live p) ≤ quota_of m p) r.of_donations of_m in
      subst (λ (x : List Live). need (view m ds x p) ≤ quota_of m p) r.of_live of_ds

  -- no two of its live transactions share a page
  pub all-apart : AreAllApart live
  all-apart = subst AreAllApart r.of_live (owned_once r.state r.reached).apart

-- the same lists give the same views
pub same-views : (m n : ManifestRows) (ds es : List Donation) (live others : List Live) → m ≡ n → ds ≡ es → live ≡ others → view m ds live ≡ view n es others
same-views m n ds es live others same_rows same_donations same_live =
    ap (λ (x : ManifestRows). view x ds live) same_rows ∙ (ap (λ (x : List Donation). view n x live) same_donations ∙ ap (λ (x : List Live). view n es x) same_live)
