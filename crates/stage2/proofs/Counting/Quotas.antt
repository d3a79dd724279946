-- Quotas of partitions, and views that need no tables.
use Rattle.stage2.proofs.Names.{nat_tests, common_steps, option_map_or, View, PartitionRow, ManifestRows, ids_of, row_of, is_reached, need, quota_of, cases_Bool, cases_lt}
use Rattle.std.proofs.Common.{◌≡◌, ℕ, suc, ◌+◌, ◌*◌, ◌/◌, ◌%◌, ◌^◌, ◌<◌, ◌≤◌, true, false, not, cond, eqb, List, [], ◌∷◌, Some, None, IsTrue, length, get_or, find, refl, sym, ap, ◌∙◌, arith, inl, inr}
use Rattle.base.specs.Manifest.{quotas_of, grant}
use Rattle.manifest.specs.Valid.{is_valid}
use Rattle.manifest.proofs.Facts.{facts, fits_of, stranger}
use Rattle.pool.proofs.Count.{count_below-none, count_below-some}
use Rattle.stage2.proofs.Counting.Needs.{mixed-none, reached-none}
use Rattle.stage2.proofs.Editing.Gigabyte.{not-reached}

-- the quota of a partition's row; 0 where it has none
pub quota_at : (rows : List PartitionRow) (p : ℕ) → get_or (quotas_of rows) (row_of (ids_of rows) p) 0 ≡ option_map_or (λ (row : PartitionRow). row.quota) (find (λ row. eqb row.id p) rows) 0
quota_at [] p = refl
quota_at (row ∷ rows) p = grind (arith, common_steps, nat_tests, quota_at rows p)

pub no_quota : (rows : List PartitionRow) (p : ℕ) → length (ids_of rows) ≤ row_of (ids_of rows) p → option_map_or (λ (row : PartitionRow). row.quota) (find (λ row. eqb row.id p) rows) 0 ≡ 0
no_quota [] p le = refl
no_quota (row ∷ rows) p le =
    elim (eqb row.id p) as (λ b. suc (length (ids_of rows)) ≤ cond (not b) (1 + row_of (ids_of rows) p) 0 → option_map_or (λ (r : PartitionRow). r.quota) (cond b (Some row) (find (λ r. eqb r.id p) rows)) 0 ≡ 0) [
      | true ↦ λ h. absurd (omega arith)
      | false ↦ λ h. no_quota rows p (omega arith)
    ] le

-- views that reach nothing need no tables, and the other way round
pub need-none : (v : ℕ → View) → ((n : ℕ) → v n ≡ None) → need v ≡ 0
unfolding need
need-none v none = grind (arith, common_steps, nat_tests, count_below-none, mixed-none, reached-none)

pub none-needed : (v : ℕ → View) → need v ≤ 0 → (n : ℕ) → n < 2 ^ 27 → v n ≡ None
unfolding need
none-needed v le n small = elim (cases_Bool (is_reached v (n / 262144))) [
  | inl t ↦
      absurd (omega (arith, count_below-some (is_reached v) 512 (n / 262144) (omega (arith, small)) t, le))
  | inr f ↦
      let place : 262144 * (n / 262144) + n % 262144 ≡ n = omega arith in
      ap v (sym place) ∙ not-reached v (n / 262144) (n % 262144) f (omega arith)
]

-- what a manifest grants fits each quota
pub grants-fit : (m : ManifestRows) → IsTrue (is_valid m) → (p : ℕ) → need (grant m p) ≤ quota_of m p
grants-fit m valid p = grind (arith, common_steps, nat_tests, cases_lt, quota_at, fits_of, facts, need-none, stranger)
