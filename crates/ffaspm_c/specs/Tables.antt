-- What the exports tell of the translation tables.
use Rattle.std.specs.Prelude.{◌≡◌, ℕ, ◌*◌, ◌<◌, List, length, slice_get, Some}
use Rattle.base.specs.Manifest.{ManifestRows, ids_of, quotas_of, row_of, page_count}
use Rattle.pool.specs.declared.operation.Op.{Op}
use Rattle.pool.specs.declared.operation.Op.TheVariants.{Set, Invalidate, Clear}
use Rattle.ffaspm_c.specs.declared.tables.OperationOut.{OperationOut}

-- how many pages the table pool has
abbrev pub pool_pages : ManifestRows → ℕ
pool_pages m = page_count (quotas_of m.partitions)

-- an operation as numbers: kind 0 is a write, 1 an invalidation, 2 a clear
abbrev pub operation_out : Op → OperationOut
operation_out (Set page index word) = record {
  address = 0;
  word = word;
  kind = 0;
  page = page;
  index = index;
  count = 0;
  partition = 0;
}
operation_out (Invalidate who run) = record {
  address = 4096 * run.first;
  word = 0;
  kind = 1;
  page = 0;
  index = 0;
  count = run.count;
  partition = who;
}
operation_out (Clear run) = record {
  address = 4096 * run.first;
  word = 0;
  kind = 2;
  page = 0;
  index = 0;
  count = run.count;
  partition = 0;
}

-- these numbers are the operation at the index
pub record IsOperationAt (operations : List Op) (index : ℕ) (out : OperationOut) : Type 0 where
  pub operation : Op
  pub at : slice_get operations index ≡ Some operation
  pub is : out ≡ operation_out operation

-- the page of the pool is that of the partition's root
pub record IsRoot (m : ManifestRows) (p page : ℕ) : Type 0 where
  pub row : page ≡ row_of (ids_of m.partitions) p
  pub there : page < length m.partitions
