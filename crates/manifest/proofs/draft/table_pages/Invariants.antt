use Rattle.std.proofs.Common.{◌≡◌, ◌+◌, ◌*◌, ◌^◌, ◌≤◌, drop}
use Rattle.base.specs.Manifest as rows
use Rattle.manifest.proofs.draft.table_pages.Given as goal

-- the pages so far and those of the rows that are left are all pages
abbrev pub invariant-loop-row : goal.invariant-loop-row
invariant-loop-row l = record {
  sum : l.pages + rows.page_count (rows.quotas_of (drop l.row-index l.partitions)) ≡ rows.page_count (rows.quotas_of l.partitions);
  in_range : l.pages ≤ l.row-index * 2 ^ 33;
}
