-- The parts of a send's descriptor lie inside the bytes, and are no more than a send has.
use Rattle.std.specs.Prelude.{ℕ, ◌+◌, ◌*◌, ◌≤◌, List, length}
use Rattle.base.specs.declared.partition.Version.{Version}
use Rattle.base.specs.Descriptors.Send.{header_size, array_at, receiver_count, composite_at, range_count}

pub record IsInside (version : Version) (bytes : List ℕ) : Type 0 where
  pub header : header_size version ≤ length bytes
  pub some : 1 ≤ receiver_count bytes
  pub few_receivers : receiver_count bytes ≤ 8
  pub few_ranges : range_count version bytes ≤ 512
  pub accesses : array_at version bytes + 16 * receiver_count bytes ≤ length bytes
  pub ranges : composite_at version bytes + 16 + 16 * range_count version bytes ≤ length bytes

-- The same of a retrieve request's header and its access descriptor.
pub record IsRetrieveInside (version : Version) (bytes : List ℕ) : Type 0 where
  pub header : header_size version ≤ length bytes
  pub access : array_at version bytes + 16 ≤ length bytes
