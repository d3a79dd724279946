-- The state that calls change, and what each partition reaches in it.
use Rattle.std.specs.Prelude.{ℕ, ◌+◌, zero, suc, Bool, true, ◌&&◌, ◌==◌, not, List, [], ◌∷◌, map, Option, Some, None, if◌then◌else◌}
use Rattle.std.specs.List.{find}
use Rattle.std.specs.Option.{option_map_or, option_and_then}
use Rattle.base.specs.declared.partition.Version.{Version}
use Rattle.base.specs.declared.partition.Version.TheVariants.{V11}
use Rattle.base.specs.Pages.{PageRun}
use Rattle.base.specs.Access.{Access, View, is_reached_with}
use Rattle.base.specs.Manifest.{ManifestRows, PartitionRow}
use Rattle.base.specs.Buffers.{Mailbox, first_mailbox, is_buffer}
use Rattle.base.specs.Transactions.{Live, Donation}
use Rattle.base.specs.Ledger.{view, owner, home, is_owner, is_idle}

-- what is kept for a partition beside its buffers: its version of FF-A, and how many of its sends were accepted
pub record PartitionState : Type 0 where
  pub partition : ℕ
  pub version : Version
  pub sends : ℕ

-- what donations have left stands upward, as maximal runs: the pages whose owner, or what they are to it, is not as the manifest has it
pub record State : Type 0 where
  pub manifest : ManifestRows
  pub donations : List Donation
  pub live : List Live
  pub mailboxes : List Mailbox
  pub partitions : List PartitionState

abbrev pub first_state : PartitionRow → PartitionState
first_state row = record { partition = row.id; version = V11; sends = 0 }

-- before any call: nothing is shared, no buffers are registered, and each partition speaks FF-A 1.1
abbrev pub start : ManifestRows → State
start m = record {
  manifest = m;
  donations = [];
  live = [];
  mailboxes = map first_mailbox m.partitions;
  partitions = map first_state m.partitions;
}

abbrev pub state_of : List PartitionState → ℕ → Option PartitionState
state_of partitions p = find (λ s. s.partition == p) partitions

abbrev pub version_of : List PartitionState → ℕ → Version
version_of partitions p = option_map_or (λ s. s.version) (state_of partitions p) V11

abbrev pub sends_of : List PartitionState → ℕ → ℕ
sends_of partitions p = option_map_or (λ s. s.sends) (state_of partitions p) 0

-- these with the state of one partition changed
abbrev pub with_partition : ℕ → (PartitionState → PartitionState) → List PartitionState
    → List PartitionState
with_partition p change [] = []
with_partition p change (s ∷ partitions) =
    if s.partition == p then change s ∷ partitions else s ∷ with_partition p change partitions

-- what a partition reaches of a page
abbrev pub sees : State → ℕ → ℕ → View
sees s p n = view s.manifest s.donations s.live p n

abbrev pub owner_of : State → ℕ → Option ℕ
owner_of s n = owner s.manifest s.donations n

abbrev pub home_of : State → ℕ → View
home_of s n = home s.manifest s.donations n

abbrev pub owns : State → ℕ → ℕ → Bool
owns s p n = is_owner s.manifest s.donations p n

-- the page is free for the partition
unfoldable pub is_free : State → ℕ → ℕ → Bool
is_free s p n = is_idle s.manifest s.donations s.live p n && not (is_buffer s.mailboxes n)

-- the home of a page that is free for the partition
unfoldable pub free_home : State → ℕ → ℕ → View
free_home s p n = if is_free s p n then home_of s n else None

-- the page is free for the partition, and this is its home
unfoldable pub is_free_with : State → ℕ → Access → ℕ → Bool
is_free_with s p home n = is_reached_with home (free_home s p n)

-- it holds of each of the count pages from first on
abbrev pub each_page : (ℕ → Bool) → ℕ → ℕ → Bool
each_page holds first zero = true
each_page holds first (suc count) = holds first && each_page holds (first + 1) count

-- it holds of each page of the runs
abbrev pub each_page_in : (ℕ → Bool) → List PageRun → Bool
each_page_in holds [] = true
each_page_in holds (run ∷ runs) = each_page holds run.first run.count && each_page_in holds runs

-- the home of the first page, where each page is free for the partition and has that home
unfoldable pub common_home : State → ℕ → List PageRun → View
common_home s p [] = None
common_home s p (run ∷ runs) =
    option_and_then
    (λ home. if each_page_in (is_free_with s p home) (run ∷ runs) then Some home else None)
    (free_home s p run.first)
