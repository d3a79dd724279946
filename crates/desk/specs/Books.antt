-- What a book holds.
use Rattle.std.specs.Prelude.{◌≡◌, ◌<◌, List}
use Rattle.std.specs.List.{AllByRecursion}
use Rattle.base.specs.Manifest.{ManifestRows}
use Rattle.base.specs.State.{start}
use Rattle.rules.specs.Run.{state_from}
use Rattle.spm.specs.Machine.{Machine}
use Rattle.desk.specs.declared.entry.Entry.{Entry}
use Rattle.desk.specs.Receipts.{calls_of}

-- the calls that were answered, each with its seat, and the manager after them
pub record BookView : Type 0 where
  pub calls : List Entry
  pub machine : Machine

-- the manifest that the manager was booted from
abbrev pub manifest_of : BookView → ManifestRows
manifest_of b = b.machine.state.manifest

-- the state is that of the run of the manifest over the calls, and the seats are numbered below 8
pub record IsRun (b : BookView) : Type 0 where
  pub ran : b.machine.state ≡ state_from (start (manifest_of b)) (calls_of b.calls)
  pub seated : AllByRecursion (λ e. e.seat < 8) b.calls
