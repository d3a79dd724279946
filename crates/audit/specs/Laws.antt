-- What reached states keep.
use Rattle.std.specs.Prelude.{◌≡◌, ℕ, ◌≤◌, List}
use Rattle.base.specs.Manifest.{ManifestRows}
use Rattle.base.specs.Need.{need}
use Rattle.base.specs.State.{State, sees}
use Rattle.base.specs.Transactions.{Donation, Live}
use Rattle.manifest.specs.Valid.{quota_of}
use Rattle.rules.specs.Run.{IsReached}

-- what each partition reaches needs no more tables than its quota; one that has no row reaches nothing, and has the quota 0
pub record AreWithinQuotas (s : State) : Type 0 where
  pub fits : (p : ℕ) → need (sees s p) ≤ quota_of s.manifest p

-- the manifest and the two lists are those of a state that some list of calls leads to
pub record AreOfReached (m : ManifestRows) (ds : List Donation) (live : List Live) : Type 0 where
  pub state : State
  pub reached : IsReached state
  pub of_manifest : state.manifest ≡ m
  pub of_donations : state.donations ≡ ds
  pub of_live : state.live ≡ live
