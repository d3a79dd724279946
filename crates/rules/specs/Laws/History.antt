-- Who owns a page, and what it is to its owner, by all donations that a run of calls completes.
use Rattle.std.specs.Prelude.{◌≡◌, ℕ, List, [], ◌∷◌, Option, Some, None, if◌then◌else◌}
use Rattle.std.specs.Option.{option_map, option_map_or, option_and_then}
use Rattle.base.specs.declared.transaction.Kind.{Kind}
use Rattle.base.specs.declared.transaction.Kind.TheVariants.{Share, Lend, Donate}
use Rattle.base.specs.Manifest.{ManifestRows, region_at, granted_in}
use Rattle.base.specs.Pages.{PageRun, covers}
use Rattle.base.specs.State.{State, start, owner_of, home_of}
use Rattle.base.specs.Transactions.{Gift, gift}
use Rattle.wire.specs.declared.request.Request.{Request}
use Rattle.wire.specs.declared.request.Request.TheVariants.{Version, Features, RxRelease, RxtxMap, RxtxUnmap, IdGet, Send, Retrieve, Relinquish, Reclaim}
use Rattle.wire.specs.Requests.{request_of}
use Rattle.rules.specs.Call.{CallWords}
use Rattle.rules.specs.Calls.Retrieve.{Retrieval, retrieval_of}
use Rattle.rules.specs.Run.{refusal, step, state_from}

-- a donation that was completed
pub record Completed : Type 0 where
  pub ranges : List PageRun
  pub gift : Gift

abbrev pub completed_as : Kind → ℕ → Retrieval → Option Completed
completed_as Share p k = None
completed_as Lend p k = None
completed_as Donate p k = Some (record { ranges = k.transaction.ranges; gift = gift p k.access })

-- the donation that a retrieval completes, if it is one of a donation
abbrev pub completed_with : ℕ → Retrieval → Option Completed
completed_with p k = completed_as k.transaction.kind p k

-- the donation that a request completes that passes its tests
abbrev pub completed_by : State → CallWords → Request → Option Completed
completed_by s c (Version word) = None
completed_by s c (Features identifier) = None
completed_by s c RxRelease = None
completed_by s c (RxtxMap tx rx count) = None
completed_by s c (RxtxUnmap word) = None
completed_by s c IdGet = None
completed_by s c (Send kind transfer) = None
completed_by s c (Retrieve transfer) =
    option_and_then (completed_with c.caller) (retrieval_of s c transfer)
completed_by s c Relinquish = None
completed_by s c (Reclaim handle flags) = None

-- the donation that a call completes; a refused call completes none
unfoldable pub completed : State → CallWords → Option Completed
completed s c =
    option_map_or (λ status. None) (refusal s c)
    (option_and_then (completed_by s c) (request_of c.regs))

-- the donations that a run completes, in order
abbrev pub completed_from : State → List CallWords → List Completed
completed_from s [] = []
completed_from s (c ∷ cs) =
    option_map_or (λ d. d ∷ completed_from (step s c) cs) (completed s c)
    (completed_from (step s c) cs)

-- what the last of the donations that cover a page gives
abbrev pub last_given : List Completed → ℕ → Option Gift
last_given [] n = None
last_given (d ∷ ds) n =
    option_map_or Some (last_given ds n) (if covers d.ranges n then Some d.gift else None)

-- each page has the owner that the last donation of the run gave it, and is to it what that donation gave, else as the manifest has it
pub record IsOwnedAsGiven (m : ManifestRows) (calls : List CallWords) (n : ℕ) : Type 0 where
  pub owner : owner_of (state_from (start m) calls) n
      ≡ option_map_or (λ g. Some g.taker) (last_given (completed_from (start m) calls) n)
      (option_map (λ r. r.owner) (region_at m n))
  pub home : home_of (state_from (start m) calls) n
      ≡ option_map_or (λ g. Some g.access) (last_given (completed_from (start m) calls) n)
      (option_and_then (λ r. granted_in r r.owner) (region_at m n))
