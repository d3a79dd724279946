-- The rule of each call, what the call is answered, the state after it, and runs of calls.
use Rattle.std.specs.Prelude.{◌≡◌, ℕ, Bool, false, List, [], ◌∷◌, Option, IsTrue, if◌then◌else◌}
use Rattle.std.specs.List.{AllByRecursion}
use Rattle.std.specs.Option.{option_map_or}
use Rattle.base.specs.declared.status.Status.{Status}
use Rattle.base.specs.declared.status.Status.TheVariants.{NotSupported, Denied}
use Rattle.base.specs.Manifest.{is_partition}
use Rattle.base.specs.Refusals.{first_refusal}
use Rattle.base.specs.State.{State, start}
use Rattle.manifest.specs.Valid.{is_valid}
use Rattle.wire.specs.declared.request.Request.{Request}
use Rattle.wire.specs.declared.request.Request.TheVariants.{Version, Features, RxRelease, RxtxMap, RxtxUnmap, IdGet, Send, Retrieve, Relinquish, Reclaim}
use Rattle.wire.specs.Requests.{request_of}
use Rattle.wire.specs.Replies.{ReplyWords}
use Rattle.rules.specs.Call.{CallWords, IsCall}
use Rattle.rules.specs.Rule.{Rule, clears_page, refused, all_tests, reply_of, next_of}
use Rattle.rules.specs.Calls.Version.{version_rule}
use Rattle.rules.specs.Calls.Features.{features_rule}
use Rattle.rules.specs.Calls.IdGet.{id_get_rule}
use Rattle.rules.specs.Calls.Buffers.{map_rule, unmap_rule, release_rule}
use Rattle.rules.specs.Calls.Send.{send_rule}
use Rattle.rules.specs.Calls.Retrieve.{retrieve_rule}
use Rattle.rules.specs.Calls.Relinquish.{relinquish_rule}
use Rattle.rules.specs.Calls.Reclaim.{reclaim_rule}

-- ---- one call

-- the rule of what a partition asks for
abbrev pub rule_of : State → CallWords → Request → Rule
rule_of s c (Version word) = version_rule s c word
rule_of s c (Features identifier) = features_rule s identifier
rule_of s c RxRelease = release_rule s c
rule_of s c (RxtxMap tx rx count) = map_rule s c tx rx count
rule_of s c (RxtxUnmap word) = unmap_rule s c word
rule_of s c IdGet = id_get_rule s c
rule_of s c (Send kind transfer) = send_rule s c kind transfer
rule_of s c (Retrieve transfer) = retrieve_rule s c transfer
rule_of s c Relinquish = relinquish_rule s c
rule_of s c (Reclaim handle flags) = reclaim_rule s c handle flags

-- the rule of any call: a caller without a row is refused first, and then an identifier that names no call
unfoldable pub rule : State → CallWords → Rule
rule s c =
    if is_partition s.manifest c.caller
    then option_map_or (rule_of s c) (request_of c.regs) (refused NotSupported s)
    else refused Denied s

-- the status that a call is refused with
unfoldable pub refusal : State → CallWords → Option Status
refusal s c = first_refusal (all_tests s (rule s c))

-- the reply to a call
unfoldable pub answer : State → CallWords → ReplyWords
answer s c = reply_of s (rule s c)

-- the pages that a call clears; a refused call clears none
unfoldable pub clears : State → CallWords → ℕ → Bool
clears s c n = option_map_or (λ status. false) (refusal s c) (clears_page (rule s c).edit n)

-- the state after a call
unfoldable pub step : State → CallWords → State
step s c = next_of s (rule s c)

-- ---- runs

abbrev pub replies_from : State → List CallWords → List ReplyWords
replies_from s [] = []
replies_from s (c ∷ cs) = answer s c ∷ replies_from (step s c) cs

abbrev pub state_from : State → List CallWords → State
state_from s [] = s
state_from s (c ∷ cs) = state_from (step s c) cs

-- some list of calls leads to the state, from the rows of a valid manifest on
pub record IsReached (s : State) : Type 0 where
  pub valid : IsTrue (is_valid s.manifest)
  pub calls : List CallWords
  pub are_calls : AllByRecursion IsCall calls
  pub leads : state_from (start s.manifest) calls ≡ s
