-- What RX is filled with is not longer than the RX buffer of the caller.
use Rattle.std.proofs.Common.{◌≡◌, ℕ, ◌+◌, ◌*◌, ◌≤◌, Bool, true, false, cond, List, [], ◌∷◌, length, Option, Some, None, refl, sym, ap, ◌∙◌, arith}
use Rattle.std.specs.Option.{option_map_or}
use Rattle.std.proofs.lemmas.Bool.{leb-true}
use Rattle.base.specs.declared.partition.Version.{Version}
use Rattle.base.specs.declared.partition.Version.TheVariants.{V10, V11}
use Rattle.base.specs.declared.status.Status.{Status}
use Rattle.base.specs.declared.status.Status.TheVariants.{NotSupported, Denied, NoMemory}
use Rattle.base.specs.Descriptors.Encoding.{runs_text, response_text}
use Rattle.base.specs.Descriptors.Response.{Response}
use Rattle.base.specs.Descriptors.Send.{header_size}
use Rattle.base.specs.Manifest.{is_partition}
use Rattle.base.specs.Pages.{PageRun}
use Rattle.base.specs.Refusals.{first_refusal}
use Rattle.base.specs.State.{State, version_of}
use Rattle.base.specs.Transactions.{Live}
use Rattle.wire.specs.declared.request.Request.{Request}
use Rattle.wire.specs.declared.request.Request.TheVariants.{Version as VersionOf, Features, RxRelease, RxtxMap, RxtxUnmap, IdGet, Send, Retrieve, Relinquish, Reclaim}
use Rattle.wire.specs.declared.request.Transfer.{Transfer}
use Rattle.wire.specs.Replies.{ReplyWords, error}
use Rattle.wire.specs.Requests.{request_of}
use Rattle.rules.specs.Call.{CallWords}
use Rattle.rules.specs.Calls.Retrieve.{asked, fits_rx, response_length, rx_size, request_tests, transaction_tests, retrieve_tests, responding, retrieve_rule}
use Rattle.rules.specs.Receivers.{received_with}
use Rattle.rules.specs.Rule.{refused, fits, all_tests, reply_of}
use Rattle.rules.specs.Run.{rule_of, rule, answer}
use Rattle.rules.proofs.Calls.Retrieve.{RetrievePasses, retrieve_passes}
use Rattle.rules.proofs.Passing.{all_pass, before_last, first_pass, second_decides}
use Rattle.ffaspm_c.specs.Answers.{rx_bytes}

-- ---- the length of a response

length-runs : (runs : List PageRun) → length (runs_text runs) ≡ 16 * length runs
length-runs [] = refl
length-runs (run ∷ runs) =
    let rest = length-runs runs in
    omega (arith, rest)

length-response : (version : Version) (r : Response) → length (response_text version r) ≡ header_size version + 32 + 16 * length r.ranges
unfolding response_text
length-response V10 r =
    let runs = length-runs r.ranges in
    omega (arith, runs)
length-response V11 r =
    let runs = length-runs r.ranges in
    omega (arith, runs)

-- ---- a retrieve that passes its tests

last_passes : (s : State) (c : CallWords) (x : Transfer) (k : RetrievePasses s c x) → first_refusal (retrieve_tests s c x) ≡ None → fits_rx s c.caller k.transaction ≡ true
last_passes s c x k e =
    let v = asked s c x in
    let tests = transaction_tests s c.caller v in
    let of_transaction = option_map_or tests (received_with s c.caller v.handle) [] in
    let first = first_pass (request_tests s c x) of_transaction e in
    let none : first_refusal (tests k.transaction) ≡ None =
    ap (λ (o : Option Live). first_refusal (option_map_or tests o [])) (sym k.found) ∙ sym (second_decides (request_tests s c x) of_transaction first) ∙ e in
    (all_pass (tests k.transaction) none).1.1.1.1.0

retrieved : (s : State) (c : CallWords) (x : Transfer) → first_refusal (retrieve_tests s c x) ≡ None → length (rx_bytes (retrieve_rule s c x).reply) ≤ rx_size s c.caller
unfolding fits_rx
retrieved s c x e =
    let k = retrieve_passes s c x e in
    let t = k.transaction in
    let version = version_of s.partitions c.caller in
    let reply = responding version c.caller (record { transaction = t; access = k.access }) in
    let is : (retrieve_rule s c x).reply ≡ reply = rw k.named refl in
    let room : response_length version t ≤ rx_size s c.caller = leb-true (response_length version t) (rx_size s c.caller) (last_passes s c x k e) in
    let long : length (rx_bytes reply) ≡ response_length version t = length-response version _ in
    let all = ap (λ (r : ReplyWords). length (rx_bytes r)) is in
    omega (arith, all, long, room)

-- ---- any call

-- a refusal fills nothing
of_reply : (refusal : Option Status) (reply : ReplyWords) (room : ℕ) → (refusal ≡ None → length (rx_bytes reply) ≤ room) → length (rx_bytes (option_map_or error refusal reply)) ≤ room
of_reply None reply room h = h refl
of_reply (Some status) reply room h = omega arith

module _ (s : State) (c : CallWords) where
  of_request : (r : Request) → first_refusal (all_tests s (rule_of s c r)) ≡ None → length (rx_bytes (rule_of s c r).reply) ≤ rx_size s c.caller
  of_request (VersionOf word) e = omega arith
  of_request (Features identifier) e = omega arith
  of_request RxRelease e = omega arith
  of_request (RxtxMap tx rx count) e = omega arith
  of_request (RxtxUnmap word) e = omega arith
  of_request IdGet e = omega arith
  of_request (Send kind transfer) e = omega arith
  of_request (Retrieve x) e =
      retrieved s c x (before_last (retrieve_tests s c x) (fits s (retrieve_rule s c x).edit) NoMemory e).0
  of_request Relinquish e = omega arith
  of_request (Reclaim handle flags) e = omega arith

  of_rule : (known : Bool) (o : Option Request) → length (rx_bytes (reply_of s (cond known (option_map_or (rule_of s c) o (refused NotSupported s)) (refused Denied s)))) ≤ rx_size s c.caller
  of_rule true (Some r) = of_reply _ (rule_of s c r).reply (rx_size s c.caller) (of_request r)
  of_rule true None = omega arith
  of_rule false o = omega arith

pub fits_in_rx : (s : State) (c : CallWords) → length (rx_bytes (answer s c)) ≤ rx_size s c.caller
unfolding answer rule
fits_in_rx s c = of_rule s c (is_partition s.manifest c.caller) (request_of c.regs)
