-- A property that boot has and each rule keeps holds in every state that calls reach.
use Rattle.std.proofs.Common.{◌≡◌, Bool, true, false, List, [], ◌∷◌, ◌++◌, Option, Some, None, cond, refl, ap, ◌∙◌, subst, sym}
use Rattle.std.specs.List.{AllByRecursion}
use Rattle.std.specs.Option.{option_map_or}
use Rattle.std.specs.Prelude.{IsTrue}
use Rattle.base.specs.declared.status.Status.{Status}
use Rattle.base.specs.declared.status.Status.TheVariants.{NotSupported, NoMemory, Denied}
use Rattle.base.specs.Manifest.{ManifestRows, is_partition}
use Rattle.base.specs.Refusals.{first_refusal}
use Rattle.base.specs.State.{State, start}
use Rattle.manifest.specs.Valid.{is_valid}
use Rattle.wire.specs.declared.request.Request.{Request}
use Rattle.wire.specs.Requests.{request_of}
use Rattle.rules.specs.Call.{CallWords, IsCall}
use Rattle.rules.specs.Rule.{Rule, refused, fits, all_tests, next_of}
use Rattle.rules.specs.Run.{rule_of, rule, step, state_from, IsReached}
use Rattle.rules.specs.Laws.EditsTheView.{Passes}
use Rattle.rules.proofs.Passing.{before_last, last_decides}
use Rattle.rules.proofs.Laws.ManifestStays.{manifest_stays}

-- ---- one step

granted_cases : (P : State → Type 0) (s : State) (r : Rule) → P s → (first_refusal r.tests ≡ None → fits s r.edit ≡ true → P r.next) → P (next_of s r)
granted_cases P s r same change =
    elim (first_refusal (all_tests s r)) as (λ o. first_refusal (all_tests s r) ≡ o → P (option_map_or (λ (status : Status). s) o r.next)) [
      | None ↦ λ e. let both = before_last r.tests (fits s r.edit) NoMemory e in change both.0 both.1
      | Some status ↦ λ e. same
    ] refl

cases : (P : State → Type 0) (s : State) (known : Bool) (o : Option Request) (rules : Request → Rule) → P s → ((r : Request) → known ≡ true → o ≡ Some r → first_refusal (rules r).tests ≡ None → fits s (rules r).edit ≡ true → P (rules r).next)
    → P (next_of s (cond known (option_map_or rules o (refused NotSupported s)) (refused Denied s)))
cases P s false o rules same change = same
cases P s true None rules same change = same
cases P s true (Some r) rules same change = granted_cases P s (rules r) same (change r refl refl)

-- a step either leaves the state or is that of a request that passes its tests
pub step_cases : (P : State → Type 0) (s : State) (c : CallWords) → P s → ((r : Request) → Passes s c r → P (rule_of s c r).next) → P (step s c)
unfolding step rule
step_cases P s c same change =
    cases P s (is_partition s.manifest c.caller) (request_of c.regs) (rule_of s c) same (λ r known named passed fit. change r (record { tests = record { known = known; named = named; passed = passed }; fits = fit }))

-- the rule of a known caller's request
pub rule_is : (s : State) (c : CallWords) (r : Request) → is_partition s.manifest c.caller ≡ true → request_of c.regs ≡ Some r → rule s c ≡ rule_of s c r
unfolding rule
rule_is s c r known named = rw (known, named) refl

-- the step of a request that passes its tests
pub step_is : (s : State) (c : CallWords) (r : Request) → Passes s c r → step s c ≡ (rule_of s c r).next
unfolding step
step_is s c r k =
    let e : first_refusal (all_tests s (rule_of s c r)) ≡ None = last_decides (rule_of s c r).tests (fits s (rule_of s c r).edit) NoMemory k.tests.passed ∙ ap (λ (b : Bool). cond b None (Some NoMemory)) k.fits in
    rw (rule_is s c r k.tests.known k.tests.named, e) refl

-- ---- runs

state_from-append : (s : State) (cs : List CallWords) (c : CallWords) → state_from s (cs ++ c ∷ []) ≡ step (state_from s cs) c
state_from-append s [] c = refl
state_from-append s (d ∷ cs) c = state_from-append (step s d) cs c

pub all_push : {X : Type 0} (P : X → Type 0) (xs : List X) (x : X) → AllByRecursion P xs → P x → AllByRecursion P (xs ++ x ∷ [])
all_push P [] x h p = (p, tt)
all_push P (y ∷ ys) x h p = (h.0, all_push P ys x h.1 p)

pub step_keeps : (s : State) (c : CallWords) → (step s c).manifest ≡ s.manifest
step_keeps s c = step_cases (λ t. t.manifest ≡ s.manifest) s c refl (λ r k. manifest_stays s c r)

pub IsReached-start : (m : ManifestRows) → IsTrue (is_valid m) → IsReached (start m)
IsReached-start m valid = record { valid = valid; calls = []; are_calls = tt; leads = refl }

pub IsReached-step : (s : State) (c : CallWords) → IsCall c → IsReached s → IsReached (step s c)
IsReached-step s c is r =
    let calls = r.calls ++ c ∷ [] in
    record {
      valid = subst (λ (m : ManifestRows). IsTrue (is_valid m)) (sym (step_keeps s c)) r.valid;
      calls = calls;
      are_calls = all_push IsCall r.calls c r.are_calls is;
      leads = ap (λ (m : ManifestRows). state_from (start m) calls) (step_keeps s c) ∙ state_from-append (start s.manifest) r.calls c ∙ ap (λ (t : State). step t c) r.leads;
    }

-- each request of a call that passes its tests keeps it
abbrev pub Keeps : (State → Type 0) → Type 0
Keeps P = (s : State) (c : CallWords) (r : Request) → IsReached s → IsCall c → Passes s c r → P s → P (rule_of s c r).next

from : (P : State → Type 0) → Keeps P → (s : State) (calls : List CallWords) → AllByRecursion IsCall calls → IsReached s → P s → P (state_from s calls)
from P keeps s [] are r p = p
from P keeps s (c ∷ calls) are r p = from P keeps (step s c) calls are.1 (IsReached-step s c are.0 r) (step_cases P s c p (λ q k. keeps s c q r are.0 k p))

pub all_reached : (P : State → Type 0) → ((m : ManifestRows) → IsTrue (is_valid m) → P (start m)) → Keeps P → (s : State) → IsReached s → P s
all_reached P first keeps s r =
    subst P r.leads (from P keeps (start s.manifest) r.calls r.are_calls (IsReached-start s.manifest r.valid) (first s.manifest r.valid))
