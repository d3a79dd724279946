-- What a call that passes its tests changes of the views.
use Rattle.std.specs.Prelude.{◌≡◌, ℕ, true, not, Option, Some, None, is_some, ◌⊎◌}
use Rattle.base.specs.Pages.{covers}
use Rattle.base.specs.Manifest.{is_partition}
use Rattle.base.specs.Refusals.{first_refusal}
use Rattle.base.specs.State.{State, sees}
use Rattle.wire.specs.declared.request.Request.{Request}
use Rattle.wire.specs.Requests.{request_of}
use Rattle.rules.specs.Call.{CallWords}
use Rattle.rules.specs.Rule.{Edit, with_edit, fits}
use Rattle.rules.specs.Run.{rule_of}

-- a partition's request, which passes its tests
pub record PassesTests (s : State) (c : CallWords) (r : Request) : Type 0 where
  pub known : is_partition s.manifest c.caller ≡ true
  pub named : request_of c.regs ≡ Some r
  pub passed : first_refusal (rule_of s c r).tests ≡ None

-- and whose edit fits the quota
pub record Passes (s : State) (c : CallWords) (r : Request) : Type 0 where
  pub tests : PassesTests s c r
  pub fits : fits s (rule_of s c r).edit ≡ true

-- pages that are to be reached are not reached before
abbrev pub AreNotReached : State → Option Edit → Type 0
AreNotReached s None = Unit {0}
AreNotReached s (Some edit) =
    (n : ℕ) → covers edit.runs n ≡ true → (edit.to ≡ None) ⊎ (sees s edit.who n ≡ None)

-- each page of an edit is reached after it exactly where it was not before
abbrev pub AreTurned : State → Option Edit → Type 0
AreTurned s None = Unit {0}
AreTurned s (Some edit) =
    (n : ℕ) → covers edit.runs n ≡ true → is_some (sees s edit.who n) ≡ not (is_some edit.to)

-- what each partition reaches after it is what it reached before, with the rule's edit
pub record EditsTheView (s : State) (c : CallWords) (r : Request) : Type 0 where
  pub free : AreNotReached s (rule_of s c r).edit
  pub turned : AreTurned s (rule_of s c r).edit
  pub views : (p n : ℕ)
      → sees (rule_of s c r).next p n ≡ with_edit (rule_of s c r).edit (sees s) p n
