-- Which pages a call clears.
use Rattle.std.proofs.Common.{◌≡◌, ℕ, Bool, true, false, ◌&&◌, cond, List, [], Option, Some, None, Result, Ok, Err, reverse, refl, sym, ap, ◌∙◌}
use Rattle.std.specs.Prelude.{OnOk}
use Rattle.std.specs.Option.{option_map_or}
use Rattle.std.proofs.lemmas.List.{reverse-reverse}
use Rattle.base.specs.declared.status.Status.{Status}
use Rattle.base.specs.declared.status.Status.TheVariants.{NotSupported, Denied}
use Rattle.base.specs.Manifest.{is_partition}
use Rattle.wire.specs.Requests.{request_of}
use Rattle.base.specs.Pages.{PageRun, covers, are_normal}
use Rattle.base.specs.State.{State}
use Rattle.stage2.specs.Moments.{cleared_by}
use Rattle.rules.specs.Call.{CallWords}
use Rattle.rules.specs.Rule.{Edit, clears_page}
use Rattle.rules.specs.Run.{rule, refusal, clears}
use Rattle.spm.specs.Clearing.{clears_in}
use Rattle.spm.specs.Granted.{AreSameEdits, AreOrderly}
use Rattle.spm.specs.Machine.{Machine, HasCleared}

-- a refused call clears nothing
pub refused_clears : (s : State) (c : CallWords) (m : Machine) (status : Status) → refusal s c ≡ Some status → m.pool.operations ≡ [] → HasCleared (clears s c) m
unfolding clears
refused_clears s c m status refuses none =
    let runs : cleared_by m.pool.operations ≡ [] = ap cleared_by none in
    record {
      normal = ap (λ (rs : List PageRun). are_normal (reverse rs)) runs;
      pages = λ n. ap (λ (rs : List PageRun). covers (reverse rs) n) runs ∙ sym (ap (λ (o : Option Status). option_map_or (λ status. false) o (clears_page (rule s c).edit n)) refuses);
    }

-- so is that of a caller without a row, and one that names no call
stranger_refused : (s : State) (c : CallWords) → is_partition s.manifest c.caller ≡ false → refusal s c ≡ Some Denied
unfolding refusal rule
stranger_refused s c e = rw e refl

unnamed_refused : (s : State) (c : CallWords) → is_partition s.manifest c.caller ≡ true → request_of c.regs ≡ None → refusal s c ≡ Some NotSupported
unfolding refusal rule
unnamed_refused s c e f = rw (e, f) refl

pub stranger_clears : (s : State) (c : CallWords) (m : Machine) → is_partition s.manifest c.caller ≡ false → m.pool.operations ≡ [] → HasCleared (clears s c) m
stranger_clears s c m unknown none = refused_clears s c m Denied (stranger_refused s c unknown) none

pub unnamed_clears : (s : State) (c : CallWords) (m : Machine) → is_partition s.manifest c.caller ≡ true → request_of c.regs ≡ None → m.pool.operations ≡ [] → HasCleared (clears s c) m
unnamed_clears s c m known unknown none = refused_clears s c m NotSupported (unnamed_refused s c known unknown) none

-- the runs of an edit, or none
cleared_normal : (p : ℕ) (edit : Option Edit) → AreOrderly p edit → are_normal (reverse (clears_in edit)) ≡ true
cleared_normal p None orderly = refl
cleared_normal p (Some edit) orderly = of_edit edit.clears
  where
    of_edit : (b : Bool) → are_normal (reverse (cond b (reverse edit.runs) [])) ≡ true
    of_edit true = ap are_normal (reverse-reverse edit.runs) ∙ orderly.normal
    of_edit false = refl

cleared_pages : (a b : Option Edit) (n : ℕ) → AreSameEdits a b → covers (reverse (clears_in b)) n ≡ clears_page a n
cleared_pages None None n same = refl
cleared_pages None (Some b) n same = absurd same
cleared_pages (Some a) None n same = absurd same
cleared_pages (Some a) (Some b) n same = of_edit b.clears ∙ ap (λ (x : Bool). x && covers b.runs n) same.clears ∙ ap (λ (x : Bool). a.clears && x) (same.pages n)
  where
    of_edit : (x : Bool) → covers (reverse (cond x (reverse b.runs) [])) n ≡ (x && covers b.runs n)
    of_edit true = ap (λ (rs : List PageRun). covers rs n) (reverse-reverse b.runs)
    of_edit false = refl

-- an accepted call clears what its rule says
pub accepted_clears : (s : State) (c : CallWords) (m : Machine) (p : ℕ) (edit : Option Edit) → refusal s c ≡ None → AreSameEdits (rule s c).edit edit → AreOrderly p edit → cleared_by m.pool.operations ≡ clears_in edit → HasCleared (clears s c) m
unfolding clears
accepted_clears s c m p edit accepted same orderly cleared = record {
  normal = ap (λ (rs : List PageRun). are_normal (reverse rs)) cleared ∙ cleared_normal p edit orderly;
  pages = λ n. ap (λ (rs : List PageRun). covers (reverse rs) n) cleared ∙ cleared_pages (rule s c).edit edit n same ∙ sym (ap (λ (o : Option Status). option_map_or (λ status. false) o (clears_page (rule s c).edit n)) accepted);
}

pub clears_on_ok : {A B : Type 0} (result : Result A B) (s : State) (c : CallWords) (m : Machine) (edit : Option Edit) → refusal s c ≡ None → AreSameEdits (rule s c).edit edit → AreOrderly c.caller edit → OnOk result (cleared_by m.pool.operations ≡ clears_in edit) → OnOk result (HasCleared (clears s c) m)
clears_on_ok (Ok x) s c m edit accepted same orderly cleared = accepted_clears s c m c.caller edit accepted same orderly cleared
clears_on_ok (Err x) s c m edit accepted same orderly cleared = tt
