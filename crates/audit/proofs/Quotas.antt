-- In each reached state what a partition reaches fits its quota.
use Rattle.std.proofs.Common.{◌≡◌, ℕ, suc, ◌+◌, ◌*◌, ◌/◌, ◌%◌, ◌^◌, ◌<◌, ◌≤◌, true, false, not, cond, eqb, List, [], ◌∷◌, Option, Some, None, IsTrue, length, get_or, find, refl, sym, ap, subst, ◌∙◌, arith, inl, inr}
use Rattle.std.specs.Option.{option_map_or}
use Rattle.std.proofs.lemmas.Bool.{leb-true, eqb-true, cases_Bool, cases_lt}
use Rattle.base.specs.Access.{View}
use Rattle.base.specs.Manifest.{PartitionRow, ManifestRows, ids_of, quotas_of, row_of, grant}
use Rattle.base.specs.Need.{is_mixed, is_reached, need, grow, reaching}
use Rattle.base.specs.Pages.{covers}
use Rattle.base.specs.State.{State, sees, start}
use Rattle.manifest.specs.Valid.{is_valid, quota_of}
use Rattle.stage2.proofs.Counting.NeedGrows.{need-grows}
use Rattle.stage2.proofs.Counting.Quotas.{grants-fit}
use Rattle.stage2.proofs.Reading.SameViews.{need-same}
use Rattle.wire.specs.declared.request.Request.{Request}
use Rattle.rules.specs.Call.{CallWords, IsCall}
use Rattle.rules.specs.Rule.{Edit, with_edit, fits}
use Rattle.rules.specs.Run.{rule_of, IsReached}
use Rattle.rules.specs.Laws.EditsTheView.{Passes}
use Rattle.rules.proofs.Laws.EditsTheView.{edits_the_view}
use Rattle.rules.proofs.Laws.ManifestStays.{manifest_stays}
use Rattle.rules.proofs.Reached.{all_reached, IsReached-start}
use Rattle.audit.specs.Laws.{AreWithinQuotas, AreOfReached}

-- ---- before any call

starts : (m : ManifestRows) → IsTrue (is_valid m) → AreWithinQuotas (start m)
starts m valid = record { fits = grants-fit m valid }

-- ---- after a call

edited-fits : (s : State) (edit : Option Edit) (p : ℕ) → need (sees s p) ≤ quota_of s.manifest p → fits s edit ≡ true → need (with_edit edit (sees s) p) ≤ quota_of s.manifest p
unfolding fits
edited-fits s None p before fit = before
edited-fits s (Some edit) p before fit = elim (cases_Bool (eqb p edit.who)) [
  | inl t ↦
      let same : p ≡ edit.who = eqb-true _ _ t in
      let after = reaching edit.runs edit.to (sees s edit.who) in
      let le : need (sees s edit.who) + grow (sees s edit.who) after ≤ quota_of s.manifest edit.who = leb-true _ _ fit in
      let most = need-grows (sees s edit.who) after in
      let alike : need (with_edit (Some edit) (sees s) p) ≡ need after = need-same after (with_edit (Some edit) (sees s) p) (λ n small. rw t (ap (λ q. cond (covers edit.runs n) edit.to (sees s q n)) same)) in
      let enough : need after ≤ quota_of s.manifest edit.who = omega (arith, le, most) in
      subst (λ k. k ≤ quota_of s.manifest p) (sym alike) (subst (λ q. need after ≤ quota_of s.manifest q) (sym same) enough)
  | inr f ↦
      let alike : need (with_edit (Some edit) (sees s) p) ≡ need (sees s p) = need-same (sees s p) (with_edit (Some edit) (sees s) p) (λ n small. rw f refl) in
      subst (λ k. k ≤ quota_of s.manifest p) (sym alike) before
]

keeps : (s : State) (c : CallWords) (r : Request) → IsReached s → IsCall c → Passes s c r → AreWithinQuotas s → AreWithinQuotas (rule_of s c r).next
keeps s c r reached is passes before = record {
  fits = λ p.
      let m = manifest_stays s c r in
      let edits = edits_the_view s c r reached passes.tests in
      let then = edited-fits s (rule_of s c r).edit p (before.fits p) passes.fits in
      let alike : need (sees (rule_of s c r).next p) ≡ need (with_edit (rule_of s c r).edit (sees s) p) = need-same (with_edit (rule_of s c r).edit (sees s) p) (sees (rule_of s c r).next p) (λ n small. edits.views p n) in
      subst (λ k. k ≤ quota_of (rule_of s c r).next.manifest p) (sym alike) (subst (λ (x : ManifestRows). need (with_edit (rule_of s c r).edit (sees s) p) ≤ quota_of x p) (sym m) then);
}

pub within_quotas : (s : State) → IsReached s → AreWithinQuotas s
within_quotas = all_reached AreWithinQuotas starts keeps

-- before any call nothing is shared
pub boot-reached : (m : ManifestRows) → IsTrue (is_valid m) → AreOfReached m [] []
boot-reached m valid = record {
  state = start m;
  reached = IsReached-start m valid;
  of_manifest = refl;
  of_donations = refl;
  of_live = refl;
}
