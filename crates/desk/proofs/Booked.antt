-- A book with one call more.
use Rattle.std.proofs.Common.{◌≡◌, ◌<◌, List, [], ◌∷◌, ◌++◌, length, refl, sym, ap, ◌∙◌, subst}
use Rattle.std.specs.List.{AllByRecursion}
use Rattle.base.specs.Manifest.{ManifestRows}
use Rattle.base.specs.State.{State, start}
use Rattle.rules.specs.Run.{answer, step, state_from}
use Rattle.rules.proofs.Reached.{step_keeps}
use Rattle.desk.specs.declared.entry.Entry.{Entry}
use Rattle.desk.specs.declared.receipt.Receipt.{Receipt}
use Rattle.desk.specs.Receipts.{calls_of, receipt_of, next_receipt, IsReceiptIn}
use Rattle.desk.specs.Books.{BookView, manifest_of, IsRun}
use Rattle.desk.proofs.Runs.{all_push, state_of_more, receipt_is_right}

-- the new book has one call more, and its manager has answered it
pub record IsMore (old new : BookView) (e : Entry) : Type 0 where
  pub calls : new.calls ≡ old.calls ++ e ∷ []
  pub state : new.machine.state ≡ step old.machine.state e.call

pub manifest_kept : (old new : BookView) (e : Entry) → IsMore old new e → manifest_of new ≡ manifest_of old
manifest_kept old new e more = ap (λ (s : State). s.manifest) more.state ∙ step_keeps old.machine.state e.call

pub run_kept : (old new : BookView) (e : Entry) → IsMore old new e → IsRun old → e.seat < 8 → IsRun new
run_kept old new e more run below =
    let m : ManifestRows = manifest_of old in
    let kept = manifest_kept old new e more in
    let goes : new.machine.state ≡ step (state_from (start m) (calls_of old.calls)) e.call = more.state ∙ ap (λ s. step s e.call) run.ran in
    let ends : new.machine.state ≡ state_from (start m) (calls_of (old.calls ++ e ∷ [])) = goes ∙ sym (state_of_more (start m) old.calls e) in
    let ran : new.machine.state ≡ state_from (start m) (calls_of new.calls) = ends ∙ ap (λ es. state_from (start m) (calls_of es)) (sym more.calls) in
    record {
      ran = subst (λ (x : ManifestRows). new.machine.state ≡ state_from (start x) (calls_of new.calls)) (sym kept) ran;
      seated = subst (λ (es : List Entry). AllByRecursion (λ x. x.seat < 8) es) (sym more.calls) (all_push (λ (x : Entry). x.seat < 8) old.calls e run.seated below);
    }

-- the receipt by the state before is that of the run
pub receipt_by_run : (old : BookView) (e : Entry) → IsRun old → receipt_of (length old.calls) e.call (answer old.machine.state e.call) ≡ next_receipt (manifest_of old) old.calls e.call
receipt_by_run old e run = ap (λ s. receipt_of (length old.calls) e.call (answer s e.call)) run.ran

pub receipt_in_run : (old new : BookView) (e : Entry) (r : Receipt) → IsMore old new e → r ≡ next_receipt (manifest_of old) old.calls e.call → IsReceiptIn (manifest_of new) new.calls e.seat r
receipt_in_run old new e r more is =
    let m : ManifestRows = manifest_of old in
    let right : IsReceiptIn m (old.calls ++ e ∷ []) e.seat r = subst (IsReceiptIn m (old.calls ++ e ∷ []) e.seat) (sym is) (receipt_is_right m old.calls e []) in
    let here : IsReceiptIn m new.calls e.seat r = subst (λ (es : List Entry). IsReceiptIn m es e.seat r) (sym more.calls) right in
    subst (λ (x : ManifestRows). IsReceiptIn x new.calls e.seat r) (sym (manifest_kept old new e more)) here
