-- Runs with one call more, and the receipts of a seat in them.
use Rattle.std.proofs.Common.{◌≡◌, ◌≢◌, ℕ, zero, suc, ◌+◌, ◌<◌, ◌==◌, Bool, true, false, List, [], ◌∷◌, ◌++◌, length, Some, if◌then◌else◌, cond, refl, sym, ap, ◌∙◌, subst, arith, append_assoc, length-append, add-zero, ne_eqb, eq-eqb, eqb}
use Rattle.std.specs.Prelude.{slice_get}
use Rattle.std.specs.List.{AllByRecursion}
use Rattle.std.proofs.lemmas.List.{append-nil}
use Rattle.base.specs.Manifest.{ManifestRows}
use Rattle.base.specs.State.{State, start}
use Rattle.wire.specs.Replies.{ReplyWords}
use Rattle.rules.specs.Call.{CallWords}
use Rattle.rules.specs.Run.{answer, step, replies_from, state_from}
use Rattle.rules.proofs.Reached.{step_keeps}
use Rattle.desk.specs.declared.entry.Entry.{Entry}
use Rattle.desk.specs.declared.receipt.Receipt.{Receipt}
use Rattle.desk.specs.Receipts.{calls_of, receipt_of, next_receipt, IsReceiptIn, receipts_from, receipts_at, NoneOf, count_of}

-- ---- lists

pub get_seam : {A : Type 0} (xs : List A) (y : A) (ys : List A) → slice_get (xs ++ y ∷ ys) (length xs) ≡ Some y
get_seam [] y ys = refl
get_seam (x ∷ xs) y ys = get_seam xs y ys

pub all_push : {A : Type 0} (P : A → Type 0) (xs : List A) (y : A) → AllByRecursion P xs → P y → AllByRecursion P (xs ++ y ∷ [])
all_push P [] y all p = (p, tt)
all_push P (x ∷ xs) y all p = (all.0, all_push P xs y all.1 p)

-- ---- runs

pub calls_of-push : (es : List Entry) (e : Entry) → calls_of (es ++ e ∷ []) ≡ calls_of es ++ e.call ∷ []
calls_of-push [] e = refl
calls_of-push (x ∷ es) e = ap (λ cs. x.call ∷ cs) (calls_of-push es e)

pub length-calls_of : (es : List Entry) → length (calls_of es) ≡ length es
length-calls_of [] = refl
length-calls_of (e ∷ es) = omega (arith, length-calls_of es)

pub state_from-push : (s : State) (cs : List CallWords) (c : CallWords) → state_from s (cs ++ c ∷ []) ≡ step (state_from s cs) c
state_from-push s [] c = refl
state_from-push s (x ∷ cs) c = state_from-push (step s x) cs c

pub replies_from-push : (s : State) (cs : List CallWords) (c : CallWords) → replies_from s (cs ++ c ∷ []) ≡ replies_from s cs ++ answer (state_from s cs) c ∷ []
replies_from-push s [] c = refl
replies_from-push s (x ∷ cs) c = ap (λ rs. answer s x ∷ rs) (replies_from-push (step s x) cs c)

pub length-replies_from : (s : State) (cs : List CallWords) → length (replies_from s cs) ≡ length cs
length-replies_from s [] = refl
length-replies_from s (c ∷ cs) = omega (arith, length-replies_from (step s c) cs)

pub state_of_more : (s : State) (es : List Entry) (e : Entry) → state_from s (calls_of (es ++ e ∷ [])) ≡ step (state_from s (calls_of es)) e.call
state_of_more s es e = ap (state_from s) (calls_of-push es e) ∙ state_from-push s (calls_of es) e.call

-- what a call is answered after others
pub reply_after : (s : State) (es : List Entry) (e : Entry) (rest : List Entry)
    → slice_get (replies_from s (calls_of (es ++ e ∷ rest))) (length es) ≡ Some (answer (state_from s (calls_of es)) e.call)
reply_after s [] e rest = refl
reply_after s (x ∷ es) e rest = reply_after (step s x.call) es e rest

-- the receipt of a call in the middle of a run is right
pub receipt_is_right : (m : ManifestRows) (es : List Entry) (e : Entry) (rest : List Entry) → IsReceiptIn m (es ++ e ∷ rest) e.seat (next_receipt m es e.call)
receipt_is_right m es e rest = record {
  made = e;
  stands = get_seam es e rest;
  own = refl;
  caller = refl;
  regs = refl;
  reply = reply_after (start m) es e rest;
}
