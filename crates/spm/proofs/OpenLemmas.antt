-- What a send that passes its tests opens can be opened.
use Rattle.std.proofs.Common.{◌≡◌, ℕ, ◌+◌, ◌-◌, ◌^◌, ◌<◌, true, false, cond, eqb, List, [], ◌∷◌, Option, Some, None, is_some, refl, sym, ap, subst, ◌∙◌, arith}
use Rattle.std.specs.List.{AllByRecursion}
use Rattle.std.specs.Option.{option_map_or}
use Rattle.std.proofs.lemmas.Bool.{eqb-true}
use Rattle.base.specs.declared.transaction.Kind.{Kind}
use Rattle.base.specs.Access.{Access, View}
use Rattle.base.specs.Handles.{low_half, high_half}
use Rattle.base.specs.Pages.{PageRun}
use Rattle.base.specs.Descriptors.Send as descriptor
use Rattle.base.specs.Transactions.{Live}
use Rattle.base.specs.State.{State, sends_of, common_home}
use Rattle.wire.specs.declared.request.Transfer.{Transfer}
use Rattle.wire.specs.Replies.{success}
use Rattle.ledger.specs.Ledger.{found}
use Rattle.rules.specs.Call.{CallWords}
use Rattle.rules.specs.Calls.Send.{opened, next_handle, sent, sender_edit, send_rule, with_transaction}
use Rattle.rules.specs.Rule.{Edit}
use Rattle.rules.specs.Run.{IsReached}
use Rattle.rules.specs.Laws.Handles.{IsCounted}
use Rattle.rules.proofs.Laws.Handles.{other_handle, handles_used_once}
use Rattle.rules.proofs.FreePages.{common_at}
use Rattle.spm.specs.declared.change.Update.TheVariants.{Open}
use Rattle.spm.specs.declared.change.Answer.{Answer}
use Rattle.spm.specs.Granted.{replied, CanOpen, AreSameEdits, AreOrderly, IsGranted}
use Rattle.spm.specs.Checked.{IsChecked}

none_has : (s : State) (p : ℕ) → ((q : ℕ) → sends_of s.partitions q < 2 ^ 32) → sends_of s.partitions p + 1 < 2 ^ 32 → (ts : List Live) → AllByRecursion (IsCounted s) ts → found ts (next_handle s p) ≡ None
none_has s p small room [] all = refl
none_has s p small room (t ∷ ts) all =
    elim (eqb t.handle (next_handle s p)) as (λ b. eqb t.handle (next_handle s p) ≡ b → cond b (Some t) (found ts (next_handle s p)) ≡ None) [
      | true ↦ λ e. absurd (other_handle s p t all.0 (small t.sender) room (eqb-true t.handle (next_handle s p) e))
      | false ↦ λ e. none_has s p small room ts all.1
    ] refl

-- no live transaction has the handle of the next send
new_handle : (s : State) (p : ℕ) → IsReached s → sends_of s.partitions p < 2 ^ 32 - 1 → found s.live (next_handle s p) ≡ None
new_handle s p reached room = let h = handles_used_once s reached in none_has s p h.counts (omega arith) s.live h.counted

none : {A : Type 0} (o : Option A) → is_some o ≡ false → o ≡ None
none None e = refl
none (Some a) e = absurd cc

pub can_open : (s : State) (c : CallWords) (kind : Kind) (transfer : Transfer) (desc : descriptor.Send) (home : Access) (sends : ℕ) → IsReached s → IsChecked s c kind transfer desc home sends → CanOpen s (opened s c.caller kind desc home)
can_open s c kind transfer desc home sends reached checked =
    let room : sends_of s.partitions c.caller < 2 ^ 32 - 1 = rw (← checked.counted) checked.room in
    record {
      room = room;
      new = new_handle s c.caller reached room;
      named = omega (arith, room);
      apart = λ n is. none _ (common_at s c.caller desc.ranges home checked.common n is).free.idle;
    }

-- the change of a send that passes its tests is its rule's
pub send_granted : (s : State) (c : CallWords) (kind : Kind) (transfer : Transfer) (desc : descriptor.Send) (home : Access) (sends : ℕ) (t : Live) (edit : Option Edit) (answer : Answer) → IsReached s → IsChecked s c kind transfer desc home sends
    → t ≡ opened s c.caller kind desc home → AreSameEdits (sender_edit kind c.caller t.ranges desc.clears) edit → AreOrderly c.caller edit → replied answer ≡ success (low_half t.handle) (high_half t.handle)
    → IsGranted s c.caller (send_rule s c kind transfer) true (record { edit = edit; update = Open t; answer = answer })
send_granted s c kind transfer desc home sends t edit answer reached checked is same orderly replied =
    let v = sent s c transfer in
    let ranges : t.ranges ≡ v.ranges = ap (λ (u : Live). u.ranges) is ∙ ap (λ (d : descriptor.Send). d.ranges) checked.said in
    let common : common_home s c.caller v.ranges ≡ Some home = ap (λ (d : descriptor.Send). common_home s c.caller d.ranges) (sym checked.said) ∙ checked.common in
    let transaction : t ≡ opened s c.caller kind v home = is ∙ ap (λ (d : descriptor.Send). opened s c.caller kind d home) checked.said in
    record {
      passed = checked.passed;
      edit = subst (λ (d : descriptor.Send). AreSameEdits (sender_edit kind c.caller v.ranges d.clears) edit) checked.said (subst (λ (rs : List PageRun). AreSameEdits (sender_edit kind c.caller rs desc.clears) edit) ranges same);
      orderly = orderly;
      next = ap (with_transaction s) transaction ∙ sym (ap (λ (o : View). option_map_or (λ (a : Access). with_transaction s (opened s c.caller kind v a)) o s) common);
      can = subst (CanOpen s) (sym is) (can_open s c kind transfer desc home sends reached checked);
      reply = replied ∙ ap (λ (h : ℕ). success (low_half h) (high_half h)) (ap (λ (u : Live). u.handle) is);
      memory_taken = λ e. refl;
    }
