-- The law that no other partition reaches what a call clears.
use Rattle.std.proofs.Common.{◌≡◌, ℕ, Bool, true, false, ◌||◌, cond, eqb, List, [], ◌∷◌, length, Option, Some, None, refl, sym, ap, ◌∙◌, subst, arith}
use Rattle.std.specs.List.{list_any}
use Rattle.std.specs.Option.{option_map, option_and_then}
use Rattle.std.proofs.lemmas.Bool.{eqb-true}
use Rattle.base.specs.declared.transaction.Kind.{Kind}
use Rattle.base.specs.declared.transaction.Kind.TheVariants.{Share, Lend, Donate}
use Rattle.base.specs.Access.{Access, View}
use Rattle.base.specs.Descriptors.Send.{orders_clear}
use Rattle.base.specs.Ledger.{kept, retrieved, view_under}
use Rattle.base.specs.Pages.{PageRun, covers}
use Rattle.base.specs.Transactions.{Receiver, Live}
use Rattle.base.specs.State.{State, sees, home_of}
use Rattle.base.proofs.Booleans.{both}
use Rattle.wire.specs.declared.request.Request.{Request}
use Rattle.wire.specs.declared.request.Request.TheVariants.{Version, Features, RxRelease, RxtxMap, RxtxUnmap, IdGet, Send, Retrieve, Relinquish, Reclaim}
use Rattle.wire.specs.declared.request.Transfer.{Transfer}
use Rattle.rules.specs.Call.{CallWords}
use Rattle.rules.specs.Calls.Send.{sent}
use Rattle.rules.specs.Calls.Reclaim.{returned, returned_by, reclaim_rule}
use Rattle.rules.specs.Calls.Relinquish.{given_up, given_back_by, relinquish_rule}
use Rattle.rules.specs.Calls.Retrieve.{retrieve_rule}
use Rattle.rules.specs.Clearing.{is_writable, is_lent_to_one, may_clear_lent}
use Rattle.rules.specs.Receivers.{is_received_by}
use Rattle.rules.specs.Run.{rule_of, IsReached}
use Rattle.rules.specs.Laws.Clears.{AreClearedUnreached}
use Rattle.rules.specs.Laws.EditsTheView.{PassesTests}
use Rattle.rules.proofs.Calls.Send.{SendPasses, send_passes}
use Rattle.rules.proofs.Calls.Reclaim.{ReclaimPasses, reclaim_passes}
use Rattle.rules.proofs.Calls.Relinquish.{RelinquishPasses, relinquish_passes}
use Rattle.rules.proofs.Calls.Retrieve.{RetrievePasses, retrieve_passes, edit_is}
use Rattle.rules.proofs.Ended.{found_first}
use Rattle.rules.proofs.FreePages.{common_at, not_eqb}
use Rattle.rules.proofs.Laws.EditsTheView.{lent, under}
use Rattle.rules.proofs.Laws.Handles.{handles_used_once}
use Rattle.rules.proofs.ViewLemmas.{free_view}

-- ---- a send: the pages are free, and reached by their owner alone

sent_unreached : (s : State) (c : CallWords) (k : Kind) (t : Transfer) → SendPasses s c k t → (q n : ℕ) → covers (sent s c t).ranges n ≡ true → (q ≡ c.caller → ⊥) → sees s q n ≡ None
sent_unreached s c k t passes q n here other =
    let own = common_at s c.caller (sent s c t).ranges passes.home passes.common n here in
    free_view s c.caller q n passes.home own ∙ ap (λ (b : Bool). cond b (Some passes.home) None) (not_eqb q c.caller other)

-- ---- a reclaim: each receiver has given the pages back

returned_unreached : (k : Kind) (s : State) (p : ℕ) (runs : List PageRun) (home : Access) (clears : Bool) → ((q n : ℕ) → covers runs n ≡ true → (q ≡ p → ⊥) → sees s q n ≡ None) → AreClearedUnreached s (returned k p runs home clears)
returned_unreached Share s p runs home clears h = tt
returned_unreached Lend s p runs home clears h = λ ordered. h
returned_unreached Donate s p runs home clears h = λ ordered. h

reclaimed : (s : State) (c : CallWords) (handle flags : ℕ) → IsReached s → ReclaimPasses s c.caller handle → AreClearedUnreached s (reclaim_rule s c handle flags).edit
reclaimed s c handle flags r k =
    let u = k.transaction in
    let clears = orders_clear flags in
    let none : (q n : ℕ) → covers u.ranges n ≡ true → (q ≡ u.sender → ⊥) → sees s q n ≡ None = λ q n here other.
    lent s c.caller handle r k q n here ∙ ap (λ (b : Bool). cond b (kept u.kind (Some u.home)) None) (not_eqb q u.sender other) in
    subst (λ (o : Option Live). AreClearedUnreached s (option_and_then (returned_by clears) o)) (sym k.found) (returned_unreached u.kind s u.sender u.ranges u.home clears none)

-- ---- a relinquish: the pages are lent to the caller alone

ordered_alone : (clears : Bool) (p : ℕ) (t : Live) → may_clear_lent clears p t ≡ true → clears ≡ true → is_lent_to_one t.kind t.receivers ≡ true
unfolding may_clear_lent
ordered_alone true p t may e = (both (is_lent_to_one t.kind t.receivers) (is_writable (retrieved t.receivers p)) may).0
ordered_alone false p t may e = absurd cc

lent_to_one : (k : Kind) (rs : List Receiver) → is_lent_to_one k rs ≡ true → (k ≡ Lend) × (length rs ≡ 1)
lent_to_one Share rs e = absurd cc
lent_to_one Lend rs e = (refl, eqb-true _ _ e)
lent_to_one Donate rs e = absurd cc

only_receiver : (rs : List Receiver) (p q : ℕ) → length rs ≡ 1 → list_any (λ r. eqb r.partition p) rs ≡ true → eqb p q ≡ false → retrieved rs q ≡ None
only_receiver [] p q one mine other = absurd cc
only_receiver (r ∷ []) p q one mine other =
    elim (eqb r.partition p) as (λ b. eqb r.partition p ≡ b → (b || false) ≡ true → retrieved (r ∷ []) q ≡ None) [
      | true ↦ λ is e. let away : eqb r.partition q ≡ false = ap (λ (x : ℕ). eqb x q) (eqb-true _ _ is) ∙ other in rw away refl
      | false ↦ λ is e. absurd cc
    ] refl mine
only_receiver (r ∷ x ∷ rs) p q one mine other = absurd (omega (arith, one))

lent_alone : (u : Live) (home : View) (p q : ℕ) → is_lent_to_one u.kind u.receivers ≡ true → is_received_by p u ≡ true → eqb p q ≡ false → view_under u home q ≡ None
lent_alone u home p q one mine other =
    let is = lent_to_one u.kind u.receivers one in
    elim (eqb u.sender q) as (λ b. cond b (kept u.kind home) (retrieved u.receivers q) ≡ None) [
      | true ↦ ap (λ (k : Kind). kept k home) is.0
      | false ↦ only_receiver u.receivers p q is.1 mine other
    ]

relinquished : (s : State) (c : CallWords) → IsReached s → RelinquishPasses s c → AreClearedUnreached s (relinquish_rule s c).edit
relinquished s c r k =
    let p = c.caller in
    let handle = (given_up c).handle in
    let clears = (given_up c).clears in
    let u = k.transaction in
    let first = found_first s.live handle (is_received_by p) u (handles_used_once s r).ascending k.found in
    let none : AreClearedUnreached s (Some (given_back_by p clears u)) = λ ordered q n here other.
    under s p handle r u first k.receiver q n here ∙ lent_alone u (home_of s n) p q (ordered_alone clears p u k.clears ordered) k.receiver (not_eqb p q (λ e. other (sym e))) in
    subst (λ (o : Option Live). AreClearedUnreached s (option_map (given_back_by p clears) o)) (sym k.found) none

-- ---- a retrieve clears nothing

retrieved_now : (s : State) (c : CallWords) (x : Transfer) → RetrievePasses s c x → AreClearedUnreached s (retrieve_rule s c x).edit
retrieved_now s c x k = subst (AreClearedUnreached s) (sym (edit_is s c x k)) (λ ordered. absurd cc)

pub cleared_unreached : (s : State) (c : CallWords) (r : Request) → IsReached s → PassesTests s c r → AreClearedUnreached s (rule_of s c r).edit
cleared_unreached s c (Version word) is k = tt
cleared_unreached s c (Features identifier) is k = tt
cleared_unreached s c RxRelease is k = tt
cleared_unreached s c (RxtxMap tx rx count) is k = tt
cleared_unreached s c (RxtxUnmap word) is k = tt
cleared_unreached s c IdGet is k = tt
cleared_unreached s c (Send Share t) is k = tt
cleared_unreached s c (Send Lend t) is k = λ ordered. sent_unreached s c Lend t (send_passes s c Lend t k.passed)
cleared_unreached s c (Send Donate t) is k = λ ordered. sent_unreached s c Donate t (send_passes s c Donate t k.passed)
cleared_unreached s c (Retrieve x) is k = retrieved_now s c x (retrieve_passes s c x k.passed)
cleared_unreached s c Relinquish is k = relinquished s c is (relinquish_passes s c k.passed)
cleared_unreached s c (Reclaim handle flags) is k = reclaimed s c handle flags is (reclaim_passes s c.caller handle flags k.passed)
