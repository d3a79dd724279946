-- The law that a rule's edit is what the call changes of the views.
use Rattle.std.proofs.Common.{◌≡◌, ℕ, Bool, true, false, ◌&&◌, not, cond, eqb, List, [], ◌∷◌, Option, Some, None, is_some, find, refl, sym, eq-eqb, ◌∙◌, ap, subst, ◌⊎◌, inl, inr}
use Rattle.std.specs.List.{list_all}
use Rattle.std.specs.Option.{option_map, option_map_or, option_and_then}
use Rattle.std.proofs.lemmas.Bool.{eqb-true}
use Rattle.base.specs.Access.{Access, View}
use Rattle.base.specs.Descriptors.Send.{orders_clear}
use Rattle.base.specs.Ledger.{live_at, donation_at, settled_view, kept, retrieved, view_under}
use Rattle.base.specs.Manifest.{region_at}
use Rattle.base.specs.Pages.{PageRun, covers}
use Rattle.base.specs.Transactions.{Receiver, Live, with_retrieved, with_retrieval}
use Rattle.base.proofs.Booleans.{both}
use Rattle.base.specs.declared.transaction.Kind.{Kind}
use Rattle.base.specs.declared.transaction.Kind.TheVariants.{Share, Lend, Donate}
use Rattle.base.specs.State.{State, sees, home_of}
use Rattle.wire.specs.declared.request.Request.{Request}
use Rattle.wire.specs.declared.request.Request.TheVariants.{Version, Features, RxRelease, RxtxMap, RxtxUnmap, IdGet, Send, Retrieve, Relinquish, Reclaim}
use Rattle.wire.specs.declared.request.Transfer.{Transfer}
use Rattle.rules.specs.Call.{CallWords}
use Rattle.rules.specs.Rule.{Edit, given_to, with_edit}
use Rattle.rules.specs.Calls.Version.{with_version}
use Rattle.rules.specs.Calls.Buffers.{with_pair, with_rx_released}
use Rattle.rules.specs.Calls.Send.{sent, send_rule}
use Rattle.rules.specs.Calls.Reclaim.{returned, returned_by, ended, reclaim_rule}
use Rattle.rules.specs.Calls.Relinquish.{given_up, given_back_by, relinquish_rule}
use Rattle.rules.specs.Calls.Retrieve.{with_donation, with_rx_filled, retrieve_rule}
use Rattle.rules.specs.Receivers.{is_received_by, with_retrieval_by}
use Rattle.rules.specs.Run.{rule_of, IsReached}
use Rattle.rules.specs.Laws.EditsTheView.{PassesTests, AreNotReached, AreTurned, EditsTheView}
use Rattle.rules.proofs.Calls.Send.{SendPasses, send_passes, next_is}
use Rattle.rules.specs.Laws.SentPages.{IsSentPage, AreSentPages, IsSentToOthers, IsNotTaken}
use Rattle.rules.proofs.Calls.Reclaim.{ReclaimPasses, reclaim_passes}
use Rattle.rules.proofs.Calls.Relinquish.{RelinquishPasses, relinquish_passes}
use Rattle.rules.proofs.Calls.Retrieve.{RetrievePasses, retrieve_passes, retrieve_cases, edit_is}
use Rattle.rules.proofs.Given.{given_home, given_view}
use Rattle.rules.proofs.Retrieved.{retrieved_set, covered_set, other_set}
use Rattle.rules.proofs.Ended.{found_in, found_first, covered_live, covered_ended, other_ended}
use Rattle.rules.proofs.FreePages.{common_at, settled, eqb_sym}
use Rattle.rules.proofs.Laws.Handles.{handles_used_once}
use Rattle.rules.proofs.Laws.OneOwner.{owned_once, first_is}
use Rattle.rules.proofs.Laws.SentPages.{transactions_kept}
use Rattle.rules.proofs.ViewLemmas.{opened_view, free_view}

send : (s : State) (c : CallWords) (k : Kind) (t : Transfer) → SendPasses s c k t → (q n : ℕ) → sees (send_rule s c k t).next q n ≡ with_edit (send_rule s c k t).edit (sees s) q n
send s c k t passes q n =
    let v = sent s c t in
    ap (λ (u : State). sees u q n) (next_is s c k t passes) ∙ opened_view s c.caller k v passes.home (common_at s c.caller v.ranges passes.home passes.common) q n

if_own : (p : ℕ) (a : View) → cond (eqb p p) a None ≡ a
if_own p a = let self : eqb p p ≡ true = eq-eqb p p refl in rw self refl

-- the sender reaches what is taken from it: it is free, and has a home
sent_reached : (s : State) (c : CallWords) (k : Kind) (t : Transfer) → SendPasses s c k t → (n : ℕ) → covers (sent s c t).ranges n ≡ true → is_some (sees s c.caller n) ≡ true
sent_reached s c k t passes n here =
    ap is_some (free_view s c.caller c.caller n passes.home (common_at s c.caller (sent s c t).ranges passes.home passes.common n here) ∙ if_own c.caller (Some passes.home))

-- ---- a reclaim

no_access : (a : View) → not (is_some a) ≡ true → a ≡ None
no_access None e = refl
no_access (Some a) e = absurd cc

none_back : (rs : List Receiver) (q : ℕ) → list_all (λ r. not (is_some r.retrieved)) rs ≡ true → retrieved rs q ≡ None
none_back [] q e = refl
none_back (r ∷ rs) q e =
    let here = both (not (is_some r.retrieved)) (list_all (λ (x : Receiver). not (is_some x.retrieved)) rs) e in
    elim (eqb r.partition q) as (λ b. option_and_then (λ (x : Receiver). x.retrieved) (cond b (Some r) (find (λ (x : Receiver). eqb x.partition q) rs)) ≡ None) [
      | true ↦ no_access r.retrieved here.0
      | false ↦ none_back rs q here.1
    ]

covered_return : (k : Kind) (p : ℕ) (runs : List PageRun) (home : Access) (clears : Bool) (view : ℕ → ℕ → View) (q n : ℕ) → covers runs n ≡ true → view q n ≡ cond (eqb q p) (kept k (Some home)) None
    → with_edit (returned k p runs home clears) view q n ≡ cond (eqb q p) (Some home) None
covered_return Share p runs home clears view q n c before = before
covered_return Lend p runs home clears view q n c before = rw (c, before) (elim (eqb q p) as (λ b. cond (b && true) (Some home) (cond b None None) ≡ cond b (Some home) None) [ true ↦ refl | false ↦ refl ])
covered_return Donate p runs home clears view q n c before = rw (c, before) (elim (eqb q p) as (λ b. cond (b && true) (Some home) (cond b None None) ≡ cond b (Some home) None) [ true ↦ refl | false ↦ refl ])

other_return : (k : Kind) (p : ℕ) (runs : List PageRun) (home : Access) (clears : Bool) (view : ℕ → ℕ → View) (q n : ℕ) → covers runs n ≡ false → with_edit (returned k p runs home clears) view q n ≡ view q n
other_return Share p runs home clears view q n c = refl
other_return Lend p runs home clears view q n c = rw c (elim (eqb q p) as (λ b. cond (b && false) (Some home) (view q n) ≡ view q n) [ true ↦ refl | false ↦ refl ])
other_return Donate p runs home clears view q n c = rw c (elim (eqb q p) as (λ b. cond (b && false) (Some home) (view q n) ≡ view q n) [ true ↦ refl | false ↦ refl ])

module _ (s : State) (p handle : ℕ) (r : IsReached s) (k : ReclaimPasses s p handle) where
  abbrev t : Live
  t = k.transaction

  first : find (λ u. eqb u.handle handle) s.live ≡ Some t
  first = found_first s.live handle (λ u. eqb u.sender p) t (handles_used_once s r).ascending k.found

  page : (n : ℕ) → covers t.ranges n ≡ true → IsSentPage s t n
  page = found_in (AreSentPages s) (λ u. eqb u.handle handle && eqb u.sender p) s.live t k.found (transactions_kept s r).pages

  -- its sender reaches what it kept, and all others nothing
  pub lent : (q n : ℕ) → covers t.ranges n ≡ true → sees s q n ≡ cond (eqb q t.sender) (kept t.kind (Some t.home)) None
  lent q n c =
      ap (λ (o : Option Live). option_map_or (λ (u : Live). view_under u (home_of s n) q) o (settled_view s.manifest s.donations q n)) (covered_live handle s.live t n (owned_once s r).apart first c)
      ∙ ap (λ (h : View). cond (eqb t.sender q) (kept t.kind h) (retrieved t.receivers q)) (page n c).2
      ∙ ap (λ (v : View). cond (eqb t.sender q) (kept t.kind (Some t.home)) v) (none_back t.receivers q k.given_back)
      ∙ ap (λ (b : Bool). cond b (kept t.kind (Some t.home)) None) (eqb_sym t.sender q)

  ended_view : (clears : Bool) (q n : ℕ) → sees (ended s handle) q n ≡ with_edit (returned_by clears t) (sees s) q n
  unfolding ended
  ended_view clears q n =
      let after = λ (o : Option Live). option_map_or (λ (u : Live). view_under u (home_of s n) q) o (settled_view s.manifest s.donations q n) in
      elim (covers t.ranges n) as (λ b. covers t.ranges n ≡ b → sees (ended s handle) q n ≡ with_edit (returned_by clears t) (sees s) q n) [
        | true ↦ λ c.
            let here = page n c in
            let own = settled (donation_at s.donations n) (region_at s.manifest n) t.sender q t.home here.0 here.1 here.2 in
            ap after (covered_ended handle s.live t n (owned_once s r).apart first c) ∙ own ∙ sym (covered_return t.kind t.sender t.ranges t.home clears (sees s) q n c (lent q n c))
        | false ↦ λ c. ap after (other_ended handle s.live t n first c) ∙ sym (other_return t.kind t.sender t.ranges t.home clears (sees s) q n c)
      ] refl

reclaim : (s : State) (c : CallWords) (handle flags : ℕ) → IsReached s → ReclaimPasses s c.caller handle → (q n : ℕ) → sees (reclaim_rule s c handle flags).next q n ≡ with_edit (reclaim_rule s c handle flags).edit (sees s) q n
reclaim s c handle flags r k q n =
    let clears = orders_clear flags in
    ended_view s c.caller handle r k clears q n ∙ ap (λ (o : Option Live). with_edit (option_and_then (returned_by clears) o) (sees s) q n) (sym k.found)

-- what a reclaim gives back was not reached: its sender kept what it shared alone
given_back : (k : Kind) (s : State) (p : ℕ) (runs : List PageRun) (home : Access) (clears : Bool) → ((n : ℕ) → covers runs n ≡ true → sees s p n ≡ kept k (Some home)) → AreTurned s (returned k p runs home clears)
given_back Share s p runs home clears h = tt
given_back Lend s p runs home clears h = λ n c. ap is_some (h n c)
given_back Donate s p runs home clears h = λ n c. ap is_some (h n c)

reclaim_turned : (s : State) (c : CallWords) (handle flags : ℕ) → IsReached s → ReclaimPasses s c.caller handle → AreTurned s (reclaim_rule s c handle flags).edit
reclaim_turned s c handle flags r k =
    let u = k.transaction in
    let clears = orders_clear flags in
    let back = given_back u.kind s u.sender u.ranges u.home clears (λ n covered. lent s c.caller handle r k u.sender n covered ∙ if_own u.sender (kept u.kind (Some u.home))) in
    subst (λ (o : Option Live). AreTurned s (option_and_then (returned_by clears) o)) (sym k.found) back

-- ---- a receiver

-- a receiver has this of the transaction now, and all others what they had
under_set : (t : Live) (home : View) (p q : ℕ) (view : View) → is_received_by p t ≡ true → eqb t.sender p ≡ false → view_under (with_retrieval p view t) home q ≡ cond (eqb q p) view (view_under t home q)
under_set t home p q view receiver other =
    elim (eqb t.sender q) as (λ b. eqb t.sender q ≡ b → cond b (kept t.kind home) (retrieved (with_retrieved p view t.receivers) q) ≡ cond (eqb q p) view (cond b (kept t.kind home) (retrieved t.receivers q))) [
      | true ↦ λ e. let away : eqb q p ≡ false = ap (λ (x : ℕ). eqb x p) (sym (eqb-true _ _ e)) ∙ other in rw away refl
      | false ↦ λ e. retrieved_set t.receivers p q view receiver
    ] refl

if_covered : (b c : Bool) (x y : View) → c ≡ true → cond b x y ≡ cond (b && c) x y
if_covered true c x y e = rw e refl
if_covered false c x y e = refl

if_not_covered : (b c : Bool) (x y : View) → c ≡ false → y ≡ cond (b && c) x y
if_not_covered true c x y e = rw e refl
if_not_covered false c x y e = refl

not_sender : (s : State) (p : ℕ) (t : Live) → IsSentToOthers t → is_received_by p t ≡ true → eqb t.sender p ≡ false
not_sender s p t others receiver =
    elim (eqb t.sender p) as (λ b. eqb t.sender p ≡ b → b ≡ false) [
      | true ↦ λ e. absurd (let is : is_received_by t.sender t ≡ is_received_by p t = ap (λ (x : ℕ). is_received_by x t) (eqb-true _ _ e) in cc)
      | false ↦ λ e. refl
    ] refl

module _ (s : State) (p handle : ℕ) (r : IsReached s) (u : Live) (first : find (λ v. eqb v.handle handle) s.live ≡ Some u) (receiver : is_received_by p u ≡ true) where
  other : eqb u.sender p ≡ false
  other = not_sender s p u (found_in IsSentToOthers (λ v. eqb v.handle handle) s.live u first (transactions_kept s r).others) receiver

  -- what is reached of its pages
  pub under : (q n : ℕ) → covers u.ranges n ≡ true → sees s q n ≡ view_under u (home_of s n) q
  under q n c = ap (λ (o : Option Live). option_map_or (λ (v : Live). view_under v (home_of s n) q) o (settled_view s.manifest s.donations q n)) (covered_live handle s.live u n (owned_once s r).apart first c)

  set_view : (view : View) (clears : Bool) (q n : ℕ) → sees (with_retrieval_by s p handle view) q n ≡ with_edit (Some (record { who = p; runs = u.ranges; to = view; clears = clears })) (sees s) q n
  unfolding with_retrieval_by
  set_view view clears q n =
      let after = λ (o : Option Live). option_map_or (λ (v : Live). view_under v (home_of s n) q) o (settled_view s.manifest s.donations q n) in
      elim (covers u.ranges n) as (λ b. covers u.ranges n ≡ b → sees (with_retrieval_by s p handle view) q n ≡ cond (eqb q p && covers u.ranges n) view (sees s q n)) [
        | true ↦ λ c.
            ap after (covered_set handle p view s.live u n (owned_once s r).apart first c) ∙ under_set u (home_of s n) p q view receiver other
            ∙ ap (λ (v : View). cond (eqb q p) view v) (sym (under q n c)) ∙ if_covered (eqb q p) (covers u.ranges n) view (sees s q n) c
        | false ↦ λ c. ap after (other_set handle p view s.live u n first c) ∙ if_not_covered (eqb q p) (covers u.ranges n) view (sees s q n) c
      ] refl

  -- a receiver reaches of its pages what it has retrieved
  as_retrieved : (n : ℕ) → covers u.ranges n ≡ true → sees s p n ≡ retrieved u.receivers p
  as_retrieved n c = under p n c ∙ ap (λ (b : Bool). cond b (kept u.kind (home_of s n)) (retrieved u.receivers p)) other

relinquish : (s : State) (c : CallWords) → IsReached s → RelinquishPasses s c → (q n : ℕ) → sees (relinquish_rule s c).next q n ≡ with_edit (relinquish_rule s c).edit (sees s) q n
relinquish s c r k q n =
    let p = c.caller in
    let handle = (given_up c).handle in
    let clears = (given_up c).clears in
    let first_one = found_first s.live handle (is_received_by p) k.transaction (handles_used_once s r).ascending k.found in
    set_view s p handle r k.transaction first_one k.receiver None clears q n ∙ ap (λ (o : Option Live). with_edit (option_map (given_back_by p clears) o) (sees s) q n) (sym k.found)

relinquish_turned : (s : State) (c : CallWords) → IsReached s → RelinquishPasses s c → AreTurned s (relinquish_rule s c).edit
relinquish_turned s c r k =
    let p = c.caller in
    let handle = (given_up c).handle in
    let first_one = found_first s.live handle (is_received_by p) k.transaction (handles_used_once s r).ascending k.found in
    let reached = as_retrieved s p handle r k.transaction first_one k.receiver in
    subst (λ (o : Option Live). AreTurned s (option_map (given_back_by p (given_up c).clears) o)) (sym k.found) (λ n here. ap is_some (reached n here) ∙ k.retrieved)

-- ---- a retrieve

-- nobody reaches the pages of a donation that is live
untaken : (u : Live) (home : View) (q : ℕ) → u.kind ≡ Donate → IsNotTaken u → view_under u home q ≡ None
untaken u home q e free =
    elim (eqb u.sender q) as (λ b. cond b (kept u.kind home) (retrieved u.receivers q) ≡ None) [
      | true ↦ ap (λ (k : Kind). kept k home) e
      | false ↦ free e q
    ]

module _ (s : State) (p : ℕ) (r : IsReached s) (u : Live) (first : find (λ v. eqb v.handle u.handle) s.live ≡ Some u) (access : Access) (donated : u.kind ≡ Donate) where
  given_sees : (q n : ℕ) → sees (with_donation s p u access) q n ≡ with_edit (Some (given_to p u.ranges access false)) (sees s) q n
  unfolding with_donation
  given_sees q n =
      let new = with_donation s p u access in
      let after = λ (o : Option Live). option_map_or (λ (v : Live). view_under v (home_of new n) q) o (settled_view s.manifest new.donations q n) in
      elim (covers u.ranges n) as (λ b. covers u.ranges n ≡ b → sees new q n ≡ cond (eqb q p && covers u.ranges n) (Some access) (sees s q n)) [
        | true ↦ λ c.
            let free = found_in IsNotTaken (λ v. eqb v.handle u.handle) s.live u first (transactions_kept s r).not_taken in
            let before : sees s q n ≡ None =
            ap (λ (o : Option Live). option_map_or (λ (v : Live). view_under v (home_of s n) q) o (settled_view s.manifest s.donations q n)) (covered_live u.handle s.live u n (owned_once s r).apart first c) ∙ untaken u (home_of s n) q donated free in
            ap after (covered_ended u.handle s.live u n (owned_once s r).apart first c) ∙ given_view s p u access n q
            ∙ ap (λ (b : Bool). cond b (cond (eqb p q) (Some access) None) (settled_view s.manifest s.donations q n)) c
            ∙ ap (λ (b : Bool). cond b (Some access) None) (eqb_sym p q) ∙ ap (λ (v : View). cond (eqb q p) (Some access) v) (sym before)
            ∙ if_covered (eqb q p) (covers u.ranges n) (Some access) (sees s q n) c
        | false ↦ λ c.
            ap after (other_ended u.handle s.live u n first c)
            ∙ ap (λ (v : View). option_map_or (λ (w : Live). view_under w (home_of new n) q) (live_at s.live n) v) (given_view s p u access n q ∙ ap (λ (b : Bool). cond b (cond (eqb p q) (Some access) None) (settled_view s.manifest s.donations q n)) c)
            ∙ ap (λ (h : View). option_map_or (λ (w : Live). view_under w h q) (live_at s.live n) (settled_view s.manifest s.donations q n)) (given_home s p u access n ∙ ap (λ (b : Bool). cond b (Some access) (home_of s n)) c)
            ∙ if_not_covered (eqb q p) (covers u.ranges n) (Some access) (sees s q n) c
      ] refl

pub filled_sees : (s : State) (p q n : ℕ) → sees (with_rx_filled s p) q n ≡ sees s q n
unfolding with_rx_filled
filled_sees s p q n = refl

retrieve : (s : State) (c : CallWords) (x : Transfer) → IsReached s → RetrievePasses s c x → (q n : ℕ) → sees (retrieve_rule s c x).next q n ≡ with_edit (retrieve_rule s c x).edit (sees s) q n
retrieve s c x r k q n =
    let p = c.caller in
    let u = k.transaction in
    let first_one = first_is s c x r k in
    let edit = λ (v : Option Edit). with_edit v (sees s) q n in
    retrieve_cases (λ v. sees v q n ≡ edit (Some (given_to p u.ranges k.access false))) s c x k (λ v e. filled_sees v p q n ∙ e)
    (λ e. set_view s p u.handle r u first_one k.receiver (Some k.access) false q n)
    (λ e. given_sees s p r u first_one k.access e q n)
    ∙ ap edit (sym (edit_is s c x k))

retrieve_turned : (s : State) (c : CallWords) (x : Transfer) → IsReached s → RetrievePasses s c x → AreTurned s (retrieve_rule s c x).edit
retrieve_turned s c x r k =
    let u = k.transaction in
    let reached = as_retrieved s c.caller u.handle r u (first_is s c x r k) k.receiver in
    subst (AreTurned s) (sym (edit_is s c x k)) (λ n here. ap is_some (reached n here ∙ k.nothing_yet))

-- ---- all calls

views : (s : State) (c : CallWords) (r : Request) → IsReached s → PassesTests s c r → (q n : ℕ) → sees (rule_of s c r).next q n ≡ with_edit (rule_of s c r).edit (sees s) q n
unfolding with_version with_pair with_rx_released
views s c (Version word) is k q n = refl
views s c (Features identifier) is k q n = refl
views s c RxRelease is k q n = refl
views s c (RxtxMap tx rx count) is k q n = refl
views s c (RxtxUnmap word) is k q n = refl
views s c IdGet is k q n = refl
views s c (Send kind t) is k q n = send s c kind t (send_passes s c kind t k.passed) q n
views s c (Retrieve x) is k q n = retrieve s c x is (retrieve_passes s c x k.passed) q n
views s c Relinquish is k q n = relinquish s c is (relinquish_passes s c k.passed) q n
views s c (Reclaim handle flags) is k q n = reclaim s c handle flags is (reclaim_passes s c.caller handle flags k.passed) q n

-- a send and a relinquish take away what is reached, a reclaim gives back what its sender did not keep, and a receiver retrieves what it has not retrieved yet
turned : (s : State) (c : CallWords) (r : Request) → IsReached s → PassesTests s c r → AreTurned s (rule_of s c r).edit
turned s c (Version word) is k = tt
turned s c (Features identifier) is k = tt
turned s c RxRelease is k = tt
turned s c (RxtxMap tx rx count) is k = tt
turned s c (RxtxUnmap word) is k = tt
turned s c IdGet is k = tt
turned s c (Send Lend t) is k = sent_reached s c Lend t (send_passes s c Lend t k.passed)
turned s c (Send Share t) is k = tt
turned s c (Send Donate t) is k = sent_reached s c Donate t (send_passes s c Donate t k.passed)
turned s c (Retrieve x) is k = retrieve_turned s c x is (retrieve_passes s c x k.passed)
turned s c Relinquish is k = relinquish_turned s c is (relinquish_passes s c k.passed)
turned s c (Reclaim handle flags) is k = reclaim_turned s c handle flags is (reclaim_passes s c.caller handle flags k.passed)

either : (to view : View) → is_some view ≡ not (is_some to) → (to ≡ None) ⊎ (view ≡ None)
either None view e = inl refl
either (Some a) None e = inr refl
either (Some a) (Some b) e = absurd cc

not_reached : (s : State) (edit : Option Edit) → AreTurned s edit → AreNotReached s edit
not_reached s None so = tt
not_reached s (Some edit) so = λ n here. either edit.to (sees s edit.who n) (so n here)

pub edits_the_view : (s : State) (c : CallWords) (r : Request) → IsReached s → PassesTests s c r → EditsTheView s c r
edits_the_view s c r is k = record { free = not_reached s (rule_of s c r).edit (turned s c r is k); turned = turned s c r is k; views = views s c r is k }
