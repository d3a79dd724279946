-- The law that what a live transaction says of its pages stays true.
use Rattle.std.proofs.Common.{◌≡◌, ℕ, zero, suc, ◌+◌, ◌≤◌, Bool, true, false, ◌&&◌, not, cond, eqb, List, [], ◌∷◌, length, map, Option, Some, None, refl, sym, ap, ◌∙◌, find, subst}
use Rattle.std.specs.List.{list_all, list_any}
use Rattle.std.specs.Option.{option_map_or}
use Rattle.std.proofs.lemmas.Bool.{leb-true}
use Rattle.base.specs.declared.transaction.Kind.{Kind}
use Rattle.base.specs.Access.{Access, View}
use Rattle.base.specs.Descriptors.Send as descriptor
use Rattle.base.specs.Descriptors.Send.{Endpoint, is_send, send_of, has_layout, is_composite, range_count, composite_at, ranges_at, ranges_of, pages_in}
use Rattle.base.specs.Ledger.{retrieved}
use Rattle.base.specs.Manifest.{is_partition}
use Rattle.base.specs.Pages.{covers, are_disjoint}
use Rattle.base.specs.Transactions.{Receiver, Live, without, with_retrieval}
use Rattle.base.specs.State.{State, owner_of, home_of}
use Rattle.base.proofs.Booleans.{both}
use Rattle.wire.specs.declared.request.Transfer.{Transfer}
use Rattle.wire.specs.declared.request.Request.TheVariants.{Version, Features, RxRelease, RxtxMap, RxtxUnmap, IdGet, Send, Retrieve, Relinquish, Reclaim}
use Rattle.rules.specs.Call.{CallWords}
use Rattle.rules.specs.Calls.Version.{with_version}
use Rattle.rules.specs.Calls.Buffers.{with_pair, with_rx_released}
use Rattle.rules.specs.Calls.Send.{is_receiver, are_distinct, are_parties, receiver, opened, with_transaction, sent, send_rule}
use Rattle.rules.specs.Calls.Reclaim.{ended}
use Rattle.rules.specs.Calls.Relinquish.{given_up, relinquish_rule}
use Rattle.rules.specs.Calls.Retrieve.{with_donation, with_rx_filled, retrieve_rule}
use Rattle.rules.specs.Receivers.{is_received_by, with_retrieval_by}
use Rattle.rules.specs.Transfers.{caller_version, bytes_of}
use Rattle.rules.specs.Run.{IsReached}
use Rattle.rules.specs.Laws.OneOwner.{AreApart, AreAllApart}
use Rattle.rules.specs.Laws.SentPages.{IsSentPage, AreSentPages, IsSentToOthers, IsNotTaken, IsWithinLimits, AreTransactionsKept}
use Rattle.rules.proofs.Calls.Send.{SendPasses, send_passes, next_is, sent_apart}
use Rattle.rules.proofs.Calls.Relinquish.{RelinquishPasses, relinquish_passes}
use Rattle.rules.proofs.Calls.Retrieve.{RetrievePasses, retrieve_passes, retrieve_cases}
use Rattle.rules.proofs.Given.{given_owner, given_home, others_apart}
use Rattle.rules.proofs.Ended.{found_in, found_first, all_without, both_all, some_is}
use Rattle.rules.proofs.FreePages.{HasFreeHome, common_at, is_not}
use Rattle.rules.proofs.Laws.Handles.{handles_used_once}
use Rattle.rules.proofs.Laws.OneOwner.{owned_once, first_is}
use Rattle.base.proofs.Ascending.{all_with}
use Rattle.rules.proofs.Reached.{Keeps, all_reached}
use Rattle.rules.proofs.Retrieved.{all_set, receivers_set, retrieved_set}
use Rattle.rules.proofs.ViewLemmas.{none_retrieved}

-- a page that is free for the sender
sent_page : (s : State) (p : ℕ) (k : Kind) (v : descriptor.Send) (home : Access) (n : ℕ) → HasFreeHome s p n home → IsSentPage s (opened s p k v home) n
sent_page s p k v home n f = (f.free.owned, f.free.sharable, f.has)

-- no receiver is the sender, and none has retrieved anything
none_is : (s : State) (p : ℕ) (f : Endpoint → Receiver) → ((e : Endpoint) → (f e).partition ≡ e.partition) → (es : List Endpoint) → list_all (is_receiver s p) es ≡ true → list_any (λ (r : Receiver). eqb r.partition p) (map f es) ≡ false
none_is s p f same [] h = refl
none_is s p f same (e ∷ es) h =
    let here = both (is_receiver s p e) (list_all (is_receiver s p) es) h in
    let other : eqb e.partition p ≡ false = is_not (eqb e.partition p) (both (not (eqb e.partition p)) (is_partition s.manifest e.partition) here.0).0 in
    let away : eqb (f e).partition p ≡ false = ap (λ (x : ℕ). eqb x p) (same e) ∙ other in
    rw away (none_is s p f same es here.1)

sent_to_others : (s : State) (c : CallWords) (k : Kind) (x : Transfer) (passes : SendPasses s c k x) → IsSentToOthers (opened s c.caller k (sent s c x) passes.home)
unfolding are_parties
sent_to_others s c k x passes =
    let v = sent s c x in
    let parties = both (eqb v.sender c.caller && list_all (is_receiver s c.caller) v.receivers) (are_distinct v.receivers) passes.parties in
    none_is s c.caller (receiver k passes.home) (λ e. refl) v.receivers (both (eqb v.sender c.caller) (list_all (is_receiver s c.caller) v.receivers) parties.0).1

-- a send keeps the limits
length-ranges_at : (count : ℕ) (bytes : List ℕ) (at : ℕ) → length (ranges_at count bytes at) ≡ count
length-ranges_at zero bytes at = refl
length-ranges_at (suc count) bytes at = ap suc (length-ranges_at count bytes (at + 16))

within_limits : (s : State) (c : CallWords) (k : Kind) (x : Transfer) (passes : SendPasses s c k x) → IsWithinLimits (opened s c.caller k (sent s c x) passes.home)
unfolding is_send send_of has_layout is_composite
within_limits s c k x passes =
    let version = caller_version s c in
    let bytes = bytes_of c x in
    let parts = both _ _ passes.spelled in
    let layout = (both _ _ (both _ _ (both _ _ (both _ _ parts.0).0).0).0).0 in
    let count : range_count version bytes ≤ 512 = leb-true _ _ (both _ _ (both _ _ layout).0).1 in
    let pages : pages_in (ranges_of version bytes) ≤ 262144 = leb-true _ _ (both _ _ parts.1).1 in
    (rw (length-ranges_at (range_count version bytes) bytes (composite_at version bytes + 16)) count, pages)

opened_kept : (s : State) (p : ℕ) (k : Kind) (v : descriptor.Send) (home : Access) → ((n : ℕ) → covers v.ranges n ≡ true → HasFreeHome s p n home) → are_disjoint v.ranges ≡ true → IsSentToOthers (opened s p k v home) → IsWithinLimits (opened s p k v home) → AreTransactionsKept s → AreTransactionsKept (with_transaction s (opened s p k v home))
unfolding with_transaction
opened_kept s p k v home free apart others limits h =
    let t = opened s p k v home in
    record {
      pages = all_with (AreSentPages s) t s.live h.pages (λ n c. sent_page s p k v home n (free n c));
      apart = all_with (λ u. are_disjoint u.ranges ≡ true) t s.live h.apart apart;
      limits = all_with IsWithinLimits t s.live h.limits limits;
      others = all_with IsSentToOthers t s.live h.others others;
      not_taken = all_with IsNotTaken t s.live h.not_taken (λ e q. none_retrieved (receiver k home) (λ x. refl) v.receivers q);
    }

send : (s : State) (c : CallWords) (k : Kind) (t : Transfer) → SendPasses s c k t → AreTransactionsKept s → AreTransactionsKept (send_rule s c k t).next
send s c k t passes h =
    let v = sent s c t in
    rw (next_is s c k t passes) (opened_kept s c.caller k v passes.home (common_at s c.caller v.ranges passes.home passes.common) (sent_apart s c k t passes) (sent_to_others s c k t passes) (within_limits s c k t passes) h)

ended_kept : (s : State) (handle : ℕ) → AreTransactionsKept s → AreTransactionsKept (ended s handle)
unfolding ended
ended_kept s handle h =
    record {
      pages = all_without (AreSentPages s) handle s.live h.pages;
      apart = all_without (λ u. are_disjoint u.ranges ≡ true) handle s.live h.apart;
      limits = all_without IsWithinLimits handle s.live h.limits;
      others = all_without IsSentToOthers handle s.live h.others;
      not_taken = all_without IsNotTaken handle s.live h.not_taken;
    }

-- ---- a receiver

set_kept : (s : State) (p handle : ℕ) (view : View) (t : Live) → find (λ u. eqb u.handle handle) s.live ≡ Some t → IsNotTaken (with_retrieval p view t) → AreTransactionsKept s → AreTransactionsKept (with_retrieval_by s p handle view)
unfolding with_retrieval_by
set_kept s p handle view t first free h =
    record {
      pages = all_set (AreSentPages s) handle p view s.live h.pages (λ u e x. x);
      apart = all_set (λ u. are_disjoint u.ranges ≡ true) handle p view s.live h.apart (λ u e x. x);
      limits = all_set IsWithinLimits handle p view s.live h.limits (λ u e x. x);
      others = all_set IsSentToOthers handle p view s.live h.others (λ u e x. receivers_set u.receivers p u.sender view ∙ x);
      not_taken = all_set IsNotTaken handle p view s.live h.not_taken (λ u e x. subst (λ (w : Live). IsNotTaken (with_retrieval p view w)) (some_is t u (sym first ∙ e)) free);
    }

none_either : (b : Bool) (view : View) → view ≡ None → cond b None view ≡ None
none_either true view e = refl
none_either false view e = e

relinquish : (s : State) (c : CallWords) → IsReached s → RelinquishPasses s c → AreTransactionsKept s → AreTransactionsKept (relinquish_rule s c).next
relinquish s c r k h =
    let p = c.caller in
    let t = k.transaction in
    let handle = (given_up c).handle in
    let first = found_first s.live handle (is_received_by p) t (handles_used_once s r).ascending k.found in
    let free = found_in IsNotTaken (λ u. eqb u.handle handle) s.live t first h.not_taken in
    set_kept s p handle None t first (λ e q. retrieved_set t.receivers p q None k.receiver ∙ none_either (eqb q p) (retrieved t.receivers q) (free e q)) h

-- a page that is not given away
still_sent : (s : State) (p : ℕ) (t : Live) (access : Access) (u : Live) → AreSentPages s u → AreApart u t → AreSentPages (with_donation s p t access) u
unfolding with_donation
still_sent s p t access u sent away n c =
    let was = sent n c in
    let other = away n c in
    let owner : owner_of (with_donation s p t access) n ≡ owner_of s n = given_owner s p t access n ∙ ap (λ (b : Bool). cond b (Some p) (owner_of s n)) other in
    let home : home_of (with_donation s p t access) n ≡ home_of s n = given_home s p t access n ∙ ap (λ (b : Bool). cond b (Some access) (home_of s n)) other in
    (ap (λ (o : Option ℕ). option_map_or (λ x. eqb x u.sender) o false) owner ∙ was.0, was.1, home ∙ was.2)

given_kept : (s : State) (p : ℕ) (t : Live) (access : Access) → find (λ u. eqb u.handle t.handle) s.live ≡ Some t → AreAllApart s.live → AreTransactionsKept s → AreTransactionsKept (with_donation s p t access)
unfolding with_donation
given_kept s p t access first apart h =
    record {
      pages = both_all (AreSentPages s) (λ u. AreApart u t) (AreSentPages (with_donation s p t access)) (still_sent s p t access) (without t.handle s.live) (all_without (AreSentPages s) t.handle s.live h.pages) (others_apart t.handle s.live t apart first);
      apart = all_without (λ u. are_disjoint u.ranges ≡ true) t.handle s.live h.apart;
      limits = all_without IsWithinLimits t.handle s.live h.limits;
      others = all_without IsSentToOthers t.handle s.live h.others;
      not_taken = all_without IsNotTaken t.handle s.live h.not_taken;
    }

filled_kept : (s : State) (p : ℕ) → AreTransactionsKept s → AreTransactionsKept (with_rx_filled s p)
unfolding with_rx_filled
filled_kept s p h = record { pages = h.pages; apart = h.apart; limits = h.limits; others = h.others; not_taken = h.not_taken }

retrieve : (s : State) (c : CallWords) (x : Transfer) → IsReached s → RetrievePasses s c x → AreTransactionsKept s → AreTransactionsKept (retrieve_rule s c x).next
retrieve s c x r k h =
    let first = first_is s c x r k in
    retrieve_cases AreTransactionsKept s c x k (λ u. filled_kept u c.caller)
    (λ e. set_kept s c.caller k.transaction.handle (Some k.access) k.transaction first (λ is. absurd (e is)) h)
    (λ e. given_kept s c.caller k.transaction k.access first (owned_once s r).apart h)

keeps : Keeps AreTransactionsKept
unfolding with_version with_pair with_rx_released
keeps s c (Version word) r is k h = record { pages = h.pages; apart = h.apart; limits = h.limits; others = h.others; not_taken = h.not_taken }
keeps s c (Features identifier) r is k h = h
keeps s c RxRelease r is k h = record { pages = h.pages; apart = h.apart; limits = h.limits; others = h.others; not_taken = h.not_taken }
keeps s c (RxtxMap tx rx count) r is k h = record { pages = h.pages; apart = h.apart; limits = h.limits; others = h.others; not_taken = h.not_taken }
keeps s c (RxtxUnmap word) r is k h = record { pages = h.pages; apart = h.apart; limits = h.limits; others = h.others; not_taken = h.not_taken }
keeps s c IdGet r is k h = h
keeps s c (Send kind t) r is k h = send s c kind t (send_passes s c kind t k.tests.passed) h
keeps s c (Retrieve x) r is k h = retrieve s c x r (retrieve_passes s c x k.tests.passed) h
keeps s c Relinquish r is k h = relinquish s c r (relinquish_passes s c k.tests.passed) h
keeps s c (Reclaim handle flags) r is k h = ended_kept s handle h

pub transactions_kept : (s : State) → IsReached s → AreTransactionsKept s
transactions_kept = all_reached AreTransactionsKept (λ m valid. record { pages = tt; apart = tt; limits = tt; others = tt; not_taken = tt }) keeps
