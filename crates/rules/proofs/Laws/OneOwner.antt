-- The law that each page of a live transaction is its sender's, and no other transaction's.
use Rattle.std.proofs.Common.{◌≡◌, ℕ, Bool, true, false, List, [], ◌∷◌, Option, Some, None, is_some, cond, eqb, ltb, refl, sym, ap, ◌∙◌, subst, find}
use Rattle.std.specs.List.{AllByRecursion}
use Rattle.std.specs.Option.{option_map}
use Rattle.base.specs.declared.transaction.Kind.{Kind}
use Rattle.base.specs.Pages.{covers}
use Rattle.base.specs.Access.{Access, View}
use Rattle.base.specs.Manifest.{RegionRow, region_at}
use Rattle.base.specs.Transactions.{Live, with_live, without}
use Rattle.base.specs.Ledger.{live_at}
use Rattle.base.specs.State.{State, owner_of}
use Rattle.base.specs.Descriptors.Send as descriptor
use Rattle.wire.specs.declared.request.Transfer.{Transfer}
use Rattle.wire.specs.declared.request.Request.TheVariants.{Version, Features, RxRelease, RxtxMap, RxtxUnmap, IdGet, Send, Retrieve, Relinquish, Reclaim}
use Rattle.rules.specs.Call.{CallWords}
use Rattle.rules.specs.Calls.Version.{with_version}
use Rattle.rules.specs.Calls.Buffers.{with_pair, with_rx_released}
use Rattle.rules.specs.Calls.Send.{opened, with_transaction, sent, send_rule}
use Rattle.rules.specs.Calls.Reclaim.{ended}
use Rattle.rules.specs.Calls.Relinquish.{given_up}
use Rattle.rules.specs.Calls.Retrieve.{asked, with_donation, with_rx_filled, retrieve_rule}
use Rattle.rules.specs.Receivers.{is_received_by, with_retrieval_by}
use Rattle.rules.specs.Run.{IsReached}
use Rattle.rules.specs.Laws.OneOwner.{IsOwnSend, AreApart, AreAllApart, IsOwnedOnce}
use Rattle.rules.proofs.Calls.Send.{SendPasses, send_passes, next_is}
use Rattle.rules.proofs.Calls.Retrieve.{RetrievePasses, retrieve_passes, retrieve_cases}
use Rattle.rules.proofs.Ended.{found_in, found_first, all_without, apart_without, both_all, not_covered}
use Rattle.rules.proofs.Laws.Handles.{handles_used_once}
use Rattle.rules.proofs.Given.{given_owner, others_apart}
use Rattle.rules.proofs.Retrieved.{all_set, apart_set}
use Rattle.rules.proofs.FreePages.{HasFreeHome, owner_from_test, common_at}
use Rattle.base.proofs.Ascending.{all_with}
use Rattle.rules.proofs.Reached.{Keeps, all_reached}

apart_from_each : (t : Live) (ts : List Live) → AllByRecursion (λ u. AreApart u t) ts → AllByRecursion (AreApart t) ts
apart_from_each t [] p = tt
apart_from_each t (u ∷ us) p = (λ n c. not_covered u t n p.0 c, apart_from_each t us p.1)

apart_with : (ts : List Live) (t : Live) → AreAllApart ts → AllByRecursion (λ u. AreApart u t) ts → AreAllApart (with_live t ts)
apart_with [] t h p = (tt, tt)
apart_with (u ∷ ts) t h p =
    elim (ltb t.handle u.handle) as (λ b. AreAllApart (cond b (t ∷ u ∷ ts) (u ∷ with_live t ts))) [
      | true ↦ (apart_from_each t (u ∷ ts) p, h)
      | false ↦ (all_with (AreApart u) t ts h.0 p.0, apart_with ts t h.1 p.1)
    ]

-- where a transaction has no page of those that are live, it is apart from each
apart_from_all : (ts : List Live) (t : Live) → ((n : ℕ) → covers t.ranges n ≡ true → is_some (live_at ts n) ≡ false) → AllByRecursion (λ u. AreApart u t) ts
apart_from_all [] t h = tt
apart_from_all (u ∷ ts) t h = (
  λ n cu. elim (covers t.ranges n) as (λ b. covers t.ranges n ≡ b → b ≡ false) [ true ↦ λ e. let live = h n e in let here : is_some (cond true (Some u) (live_at ts n)) ≡ false = subst (λ (b : Bool). is_some (cond b (Some u) (live_at ts n)) ≡ false) cu live in absurd cc | false ↦ λ e. refl ] refl,
  apart_from_all ts t (λ n ct. elim (covers u.ranges n) as (λ b. is_some (cond b (Some u) (live_at ts n)) ≡ false → is_some (live_at ts n) ≡ false) [ true ↦ λ e. absurd cc | false ↦ λ e. e ] (h n ct)),
)

opened_kept : (s : State) (p : ℕ) (k : Kind) (v : descriptor.Send) (home : Access) → ((n : ℕ) → covers v.ranges n ≡ true → HasFreeHome s p n home) → IsOwnedOnce s → IsOwnedOnce (with_transaction s (opened s p k v home))
unfolding with_transaction
opened_kept s p k v home free o =
    let t = opened s p k v home in
    record {
      owners = o.owners;
      senders = all_with (IsOwnSend s) t s.live o.senders (λ n c. owner_from_test (owner_of s n) p (free n c).free.owned);
      apart = apart_with s.live t o.apart (apart_from_all s.live t (λ n c. (free n c).free.idle));
    }

send : (s : State) (c : CallWords) (k : Kind) (t : Transfer) → SendPasses s c k t → IsOwnedOnce s → IsOwnedOnce (send_rule s c k t).next
send s c k t passes o =
    let v = sent s c t in
    rw (next_is s c k t passes) (opened_kept s c.caller k v passes.home (common_at s c.caller v.ranges passes.home passes.common) o)

ended_kept : (s : State) (handle : ℕ) → IsOwnedOnce s → IsOwnedOnce (ended s handle)
unfolding ended
ended_kept s handle o =
    record {
      owners = o.owners;
      senders = all_without (IsOwnSend s) handle s.live o.senders;
      apart = apart_without handle s.live o.apart;
    }

set_kept : (s : State) (p handle : ℕ) (view : View) → IsOwnedOnce s → IsOwnedOnce (with_retrieval_by s p handle view)
unfolding with_retrieval_by
set_kept s p handle view o =
    record {
      owners = o.owners;
      senders = all_set (IsOwnSend s) handle p view s.live o.senders (λ t e x. x);
      apart = apart_set handle p view s.live o.apart;
    }

-- ---- a donation is completed

pub first_is : (s : State) (c : CallWords) (x : Transfer) → IsReached s → (k : RetrievePasses s c x) → find (λ u. eqb u.handle k.transaction.handle) s.live ≡ Some k.transaction
first_is s c x r k =
    let handle = (asked s c x).handle in
    subst (λ (h : ℕ). find (λ u. eqb u.handle h) s.live ≡ Some k.transaction) (sym k.handle) (found_first s.live handle (is_received_by c.caller) k.transaction (handles_used_once s r).ascending k.found)

given_kept : (s : State) (p : ℕ) (t : Live) (access : Access) → find (λ u. eqb u.handle t.handle) s.live ≡ Some t → IsOwnedOnce s → IsOwnedOnce (with_donation s p t access)
unfolding with_donation
given_kept s p t access first o =
    let own = found_in (IsOwnSend s) (λ u. eqb u.handle t.handle) s.live t first o.senders in
    record {
      owners = λ n. elim (covers t.ranges n) as (λ b. covers t.ranges n ≡ b → is_some (owner_of (with_donation s p t access) n) ≡ is_some (region_at s.manifest n)) [
        | true ↦ λ c. rw (given_owner s p t access n, c) (ap (λ (x : Option ℕ). is_some x) (sym (own n c)) ∙ o.owners n)
        | false ↦ λ c. rw (given_owner s p t access n, c) (o.owners n)
      ] refl;
      senders = both_all (IsOwnSend s) (λ u. AreApart u t) (IsOwnSend (with_donation s p t access)) (λ u mine apart n c. let no = apart n c in rw (given_owner s p t access n, no) (mine n c)) (without t.handle s.live) (all_without (IsOwnSend s) t.handle s.live o.senders) (others_apart t.handle s.live t o.apart first);
      apart = apart_without t.handle s.live o.apart;
    }

filled_kept : (s : State) (p : ℕ) → IsOwnedOnce s → IsOwnedOnce (with_rx_filled s p)
unfolding with_rx_filled
filled_kept s p o = record { owners = o.owners; senders = o.senders; apart = o.apart }

retrieve : (s : State) (c : CallWords) (x : Transfer) → IsReached s → RetrievePasses s c x → IsOwnedOnce s → IsOwnedOnce (retrieve_rule s c x).next
retrieve s c x r k o =
    retrieve_cases IsOwnedOnce s c x k (λ u. filled_kept u c.caller)
    (λ e. set_kept s c.caller k.transaction.handle (Some k.access) o)
    (λ e. given_kept s c.caller k.transaction k.access (first_is s c x r k) o)

keeps : Keeps IsOwnedOnce
unfolding with_version with_pair with_rx_released
keeps s c (Version word) r is k o = record { owners = o.owners; senders = o.senders; apart = o.apart }
keeps s c (Features identifier) r is k o = o
keeps s c RxRelease r is k o = record { owners = o.owners; senders = o.senders; apart = o.apart }
keeps s c (RxtxMap tx rx count) r is k o = record { owners = o.owners; senders = o.senders; apart = o.apart }
keeps s c (RxtxUnmap word) r is k o = record { owners = o.owners; senders = o.senders; apart = o.apart }
keeps s c IdGet r is k o = o
keeps s c (Send kind t) r is k o = send s c kind t (send_passes s c kind t k.tests.passed) o
keeps s c (Retrieve x) r is k o = retrieve s c x r (retrieve_passes s c x k.tests.passed) o
keeps s c Relinquish r is k o = set_kept s c.caller (given_up c).handle None o
keeps s c (Reclaim handle flags) r is k o = ended_kept s handle o

some_owner : (r : Option RegionRow) → is_some (option_map (λ (x : RegionRow). x.owner) r) ≡ is_some r
some_owner None = refl
some_owner (Some r) = refl

pub owned_once : (s : State) → IsReached s → IsOwnedOnce s
owned_once = all_reached IsOwnedOnce (λ m valid. record { owners = λ n. some_owner (region_at m n); senders = tt; apart = tt }) keeps
