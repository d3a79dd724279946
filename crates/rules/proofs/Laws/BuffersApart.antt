-- The law that no page of a live transaction lies in a registered buffer.
use Rattle.std.proofs.Common.{◌≡◌, ℕ, true, false, inl, inr, Some, None, is_some, refl, ap, ◌∙◌}
use Rattle.base.specs.declared.transaction.Kind.{Kind}
use Rattle.base.specs.Access.{Access, View}
use Rattle.base.specs.Buffers as pairs
use Rattle.base.specs.Descriptors.Send as descriptor
use Rattle.base.specs.Pages.{covers}
use Rattle.base.specs.Transactions.{Live}
use Rattle.base.specs.Ledger.{live_at}
use Rattle.base.specs.State.{State}
use Rattle.wire.specs.declared.request.Transfer.{Transfer}
use Rattle.wire.specs.declared.request.Request.TheVariants.{Version, Features, RxRelease, RxtxMap, RxtxUnmap, IdGet, Send, Retrieve, Relinquish, Reclaim}
use Rattle.rules.specs.Call.{CallWords}
use Rattle.rules.specs.Calls.Version.{with_version}
use Rattle.rules.specs.Calls.Buffers.{with_pair, with_rx_released}
use Rattle.rules.specs.Calls.Send.{opened, with_transaction, sent, send_rule}
use Rattle.rules.specs.Calls.Reclaim.{ended}
use Rattle.rules.specs.Calls.Relinquish.{given_up}
use Rattle.rules.specs.Calls.Retrieve.{with_donation, with_rx_filled, retrieve_rule}
use Rattle.rules.specs.Receivers.{with_retrieval_by}
use Rattle.rules.specs.Run.{IsReached}
use Rattle.rules.proofs.Calls.Send.{SendPasses, send_passes, next_is}
use Rattle.rules.proofs.Reached.{Keeps, all_reached}
use Rattle.rules.specs.Laws.BuffersApart.{AreBuffersApart}
use Rattle.rules.proofs.Calls.Buffers.{map_passes, mapped_page, buffer_after, buffer_after_rx}
use Rattle.rules.proofs.Calls.Retrieve.{RetrievePasses, retrieve_passes, retrieve_cases}
use Rattle.rules.proofs.Ended.{none_ended}
use Rattle.rules.proofs.Retrieved.{some_set}
use Rattle.rules.proofs.FreePages.{HasFreeHome, common_at}
use Rattle.rules.proofs.ViewLemmas.{live_at-other}

opened_kept : (s : State) (p : ℕ) (k : Kind) (v : descriptor.Send) (home : Access) → ((n : ℕ) → covers v.ranges n ≡ true → HasFreeHome s p n home) → AreBuffersApart s → AreBuffersApart (with_transaction s (opened s p k v home))
unfolding with_transaction
opened_kept s p k v home free a =
    let t = opened s p k v home in
    record {
      apart = λ n b. elim (covers v.ranges n) as (λ c. covers v.ranges n ≡ c → is_some (live_at (with_transaction s t).live n) ≡ false) [
        | true ↦ λ c. absurd (let no = (free n c).free.unregistered in cc)
        | false ↦ λ c. ap is_some (live_at-other s.live t n c) ∙ a.apart n b
      ] refl;
    }

send : (s : State) (c : CallWords) (k : Kind) (t : Transfer) → SendPasses s c k t → AreBuffersApart s → AreBuffersApart (send_rule s c k t).next
send s c k t passes a =
    let v = sent s c t in
    rw (next_is s c k t passes) (opened_kept s c.caller k v passes.home (common_at s c.caller v.ranges passes.home passes.common) a)

ended_kept : (s : State) (handle : ℕ) → AreBuffersApart s → AreBuffersApart (ended s handle)
unfolding ended
ended_kept s handle a = record { apart = λ n b. none_ended handle s.live n (a.apart n b) }

set_kept : (s : State) (p handle : ℕ) (view : View) → AreBuffersApart s → AreBuffersApart (with_retrieval_by s p handle view)
unfolding with_retrieval_by
set_kept s p handle view a = record { apart = λ n b. some_set handle p view s.live n ∙ a.apart n b }

given_kept : (s : State) (p : ℕ) (t : Live) (access : Access) → AreBuffersApart s → AreBuffersApart (with_donation s p t access)
unfolding with_donation
given_kept s p t access a = record { apart = λ n b. none_ended t.handle s.live n (a.apart n b) }

filled_kept : (s : State) (p : ℕ) → AreBuffersApart s → AreBuffersApart (with_rx_filled s p)
unfolding with_rx_filled
filled_kept s p a = record { apart = λ n b. a.apart n (buffer_after_rx p true s.mailboxes n b) }

retrieve : (s : State) (c : CallWords) (x : Transfer) → RetrievePasses s c x → AreBuffersApart s → AreBuffersApart (retrieve_rule s c x).next
retrieve s c x k a =
    retrieve_cases AreBuffersApart s c x k (λ u. filled_kept u c.caller)
    (λ e. set_kept s c.caller k.transaction.handle (Some k.access) a)
    (λ e. given_kept s c.caller k.transaction k.access a)

keeps : Keeps AreBuffersApart
unfolding with_version with_pair with_rx_released
keeps s c (Version word) r is k a = record { apart = a.apart }
keeps s c (Features identifier) r is k a = a
keeps s c RxRelease r is k a = record { apart = λ n b. a.apart n (buffer_after_rx c.caller false s.mailboxes n b) }
keeps s c (RxtxMap tx rx count) r is k a =
    record {
      apart = λ n b. elim (buffer_after c.caller (Some (pairs.named_pair tx rx count)) s.mailboxes n b) [
        | inl x ↦ (mapped_page s c.caller tx rx count n (map_passes s c.caller tx rx count k.tests.passed) x).idle
        | inr y ↦ a.apart n y
      ];
    }
keeps s c (RxtxUnmap word) r is k a =
    record { apart = λ n b. elim (buffer_after c.caller None s.mailboxes n b) [ inl x ↦ absurd cc | inr y ↦ a.apart n y ] }
keeps s c IdGet r is k a = a
keeps s c (Send kind t) r is k a = send s c kind t (send_passes s c kind t k.tests.passed) a
keeps s c (Retrieve x) r is k a = retrieve s c x (retrieve_passes s c x k.tests.passed) a
keeps s c Relinquish r is k a = set_kept s c.caller (given_up c).handle None a
keeps s c (Reclaim handle flags) r is k a = ended_kept s handle a

pub buffers_apart : (s : State) → IsReached s → AreBuffersApart s
buffers_apart = all_reached AreBuffersApart (λ m valid. record { apart = λ n b. refl }) keeps
