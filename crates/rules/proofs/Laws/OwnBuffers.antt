-- The law that the pages of a buffer are its partition's.
use Rattle.std.proofs.Common.{◌≡◌, ℕ, Bool, true, false, cond, eqb, List, [], ◌∷◌, map, Option, Some, None, is_some, refl, sym, ap, ◌∙◌}
use Rattle.std.specs.List.{AllByRecursion}
use Rattle.std.specs.Option.{option_map, option_map_or, option_and_then}
use Rattle.std.specs.List.{find}
use Rattle.std.proofs.lemmas.Bool.{eqb-true}
use Rattle.base.specs.declared.transaction.Kind.{Kind}
use Rattle.base.specs.Access.{Access, View}
use Rattle.base.specs.Buffers as pairs
use Rattle.base.specs.Buffers.{Pair, Mailbox, first_mailbox, pair_of, in_pair, is_buffer, holding}
use Rattle.base.specs.Descriptors.Send as descriptor
use Rattle.base.specs.Manifest.{PartitionRow}
use Rattle.base.specs.Pages.{covers}
use Rattle.base.specs.Transactions.{Live}
use Rattle.base.specs.State.{State, start, owner_of}
use Rattle.wire.specs.declared.request.Transfer.{Transfer}
use Rattle.wire.specs.declared.request.Request.TheVariants.{Version, Features, RxRelease, RxtxMap, RxtxUnmap, IdGet, Send, Retrieve, Relinquish, Reclaim}
use Rattle.rules.specs.Call.{CallWords}
use Rattle.rules.specs.Calls.Version.{with_version}
use Rattle.rules.specs.Calls.Buffers.{with_pair, with_rx_released}
use Rattle.rules.specs.Calls.Send.{opened, with_transaction, sent, send_rule}
use Rattle.rules.specs.Calls.Reclaim.{ended}
use Rattle.rules.specs.Calls.Relinquish.{given_up}
use Rattle.rules.specs.Calls.Retrieve.{with_donation, with_rx_filled, retrieve_rule}
use Rattle.rules.specs.Receivers.{with_retrieval_by}
use Rattle.rules.specs.Run.{IsReached}
use Rattle.rules.proofs.Calls.Send.{SendPasses, send_passes, next_is}
use Rattle.rules.proofs.Calls.Buffers.{map_passes, mapped_page, held_alike, or_left, or_right}
use Rattle.rules.proofs.Calls.Retrieve.{RetrievePasses, retrieve_passes, retrieve_cases}
use Rattle.rules.proofs.Ended.{covered_live}
use Rattle.rules.proofs.Given.{given_owner}
use Rattle.rules.proofs.Laws.BuffersApart.{buffers_apart}
use Rattle.rules.proofs.Laws.OneOwner.{owned_once, first_is}
use Rattle.rules.proofs.FreePages.{owner_from_test}
use Rattle.rules.proofs.Reached.{Keeps, all_reached}

abbrev pub IsOwnBuffer : State → Mailbox → Type 0
IsOwnBuffer s b = (n : ℕ) → option_map_or (λ a. in_pair a n) b.pair false ≡ true → owner_of s n ≡ Some b.partition

pub record AreBuffersOwned (s : State) : Type 0 where
  pub owned : AllByRecursion (IsOwnBuffer s) s.mailboxes

with_pair_all : (s : State) (p : ℕ) (pair : Option Pair) → ((n : ℕ) → option_map_or (λ a. in_pair a n) pair false ≡ true → owner_of s n ≡ Some p) → (boxes : List Mailbox) → AllByRecursion (IsOwnBuffer s) boxes → AllByRecursion (IsOwnBuffer s) (pairs.with_pair p pair boxes)
with_pair_all s p pair own [] h = tt
with_pair_all s p pair own (b ∷ boxes) h =
    elim (eqb b.partition p) as (λ t. eqb b.partition p ≡ t → AllByRecursion (IsOwnBuffer s) (cond t (record b { pair = pair } ∷ boxes) (b ∷ pairs.with_pair p pair boxes))) [
      | true ↦ λ e. let is : p ≡ b.partition = sym (eqb-true _ _ e) in (λ n i. own n i ∙ ap (λ (x : ℕ). Some x) is, h.1)
      | false ↦ λ e. (h.0, with_pair_all s p pair own boxes h.1)
    ] refl

-- the pair of a partition is owned by it
pair_owned : (s : State) (p : ℕ) (boxes : List Mailbox) → AllByRecursion (IsOwnBuffer s) boxes → (n : ℕ) → option_map_or (λ a. in_pair a n) (pair_of boxes p) false ≡ true → owner_of s n ≡ Some p
pair_owned s p [] h n e = absurd cc
pair_owned s p (b ∷ boxes) h n e =
    elim (eqb b.partition p) as (λ t. eqb b.partition p ≡ t → option_map_or (λ a. in_pair a n) (option_and_then (λ (x : Mailbox). x.pair) (cond t (Some b) (find (λ (x : Mailbox). eqb x.partition p) boxes))) false ≡ true → owner_of s n ≡ Some p) [
      | true ↦ λ t i. h.0 n i ∙ ap (λ (x : ℕ). Some x) (eqb-true b.partition p t)
      | false ↦ λ t i. pair_owned s p boxes h.1 n i
    ] refl e

opened_kept : (s : State) (p : ℕ) (k : Kind) (v : descriptor.Send) (home : Access) → AreBuffersOwned s → AreBuffersOwned (with_transaction s (opened s p k v home))
unfolding with_transaction
opened_kept s p k v home o = record { owned = o.owned }

send : (s : State) (c : CallWords) (k : Kind) (t : Transfer) → SendPasses s c k t → AreBuffersOwned s → AreBuffersOwned (send_rule s c k t).next
send s c k t passes o = rw (next_is s c k t passes) (opened_kept s c.caller k (sent s c t) passes.home o)

set_kept : (s : State) (p handle : ℕ) (view : View) → AreBuffersOwned s → AreBuffersOwned (with_retrieval_by s p handle view)
unfolding with_retrieval_by
set_kept s p handle view o = record { owned = o.owned }

-- no page of a buffer is given away
given_all : (s : State) (p : ℕ) (t : Live) (access : Access) (boxes : List Mailbox) → ((n : ℕ) → is_buffer boxes n ≡ true → covers t.ranges n ≡ false) → AllByRecursion (IsOwnBuffer s) boxes → AllByRecursion (IsOwnBuffer (with_donation s p t access)) boxes
given_all s p t access [] away h = tt
given_all s p t access (b ∷ boxes) away h =
    let here = λ (n : ℕ). option_map_or (λ a. in_pair a n) b.pair false in (
      λ n e. given_owner s p t access n ∙ ap (λ (k : Bool). cond k (Some p) (owner_of s n)) (away n (or_left (here n) (is_buffer boxes n) e)) ∙ h.0 n e,
      given_all s p t access boxes (λ n e. away n (or_right (here n) (is_buffer boxes n) e)) h.1,
    )

buffer_away : (s : State) (t : Live) → IsReached s → find (λ u. eqb u.handle t.handle) s.live ≡ Some t → (n : ℕ) → is_buffer s.mailboxes n ≡ true → covers t.ranges n ≡ false
buffer_away s t r first n e =
    elim (covers t.ranges n) as (λ b. covers t.ranges n ≡ b → b ≡ false) [
      | true ↦ λ c. absurd (let live = ap (λ (o : Option Live). is_some o) (covered_live t.handle s.live t n (owned_once s r).apart first c) in let none = (buffers_apart s r).apart n e in cc)
      | false ↦ λ c. refl
    ] refl

given_kept : (s : State) (p : ℕ) (t : Live) (access : Access) → ((n : ℕ) → is_buffer s.mailboxes n ≡ true → covers t.ranges n ≡ false) → AreBuffersOwned s → AreBuffersOwned (with_donation s p t access)
unfolding with_donation
given_kept s p t access away o = record { owned = given_all s p t access s.mailboxes away o.owned }

filled_kept : (s : State) (p : ℕ) → AreBuffersOwned s → AreBuffersOwned (with_rx_filled s p)
unfolding with_rx_filled
filled_kept s p o =
    record { owned = with_pair_all s p (option_map (holding true) (pair_of s.mailboxes p)) (λ n i. pair_owned s p s.mailboxes o.owned n (rw (held_alike true (pair_of s.mailboxes p) n) at i)) s.mailboxes o.owned }

retrieve : (s : State) (c : CallWords) (x : Transfer) → IsReached s → RetrievePasses s c x → AreBuffersOwned s → AreBuffersOwned (retrieve_rule s c x).next
retrieve s c x r k o =
    let t = k.transaction in
    retrieve_cases AreBuffersOwned s c x k (λ u. filled_kept u c.caller)
    (λ e. set_kept s c.caller t.handle (Some k.access) o)
    (λ e. given_kept s c.caller t k.access (buffer_away s t r (first_is s c x r k)) o)

keeps : Keeps AreBuffersOwned
unfolding with_version with_pair with_rx_released ended
keeps s c (Version word) r is k o = record { owned = o.owned }
keeps s c (Features identifier) r is k o = o
keeps s c RxRelease r is k o =
    record { owned = with_pair_all s c.caller (option_map (holding false) (pair_of s.mailboxes c.caller)) (λ n i. pair_owned s c.caller s.mailboxes o.owned n (rw (held_alike false (pair_of s.mailboxes c.caller) n) at i)) s.mailboxes o.owned }
keeps s c (RxtxMap tx rx count) r is k o =
    record { owned = with_pair_all s c.caller (Some (pairs.named_pair tx rx count)) (λ n i. owner_from_test (owner_of s n) c.caller (mapped_page s c.caller tx rx count n (map_passes s c.caller tx rx count k.tests.passed) i).owned) s.mailboxes o.owned }
keeps s c (RxtxUnmap word) r is k o = record { owned = with_pair_all s c.caller None (λ n i. absurd cc) s.mailboxes o.owned }
keeps s c IdGet r is k o = o
keeps s c (Send kind t) r is k o = send s c kind t (send_passes s c kind t k.tests.passed) o
keeps s c (Retrieve x) r is k o = retrieve s c x r (retrieve_passes s c x k.tests.passed) o
keeps s c Relinquish r is k o = set_kept s c.caller (given_up c).handle None o
keeps s c (Reclaim handle flags) r is k o = record { owned = o.owned }

first_owned : (s : State) (rows : List PartitionRow) → AllByRecursion (IsOwnBuffer s) (map first_mailbox rows)
first_owned s [] = tt
first_owned s (row ∷ rows) = (λ n i. absurd cc, first_owned s rows)

pub buffers_owned : (s : State) → IsReached s → AreBuffersOwned s
buffers_owned = all_reached AreBuffersOwned (λ m valid. record { owned = first_owned (start m) m.partitions }) keeps
