-- A page that a partition owns lies in no other partition's buffer.
use Rattle.std.proofs.Common.{◌≡◌, ℕ, ◌+◌, ◌<◌, ◌≤◌, true, false, ◌&&◌, ◌||◌, not, is_some, leb, eqb, cond, List, [], ◌∷◌, map, Option, Some, None, refl, sym, ◌∙◌, arith}
use Rattle.std.specs.List.{AllByRecursion, find}
use Rattle.std.specs.Option.{option_map, option_map_or, option_and_then}
use Rattle.std.proofs.lemmas.Bool.{eqb-true, eq-eqb, leb-true}
use Rattle.base.proofs.Booleans.{both}
use Rattle.base.specs.Access.{Access, View}
use Rattle.base.specs.Buffers as pairs
use Rattle.base.specs.Buffers.{Pair, Mailbox, first_mailbox, pair_of, in_pair, is_buffer, holding}
use Rattle.base.specs.declared.transaction.Kind.{Kind}
use Rattle.base.specs.Ledger.{is_idle, live_at}
use Rattle.base.specs.Manifest.{PartitionRow, is_sharable, region_at}
use Rattle.base.specs.State.{State, owner_of, owns}
use Rattle.base.specs.Transactions.{Live}
use Rattle.manifest.specs.Valid.{rise_from}
use Rattle.manifest.proofs.Facts.{facts}
use Rattle.wire.specs.declared.request.Transfer.{Transfer}
use Rattle.wire.specs.declared.request.Request.TheVariants.{Version, Features, RxRelease, RxtxMap, RxtxUnmap, IdGet, Send, Retrieve, Relinquish, Reclaim}
use Rattle.rules.specs.Call.{CallWords}
use Rattle.rules.specs.Calls.Version.{with_version}
use Rattle.rules.specs.Calls.Buffers.{with_pair, with_rx_released}
use Rattle.rules.specs.Calls.Send.{with_transaction, send_rule}
use Rattle.rules.specs.Calls.Reclaim.{ended}
use Rattle.rules.specs.Calls.Relinquish.{given_up}
use Rattle.rules.specs.Calls.Retrieve.{with_donation, with_rx_filled, retrieve_rule}
use Rattle.rules.specs.Receivers.{with_retrieval_by}
use Rattle.rules.specs.Run.{IsReached}
use Rattle.rules.proofs.Calls.Send.{SendPasses, send_passes, next_is}
use Rattle.rules.proofs.Calls.Retrieve.{RetrievePasses, retrieve_passes, retrieve_cases}
use Rattle.rules.proofs.FreePages.{owner_from_test}
use Rattle.rules.proofs.Laws.OwnBuffers.{IsOwnBuffer, buffers_owned}
use Rattle.rules.proofs.Reached.{Keeps, all_reached}

-- ---- each partition has one mailbox: their partitions rise

Rise : ℕ → List Mailbox → Type 0
Rise least [] = Unit {0}
Rise least (b ∷ boxes) = (least ≤ b.partition) × Rise (b.partition + 1) boxes

record HasOneMailboxEach (s : State) : Type 0 where
  pub rise : Rise 0 s.mailboxes

with_pair_rises : (p : ℕ) (pair : Option Pair) (least : ℕ) (boxes : List Mailbox) → Rise least boxes → Rise least (pairs.with_pair p pair boxes)
unfolding Rise
with_pair_rises p pair least [] h = tt
with_pair_rises p pair least (b ∷ boxes) h =
    elim (eqb b.partition p) as (λ t. Rise least (cond t (record b { pair = pair } ∷ boxes) (b ∷ pairs.with_pair p pair boxes))) [
      | true ↦ h
      | false ↦ (h.0, with_pair_rises p pair (b.partition + 1) boxes h.1)
    ]

send : (s : State) (c : CallWords) (k : Kind) (t : Transfer) → SendPasses s c k t → HasOneMailboxEach s → HasOneMailboxEach (send_rule s c k t).next
unfolding with_transaction
send s c k t passes o = rw (next_is s c k t passes) (record { rise = o.rise })

set_kept : (s : State) (p handle : ℕ) (view : View) → HasOneMailboxEach s → HasOneMailboxEach (with_retrieval_by s p handle view)
unfolding with_retrieval_by
set_kept s p handle view o = record { rise = o.rise }

given_kept : (s : State) (p : ℕ) (t : Live) (access : Access) → HasOneMailboxEach s → HasOneMailboxEach (with_donation s p t access)
unfolding with_donation
given_kept s p t access o = record { rise = o.rise }

filled_kept : (s : State) (p : ℕ) → HasOneMailboxEach s → HasOneMailboxEach (with_rx_filled s p)
unfolding with_rx_filled
filled_kept s p o = record { rise = with_pair_rises p (option_map (holding true) (pair_of s.mailboxes p)) 0 s.mailboxes o.rise }

retrieve : (s : State) (c : CallWords) (x : Transfer) → RetrievePasses s c x → HasOneMailboxEach s → HasOneMailboxEach (retrieve_rule s c x).next
retrieve s c x k o =
    retrieve_cases HasOneMailboxEach s c x k (λ u. filled_kept u c.caller)
    (λ e. set_kept s c.caller k.transaction.handle (Some k.access) o)
    (λ e. given_kept s c.caller k.transaction k.access o)

keeps : Keeps HasOneMailboxEach
unfolding with_version with_pair with_rx_released ended
keeps s c (Version word) r is k o = record { rise = o.rise }
keeps s c (Features identifier) r is k o = o
keeps s c RxRelease r is k o = record { rise = with_pair_rises c.caller (option_map (holding false) (pair_of s.mailboxes c.caller)) 0 s.mailboxes o.rise }
keeps s c (RxtxMap tx rx count) r is k o = record { rise = with_pair_rises c.caller (Some (pairs.named_pair tx rx count)) 0 s.mailboxes o.rise }
keeps s c (RxtxUnmap word) r is k o = record { rise = with_pair_rises c.caller None 0 s.mailboxes o.rise }
keeps s c IdGet r is k o = o
keeps s c (Send kind t) r is k o = send s c kind t (send_passes s c kind t k.tests.passed) o
keeps s c (Retrieve x) r is k o = retrieve s c x (retrieve_passes s c x k.tests.passed) o
keeps s c Relinquish r is k o = set_kept s c.caller (given_up c).handle None o
keeps s c (Reclaim handle flags) r is k o = record { rise = o.rise }

first_rises : (least : ℕ) (rows : List PartitionRow) → rise_from least rows ≡ true → Rise least (map first_mailbox rows)
unfolding Rise
first_rises least [] h = tt
first_rises least (row ∷ rows) h =
    let b = both (leb least row.id) (rise_from (row.id + 1) rows) h in
    (omega (arith, leb-true _ _ b.0), first_rises (row.id + 1) rows b.1)

one_mailbox_each : (s : State) → IsReached s → HasOneMailboxEach s
one_mailbox_each = all_reached HasOneMailboxEach (λ m valid. record { rise = first_rises 0 m.partitions (facts m valid).rise }) keeps

-- ---- whose buffer a page may lie in

some_is : (a b : ℕ) → Some a ≡ Some b → a ≡ b
some_is a b e = cc

none_later : (s : State) (p n : ℕ) → owner_of s n ≡ Some p → (least : ℕ) (boxes : List Mailbox) → p < least → Rise least boxes → AllByRecursion (IsOwnBuffer s) boxes → is_buffer boxes n ≡ false
unfolding Rise
none_later s p n own least [] lt rise h = refl
none_later s p n own least (b ∷ boxes) lt rise h =
    elim (option_map_or (λ a. in_pair a n) b.pair false) as (λ t. option_map_or (λ a. in_pair a n) b.pair false ≡ t → (t || is_buffer boxes n) ≡ false) [
      | true ↦ λ e. let q : b.partition ≡ p = some_is _ _ (sym (h.0 n e) ∙ own) in absurd (omega (arith, q, rise.0))
      | false ↦ λ e. none_later s p n own (b.partition + 1) boxes (omega (arith, rise.0)) rise.1 h.1
    ] refl

mine_alone : (s : State) (p n : ℕ) → owner_of s n ≡ Some p → (least : ℕ) (boxes : List Mailbox) → Rise least boxes → AllByRecursion (IsOwnBuffer s) boxes → is_buffer boxes n ≡ option_map_or (λ a. in_pair a n) (pair_of boxes p) false
unfolding Rise
mine_alone s p n own least [] rise h = refl
mine_alone s p n own least (b ∷ boxes) rise h =
    elim (eqb b.partition p) as (λ t. eqb b.partition p ≡ t → is_buffer (b ∷ boxes) n ≡ option_map_or (λ a. in_pair a n) (option_and_then (λ (x : Mailbox). x.pair) (cond t (Some b) (find (λ (x : Mailbox). eqb x.partition p) boxes))) false) [
      | true ↦ λ e.
          let none : is_buffer boxes n ≡ false = none_later s p n own (b.partition + 1) boxes (omega (arith, eqb-true b.partition p e)) rise.1 h.1 in
          elim (option_map_or (λ a. in_pair a n) b.pair false) as (λ t. (t || is_buffer boxes n) ≡ t) [ true ↦ refl | false ↦ none ]
      | false ↦ λ e. elim (option_map_or (λ a. in_pair a n) b.pair false) as (λ t. option_map_or (λ a. in_pair a n) b.pair false ≡ t → (t || is_buffer boxes n) ≡ option_map_or (λ a. in_pair a n) (pair_of boxes p) false) [
        | true ↦ λ i. absurd (let q : b.partition ≡ p = some_is _ _ (sym (h.0 n i) ∙ own) in let yes = eq-eqb b.partition p q in cc)
        | false ↦ λ i. mine_alone s p n own (b.partition + 1) boxes rise.1 h.1
      ] refl
    ] refl

-- an idle page of a partition lies in a buffer exactly where it lies in one of its own
pub own_buffer : (s : State) (p n : ℕ) → IsReached s → is_idle s.manifest s.donations s.live p n ≡ true → is_buffer s.mailboxes n ≡ option_map_or (λ a. in_pair a n) (pair_of s.mailboxes p) false
own_buffer s p n reached idle = mine_alone s p n (owner_from_test (owner_of s n) p (both (owns s p n) (option_map_or is_sharable (region_at s.manifest n) false) (both (owns s p n && option_map_or is_sharable (region_at s.manifest n) false) (not (is_some (live_at s.live n))) idle).0).0) 0 s.mailboxes (one_mailbox_each s reached).rise (buffers_owned s reached).owned
