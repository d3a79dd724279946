-- The law that no handle is used twice.
use Rattle.std.proofs.Common.{◌≡◌, ◌≢◌, ℕ, ◌+◌, ◌-◌, ◌^◌, ◌<◌, ◌≤◌, Bool, true, false, ◌&&◌, ◌||◌, cond, eqb, ltb, List, [], ◌∷◌, length, map, Option, Some, None, is_some, filter, refl, sym, ap, ◌∙◌, arith}
use Rattle.std.specs.List.{AllByRecursion, list_any}
use Rattle.std.specs.Option.{option_map, option_map_or}
use Rattle.std.proofs.lemmas.Bool.{eqb-true, ltb-true, eq-eqb}
use Rattle.std.proofs.lemmas.Bool.Decides.{nat_tests}
use Rattle.base.specs.declared.transaction.Kind.{Kind}
use Rattle.base.specs.Access.{Access, View}
use Rattle.base.specs.Descriptors.Send as descriptor
use Rattle.base.specs.Manifest.{PartitionRow, is_partition}
use Rattle.base.specs.Transactions.{Live}
use Rattle.base.specs.State.{State, PartitionState, first_state, state_of, sends_of, with_partition}
use Rattle.wire.specs.declared.request.Transfer.{Transfer}
use Rattle.wire.specs.declared.request.Request.TheVariants.{Version, Features, RxRelease, RxtxMap, RxtxUnmap, IdGet, Send, Retrieve, Relinquish, Reclaim}
use Rattle.rules.specs.Call.{CallWords}
use Rattle.rules.specs.Calls.Version.{naming, with_version}
use Rattle.rules.specs.Calls.Buffers.{with_pair, with_rx_released}
use Rattle.rules.specs.Calls.Send.{opened, with_transaction, sent, send_rule, counting, has_room, next_handle}
use Rattle.rules.specs.Calls.Reclaim.{ended}
use Rattle.rules.specs.Calls.Relinquish.{given_up}
use Rattle.rules.specs.Calls.Retrieve.{with_donation, with_rx_filled, retrieve_rule}
use Rattle.rules.specs.Receivers.{with_retrieval_by}
use Rattle.rules.specs.Run.{IsReached}
use Rattle.rules.proofs.Calls.Send.{SendPasses, send_passes, next_is}
use Rattle.rules.proofs.Calls.Retrieve.{RetrievePasses, retrieve_passes, retrieve_cases}
use Rattle.rules.proofs.Ended.{all_without, handles_without}
use Rattle.rules.proofs.Retrieved.{all_set, handles_set}
use Rattle.base.proofs.Ascending.{all_with, AreAscending-with}
use Rattle.rules.proofs.Reached.{Keeps, all_reached}
use Rattle.rules.specs.Laws.Handles.{IsCounted, AreHandlesUsedOnce}
use Rattle.base.proofs.Booleans.{both}

-- ---- the change of a partition's state

pub state_after : (p : ℕ) (change : PartitionState → PartitionState) → ((r : PartitionState) → (change r).partition ≡ r.partition) → (rows : List PartitionState) (q : ℕ)
    → state_of (with_partition p change rows) q ≡ cond (eqb q p) (option_map change (state_of rows q)) (state_of rows q)
state_after p change same [] q = elim (eqb q p) as (λ b. None ≡ cond b (option_map change None) None) [ true ↦ refl | false ↦ refl ]
state_after p change same (r ∷ rows) q =
    elim (eqb r.partition p) as (λ t. eqb r.partition p ≡ t → state_of (cond t (change r ∷ rows) (r ∷ with_partition p change rows)) q ≡ cond (eqb q p) (option_map change (state_of (r ∷ rows) q)) (state_of (r ∷ rows) q)) [
      | true ↦ λ e.
          let is : r.partition ≡ p = eqb-true _ _ e in
          let head : eqb (change r).partition q ≡ eqb r.partition q = ap (λ x. eqb x q) (same r) in
          elim (eqb r.partition q) as (λ t. eqb r.partition q ≡ t → state_of (change r ∷ rows) q ≡ cond (eqb q p) (option_map change (cond t (Some r) (state_of rows q))) (cond t (Some r) (state_of rows q))) [
            | true ↦ λ f. let here : eqb q p ≡ true = eq-eqb _ _ (sym (eqb-true _ _ f) ∙ is) in rw (head, f, here) refl
            | false ↦ λ f. let other : eqb q p ≡ false = grind (arith, nat_tests) in rw (head, f, other) refl
          ] refl
      | false ↦ λ e.
          elim (eqb r.partition q) as (λ t. eqb r.partition q ≡ t → cond t (Some r) (state_of (with_partition p change rows) q) ≡ cond (eqb q p) (option_map change (cond t (Some r) (state_of rows q))) (cond t (Some r) (state_of rows q))) [
            | true ↦ λ f. let other : eqb q p ≡ false = grind (arith, nat_tests) in rw other refl
            | false ↦ λ f. state_after p change same rows q
          ] refl
    ] refl

has_after : (b : Bool) (change : PartitionState → PartitionState) (o : Option PartitionState) → is_some (cond b (option_map change o) o) ≡ is_some o
has_after true change None = refl
has_after true change (Some r) = refl
has_after false change o = refl

named_sends : (b : Bool) (word : ℕ) (o : Option PartitionState) → option_map_or (λ (r : PartitionState). r.sends) (cond b (option_map (naming word) o) o) 0 ≡ option_map_or (λ (r : PartitionState). r.sends) o 0
named_sends true word None = refl
named_sends true word (Some r) = refl
named_sends false word o = refl

-- one more send of those that have a row
counted_sends : (b : Bool) (o : Option PartitionState) → option_map_or (λ (r : PartitionState). r.sends) (cond b (option_map counting o) o) 0 ≡ option_map_or (λ (r : PartitionState). r.sends) o 0 + cond (b && is_some o) 1 0
counted_sends true None = refl
counted_sends true (Some r) = refl
counted_sends false o = omega arith

sends_after : (p : ℕ) (rows : List PartitionState) (q : ℕ) → sends_of (with_partition p counting rows) q ≡ sends_of rows q + cond (eqb q p && is_some (state_of rows q)) 1 0
sends_after p rows q = ap (λ (o : Option PartitionState). option_map_or (λ (r : PartitionState). r.sends) o 0) (state_after p counting (λ r. refl) rows q) ∙ counted_sends (eqb q p) (state_of rows q)

-- ---- the transactions

no_fewer : (b : Bool) (n : ℕ) → n ≤ n + cond b 1 0
no_fewer true n = omega arith
no_fewer false n = omega arith

counted_still : (s t : State) → ((p : ℕ) → sends_of s.partitions p ≤ sends_of t.partitions p) → (ts : List Live) → AllByRecursion (IsCounted s) ts → AllByRecursion (IsCounted t) ts
counted_still s t more [] h = tt
counted_still s t more (u ∷ ts) h = ((h.0.0, let m = more u.sender in let b = h.0.1 in omega arith), counted_still s t more ts h.1)

pub other_handle : (s : State) (p : ℕ) (t : Live) → IsCounted s t → (sends_of s.partitions t.sender < 2 ^ 32) → sends_of s.partitions p + 1 < 2 ^ 32 → t.handle ≡ next_handle s p → ⊥
other_handle s p t counted small room same =
    let above = counted.0 in
    let below = counted.1 in
    elim (eqb t.sender p) as (λ b. eqb t.sender p ≡ b → ⊥) [
      | true ↦ λ e. let is : t.sender ≡ p = eqb-true _ _ e in let one : sends_of s.partitions t.sender ≡ sends_of s.partitions p = ap (sends_of s.partitions) is in omega arith
      | false ↦ λ e. let apart : t.sender ≢ p = λ is. let yes = eq-eqb _ _ is in cc in omega arith
    ] refl

other_handles : (s : State) (p : ℕ) (new : Live) → new.handle ≡ next_handle s p → ((q : ℕ) → sends_of s.partitions q < 2 ^ 32) → sends_of s.partitions p + 1 < 2 ^ 32 → (ts : List Live) → AllByRecursion (IsCounted s) ts → AllByRecursion (λ t. t.handle ≢ new.handle) ts
other_handles s p new is small room [] h = tt
other_handles s p new is small room (t ∷ ts) h = (λ same. other_handle s p t h.0 (small t.sender) room (same ∙ is), other_handles s p new is small room ts h.1)

small_after : (b : Bool) (n m : ℕ) → n < 2 ^ 32 → (b ≡ true → n ≡ m) → m + 1 < 2 ^ 32 → n + cond b 1 0 < 2 ^ 32
small_after true n m small same room = let e = same refl in omega arith
small_after false n m small same room = omega arith

opened_kept : (s : State) (p : ℕ) (k : Kind) (v : descriptor.Send) (home : Access) → is_partition s.manifest p ≡ true → has_room s p ≡ true → AreHandlesUsedOnce s → AreHandlesUsedOnce (with_transaction s (opened s p k v home))
unfolding with_transaction has_room
opened_kept s p k v home known has h =
    let t = opened s p k v home in
    let after = with_partition p counting s.partitions in
    let below : sends_of s.partitions p < 2 ^ 32 - 1 = ltb-true _ _ (both (ltb (length (filter (λ (u : Live). eqb u.sender p) s.live)) 32) (ltb (sends_of s.partitions p) (2 ^ 32 - 1)) has).1 in
    let room : sends_of s.partitions p + 1 < 2 ^ 32 = omega arith in
    let row : is_some (state_of s.partitions p) ≡ true = h.rows p ∙ known in
    let self : eqb p p ≡ true = eq-eqb p p refl in
    let one : (eqb p p && is_some (state_of s.partitions p)) ≡ true = rw (self, row) refl in
    let mine : sends_of after p ≡ sends_of s.partitions p + 1 = sends_after p s.partitions p ∙ ap (λ (b : Bool). sends_of s.partitions p + cond b 1 0) one in
    let more : (q : ℕ) → sends_of s.partitions q ≤ sends_of after q = λ q. rw (sends_after p s.partitions q) (no_fewer (eqb q p && is_some (state_of s.partitions q)) (sends_of s.partitions q)) in
    record {
      rows = λ q. ap (λ (o : Option PartitionState). is_some o) (state_after p counting (λ r. refl) s.partitions q) ∙ has_after (eqb q p) counting (state_of s.partitions q) ∙ h.rows q;
      counts = λ q. rw (sends_after p s.partitions q) (small_after (eqb q p && is_some (state_of s.partitions q)) (sends_of s.partitions q) (sends_of s.partitions p) (h.counts q) (λ e. let is : q ≡ p = eqb-true q p (both (eqb q p) (is_some (state_of s.partitions q)) e).0 in ap (λ (x : ℕ). sends_of s.partitions x) is) room);
      counted = all_with (IsCounted (with_transaction s t)) t s.live (counted_still s (with_transaction s t) more s.live h.counted) (omega arith, omega arith);
      ascending = AreAscending-with t s.live h.ascending (other_handles s p t refl h.counts room s.live h.counted);
    }

send : (s : State) (c : CallWords) (k : Kind) (t : Transfer) → is_partition s.manifest c.caller ≡ true → SendPasses s c k t → AreHandlesUsedOnce s → AreHandlesUsedOnce (send_rule s c k t).next
send s c k t known passes h = rw (next_is s c k t passes) (opened_kept s c.caller k (sent s c t) passes.home known passes.room h)

named_kept : (s : State) (p word : ℕ) → AreHandlesUsedOnce s → AreHandlesUsedOnce (with_version s p word)
unfolding with_version
named_kept s p word h =
    let after = with_partition p (naming word) s.partitions in
    let same : (q : ℕ) → sends_of after q ≡ sends_of s.partitions q = λ q. ap (λ (o : Option PartitionState). option_map_or (λ (r : PartitionState). r.sends) o 0) (state_after p (naming word) (λ r. refl) s.partitions q) ∙ named_sends (eqb q p) word (state_of s.partitions q) in
    record {
      rows = λ q. ap (λ (o : Option PartitionState). is_some o) (state_after p (naming word) (λ r. refl) s.partitions q) ∙ has_after (eqb q p) (naming word) (state_of s.partitions q) ∙ h.rows q;
      counts = λ q. rw (same q) (h.counts q);
      counted = counted_still s (with_version s p word) (λ q. rw (same q) (omega arith)) s.live h.counted;
      ascending = h.ascending;
    }

ended_kept : (s : State) (handle : ℕ) → AreHandlesUsedOnce s → AreHandlesUsedOnce (ended s handle)
unfolding ended
ended_kept s handle h =
    record {
      rows = h.rows;
      counts = h.counts;
      counted = all_without (IsCounted s) handle s.live h.counted;
      ascending = handles_without handle s.live h.ascending;
    }

set_kept : (s : State) (p handle : ℕ) (view : View) → AreHandlesUsedOnce s → AreHandlesUsedOnce (with_retrieval_by s p handle view)
unfolding with_retrieval_by
set_kept s p handle view h =
    record {
      rows = h.rows;
      counts = h.counts;
      counted = all_set (IsCounted s) handle p view s.live h.counted (λ t e x. x);
      ascending = handles_set handle p view s.live h.ascending;
    }

given_kept : (s : State) (p : ℕ) (t : Live) (access : Access) → AreHandlesUsedOnce s → AreHandlesUsedOnce (with_donation s p t access)
unfolding with_donation
given_kept s p t access h =
    record {
      rows = h.rows;
      counts = h.counts;
      counted = all_without (IsCounted s) t.handle s.live h.counted;
      ascending = handles_without t.handle s.live h.ascending;
    }

filled_kept : (s : State) (p : ℕ) → AreHandlesUsedOnce s → AreHandlesUsedOnce (with_rx_filled s p)
unfolding with_rx_filled
filled_kept s p h = record { rows = h.rows; counts = h.counts; counted = h.counted; ascending = h.ascending }

retrieve : (s : State) (c : CallWords) (x : Transfer) → RetrievePasses s c x → AreHandlesUsedOnce s → AreHandlesUsedOnce (retrieve_rule s c x).next
retrieve s c x k h =
    retrieve_cases AreHandlesUsedOnce s c x k (λ u. filled_kept u c.caller)
    (λ e. set_kept s c.caller k.transaction.handle (Some k.access) h)
    (λ e. given_kept s c.caller k.transaction k.access h)

keeps : Keeps AreHandlesUsedOnce
unfolding with_pair with_rx_released
keeps s c (Version word) r is k h = named_kept s c.caller word h
keeps s c (Features identifier) r is k h = h
keeps s c RxRelease r is k h = record { rows = h.rows; counts = h.counts; counted = h.counted; ascending = h.ascending }
keeps s c (RxtxMap tx rx count) r is k h = record { rows = h.rows; counts = h.counts; counted = h.counted; ascending = h.ascending }
keeps s c (RxtxUnmap word) r is k h = record { rows = h.rows; counts = h.counts; counted = h.counted; ascending = h.ascending }
keeps s c IdGet r is k h = h
keeps s c (Send kind t) r is k h = send s c kind t k.tests.known (send_passes s c kind t k.tests.passed) h
keeps s c (Retrieve x) r is k h = retrieve s c x (retrieve_passes s c x k.tests.passed) h
keeps s c Relinquish r is k h = set_kept s c.caller (given_up c).handle None h
keeps s c (Reclaim handle flags) r is k h = ended_kept s handle h

first_rows : (rows : List PartitionRow) (p : ℕ) → is_some (state_of (map first_state rows) p) ≡ list_any (λ (row : PartitionRow). eqb row.id p) rows
first_rows [] p = refl
first_rows (row ∷ rows) p = elim (eqb row.id p) as (λ b. is_some (cond b (Some (first_state row)) (state_of (map first_state rows) p)) ≡ (b || list_any (λ (row : PartitionRow). eqb row.id p) rows)) [ true ↦ refl | false ↦ first_rows rows p ]

first_counts : (rows : List PartitionRow) (p : ℕ) → sends_of (map first_state rows) p ≡ 0
first_counts [] p = refl
first_counts (row ∷ rows) p = elim (eqb row.id p) as (λ b. option_map_or (λ (r : PartitionState). r.sends) (cond b (Some (first_state row)) (state_of (map first_state rows) p)) 0 ≡ 0) [ true ↦ refl | false ↦ first_counts rows p ]

pub handles_used_once : (s : State) → IsReached s → AreHandlesUsedOnce s
handles_used_once = all_reached AreHandlesUsedOnce (λ m valid. record { rows = first_rows m.partitions; counts = λ p. rw (first_counts m.partitions p) (omega arith); counted = tt; ascending = tt }) keeps
