-- The law of isolation: what a partition is answered, and what becomes of what it may learn, depends on that alone.
use Rattle.std.proofs.Common.{◌≡◌, ◌≢◌, ℕ, zero, suc, ◌+◌, ◌*◌, ◌^◌, Bool, true, false, ◌&&◌, ◌||◌, not, cond, eqb, leb, List, [], ◌∷◌, ◌++◌, length, map, filter, Option, Some, None, is_some, refl, sym, ap, ap₂, subst, ◌∙◌, eq-eqb, find, arith}
use Rattle.std.specs.List.{AllByRecursion, list_any, list_all}
use Rattle.std.specs.Option.{option_map, option_and_then, option_map_or}
use Rattle.std.proofs.lemmas.Bool.{eqb-true}
use Rattle.base.specs.declared.status.Status.{Status}
use Rattle.base.specs.declared.status.Status.TheVariants.{NotSupported, NoMemory, Denied}
use Rattle.base.specs.declared.transaction.Kind.{Kind}
use Rattle.base.specs.declared.transaction.Kind.TheVariants.{Share, Lend, Donate}
use Rattle.base.specs.declared.partition.Version.TheVariants.{V11}
use mathlib.Core.Path.{fun_ext}
use Rattle.base.specs.Access.{Access, View, is_rw, is_reached_with}
use Rattle.base.specs.Need.{need, grow, reaching}
use Rattle.base.specs.Buffers as pairs
use Rattle.base.specs.Buffers.{Pair, Mailbox, pair_of, has_pair, holds_rx, in_pair, is_buffer, holding, named_pair}
use Rattle.base.specs.Descriptors.Send as descriptor
use Rattle.base.specs.Descriptors.Send.{Endpoint, is_send, send_of, orders_clear}
use Rattle.base.specs.Descriptors.Retrieve as descriptors
use Rattle.base.specs.Descriptors.Retrieve.{is_retrieve, retrieve_of}
use Rattle.base.specs.Manifest.{PartitionRow, is_partition}
use Rattle.base.specs.Pages.{PageRun, covers}
use Rattle.base.specs.Refusals.{Test, first_refusal}
use Rattle.base.specs.Transactions.{Live, AreAscending, with_live, without, with_retrieval, with_retrieval_of}
use Rattle.base.proofs.Ascending.{filter-one}
use Rattle.base.specs.Ledger.{live_at, view}
use Rattle.base.specs.State.{State, PartitionState, state_of, with_partition, owner_of, owns, home_of, is_free, free_home, is_free_with, common_home, each_page, each_page_in, sees}
use Rattle.wire.specs.declared.request.Request.{Request}
use Rattle.wire.specs.declared.request.Transfer.{Transfer}
use Rattle.wire.specs.declared.request.Request.TheVariants.{Version, Features, RxRelease, RxtxMap, RxtxUnmap, IdGet, Send, Retrieve, Relinquish, Reclaim}
use Rattle.wire.specs.Requests.{request_of}
use Rattle.wire.specs.Replies.{error}
use Rattle.rules.specs.Call.{CallWords}
use Rattle.rules.specs.Rule.{Edit, taken_from, given_to, Rule, refused, fits, all_tests, reply_of, next_of, with_edit}
use Rattle.rules.specs.Calls.Version.{naming, with_version}
use Rattle.rules.specs.Calls.Buffers.{with_pair, with_rx_released, may_be_buffer, may_be_buffers, map_tests}
use Rattle.rules.specs.Transfers.{has_lengths, caller_version, bytes_of}
use Rattle.rules.specs.Calls.Send.{sent, is_receiver, are_distinct, are_parties, has_room, next_handle, opened, counting, with_transaction, sender_edit, send_tests, send_rule}
use Rattle.rules.specs.Calls.Reclaim.{sent_with, returned, returned_by, ended, reclaim_tests, reclaim_rule}
use Rattle.rules.specs.Calls.Relinquish.{given_up, given_back_by, relinquish_tests, relinquish_rule}
use Rattle.rules.specs.Calls.Retrieve.{asked, fits_rx, request_tests, transaction_tests, retrieve_tests, Retrieval, retrieval_with, retrieval_of, retrieved_by, responding, with_donation, with_rx_filled, with_retrieval_of_kind, retrieve_rule}
use Rattle.rules.specs.Receivers.{is_received_by, received_with, with_retrieval_by}
use Rattle.rules.specs.Run.{rule_of, rule, answer, step, IsReached}
use Rattle.rules.specs.Laws.EditsTheView.{Passes}
use Rattle.rules.specs.Laws.OneOwner.{IsOwnSend}
use Rattle.rules.specs.Laws.SentPages.{AreSentPages}
use Rattle.rules.specs.Laws.Isolation.{names, transactions_of, mailboxes_of, is_sharable_at, AreAlikeTo, IsIsolated}
use Rattle.base.proofs.Booleans.{both}
use Rattle.rules.proofs.Calls.Reclaim.{ReclaimPasses, reclaim_passes}
use Rattle.rules.proofs.Calls.Relinquish.{relinquish_passes}
use Rattle.rules.proofs.Calls.Retrieve.{RetrievePasses, retrieve_passes, retrieved_is}
use Rattle.rules.proofs.Ended.{found_is, found_in, found_first}
use Rattle.rules.proofs.Given.{given_owner, given_home}
use Rattle.rules.proofs.Retrieved.{receivers_set}
use Rattle.rules.proofs.Calls.Send.{SendPasses, send_passes, next_is}
use Rattle.rules.proofs.FreePages.{owner_from_test, not_eqb}
use Rattle.rules.proofs.Laws.EditsTheView.{edits_the_view, filled_sees}
use Rattle.rules.proofs.Laws.Handles.{state_after, handles_used_once}
use Rattle.rules.proofs.Laws.OneOwner.{owned_once, first_is}
use Rattle.rules.proofs.Laws.SentPages.{transactions_kept}
use Rattle.rules.proofs.Laws.OwnBuffers.{IsOwnBuffer, AreBuffersOwned, buffers_owned}
use Rattle.rules.proofs.Passing.{before_last}
use Rattle.rules.proofs.Reached.{step_cases}

-- ---- of one state: what is asked of a partition's pages is asked of what names it

some_is : (a b : ℕ) → Some a ≡ Some b → a ≡ b
some_is a b e = cc

some_live : (t u : Live) → Some t ≡ Some u → t ≡ u
some_live t u e = cc

module _ (s : State) (p n : ℕ) (own : owner_of s n ≡ Some p) where
  live_mine : (ts : List Live) → AllByRecursion (IsOwnSend s) ts → is_some (live_at ts n) ≡ is_some (live_at (transactions_of p ts) n)
  live_mine [] h = refl
  live_mine (t ∷ ts) h =
      let here : covers t.ranges n ≡ true → names p t ≡ true = λ e. let q : t.sender ≡ p = some_is _ _ (sym (h.0 n e) ∙ own) in rw (eq-eqb t.sender p q) refl in
      elim (covers t.ranges n) as (λ b. covers t.ranges n ≡ b → is_some (cond b (Some t) (live_at ts n)) ≡ is_some (live_at (cond (names p t) (t ∷ transactions_of p ts) (transactions_of p ts)) n)) [
        | true ↦ λ e. rw (here e, e) refl
        | false ↦ λ e. elim (names p t) as (λ k. is_some (live_at ts n) ≡ is_some (live_at (cond k (t ∷ transactions_of p ts) (transactions_of p ts)) n)) [
          | true ↦ rw e (live_mine ts h.1)
          | false ↦ live_mine ts h.1
        ]
      ] refl

  buffers_mine : (boxes : List Mailbox) → AllByRecursion (IsOwnBuffer s) boxes → is_buffer boxes n ≡ is_buffer (mailboxes_of p boxes) n
  buffers_mine [] h = refl
  buffers_mine (b ∷ boxes) h =
      elim (option_map_or (λ a. in_pair a n) b.pair false) as (λ t. option_map_or (λ a. in_pair a n) b.pair false ≡ t → (t || is_buffer boxes n) ≡ is_buffer (cond (eqb b.partition p) (b ∷ mailboxes_of p boxes) (mailboxes_of p boxes)) n) [
        | true ↦ λ e. let q : b.partition ≡ p = some_is _ _ (sym (h.0 n e) ∙ own) in rw (eq-eqb b.partition p q, e) refl
        | false ↦ λ e. elim (eqb b.partition p) as (λ k. is_buffer boxes n ≡ is_buffer (cond k (b ∷ mailboxes_of p boxes) (mailboxes_of p boxes)) n) [
          | true ↦ rw e (buffers_mine boxes h.1)
          | false ↦ buffers_mine boxes h.1
        ]
      ] refl

pair_mine : (boxes : List Mailbox) (p : ℕ) → pair_of boxes p ≡ pair_of (mailboxes_of p boxes) p
pair_mine [] p = refl
pair_mine (b ∷ boxes) p =
    elim (eqb b.partition p) as (λ t. eqb b.partition p ≡ t → option_and_then (λ (x : Mailbox). x.pair) (cond t (Some b) (find (λ (x : Mailbox). eqb x.partition p) boxes)) ≡ pair_of (cond t (b ∷ mailboxes_of p boxes) (mailboxes_of p boxes)) p) [
      | true ↦ λ e. rw e refl
      | false ↦ λ e. pair_mine boxes p
    ] refl

partition_ids : (rows : List PartitionRow) (q : ℕ) → list_any (λ row. eqb row.id q) rows ≡ list_any (λ i. eqb i q) (map (λ row. row.id) rows)
partition_ids [] q = refl
partition_ids (row ∷ rows) q = ap (λ (b : Bool). eqb row.id q || b) (partition_ids rows q)

sends_mine : (ts : List Live) (p : ℕ) → filter (λ t. eqb t.sender p) ts ≡ filter (λ t. eqb t.sender p) (transactions_of p ts)
sends_mine [] p = refl
sends_mine (t ∷ ts) p =
    elim (eqb t.sender p) as (λ b. eqb t.sender p ≡ b → cond b (t ∷ filter (λ u. eqb u.sender p) ts) (filter (λ u. eqb u.sender p) ts) ≡ filter (λ u. eqb u.sender p) (cond (b || list_any (λ r. eqb r.partition p) t.receivers) (t ∷ transactions_of p ts) (transactions_of p ts))) [
      | true ↦ λ e. rw e (ap (λ us. t ∷ us) (sends_mine ts p))
      | false ↦ λ e. elim (list_any (λ r. eqb r.partition p) t.receivers) as (λ k. filter (λ u. eqb u.sender p) ts ≡ filter (λ u. eqb u.sender p) (cond k (t ∷ transactions_of p ts) (transactions_of p ts))) [
        | true ↦ rw e (sends_mine ts p)
        | false ↦ sends_mine ts p
      ]
    ] refl

-- the change of a pair among the mailboxes of a partition
mailboxes_mine : (p : ℕ) (pair : Option Pair) (boxes : List Mailbox) → mailboxes_of p (pairs.with_pair p pair boxes) ≡ pairs.with_pair p pair (mailboxes_of p boxes)
mailboxes_mine p pair [] = refl
mailboxes_mine p pair (b ∷ boxes) =
    elim (eqb b.partition p) as (λ t. eqb b.partition p ≡ t → mailboxes_of p (cond t (record b { pair = pair } ∷ boxes) (b ∷ pairs.with_pair p pair boxes)) ≡ pairs.with_pair p pair (cond t (b ∷ mailboxes_of p boxes) (mailboxes_of p boxes))) [
      | true ↦ λ e. rw e refl
      | false ↦ λ e. rw e (mailboxes_mine p pair boxes)
    ] refl

mailboxes_other : (p q : ℕ) (pair : Option Pair) → eqb q p ≡ false → (boxes : List Mailbox) → mailboxes_of p (pairs.with_pair q pair boxes) ≡ mailboxes_of p boxes
mailboxes_other p q pair ne [] = refl
mailboxes_other p q pair ne (b ∷ boxes) =
    elim (eqb b.partition q) as (λ t. eqb b.partition q ≡ t → mailboxes_of p (cond t (record b { pair = pair } ∷ boxes) (b ∷ pairs.with_pair q pair boxes)) ≡ mailboxes_of p (b ∷ boxes)) [
      | true ↦ λ e. let w : eqb b.partition p ≡ false = ap (λ (y : ℕ). eqb y p) (eqb-true b.partition q e) ∙ ne in rw w refl
      | false ↦ λ e. elim (eqb b.partition p) as (λ k. cond k (b ∷ mailboxes_of p (pairs.with_pair q pair boxes)) (mailboxes_of p (pairs.with_pair q pair boxes)) ≡ cond k (b ∷ mailboxes_of p boxes) (mailboxes_of p boxes)) [
        | true ↦ ap (λ ys. b ∷ ys) (mailboxes_other p q pair ne boxes)
        | false ↦ mailboxes_other p q pair ne boxes
      ]
    ] refl

-- ---- the transaction that a partition has sent with a handle

-- one that names the partition is among those that do
find_mine : (p : ℕ) (g : Live → Bool) → ((u : Live) → g u ≡ true → names p u ≡ true) → (ts : List Live) → find g ts ≡ find g (transactions_of p ts)
find_mine p g h [] = refl
find_mine p g h (t ∷ ts) =
    elim (g t) as (λ b. g t ≡ b → cond b (Some t) (find g ts) ≡ find g (cond (names p t) (t ∷ transactions_of p ts) (transactions_of p ts))) [
      | true ↦ λ e. let mine = h t e in rw (mine, e) refl
      | false ↦ λ e. elim (names p t) as (λ k. find g ts ≡ find g (cond k (t ∷ transactions_of p ts) (transactions_of p ts))) [
        | true ↦ rw e (find_mine p g h ts)
        | false ↦ find_mine p g h ts
      ]
    ] refl

sent_mine : (p h : ℕ) (u : Live) → (eqb u.handle h && eqb u.sender p) ≡ true → names p u ≡ true
sent_mine p h u e = let is = (both (eqb u.handle h) (eqb u.sender p) e).1 in rw is refl

or_true : (b : Bool) → (b || true) ≡ true
or_true true = refl
or_true false = refl

received_mine : (p h : ℕ) (u : Live) → (eqb u.handle h && is_received_by p u) ≡ true → names p u ≡ true
received_mine p h u e = let is = (both (eqb u.handle h) (is_received_by p u) e).1 in rw is (or_true (eqb u.sender p))

without_mine : (p h : ℕ) (ts : List Live) (t : Live) → find (λ u. eqb u.handle h) ts ≡ Some t → names p t ≡ true → transactions_of p (without h ts) ≡ without h (transactions_of p ts)
without_mine p h [] t e mine = absurd cc
without_mine p h (u ∷ us) t e mine =
    elim (eqb u.handle h) as (λ b. eqb u.handle h ≡ b → cond b (Some u) (find (λ v. eqb v.handle h) us) ≡ Some t → transactions_of p (cond b us (u ∷ without h us)) ≡ without h (cond (names p u) (u ∷ transactions_of p us) (transactions_of p us))) [
      | true ↦ λ is k. let one : u ≡ t = cc in let here : names p u ≡ true = ap (names p) one ∙ mine in rw (here, is) refl
      | false ↦ λ is k. elim (names p u) as (λ b. cond b (u ∷ transactions_of p (without h us)) (transactions_of p (without h us)) ≡ without h (cond b (u ∷ transactions_of p us) (transactions_of p us))) [
        | true ↦ rw is (ap (λ ts. u ∷ ts) (without_mine p h us t k mine))
        | false ↦ without_mine p h us t k mine
      ]
    ] refl e

named_set : (p q : ℕ) (view : View) (u : Live) → names p (with_retrieval q view u) ≡ names p u
named_set p q view u = ap (λ (b : Bool). eqb u.sender p || b) (receivers_set u.receivers q p view)

set_mine : (p h q : ℕ) (view : View) (ts : List Live) (t : Live) → find (λ u. eqb u.handle h) ts ≡ Some t → names p t ≡ true → transactions_of p (with_retrieval_of h q view ts) ≡ with_retrieval_of h q view (transactions_of p ts)
set_mine p h q view [] t e mine = absurd cc
set_mine p h q view (u ∷ us) t e mine =
    elim (eqb u.handle h) as (λ b. eqb u.handle h ≡ b → cond b (Some u) (find (λ v. eqb v.handle h) us) ≡ Some t → transactions_of p (cond b (with_retrieval q view u ∷ us) (u ∷ with_retrieval_of h q view us)) ≡ with_retrieval_of h q view (cond (names p u) (u ∷ transactions_of p us) (transactions_of p us))) [
      | true ↦ λ is k.
          let here : names p u ≡ true = ap (names p) (some_live u t k) ∙ mine in
          let after : names p (with_retrieval q view u) ≡ true = named_set p q view u ∙ here in
          rw (here, after, is) refl
      | false ↦ λ is k. elim (names p u) as (λ b. cond b (u ∷ transactions_of p (with_retrieval_of h q view us)) (transactions_of p (with_retrieval_of h q view us)) ≡ with_retrieval_of h q view (cond b (u ∷ transactions_of p us) (transactions_of p us))) [
        | true ↦ rw is (ap (λ ts. u ∷ ts) (set_mine p h q view us t k mine))
        | false ↦ set_mine p h q view us t k mine
      ]
    ] refl e

-- one that has ended and changes nothing for the partition does not name it
fewer : (h : ℕ) (ts : List Live) (t : Live) → find (λ u. eqb u.handle h) ts ≡ Some t → suc (length (without h ts)) ≡ length ts
fewer h [] t e = absurd cc
fewer h (u ∷ us) t e =
    elim (eqb u.handle h) as (λ b. cond b (Some u) (find (λ v. eqb v.handle h) us) ≡ Some t → suc (length (cond b us (u ∷ without h us))) ≡ suc (length us)) [
      | true ↦ λ k. refl
      | false ↦ λ k. ap suc (fewer h us t k)
    ] e

find_named : (p h : ℕ) (ts : List Live) (t : Live) → find (λ u. eqb u.handle h) ts ≡ Some t → names p t ≡ true → find (λ u. eqb u.handle h) (transactions_of p ts) ≡ Some t
find_named p h [] t e mine = absurd cc
find_named p h (u ∷ us) t e mine =
    elim (eqb u.handle h) as (λ b. eqb u.handle h ≡ b → cond b (Some u) (find (λ v. eqb v.handle h) us) ≡ Some t → find (λ v. eqb v.handle h) (cond (names p u) (u ∷ transactions_of p us) (transactions_of p us)) ≡ Some t) [
      | true ↦ λ is k. let here : names p u ≡ true = ap (names p) (some_live u t k) ∙ mine in rw (here, is) k
      | false ↦ λ is k. elim (names p u) as (λ b. find (λ v. eqb v.handle h) (cond b (u ∷ transactions_of p us) (transactions_of p us)) ≡ Some t) [
        | true ↦ rw is (find_named p h us t k mine)
        | false ↦ find_named p h us t k mine
      ]
    ] refl e

not_named : (p h : ℕ) (ts : List Live) (t : Live) → find (λ u. eqb u.handle h) ts ≡ Some t → transactions_of p (without h ts) ≡ transactions_of p ts → names p t ≡ false
not_named p h ts t e kept =
    elim (names p t) as (λ b. names p t ≡ b → b ≡ false) [
      | true ↦ λ mine. absurd (
          let less : suc (length (without h (transactions_of p ts))) ≡ length (transactions_of p ts) = fewer h (transactions_of p ts) t (find_named p h ts t e mine) in
          let same : length (without h (transactions_of p ts)) ≡ length (transactions_of p ts) = ap (λ (us : List Live). length us) (sym (without_mine p h ts t e mine) ∙ kept) in
          omega arith)
      | false ↦ λ other. refl
    ] refl

-- ---- two states that are alike, with other parts

-- as alike as the parts are that changed: what is kept of each partition, its buffers, the transactions, and with them what is reached
parts_alike : (p : ℕ) (s t : State) → AreAlikeTo p s t → {us ut : List Live} {bs bt : List Mailbox} {rs rt : List PartitionState} → state_of rs p ≡ state_of rt p → mailboxes_of p bs ≡ mailboxes_of p bt → transactions_of p us ≡ transactions_of p ut
    → ((n : ℕ) → view s.manifest s.donations us p n ≡ view t.manifest t.donations ut p n)
    → AreAlikeTo p (record s { live = us; mailboxes = bs; partitions = rs }) (record t { live = ut; mailboxes = bt; partitions = rt })
parts_alike p s t same state boxes kept seen = record {
  partitions = same.partitions;
  quota = same.quota;
  grants = same.grants;
  state = state;
  buffers = boxes;
  owned = same.owned;
  homes = same.homes;
  sharable = same.sharable;
  transactions = kept;
  views = seen;
}

-- ---- RX

rx_alike : (p : ℕ) (held : Bool) (b c : List Mailbox) → mailboxes_of p b ≡ mailboxes_of p c → mailboxes_of p (pairs.with_rx p held b) ≡ mailboxes_of p (pairs.with_rx p held c)
rx_alike p held b c e =
    let pair : pair_of b p ≡ pair_of c p = pair_mine b p ∙ ap (λ bs. pair_of bs p) e ∙ sym (pair_mine c p) in
    mailboxes_mine p (option_map (holding held) (pair_of b p)) b ∙ ap₂ (λ (o : Option Pair) (bs : List Mailbox). pairs.with_pair p (option_map (holding held) o) bs) pair e ∙ sym (mailboxes_mine p (option_map (holding held) (pair_of c p)) c)

filled_alike : (p : ℕ) (u v : State) → AreAlikeTo p u v → AreAlikeTo p (with_rx_filled u p) (with_rx_filled v p)
unfolding with_rx_filled
filled_alike p u v same =
    parts_alike p u v same same.state (rx_alike p true u.mailboxes v.mailboxes same.buffers) same.transactions same.views

-- ---- what agrees at each page or element

each_page_same : (f g : ℕ → Bool) → ((n : ℕ) → f n ≡ g n) → (count first : ℕ) → each_page f first count ≡ each_page g first count
each_page_same f g h zero first = refl
each_page_same f g h (suc count) first = rw (h first, each_page_same f g h count (first + 1)) refl

each_in_same : (f g : ℕ → Bool) → ((n : ℕ) → f n ≡ g n) → (runs : List PageRun) → each_page_in f runs ≡ each_page_in g runs
each_in_same f g h [] = refl
each_in_same f g h (run ∷ runs) = rw (each_page_same f g h run.count run.first, each_in_same f g h runs) refl

all_same : {X : Type 0} (f g : X → Bool) → ((x : X) → f x ≡ g x) → (xs : List X) → list_all f xs ≡ list_all g xs
all_same f g h [] = refl
all_same f g h (x ∷ xs) = rw (h x, all_same f g h xs) refl

then_same : (f g : Access → View) → ((a : Access) → f a ≡ g a) → (view : View) → option_and_then f view ≡ option_and_then g view
then_same f g h None = refl
then_same f g h (Some a) = h a

edit_same : (edit : Option Edit) (view other : ℕ → ℕ → View) (p n : ℕ) → view p n ≡ other p n → with_edit edit view p n ≡ with_edit edit other p n
edit_same None view other p n e = e
edit_same (Some edit) view other p n e = ap (λ (v : View). cond (eqb p edit.who && covers edit.runs n) edit.to v) e

not_free : (s : State) (p n : ℕ) → owns s p n ≡ false → is_free s p n ≡ false
unfolding is_free
not_free s p n e = rw e refl

owned_after : (p : ℕ) (c : Bool) (o e : Option ℕ) → option_map_or (λ x. eqb x p) o false ≡ option_map_or (λ x. eqb x p) e false → option_map_or (λ x. eqb x p) (cond c (Some p) o) false ≡ option_map_or (λ x. eqb x p) (cond c (Some p) e) false
owned_after p true o e same = refl
owned_after p false o e same = same

-- ---- the rules of two states

-- what makes two rules alike to a partition
record AreAlikeRules (p : ℕ) (s t : State) (a b : Rule) : Type 0 where
  tests : a.tests ≡ b.tests
  fit : fits s a.edit ≡ fits t b.edit
  reply : a.reply ≡ b.reply
  next : first_refusal a.tests ≡ None → fits s a.edit ≡ true → AreAlikeTo p a.next b.next

no_edit : (s t : State) → fits s None ≡ fits t None
unfolding fits
no_edit s t = refl

all_alike : (p : ℕ) (s t : State) (a b : Rule) → AreAlikeRules p s t a b → all_tests s a ≡ all_tests t b
all_alike p s t a b k = rw (k.tests, k.fit) refl

alike_replies : (p : ℕ) (s t : State) (a b : Rule) → AreAlikeRules p s t a b → reply_of s a ≡ reply_of t b
alike_replies p s t a b k = rw (all_alike p s t a b k, k.reply) refl

alike_next : (p : ℕ) (s t : State) (a b : Rule) → AreAlikeTo p s t → AreAlikeRules p s t a b → AreAlikeTo p (next_of s a) (next_of t b)
alike_next p s t a b same k =
    let tests = all_alike p s t a b k in
    rw (← tests) (elim (first_refusal (all_tests s a)) as (λ o. first_refusal (all_tests s a) ≡ o → AreAlikeTo p (option_map_or (λ (status : Status). s) o a.next) (option_map_or (λ (status : Status). t) o b.next)) [
      | None ↦ λ e. let both = before_last a.tests (fits s a.edit) NoMemory e in k.next both.0 both.1
      | Some status ↦ λ e. same
    ] refl)

module _ (p : ℕ) (s t : State) (same : AreAlikeTo p s t) (sends_s : AllByRecursion (IsOwnSend s) s.live) (sends_t : AllByRecursion (IsOwnSend t) t.live) (boxes_s : AreBuffersOwned s) (boxes_t : AreBuffersOwned t) where
  same_free : (n : ℕ) → is_free s p n ≡ is_free t p n
  unfolding is_free
  same_free n =
      elim (owns s p n) as (λ b. owns s p n ≡ b → is_free s p n ≡ is_free t p n) [
        | true ↦ λ e.
            let f : owns t p n ≡ true = sym (same.owned n) ∙ e in
            let os = owner_from_test (owner_of s n) p e in
            let ot = owner_from_test (owner_of t n) p f in
            let share : is_sharable_at s n ≡ is_sharable_at t n = same.sharable n e in
            let live : is_some (live_at s.live n) ≡ is_some (live_at t.live n) = live_mine s p n os s.live sends_s ∙ ap (λ ts. is_some (live_at ts n)) same.transactions ∙ sym (live_mine t p n ot t.live sends_t) in
            let buffer : is_buffer s.mailboxes n ≡ is_buffer t.mailboxes n = buffers_mine s p n os s.mailboxes boxes_s.owned ∙ ap (λ bs. is_buffer bs n) same.buffers ∙ sym (buffers_mine t p n ot t.mailboxes boxes_t.owned) in
            rw (e, f, share, live, buffer) refl
        | false ↦ λ e. let f : owns t p n ≡ false = sym (same.owned n) ∙ e in rw (e, f) refl
      ] refl

  same_free_home : (n : ℕ) → free_home s p n ≡ free_home t p n
  unfolding free_home
  same_free_home n =
      elim (owns s p n) as (λ b. owns s p n ≡ b → free_home s p n ≡ free_home t p n) [
        | true ↦ λ e. ap (λ (b : Bool). cond b (home_of s n) None) (same_free n) ∙ ap (λ (h : View). cond (is_free t p n) h None) (same.homes n e)
        | false ↦ λ e. let u = not_free s p n e in let v = not_free t p n (sym (same.owned n) ∙ e) in rw (u, v) refl
      ] refl

  same_with : (home : Access) (n : ℕ) → is_free_with s p home n ≡ is_free_with t p home n
  unfolding is_free_with
  same_with home n = ap (is_reached_with home) (same_free_home n)

  same_common : (runs : List PageRun) → common_home s p runs ≡ common_home t p runs
  unfolding common_home
  same_common [] = refl
  same_common (run ∷ runs) =
      ap (λ (v : View). option_and_then (λ home. cond (each_page_in (is_free_with s p home) (run ∷ runs)) (Some home) None) v) (same_free_home run.first)
      ∙ then_same (λ home. cond (each_page_in (is_free_with s p home) (run ∷ runs)) (Some home) None) (λ home. cond (each_page_in (is_free_with t p home) (run ∷ runs)) (Some home) None)
      (λ home. ap (λ (b : Bool). cond b (Some home) None) (each_in_same (is_free_with s p home) (is_free_with t p home) (same_with home) (run ∷ runs))) (free_home t p run.first)

  same_may_buffer : (n : ℕ) → may_be_buffer s p n ≡ may_be_buffer t p n
  unfolding may_be_buffer
  same_may_buffer n = ap (λ (v : View). option_map_or (λ home. is_rw home.rights) v false) (same_free_home n)

  same_pair_of : pair_of s.mailboxes p ≡ pair_of t.mailboxes p
  same_pair_of = pair_mine s.mailboxes p ∙ ap (λ bs. pair_of bs p) same.buffers ∙ sym (pair_mine t.mailboxes p)

  same_pair : has_pair s.mailboxes p ≡ has_pair t.mailboxes p
  unfolding has_pair
  same_pair = ap (λ (o : Option Pair). is_some o) same_pair_of

  same_held : holds_rx s.mailboxes p ≡ holds_rx t.mailboxes p
  unfolding holds_rx
  same_held = ap (λ (o : Option Pair). option_map_or (λ pair. pair.held) o false) same_pair_of

  same_partition : (q : ℕ) → is_partition s.manifest q ≡ is_partition t.manifest q
  same_partition q = partition_ids s.manifest.partitions q ∙ ap (λ is. list_any (λ i. eqb i q) is) same.partitions ∙ sym (partition_ids t.manifest.partitions q)

  same_parties : (v : descriptor.Send) → are_parties s p v ≡ are_parties t p v
  unfolding are_parties
  same_parties v =
      ap (λ (b : Bool). (eqb v.sender p && b) && are_distinct v.receivers) (all_same (is_receiver s p) (is_receiver t p) (λ e. ap (λ (b : Bool). not (eqb e.partition p) && b) (same_partition e.partition)) v.receivers)

  same_room : has_room s p ≡ has_room t p
  unfolding has_room
  same_room =
      let counts = sends_mine s.live p ∙ ap (λ ts. filter (λ (u : Live). eqb u.sender p) ts) same.transactions ∙ sym (sends_mine t.live p) in
      rw (counts, same.state) refl

  same_state_after : (change : PartitionState → PartitionState) → ((r : PartitionState) → (change r).partition ≡ r.partition) → state_of (with_partition p change s.partitions) p ≡ state_of (with_partition p change t.partitions) p
  same_state_after change keeps = state_after p change keeps s.partitions p ∙ ap (λ (o : Option PartitionState). cond (eqb p p) (option_map change o) o) same.state ∙ sym (state_after p change keeps t.partitions p)

  same_boxes_after : (pair : Option Pair) → mailboxes_of p (pairs.with_pair p pair s.mailboxes) ≡ mailboxes_of p (pairs.with_pair p pair t.mailboxes)
  same_boxes_after pair = mailboxes_mine p pair s.mailboxes ∙ ap (pairs.with_pair p pair) same.buffers ∙ sym (mailboxes_mine p pair t.mailboxes)

  -- ---- the states after a call of the partition

  named : (word : ℕ) → AreAlikeTo p (with_version s p word) (with_version t p word)
  unfolding with_version
  named word = parts_alike p s t same (same_state_after (naming word) (λ r. refl)) same.buffers same.transactions same.views

  paired : (pair : Option Pair) → AreAlikeTo p (with_pair s p pair) (with_pair t p pair)
  unfolding with_pair
  paired pair = parts_alike p s t same same.state (same_boxes_after pair) same.transactions same.views

  released : AreAlikeTo p (with_rx_released s p) (with_rx_released t p)
  unfolding with_rx_released
  released = parts_alike p s t same same.state (rx_alike p false s.mailboxes t.mailboxes same.buffers) same.transactions same.views

  -- what an edit of its own needs fits in both, or in none
  same_fits : (edit : Option Edit) → ((e : Edit) → edit ≡ Some e → e.who ≡ p) → fits s edit ≡ fits t edit
  unfolding fits
  same_fits None own = refl
  same_fits (Some e) own =
      let who = own e refl in
      let views : sees s p ≡ sees t p = fun_ext (λ n. same.views n) in
      rw who (ap₂ (λ (v : ℕ → View) (q : ℕ). leb (need v + grow v (reaching e.runs e.to v)) q) views same.quota)

  same_handle : next_handle s p ≡ next_handle t p
  same_handle = ap (λ (o : Option PartitionState). p * 2 ^ 32 + (option_map_or (λ (r : PartitionState). r.sends) o 0 + 1)) same.state

  same_opened : (k : Kind) (v : descriptor.Send) (home : Access) → opened s p k v home ≡ opened t p k v home
  same_opened k v home = ap (λ (h : ℕ). record (opened s p k v home) { handle = h }) same_handle

  same_sent_with : (h : ℕ) → sent_with s p h ≡ sent_with t p h
  same_sent_with h =
      let sent_by = λ (u : Live). eqb u.handle h && eqb u.sender p in
      find_mine p sent_by (sent_mine p h) s.live ∙ ap (find sent_by) same.transactions ∙ sym (find_mine p sent_by (sent_mine p h) t.live)

  same_received_with : (h : ℕ) → received_with s p h ≡ received_with t p h
  same_received_with h =
      let received = λ (u : Live). eqb u.handle h && is_received_by p u in
      find_mine p received (received_mine p h) s.live ∙ ap (find received) same.transactions ∙ sym (find_mine p received (received_mine p h) t.live)

  -- but for what is reached, which the edit decides
  ended_alike : (h : ℕ) → transactions_of p (without h s.live) ≡ transactions_of p (without h t.live) → ((n : ℕ) → sees (ended s h) p n ≡ sees (ended t h) p n) → AreAlikeTo p (ended s h) (ended t h)
  unfolding ended
  ended_alike h kept seen = parts_alike p s t same same.state same.buffers kept seen

  set_alike : (h : ℕ) (view : View) → transactions_of p (with_retrieval_of h p view s.live) ≡ transactions_of p (with_retrieval_of h p view t.live) → ((n : ℕ) → sees (with_retrieval_by s p h view) p n ≡ sees (with_retrieval_by t p h view) p n)
      → AreAlikeTo p (with_retrieval_by s p h view) (with_retrieval_by t p h view)
  unfolding with_retrieval_by
  set_alike h view kept seen = parts_alike p s t same same.state same.buffers kept seen

  given_alike : (u : Live) (access : Access) → AreSentPages s u → AreSentPages t u → transactions_of p (without u.handle s.live) ≡ transactions_of p (without u.handle t.live) → ((n : ℕ) → sees (with_donation s p u access) p n ≡ sees (with_donation t p u access) p n)
      → AreAlikeTo p (with_donation s p u access) (with_donation t p u access)
  unfolding with_donation
  given_alike u access page_s page_t kept seen =
      let own = λ (o : Option ℕ). option_map_or (λ x. eqb x p) o false in
      record {
        partitions = same.partitions;
        quota = same.quota;
        grants = same.grants;
        state = same.state;
        buffers = same.buffers;
        owned = λ n. ap own (given_owner s p u access n) ∙ owned_after p (covers u.ranges n) (owner_of s n) (owner_of t n) (same.owned n) ∙ sym (ap own (given_owner t p u access n));
        homes = λ n e.
            given_home s p u access n
            ∙ elim (covers u.ranges n) as (λ b. covers u.ranges n ≡ b → cond b (Some access) (home_of s n) ≡ cond b (Some access) (home_of t n)) [
              | true ↦ λ c. refl
              | false ↦ λ c. same.homes n (sym (ap own (given_owner s p u access n ∙ ap (λ (b : Bool). cond b (Some p) (owner_of s n)) c)) ∙ e)
            ] refl
            ∙ sym (given_home t p u access n);
        sharable = λ n e. elim (covers u.ranges n) as (λ b. covers u.ranges n ≡ b → is_sharable_at s n ≡ is_sharable_at t n) [
          | true ↦ λ c. (page_s n c).1 ∙ sym (page_t n c).1
          | false ↦ λ c. same.sharable n (sym (ap own (given_owner s p u access n ∙ ap (λ (b : Bool). cond b (Some p) (owner_of s n)) c)) ∙ e)
        ] refl;
        transactions = kept;
        views = seen;
      }

  -- but for what is reached, which the edit decides
  opened_alike : (k : Kind) (v : descriptor.Send) (home : Access) → AreAscending s.live → AreAscending t.live → ((n : ℕ) → sees (with_transaction s (opened s p k v home)) p n ≡ sees (with_transaction t (opened t p k v home)) p n)
      → AreAlikeTo p (with_transaction s (opened s p k v home)) (with_transaction t (opened t p k v home))
  unfolding with_transaction
  opened_alike k v home rise_s rise_t seen =
      let us = opened s p k v home in
      let ut = opened t p k v home in
      let mine : (u : State) → names p (opened u p k v home) ≡ true = λ u. rw (eq-eqb p p refl) refl in
      let kept = filter-one (names p) us s.live rise_s (mine s) ∙ ap (with_live us) same.transactions ∙ ap (λ (u : Live). with_live u (transactions_of p t.live)) (same_opened k v home) ∙ sym (filter-one (names p) ut t.live rise_t (mine t)) in
      parts_alike p s t same (same_state_after counting (λ r. refl)) same.buffers kept seen

-- ---- a call of the partition

-- a reclaim edits what its sender reaches
returned_to : (k : Kind) (p : ℕ) (runs : List PageRun) (home : Access) (clears : Bool) (e : Edit) → returned k p runs home clears ≡ Some e → e.who ≡ p
returned_to Share p runs home clears e is = absurd cc
returned_to Lend p runs home clears e is = let same : given_to p runs home clears ≡ e = cc in ap (λ (x : Edit). x.who) (sym same)
returned_to Donate p runs home clears e is = let same : given_to p runs home clears ≡ e = cc in ap (λ (x : Edit). x.who) (sym same)

own_return : (s : State) (p h : ℕ) (clears : Bool) (e : Edit) → option_and_then (returned_by clears) (sent_with s p h) ≡ Some e → e.who ≡ p
own_return s p h clears e is =
    elim (sent_with s p h) as (λ o. sent_with s p h ≡ o → option_and_then (returned_by clears) o ≡ Some e → e.who ≡ p) [
      | None ↦ λ f k. absurd cc
      | Some u ↦ λ f k. returned_to u.kind u.sender u.ranges u.home clears e k ∙ eqb-true _ _ (both (eqb u.handle h) (eqb u.sender p) (found_is (λ v. eqb v.handle h && eqb v.sender p) s.live u f)).1
    ] refl is

-- a relinquish and a retrieve edit what the receiver reaches
own_give_back : (p : ℕ) (clears : Bool) (o : Option Live) (e : Edit) → option_map (given_back_by p clears) o ≡ Some e → e.who ≡ p
own_give_back p clears None e is = absurd cc
own_give_back p clears (Some u) e is = let same : given_back_by p clears u ≡ e = cc in ap (λ (x : Edit). x.who) (sym same)

own_retrieval : (p : ℕ) (o : Option Retrieval) (e : Edit) → option_map (retrieved_by p) o ≡ Some e → e.who ≡ p
own_retrieval p None e is = absurd cc
own_retrieval p (Some u) e is = let same : retrieved_by p u ≡ e = cc in ap (λ (x : Edit). x.who) (sym same)

one_transaction : (a b : Retrieval) → Some a ≡ Some b → a.transaction ≡ b.transaction
one_transaction a b e = let same : a ≡ b = cc in ap (λ (r : Retrieval). r.transaction) same

one_access : (a b : Retrieval) → Some a ≡ Some b → a.access ≡ b.access
one_access a b e = let same : a ≡ b = cc in ap (λ (r : Retrieval). r.access) same

named_receiver : (p : ℕ) (u : Live) → is_received_by p u ≡ true → names p u ≡ true
named_receiver p u e = rw e (or_true (eqb u.sender p))

-- a send edits what its sender reaches
own_edit : (k : Kind) (p : ℕ) (runs : List PageRun) (clears : Bool) (e : Edit) → sender_edit k p runs clears ≡ Some e → e.who ≡ p
own_edit Share p runs clears e is = absurd cc
own_edit Lend p runs clears e is = let same : taken_from p runs clears ≡ e = cc in ap (λ (x : Edit). x.who) (sym same)
own_edit Donate p runs clears e is = let same : taken_from p runs clears ≡ e = cc in ap (λ (x : Edit). x.who) (sym same)

module _ (s t : State) (c : CallWords) (same : AreAlikeTo c.caller s t) (rs : IsReached s) (rt : IsReached t) where
  sends_s : AllByRecursion (IsOwnSend s) s.live
  sends_s = (owned_once s rs).senders

  sends_t : AllByRecursion (IsOwnSend t) t.live
  sends_t = (owned_once t rt).senders

  boxes_s : AreBuffersOwned s
  boxes_s = buffers_owned s rs

  boxes_t : AreBuffersOwned t
  boxes_t = buffers_owned t rt

  same_version : caller_version s c ≡ caller_version t c
  same_version = ap (λ (o : Option PartitionState). option_map_or (λ (r : PartitionState). r.version) o V11) same.state

  same_sent : (x : Transfer) → sent s c x ≡ sent t c x
  same_sent x = ap (λ v. send_of v (bytes_of c x)) same_version

  same_lengths : (x : Transfer) → has_lengths s c x ≡ has_lengths t c x
  same_lengths x = rw (same_pair_of c.caller s t same sends_s sends_t boxes_s boxes_t) refl

  same_send_tests : (k : Kind) (x : Transfer) → send_tests s c k x ≡ send_tests t c k x
  same_send_tests k x =
      let v = sent t c x in
      let spelled : is_send (caller_version s c) (bytes_of c x) ≡ is_send (caller_version t c) (bytes_of c x) = ap (λ w. is_send w (bytes_of c x)) same_version in
      rw (same_sent x, spelled, same_lengths x, same_pair c.caller s t same sends_s sends_t boxes_s boxes_t, same_parties c.caller s t same sends_s sends_t boxes_s boxes_t v, same_common c.caller s t same sends_s sends_t boxes_s boxes_t v.ranges, same_room c.caller s t same sends_s sends_t boxes_s boxes_t) refl

  same_map_tests : (tx rx count : ℕ) → map_tests s c.caller tx rx count ≡ map_tests t c.caller tx rx count
  same_map_tests tx rx count =
      let may = same_may_buffer c.caller s t same sends_s sends_t boxes_s boxes_t in
      let pair = named_pair tx rx count in
      let first : may_be_buffers s c.caller pair.tx ≡ may_be_buffers t c.caller pair.tx = each_page_same (may_be_buffer s c.caller) (may_be_buffer t c.caller) may pair.tx.count pair.tx.first in
      let second : may_be_buffers s c.caller pair.rx ≡ may_be_buffers t c.caller pair.rx = each_page_same (may_be_buffer s c.caller) (may_be_buffer t c.caller) may pair.rx.count pair.rx.first in
      rw (same_pair c.caller s t same sends_s sends_t boxes_s boxes_t, first, second) refl

  same_home : (k : Kind) (x : Transfer) (a : SendPasses s c k x) (b : SendPasses t c k x) → a.home ≡ b.home
  same_home k x a b =
      let both : Some a.home ≡ Some b.home = sym a.common ∙ same_common c.caller s t same sends_s sends_t boxes_s boxes_t (sent s c x).ranges ∙ ap (λ (v : descriptor.Send). common_home t c.caller v.ranges) (same_sent x) ∙ b.common in
      cc

  -- a send of either state, where the views are edited by the rules
  send_next : (k : Kind) (x : Transfer) → SendPasses s c k x → SendPasses t c k x
      → ((n : ℕ) → sees (send_rule s c k x).next c.caller n ≡ with_edit (send_rule s c k x).edit (sees s) c.caller n) → ((n : ℕ) → sees (send_rule t c k x).next c.caller n ≡ with_edit (send_rule t c k x).edit (sees t) c.caller n)
      → AreAlikeTo c.caller (send_rule s c k x).next (send_rule t c k x).next
  send_next k x a b edit_s edit_t =
      let p = c.caller in
      let v = sent s c x in
      let at_s : with_transaction s (opened s p k v a.home) ≡ (send_rule s c k x).next = sym (next_is s c k x a) in
      let at_t : with_transaction t (opened t p k v a.home) ≡ (send_rule t c k x).next =
      ap (λ (w : descriptor.Send). with_transaction t (opened t p k w a.home)) (same_sent x) ∙ ap (λ (h : Access). with_transaction t (opened t p k (sent t c x) h)) (same_home k x a b) ∙ sym (next_is t c k x b) in
      let edits : (send_rule s c k x).edit ≡ (send_rule t c k x).edit = ap (λ (w : descriptor.Send). sender_edit k p w.ranges w.clears) (same_sent x) in
      let seen : (n : ℕ) → sees (with_transaction s (opened s p k v a.home)) p n ≡ sees (with_transaction t (opened t p k v a.home)) p n = λ n.
      ap (λ (u : State). sees u p n) at_s ∙ edit_s n ∙ edit_same (send_rule s c k x).edit (sees s) (sees t) p n (same.views n) ∙ ap (λ (e : Option Edit). with_edit e (sees t) p n) edits ∙ sym (edit_t n) ∙ ap (λ (u : State). sees u p n) (sym at_t) in
      subst (λ (u : State). AreAlikeTo p (send_rule s c k x).next u) at_t (subst (λ (u : State). AreAlikeTo p u (with_transaction t (opened t p k v a.home))) at_s (opened_alike p s t same sends_s sends_t boxes_s boxes_t k v a.home (handles_used_once s rs).ascending (handles_used_once t rt).ascending seen))

  send_alike : (k : Kind) (x : Transfer)
      → (first_refusal (send_tests s c k x) ≡ None → fits s (send_rule s c k x).edit ≡ true → (n : ℕ) → sees (send_rule s c k x).next c.caller n ≡ with_edit (send_rule s c k x).edit (sees s) c.caller n)
      → (first_refusal (send_tests t c k x) ≡ None → fits t (send_rule t c k x).edit ≡ true → (n : ℕ) → sees (send_rule t c k x).next c.caller n ≡ with_edit (send_rule t c k x).edit (sees t) c.caller n)
      → AreAlikeRules c.caller s t (send_rule s c k x) (send_rule t c k x)
  send_alike k x edit_s edit_t =
      let handle = same_handle c.caller s t same sends_s sends_t boxes_s boxes_t in
      let edits : (send_rule s c k x).edit ≡ (send_rule t c k x).edit = ap (λ (w : descriptor.Send). sender_edit k c.caller w.ranges w.clears) (same_sent x) in
      let fit : fits s (send_rule s c k x).edit ≡ fits t (send_rule t c k x).edit = same_fits c.caller s t same sends_s sends_t boxes_s boxes_t (send_rule s c k x).edit (own_edit k c.caller (sent s c x).ranges (sent s c x).clears) ∙ ap (fits t) edits in
      record {
        tests = same_send_tests k x;
        fit = fit;
        reply = rw handle refl;
        next = λ e g.
            let f : first_refusal (send_tests t c k x) ≡ None = ap first_refusal (sym (same_send_tests k x)) ∙ e in
            send_next k x (send_passes s c k x e) (send_passes t c k x f) (edit_s e g) (edit_t f (sym fit ∙ g));
      }

  -- ---- a reclaim

  mine_without : (u : State) (h : ℕ) → IsReached u → ReclaimPasses u c.caller h → transactions_of c.caller (without h u.live) ≡ without h (transactions_of c.caller u.live)
  mine_without u h ru k =
      let mine : names c.caller k.transaction ≡ true = rw (eq-eqb _ _ k.sender) refl in
      without_mine c.caller h u.live k.transaction (found_first u.live h (λ v. eqb v.sender c.caller) k.transaction (handles_used_once u ru).ascending k.found) mine

  reclaim_alike : (h flags : ℕ)
      → (first_refusal (reclaim_tests s c.caller h flags) ≡ None → fits s (reclaim_rule s c h flags).edit ≡ true → (n : ℕ) → sees (ended s h) c.caller n ≡ with_edit (reclaim_rule s c h flags).edit (sees s) c.caller n)
      → (first_refusal (reclaim_tests t c.caller h flags) ≡ None → fits t (reclaim_rule t c h flags).edit ≡ true → (n : ℕ) → sees (ended t h) c.caller n ≡ with_edit (reclaim_rule t c h flags).edit (sees t) c.caller n)
      → AreAlikeRules c.caller s t (reclaim_rule s c h flags) (reclaim_rule t c h flags)
  reclaim_alike h flags edit_s edit_t =
      let p = c.caller in
      let clears = orders_clear flags in
      let one : sent_with s p h ≡ sent_with t p h = same_sent_with p s t same sends_s sends_t boxes_s boxes_t h in
      let tests : reclaim_tests s p h flags ≡ reclaim_tests t p h flags = rw one refl in
      let edits : (reclaim_rule s c h flags).edit ≡ (reclaim_rule t c h flags).edit = ap (λ (o : Option Live). option_and_then (returned_by clears) o) one in
      let fit : fits s (reclaim_rule s c h flags).edit ≡ fits t (reclaim_rule t c h flags).edit = same_fits p s t same sends_s sends_t boxes_s boxes_t (reclaim_rule s c h flags).edit (own_return s p h clears) ∙ ap (fits t) edits in
      record {
        tests = tests;
        fit = fit;
        reply = refl;
        next = λ e g.
            let f : first_refusal (reclaim_tests t p h flags) ≡ None = ap first_refusal (sym tests) ∙ e in
            let kept = mine_without s h rs (reclaim_passes s p h flags e) ∙ ap (without h) same.transactions ∙ sym (mine_without t h rt (reclaim_passes t p h flags f)) in
            let seen : (n : ℕ) → sees (ended s h) p n ≡ sees (ended t h) p n = λ n.
            edit_s e g n ∙ edit_same (reclaim_rule s c h flags).edit (sees s) (sees t) p n (same.views n) ∙ ap (λ (x : Option Edit). with_edit x (sees t) p n) edits ∙ sym (edit_t f (sym fit ∙ g) n) in
            ended_alike p s t same sends_s sends_t boxes_s boxes_t h kept seen;
      }

  -- ---- a relinquish

  set_in_both : (h : ℕ) (view : View) (u v : Live) → find (λ w. eqb w.handle h) s.live ≡ Some u → find (λ w. eqb w.handle h) t.live ≡ Some v → is_received_by c.caller u ≡ true → is_received_by c.caller v ≡ true
      → transactions_of c.caller (with_retrieval_of h c.caller view s.live) ≡ transactions_of c.caller (with_retrieval_of h c.caller view t.live)
  set_in_both h view u v at_s at_t mine_s mine_t =
      let p = c.caller in
      set_mine p h p view s.live u at_s (named_receiver p u mine_s) ∙ ap (λ ts. with_retrieval_of h p view ts) same.transactions ∙ sym (set_mine p h p view t.live v at_t (named_receiver p v mine_t))

  relinquish_alike : (first_refusal (relinquish_tests s c) ≡ None → fits s (relinquish_rule s c).edit ≡ true → (n : ℕ) → sees (relinquish_rule s c).next c.caller n ≡ with_edit (relinquish_rule s c).edit (sees s) c.caller n)
      → (first_refusal (relinquish_tests t c) ≡ None → fits t (relinquish_rule t c).edit ≡ true → (n : ℕ) → sees (relinquish_rule t c).next c.caller n ≡ with_edit (relinquish_rule t c).edit (sees t) c.caller n)
      → AreAlikeRules c.caller s t (relinquish_rule s c) (relinquish_rule t c)
  relinquish_alike edit_s edit_t =
      let p = c.caller in
      let h = (given_up c).handle in
      let clears = (given_up c).clears in
      let one : received_with s p h ≡ received_with t p h = same_received_with p s t same sends_s sends_t boxes_s boxes_t h in
      let tests : relinquish_tests s c ≡ relinquish_tests t c = rw (one, same_pair p s t same sends_s sends_t boxes_s boxes_t) refl in
      let edits : (relinquish_rule s c).edit ≡ (relinquish_rule t c).edit = ap (λ (o : Option Live). option_map (given_back_by p clears) o) one in
      let fit : fits s (relinquish_rule s c).edit ≡ fits t (relinquish_rule t c).edit = same_fits p s t same sends_s sends_t boxes_s boxes_t (relinquish_rule s c).edit (own_give_back p clears (received_with s p h)) ∙ ap (fits t) edits in
      record {
        tests = tests;
        fit = fit;
        reply = refl;
        next = λ e g.
            let f : first_refusal (relinquish_tests t c) ≡ None = ap first_refusal (sym tests) ∙ e in
            let ks = relinquish_passes s c e in
            let kt = relinquish_passes t c f in
            let at_s = found_first s.live h (is_received_by p) ks.transaction (handles_used_once s rs).ascending ks.found in
            let at_t = found_first t.live h (is_received_by p) kt.transaction (handles_used_once t rt).ascending kt.found in
            let seen : (n : ℕ) → sees (with_retrieval_by s p h None) p n ≡ sees (with_retrieval_by t p h None) p n = λ n.
            edit_s e g n ∙ edit_same (relinquish_rule s c).edit (sees s) (sees t) p n (same.views n) ∙ ap (λ (x : Option Edit). with_edit x (sees t) p n) edits ∙ sym (edit_t f (sym fit ∙ g) n) in
            set_alike p s t same sends_s sends_t boxes_s boxes_t h None (set_in_both h None ks.transaction kt.transaction at_s at_t ks.receiver kt.receiver) seen;
      }

  -- ---- a retrieve

  same_asked : (x : Transfer) → asked s c x ≡ asked t c x
  same_asked x = ap (λ v. retrieve_of v (bytes_of c x)) same_version

  same_retrieval : (x : Transfer) → retrieval_of s c x ≡ retrieval_of t c x
  same_retrieval x =
      let p = c.caller in
      let find_in = λ (v : descriptors.Retrieve). option_and_then (retrieval_with v.endpoint.permissions p) (received_with s p v.handle) in
      ap find_in (same_asked x) ∙ ap (option_and_then (retrieval_with (asked t c x).endpoint.permissions p)) (same_received_with p s t same sends_s sends_t boxes_s boxes_t (asked t c x).handle)

  same_transaction_tests : (v : descriptors.Retrieve) → transaction_tests s c.caller v ≡ transaction_tests t c.caller v
  unfolding fits_rx
  same_transaction_tests v =
      let p = c.caller in
      fun_ext (λ u. rw (same_version, same_pair_of p s t same sends_s sends_t boxes_s boxes_t, same_held p s t same sends_s sends_t boxes_s boxes_t) refl)

  same_request_tests : (x : Transfer) → request_tests s c x ≡ request_tests t c x
  same_request_tests x =
      let p = c.caller in
      let spelled : is_retrieve (caller_version s c) (bytes_of c x) ≡ is_retrieve (caller_version t c) (bytes_of c x) = ap (λ w. is_retrieve w (bytes_of c x)) same_version in
      let one = same_received_with p s t same sends_s sends_t boxes_s boxes_t (asked t c x).handle in
      rw (same_asked x, spelled, same_lengths x, same_pair p s t same sends_s sends_t boxes_s boxes_t, one) refl

  same_retrieve_tests : (x : Transfer) → retrieve_tests s c x ≡ retrieve_tests t c x
  same_retrieve_tests x =
      let p = c.caller in
      let one = same_received_with p s t same sends_s sends_t boxes_s boxes_t (asked t c x).handle in
      let tests_in = λ (v : descriptors.Retrieve). option_map_or (transaction_tests s p v) (received_with s p v.handle) [] in
      ap₂ (λ (a b : List Test). a ++ b) (same_request_tests x)
      (ap tests_in (same_asked x) ∙ ap₂ (λ (f : Live → List Test) (o : Option Live). option_map_or f o []) (same_transaction_tests (asked t c x)) one)

  -- the state that both come to, but for RX
  kind_alike : (k : Kind) (u : Live) (access : Access) → find (λ w. eqb w.handle u.handle) s.live ≡ Some u → find (λ w. eqb w.handle u.handle) t.live ≡ Some u → is_received_by c.caller u ≡ true
      → ((n : ℕ) → sees (with_retrieval_of_kind k s c.caller u access) c.caller n ≡ sees (with_retrieval_of_kind k t c.caller u access) c.caller n)
      → AreAlikeTo c.caller (with_retrieval_of_kind k s c.caller u access) (with_retrieval_of_kind k t c.caller u access)
  kind_alike Share u access at_s at_t mine seen = set_alike c.caller s t same sends_s sends_t boxes_s boxes_t u.handle (Some access) (set_in_both u.handle (Some access) u u at_s at_t mine mine) seen
  kind_alike Lend u access at_s at_t mine seen = set_alike c.caller s t same sends_s sends_t boxes_s boxes_t u.handle (Some access) (set_in_both u.handle (Some access) u u at_s at_t mine mine) seen
  kind_alike Donate u access at_s at_t mine seen =
      let p = c.caller in
      let named = named_receiver p u mine in
      let is_it = λ (w : Live). eqb w.handle u.handle in
      let kept = without_mine p u.handle s.live u at_s named ∙ ap (without u.handle) same.transactions ∙ sym (without_mine p u.handle t.live u at_t named) in
      given_alike p s t same sends_s sends_t boxes_s boxes_t u access (found_in (AreSentPages s) is_it s.live u at_s (transactions_kept s rs).pages) (found_in (AreSentPages t) is_it t.live u at_t (transactions_kept t rt).pages) kept seen

  retrieve_next : (x : Transfer) (a : RetrievePasses s c x) (b : RetrievePasses t c x)
      → ((n : ℕ) → sees (retrieve_rule s c x).next c.caller n ≡ with_edit (retrieve_rule s c x).edit (sees s) c.caller n) → ((n : ℕ) → sees (retrieve_rule t c x).next c.caller n ≡ with_edit (retrieve_rule t c x).edit (sees t) c.caller n)
      → AreAlikeTo c.caller (retrieve_rule s c x).next (retrieve_rule t c x).next
  retrieve_next x a b edit_s edit_t =
      let p = c.caller in
      let both_are : Some (record { transaction = a.transaction; access = a.access }) ≡ Some (record { transaction = b.transaction; access = b.access }) = sym a.named ∙ same_retrieval x ∙ b.named in
      let is_one : b.transaction ≡ a.transaction = sym (one_transaction _ _ both_are) in
      let is_access : b.access ≡ a.access = sym (one_access _ _ both_are) in
      let u = a.transaction in
      let next_t : (retrieve_rule t c x).next ≡ with_rx_filled (with_retrieval_of_kind u.kind t p u a.access) p =
      retrieved_is t c x b ∙ ap₂ (λ (w : Live) (access : Access). with_rx_filled (with_retrieval_of_kind w.kind t p w access) p) is_one is_access in
      let at_t : find (λ w. eqb w.handle u.handle) t.live ≡ Some u = subst (λ (w : Live). find (λ v. eqb v.handle w.handle) t.live ≡ Some w) is_one (first_is t c x rt b) in
      let edits : (retrieve_rule s c x).edit ≡ (retrieve_rule t c x).edit = ap (λ (o : Option Retrieval). option_map (retrieved_by p) o) (same_retrieval x) in
      let seen : (n : ℕ) → sees (with_retrieval_of_kind u.kind s p u a.access) p n ≡ sees (with_retrieval_of_kind u.kind t p u a.access) p n = λ n.
      sym (filled_sees (with_retrieval_of_kind u.kind s p u a.access) p p n) ∙ ap (λ (w : State). sees w p n) (sym (retrieved_is s c x a))
      ∙ edit_s n ∙ edit_same (retrieve_rule s c x).edit (sees s) (sees t) p n (same.views n) ∙ ap (λ (e : Option Edit). with_edit e (sees t) p n) edits ∙ sym (edit_t n)
      ∙ ap (λ (w : State). sees w p n) next_t ∙ filled_sees (with_retrieval_of_kind u.kind t p u a.access) p p n in
      let alike_now = filled_alike p (with_retrieval_of_kind u.kind s p u a.access) (with_retrieval_of_kind u.kind t p u a.access) (kind_alike u.kind u a.access (first_is s c x rs a) at_t a.receiver seen) in
      subst (λ (w : State). AreAlikeTo p (retrieve_rule s c x).next w) (sym next_t) (subst (λ (w : State). AreAlikeTo p w (with_rx_filled (with_retrieval_of_kind u.kind t p u a.access) p)) (sym (retrieved_is s c x a)) alike_now)

  retrieve_alike : (x : Transfer)
      → (first_refusal (retrieve_tests s c x) ≡ None → fits s (retrieve_rule s c x).edit ≡ true → (n : ℕ) → sees (retrieve_rule s c x).next c.caller n ≡ with_edit (retrieve_rule s c x).edit (sees s) c.caller n)
      → (first_refusal (retrieve_tests t c x) ≡ None → fits t (retrieve_rule t c x).edit ≡ true → (n : ℕ) → sees (retrieve_rule t c x).next c.caller n ≡ with_edit (retrieve_rule t c x).edit (sees t) c.caller n)
      → AreAlikeRules c.caller s t (retrieve_rule s c x) (retrieve_rule t c x)
  retrieve_alike x edit_s edit_t =
      let p = c.caller in
      let edits : (retrieve_rule s c x).edit ≡ (retrieve_rule t c x).edit = ap (λ (o : Option Retrieval). option_map (retrieved_by p) o) (same_retrieval x) in
      let fit : fits s (retrieve_rule s c x).edit ≡ fits t (retrieve_rule t c x).edit = same_fits p s t same sends_s sends_t boxes_s boxes_t (retrieve_rule s c x).edit (own_retrieval p (retrieval_of s c x)) ∙ ap (fits t) edits in
      record {
        tests = same_retrieve_tests x;
        fit = fit;
        reply = ap₂ (λ v (o : Option Retrieval). option_map_or (responding v p) o (error Denied)) same_version (same_retrieval x);
        next = λ e g.
            let f : first_refusal (retrieve_tests t c x) ≡ None = ap first_refusal (sym (same_retrieve_tests x)) ∙ e in
            retrieve_next x (retrieve_passes s c x e) (retrieve_passes t c x f) (edit_s e g) (edit_t f (sym fit ∙ g));
      }

  alike_rules : (r : Request) → is_partition s.manifest c.caller ≡ true → is_partition t.manifest c.caller ≡ true → request_of c.regs ≡ Some r → AreAlikeRules c.caller s t (rule_of s c r) (rule_of t c r)
  alike_rules (Version word) ks kt n = record { tests = refl; fit = no_edit s t; reply = refl; next = λ e g. named c.caller s t same sends_s sends_t boxes_s boxes_t word }
  alike_rules (Features identifier) ks kt n = record { tests = refl; fit = no_edit s t; reply = refl; next = λ e g. same }
  alike_rules RxRelease ks kt n = record { tests = ap (λ (b : Bool). record { passes = b; refusal = Denied } ∷ []) (same_held c.caller s t same sends_s sends_t boxes_s boxes_t); fit = no_edit s t; reply = refl; next = λ e g. released c.caller s t same sends_s sends_t boxes_s boxes_t }
  alike_rules (RxtxMap tx rx count) ks kt n = record { tests = same_map_tests tx rx count; fit = no_edit s t; reply = refl; next = λ e g. paired c.caller s t same sends_s sends_t boxes_s boxes_t (Some (named_pair tx rx count)) }
  alike_rules (RxtxUnmap word) ks kt n = record { tests = rw (same_pair c.caller s t same sends_s sends_t boxes_s boxes_t) refl; fit = no_edit s t; reply = refl; next = λ e g. paired c.caller s t same sends_s sends_t boxes_s boxes_t None }
  alike_rules IdGet ks kt n = record { tests = refl; fit = no_edit s t; reply = refl; next = λ e g. same }
  alike_rules (Send kind x) ks kt n = send_alike kind x (λ e f. (edits_the_view s c (Send kind x) rs (record { known = ks; named = n; passed = e })).views c.caller) (λ e f. (edits_the_view t c (Send kind x) rt (record { known = kt; named = n; passed = e })).views c.caller)
  alike_rules (Retrieve x) ks kt n = retrieve_alike x (λ e f. (edits_the_view s c (Retrieve x) rs (record { known = ks; named = n; passed = e })).views c.caller) (λ e f. (edits_the_view t c (Retrieve x) rt (record { known = kt; named = n; passed = e })).views c.caller)
  alike_rules Relinquish ks kt n = relinquish_alike (λ e f. (edits_the_view s c Relinquish rs (record { known = ks; named = n; passed = e })).views c.caller) (λ e f. (edits_the_view t c Relinquish rt (record { known = kt; named = n; passed = e })).views c.caller)
  alike_rules (Reclaim handle flags) ks kt n = reclaim_alike handle flags (λ e f. (edits_the_view s c (Reclaim handle flags) rs (record { known = ks; named = n; passed = e })).views c.caller) (λ e f. (edits_the_view t c (Reclaim handle flags) rt (record { known = kt; named = n; passed = e })).views c.caller)

  any_rules : (ks kt : Bool) (o : Option Request) → ks ≡ kt → ((r : Request) → ks ≡ true → o ≡ Some r → AreAlikeRules c.caller s t (rule_of s c r) (rule_of t c r))
      → AreAlikeRules c.caller s t (cond ks (option_map_or (rule_of s c) o (refused NotSupported s)) (refused Denied s)) (cond kt (option_map_or (rule_of t c) o (refused NotSupported t)) (refused Denied t))
  any_rules false false o e h = record { tests = refl; fit = no_edit s t; reply = refl; next = λ x g. same }
  any_rules false true o e h = absurd cc
  any_rules true false o e h = absurd cc
  any_rules true true None e h = record { tests = refl; fit = no_edit s t; reply = refl; next = λ x g. same }
  any_rules true true (Some r) e h = h r refl refl

  same_rules : AreAlikeRules c.caller s t (rule s c) (rule t c)
  unfolding rule
  same_rules =
      let known : is_partition s.manifest c.caller ≡ is_partition t.manifest c.caller = same_partition c.caller s t same sends_s sends_t boxes_s boxes_t c.caller in
      any_rules (is_partition s.manifest c.caller) (is_partition t.manifest c.caller) (request_of c.regs) known (λ r k n. alike_rules r k (sym known ∙ k) n)

-- what a partition is answered, and what it may learn after its call, depends on what it might learn before
pub isolated : (s t : State) (c : CallWords) → IsReached s → IsReached t → AreAlikeTo c.caller s t → IsIsolated s t c
unfolding answer step
isolated s t c rs rt same =
    record {
      answers = alike_replies c.caller s t (rule s c) (rule t c) (same_rules s t c same rs rt);
      alike = alike_next c.caller s t (rule s c) (rule t c) same (same_rules s t c same rs rt);
    }

-- ---- a call of another partition

other_edit : (k : Kind) (q : ℕ) (runs : List PageRun) (clears : Bool) (view : ℕ → ℕ → View) (p n : ℕ) → eqb p q ≡ false → with_edit (sender_edit k q runs clears) view p n ≡ view p n
other_edit Share q runs clears view p n ne = refl
other_edit Lend q runs clears view p n ne = rw ne refl
other_edit Donate q runs clears view p n ne = rw ne refl

-- an edit of another partition
other_edited : (edit : Option Edit) (q : ℕ) → ((e : Edit) → edit ≡ Some e → e.who ≡ q) → (view : ℕ → ℕ → View) (p n : ℕ) → eqb p q ≡ false → with_edit edit view p n ≡ view p n
other_edited None q own view p n ne = refl
other_edited (Some e) q own view p n ne = let who = own e refl in rw (who, ne) refl

not_either : (a b : Bool) → (a || b) ≡ false → a ≡ false
not_either true b e = absurd cc
not_either false b e = refl

given_live : (s : State) (q : ℕ) (u : Live) (access : Access) (p : ℕ) → transactions_of p (without u.handle s.live) ≡ transactions_of p (with_donation s q u access).live
unfolding with_donation
given_live s q u access p = refl

filled_live : (s : State) (q p : ℕ) → transactions_of p s.live ≡ transactions_of p (with_rx_filled s q).live
unfolding with_rx_filled
filled_live s q p = refl

module _ (p : ℕ) (s : State) (c : CallWords) (is : IsReached s) (ne : eqb c.caller p ≡ false) (en : eqb p c.caller ≡ false) where
  alike : AreAlikeTo p s s
  alike = record { partitions = refl; quota = refl; grants = λ n. refl; state = refl; buffers = refl; owned = λ n. refl; homes = λ n e. refl; sharable = λ n e. refl; transactions = refl; views = λ n. refl }

  other_state : (change : PartitionState → PartitionState) → ((r : PartitionState) → (change r).partition ≡ r.partition) → state_of s.partitions p ≡ state_of (with_partition c.caller change s.partitions) p
  other_state change keeps = sym (state_after c.caller change keeps s.partitions p ∙ rw en refl)

  other_opened : (t : Live) → t.sender ≡ c.caller → transactions_of p (with_transaction s t).live ≡ transactions_of p s.live → ((n : ℕ) → sees (with_transaction s t) p n ≡ sees s p n) → AreAlikeTo p s (with_transaction s t)
  unfolding with_transaction
  other_opened t sends kept seen =
      let counted = other_state counting (λ r. refl) ∙ ap (λ (q : ℕ). state_of (with_partition q counting s.partitions) p) (sym sends) in
      parts_alike p s s alike counted refl (sym kept) (λ n. sym (seen n))

  other_send : (k : Kind) (x : Transfer) → SendPasses s c k x → ((n : ℕ) → sees (send_rule s c k x).next p n ≡ with_edit (send_rule s c k x).edit (sees s) p n) → transactions_of p (send_rule s c k x).next.live ≡ transactions_of p s.live → AreAlikeTo p s (send_rule s c k x).next
  other_send k x a edited kept =
      let t = opened s c.caller k (sent s c x) a.home in
      let at : with_transaction s t ≡ (send_rule s c k x).next = sym (next_is s c k x a) in
      subst (λ (u : State). AreAlikeTo p s u) at (other_opened t refl (ap (λ (u : State). transactions_of p u.live) at ∙ kept) (λ n. ap (λ (u : State). sees u p n) at ∙ edited n ∙ other_edit k c.caller (sent s c x).ranges (sent s c x).clears (sees s) p n en))

  other_pair : (pair : Option Pair) → AreAlikeTo p s (with_pair s c.caller pair)
  unfolding with_pair
  other_pair pair = parts_alike p s s alike refl (sym (mailboxes_other p c.caller pair ne s.mailboxes)) refl (λ n. refl)

  other_released : AreAlikeTo p s (with_rx_released s c.caller)
  unfolding with_rx_released
  other_released = parts_alike p s s alike refl (sym (mailboxes_other p c.caller (option_map (holding false) (pair_of s.mailboxes c.caller)) ne s.mailboxes)) refl (λ n. refl)

  other_named : (word : ℕ) → AreAlikeTo p s (with_version s c.caller word)
  unfolding with_version
  other_named word = parts_alike p s s alike (other_state (naming word) (λ r. refl)) refl refl (λ n. refl)

  other_ended : (h : ℕ) → transactions_of p (ended s h).live ≡ transactions_of p s.live → ((n : ℕ) → sees (ended s h) p n ≡ sees s p n) → AreAlikeTo p s (ended s h)
  unfolding ended
  other_ended h kept seen = parts_alike p s s alike refl refl (sym kept) (λ n. sym (seen n))

  other_set : (h : ℕ) (view : View) → transactions_of p (with_retrieval_by s c.caller h view).live ≡ transactions_of p s.live → ((n : ℕ) → sees (with_retrieval_by s c.caller h view) p n ≡ sees s p n) → AreAlikeTo p s (with_retrieval_by s c.caller h view)
  unfolding with_retrieval_by
  other_set h view kept seen = parts_alike p s s alike refl refl (sym kept) (λ n. sym (seen n))

  -- a donation to another partition, by a sender that is another too
  not_given : (u : Live) (access : Access) → find (λ w. eqb w.handle u.handle) s.live ≡ Some u → names p u ≡ false → (n : ℕ) → covers u.ranges n ≡ true → owns s p n ≡ false
  not_given u access first away n here =
      let own = found_in (IsOwnSend s) (λ w. eqb w.handle u.handle) s.live u first (owned_once s is).senders in
      ap (λ (o : Option ℕ). option_map_or (λ x. eqb x p) o false) (own n here) ∙ not_either (eqb u.sender p) (is_received_by p u) away

  other_given : (u : Live) (access : Access) → find (λ w. eqb w.handle u.handle) s.live ≡ Some u → names p u ≡ false → transactions_of p (with_donation s c.caller u access).live ≡ transactions_of p s.live → ((n : ℕ) → sees (with_donation s c.caller u access) p n ≡ sees s p n) → AreAlikeTo p s (with_donation s c.caller u access)
  unfolding with_donation
  other_given u access first away kept seen =
      let own = λ (o : Option ℕ). option_map_or (λ x. eqb x p) o false in
      record {
        partitions = refl;
        quota = refl;
        grants = λ n. refl;
        state = refl;
        buffers = refl;
        owned = λ n. sym (ap own (given_owner s c.caller u access n) ∙ elim (covers u.ranges n) as (λ b. covers u.ranges n ≡ b → own (cond b (Some c.caller) (owner_of s n)) ≡ owns s p n) [
          | true ↦ λ here. ne ∙ sym (not_given u access first away n here)
          | false ↦ λ here. refl
        ] refl);
        homes = λ n e. sym (given_home s c.caller u access n ∙ elim (covers u.ranges n) as (λ b. covers u.ranges n ≡ b → cond b (Some access) (home_of s n) ≡ home_of s n) [
          | true ↦ λ here. absurd (let none = not_given u access first away n here in cc)
          | false ↦ λ here. refl
        ] refl);
        sharable = λ n e. refl;
        transactions = sym kept;
        views = λ n. sym (seen n);
      }

  other_filled : (u : State) → AreAlikeTo p s u → AreAlikeTo p s (with_rx_filled u c.caller)
  unfolding with_rx_filled
  other_filled u same = parts_alike p s u same same.state (same.buffers ∙ sym (mailboxes_other p c.caller (option_map (holding true) (pair_of u.mailboxes c.caller)) ne u.mailboxes)) same.transactions same.views

  other_kind : (k : Kind) (u : Live) (access : Access) → find (λ w. eqb w.handle u.handle) s.live ≡ Some u → transactions_of p (with_retrieval_of_kind k s c.caller u access).live ≡ transactions_of p s.live
      → ((n : ℕ) → sees (with_retrieval_of_kind k s c.caller u access) p n ≡ sees s p n) → AreAlikeTo p s (with_retrieval_of_kind k s c.caller u access)
  other_kind Share u access first kept seen = other_set u.handle (Some access) kept seen
  other_kind Lend u access first kept seen = other_set u.handle (Some access) kept seen
  other_kind Donate u access first kept seen = other_given u access first (not_named p u.handle s.live u first (given_live s c.caller u access p ∙ kept)) kept seen

  other_retrieve : (x : Transfer) → RetrievePasses s c x → ((n : ℕ) → sees (retrieve_rule s c x).next p n ≡ sees s p n) → transactions_of p (retrieve_rule s c x).next.live ≡ transactions_of p s.live → AreAlikeTo p s (retrieve_rule s c x).next
  other_retrieve x k seen kept =
      let u = k.transaction in
      let now = with_retrieval_of_kind u.kind s c.caller u k.access in
      let next : (retrieve_rule s c x).next ≡ with_rx_filled now c.caller = retrieved_is s c x k in
      subst (λ (w : State). AreAlikeTo p s w) (sym next)
      (other_filled now (other_kind u.kind u k.access (first_is s c x is k)
      (filled_live now c.caller p ∙ ap (λ (w : State). transactions_of p w.live) (sym next) ∙ kept)
      (λ n. sym (filled_sees now c.caller p n) ∙ ap (λ (w : State). sees w p n) (sym next) ∙ seen n)))

  other_next : (r : Request) → Passes s c r → transactions_of p (rule_of s c r).next.live ≡ transactions_of p s.live → AreAlikeTo p s (rule_of s c r).next
  other_next (Version word) k kept = other_named word
  other_next (Features identifier) k kept = alike
  other_next RxRelease k kept = other_released
  other_next (RxtxMap tx rx count) k kept = other_pair (Some (named_pair tx rx count))
  other_next (RxtxUnmap word) k kept = other_pair None
  other_next IdGet k kept = alike
  other_next (Send kind x) k kept = other_send kind x (send_passes s c kind x k.tests.passed) ((edits_the_view s c (Send kind x) is k.tests).views p) kept
  other_next (Retrieve x) k kept =
      other_retrieve x (retrieve_passes s c x k.tests.passed) (λ n. (edits_the_view s c (Retrieve x) is k.tests).views p n ∙ other_edited (option_map (retrieved_by c.caller) (retrieval_of s c x)) c.caller (own_retrieval c.caller (retrieval_of s c x)) (sees s) p n en) kept
  other_next Relinquish k kept =
      let h = (given_up c).handle in
      let clears = (given_up c).clears in
      other_set h None kept (λ n. (edits_the_view s c Relinquish is k.tests).views p n ∙ other_edited (option_map (given_back_by c.caller clears) (received_with s c.caller h)) c.caller (own_give_back c.caller clears (received_with s c.caller h)) (sees s) p n en)
  other_next (Reclaim handle flags) k kept =
      let clears = orders_clear flags in
      other_ended handle kept (λ n. (edits_the_view s c (Reclaim handle flags) is k.tests).views p n ∙ other_edited (option_and_then (returned_by clears) (sent_with s c.caller handle)) c.caller (own_return s c.caller handle clears) (sees s) p n en)

-- a call of another partition that changes no transaction that names it leaves what a partition may learn
pub others_leave : (p : ℕ) (s : State) (c : CallWords) → IsReached s → c.caller ≢ p → transactions_of p (step s c).live ≡ transactions_of p s.live → AreAlikeTo p s (step s c)
others_leave p s c is differ =
    let ne = not_eqb c.caller p differ in
    let en = not_eqb p c.caller (λ e. differ (sym e)) in
    step_cases (λ u. transactions_of p u.live ≡ transactions_of p s.live → AreAlikeTo p s u) s c
    (λ kept. alike p s c is ne en)
    (λ r k. other_next p s c is ne en r k)
