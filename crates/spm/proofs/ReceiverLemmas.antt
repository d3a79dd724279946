-- The transaction of which a partition is a receiver.
use Rattle.std.proofs.Common.{◌≡◌, ℕ, Bool, true, false, ◌&&◌, not, eqb, cond, List, [], Option, Some, None, Result, Ok, Err, IfErr, OnOk, is_some, refl, sym, ap, ◌∙◌, subst}
use Rattle.std.specs.Option.{option_map, option_map_or, option_and_then}
use Rattle.base.specs.declared.status.Status.{Status}
use Rattle.base.specs.declared.status.Status.TheVariants.{Denied}
use Rattle.base.specs.declared.transaction.Kind.{Kind}
use Rattle.base.specs.declared.transaction.Kind.TheVariants.{Share, Lend, Donate}
use Rattle.base.specs.Access.{Access, View}
use Rattle.base.specs.Buffers as pairs
use Rattle.base.specs.Buffers.{Mailbox, has_pair, holds_rx}
use Rattle.base.specs.Descriptors.Retrieve as descriptors
use Rattle.base.specs.Refusals.{first_refusal, RefusesWith}
use Rattle.base.specs.Pages.{are_disjoint}
use Rattle.base.specs.Ledger.{with_donation_of}
use Rattle.base.specs.Transactions.{Live, Donation, with_retrieval_of, without, gift}
use Rattle.base.specs.Manifest.{ManifestRows}
use Rattle.base.specs.State.{State, PartitionState}
use Rattle.ledger.specs.Ledger.{found, LedgerView}
use Rattle.ledger.specs.Changes.{donations_after_kind, donations_after, live_after_kind, live_after}
use Rattle.wire.specs.Replies.{success, error}
use Rattle.wire.specs.declared.request.Transfer.{Transfer}
use Rattle.rules.specs.Call.{CallWords}
use Rattle.rules.specs.Calls.Relinquish.{given_up, given_back_by, relinquish_rule}
use Rattle.rules.specs.Calls.Retrieve.{asked, granted, request_tests, transaction_tests, retrieve_tests, Retrieval, retrieval_with, retrieval_of, retrieved_by, responding, after_retrieve, with_donation, with_rx_filled, with_retrieval_of_kind, retrieve_rule}
use Rattle.rules.specs.Laws.SentPages.{IsWithinLimits}
use Rattle.rules.specs.Receivers.{is_received_by, received_with, with_retrieval_by}
use Rattle.rules.specs.Rule.{Edit}
use Rattle.rules.specs.Run.{IsReached}
use Rattle.rules.specs.Transfers.{caller_version}
use Rattle.rules.proofs.Calls.Relinquish.{receiver_is}
use Rattle.rules.proofs.Passing.{all_pass, first_pass, second_decides}
use Rattle.rules.proofs.Ended.{found_in, found_is, found_first, found_of}
use Rattle.rules.proofs.Laws.Handles.{handles_used_once}
use Rattle.rules.proofs.Laws.SentPages.{transactions_kept}
use Rattle.spm.specs.declared.change.Update.TheVariants.{Retrieve, Relinquish}
use Rattle.spm.specs.Checked.{IsRelinquished, IsNamed, IsRetrieved}
use Rattle.spm.specs.declared.change.Answer.{Answer}
use Rattle.spm.specs.Granted.{replied, IsGranted, AreSameEdits, AreOrderly, CanRetrieve, after_retrieval}
use Rattle.std.proofs.lemmas.Bool.{eqb-true}

-- the receivers of the transaction with the handle decide
pub received_where : (s : State) (p handle : ℕ) (o : Option Live) → IsReached s → found s.live handle ≡ o → received_with s p handle ≡ option_and_then (λ u. cond (is_received_by p u) (Some u) None) o
received_where s p handle o reached is = found_of s.live handle (is_received_by p) (handles_used_once s reached).ascending ∙ ap (λ (x : Option Live). option_and_then (λ (u : Live). cond (is_received_by p u) (Some u) None) x) is

module _ (s : State) (p handle : ℕ) (t : Live) (reached : IsReached s) (received : received_with s p handle ≡ Some t) where
  -- it is the one with the handle
  pub its_handle : found s.live handle ≡ Some t
  its_handle = found_first s.live handle (is_received_by p) t (handles_used_once s reached).ascending received

  -- no two of its ranges share a page
  pub its_ranges : are_disjoint t.ranges ≡ true
  its_ranges = found_in (λ u. are_disjoint u.ranges ≡ true) (λ u. eqb u.handle handle && is_received_by p u) s.live t received (transactions_kept s reached).apart

  pub its_limits : IsWithinLimits t
  its_limits = found_in IsWithinLimits (λ u. eqb u.handle handle && is_received_by p u) s.live t received (transactions_kept s reached).limits

-- ---- a relinquish

pub relinquish_granted : (s : State) (c : CallWords) (p : ℕ) (t : Live) (clears : Bool) (handle : ℕ) (edit : Option Edit) (answer : Answer) → IsRelinquished s c t clears → p ≡ c.caller → handle ≡ t.handle → AreSameEdits (Some (record { who = p; runs = t.ranges; to = None; clears = clears })) edit → AreOrderly p edit → replied answer ≡ success 0 0
    → IsGranted s c.caller (relinquish_rule s c) true (record { edit = edit; update = Relinquish handle; answer = answer })
relinquish_granted s c p t clears handle edit answer k who is same orderly replies =
    let own : t.handle ≡ (given_up c).handle = (receiver_is s c.caller (given_up c).handle t k.found).0 in
    record {
      passed = k.passed;
      edit = subst (λ (o : Option Live). AreSameEdits (option_map (given_back_by c.caller (given_up c).clears) o) edit) (sym k.found)
          (subst (λ (b : Bool). AreSameEdits (Some (record { who = c.caller; runs = t.ranges; to = None; clears = b })) edit) k.ordered
          (subst (λ (q : ℕ). AreSameEdits (Some (record { who = q; runs = t.ranges; to = None; clears = clears })) edit) who same));
      orderly = subst (λ (q : ℕ). AreOrderly q edit) who orderly;
      next = ap (λ (h : ℕ). with_retrieval_by s c.caller h None) (is ∙ own);
      can = tt;
      reply = replies;
      memory_taken = λ e. refl;
    }

-- ---- a retrieve

-- where the transaction refuses, the call is refused so
pub transaction_refuses : (s : State) (c : CallWords) (x : Transfer) (request : descriptors.Retrieve) (t : Live) (status : Status) → IsNamed s c x request t → first_refusal (transaction_tests s c.caller request t) ≡ Some status → first_refusal (retrieve_tests s c x) ≡ Some status
transaction_refuses s c x request t status k e =
    let v = asked s c x in
    second_decides (request_tests s c x) (option_map_or (transaction_tests s c.caller v) (received_with s c.caller v.handle) []) k.passed
    ∙ ap (λ (o : Option Live). first_refusal (option_map_or (transaction_tests s c.caller v) o [])) k.found
    ∙ ap (λ (r : descriptors.Retrieve). first_refusal (transaction_tests s c.caller r t)) (sym k.said) ∙ e

-- and where it does not, the call passes
pub transaction_passes : (s : State) (c : CallWords) (x : Transfer) (request : descriptors.Retrieve) (t : Live) (access : Access) → IsNamed s c x request t → first_refusal (transaction_tests s c.caller request t) ≡ None → granted request.endpoint.permissions c.caller t ≡ Some access → IsRetrieved s c x t access
transaction_passes s c x request t access k e grants =
    let v = asked s c x in
    record {
      passed =
          second_decides (request_tests s c x) (option_map_or (transaction_tests s c.caller v) (received_with s c.caller v.handle) []) k.passed
          ∙ ap (λ (o : Option Live). first_refusal (option_map_or (transaction_tests s c.caller v) o [])) k.found
          ∙ ap (λ (r : descriptors.Retrieve). first_refusal (transaction_tests s c.caller r t)) (sym k.said) ∙ e;
      found = k.found;
      grants = ap (λ (r : descriptors.Retrieve). granted r.endpoint.permissions c.caller t) (sym k.said) ∙ grants;
    }

is_one : (s : State) (c : CallWords) (x : Transfer) (t : Live) (access : Access) → IsRetrieved s c x t access → retrieval_of s c x ≡ Some (record { transaction = t; access = access })
is_one s c x t access k =
    let permissions = (asked s c x).endpoint.permissions in
    ap (λ (o : Option Live). option_and_then (retrieval_with permissions c.caller) o) k.found
    ∙ ap (λ (view : View). option_map (λ (a : Access). record { transaction = t; access = a }) view) k.grants

is_not : (b : Bool) → not b ≡ true → b ≡ false
is_not true e = absurd cc
is_not false e = refl

-- the pair may be filled
fills : (s : State) (c : CallWords) (x : Transfer) (t : Live) (access : Access) → IsRetrieved s c x t access → first_refusal (pairs.fill_tests s.mailboxes c.caller) ≡ None
fills s c x t access k =
    let v = asked s c x in
    let of_transaction = option_map_or (transaction_tests s c.caller v) (received_with s c.caller v.handle) [] in
    let first = first_pass (request_tests s c x) of_transaction k.passed in
    let none : first_refusal (transaction_tests s c.caller v t) ≡ None =
    ap (λ (o : Option Live). first_refusal (option_map_or (transaction_tests s c.caller v) o [])) (sym k.found) ∙ sym (second_decides (request_tests s c x) of_transaction first) ∙ k.passed in
    let pair = (all_pass (request_tests s c x) first).0 in
    let free = is_not (holds_rx s.mailboxes c.caller) (all_pass (transaction_tests s c.caller v t) none).1.1.1.0 in
    rw (pair, free) refl

pub retrieve_granted : (s : State) (c : CallWords) (x : Transfer) (p : ℕ) (t : Live) (access : Access) (handle : ℕ) (edit : Option Edit) (answer : Answer) → IsReached s → IsRetrieved s c x t access → p ≡ c.caller → handle ≡ t.handle
    → AreSameEdits (Some (record { who = p; runs = t.ranges; to = Some access; clears = false })) edit → AreOrderly p edit → replied answer ≡ responding (caller_version s c) p (record { transaction = t; access = access })
    → IsGranted s c.caller (retrieve_rule s c x) true (record { edit = edit; update = Retrieve handle access; answer = answer })
retrieve_granted s c x p t access handle edit answer reached k who is same orderly replies =
    let one = is_one s c x t access k in
    let own : t.handle ≡ (asked s c x).handle = (receiver_is s c.caller (asked s c x).handle t k.found).0 in
    let live : found s.live handle ≡ Some t = ap (found s.live) (is ∙ own) ∙ its_handle s c.caller (asked s c x).handle t reached k.found in
    record {
      passed = k.passed;
      edit = subst (λ (o : Option Retrieval). AreSameEdits (option_map (retrieved_by c.caller) o) edit) (sym one) (subst (λ (q : ℕ). AreSameEdits (Some (record { who = q; runs = t.ranges; to = Some access; clears = false })) edit) who same);
      orderly = subst (λ (q : ℕ). AreOrderly q edit) who orderly;
      next =
          ap (λ (o : Option Live). option_map_or (λ (u : Live). after_retrieve s c.caller (record { transaction = u; access = access })) o s) live
          ∙ ap (λ (o : Option Retrieval). option_map_or (after_retrieve s c.caller) o s) (sym one);
      can = record { live = ap (λ (o : Option Live). is_some o) live; fills = fills s c x t access k };
      reply = replies ∙ ap (λ (q : ℕ). responding (caller_version s c) q (record { transaction = t; access = access })) who ∙ ap (λ (o : Option Retrieval). option_map_or (responding (caller_version s c) c.caller) o (error Denied)) (sym one);
      memory_taken = λ e. refl;
    }

-- ---- the state after it

kind_is : (k : Kind) (s : State) (p handle : ℕ) (t : Live) (access : Access) → t.handle ≡ handle → record s { live = live_after_kind handle p access k s.live; donations = donations_after_kind s.manifest p access t k s.donations } ≡ with_retrieval_of_kind k s p t access
unfolding with_retrieval_by with_donation
kind_is Share s p handle t access e = ap (λ (h : ℕ). record s { live = with_retrieval_of h p (Some access) s.live; donations = s.donations }) (sym e)
kind_is Lend s p handle t access e = ap (λ (h : ℕ). record s { live = with_retrieval_of h p (Some access) s.live; donations = s.donations }) (sym e)
kind_is Donate s p handle t access e = ap (λ (h : ℕ). record s { live = without h s.live; donations = with_donation_of s.manifest t.ranges (gift p access) s.donations }) (sym e)

has_one : (o : Option Live) → is_some o ≡ true → (t : Live) × (o ≡ Some t)
has_one None e = absurd cc
has_one (Some t) e = (t, refl)

pub retrieved_state : (s : State) (p handle : ℕ) (access : Access) (live : List Live) (donations : List Donation) (boxes : List Mailbox) → CanRetrieve s p handle → donations ≡ donations_after s.manifest p access (found s.live handle) s.donations → live ≡ live_after handle p access (found s.live handle) s.live → boxes ≡ pairs.with_rx p true s.mailboxes
    → record s { live = live; donations = donations; mailboxes = boxes } ≡ after_retrieval s p handle access
unfolding with_rx_filled
retrieved_state s p handle access live donations boxes can ds ts filled =
    let one = has_one (found s.live handle) can.live in
    let t = one.0 in
    let own : t.handle ≡ handle = eqb-true _ _ (found_is (λ u. eqb u.handle handle) s.live t one.1) in
    rw (ds, ts, filled, one.1) (ap (λ (u : State). with_rx_filled u p) (kind_is t.kind s p handle t access own) ∙ refl)

abbrev pub of_parts : LedgerView → List Mailbox → List PartitionState → State
of_parts l boxes partitions = record { manifest = l.manifest; donations = l.donations; live = l.live; mailboxes = boxes; partitions = partitions }

-- what the ledger and the mailboxes come to is the state after a retrieval
pub completed_state : {A : Type 0} (filled : Result A Status) (s : State) (p handle : ℕ) (access : Access) (first last : LedgerView) (boxes after : List Mailbox) (partitions : List PartitionState) → of_parts first boxes partitions ≡ s → CanRetrieve s p handle
    → last.manifest ≡ first.manifest → last.donations ≡ donations_after first.manifest p access (found first.live handle) first.donations → last.live ≡ live_after handle p access (found first.live handle) first.live
    → IfErr filled (RefusesWith (pairs.fill_tests boxes p)) → OnOk filled (after ≡ pairs.with_rx p true boxes) → of_parts last after partitions ≡ after_retrieval s p handle access
completed_state (Err status) s p handle access first last boxes after partitions is can manifest donations live refused ok =
    absurd (let fill = can.fills in let refuses : first_refusal (pairs.fill_tests s.mailboxes p) ≡ Some status = ap (λ (u : State). first_refusal (pairs.fill_tests u.mailboxes p)) (sym is) ∙ refused in cc)
completed_state (Ok x) s p handle access first last boxes after partitions is can manifest donations live refused ok =
    let start = of_parts first boxes partitions in
    let can_start : CanRetrieve start p handle = subst (λ (u : State). CanRetrieve u p handle) (sym is) can in
    ap (λ (m : ManifestRows). record { manifest = m; donations = last.donations; live = last.live; mailboxes = after; partitions = partitions }) manifest
    ∙ retrieved_state start p handle access last.live last.donations after can_start donations live ok
    ∙ ap (λ (u : State). after_retrieval u p handle access) is
