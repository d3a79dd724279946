-- What is known of a retrieve that passes its tests.
use Rattle.std.proofs.Common.{◌≡◌, ℕ, true, not, [], Option, Some, None, is_some, refl, sym, ap, ◌∙◌, subst}
use Rattle.std.specs.Option.{option_map, option_map_or, option_and_then}
use Rattle.base.specs.declared.transaction.Kind.{Kind}
use Rattle.base.specs.declared.transaction.Kind.TheVariants.{Share, Lend, Donate}
use Rattle.base.specs.Access.{Access, View}
use Rattle.base.specs.Ledger.{retrieved}
use Rattle.base.specs.Refusals.{first_refusal}
use Rattle.base.specs.Transactions.{Live}
use Rattle.base.specs.State.{State}
use Rattle.wire.specs.declared.request.Transfer.{Transfer}
use Rattle.rules.specs.Call.{CallWords}
use Rattle.rules.specs.Calls.Retrieve.{asked, granted, request_tests, transaction_tests, retrieve_tests, retrieval_with, retrieval_of, retrieved_by, with_retrieval_of_kind, with_donation, with_rx_filled, after_retrieve, retrieve_rule}
use Rattle.rules.specs.Receivers.{is_received_by, received_with, with_retrieval_by}
use Rattle.rules.proofs.Calls.Reclaim.{has_one}
use Rattle.rules.proofs.Calls.Relinquish.{receiver_is}
use Rattle.rules.proofs.Passing.{all_pass, first_pass, second_decides}

-- the transaction, of which the caller is a receiver that has retrieved nothing, and what it is granted
pub record RetrievePasses (s : State) (c : CallWords) (x : Transfer) : Type 0 where
  pub transaction : Live
  pub access : Access
  pub found : received_with s c.caller (asked s c x).handle ≡ Some transaction
  pub handle : transaction.handle ≡ (asked s c x).handle
  pub receiver : is_received_by c.caller transaction ≡ true
  pub nothing_yet : retrieved transaction.receivers c.caller ≡ None
  pub grants : granted (asked s c x).endpoint.permissions c.caller transaction ≡ Some access
  pub named : retrieval_of s c x ≡ Some (record { transaction = transaction; access = access })

nothing : (view : View) → not (is_some view) ≡ true → view ≡ None
nothing None e = refl
nothing (Some a) e = absurd cc

has_access : (view : View) → is_some view ≡ true → (a : Access) × (view ≡ Some a)
has_access None e = absurd cc
has_access (Some a) e = (a, refl)

pub retrieve_passes : (s : State) (c : CallWords) (x : Transfer) → first_refusal (retrieve_tests s c x) ≡ None → RetrievePasses s c x
retrieve_passes s c x e =
    let p = c.caller in
    let v = asked s c x in
    let of_transaction = option_map_or (transaction_tests s p v) (received_with s p v.handle) [] in
    let first = first_pass (request_tests s c x) of_transaction e in
    let one = has_one (received_with s p v.handle) (all_pass (request_tests s c x) first).1.1.1.1.1.0 in
    let t = one.0 in
    let is = receiver_is s p v.handle t one.1 in
    let none : first_refusal (transaction_tests s p v t) ≡ None =
    ap (λ (o : Option Live). first_refusal (option_map_or (transaction_tests s p v) o [])) (sym one.1) ∙ sym (second_decides (request_tests s c x) of_transaction first) ∙ e in
    let then = all_pass (transaction_tests s p v t) none in
    let may : is_some (granted v.endpoint.permissions p t) ≡ true = then.1.1.0 in
    let access = has_access (granted v.endpoint.permissions p t) may in
    record {
      transaction = t;
      access = access.0;
      found = one.1;
      handle = is.0;
      receiver = is.1;
      nothing_yet = nothing (retrieved t.receivers p) then.1.0;
      grants = access.1;
      named =
          ap (λ (o : Option Live). option_and_then (retrieval_with v.endpoint.permissions p) o) one.1
          ∙ ap (λ (view : View). option_map (λ (a : Access). record { transaction = t; access = a }) view) access.1;
    }

-- the state after it
pub retrieved_is : (s : State) (c : CallWords) (x : Transfer) (k : RetrievePasses s c x) → (retrieve_rule s c x).next ≡ after_retrieve s c.caller (record { transaction = k.transaction; access = k.access })
retrieved_is s c x k = rw k.named refl

-- what the receiver reaches
pub edit_is : (s : State) (c : CallWords) (x : Transfer) (k : RetrievePasses s c x) → (retrieve_rule s c x).edit ≡ Some (retrieved_by c.caller (record { transaction = k.transaction; access = k.access }))
edit_is s c x k = rw k.named refl

-- what each kind of it makes of the state: RX is filled, and a share or a lend is retrieved, or a donation is completed
of_kind : (P : State → Type 0) (s : State) (p : ℕ) (t : Live) (access : Access) (kind : Kind) → t.kind ≡ kind → ((t.kind ≡ Donate → ⊥) → P (with_retrieval_by s p t.handle (Some access))) → (t.kind ≡ Donate → P (with_donation s p t access)) → P (with_retrieval_of_kind kind s p t access)
of_kind P s p t access Share is set given = set (λ e. let no = sym is ∙ e in absurd cc)
of_kind P s p t access Lend is set given = set (λ e. let no = sym is ∙ e in absurd cc)
of_kind P s p t access Donate is set given = given is

pub retrieve_cases : (P : State → Type 0) (s : State) (c : CallWords) (x : Transfer) (k : RetrievePasses s c x) → ((u : State) → P u → P (with_rx_filled u c.caller))
    → ((k.transaction.kind ≡ Donate → ⊥) → P (with_retrieval_by s c.caller k.transaction.handle (Some k.access))) → (k.transaction.kind ≡ Donate → P (with_donation s c.caller k.transaction k.access)) → P (retrieve_rule s c x).next
retrieve_cases P s c x k filled set given =
    let t = k.transaction in
    subst P (sym (retrieved_is s c x k)) (filled (with_retrieval_of_kind t.kind s c.caller t k.access) (of_kind P s c.caller t k.access t.kind refl set given))
