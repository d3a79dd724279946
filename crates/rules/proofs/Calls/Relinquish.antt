-- What is known of a relinquish that passes its tests.
use Rattle.std.proofs.Common.{◌≡◌, ℕ, true, ◌&&◌, eqb, Some, None}
use Rattle.std.proofs.lemmas.Bool.{eqb-true}
use Rattle.base.specs.Refusals.{first_refusal}
use Rattle.base.specs.Transactions.{Live}
use Rattle.base.specs.State.{State}
use Rattle.base.proofs.Booleans.{both}
use Rattle.rules.specs.Call.{CallWords}
use Rattle.rules.specs.Calls.Relinquish.{given_up, relinquish_tests}
use Rattle.rules.specs.Clearing.{may_clear_lent}
use Rattle.rules.specs.Receivers.{is_received_by, received_with, has_retrieved}
use Rattle.rules.proofs.Calls.Reclaim.{has_one}
use Rattle.rules.proofs.Ended.{found_is}
use Rattle.rules.proofs.Passing.{all_pass}

-- the transaction, of which the caller is a receiver that has retrieved it, and may clear it where it orders that
pub record RelinquishPasses (s : State) (c : CallWords) : Type 0 where
  pub transaction : Live
  pub found : received_with s c.caller (given_up c).handle ≡ Some transaction
  pub receiver : is_received_by c.caller transaction ≡ true
  pub retrieved : has_retrieved c.caller transaction ≡ true
  pub clears : may_clear_lent (given_up c).clears c.caller transaction ≡ true

pub receiver_is : (s : State) (p handle : ℕ) (t : Live) → received_with s p handle ≡ Some t → (t.handle ≡ handle) × (is_received_by p t ≡ true)
receiver_is s p handle t e =
    let named = both (eqb t.handle handle) (is_received_by p t) (found_is (λ u. eqb u.handle handle && is_received_by p u) s.live t e) in
    (eqb-true _ _ named.0, named.1)

pub relinquish_passes : (s : State) (c : CallWords) → first_refusal (relinquish_tests s c) ≡ None → RelinquishPasses s c
relinquish_passes s c e =
    let x = all_pass (relinquish_tests s c) e in
    let one = has_one (received_with s c.caller (given_up c).handle) x.1.1.1.0 in
    record {
      transaction = one.0;
      found = one.1;
      receiver = (receiver_is s c.caller (given_up c).handle one.0 one.1).1;
      retrieved = rw one.1 at x.1.1.1.1.0;
      clears = rw one.1 at x.1.1.1.1.1.0;
    }
