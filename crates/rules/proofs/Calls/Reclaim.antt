-- What is known of a reclaim that passes its tests.
use Rattle.std.proofs.Common.{◌≡◌, ℕ, true, ◌&&◌, eqb, Option, Some, None, is_some, refl}
use Rattle.std.proofs.lemmas.Bool.{eqb-true}
use Rattle.base.specs.Refusals.{first_refusal}
use Rattle.base.specs.Transactions.{Live}
use Rattle.base.specs.State.{State}
use Rattle.base.proofs.Booleans.{both}
use Rattle.rules.specs.Calls.Reclaim.{sent_with, is_given_back, reclaim_tests}
use Rattle.rules.proofs.Ended.{found_is}
use Rattle.rules.proofs.Passing.{all_pass}

-- the transaction, which is the caller's and which no receiver has any more
pub record ReclaimPasses (s : State) (p handle : ℕ) : Type 0 where
  pub transaction : Live
  pub found : sent_with s p handle ≡ Some transaction
  pub sender : transaction.sender ≡ p
  pub given_back : is_given_back transaction ≡ true

pub has_one : (o : Option Live) → is_some o ≡ true → (t : Live) × (o ≡ Some t)
has_one None e = absurd cc
has_one (Some t) e = (t, refl)

pub reclaim_passes : (s : State) (p handle flags : ℕ) → first_refusal (reclaim_tests s p handle flags) ≡ None → ReclaimPasses s p handle
reclaim_passes s p handle flags e =
    let x = all_pass (reclaim_tests s p handle flags) e in
    let one = has_one (sent_with s p handle) x.1.0 in
    let t = one.0 in
    let named = both (eqb t.handle handle) (eqb t.sender p) (found_is (λ u. eqb u.handle handle && eqb u.sender p) s.live t one.1) in
    record {
      transaction = t;
      found = one.1;
      sender = eqb-true _ _ named.1;
      given_back = rw one.1 at x.1.1.0;
    }
