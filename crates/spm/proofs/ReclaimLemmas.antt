-- The transaction that a partition has sent with a handle.
use Rattle.std.proofs.Common.{◌≡◌, ℕ, true, ◌&&◌, eqb, cond, Option, Some, None, ap, ◌∙◌}
use Rattle.std.specs.Option.{option_and_then}
use Rattle.std.proofs.lemmas.Bool.{eqb-true}
use Rattle.base.specs.Pages.{are_disjoint}
use Rattle.base.specs.Transactions.{Live}
use Rattle.base.specs.State.{State}
use Rattle.base.proofs.Booleans.{both}
use Rattle.ledger.specs.Ledger.{found}
use Rattle.rules.specs.Calls.Reclaim.{sent_with}
use Rattle.rules.specs.Run.{IsReached}
use Rattle.rules.proofs.Ended.{found_in, found_is, found_of}
use Rattle.rules.proofs.Laws.Handles.{handles_used_once}
use Rattle.rules.proofs.Laws.SentPages.{transactions_kept}

-- the partition sent it
pub its_sender : (s : State) (p handle : ℕ) (t : Live) → sent_with s p handle ≡ Some t → t.sender ≡ p
its_sender s p handle t found = eqb-true _ _ (both (eqb t.handle handle) (eqb t.sender p) (found_is (λ u. eqb u.handle handle && eqb u.sender p) s.live t found)).1

-- the sender of the transaction with the handle decides
pub sent_where : (s : State) (p handle : ℕ) (o : Option Live) → IsReached s → found s.live handle ≡ o → sent_with s p handle ≡ option_and_then (λ u. cond (eqb u.sender p) (Some u) None) o
sent_where s p handle o reached is = found_of s.live handle (λ u. eqb u.sender p) (handles_used_once s reached).ascending ∙ ap (λ (x : Option Live). option_and_then (λ (u : Live). cond (eqb u.sender p) (Some u) None) x) is

-- no two of its ranges share a page
pub its_ranges : (s : State) (p handle : ℕ) (t : Live) → IsReached s → sent_with s p handle ≡ Some t → are_disjoint t.ranges ≡ true
its_ranges s p handle t reached found = found_in (λ u. are_disjoint u.ranges ≡ true) (λ u. eqb u.handle handle && eqb u.sender p) s.live t found (transactions_kept s reached).apart
