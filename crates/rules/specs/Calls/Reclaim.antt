-- FFA_MEM_RECLAIM: the sender ends a transaction, and reaches its pages as before (FF-A 1.1, "FFA_MEM_RECLAIM").
use Rattle.std.specs.Prelude.{ℕ, Bool, false, ◌&&◌, ◌==◌, not, List, [], ◌∷◌, Option, Some, None, is_some}
use Rattle.std.specs.List.{list_all, find}
use Rattle.std.specs.Option.{option_map_or, option_and_then}
use Rattle.base.specs.declared.status.Status.TheVariants.{InvalidParameters, Denied}
use Rattle.base.specs.declared.transaction.Kind.{Kind}
use Rattle.base.specs.declared.transaction.Kind.TheVariants.{Share, Lend, Donate}
use Rattle.base.specs.Access.{Access}
use Rattle.base.specs.Descriptors.Send.{are_clear_flags, orders_clear}
use Rattle.base.specs.Pages.{PageRun}
use Rattle.base.specs.Refusals.{Test, ◌otherwise◌}
use Rattle.base.specs.Transactions.{Live, without}
use Rattle.base.specs.State.{State}
use Rattle.wire.specs.Replies.{success}
use Rattle.rules.specs.Call.{CallWords}
use Rattle.rules.specs.Clearing.{may_clear_returned}
use Rattle.rules.specs.Rule.{Edit, given_to, Rule}

-- the live transaction of a handle that a partition has sent
abbrev pub sent_with : State → ℕ → ℕ → Option Live
sent_with s p handle = find (λ t. (t.handle == handle) && (t.sender == p)) s.live

-- each receiver that has retrieved it has relinquished it
abbrev pub is_given_back : Live → Bool
is_given_back t = list_all (λ r. not (is_some r.retrieved)) t.receivers

-- the tests, in order
abbrev pub reclaim_tests : State → ℕ → ℕ → ℕ → List Test
reclaim_tests s p handle flags =
    let transaction = sent_with s p handle in
    let clears = orders_clear flags in
    (are_clear_flags flags otherwise InvalidParameters)
    ∷ (is_some transaction otherwise InvalidParameters)
    ∷ (option_map_or is_given_back transaction false otherwise Denied)
    ∷ (option_map_or (may_clear_returned clears) transaction false otherwise Denied)
    ∷ []

-- the sender reaches again what it lent or gave away; it kept what it shared
abbrev pub returned : Kind → ℕ → List PageRun → Access → Bool → Option Edit
returned Share p runs home clears = None
returned Lend p runs home clears = Some (given_to p runs home clears)
returned Donate p runs home clears = Some (given_to p runs home clears)

abbrev pub returned_by : Bool → Live → Option Edit
returned_by clears t = returned t.kind t.sender t.ranges t.home clears

-- the transaction of the handle has ended
unfoldable pub ended : State → ℕ → State
ended s handle = record s { live = without handle s.live }

abbrev pub reclaim_rule : State → CallWords → ℕ → ℕ → Rule
reclaim_rule s c handle flags = record {
  tests = reclaim_tests s c.caller handle flags;
  edit = option_and_then (returned_by (orders_clear flags)) (sent_with s c.caller handle);
  next = ended s handle;
  reply = success 0 0;
}
