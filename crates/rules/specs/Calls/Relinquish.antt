-- FFA_MEM_RELINQUISH: a receiver gives up what it has retrieved (FF-A 1.1, "FFA_MEM_RELINQUISH").
use Rattle.std.specs.Prelude.{ℕ, Bool, false, ◌==◌, List, [], ◌∷◌, None, is_some}
use Rattle.std.specs.Option.{option_map, option_map_or}
use Rattle.base.specs.declared.status.Status.TheVariants.{InvalidParameters, Denied}
use Rattle.base.specs.Buffers.{has_pair}
use Rattle.base.specs.Descriptors.Relinquish.{Relinquish, is_relinquish, relinquish_of}
use Rattle.base.specs.Refusals.{Test, ◌otherwise◌}
use Rattle.base.specs.State.{State}
use Rattle.base.specs.Transactions.{Live}
use Rattle.wire.specs.Replies.{success}
use Rattle.rules.specs.Call.{CallWords}
use Rattle.rules.specs.Clearing.{may_clear_lent}
use Rattle.rules.specs.Receivers.{received_with, has_retrieved, with_retrieval_by}
use Rattle.rules.specs.Rule.{Edit, taken_from, Rule}

-- what the descriptor says, with which TX begins
abbrev pub given_up : CallWords → Relinquish
given_up c = relinquish_of c.tx

-- the tests, in order
abbrev pub relinquish_tests : State → CallWords → List Test
relinquish_tests s c =
    let p = c.caller in
    let transaction = received_with s p (given_up c).handle in
    (has_pair s.mailboxes p otherwise InvalidParameters)
    ∷ (is_relinquish c.tx otherwise InvalidParameters)
    ∷ ((given_up c).endpoint == p otherwise InvalidParameters)
    ∷ (is_some transaction otherwise InvalidParameters)
    ∷ (option_map_or (has_retrieved p) transaction false otherwise Denied)
    ∷ (option_map_or (may_clear_lent (given_up c).clears p) transaction false otherwise Denied)
    ∷ []

-- the receiver reaches its pages no more
abbrev pub given_back_by : ℕ → Bool → Live → Edit
given_back_by p clears t = taken_from p t.ranges clears

abbrev pub relinquish_rule : State → CallWords → Rule
relinquish_rule s c =
    let p = c.caller in
    let handle = (given_up c).handle in
    record {
      tests = relinquish_tests s c;
      edit = option_map (given_back_by p (given_up c).clears) (received_with s p handle);
      next = with_retrieval_by s p handle None;
      reply = success 0 0;
    }
