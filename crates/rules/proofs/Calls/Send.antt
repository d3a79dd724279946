-- What is known of a send that passes its tests.
use Rattle.std.proofs.Common.{◌≡◌, true, Some, None, is_some, refl}
use Rattle.base.specs.declared.transaction.Kind.{Kind}
use Rattle.base.specs.Access.{Access, View}
use Rattle.base.specs.Buffers.{has_pair}
use Rattle.base.specs.Descriptors.Send.{is_send, send_of}
use Rattle.base.specs.Pages.{are_disjoint}
use Rattle.base.specs.Refusals.{first_refusal}
use Rattle.base.specs.State.{State, common_home}
use Rattle.wire.specs.declared.request.Transfer.{Transfer}
use Rattle.rules.specs.Call.{CallWords}
use Rattle.rules.specs.Clearing.{may_clear_sent}
use Rattle.rules.specs.Transfers.{names_tx, has_lengths, caller_version, bytes_of}
use Rattle.rules.specs.Calls.Send.{sent, are_parties, suits, are_capped, has_room, opened, with_transaction, send_tests, send_rule}
use Rattle.base.proofs.Booleans.{both}
use Rattle.rules.proofs.Passing.{all_pass}

-- each of its tests, and the pages' home
pub record SendPasses (s : State) (c : CallWords) (kind : Kind) (t : Transfer) : Type 0 where
  pub home : Access
  pub pair : has_pair s.mailboxes c.caller ≡ true
  pub buffer : names_tx t ≡ true
  pub lengths : has_lengths s c t ≡ true
  pub spelled : is_send (caller_version s c) (bytes_of c t) ≡ true
  pub parties : are_parties s c.caller (sent s c t) ≡ true
  pub terms : suits kind (sent s c t) ≡ true
  pub common : common_home s c.caller (sent s c t).ranges ≡ Some home
  pub capped : are_capped kind (Some home) (sent s c t).receivers ≡ true
  pub clears : may_clear_sent (sent s c t).clears (Some home) ≡ true
  pub room : has_room s c.caller ≡ true

has_home : (a : View) → is_some a ≡ true → (home : Access) × (a ≡ Some home)
has_home None e = absurd cc
has_home (Some home) e = (home, refl)

pub send_passes : (s : State) (c : CallWords) (kind : Kind) (t : Transfer) → first_refusal (send_tests s c kind t) ≡ None → SendPasses s c kind t
send_passes s c kind t e =
    let x = all_pass (send_tests s c kind t) e in
    let home = has_home (common_home s c.caller (sent s c t).ranges) x.1.1.1.1.1.1.0 in
    record {
      home = home.0;
      pair = x.0;
      buffer = x.1.0;
      lengths = x.1.1.0;
      spelled = x.1.1.1.0;
      parties = x.1.1.1.1.0;
      terms = x.1.1.1.1.1.0;
      common = home.1;
      capped = rw home.1 at x.1.1.1.1.1.1.1.0;
      clears = rw home.1 at x.1.1.1.1.1.1.1.1.0;
      room = x.1.1.1.1.1.1.1.1.1.0;
    }

-- the state after it
pub next_is : (s : State) (c : CallWords) (kind : Kind) (t : Transfer) (k : SendPasses s c kind t) → (send_rule s c kind t).next ≡ with_transaction s (opened s c.caller kind (sent s c t) k.home)
next_is s c kind t k = rw k.common refl

-- its ranges share no page
pub sent_apart : (s : State) (c : CallWords) (kind : Kind) (t : Transfer) → SendPasses s c kind t → are_disjoint (sent s c t).ranges ≡ true
unfolding is_send send_of
sent_apart s c kind t k = (both _ _ (both _ _ k.spelled).0).1
