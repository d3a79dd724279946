-- What the tests of calls find.
use Rattle.std.specs.Prelude.{◌≡◌, ℕ, ◌-◌, ◌<◌, ◌^◌, Bool, Some, None}
use Rattle.base.specs.declared.transaction.Kind.{Kind}
use Rattle.base.specs.Access.{Access}
use Rattle.base.specs.Descriptors.Retrieve as descriptors
use Rattle.base.specs.Descriptors.Send as descriptor
use Rattle.base.specs.Refusals.{first_refusal, NoneRefuses}
use Rattle.base.specs.Transactions.{Live}
use Rattle.base.specs.Buffers.{pair_of}
use Rattle.base.specs.State.{State, sends_of, version_of, common_home}
use Rattle.wire.specs.declared.request.Transfer.{Transfer}
use Rattle.rules.specs.Call.{CallWords}
use Rattle.rules.specs.Calls.Send.{send_tests, sent}
use Rattle.rules.specs.Calls.Reclaim.{reclaim_tests, sent_with}
use Rattle.rules.specs.Calls.Relinquish.{given_up, relinquish_tests}
use Rattle.rules.specs.Calls.Retrieve.{asked, granted, request_tests, retrieve_tests}
use Rattle.rules.specs.Receivers.{received_with}
use Rattle.spm.specs.declared.call.Caller.{Caller}

-- the tests pass, and this is what the descriptor says, the home of its pages, and how many of the caller's sends were accepted
pub record IsChecked (s : State) (c : CallWords) (kind : Kind) (t : Transfer) (desc : descriptor.Send) (home : Access) (sends : ℕ) : Type 0 where
  pub passed : first_refusal (send_tests s c kind t) ≡ None
  pub said : desc ≡ sent s c t
  pub common : common_home s c.caller desc.ranges ≡ Some home
  pub counted : sends ≡ sends_of s.partitions c.caller
  pub room : sends < 2 ^ 32 - 1

-- the tests of a reclaim pass, and this is the transaction
pub record IsReclaimed (s : State) (p handle flags : ℕ) (t : Live) : Type 0 where
  pub passed : NoneRefuses (reclaim_tests s p handle flags)
  pub found : sent_with s p handle ≡ Some t

-- the tests of a relinquish pass, and this is the transaction, and whether its pages are to be cleared
pub record IsRelinquished (s : State) (c : CallWords) (t : Live) (clears : Bool) : Type 0 where
  pub passed : NoneRefuses (relinquish_tests s c)
  pub ordered : clears ≡ (given_up c).clears
  pub found : received_with s c.caller (given_up c).handle ≡ Some t

-- this is what is kept for a partition that has registered its buffers
pub record IsCaller (s : State) (p : ℕ) (caller : Caller) : Type 0 where
  pub partition : caller.partition ≡ p
  pub version : caller.version ≡ version_of s.partitions p
  pub pair : pair_of s.mailboxes p ≡ Some caller.pair

-- the tests of a retrieve request itself pass, and this is what it says, and the transaction that it names
pub record IsNamed (s : State) (c : CallWords) (x : Transfer) (request : descriptors.Retrieve) (t : Live) : Type 0 where
  pub passed : NoneRefuses (request_tests s c x)
  pub said : request ≡ asked s c x
  pub found : received_with s c.caller (asked s c x).handle ≡ Some t

-- all tests of a retrieve pass, and this is the transaction, and what the caller is granted of it
pub record IsRetrieved (s : State) (c : CallWords) (x : Transfer) (t : Live) (access : Access) : Type 0 where
  pub passed : NoneRefuses (retrieve_tests s c x)
  pub found : received_with s c.caller (asked s c x).handle ≡ Some t
  pub grants : granted (asked s c x).endpoint.permissions c.caller t ≡ Some access
