-- What is known of the change of a call that passes its tests, and of one that does not.
use Rattle.std.specs.Prelude.{◌≡◌, ℕ, ◌-◌, ◌<◌, ◌^◌, Bool, true, false, ◌||◌, Option, Some, None, is_some}
use Rattle.std.specs.Option.{option_map_or}
use Rattle.base.specs.Access.{Access}
use Rattle.base.specs.Buffers as pairs
use Rattle.base.specs.Pages.{covers, are_normal}
use Rattle.base.specs.Refusals.{first_refusal, NoneRefuses}
use Rattle.base.specs.Transactions.{Live}
use Rattle.base.specs.Ledger.{live_at}
use Rattle.base.specs.State.{State, sends_of}
use Rattle.ledger.specs.Ledger.{found, NamesItsSender}
use Rattle.wire.specs.declared.request.Request.{Request}
use Rattle.base.specs.Manifest.{is_partition}
use Rattle.wire.specs.Requests.{request_of}
use Rattle.wire.specs.Replies.{ReplyWords, success, version, response}
use Rattle.rules.specs.Call.{CallWords}
use Rattle.rules.specs.Rule.{Edit, Rule}
use Rattle.rules.specs.Run.{rule_of}
use Rattle.rules.specs.Calls.Version.{with_version}
use Rattle.rules.specs.Calls.Buffers.{with_pair, with_rx_released}
use Rattle.rules.specs.Calls.Send.{with_transaction}
use Rattle.rules.specs.Calls.Reclaim.{ended}
use Rattle.rules.specs.Calls.Retrieve.{after_retrieve}
use Rattle.rules.specs.Receivers.{with_retrieval_by}
use Rattle.spm.specs.declared.change.Update.{Update}
use Rattle.spm.specs.declared.change.Update.TheVariants.{Nothing, SetVersion, MapBuffers, UnmapBuffers, ReleaseRx, Open, Close, Retrieve, Relinquish}
use Rattle.spm.specs.declared.change.Answer.{Answer}
use Rattle.spm.specs.declared.change.Answer.TheVariants.{Success, Version, Response}
use Rattle.spm.specs.declared.change.Change.{Change}
use Rattle.spm.specs.declared.change.Stop.{Stop}
use Rattle.spm.specs.Machine.{takes_memory}
use Rattle.spm.specs.declared.change.Stop.TheVariants.{Refused, NoMemory}

-- ---- the state

-- the transaction of the handle is retrieved, and its receiver holds RX
abbrev pub after_retrieval : State → ℕ → ℕ → Access → State
after_retrieval s p handle access =
    option_map_or (λ t. after_retrieve s p (record { transaction = t; access = access })) (found s.live handle) s

-- the state after an update by a partition
abbrev pub updated : State → ℕ → Update → State
updated s p Nothing = s
updated s p (SetVersion word) = with_version s p word
updated s p (MapBuffers pair) = with_pair s p (Some pair)
updated s p UnmapBuffers = with_pair s p None
updated s p ReleaseRx = with_rx_released s p
updated s p (Open t) = with_transaction s t
updated s p (Close handle) = ended s handle
updated s p (Retrieve handle access) = after_retrieval s p handle access
updated s p (Relinquish handle) = with_retrieval_by s p handle None

-- the transaction can be opened: its sender may make one send more, its handle is new, and no live transaction covers its pages
pub record CanOpen (s : State) (t : Live) : Type 0 where
  pub room : sends_of s.partitions t.sender < 2 ^ 32 - 1
  pub new : found s.live t.handle ≡ None
  pub named : NamesItsSender t
  pub apart : (n : ℕ) → covers t.ranges n ≡ true → live_at s.live n ≡ None

-- the transaction of the handle is live, and its receiver has a pair and does not hold RX
pub record CanRetrieve (s : State) (p handle : ℕ) : Type 0 where
  pub live : is_some (found s.live handle) ≡ true
  pub fills : NoneRefuses (pairs.fill_tests s.mailboxes p)

-- the update can be made
abbrev pub CanUpdate : State → ℕ → Update → Type 0
CanUpdate s p Nothing = Unit {0}
CanUpdate s p (SetVersion word) = Unit {0}
CanUpdate s p (MapBuffers pair) = Unit {0}
CanUpdate s p UnmapBuffers = first_refusal (pairs.unmap_tests s.mailboxes p) ≡ None
CanUpdate s p ReleaseRx = first_refusal (pairs.release_tests s.mailboxes p) ≡ None
CanUpdate s p (Open t) = CanOpen s t
CanUpdate s p (Close handle) = Unit {0}
CanUpdate s p (Retrieve handle access) = CanRetrieve s p handle
CanUpdate s p (Relinquish handle) = Unit {0}

-- the update takes memory
abbrev pub needs_room : Update → Bool
needs_room Nothing = false
needs_room (SetVersion word) = false
needs_room (MapBuffers pair) = false
needs_room UnmapBuffers = false
needs_room ReleaseRx = false
needs_room (Open t) = true
needs_room (Close handle) = false
needs_room (Retrieve handle access) = true
needs_room (Relinquish handle) = false

-- ---- the tables

-- the edit is of what the partition itself reaches, and its runs are maximal
pub record IsOrderly (p : ℕ) (edit : Edit) : Type 0 where
  pub own : edit.who ≡ p
  pub normal : are_normal edit.runs ≡ true

abbrev pub AreOrderly : ℕ → Option Edit → Type 0
AreOrderly p None = Unit {0}
AreOrderly p (Some edit) = IsOrderly p edit

-- the same view of the same pages changes alike
pub record IsSameEdit (a b : Edit) : Type 0 where
  pub who : b.who ≡ a.who
  pub pages : (n : ℕ) → covers b.runs n ≡ covers a.runs n
  pub to : b.to ≡ a.to
  pub clears : b.clears ≡ a.clears

abbrev pub AreSameEdits : Option Edit → Option Edit → Type 0
AreSameEdits None None = Unit {0}
AreSameEdits None (Some b) = ⊥
AreSameEdits (Some a) None = ⊥
AreSameEdits (Some a) (Some b) = IsSameEdit a b

-- ---- the change

-- what a call is answered, as words
abbrev pub replied : Answer → ReplyWords
replied (Success w2 w3) = success w2 w3
replied (Version word) = version word
replied (Response length bytes) = record (response length) { rx = Some bytes.items }

-- making the change takes memory
abbrev pub wants_memory : Change → Bool
wants_memory change = is_some change.edit || needs_room change.update

-- the tests of a partition's request pass, and the change is its rule's
pub record IsGranted (s : State) (p : ℕ) (rule : Rule) (memory : Bool) (change : Change) : Type 0 where
  pub passed : first_refusal rule.tests ≡ None
  pub edit : AreSameEdits rule.edit change.edit
  pub orderly : AreOrderly p change.edit
  pub next : updated s p change.update ≡ rule.next
  pub can : CanUpdate s p change.update
  pub reply : replied change.answer ≡ rule.reply
  pub memory_taken : wants_memory change ≡ true → memory ≡ true

-- the request of a partition that a call decodes to, and its change
pub record IsGrantedCall (s : State) (c : CallWords) (change : Change) : Type 0 where
  pub request : Request
  pub known : is_partition s.manifest c.caller ≡ true
  pub named : request_of c.regs ≡ Some request
  pub granted : IsGranted s c.caller (rule_of s c request) (takes_memory request) change

-- the request is refused by its rule, or passes its tests and lacks memory
abbrev pub IsStopped : Rule → Bool → Stop → Type 0
IsStopped rule memory (Refused status) = first_refusal rule.tests ≡ Some status
IsStopped rule memory (NoMemory error) = (first_refusal rule.tests ≡ None) × (memory ≡ true)
