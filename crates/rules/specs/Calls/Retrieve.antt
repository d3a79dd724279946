-- FFA_MEM_RETRIEVE_REQ: a receiver retrieves what was sent to it (FF-A 1.1, "FFA_MEM_RETRIEVE_REQ", "FFA_MEM_RETRIEVE_RESP").
use Rattle.std.specs.Prelude.{ℕ, ◌+◌, ◌*◌, Bool, true, false, ◌&&◌, ◌||◌, ◌==◌, not, nat_le, List, [], ◌∷◌, ◌++◌, length, Option, Some, None, is_some, if◌then◌else◌}
use Rattle.std.specs.List.{find}
use Rattle.std.specs.Option.{option_map, option_map_or, option_and_then}
use Rattle.base.specs.declared.access.Rights.{Rights}
use Rattle.base.specs.declared.access.Rights.TheVariants.{Ro, Rw}
use Rattle.base.specs.declared.partition.Version.{Version}
use Rattle.base.specs.declared.permissions.DataAccess.{DataAccess}
use Rattle.base.specs.declared.permissions.DataAccess.TheVariants as data_access
use Rattle.base.specs.declared.permissions.InstructionAccess.{InstructionAccess}
use Rattle.base.specs.declared.permissions.InstructionAccess.TheVariants as instruction_access
use Rattle.base.specs.declared.status.Status.TheVariants.{InvalidParameters, NoMemory, Busy, Denied}
use Rattle.base.specs.declared.transaction.Kind.{Kind}
use Rattle.base.specs.declared.transaction.Kind.TheVariants.{Share, Lend, Donate}
use Rattle.base.specs.Access.{Access, View}
use Rattle.base.specs.Buffers.{pair_of, has_pair, holds_rx, with_rx}
use Rattle.base.specs.Descriptors.Encoding.{response_text}
use Rattle.base.specs.Descriptors.Permissions.{data_in, instruction_in}
use Rattle.base.specs.Descriptors.Response.{Response}
use Rattle.base.specs.Descriptors.Retrieve.{Retrieve, is_retrieve, retrieve_of}
use Rattle.base.specs.Descriptors.Send.{header_size}
use Rattle.base.specs.Refusals.{Test, ◌otherwise◌}
use Rattle.base.specs.State.{State, version_of}
use Rattle.base.specs.Transactions.{Receiver, Live, without, gift}
use Rattle.base.specs.Ledger.{with_donation_of}
use Rattle.wire.specs.declared.request.Transfer.{Transfer}
use Rattle.wire.specs.Replies.{ReplyWords, response, error}
use Rattle.rules.specs.Call.{CallWords}
use Rattle.rules.specs.Receivers.{received_with, has_retrieved, with_retrieval_by}
use Rattle.rules.specs.Rule.{Edit, given_to, Rule}
use Rattle.rules.specs.Transfers.{names_tx, has_lengths, bytes_of, caller_version}

-- ---- what is asked

-- what the descriptor says
abbrev pub asked : State → CallWords → Transfer → Retrieve
asked s c t = retrieve_of (caller_version s c) (bytes_of c t)

-- a request may leave the kind open
abbrev pub is_kind : Kind → Option Kind → Bool
is_kind kind None = true
is_kind Share (Some Share) = true
is_kind Lend (Some Lend) = true
is_kind Donate (Some Donate) = true
is_kind kind (Some other) = false

-- The sender, the tag and the kind are the transaction's. The request names one borrower, so where there are more it bypasses the check that all are named.
unfoldable pub is_asked_rightly : Retrieve → Live → Bool
is_asked_rightly v t =
    (v.sender == t.sender) && (v.tag == t.tag) && is_kind t.kind v.kind
    && ((length t.receivers == 1) || v.bypass)

-- ---- what is granted

-- what it may retrieve at most
abbrev pub cap_of : ℕ → Live → Option Rights
cap_of p t = option_map (λ r. r.cap) (find (λ r. r.partition == p) t.receivers)

-- data access that is not specified is all that may be retrieved
abbrev pub granted_rights : DataAccess → Rights → Option Rights
granted_rights data_access.NotSpecified cap = Some cap
granted_rights data_access.ReadOnly cap = Some Ro
granted_rights data_access.ReadWrite Rw = Some Rw
granted_rights data_access.ReadWrite Ro = None
granted_rights data_access.Reserved cap = None

-- a donation, or a lend to one receiver
abbrev pub is_for_one : Kind → List Receiver → Bool
is_for_one Share receivers = false
is_for_one Lend receivers = length receivers == 1
is_for_one Donate receivers = true

-- It may be executed where no other partition has it, its home is executable, and it is retrieved read-only.
abbrev pub may_execute : Live → Rights → Bool
may_execute t Rw = false
may_execute t Ro = is_for_one t.kind t.receivers && t.home.exec

-- instruction access that is not specified is none
abbrev pub granted_execution : InstructionAccess → Bool → Option Bool
granted_execution instruction_access.NotSpecified may = Some false
granted_execution instruction_access.NotExecutable may = Some false
granted_execution instruction_access.Executable true = Some true
granted_execution instruction_access.Executable false = None
granted_execution instruction_access.Reserved may = None

-- the kind of memory is the home's
abbrev pub narrowed : Access → Rights → Bool → Access
narrowed home rights exec = record { rights = rights; exec = exec; kind = home.kind }

abbrev pub granted_with : Live → InstructionAccess → Rights → View
granted_with t instruction rights =
    option_map (narrowed t.home rights) (granted_execution instruction (may_execute t rights))

-- what the permissions that a receiver asks for come to, where they are granted
unfoldable pub granted : ℕ → ℕ → Live → View
granted permissions p t =
    option_and_then
    (λ cap. option_and_then (granted_with t (instruction_in permissions)) (granted_rights (data_in permissions) cap))
    (cap_of p t)

-- ---- the response

abbrev pub data_bits : Rights → ℕ
data_bits Ro = 1
data_bits Rw = 2

-- data access in bits 1:0, instruction access in bits 3:2
abbrev pub permissions_of : Access → ℕ
permissions_of a = data_bits a.rights + 4 * (if a.exec then 2 else 1)

-- it tells the receiver what it has been granted, of which pages
abbrev pub response_for : ℕ → Live → Access → Response
response_for p t access = record {
  sender = t.sender;
  kind = t.kind;
  handle = t.handle;
  tag = t.tag;
  endpoint = record { partition = p; permissions = permissions_of access };
  ranges = t.ranges;
}

-- its length in bytes
abbrev pub response_length : Version → Live → ℕ
response_length version t = header_size version + 32 + 16 * length t.ranges

-- the size of the RX buffer, in bytes
abbrev pub rx_size : State → ℕ → ℕ
rx_size s p = option_map_or (λ pair. 4096 * pair.rx.count) (pair_of s.mailboxes p) 0

-- the response is not longer than the RX buffer
unfoldable pub fits_rx : State → ℕ → Live → Bool
fits_rx s p t = nat_le (response_length (version_of s.partitions p) t) (rx_size s p)

-- ---- the table

-- the tests of the request itself
abbrev pub request_tests : State → CallWords → Transfer → List Test
request_tests s c x =
    let p = c.caller in
    let v = asked s c x in
    (has_pair s.mailboxes p otherwise InvalidParameters)
    ∷ (names_tx x otherwise InvalidParameters)
    ∷ (has_lengths s c x otherwise InvalidParameters)
    ∷ (is_retrieve (caller_version s c) (bytes_of c x) otherwise InvalidParameters)
    ∷ (v.endpoint.partition == p otherwise InvalidParameters)
    ∷ (is_some (received_with s p v.handle) otherwise InvalidParameters)
    ∷ []

-- the tests of the transaction that it names
abbrev pub transaction_tests : State → ℕ → Retrieve → Live → List Test
transaction_tests s p v t =
    (is_asked_rightly v t otherwise InvalidParameters)
    ∷ (not (has_retrieved p t) otherwise Denied)
    ∷ (is_some (granted v.endpoint.permissions p t) otherwise Denied)
    ∷ (not (holds_rx s.mailboxes p) otherwise Busy)
    ∷ (fits_rx s p t otherwise NoMemory)
    ∷ []

-- all of them, in order
abbrev pub retrieve_tests : State → CallWords → Transfer → List Test
retrieve_tests s c x =
    let v = asked s c x in
    request_tests s c x
    ++ option_map_or (transaction_tests s c.caller v) (received_with s c.caller v.handle) []

-- ---- success

-- the donation is complete: the partition owns its pages, which are this to it, and the transaction has ended
unfoldable pub with_donation : State → ℕ → Live → Access → State
with_donation s p t access =
    record s {
      live = without t.handle s.live;
      donations = with_donation_of s.manifest t.ranges (gift p access) s.donations;
    }

-- a receiver has the transaction with this access
abbrev pub with_retrieval_of_kind : Kind → State → ℕ → Live → Access → State
with_retrieval_of_kind Share s p t access = with_retrieval_by s p t.handle (Some access)
with_retrieval_of_kind Lend s p t access = with_retrieval_by s p t.handle (Some access)
with_retrieval_of_kind Donate s p t access = with_donation s p t access

-- the partition holds its RX buffer
unfoldable pub with_rx_filled : State → ℕ → State
with_rx_filled s p = record s { mailboxes = with_rx p true s.mailboxes }

-- the transaction that a request names, and what is granted of it
pub record Retrieval : Type 0 where
  pub transaction : Live
  pub access : Access

abbrev pub retrieval_with : ℕ → ℕ → Live → Option Retrieval
retrieval_with permissions p t =
    option_map (λ access. record { transaction = t; access = access }) (granted permissions p t)

abbrev pub retrieval_of : State → CallWords → Transfer → Option Retrieval
retrieval_of s c x =
    let v = asked s c x in
    option_and_then (retrieval_with v.endpoint.permissions c.caller) (received_with s c.caller v.handle)

-- the receiver reaches its pages with the access, and nothing is cleared
abbrev pub retrieved_by : ℕ → Retrieval → Edit
retrieved_by p r = given_to p r.transaction.ranges r.access false

-- the state after it, in which the receiver holds RX
abbrev pub after_retrieve : State → ℕ → Retrieval → State
after_retrieve s p r =
    with_rx_filled (with_retrieval_of_kind r.transaction.kind s p r.transaction r.access) p

-- the length of the response in the registers, and the response in RX
abbrev pub responding : Version → ℕ → Retrieval → ReplyWords
responding version p r =
    record (response (response_length version r.transaction)) {
      rx = Some (response_text version (response_for p r.transaction r.access));
    }

-- a request that names no transaction, or is granted nothing of it, fails a test
abbrev pub retrieve_rule : State → CallWords → Transfer → Rule
retrieve_rule s c x =
    let p = c.caller in
    let retrieval = retrieval_of s c x in
    record {
      tests = retrieve_tests s c x;
      edit = option_map (retrieved_by p) retrieval;
      next = option_map_or (after_retrieve s p) retrieval s;
      reply = option_map_or (responding (caller_version s c) p) retrieval (error Denied);
    }
