-- FFA_MEM_DONATE, FFA_MEM_LEND and FFA_MEM_SHARE (FF-A 1.1, "Memory management interfaces").
use Rattle.std.specs.Prelude.{ℕ, ◌+◌, ◌-◌, ◌^◌, Bool, true, false, ◌&&◌, ◌||◌, ◌==◌, not, nat_lt, List, [], ◌∷◌, length, map, filter, Option, Some, None, is_some, if◌then◌else◌}
use Rattle.std.specs.List.{list_all}
use Rattle.std.specs.Option.{option_map_or}
use Rattle.base.specs.declared.access.Rights.{Rights}
use Rattle.base.specs.declared.access.Rights.TheVariants.{Ro, Rw}
use Rattle.base.specs.declared.transaction.Kind.{Kind}
use Rattle.base.specs.declared.transaction.Kind.TheVariants.{Share, Lend, Donate}
use Rattle.base.specs.declared.status.Status.TheVariants.{InvalidParameters, NoMemory, Denied}
use Rattle.base.specs.Pages.{PageRun}
use Rattle.base.specs.Access.{Access, View}
use Rattle.base.specs.Manifest.{is_partition}
use Rattle.base.specs.Transactions.{Receiver, Live, with_live}
use Rattle.base.specs.Descriptors.Permissions.{no_permissions, read_only, read_write, not_specified, normal_write_back}
use Rattle.base.specs.Descriptors.Send.{Send, Endpoint, is_send, send_of}
use Rattle.base.specs.Handles.{handle_of, low_half, high_half}
use Rattle.base.specs.Refusals.{Test, ◌otherwise◌}
use Rattle.base.specs.Buffers.{has_pair}
use Rattle.base.specs.State.{State, PartitionState, sends_of, with_partition, common_home}
use Rattle.wire.specs.declared.request.Transfer.{Transfer}
use Rattle.wire.specs.Replies.{success}
use Rattle.rules.specs.Call.{CallWords}
use Rattle.rules.specs.Clearing.{may_clear_sent}
use Rattle.rules.specs.Transfers.{names_tx, has_lengths, bytes_of, caller_version}
use Rattle.rules.specs.Rule.{Edit, taken_from, Rule}

-- ---- the descriptor

-- what the descriptor says
abbrev pub sent : State → CallWords → Transfer → Send
sent s c t = send_of (caller_version s c) (bytes_of c t)

-- ---- sender and receivers

-- a partition other than the sender
abbrev pub is_receiver : State → ℕ → Endpoint → Bool
is_receiver s p e = not (e.partition == p) && is_partition s.manifest e.partition

-- no partition stands twice
abbrev pub are_distinct : List Endpoint → Bool
are_distinct [] = true
are_distinct (e ∷ es) = list_all (λ f. not (f.partition == e.partition)) es && are_distinct es

unfoldable pub are_parties : State → ℕ → Send → Bool
are_parties s p v =
    (v.sender == p) && list_all (is_receiver s p) v.receivers && are_distinct v.receivers

-- ---- permissions and attributes

-- no data access and no instruction access is specified
abbrev pub gives_nothing : Endpoint → Bool
gives_nothing e = e.permissions == no_permissions

-- data access is read-only or read-write, and no instruction access is specified
abbrev pub gives_data : Endpoint → Bool
gives_data e = (e.permissions == read_only) || (e.permissions == read_write)

-- a donation has one receiver; the sender specifies the memory attributes of a share, and of a lend to several receivers; what is shared is not cleared
unfoldable pub suits : Kind → Send → Bool
suits Donate v =
    (length v.receivers == 1) && list_all gives_nothing v.receivers
    && (v.attributes == not_specified)
suits Lend v =
    list_all gives_data v.receivers
    && (v.attributes == (if length v.receivers == 1 then not_specified else normal_write_back))
suits Share v =
    not v.clears && list_all gives_data v.receivers && (v.attributes == normal_write_back)

abbrev pub data_access : Endpoint → Rights
data_access e = if e.permissions == read_write then Rw else Ro

-- the most that a receiver may retrieve: the data access that the send gives it, and of a donation the home's
abbrev pub cap : Kind → Access → Endpoint → Rights
cap Donate home e = home.rights
cap Lend home e = data_access e
cap Share home e = data_access e

abbrev pub is_within : Rights → Rights → Bool
is_within Ro home = true
is_within Rw Ro = false
is_within Rw Rw = true

-- no receiver may retrieve more than the home
unfoldable pub are_capped : Kind → View → List Endpoint → Bool
are_capped kind home receivers =
    option_map_or (λ a. list_all (λ e. is_within (cap kind a e) a.rights) receivers) home false

-- ---- the sender's limits

-- fewer than 32 live transactions, and a handle that was not used
unfoldable pub has_room : State → ℕ → Bool
has_room s p =
    nat_lt (length (filter (λ t. t.sender == p) s.live)) 32
    && nat_lt (sends_of s.partitions p) (2 ^ 32 - 1)

-- ---- the table

abbrev pub send_tests : State → CallWords → Kind → Transfer → List Test
send_tests s c kind t =
    let p = c.caller in
    let v = sent s c t in
    let home = common_home s p v.ranges in
    (has_pair s.mailboxes p otherwise InvalidParameters)
    ∷ (names_tx t otherwise InvalidParameters)
    ∷ (has_lengths s c t otherwise InvalidParameters)
    ∷ (is_send (caller_version s c) (bytes_of c t) otherwise InvalidParameters)
    ∷ (are_parties s p v otherwise InvalidParameters)
    ∷ (suits kind v otherwise InvalidParameters)
    ∷ (is_some home otherwise Denied)
    ∷ (are_capped kind home v.receivers otherwise Denied)
    ∷ (may_clear_sent v.clears home otherwise Denied)
    ∷ (has_room s p otherwise NoMemory)
    ∷ []

-- ---- success

-- the handle of the partition's next accepted send: its identifier, and how many it made, from 1
abbrev pub next_handle : State → ℕ → ℕ
next_handle s p = handle_of p (sends_of s.partitions p + 1)

-- a receiver that has retrieved nothing
abbrev pub receiver : Kind → Access → Endpoint → Receiver
receiver kind home e = record { partition = e.partition; cap = cap kind home e; retrieved = None }

-- the transaction that an accepted send of pages with this home opens
abbrev pub opened : State → ℕ → Kind → Send → Access → Live
opened s p kind v home =
    record {
      handle = next_handle s p;
      kind = kind;
      sender = p;
      tag = v.tag;
      ranges = v.ranges;
      receivers = map (receiver kind home) v.receivers;
      home = home;
    }

abbrev pub counting : PartitionState → PartitionState
counting state = record state { sends = state.sends + 1 }

-- the transaction is live, and its send is counted
unfoldable pub with_transaction : State → Live → State
with_transaction s t =
    record s {
      live = with_live t s.live;
      partitions = with_partition t.sender counting s.partitions;
    }

-- the sender reaches nothing of what it lends or gives away, and keeps what it shares
abbrev pub sender_edit : Kind → ℕ → List PageRun → Bool → Option Edit
sender_edit Share p runs clears = None
sender_edit Lend p runs clears = Some (taken_from p runs clears)
sender_edit Donate p runs clears = Some (taken_from p runs clears)

-- it is answered the low and the high half of the handle
abbrev pub send_rule : State → CallWords → Kind → Transfer → Rule
send_rule s c kind t =
    let p = c.caller in
    let v = sent s c t in
    let handle = next_handle s p in
    record {
      tests = send_tests s c kind t;
      edit = sender_edit kind p v.ranges v.clears;
      next =
          option_map_or (λ home. with_transaction s (opened s p kind v home))
          (common_home s p v.ranges) s;
      reply = success (low_half handle) (high_half handle);
    }
