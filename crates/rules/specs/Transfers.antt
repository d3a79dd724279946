-- How a call hands over a descriptor in the TX buffer (FF-A 1.1, "Transmission of transaction descriptor in dynamically allocated buffers").
use Rattle.std.specs.Prelude.{ℕ, ◌*◌, Bool, ◌&&◌, ◌==◌, nat_le, List, length, take}
use Rattle.std.specs.Option.{option_map_or}
use Rattle.base.specs.declared.partition.Version.{Version}
use Rattle.base.specs.Buffers.{pair_of}
use Rattle.base.specs.State.{State, version_of}
use Rattle.wire.specs.declared.request.Transfer.{Transfer}
use Rattle.rules.specs.Call.{CallWords}

-- registers 3 and 4 name no other buffer
unfoldable pub names_tx : Transfer → Bool
names_tx t = (t.address == 0) && (t.pages == 0)

-- the size of the TX buffer, in bytes
abbrev pub tx_size : State → ℕ → ℕ
tx_size s p = option_map_or (λ pair. 4096 * pair.tx.count) (pair_of s.mailboxes p) 0

-- the total length is the fragment's, and neither the TX buffer nor the bytes that the call carries are shorter
unfoldable pub are_lengths : Transfer → ℕ → ℕ → Bool
are_lengths t buffer bytes =
    (t.total == t.fragment) && nat_le t.total buffer && nat_le t.total bytes

abbrev pub has_lengths : State → CallWords → Transfer → Bool
has_lengths s c t = are_lengths t (tx_size s c.caller) (length c.tx)

-- the bytes of the descriptor
abbrev pub bytes_of : CallWords → Transfer → List ℕ
bytes_of c t = take t.total c.tx

-- the version in whose layout the caller's descriptors are
abbrev pub caller_version : State → CallWords → Version
caller_version s c = version_of s.partitions c.caller
