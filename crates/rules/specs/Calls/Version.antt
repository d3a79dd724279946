-- FFA_VERSION (FF-A 1.1, "FFA_VERSION").
use Rattle.std.specs.Prelude.{ℕ, ◌/◌, ◌%◌, ◌^◌, Bool, ◌==◌, [], None, if◌then◌else◌}
use Rattle.base.specs.declared.partition.Version.{Version}
use Rattle.base.specs.declared.partition.Version.TheVariants.{V10, V11}
use Rattle.base.specs.State.{State, PartitionState, with_partition}
use Rattle.wire.specs.Replies as replies
use Rattle.rules.specs.Call.{CallWords}
use Rattle.rules.specs.Rule.{Rule}

-- bit 31 is 0, and the major version in bits 30:16 is 1
unfoldable pub is_version : ℕ → Bool
is_version word = word / 2 ^ 16 == 1

-- the minor version in bits 15:0 is 0, or another one
abbrev pub version_named : ℕ → Version
version_named word = if word % 2 ^ 16 == 0 then V10 else V11

-- version 1.1, or NOT_SUPPORTED in register 0
abbrev pub version_reply : ℕ → replies.ReplyWords
version_reply word = replies.version (if is_version word then 0x10001 else 0xffffffff)

-- the version that it named, where that is one, and else the one that it has
abbrev pub version_after : ℕ → Version → Version
version_after word now = if is_version word then version_named word else now

abbrev pub naming : ℕ → PartitionState → PartitionState
naming word state = record state { version = version_after word state.version }

-- the partition speaks that version from now on
unfoldable pub with_version : State → ℕ → ℕ → State
with_version s p word = record s { partitions = with_partition p (naming word) s.partitions }

-- it is never refused: a version that is not supported is answered in register 0
abbrev pub version_rule : State → CallWords → ℕ → Rule
version_rule s c word =
    record {
      tests = [];
      edit = None;
      next = with_version s c.caller word;
      reply = version_reply word;
    }
