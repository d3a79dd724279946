-- The texts of replies and of operations.
use Rattle.std.specs.Prelude.{ℕ, List, [], ◌++◌, length, codes, Option, Some, None}
use Rattle.std.specs.List.{flat_map}
use Rattle.std.specs.Fmt.{decimal}
use Rattle.wire.specs.Replies.{ReplyWords}
use Rattle.pool.specs.declared.operation.Op.{Op}
use Rattle.pool.specs.declared.operation.Op.TheVariants.{Set, Invalidate, Clear}
use Rattle.digits.specs.Digits.{hex, extent_text}

-- a blank, and a register in eight digits at least
abbrev pub register_text : ℕ → List ℕ
register_text register = codes " " ++ hex 8 register

-- `rx`, and two digits for each byte
abbrev pub filled_text : List ℕ → List ℕ
filled_text bytes = codes "rx " ++ flat_map (hex 2) bytes ++ codes "\n"

abbrev pub rx_text : Option (List ℕ) → List ℕ
rx_text None = []
rx_text (Some bytes) = filled_text bytes

-- `reply` and the eight registers, and where RX was filled `rx` and its bytes
abbrev pub reply_text : ReplyWords → List ℕ
reply_text reply = codes "reply" ++ flat_map register_text reply.regs ++ codes "\n" ++ rx_text reply.rx

-- a word that was written, an invalidation, and a clear
abbrev pub operation_text : Op → List ℕ
operation_text (Set page index word) =
    codes "set " ++ decimal page ++ codes " " ++ decimal index ++ codes " " ++ hex 16 word ++ codes "\n"
operation_text (Invalidate who run) =
    codes "inv " ++ hex 4 who ++ codes " " ++ extent_text run ++ codes "\n"
operation_text (Clear run) =
    codes "clear " ++ extent_text run ++ codes "\n"

abbrev pub operations_text : List Op → List ℕ
operations_text operations =
    codes "ops " ++ decimal (length operations) ++ codes "\n" ++ flat_map operation_text operations
