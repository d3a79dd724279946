-- The registers that answer a call (FF-A 1.1, "FFA_ERROR", "FFA_SUCCESS", "FFA_MEM_RETRIEVE_RESP", "FFA_VERSION", "Status codes").
use Rattle.std.specs.Prelude.{ℕ, List, [], ◌∷◌, Option, Some, None}
use Rattle.std.specs.Global.{Vec}
use Rattle.base.specs.declared.status.Status.{Status}
use Rattle.base.specs.declared.status.Status.TheVariants.{NotSupported, InvalidParameters, NoMemory, Busy, Denied}

-- registers 0 to 7, and what the caller's RX buffer was filled with
pub record ReplyWords : Type 0 where
  pub regs : List ℕ
  pub rx : Option (List ℕ)

-- a status as a two's complement number of 32 bits
abbrev pub code : Status → ℕ
code NotSupported = 0xffffffff
code InvalidParameters = 0xfffffffe
code NoMemory = 0xfffffffd
code Busy = 0xfffffffc
code Denied = 0xfffffffa

-- four words, and 0 in the other registers; RX is not filled
abbrev pub of_words : ℕ → ℕ → ℕ → ℕ → ReplyWords
of_words w0 w1 w2 w3 = record { regs = w0 ∷ w1 ∷ w2 ∷ w3 ∷ 0 ∷ 0 ∷ 0 ∷ 0 ∷ []; rx = None }

-- FFA_ERROR
abbrev pub error : Status → ReplyWords
error status = of_words 0x84000060 0 (code status) 0

-- FFA_SUCCESS
abbrev pub success : ℕ → ℕ → ReplyWords
success w2 w3 = of_words 0x84000061 0 w2 w3

-- FFA_MEM_RETRIEVE_RESP, with the length of the response, whole and in this part
abbrev pub response : ℕ → ReplyWords
response length = of_words 0x84000075 length length 0

-- what FFA_VERSION answers stands in register 0
abbrev pub version : ℕ → ReplyWords
version word = of_words word 0 0 0

-- the bytes of a buffer that was filled
abbrev pub filled : Option (Vec ℕ) → Option (List ℕ)
filled None = None
filled (Some bytes) = Some bytes.items
