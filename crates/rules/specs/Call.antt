-- A call as numbers (FF-A 1.1, "Interface overview").
use Rattle.std.specs.Prelude.{◌≡◌, ℕ, ◌<◌, ◌^◌, List, length}
use Rattle.std.specs.List.{AllByRecursion}

-- who calls, registers 0 to 7, and one copy of the caller's TX buffer
pub record CallWords : Type 0 where
  pub caller : ℕ
  pub regs : List ℕ
  pub tx : List ℕ

-- an identifier of 16 bits, eight registers of 64 bits, and bytes
pub record IsCall (c : CallWords) : Type 0 where
  pub caller : c.caller < 2 ^ 16
  pub count : length c.regs ≡ 8
  pub regs : AllByRecursion (λ r. r < 2 ^ 64) c.regs
  pub bytes : AllByRecursion (λ b. b < 256) c.tx
