-- Bytes that are appended, and numbers that fit the bytes that they are written to.
use Rattle.std.specs.Prelude.{◌≡◌, ℕ, ◌+◌, ◌^◌, ◌<◌, List, [], ◌∷◌, ◌++◌, vec_len, vec_capacity}
use Rattle.std.specs.Global.{Vec}
use Rattle.base.specs.Pages.{PageRun, IsRun}
use Rattle.base.specs.Descriptors.Send.{Endpoint}
use Rattle.base.specs.Descriptors.Encoding.{HeaderFields}

-- this text of so many bytes stands behind what was there, in the same room
pub record Appends (old : Vec ℕ) (text : List ℕ) (count : ℕ) (new : Vec ℕ) : Type 0 where
  pub items : new.items ≡ old.items ++ text
  pub len : vec_len new ≡ vec_len old + count
  pub capacity : vec_capacity new ≡ vec_capacity old

pub record FitsHeader (h : HeaderFields) : Type 0 where
  pub sender : h.sender < 2 ^ 16
  pub handle : h.handle < 2 ^ 64
  pub tag : h.tag < 2 ^ 64

abbrev pub AreIdentifiers : List Endpoint → Type 0
AreIdentifiers [] = Unit {0}
AreIdentifiers (e ∷ es) = (e.partition < 2 ^ 16) × AreIdentifiers es

abbrev pub AreRuns : List PageRun → Type 0
AreRuns [] = Unit {0}
AreRuns (run ∷ runs) = IsRun run × AreRuns runs
