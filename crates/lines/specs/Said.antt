-- What lines of scripts say, as plain data.
use Rattle.std.specs.Prelude.{ℕ, Bool, List}
use Rattle.base.specs.declared.transaction.Kind.{Kind}
use Rattle.base.specs.Descriptors.Send.{Endpoint}
use Rattle.base.specs.Descriptors.Encoding.{RangeFields, RetrieveFields, RelinquishFields}
use Rattle.lines.specs.declared.line.Line.{Line}
use Rattle.lines.specs.declared.line.Line.TheVariants as line
use Rattle.lines.specs.declared.send.SendLine.{SendLine}
use Rattle.lines.specs.declared.send.ReclaimLine.{ReclaimLine}

-- a send: who sends, whether the pages are to be cleared, the tag, the receivers and the ranges in the order of the line, and the sum of the ranges' counts
pub record SaidSend : Type 0 where
  pub sender : ℕ
  pub clears : Bool
  pub tag : ℕ
  pub receivers : List Endpoint
  pub ranges : List RangeFields
  pub total : ℕ

-- a partition, where there is one, and what it does: Tx keeps these bytes for its TX buffer, Call has these eight registers
pub data Said : Type 0 where
  Nothing : Said
  Tx : ℕ → List ℕ → Said
  Call : ℕ → List ℕ → Said
  Send : Kind → SaidSend → Said
  Retrieve : RetrieveFields → Said
  Relinquish : RelinquishFields → Said
  Reclaim : ReclaimLine → Said
  Maps : ℕ → Said
  Tables : ℕ → Said
  Owners : Said
  Operations : Said
  Audit : Said

abbrev pub said_send : SendLine → SaidSend
said_send send =
    record {
      sender = send.sender;
      clears = send.clears;
      tag = send.tag;
      receivers = send.receivers.items;
      ranges = send.ranges.items;
      total = send.total;
    }

-- what a line that was read says
abbrev pub said : Line → Said
said line.Nothing = Nothing
said (line.Tx id bytes) = Tx id bytes.items
said (line.Call id registers) = Call id registers
said (line.Send kind send) = Send kind (said_send send)
said (line.Retrieve fields) = Retrieve fields
said (line.Relinquish fields) = Relinquish fields
said (line.Reclaim reclaim) = Reclaim reclaim
said (line.Maps id) = Maps id
said (line.Tables id) = Tables id
said line.Owners = Owners
said line.Operations = Operations
said line.Audit = Audit
