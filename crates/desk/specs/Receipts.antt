-- Receipts for calls, and which of them belong to a seat.
use Rattle.std.specs.Prelude.{◌≡◌, ◌≢◌, ℕ, ◌+◌, ◌<◌, ◌==◌, List, [], ◌∷◌, map, length, Option, Some, if◌then◌else◌, slice_get, Contains}
use Rattle.std.specs.List.{AllByRecursion}
use Rattle.base.specs.Manifest.{ManifestRows}
use Rattle.base.specs.State.{State, start}
use Rattle.wire.specs.Replies.{ReplyWords}
use Rattle.rules.specs.Call.{CallWords}
use Rattle.rules.specs.Run.{answer, step, replies_from, state_from}
use Rattle.desk.specs.declared.entry.Entry.{Entry}
use Rattle.desk.specs.declared.receipt.Receipt.{Receipt}

abbrev pub entry : ℕ → CallWords → Entry
entry seat call = record { seat = seat; call = call }

-- the calls alone, in order
abbrev pub calls_of : List Entry → List CallWords
calls_of [] = []
calls_of (e ∷ es) = e.call ∷ calls_of es

-- ---- the receipt of one call

-- what is written on the receipt of a call
abbrev pub receipt_of : ℕ → CallWords → ReplyWords → Receipt
receipt_of place call reply =
    record { place = place; caller = call.caller; regs = call.regs; reply = reply }

-- the receipt of the call that follows these in the run of a manifest
abbrev pub next_receipt : ManifestRows → List Entry → CallWords → Receipt
next_receipt m entries call =
    receipt_of (length entries) call (answer (state_from (start m) (calls_of entries)) call)

-- At the receipt's place stands a call of the seat, by the caller and with the registers that it names.
-- The reply is that of the run of the manifest over the calls, at the same place
pub record IsReceiptIn (m : ManifestRows) (entries : List Entry) (seat : ℕ) (r : Receipt) : Type 0 where
  pub made : Entry
  pub stands : slice_get entries r.place ≡ Some made
  pub own : made.seat ≡ seat
  pub caller : r.caller ≡ made.call.caller
  pub regs : r.regs ≡ made.call.regs
  pub reply : slice_get (replies_from (start m) (calls_of entries)) r.place ≡ Some r.reply

-- ---- the receipts of a seat

-- the receipts of a seat's calls, in order, where the run goes on from a state and a place
abbrev pub receipts_from : ℕ → State → ℕ → List Entry → List Receipt
receipts_from seat s place [] = []
receipts_from seat s place (e ∷ es) =
    if e.seat == seat
    then receipt_of place e.call (answer s e.call) ∷ receipts_from seat (step s e.call) (place + 1) es
    else receipts_from seat (step s e.call) (place + 1) es

-- the receipts of a seat's calls in the run of a manifest over these calls
abbrev pub receipts_at : ManifestRows → ℕ → List Entry → List Receipt
receipts_at m seat entries = receipts_from seat (start m) 0 entries

abbrev pub places_of : List Receipt → List ℕ
places_of receipts = map (λ r. r.place) receipts

-- each number is above the one before
abbrev pub IsAscending : List ℕ → Type 0
IsAscending [] = Unit {0}
IsAscending (n ∷ []) = Unit {0}
IsAscending (n ∷ m ∷ ns) = (n < m) × IsAscending (m ∷ ns)

-- each is a receipt for a call of the seat, their places ascend, and each call of the seat has one
pub record AreReceiptsOf (m : ManifestRows) (entries : List Entry) (seat : ℕ) (receipts : List Receipt) : Type 0 where
  pub of_calls : AllByRecursion (IsReceiptIn m entries seat) receipts
  pub ascending : IsAscending (places_of receipts)
  pub of_each : (place : ℕ) (e : Entry) → slice_get entries place ≡ Some e → e.seat ≡ seat
      → Contains (places_of receipts) place

-- ---- other seats

-- none of these calls is the seat's
abbrev pub NoneOf : ℕ → List Entry → Type 0
NoneOf seat [] = Unit {0}
NoneOf seat (e ∷ es) = (e.seat ≢ seat) × NoneOf seat es

-- how many of these calls are the seat's
abbrev pub count_of : ℕ → List Entry → ℕ
count_of seat [] = 0
count_of seat (e ∷ es) = if e.seat == seat then count_of seat es + 1 else count_of seat es
