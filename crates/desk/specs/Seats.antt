-- What a seat holds.
use Rattle.std.specs.Prelude.{◌≡◌, ℕ, ◌<◌, ◌+◌, List, [], ◌∷◌, ◌++◌, length, map, Contains}
use Rattle.std.specs.Global.{Vec}
use Rattle.std.specs.List.{AllByRecursion}
use Rattle.base.specs.Manifest.{ManifestRows}
use Rattle.rules.specs.Call.{CallWords}
use Rattle.atomic_table.specs.Table.{Me}
use Rattle.desk.specs.declared.pass.View.{View}
use Rattle.desk.specs.declared.pass.View.TheVariants.{Seated}
use Rattle.desk.specs.declared.entry.Entry.{Entry}
use Rattle.desk.specs.declared.receipt.Receipt.{Receipt}
use Rattle.desk.specs.Receipts.{entry, next_receipt, receipts_at, AreReceiptsOf, NoneOf, count_of}
use Rattle.desk.specs.Passes.{AreDistinct}

-- the seat's number, the calls of the desk up to its last one, each with its seat, and its receipts
pub record SeatView : Type 0 where
  pub number : ℕ
  pub seen : List Entry
  pub receipts : List Receipt

-- the seat has a receipt for each of its calls, by the run of the manifest over the calls that it has seen
pub record IsSettled (m : ManifestRows) (s : SeatView) : Type 0 where
  pub below : s.number < 8
  pub answered : s.receipts ≡ receipts_at m s.number s.seen

-- ---- one call

-- The seat has seen some calls of others since its last one, and then its call, for which it has one receipt more, by
-- the run of the manifest over all these calls
pub record IsServed (m : ManifestRows) (call : CallWords) (old new : SeatView) : Type 0 where
  pub others : List Entry
  pub of_others : NoneOf old.number others
  pub seen : new.seen ≡ (old.seen ++ others) ++ entry old.number call ∷ []
  pub receipt : new.receipts ≡ old.receipts ++ next_receipt m (old.seen ++ others) call ∷ []
  pub count : count_of old.number new.seen ≡ length old.receipts + 1

-- The seat's pass has seen some calls of others, and then the call, for which this is the receipt
pub record Sees (m : ManifestRows) (seat : ℕ) (call : CallWords) (seen : List Entry) (me : Me Entry View) (r : Receipt) : Type 0 where
  pub others : List Entry
  pub of_others : NoneOf seat others
  pub knows : me ≡ (Seated seat ((seen ++ others) ++ entry seat call ∷ []), [])
  pub receipt : r ≡ next_receipt m (seen ++ others) call

-- ---- all calls

abbrev pub numbers_of : List SeatView → List ℕ
numbers_of [] = []
numbers_of (s ∷ ss) = s.number ∷ numbers_of ss

abbrev pub receipts_of : List SeatView → List (List Receipt)
receipts_of seats = map (λ s. s.receipts) seats

-- the lists that vectors hold
abbrev pub items_of : List (Vec Receipt) → List (List Receipt)
items_of vectors = map (λ v. v.items) vectors

-- the numbers of eight seats
abbrev pub first_numbers : List ℕ
first_numbers = 0 ∷ 1 ∷ 2 ∷ 3 ∷ 4 ∷ 5 ∷ 6 ∷ 7 ∷ []

-- Each seat has the receipts of its calls and no others. Each call is of one of the seats, of which no two have
-- the same number
pub record AreSettled (m : ManifestRows) (entries : List Entry) (seats : List SeatView) : Type 0 where
  pub each : AllByRecursion (λ s. AreReceiptsOf m entries s.number s.receipts) seats
  pub seated : AllByRecursion (λ e. Contains (numbers_of seats) e.seat) entries
  pub apart : AreDistinct (numbers_of seats)
