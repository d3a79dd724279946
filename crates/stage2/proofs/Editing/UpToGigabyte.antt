-- The gigabytes of a row before one are edited: one after another.
use Rattle.std.proofs.Common.{◌≡◌, ◌≢◌, ℕ, ◌+◌, ◌-◌, ◌/◌, ◌<◌, ◌≤◌, true, false, List, sym, ◌∙◌, arith}
use Rattle.stage2.proofs.Names.{PageRun, covers, Pool, pages_of, AreFree, StaysInStep, IsCanonical, gigabyte_runs, sum_below, gigabyte_operations, walked, RowEdit, row_view, row_after, CanEditGigabyte, IsGigabyteEdited, operations_in_gigabyte, IsPast, Touches, nat_tests, common_steps}
use Rattle.stage2.specs.inner.Clauses.{CanEditRow, IsRowEdited}
use Rattle.stage2.specs.inner.Gigabytes.{LieInGigabyte}
use Rattle.stage2.proofs.Editing.ChunkByChunk.{sum_below-more, sum_below-up}
use Rattle.stage2.proofs.Editing.GigabyteByGigabyte.{past-fits, past-operations, past-edit, past-all}
use Rattle.stage2.proofs.Runs.OwnRuns.{gigabyte-covers, gigabyte-operations, gigabyte-fits, gigabyte-edits, gigabyte-free, gigabyte-turns, gigabyte-stays}
use Rattle.stage2.proofs.Runs.Spans.{past-gap, cross-gap}
use Rattle.stage2.proofs.Walkers.GigabyteSteps.{disturbed_before, cross-edit, cross-free, cross-turns, cross-all}
use Rattle.stage2.proofs.Walkers.ZeroedTables.{stays-none}

-- the operations of a gigabyte at most
abbrev pub cost : RowEdit → List PageRun → Pool → ℕ → ℕ
cost e runs first g = gigabyte_operations runs e.access (row_view e.layout.now e.row first) g

-- the gigabytes before the i-th are edited, with so much room left of that at first
pub record IsRowUpTo (e : RowEdit) (runs : List PageRun) (first : Pool) (room_first i : ℕ) (now : Pool) (room_now : ℕ) : Type 0 where
  pub past : IsPast e.layout.now e.row i (row_after e runs first) (pages_of first.memory) (pages_of now.memory)
  pub in_step : AreFree (λ n. true) runs e.access (row_view e.layout.now e.row first)
      → StaysInStep e.layout.now e.row (disturbed_before i runs (row_view e.layout.now e.row first) (row_after e runs first)) (λ n. walked n (row_after e runs first n)) first now
  pub room : room_first ≤ room_now + sum_below (cost e runs first) i

module _ {e : RowEdit} {runs : List PageRun} {first : Pool} {r0 : ℕ} where
  pub row-start : IsCanonical e.layout.now (pages_of first.memory) → IsRowUpTo e runs first r0 0 first r0
  row-start canonical = grind (arith, common_steps, nat_tests, stays-none, disturbed_before)

  module _ {i : ℕ} {now : Pool} {r : ℕ} (so : IsRowUpTo e runs first r0 i now r) where
    -- gigabytes that the runs leave alone
    pub row-ahead : (k : ℕ) → i ≤ k → k ≤ 512 → ((n : ℕ) → i ≤ n / 512 / 512 → n / 512 / 512 < k → covers runs n ≡ false) → IsRowUpTo e runs first r0 k now r
    row-ahead k from most none =
        let room = so.room in
        record {
          past = past-gap e.layout.now e.row runs e.access (pages_of first.memory) (pages_of now.memory) e.inside i k from most none so.past;
          in_step = λ free. cross-gap e.layout.now e.row runs (row_view e.layout.now e.row first) (row_after e runs first) first now i k from (so.in_step free);
          room = omega (arith, sum_below-up (cost e runs first) i k from, room);
        }

    -- no page is left
    module _ (most : i ≤ 512) (none : (n : ℕ) → i ≤ n / 512 / 512 → n / 512 / 512 < 512 → covers runs n ≡ false) where
      all : IsRowUpTo e runs first r0 512 now r
      all = row-ahead 512 most (omega arith) none

      pub row-done : IsRowEdited e runs first r0 now r
      row-done = record {
        edits = past-all e.layout.now e.row runs e.access (pages_of first.memory) e.inside (pages_of now.memory) all.past;
        in_step = λ free. cross-all e.layout.now e.row 512 runs (row_view e.layout.now e.row first) (row_after e runs first) first now (omega arith) (all.in_step free);
        room = all.room;
      }

    -- the next gigabyte
    module _ (lt : i < 512) where
      same-cost : operations_in_gigabyte e i runs now ≡ cost e runs first i
      same-cost = past-operations e.layout.now e.row runs e.access (pages_of first.memory) e.inside i lt (pages_of now.memory) so.past

      pub row-can : CanEditRow e runs first r0 → Touches runs i → CanEditGigabyte e i runs now r
      row-can can touched = record {
        canonical = so.past.canonical;
        touched = touched;
        turned = λ turns. cross-turns e.layout.now e.row runs e.access (pages_of first.memory) e.inside i lt (pages_of now.memory) so.past (can.turned turns);
        fits = past-fits e.layout.now e.row runs e.access (pages_of first.memory) e.inside i lt (pages_of now.memory) so.past can.canonical can.fits;
        room =
            omega (arith, sum_below-more (cost e runs first) i, sum_below-up (cost e runs first) (i + 1) 512 (omega (arith, lt)), so.room, same-cost, can.room);
      }

      pub row-next : {new : Pool} {r2 : ℕ} → IsGigabyteEdited e i runs now r new r2 → IsRowUpTo e runs first r0 (i + 1) new r2
      row-next {new} done =
          let room = so.room in
          record {
            past = past-edit e.layout.now e.row runs e.access (pages_of first.memory) e.inside i lt (pages_of now.memory) so.past (pages_of new.memory) done.edits;
            in_step = λ free.
                cross-edit e.layout.now e.row runs e.access (pages_of first.memory) e.inside i lt (pages_of now.memory) so.past first now new (so.in_step free)
                (done.in_step (cross-free e.layout.now e.row runs e.access (pages_of first.memory) e.inside i lt (pages_of now.memory) so.past free));
            room = omega (arith, sum_below-more (cost e runs first) i, room, same-cost, done.room);
          }

-- those of the runs that have pages in a gigabyte edit it as all do
module _ {g : ℕ} {runs part : List PageRun} (is : part ≡ gigabyte_runs g runs) where
  pub part-touches : Touches part g → Touches runs g
  part-touches t = record { page = t.page; small = t.small; covered = sym (gigabyte-covers g runs part is t.page t.here) ∙ t.covered; here = t.here }

  module _ {e : RowEdit} {now : Pool} {r : ℕ} where
    pub part-can : CanEditGigabyte e g runs now r → Touches part g → CanEditGigabyte e g part now r
    part-can can touched = record {
      canonical = can.canonical;
      touched = touched;
      turned = λ turns. gigabyte-turns e.layout.now e.row g runs part e.access is (row_view e.layout.now e.row now) (can.turned turns);
      fits = gigabyte-fits e.layout.now e.row g runs part e.access is (pages_of now.memory) can.fits;
      room = let room = can.room in let same = gigabyte-operations g runs part is e.access (row_view e.layout.now e.row now) in omega (arith, room, same);
    }

    pub part-done : {new : Pool} {r2 : ℕ} → IsGigabyteEdited e g part now r new r2 → IsGigabyteEdited e g runs now r new r2
    part-done {new} done = record {
      edits = gigabyte-edits e.layout.now e.row g runs part e.access is (pages_of now.memory) (pages_of new.memory) done.edits;
      in_step = λ free.
          gigabyte-stays e.layout.now e.row g runs part e.access is (row_view e.layout.now e.row now) now new
          (done.in_step (gigabyte-free e.layout.now e.row g runs part e.access is (row_view e.layout.now e.row now) free));
      room = let room = done.room in let same = gigabyte-operations g runs part is e.access (row_view e.layout.now e.row now) in omega (arith, room, same);
    }

-- one gigabyte has all pages of the runs
module _ {e : RowEdit} {runs : List PageRun} {first : Pool} {r0 g : ℕ} (can : CanEditRow e runs first r0) (here : LieInGigabyte runs g) where
  elsewhere : (n : ℕ) → n / 512 / 512 ≢ g → covers runs n ≡ false
  elsewhere n differs = grind (arith, common_steps, nat_tests)

  before : IsRowUpTo e runs first r0 g first r0
  before = let below = here.below in row-ahead (row-start can.canonical) g (omega arith) (omega (arith, below)) (λ n from to. elsewhere n (λ same. omega (arith, same, to)))

  pub only-can : CanEditGigabyte e g runs first r0
  only-can = row-can before here.below can here.touched

  pub only-edited : {new : Pool} {r : ℕ} → IsGigabyteEdited e g runs first r0 new r → IsRowEdited e runs first r0 new r
  only-edited done =
      row-done (row-next before here.below done) (omega (arith, here.below)) (λ n from small. elsewhere n (λ same. omega (arith, same, from)))
