-- What clauses say of the tables: canonical tables, and an edit of a partition that has a root or has none.
use Rattle.std.proofs.Common.{◌≡◌, ℕ, ◌+◌, ◌-◌, ◌*◌, ◌/◌, ◌%◌, ◌^◌, ◌<◌, ◌≤◌, Bool, true, false, not, ◌&&◌, cond, eqb, ltb, List, length, position, Option, Some, None, is_some, Result, Ok, refl, sym, ap, subst, ◌∙◌, arith, inl, inr}
use Rattle.stage2.proofs.Names.{nat_tests, Access, View, row_of, is_reached, need, grow, PageRun, in_run, covers, Clear, Pool, pages_of, words_of, taken_of, used_by, row_quota, free_of, all_lie_in, edited, AreFree, Turns, disturbed, answers_of, EditsRow, StaysInStep, IsCanonical, answers, answer_of, row_operations, Layout, walk_in, view_of, has_root, AreCanonical, AreTurnedFor, edit_operations, AreEdited, ShowsMoments, EditsInStep, ClearsInStep, walk, walk_across, walked, common_steps, Unmapped, cases_Bool, ltb-true, eqb-true}
use Rattle.std.specs.Result.{OnOk}
use Rattle.pool.specs.Pool.{after_clear}
use Rattle.pool.proofs.Count.{count_below-same, count_below-some}
use Rattle.pool.proofs.Shares.{row_quota-none, used_by-le}
use Rattle.stage2.specs.Edits.{with_pages}
use Rattle.stage2.specs.Tables.{TablesView, Fits, IsMadeReady}
use Rattle.stage2.proofs.Walkers.WholeCall.{moments-edited, clears-nothing}
use Rattle.stage2.proofs.Walkers.ZeroedTables.{counted-op, stays-none}
use Rattle.stage2.proofs.Editing.RowOfPartition.{edited-walks}
use Rattle.stage2.proofs.Tree.EntryWords.{entries}
use Rattle.stage2.proofs.Walkers.InStep.{orderly-clearing}
use Rattle.stage2.proofs.Counting.Quotas.{need-none}
use Rattle.stage2.proofs.Counting.Needs.{mixed-same, reached-same, reached-none, reached-some}
use Rattle.stage2.proofs.Editing.GigabyteByGigabyte.{used-need}
use Rattle.stage2.proofs.Tree.Rows.{IsRow, row-found, no-row}
use Rattle.stage2.proofs.Walkers.WholeEdit.{moments-none}
use Rattle.base.proofs.Booleans.{both}

pub are-canonical : (t : TablesView) → IsCanonical t.layout (pages_of t.pool.memory) → ((q i : ℕ) → taken_of t.pool.memory.taken q ≡ false → words_of t.pool.memory.words q i ≡ 0) → all_lie_in t.pool ≡ true → AreCanonical t
are-canonical t trees free listed = record {
  trees = trees;
  words = entries t.layout (pages_of t.pool.memory) trees.orderly;
  used = λ p root. used-need t.layout (pages_of t.pool.memory) (row_of t.layout.ids p) trees (ltb-true _ _ root);
  free = free;
  listed = listed;
}

-- ---- a partition that has no root

-- a row past the last has no walks
pub rootless : (t : TablesView) (p n : ℕ) → has_root t p ≡ false → walk_in t p n ≡ Unmapped
unfolding walk_across
rootless t p n none = rw none refl

pub found-none : (ids : List ℕ) (p : ℕ) → position (λ id. eqb id p) ids ≡ None → ltb (row_of ids p) (length ids) ≡ false
found-none ids p is = grind (arith, common_steps, nat_tests)

-- the views of a partition, whether it has a root or not
pub grow-found : (t : TablesView) (p : ℕ) (runs : List PageRun) (access : View) (row : Option ℕ) → row ≡ position (λ id. eqb id p) t.layout.ids
    → grow (answers_of t.layout (words_of t.pool.memory.words) row) (edited runs access (answers_of t.layout (words_of t.pool.memory.words) row)) ≡ grow (view_of t p) (edited runs access (view_of t p))
grow-found t p runs access row e = grind (arith, common_steps, nat_tests, count_below-same, reached-same, mixed-same, rootless, found-none, row-found)

pub rootless-need : (t : TablesView) (p : ℕ) → has_root t p ≡ false → need (view_of t p) ≡ 0
rootless-need t p none = need-none (view_of t p) (λ n. ap answer_of (rootless t p n none))

-- a page that is reached where none was takes a table
grow-some : (v w : ℕ → View) (n : ℕ) → n < 2 ^ 27 → ((x : ℕ) → v x ≡ None) → is_some (w n) ≡ true → 0 < grow v w
unfolding grow
grow-some v w n small none some =
    let place : 262144 * (n / 262144) + n % 262144 ≡ n = omega arith in
    let now : is_reached w (n / 262144) ≡ true = reached-some w (n / 262144) (n % 262144) (omega arith) (ap (λ x. is_some (w x)) place ∙ some) in
    omega (arith, count_below-some (λ g. is_reached w g && not (is_reached v g)) 512 (n / 262144) (omega (arith, small)) (rw (now, reached-none v (n / 262144) (λ i _. none (262144 * (n / 262144) + i))) refl))

-- so a map that fits has no page
rootless-map : (t : TablesView) (p n : ℕ) (runs : List PageRun) (a : Access) → length t.layout.ids ≡ length t.pool.memory.quotas → has_root t p ≡ false → Fits p runs (Some a) t → n < 2 ^ 27 → covers runs n ≡ false
rootless-map t p n runs a rows none fits small = elim (cases_Bool (covers runs n)) [
  | inl t' ↦
      let quota = (row_quota-none t.pool.memory.quotas (row_of t.layout.ids p) (grind (arith, nat_tests, none, rows))) in
      absurd (omega (arith, grow-some (view_of t p) (edited runs (Some a) (view_of t p)) n small (λ x. (ap answer_of (rootless t p x none))) (rw t' refl), quota, fits))
  | inr f ↦ f
]

kept-view : (b : Bool) (a x : View) → (b ≡ true → a ≡ x) → x ≡ cond b a x
kept-view b a x same = grind (arith, common_steps, nat_tests)

-- a partition that has no root: the pages of the runs, if there are any, are not reached, and stay so
abbrev pub StaysOut : ℕ → List PageRun → View → Type 0
StaysOut p runs access = (n : ℕ) → n < 2 ^ 27 → covers runs n ≡ true → access ≡ None

pub rootless-edit : (t : TablesView) (p : ℕ) (runs : List PageRun) (access : View) → length t.layout.ids ≡ length t.pool.memory.quotas → has_root t p ≡ false → Fits p runs access t → StaysOut p runs access
rootless-edit t p runs access rows none fits n small covered = grind (arith, common_steps, nat_tests, rootless-map)

view-none : (n : ℕ) (a : View) → walked n a ≡ Unmapped → a ≡ None
view-none n a e = grind (arith, common_steps, nat_tests)

pub rootless-moments : (t : TablesView) (p : ℕ) (runs : List PageRun) (access : View) → has_root t p ≡ false → StaysOut p runs access → ShowsMoments p runs access t t
rootless-moments t p runs access none out begun before starts free =
    moments-none t.layout t.pool t.pool before (with_pages p runs access before) starts
    (λ q n small. starts q n small ∙ ap (walked n) (kept-view (eqb q p && covers runs n) access (before q n)
    (λ e. let both = both (eqb q p) (covers runs n) e in
    out n small both.1 ∙ sym (view-none n (before q n) (sym (starts q n small) ∙ ap (λ x. walk_in t x n) (eqb-true _ _ both.0) ∙ rootless t p n none)))))
    refl begun refl

-- ---- an edit

-- the view of these tables
abbrev pub view : Layout → Pool → ℕ → TablesView
view layout pool room = record { layout = layout; pool = pool; room = room }

-- tables whose words stay canonical
pub canonical-now : (layout : Layout) {made : Pool} (now : Pool) (room : ℕ) → now ≡ made → IsCanonical layout (pages_of made.memory) → ((q i : ℕ) → taken_of now.memory.taken q ≡ false → words_of now.memory.words q i ≡ 0) → all_lie_in now ≡ true → AreCanonical (view layout now room)
canonical-now layout now room is canonical free within = are-canonical (view layout now room) (subst (λ (x : Pool). IsCanonical layout (pages_of x.memory)) (sym is) canonical) free within

-- the tables of a value, once it is opened
pub canonical-inside : (layout : Layout) (pool : Pool) (room : ℕ) (t : TablesView) → view layout pool room ≡ t → IsCanonical layout (pages_of pool.memory) → ((q i : ℕ) → taken_of pool.memory.taken q ≡ false → words_of pool.memory.words q i ≡ 0) → all_lie_in pool ≡ true → AreCanonical t
canonical-inside layout pool room t is canonical free within = subst (λ (t : TablesView). AreCanonical t) is (are-canonical (view layout pool room) canonical free within)

-- a list that has room is ready as it is
pub ready-already : {T E : Type 0} (done : T) (p : ℕ) (runs : List PageRun) (access : View) (clears : ℕ) (t : TablesView) → edit_operations p runs access t + clears ≤ t.room → AreCanonical t → IsMadeReady {E = E} p runs access clears (Ok done) t t
ready-already done p runs access clears t room canonical = record { layout = refl; pool = refl; room = room; canonical = canonical }

-- room for the operations that are planned is room for those of the edit
pub room-made : {T E : Type 0} (result : Result T E) (p : ℕ) (runs : List PageRun) (access : View) (layout : Layout) (now before : Pool) (room had planned clears : ℕ) (old : TablesView)
    → now ≡ before → view layout before had ≡ old → edit_operations p runs access old ≤ planned
    → OnOk result (planned + clears ≤ room) → OnOk result (edit_operations p runs access (view layout now room) + clears ≤ room)
room-made result p runs access layout now before room had planned clears old same is most made = grind (arith, common_steps, nat_tests)

pub edited-rooted : (layout : Layout) (old new : Pool) (room left p row : ℕ) (runs : List PageRun) (access : View) → IsRow layout.ids p row → IsCanonical layout (pages_of old.memory)
    → EditsRow layout row (edited runs access (answers layout (pages_of old.memory).words row)) (pages_of old.memory) (pages_of new.memory)
    → (AreFree (λ n. true) runs access (answers layout (words_of old.memory.words) row)
    → StaysInStep layout row (disturbed runs (answers layout (words_of old.memory.words) row) (edited runs access (answers layout (words_of old.memory.words) row))) (λ n. walked n (edited runs access (answers layout (words_of old.memory.words) row) n)) old new)
    → ((q i : ℕ) → taken_of new.memory.taken q ≡ false → words_of new.memory.words q i ≡ 0) → all_lie_in new ≡ true → room ≤ left + row_operations runs access (answers layout (words_of old.memory.words) row)
    → AreEdited p runs access (view layout old room) (view layout new left)
edited-rooted layout old new room left p row runs access is canonical edits stays free within enough =
    let walks = edited-walks layout p row runs access (pages_of old.memory) (pages_of new.memory) is canonical.orderly edits in
    let root : has_root (view layout old room) p ≡ true = (let a = is.is in let b = is.inside in grind (arith, nat_tests)) in
    let in_step : EditsInStep p runs access (view layout old room) (view layout new left) = subst (λ r. AreFree (λ n. true) runs access (answers layout (words_of old.memory.words) r)
    → StaysInStep layout r (disturbed runs (answers layout (words_of old.memory.words) r) (edited runs access (answers layout (words_of old.memory.words) r))) (λ n. walked n (edited runs access (answers layout (words_of old.memory.words) r) n)) old new) is.is stays in
    record {
      layout = refl;
      walks = walks;
      moments = moments-edited (view layout old room) (view layout new left) p runs access root refl walks in_step within;
      clears = clears-nothing (view layout old room) (view layout new left) p runs access in_step;
      in_step = in_step;
      room = let all : room ≤ left + row_operations runs access (view_of (view layout old room) p) = subst (λ r. room ≤ left + row_operations runs access (answers layout (words_of old.memory.words) r)) is.is enough in rw root all;
      canonical = are-canonical (view layout new left) edits.canonical free within;
    }

pub edited-rootless : (t : TablesView) (p : ℕ) (runs : List PageRun) (access : View) → has_root t p ≡ false → StaysOut p runs access → AreCanonical t → AreEdited p runs access t t
edited-rootless t p runs access none out canonical = grind (arith, common_steps, nat_tests, both, rootless, rootless-moments t p runs access none out, stays-none)

-- ---- a clear

pub cleared-in_step : (t : TablesView) (run : PageRun) (new : Pool) (left : ℕ) → new ≡ after_clear run t.pool → ClearsInStep run t (view t.layout new left)
cleared-in_step t run new left is none e same o = record {
  orderly = rw is (orderly-clearing e (words_of t.pool.memory.words) t.pool.operations run o.orderly
      (subst (λ (l : Layout). (row n : ℕ) → row < length l.ids → n < 2 ^ 27 → in_run run n ≡ true → walk l (words_of t.pool.memory.words) row n ≡ Unmapped) (sym same) none));
  counted = counted-op e (Clear run) t.pool new (record { operations = ap (λ (x : Pool). x.operations) is; made = ap (λ (x : Pool). x.made) is }) o.counted;
}

-- ---- how many pages are taken

-- what a partition's tables may still take, and what they take, is its quota
pub free-and-need : (t : TablesView) (p : ℕ) → IsCanonical t.layout (pages_of t.pool.memory) → free_of (pages_of t.pool.memory) (row_of t.layout.ids p) + need (view_of t p) ≡ row_quota t.layout.quotas (row_of t.layout.ids p)
free-and-need t p h =
    let m = pages_of t.pool.memory in
    let row = row_of t.layout.ids p in
    let quota : row_quota m.quotas row ≡ row_quota t.layout.quotas row = ap (λ (q : List ℕ). row_quota q row) (sym h.orderly.quotas) in
    elim (cases_Bool (ltb row (length t.layout.ids))) [
      | inl rooted ↦
          let used : used_by m row ≡ need (view_of t p) = used-need t.layout m row h (ltb-true _ _ rooted) in
          omega (arith, used_by-le m row, used, quota)
      | inr none ↦ grind (arith, common_steps, nat_tests, row_quota-none, rootless-need t p none)
    ]

-- ---- what an edit asks

-- pages are turned for the row that was found
pub turned-found : (t : TablesView) (p : ℕ) (runs : List PageRun) (access : View) (row : Option ℕ) → row ≡ position (λ id. eqb id p) t.layout.ids → AreTurnedFor p runs access t
    → Turns (λ n. ltb n (2 ^ 27)) runs access (answers_of t.layout (words_of t.pool.memory.words) row)
turned-found t p runs access row e turned = grind (arith, common_steps, nat_tests, no-row, row-found)

-- it is said of the layout and the words alone
pub turned-same : (p : ℕ) (runs : List PageRun) (access : View) (t u : TablesView) → u.layout ≡ t.layout → u.pool.memory ≡ t.pool.memory → AreTurnedFor p runs access t → AreTurnedFor p runs access u
turned-same p runs access t u layout memory turned = grind (arith, common_steps, nat_tests)

-- it is at most what is told of the row that was found
pub room-found : (t : TablesView) (p : ℕ) (runs : List PageRun) (access : View) (row : Option ℕ) → row ≡ position (λ id. eqb id p) t.layout.ids
    → edit_operations p runs access t ≤ row_operations runs access (answers_of t.layout (words_of t.pool.memory.words) row)
room-found t p runs access row e = grind (arith, common_steps, nat_tests, found-none, row-found)

-- and at most what an edit of the view makes
pub room-most : (t : TablesView) (p : ℕ) (runs : List PageRun) (access : View) (most : ℕ) → row_operations runs access (view_of t p) ≤ most → edit_operations p runs access t ≤ most
room-most t p runs access most so = grind (arith, common_steps, nat_tests)
