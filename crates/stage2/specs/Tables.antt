-- What clauses see of the tables of all partitions, and of an edit of one partition's pages.
use Rattle.std.specs.Prelude.{◌≡◌, ℕ, ◌+◌, ◌^◌, ◌≤◌, ◌<◌, Bool, true, false, ◌&&◌, ◌==◌, if◌then◌else◌, nat_lt, ◌⊎◌, List, [], length, Some, None, Result, OnOk}
use Rattle.base.specs.Access.{View}
use Rattle.base.specs.Manifest.{row_of}
use Rattle.base.specs.Need.{need, grow}
use Rattle.base.specs.Pages.{PageRun, in_run, covers}
use Rattle.pool.specs.Pool.{Pool, words_of, taken_of, pages_of, used_by, row_quota, all_lie_in}
use Rattle.stage2.specs.declared.walked.Walked.{Walked}
use Rattle.stage2.specs.declared.walked.Walked.TheVariants.{None as Unmapped}
use Rattle.stage2.specs.Edits.{edited, AreFree, Turns, disturbed, with_pages}
use Rattle.stage2.specs.Entries.{word_at}
use Rattle.stage2.specs.Room.{row_operations}
use Rattle.stage2.specs.Moments.{cleared_by, OpenCall, with_clear, IsInStepIn, nothing, StaysInStep, Moments}
use Rattle.stage2.specs.Orderly.{answer_of, IsCanonical}
use Rattle.stage2.specs.Slot.{Layout}
use Rattle.stage2.specs.Walk.{walk, walked, translation, Agrees, Place, table_at, IsPlace}
pub use Rattle.stage2.specs.Sound.{TablesView}

-- what a walk for a page of a partition gives
abbrev pub walk_in : TablesView → ℕ → ℕ → Walked
walk_in t p n = translation t.layout (words_of t.pool.memory.words) p n

-- what a partition reaches of a page
abbrev pub view_of : TablesView → ℕ → ℕ → View
view_of t p n = answer_of (walk_in t p n)

-- all walks give what each partition reaches by a view
abbrev pub AllWalksAre : Layout → (ℕ → ℕ → View) → Pool → Type 0
AllWalksAre layout view pool = Agrees layout (words_of pool.memory.words) view

-- the partition has a root
abbrev pub has_root : TablesView → ℕ → Bool
has_root t p = nat_lt (row_of t.layout.ids p) (length t.layout.ids)

-- a partition's quota, and how many pages of its share are taken
abbrev pub quota_in : TablesView → ℕ → ℕ
quota_in t p = row_quota t.pool.memory.quotas (row_of t.layout.ids p)

abbrev pub used_in : TablesView → ℕ → ℕ
used_in t p = used_by (pages_of t.pool.memory) (row_of t.layout.ids p)

-- ---- canonical tables

-- The tables of each partition are those that its views need, and have no other words.
pub record AreCanonical (t : TablesView) : Type 0 where
  -- the tables are trees of the pages taken, and a table hangs exactly where the views need one
  pub trees : IsCanonical t.layout (pages_of t.pool.memory)
  -- each of their words is that of its entry
  pub words : (a : Place) (q i : ℕ) → IsPlace t.layout a
      → table_at t.layout (words_of t.pool.memory.words) a ≡ Some q → i < 512
      → words_of t.pool.memory.words q i ≡ word_at t.layout (words_of t.pool.memory.words) a i
  -- as many pages of a share are taken as the partition's views need
  pub used : (p : ℕ) → has_root t p ≡ true → used_in t p ≡ need (view_of t p)
  -- a free page is all 0
  pub free : (q i : ℕ) → taken_of t.pool.memory.taken q ≡ false
      → words_of t.pool.memory.words q i ≡ 0
  -- and each operation of the list lies in the pool
  pub listed : all_lie_in t.pool ≡ true

-- ---- an edit of one partition's pages: they are reached with an access, or, for None, not at all

-- it fits: what the partition's views need, and what the new views need where these need nothing, is no more than its quota
abbrev pub Fits : ℕ → List PageRun → View → TablesView → Type 0
Fits p runs access t =
    need (view_of t p) + grow (view_of t p) (edited runs access (view_of t p)) ≤ quota_in t p

-- the operations that it makes at most
abbrev pub edit_operations : ℕ → List PageRun → View → TablesView → ℕ
edit_operations p runs access t =
    if has_root t p then row_operations runs access (view_of t p) else 0

-- each page of the runs is turned: the partition is to reach it exactly where it does not
abbrev pub AreTurnedFor : ℕ → List PageRun → View → TablesView → Type 0
AreTurnedFor p runs access t = Turns (λ n. nat_lt n (2 ^ 27)) runs access (view_of t p)

-- the pages of the runs are reached so; each other walk, of all pages of all partitions, gives what it gave
abbrev pub ReachSo : ℕ → List PageRun → View → TablesView → TablesView → Type 0
ReachSo p runs access old new =
    (q n : ℕ) → n < 2 ^ 27
    → walk_in new q n ≡ (if (q == p) && covers runs n then walked n access else walk_in old q n)

-- of the pages of the runs, those of a map are not reached before
abbrev pub AreFreeFor : ℕ → List PageRun → View → (ℕ → ℕ → View) → Type 0
AreFreeFor p runs access before =
    (n : ℕ) → n < 2 ^ 27 → covers runs n ≡ true → (access ≡ None) ⊎ (before p n ≡ None)

-- what walkers see where the edit is all that is done
abbrev pub ShowsMoments : ℕ → List PageRun → View → TablesView → TablesView → Type 0
ShowsMoments p runs access old new =
    old.pool.operations ≡ [] → (before : ℕ → ℕ → View)
    → Agrees old.layout (words_of old.pool.memory.words) before → AreFreeFor p runs access before
    → Moments old.layout old.pool new.pool before (with_pages p runs access before)

-- such an edit clears nothing
abbrev pub ClearsNothing : ℕ → List PageRun → View → TablesView → TablesView → Type 0
ClearsNothing p runs access old new =
    old.pool.operations ≡ [] → AreFree (λ n. true) runs access (view_of old p)
    → cleared_by new.pool.operations ≡ []

-- ---- a call that clears pages before the edit or after it

-- the edit of a call that begins at these tables and has cleared these runs so far, of which the latest stands first
abbrev pub edit_from : TablesView → ℕ → List PageRun → View → List PageRun → OpenCall
edit_from t p runs access cleared = record {
  layout = t.layout;
  entry = words_of t.pool.memory.words;
  made = t.pool.made;
  row = row_of t.layout.ids p;
  which = disturbed runs (view_of t p) (edited runs access (view_of t p));
  answer = λ n. walked n (edited runs access (view_of t p) n);
  cleared = cleared;
}

-- the call is in step here: what walkers see since its entry is what they may see, and these runs are cleared
abbrev pub IsCallInStep : TablesView → ℕ → List PageRun → View → List PageRun → TablesView → Type 0
IsCallInStep entry p runs access cleared now =
    IsInStepIn (edit_from entry p runs access cleared) nothing now.pool

-- an edit keeps a call in step
abbrev pub EditsInStep : ℕ → List PageRun → View → TablesView → TablesView → Type 0
EditsInStep p runs access old new =
    AreFree (λ n. true) runs access (view_of old p)
    → StaysInStep old.layout (row_of old.layout.ids p)
    (disturbed runs (view_of old p) (edited runs access (view_of old p)))
    (λ n. walked n (edited runs access (view_of old p) n)) old.pool new.pool

-- no partition reaches a page of the run
abbrev pub AreUnmappedForAll : PageRun → TablesView → Type 0
AreUnmappedForAll run t =
    (row n : ℕ) → row < length t.layout.ids → n < 2 ^ 27 → in_run run n ≡ true
    → walk t.layout (words_of t.pool.memory.words) row n ≡ Unmapped

-- a clear of pages that no partition reaches keeps a call in step, which has cleared one run more
abbrev pub ClearsInStep : PageRun → TablesView → TablesView → Type 0
ClearsInStep run old new =
    AreUnmappedForAll run old → (e : OpenCall) → e.layout ≡ old.layout → IsInStepIn e nothing old.pool
    → IsInStepIn (with_clear run e) nothing new.pool

-- ---- an edit as a whole

-- its list has been made ready for it, and for so many clears, or the heap refused that; nothing else is changed
pub record IsMadeReady {T E : Type 0} (p : ℕ) (runs : List PageRun) (access : View) (clears : ℕ) (result : Result T E) (old new : TablesView) : Type 0 where
  pub layout : new.layout ≡ old.layout
  pub pool : new.pool ≡ old.pool
  pub room : OnOk result (edit_operations p runs access new + clears ≤ new.room)
  pub canonical : AreCanonical new

-- it can be made: it fits, and there is room for its operations
pub record CanEdit (p : ℕ) (runs : List PageRun) (access : View) (t : TablesView) : Type 0 where
  pub fits : Fits p runs access t
  pub ready : edit_operations p runs access t ≤ t.room

-- it is made: its pages are reached so and all others as before, walkers see what they may, and the tables are canonical again
pub record AreEdited (p : ℕ) (runs : List PageRun) (access : View) (old new : TablesView) : Type 0 where
  pub layout : new.layout ≡ old.layout
  pub walks : ReachSo p runs access old new
  pub moments : ShowsMoments p runs access old new
  pub clears : ClearsNothing p runs access old new
  pub in_step : EditsInStep p runs access old new
  pub room : old.room ≤ new.room + edit_operations p runs access old
  pub canonical : AreCanonical new
