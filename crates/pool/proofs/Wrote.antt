-- What is written of a page, step by step.
use Rattle.pool.proofs.Names.{common_steps, nat_tests, PageRun, covers, Pool, words_of, nonzero_in, counted, after_set, after_run, index_from, words_in, gap, IsShown, Grows, Wrote, TurnRuns, with_range, range_set, runs_set, indexes_set, Log, Set, TableWords, WordRange, MayWrite, writes_of}
use Rattle.std.proofs.Common.{◌≡◌, ◌≢◌, ℕ, slice_index, ◌+◌, ◌-◌, ◌*◌, ◌<◌, ◌≤◌, Bool, true, arith, List, [], ◌∷◌, ◌++◌, length, reverse, slice_set, vec_len, vec_capacity, refl, sym, ap, ◌∙◌}
use Rattle.pool.specs.Writing.{MayWriteRuns, Records, CanWriteRuns, CanWriteIndexes}
use Rattle.pool.proofs.Stretches.{words_set-beside, vec_len-made, length-words_set, length-sets_of-part, next-writes, next-set, next-pass}
use Rattle.pool.proofs.RunWords.{words-in_range, after_runs-none, after_runs-next, after_runs-append, words_in-append}
use Rattle.pool.proofs.Gaps.{gap-one, gap-words}

-- ---- steps

-- none
pub wrote-none : (step : Pool → Pool) (page most : ℕ) (words : List ℕ) (log : Log) → log.nonzero ≡ nonzero_in (words_of words) page → ((pool : Pool) → pool.memory.words ≡ words → step pool ≡ pool)
    → Wrote step page most words words log log
wrote-none step page most words log counted same = grind (arith, common_steps, nat_tests)

-- one after another
pub wrote-then : {f g : Pool → Pool} {page a b : ℕ} {old mid new : List ℕ} {before log after : Log} → Wrote f page a old mid before log → Wrote g page b mid new log after
    → Wrote (λ pool. g (f pool)) page (a + b) old new before after
wrote-then {f = f} first next = grind (arith, common_steps, nat_tests)

-- the same in other words
pub wrote-as : {f g : Pool → Pool} {page a b : ℕ} {old new : List ℕ} {before after : Log} → Wrote f page a old new before after → a ≤ b → ((pool : Pool) → pool.memory.words ≡ old → f pool ≡ g pool)
    → Wrote g page b old new before after
wrote-as {new = new} {after = after} wrote more same = grind (arith, common_steps, nat_tests)

-- a pool that a store's words and a log show
abbrev pub pool_of : List ℕ → Log → Pool
pool_of words log = record { memory = record { ids = []; quotas = []; words = words; taken = [] }; operations = reverse log.operations.items; made = 0 }

pub wrote-is : {f : Pool → Pool} {page a : ℕ} {old new : List ℕ} {before after : Log} → Wrote f page a old new before after → IsShown new after.operations.items (f (pool_of old before))
wrote-is {old = old} {before = before} wrote = wrote.shown (pool_of old before) (record { words = refl; operations = refl })

-- ---- one word

pub wrote-set : (page index word : ℕ) (old new : List ℕ) (before after : Log) → new ≡ slice_set old (512 * page + index) word → after.operations.items ≡ before.operations.items ++ Set page index word ∷ []
    → Grows 1 before.operations after.operations → after.nonzero ≡ nonzero_in (words_of new) page → Wrote (after_set page index word) page 1 old new before after
wrote-set page index word old new before after written pushed more right = grind (arith, common_steps, nat_tests)

-- ---- words of a range

pub wrote-range : (range : WordRange) {old new : List ℕ} {before after : Log} → new ≡ with_range old range → Records old range before.operations.items after.operations.items
    → Grows (range.end - range.first) before.operations after.operations → after.nonzero ≡ nonzero_in (words_of new) range.page → Wrote (range_set range) range.page (range.end - range.first) old new before after
wrote-range range {old} {new} {before} {after} written made more right = grind (arith, common_steps, nat_tests, length-words_set)

-- how much longer is the list then
pub wrote-length : (range : WordRange) {most : ℕ} {old new : List ℕ} {before after : Log} → Wrote (range_set range) range.page most old new before after
    → vec_len after.operations ≡ vec_len before.operations + length (writes_of old range)
wrote-length range {old = old} {before = before} {after = after} wrote = vec_len-made before.operations after.operations (writes_of old range) (wrote-is wrote).operations

-- words of a range are written up to an index
module _ (r : WordRange) (i word : ℕ) (from : r.first ≤ i) (is : word ≡ r.word + r.step * (i - r.first)) {old mid : List ℕ} {before log : Log} (wrote : Wrote (range_set (record r { end = i })) r.page (i - r.first) old mid before log) where
  -- one more is
  pub wrote-next : {new : List ℕ} {after : Log} → slice_index mid (512 * r.page + i) ≢ word → Wrote (after_set r.page i word) r.page 1 mid new log after → Wrote (range_set (record r { end = i + 1 })) r.page ((i + 1) - r.first) old new before after
  wrote-next differs one = wrote-as (wrote-then wrote one) (omega (arith, from)) (λ pool same. sym (next-set r i word from is pool (grind (arith, common_steps, wrote-is wrote))))

  -- or is there
  pub wrote-pass : i < 512 → 512 * r.page + 512 ≤ length old → slice_index mid (512 * r.page + i) ≡ word → Wrote (range_set (record r { end = i + 1 })) r.page ((i + 1) - r.first) old mid before log
  wrote-pass small room there = wrote-as wrote (omega (arith, from)) (λ pool same. sym (next-pass r i word from is pool (grind (arith, nat_tests)) (grind (arith, common_steps, wrote-is wrote))))

  -- there is room for its operation
  pub next-room : i < r.end → slice_index mid (512 * r.page + i) ≢ word → vec_len before.operations + length (writes_of old r) ≤ vec_capacity before.operations → vec_len log.operations + 1 ≤ vec_capacity log.operations
  next-room lt differs room =
      let most = length-sets_of-part old r.page r.first ((i + 1) - r.first) (r.end - r.first) r.word r.step (omega (arith, from, lt)) in
      omega (arith, ap length (next-writes r i word from is old (grind (arith, common_steps, wrote-is wrote))), most, wrote-length (record r { end = i }) wrote, wrote.grows.capacity, room)

-- ---- words for the pages of runs

-- those of one
pub alone-run : (with : TableWords) (run : PageRun) (pool : Pool) → runs_set with (run ∷ []) pool ≡ after_run with.page with.start with.word with.step run pool
alone-run with run pool = grind (arith, common_steps, after_runs-next, after_runs-none)

pub wrote-run : (with : TableWords) (run : PageRun) {first end : ℕ} {old new : List ℕ} {before after : Log} → first ≡ index_from with.start run.first → end ≡ index_from with.start (run.first + run.count)
    → Wrote (indexes_set with first end) with.page (end - first) old new before after → Wrote (runs_set with (run ∷ [])) with.page (words_in with.start (run ∷ [])) old new before after
wrote-run with run {first} {end} {old} {new} {before} {after} from to wrote = grind (arith, nat_tests, wrote-as, alone-run)

pub wrote-gap : (with : TableWords) (first end : ℕ) {old new : List ℕ} {before after : Log} → end ≤ 512 → Wrote (indexes_set with first end) with.page (end - first) old new before after
    → Wrote (runs_set with (gap with.start first end)) with.page (words_in with.start (gap with.start first end)) old new before after
wrote-gap with first end {old} {new} {before} {after} most wrote = grind (arith, nat_tests, gap-words, wrote-as, gap-one)

-- words for the pages of a gap can be written from one index up to another
pub can-gap : {known : Bool} {words : List ℕ} {stands : ℕ → Bool} {with : TableWords} {log : Log} (first end : ℕ) → end ≤ 512 → CanWriteRuns known words stands with (gap with.start first end) log → CanWriteIndexes known words stands with first end log
can-gap {with = with} first end most can = grind (arith, common_steps, nat_tests)

-- they may be written then
pub may-range : {words : List ℕ} {stands : ℕ → Bool} (with : TableWords) (first end : ℕ) → MayWriteRuns words stands with → first < end → end ≤ 512
    → MayWrite words stands (record { page = with.page; first = first; end = end; word = with.word + with.step * first; step = with.step })
may-range with first end may some most =
    record { ordered = omega (arith, some); index_in = most; in_range = words-in_range with.word with.step first end may.in_range (omega (arith, some, most)) most; page_in = may.page_in }

-- the words behind stay
pub wrote-beside : (with : TableWords) (first end : ℕ) (most i : ℕ) {old new : List ℕ} {before after : Log} → Wrote (indexes_set with first end) with.page most old new before after → 512 * with.page + 512 ≤ length old
    → first ≤ 512 → end ≤ 512 → first ≤ i → end ≤ i → words_of new with.page i ≡ words_of old with.page i
wrote-beside with first end most i {old} {new} wrote room low high from behind = grind (arith, nat_tests, wrote-is wrote, words_set-beside)

pub run-beside : (with : TableWords) (run : PageRun) (i : ℕ) {old new : List ℕ} {before after : Log} → Wrote (runs_set with (run ∷ [])) with.page (words_in with.start (run ∷ [])) old new before after → 512 * with.page + 512 ≤ length old
    → index_from with.start (run.first + run.count) ≤ i → words_of new with.page i ≡ words_of old with.page i
run-beside with run i wrote room behind =
    wrote-beside with (index_from with.start run.first) (index_from with.start (run.first + run.count)) (words_in with.start (run ∷ [])) i (wrote-as wrote (omega arith) (λ pool _. alone-run with run pool)) room (omega arith) (omega arith) (omega (arith, behind)) behind

-- ---- words that are turned

pub turned-part : (words : List ℕ) (with : TableWords) (part rest : List PageRun) → TurnRuns words with (part ++ rest) → TurnRuns words with part
turned-part words with part rest all = grind (arith, common_steps, nat_tests)

pub turned-rest : (old new : List ℕ) (with : TableWords) (part rest : List PageRun) → TurnRuns old with (part ++ rest) → ((i : ℕ) → covers rest (with.start + i) ≡ true → words_of new with.page i ≡ words_of old with.page i) → TurnRuns new with rest
turned-rest old new with part rest all stay = grind (arith, common_steps, nat_tests)

-- ---- some of the runs

-- Some of the runs are left: with the words for their pages it is done.
pub record Left (with : TableWords) (all left : List PageRun) (old new : List ℕ) (before after : Log) : Type 0 where
  pub shown : (pool : Pool) → IsShown old before.operations.items pool → (now : Pool) × IsShown new after.operations.items now × (runs_set with left now ≡ runs_set with all pool)
  pub whole : length new ≡ length old
  pub counted : after.nonzero ≡ nonzero_in (words_of new) with.page
  pub capacity : vec_capacity after.operations ≡ vec_capacity before.operations
  pub len : vec_len after.operations + words_in with.start left ≤ vec_len before.operations + words_in with.start all

pub left-all : (with : TableWords) (all : List PageRun) (words : List ℕ) (log : Log) → log.nonzero ≡ nonzero_in (words_of words) with.page → Left with all all words words log log
left-all with all words log counted = grind (arith, common_steps, nat_tests)

module _ {with : TableWords} {all left : List PageRun} {old mid : List ℕ} {before log : Log} (so : Left with all left old mid before log) where
  -- the first of them can be written
  pub left-can : {known : Bool} {stood stands : ℕ → Bool} (part rest : List PageRun) → left ≡ part ++ rest → CanWriteRuns known old stood with all before → stands ≡ stood → (known ≡ true → TurnRuns mid with left)
      → CanWriteRuns known mid stands with part log
  left-can part rest parts can standing turned = grind (arith, common_steps, nat_tests, words_in-append, turned-part)

  -- which are written
  pub left-less : {new : List ℕ} {after : Log} (part rest : List PageRun) → left ≡ part ++ rest → Wrote (runs_set with part) with.page (words_in with.start part) mid new log after → Left with all rest old new before after
  left-less part rest parts wrote =
      record {
        shown = λ pool shown.
            let was = so.shown pool shown in
            (runs_set with part was.0, wrote.shown was.0 was.1, grind (arith, parts, after_runs-append with.page with.start with.word with.step part rest was.0, was.2));
        whole = wrote.whole ∙ so.whole;
        counted = wrote.counted;
        capacity = wrote.grows.capacity ∙ so.capacity;
        len = grind (arith, so.len, wrote.grows.len, words_in-append with.start part rest, parts);
      }

  -- none is left
  pub left-none : left ≡ [] → Wrote (runs_set with all) with.page (words_in with.start all) old mid before log
  left-none none =
      record { shown = λ pool shown. grind (arith, common_steps, so.shown pool shown, after_runs-none); whole = so.whole; counted = so.counted; grows = record { len = omega (arith, so.len); capacity = so.capacity } }
