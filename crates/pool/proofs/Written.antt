-- What a table memory is, once words of one of its pages are written.
use Rattle.pool.proofs.Names.{nat_tests, list_all, page_count, PageRun, Pool, words_of, taken_of, lies_in, CountsFree, CountsNonzero, NoneFreeBelow, IsShown, Wrote, log_of, runs_set, Log, TableWords, TablePool, Ghosts}
use Rattle.std.proofs.Common.{◌≡◌, ◌≢◌, ℕ, ◌+◌, ◌*◌, ◌%◌, ◌^◌, ◌<◌, ◌≤◌, Bool, true, false, List, length, reverse, slice_set, true≢false, refl, sym, ap, ◌∙◌, arith}
use Rattle.std.proofs.lemmas.List.{length-reverse}
use Rattle.pool.proofs.Kept.{memory_in}
use Rattle.pool.proofs.Nonzero.{counts_nonzero-page}
use Rattle.pool.proofs.Replaced.{Keeps}
use Rattle.pool.proofs.RunWords.{keeps-runs}
use Rattle.pool.proofs.Within.{within-runs}

-- the pool that it shows, but for the count of operations
abbrev pub pool_in : {S : Type 0} {g : Ghosts S} → TablePool S g → ℕ → Pool
pool_in m made = record { memory = memory_in m; operations = reverse m.operations.items; made = made }

-- and the one that it shows with these words and this log
abbrev pub pool_after : {S : Type 0} {g : Ghosts S} → TablePool S g → List ℕ → Log → Pool
pool_after old words log = record {
  memory = record { ids = old.ids; quotas = old.quotas.items; words = words; taken = old.taken };
  operations = reverse log.operations.items;
  made = (old.made_before + length log.operations.items) % 2 ^ 64;
}

-- what holds of it then
abbrev pub Holds : {S : Type 0} {g : Ghosts S} → TablePool S g → ℕ → List ℕ → (ℕ → Bool) → Log → Type 0
Holds old page new stands after = record {
  ids_whole : length old.ids ≡ length old.quotas.items;
  words_whole : length new ≡ 512 * page_count old.quotas.items;
  taken_whole : length old.taken ≡ page_count old.quotas.items;
  free_counted : CountsFree old.quotas.items old.taken old.free.items;
  none_free_below : NoneFreeBelow old.quotas.items old.taken old.lowest.items;
  nonzero_counted : CountsNonzero old.quotas.items new (slice_set old.nonzero.items page after.nonzero);
  fits : page_count old.quotas.items ≤ 2 ^ 27;
  roots : (row : ℕ) → row < length old.quotas.items → taken_of old.taken row ≡ true;
  free_zero : (q i : ℕ) → taken_of old.taken q ≡ false → words_of new q i ≡ 0;
  within : list_all (lies_in old.ids old.quotas.items) (reverse after.operations.items) ≡ true;
  standing : (q : ℕ) → taken_of old.taken q ≡ true → stands q ≡ true;
}

module _ {S : Type 0} {g : Ghosts S} (old : TablePool S g) (page : ℕ) (inside : page < page_count old.quotas.items)
    {step : Pool → Pool} {most count : ℕ} {new : List ℕ} {after : Log} (wrote : Wrote step page most (g.words old.store) new (log_of old.operations count) after)
    (keeps : (a : Pool) → 512 * page + 512 ≤ length a.memory.words → Keeps page a (step a)) where
  whole : 512 * page + 512 ≤ length (g.words old.store)
  whole = let all = old.words_whole in omega (arith, all, inside)

  shown : (made : ℕ) → IsShown new after.operations.items (step (pool_in old made))
  shown made = wrote.shown (pool_in old made) (record { words = refl; operations = refl })

  pub stays : {stands : ℕ → Bool} → stands ≡ g.stands old.store → taken_of old.taken page ≡ true → list_all (lies_in old.ids old.quotas.items) (step (pool_in old 0)).operations ≡ true → Holds old page new stands after
  stays stood held lie =
      let others : (q i : ℕ) → q ≢ page → words_of new q i ≡ words_of (g.words old.store) q i = λ q i other. ap (λ w. words_of w q i) (shown 0).words ∙ (keeps (pool_in old 0) whole).others q i other in
      record {
        ids_whole = old.ids_whole;
        words_whole = wrote.whole ∙ old.words_whole;
        taken_whole = old.taken_whole;
        free_counted = old.free_counted;
        none_free_below = old.none_free_below;
        nonzero_counted = counts_nonzero-page old.quotas.items (g.words old.store) new old.nonzero.items page after.nonzero old.nonzero_counted inside others wrote.counted;
        fits = old.fits;
        roots = old.roots;
        free_zero = λ q i free. others q i (λ is. true≢false (sym held ∙ ap (taken_of old.taken) (sym is) ∙ free)) ∙ old.free_zero q i free;
        within = rw (shown 0).operations lie;
        standing = λ q is. ap (λ (s : ℕ → Bool). s q) stood ∙ old.standing q is;
      }

  -- it shows what the step makes
  pub state : pool_after old new after ≡ step (pool_in old ((old.made_before + length old.operations.items) % 2 ^ 64))
  state = grind (arith, nat_tests, keeps, whole, shown, length-reverse)

-- the same of words for the pages of runs
module _ {S : Type 0} {g : Ghosts S} (old : TablePool S g) (with : TableWords) (runs : List PageRun) (inside : with.page < page_count old.quotas.items)
    {most count : ℕ} {new : List ℕ} {after : Log} (wrote : Wrote (runs_set with runs) with.page most (g.words old.store) new (log_of old.operations count) after) where
  keeps : (a : Pool) → 512 * with.page + 512 ≤ length a.memory.words → Keeps with.page a (runs_set with runs a)
  keeps a room = keeps-runs with.page with.start with.word with.step runs a room

  pub runs-stay : {stands : ℕ → Bool} → stands ≡ g.stands old.store → taken_of old.taken with.page ≡ true → Holds old with.page new stands after
  runs-stay stood held = stays old with.page inside wrote keeps stood held (within-runs old.ids old.quotas.items with.page with.start with.word with.step runs (pool_in old 0) inside old.within)

  pub runs-state : pool_after old new after ≡ runs_set with runs (pool_in old ((old.made_before + length old.operations.items) % 2 ^ 64))
  runs-state = state old with.page inside wrote keeps
