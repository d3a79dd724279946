-- A page alone, whose word stands at an index.
use Rattle.pool.proofs.Names.{nat_tests, common_steps, sets_of, after_runs, Pool, words_of, after_set, after_sets, words_set, index_from, words_in, runs_set, TableWords}
use Rattle.std.proofs.Common.{◌≡◌, ◌≢◌, ℕ, ◌+◌, ◌-◌, ◌*◌, ◌<◌, ◌≤◌, ◌⊎◌, arith, [], ◌∷◌, length, slice_index, refl, sym, ◌∙◌}
use Rattle.pool.specs.Writing.{page_alone}
use Rattle.pool.proofs.Nonzero.{word-read}
use Rattle.pool.proofs.Stretches.{set-one, pass-one}

-- none of them is its
pub alone-outside : (with : TableWords) (page : ℕ) → (page < with.start) ⊎ (with.start + 512 ≤ page) → (pool : Pool) → runs_set with (page_alone page ∷ []) pool ≡ pool
unfolding after_runs words_set sets_of
alone-outside with page beside pool = let none : index_from with.start (page + 1) - index_from with.start page ≡ 0 = grind arith in rw none refl

module _ (with : TableWords) (page index : ℕ) (small : index < 512) (is : with.start + index ≡ page) where
  pub alone-words : words_in with.start (page_alone page ∷ []) ≡ 1
  alone-words = grind arith

  alone-sets : (pool : Pool) → runs_set with (page_alone page ∷ []) pool ≡ after_sets with.page index 1 (with.word + with.step * index) with.step pool
  unfolding after_runs
  alone-sets pool = grind (arith, common_steps, nat_tests)

  -- the word that stands there
  stands : (pool : Pool) → slice_index pool.memory.words (512 * with.page + index) ≡ words_of pool.memory.words with.page index
  stands pool = word-read pool.memory.words with.page index (slice_index pool.memory.words (512 * with.page + index)) small refl

  -- it is written
  pub alone-set : (pool : Pool) → words_of pool.memory.words with.page index ≢ with.word + with.step * index → runs_set with (page_alone page ∷ []) pool ≡ after_set with.page index (with.word + with.step * index) pool
  alone-set pool differs = alone-sets pool ∙ set-one with.page index (with.word + with.step * index) with.step pool (λ e. differs (sym (stands pool) ∙ e))

  -- or is there
  pub alone-stays : (pool : Pool) → 512 * with.page + index < length pool.memory.words → words_of pool.memory.words with.page index ≡ with.word + with.step * index → runs_set with (page_alone page ∷ []) pool ≡ pool
  alone-stays pool within there = alone-sets pool ∙ pass-one with.page index (with.word + with.step * index) with.step pool within (stands pool ∙ there)
