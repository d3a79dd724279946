-- Which operations an edit makes (the order of break before make).
use Rattle.std.specs.Prelude.{◌≡◌, ◌≢◌, ℕ, ◌+◌, ◌*◌, ◌%◌, ◌<◌, ◌==◌, if◌then◌else◌, List, [], ◌∷◌, ◌++◌, Option, Some}
use Rattle.base.specs.Access.{View}
use Rattle.pool.specs.declared.operation.Op.{Op}
use Rattle.pool.specs.declared.operation.Op.TheVariants.{Set, Invalidate, Clear}
use Rattle.pool.specs.Pool.{Pool, Words, words_of, counted}
use Rattle.stage2.specs.inner.Chunks.{IsWordFor}
use Rattle.stage2.specs.Moments.{words_after}

-- between two states these operations were made, the latest of which stands first, and no others, and the words are theirs
pub record Made (made : List Op) (old new : Pool) : Type 0 where
  pub operations : new.operations ≡ made ++ old.operations
  pub count : new.made ≡ counted made old.made
  pub words : words_of new.memory.words ≡ words_after made (words_of old.memory.words)

-- a chunk's level 2 word becomes 0, and the chunk is invalidated, if it was valid
abbrev pub broken : ℕ → ℕ → ℕ → ℕ → List Op
broken p j c was =
    if was == 0 then []
    else (Invalidate p (record { first = 512 * c; count = 512 }) ∷ Set j (c % 512) 0 ∷ [])

-- and then it becomes this word, if that is valid
abbrev pub replaced : ℕ → ℕ → ℕ → ℕ → ℕ → List Op
replaced p j c was word = (if word == 0 then [] else Set j (c % 512) word ∷ []) ++ broken p j c was

-- writes of words of table k for chunk c, each as it is planned, upward and below the b-th
abbrev pub AreSets : ℕ → ℕ → (ℕ → Option View) → ℕ → List Op → Type 0
AreSets k c plan b [] = Unit {0}
AreSets k c plan b (Set q i word ∷ ops) =
    (q ≡ k) × (i < b)
    × ((answer : View) × (plan (512 * c + i) ≡ Some answer) × IsWordFor (512 * c + i) answer word)
    × AreSets k c plan i ops
AreSets k c plan b (Invalidate p run ∷ ops) = ⊥
AreSets k c plan b (Clear run ∷ ops) = ⊥

-- each write changes its word: another one stood there, over the words that were there before them all
abbrev pub AllChange : Words → List Op → Type 0
AllChange before [] = Unit {0}
AllChange before (Set page index word ∷ past) =
    (words_after past before page index ≢ word) × AllChange before past
AllChange before (Invalidate who run ∷ past) = AllChange before past
AllChange before (Clear run ∷ past) = AllChange before past

-- the operations that fill a table, or write some of its words: each as it is planned, upward, and each changes its word
pub record Filled (k c b : ℕ) (plan : ℕ → Option View) (old new : Pool) : Type 0 where
  pub ops : List Op
  pub made : Made ops old new
  pub sets : AreSets k c plan b ops
  pub changes : AllChange (words_of old.memory.words) ops
