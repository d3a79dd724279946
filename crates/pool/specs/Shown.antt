-- What a store and a list of operations show of a pool.
use Rattle.std.specs.Prelude.{◌≡◌, ◌≢◌, ℕ, ◌+◌, ◌*◌, ◌<◌, List, reverse}
use Rattle.pool.specs.Pool.{Pool, words_of}
use Rattle.pool.specs.declared.operation.Op.{Op}

-- the words of a store are the pool's, and so are the operations of a list, in which the latest stands last
pub record IsShown (store : List ℕ) (list : List Op) (pool : Pool) : Type 0 where
  pub words : store ≡ pool.memory.words
  pub operations : reverse list ≡ pool.operations

-- none of these words of a page is there: from an index on so many, each a step more than the one before
abbrev pub AllDiffer : List ℕ → ℕ → ℕ → ℕ → ℕ → ℕ → Type 0
AllDiffer store page first n word step = (x : ℕ) → x < n → words_of store page (first + x) ≢ word + step * x
