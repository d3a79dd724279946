-- The words of a level 3 table as they are planned: one page's, by its chunk and index.
use Rattle.stage2.proofs.Names.{nat_tests, View, Pool, Pages, Writes, below, some_pages, Filled, common_steps, ◌≡◌, ℕ, ◌+◌, ◌*◌, ◌<◌, ◌≤◌, true, false, ◌&&◌, leb, ltb, Option, Some, None, refl, sym, ◌∙◌, arith}
use Rattle.stage2.proofs.Walkers.Histories.{filled-over}
use Rattle.stage2.proofs.Editing.Level3Words.{writes-over}

-- what is planned for some pages
module _ (c i j : ℕ) (answer : View) (x : ℕ) where
  pub some-in : i ≤ x → x < j → some_pages c i j answer (512 * c + x) ≡ Some answer
  some-in from lt = let t : (leb (512 * c + i) (512 * c + x) && ltb (512 * c + x) (512 * c + j)) ≡ true = grind (arith, nat_tests, from, lt) in rw t refl

  pub some-before : x < i → some_pages c i j answer (512 * c + x) ≡ None
  some-before lt = let f : (leb (512 * c + i) (512 * c + x) && ltb (512 * c + x) (512 * c + j)) ≡ false = grind (arith, nat_tests, lt) in rw f refl

  pub some-after : j ≤ x → some_pages c i j answer (512 * c + x) ≡ None
  some-after from = let f : (leb (512 * c + i) (512 * c + x) && ltb (512 * c + x) (512 * c + j)) ≡ false = grind (arith, nat_tests, from) in rw f refl

-- ---- after the pages before the i-th, those up to the j-th

-- their words are written
pub writes-join : (k c i j : ℕ) (plan : ℕ → Option View) (answer : View) (a b e : Pages) → i ≤ j → ((x : ℕ) → i ≤ x → x < j → plan (512 * c + x) ≡ Some answer)
    → Writes k c (below (512 * c + i) plan) a b → Writes k c (some_pages c i j answer) b e → Writes k c (below (512 * c + j) plan) a e
writes-join k c i j plan answer a b e le there so next = writes-over k c i j plan (some_pages c i j answer) a b e le
    (λ x lt. some-before c i j answer x lt)
    (λ x from lt. there x from lt ∙ sym (some-in c i j answer x from lt))
    (λ x from. some-after c i j answer x from)
    so next

-- and these are the operations
pub filled-join : (k c i j : ℕ) (plan : ℕ → Option View) (answer : View) (a b e : Pool) → i ≤ j → ((x : ℕ) → i ≤ x → x < j → plan (512 * c + x) ≡ Some answer) → Filled k c i plan a b → Filled k c j (some_pages c i j answer) b e → Filled k c j plan a e
filled-join k c i j plan answer a b e le there so next = grind (arith, common_steps, nat_tests, filled-over, some-before, some-in, some-after)
