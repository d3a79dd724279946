-- Words and marks after a write, in the lists and in the functions that show them.
use Rattle.std.proofs.Common.{◌≡◌, ◌≢◌, ℕ, ◌+◌, ◌*◌, ◌<◌, ◌==◌, ◌&&◌, if◌then◌else◌, List, Bool, true, length, replicate, slice_set, arith, ap}
use mathlib.Core.Path.{fun_ext}
use Rattle.pool.proofs.Names.{common_steps, nat_tests, ManifestRows, quotas_of, page_count, Memory, Words, words_of, taken_of, pages_of, put, mark, with_mark, new_memory}
use Rattle.pool.specs.Pool.{IsWhole, with_word, with_taken, with_put}

-- ---- words

pub words_of-set_at : (items : List ℕ) (page index word : ℕ) → index < 512 → 512 * page + index < length items → words_of (slice_set items (512 * page + index) word) ≡ put page index word (words_of items)
unfolding words_of put
words_of-set_at items page index word below here = fun_ext (λ q. fun_ext (λ i. grind (arith, common_steps, nat_tests)))

-- the same word by word
pub word-set : (items : List ℕ) (page index word q i : ℕ) → index < 512 → 512 * page + index < length items → words_of (slice_set items (512 * page + index) word) q i ≡ (if (q == page) && (i == index) then word else words_of items q i)
unfolding put
word-set items page index word q i below here = ap (λ (w : Words). w q i) (words_of-set_at items page index word below here)

pub words_of-set : (items : List ℕ) (count page index word : ℕ) → length items ≡ 512 * count → page < count → index < 512 → words_of (slice_set items (512 * page + index) word) ≡ put page index word (words_of items)
words_of-set items count page index word whole inside below = words_of-set_at items page index word below (omega arith)

-- a word past the end of a page is 0, so a page of zeros is 0 at each index
pub words_of-beyond : (items : List ℕ) (page : ℕ) → ((i : ℕ) → i < 512 → words_of items page i ≡ 0) → (i : ℕ) → words_of items page i ≡ 0
unfolding words_of
words_of-beyond items page empty i = grind (arith, nat_tests, empty i)

-- ---- marks

pub mark-same : (taken : ℕ → Bool) (page : ℕ) (is : Bool) → mark page is taken page ≡ is
unfolding mark
mark-same taken page is = grind (arith, nat_tests)

pub mark-other : (taken : ℕ → Bool) (page q : ℕ) (is : Bool) → q ≢ page → mark page is taken q ≡ taken q
unfolding mark
mark-other taken page q is other = grind (arith, nat_tests)

-- what is taken stays so when a page is taken
pub mark-kept : (taken : ℕ → Bool) (page q : ℕ) → taken q ≡ true → mark page true taken q ≡ true
unfolding mark
mark-kept taken page q held = grind (arith, nat_tests)

pub taken_of-set : (items : List Bool) (page : ℕ) (is : Bool) → page < length items → taken_of (slice_set items page is) ≡ mark page is (taken_of items)
unfolding taken_of mark
taken_of-set items page is inside = fun_ext (λ q. grind (arith, common_steps, nat_tests))

-- the same page by page
pub mark-set : (items : List Bool) (page q : ℕ) (is : Bool) → page < length items → taken_of (slice_set items page is) q ≡ (if q == page then is else taken_of items q)
unfolding mark
mark-set items page q is inside = ap (λ (t : ℕ → Bool). t q) (taken_of-set items page is inside)

-- ---- the pages of a memory

pub pages_of-set : (m : Memory) (page index word : ℕ) → IsWhole m → page < page_count m.quotas → index < 512 → pages_of (with_word page index word m) ≡ with_put page index word (pages_of m)
pages_of-set m page index word whole inside below =
    ap (λ (w : Words). record { ids = m.ids; quotas = m.quotas; words = w; taken = taken_of m.taken })
    (words_of-set m.words (page_count m.quotas) page index word whole.words inside below)

pub pages_of-mark : (m : Memory) (page : ℕ) (is : Bool) → IsWhole m → page < page_count m.quotas → pages_of (with_taken page is m) ≡ with_mark page is (pages_of m)
pages_of-mark m page is whole inside = grind (arith, nat_tests, taken_of-set)

-- ---- a new memory

pub words_of-zeros : (count page index : ℕ) → words_of (replicate count 0) page index ≡ 0
unfolding words_of
words_of-zeros count page index = grind (arith, common_steps, nat_tests)

-- all its words are 0
pub new_memory-is_zero : (m : ManifestRows) (page index : ℕ) → words_of (new_memory m).words page index ≡ 0
new_memory-is_zero m page index = words_of-zeros (512 * page_count (quotas_of m.partitions)) page index
