-- How many pages of a chunk runs have, and what that tells of the words of its level 3 table.
use Rattle.stage2.proofs.Names.{common_steps, nat_tests, count_below, PageRun, in_run, covers, are_normal, rise_above, Words, nonzero_in, index_from, words_in, is_between, pages_among, pages_in, end_from, part_in, cases_Bool, and_parts, eqb-true}
use Rattle.std.proofs.Common.{◌≡◌, ◌≢◌, ℕ, zero, suc, ◌+◌, ◌-◌, ◌*◌, ◌/◌, ◌<◌, ◌≤◌, ◌==◌, Bool, true, false, not, ◌&&◌, ◌||◌, eqb, ltb, List, [], ◌∷◌, Some, None, take, drop, length, get_or, refl, sym, ap, ◌∙◌, arith, inl, inr}
use Rattle.std.proofs.lemmas.List.{at_drop_all}
use Rattle.pool.proofs.Count.{count_below-same, count_below-some, count_below-none, count_below-tail, count_below-more, count_below-le, count_below-all, count_below-witness}
use Rattle.pool.proofs.RunWords.{words_in-left}
use Rattle.pool.proofs.FirstRuns.{covers-take, take-all}
use Rattle.stage2.proofs.Runs.Parts.{part-some, part-none}
use Rattle.stage2.proofs.Runs.Normal.{end_of, from-rise, normal-next, normal-take}

-- ---- counts of any kind

-- of two kinds that share no number
count_below-either : (a b : ℕ → Bool) (n : ℕ) → ((k : ℕ) → k < n → (a k && b k) ≡ false) → count_below (λ k. a k || b k) n ≡ count_below a n + count_below b n
unfolding count_below
count_below-either a b zero apart = refl
count_below-either a b (suc n) apart = grind (arith, common_steps, nat_tests, count_below-either a b n (λ k lt. apart k (omega arith)))

-- the numbers from one up to another
between-more : (first end k : ℕ) → first + k ≤ end → count_below (is_between first end) (first + k) ≡ k
between-more first end zero within =
    let start : first + 0 ≡ first = omega arith in
    rw start (count_below-none (is_between first end) first (λ k lt. grind (arith, nat_tests, lt)))
between-more first end (suc k) within =
    let next : first + suc k ≡ first + k + 1 = omega arith in
    let here : is_between first end (first + k) ≡ true = grind (arith, nat_tests, within) in
    rw next ((count_below-more (is_between first end) (first + k)) ∙ (rw (here, between-more first end k (omega (arith, within))) (omega arith)))

pub count_below-between : (first end n : ℕ) → first ≤ end → end ≤ n → count_below (is_between first end) n ≡ end - first
count_below-between first end n ordered most =
    let last : first + (end - first) ≡ end = omega (arith, ordered) in
    let tail = count_below-tail (is_between first end) end n most (λ k from lt. grind (arith, nat_tests, from)) in
    tail ∙ (ap (count_below (is_between first end)) (sym last) ∙ between-more first end (end - first) (omega (arith, ordered)))

apart-self : (a : Bool) → (a && not a) ≡ false
apart-self a = grind (arith, common_steps, nat_tests)

or-not : (a : Bool) → (a || not a) ≡ true
or-not a = grind (arith, common_steps, nat_tests)

-- ---- pages of a chunk

pub pages_among-le : (which : ℕ → Bool) → pages_among which ≤ 512
unfolding pages_among
pages_among-le which = count_below-le which 512

pub pages_among-between : (first end : ℕ) → first ≤ end → end ≤ 512 → pages_among (is_between first end) ≡ end - first
unfolding pages_among
pages_among-between first end ordered most = count_below-between first end 512 ordered most

-- the same pages
pub pages_among-same : (a b : ℕ → Bool) → ((i : ℕ) → i < 512 → b i ≡ a i) → pages_among b ≡ pages_among a
unfolding pages_among
pages_among-same a b same = count_below-same a b 512 same

-- no pages
pub pages_among-none : (which : ℕ → Bool) → ((i : ℕ) → i < 512 → which i ≡ false) → pages_among which ≡ 0
unfolding pages_among
pages_among-none which none = count_below-none which 512 none

-- pages of two kinds, which share none
pub pages_among-either : (a b : ℕ → Bool) → ((i : ℕ) → i < 512 → (a i && b i) ≡ false) → pages_among (λ i. a i || b i) ≡ pages_among a + pages_among b
unfolding pages_among
pages_among-either a b apart = count_below-either a b 512 apart

-- ---- the pages of the first runs of some that stand upward, and of one more

rise-covers : (end n : ℕ) (runs : List PageRun) → rise_above end runs ≡ true → covers runs n ≡ true → n < end_from end runs
rise-covers end n [] rises covered = absurd (cc)
rise-covers end n (r ∷ runs) rises covered =
    let parts = and_parts (ltb end r.first) (rise_above (end_of r) runs) rises in
    elim (cases_Bool (in_run r n)) [
      | inl here ↦ grind (arith, common_steps, nat_tests, end_of, from-rise, parts)
      | inr other ↦ rise-covers (end_of r) n runs parts.1 (rw other at covered)
    ]

normal-covers : (n : ℕ) (runs : List PageRun) → are_normal runs ≡ true → covers runs n ≡ true → n < end_from 0 runs
normal-covers n [] normal covered = absurd (cc)
normal-covers n (r ∷ runs) normal covered = elim (cases_Bool (in_run r n)) [
  | inl here ↦ grind (arith, common_steps, nat_tests, end_of, from-rise)
  | inr other ↦ rise-covers (end_of r) n runs normal (rw other at covered)
]

-- no page is in a run and in one of those before it
pub first-apart : (runs : List PageRun) (i : ℕ) (run : PageRun) (n : ℕ) → are_normal runs ≡ true → i < length runs → run ≡ get_or runs i run → (covers (take i runs) n && in_run run n) ≡ false
first-apart runs i run n normal lt is = elim (cases_Bool (covers (take i runs) n)) [
  | inl before ↦ grind (arith, common_steps, nat_tests, normal-next, normal-covers, normal-take)
  | inr none ↦ rw none refl
]

-- all pages
pub pages_among-all : (which : ℕ → Bool) → ((i : ℕ) → i < 512 → which i ≡ true) → pages_among which ≡ 512
unfolding pages_among
pages_among-all which all = count_below-all which 512 all

-- the others
pub pages_among-not : (which : ℕ → Bool) → pages_among (λ i. not (which i)) + pages_among which ≡ 512
pages_among-not which =
    let all = pages_among-all (λ i. which i || not (which i)) (λ i lt. or-not (which i)) in
    omega (arith, pages_among-either which (λ i. not (which i)) (λ i lt. apart-self (which i)), all)

-- ---- a page among some

pub page-among : (which : ℕ → Bool) → 0 < pages_among which → (i : ℕ) × (i < 512) × (which i ≡ true)
unfolding pages_among
page-among which some = count_below-witness which 512 some

-- ---- the words of pages beside some

pub nonzero-most : (words : Words) (k : ℕ) → nonzero_in words k ≤ 512
unfolding nonzero_in
nonzero-most words k = count_below-le (λ i. not (words k i == 0)) 512

pub or-most : (a b : ℕ → Bool) (n : ℕ) → count_below (λ k. a k || b k) n ≤ count_below a n + count_below b n
unfolding count_below
or-most a b zero = omega arith
or-most a b (suc n) = grind (arith, common_steps, nat_tests, or-most a b n)

not-or : (a x : Bool) → not (a || x) ≡ true → (a ≡ false) × (x ≡ false)
not-or a x e = grind (arith, common_steps, nat_tests)

pub count_below-fewer : (a b : ℕ → Bool) (n : ℕ) → ((k : ℕ) → k < n → a k ≡ true → b k ≡ true) → count_below a n ≤ count_below b n
unfolding count_below
count_below-fewer a b zero is = omega arith
count_below-fewer a b (suc n) is = grind (arith, common_steps, nat_tests, count_below-fewer a b n (λ k lt. is k (omega (arith, lt))))

-- where there is one more of the second kind
count_below-less : (a b : ℕ → Bool) (n i : ℕ) → ((k : ℕ) → k < n → a k ≡ true → b k ≡ true) → i < n → a i ≡ false → b i ≡ true → count_below a n < count_below b n
count_below-less a b n i is lt out on =
    let more : ℕ → Bool = λ k. b k && not (a k) in
    let all = count_below-fewer (λ k. a k || more k) b n (λ k below some. grind (arith, common_steps, nat_tests, is k below)) in
    omega (arith, all, count_below-either a more n (λ k below. (grind (arith, common_steps, nat_tests))), count_below-some more n i lt (rw (out, on) refl))

-- where there are fewer words that are not 0 than pages beside some, one of these has the word 0
pub zero-beside : (words : Words) (k : ℕ) (which : ℕ → Bool) → nonzero_in words k + pages_among which < 512 → (i : ℕ) × (i < 512) × (which i ≡ false) × (words k i ≡ 0)
unfolding pages_among nonzero_in
zero-beside words k which fewer =
    let some : ℕ → Bool = λ i. which i || not (words k i == 0) in
    let most = or-most which (λ i. not (words k i == 0)) 512 in
    let left = count_below-witness (λ i. not (some i)) 512 (omega (arith, most, pages_among-not some, fewer)) in
    let out = not-or (which left.0) (not (words k left.0 == 0)) left.2 in
    (left.0, left.1, out.0, grind (arith, nat_tests, out.1))

-- where none of theirs is 0, they are as many at least
pub words-least : (words : Words) (k : ℕ) (which : ℕ → Bool) → ((i : ℕ) → i < 512 → which i ≡ true → (words k i == 0) ≡ false) → pages_among which ≤ nonzero_in words k
unfolding pages_among nonzero_in
words-least words k which some = count_below-fewer which (λ i. not (words k i == 0)) 512 (λ i lt on. ap not (some i lt on))

-- and where there are more of them than those pages, one beside them has another word
pub word-beside : (words : Words) (k : ℕ) (which : ℕ → Bool) → pages_among which < nonzero_in words k → (i : ℕ) × (i < 512) × (which i ≡ false) × (words k i ≡ 0 → ⊥)
unfolding pages_among nonzero_in
word-beside words k which more =
    let other : ℕ → Bool = λ i. not (which i) && not (words k i == 0) in
    let all = count_below-fewer (λ i. not (words k i == 0)) (λ i. which i || other i) 512 (λ i lt some. (grind (arith, common_steps, nat_tests))) in
    let found = count_below-witness other 512 (omega (arith, all, or-most which other 512, more)) in
    let both = and_parts (not (which found.0)) (not (words k found.0 == 0)) found.2 in
    (found.0, found.1, (grind (arith, common_steps, nat_tests)), λ zero. grind (arith, nat_tests, zero, both.1))

-- and where there are as many, which are all of those pages, the words beside them are 0
pub none-beside : (words : Words) (k : ℕ) (which : ℕ → Bool) → nonzero_in words k ≡ pages_among which → ((i : ℕ) → i < 512 → which i ≡ true → words k i ≢ 0) → (i : ℕ) → i < 512 → which i ≡ false → words k i ≡ 0
unfolding pages_among nonzero_in
none-beside words k which as_many all i lt out = elim (cases_Bool (words k i == 0)) [
  | inl is ↦ eqb-true _ _ is
  | inr isnt ↦ absurd (omega (arith, as_many, count_below-less which (λ j. not (words k j == 0)) 512 i (λ j small on. grind (arith, nat_tests, all j small on)) lt out (ap not isnt)))
]

-- and where as many are left for the pages beside some, which are all of these, the words of those pages are 0
pub none-among : (words : Words) (k : ℕ) (which : ℕ → Bool) → nonzero_in words k + pages_among which ≡ 512 → ((i : ℕ) → i < 512 → which i ≡ false → words k i ≢ 0) → (i : ℕ) → i < 512 → which i ≡ true → words k i ≡ 0
none-among words k which left all i lt in_it =
    none-beside words k (λ j. not (which j)) (omega (arith, left, pages_among-not which)) (λ j small beside. all j small (grind (arith, common_steps, nat_tests))) i lt (ap not in_it)

-- and where as many are not 0 as there are of some, beside which all are 0, none of their words is 0
pub all-among : (words : Words) (k : ℕ) (which : ℕ → Bool) → nonzero_in words k ≡ pages_among which → ((i : ℕ) → i < 512 → which i ≡ false → words k i ≡ 0) → (i : ℕ) → i < 512 → which i ≡ true → words k i ≢ 0
unfolding pages_among nonzero_in
all-among words k which counted none i lt in_it is_zero =
    omega (arith, counted, count_below-less (λ j. not (words k j == 0)) which 512 i (λ j small some. grind (arith, common_steps, nat_tests, none j small)) lt (grind (arith, nat_tests, is_zero)) in_it)

-- ---- the part of a run in a chunk

pub part-within : (c : ℕ) (run part : PageRun) → part_in c run ≡ Some part → (512 * c ≤ part.first) × (part.first + part.count ≤ 512 * c + 512) × (0 < part.count)
unfolding part_in
part-within c run part e = grind (arith, common_steps, nat_tests)

-- a page by its index is its chunk's
of-chunk : (b : Bool) (c i : ℕ) → i < 512 → (b && eqb ((512 * c + i) / 512) c) ≡ b
of-chunk b c i lt = let at : (512 * c + i) / 512 ≡ c = omega (arith, lt) in grind (arith, common_steps, nat_tests)

pub part-pages : (c : ℕ) (run part : PageRun) → part_in c run ≡ Some part → pages_among (λ i. in_run run (512 * c + i)) ≡ part.count
part-pages c run part e =
    let within = part-within c run part e in
    let first = part.first - 512 * c in
    let end = part.first + part.count - 512 * c in
    pages_among-same (is_between first end) (λ i. in_run run (512 * c + i))
    (λ i lt. sym (of-chunk (in_run run (512 * c + i)) c i lt) ∙ sym (part-some c run part (512 * c + i) e) ∙ (grind (arith, nat_tests)))
    ∙ pages_among-between first end (omega arith) (omega (arith, within.1)) ∙ omega (arith, within.0)

pub no-part-pages : (c : ℕ) (run : PageRun) → part_in c run ≡ None → pages_among (λ i. in_run run (512 * c + i)) ≡ 0
no-part-pages c run e = pages_among-none (λ i. in_run run (512 * c + i)) (λ i lt. sym (of-chunk (in_run run (512 * c + i)) c i lt) ∙ part-none c run (512 * c + i) e)

-- ---- one run after another

-- the pages of the first runs and of the next one
pub pages-more : (runs : List PageRun) (i c : ℕ) (run : PageRun) → are_normal runs ≡ true → i < length runs → run ≡ get_or runs i run
    → pages_in (take (i + 1) runs) c ≡ pages_in (take i runs) c + pages_among (λ x. in_run run (512 * c + x))
pages-more runs i c run normal lt is =
    let first : ℕ → Bool = λ x. covers (take i runs) (512 * c + x) in
    let one : ℕ → Bool = λ x. in_run run (512 * c + x) in
    pages_among-same (λ x. first x || one x) (λ x. covers (take (i + 1) runs) (512 * c + x)) (λ x small. covers-take runs i run (512 * c + x) lt is)
    ∙ pages_among-either first one (λ x small. first-apart runs i run (512 * c + x) normal lt is)

pub pages-none : (c : ℕ) (runs : List PageRun) → pages_in (take 0 runs) c ≡ 0
pages-none c runs = pages_among-none (λ x. covers (take 0 runs) (512 * c + x)) (λ x lt. refl)

-- ---- the words for the runs' pages

run-words : (c : ℕ) (run : PageRun) → index_from (512 * c) (run.first + run.count) - index_from (512 * c) run.first ≡ pages_among (λ x. in_run run (512 * c + x))
run-words c run =
    let first = index_from (512 * c) run.first in
    let end = index_from (512 * c) (run.first + run.count) in
    sym (pages_among-same (is_between first end) (λ x. in_run run (512 * c + x)) (λ x lt. grind (arith, nat_tests, lt)) ∙ pages_among-between first end (omega arith) (omega arith))

-- those of the runs from the i-th on, and the pages of those before it
words-from : (c n i : ℕ) (runs : List PageRun) → are_normal runs ≡ true → n + i ≡ length runs → pages_in (take i runs) c + words_in (512 * c) (drop i runs) ≡ pages_in runs c
words-from c zero i runs normal all =
    rw (take-all runs i (omega (arith, all)) (omega (arith, all)), (at_drop_all (words_in (512 * c)) runs i (omega (arith, all)))) (omega arith)
words-from c (suc n) i runs normal all =
    let run = get_or runs i (record { first = 0; count = 0 }) in
    let lt : i < length runs = omega (arith, all) in
    let is : run ≡ get_or runs i run = (grind (arith, common_steps, nat_tests)) in
    omega (arith, words-from c n (i + 1) runs normal (omega (arith, all)), (words_in-left (512 * c) i runs run lt is), (pages-more runs i c run normal lt is), (run-words c run))

pub words-pages : (c : ℕ) (runs : List PageRun) → are_normal runs ≡ true → words_in (512 * c) runs ≡ pages_in runs c
words-pages c runs normal =
    omega (arith, pages-none c runs, words-from c (length runs) 0 runs normal (omega arith))
