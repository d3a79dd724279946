-- What a chunk and a gigabyte need depends on their pages alone.
use Rattle.std.proofs.Common.{◌≡◌, ℕ, zero, suc, ◌+◌, ◌*◌, ◌/◌, ◌%◌, ◌<◌, Bool, true, false, not, ◌&&◌, ◌||◌, cond, leb, List, [], ◌∷◌, Some, None, is_some, refl, ap, ap₂, sym, ◌∙◌, arith, inl, inr}
use Rattle.stage2.proofs.Names.{common_steps, nat_tests, list_any, View, is_alike, is_mixed, is_reached, PageRun, in_run, covers, edited, touches_run, touches_chunk, covers_chunk, IsOutcome, cases_Bool, count_below, grows_at}
use Rattle.pool.proofs.Count.{count_below-same}
use Rattle.base.specs.Counts.{any_below}
use Rattle.manifest.proofs.Tables.{alike-same, alike-refl, any_below-some, any_below-none, any_below-no}

pub any_below-same : (f g : ℕ → Bool) (n : ℕ) → ((k : ℕ) → k < n → g k ≡ f k) → any_below g n ≡ any_below f n
unfolding any_below
any_below-same f g zero same = refl
any_below-same f g (suc n) same = ap₂ (λ a b. a || b) (same n (omega arith)) (any_below-same f g n (λ k below. same k (omega arith)))

pub mixed-same : (v w : ℕ → View) (c : ℕ) → ((i : ℕ) → i < 512 → w (512 * c + i) ≡ v (512 * c + i)) → is_mixed w c ≡ is_mixed v c
unfolding is_mixed
mixed-same v w c same =
    let zeroth : 512 * c ≡ 512 * c + 0 = omega arith in
    let first : w (512 * c) ≡ v (512 * c) = ap w zeroth ∙ same 0 (omega arith) ∙ ap v (sym zeroth) in
    any_below-same (λ i. not (is_alike (v (512 * c + i)) (v (512 * c)))) (λ i. not (is_alike (w (512 * c + i)) (w (512 * c)))) 512
    (λ i below. ap₂ (λ a b. not (is_alike a b)) (same i below) first)

pub reached-same : (v w : ℕ → View) (g : ℕ) → ((i : ℕ) → i < 262144 → w (262144 * g + i) ≡ v (262144 * g + i)) → is_reached w g ≡ is_reached v g
unfolding is_reached
reached-same v w g same = any_below-same (λ i. is_some (v (262144 * g + i))) (λ i. is_some (w (262144 * g + i))) 262144 (λ i below. ap (λ a. is_some a) (same i below))

-- as many chunks of a gigabyte grow
pub grows-same : (v w x y : ℕ → View) (g : ℕ) → ((n : ℕ) → n / 512 / 512 ≡ g → x n ≡ v n) → ((n : ℕ) → n / 512 / 512 ≡ g → y n ≡ w n) → count_below (λ i. grows_at x y (512 * g + i)) 512 ≡ count_below (λ i. grows_at v w (512 * g + i)) 512
grows-same v w x y g same also = count_below-same (λ i. grows_at v w (512 * g + i)) (λ i. grows_at x y (512 * g + i)) 512 (λ i lt. ap₂ (λ a b. a && not b)
    (mixed-same w y (512 * g + i) (λ z small. also (512 * (512 * g + i) + z) (omega (arith, lt, small)))) (mixed-same v x (512 * g + i) (λ z small. same (512 * (512 * g + i) + z) (omega (arith, lt, small)))))

-- ---- nothing is reached

pub mixed-none : (v : ℕ → View) (c : ℕ) → ((i : ℕ) → i < 512 → v (512 * c + i) ≡ None) → is_mixed v c ≡ false
unfolding is_mixed
mixed-none v c none = grind (arith, common_steps, nat_tests, any_below-no)

pub reached-none : (v : ℕ → View) (g : ℕ) → ((i : ℕ) → i < 262144 → v (262144 * g + i) ≡ None) → is_reached v g ≡ false
unfolding is_reached
reached-none v g none = any_below-no (λ i. is_some (v (262144 * g + i))) 262144 (λ i below. ap (λ a. is_some a) (none i below))

pub reached-some : (v : ℕ → View) (g i : ℕ) → i < 262144 → is_some (v (262144 * g + i)) ≡ true → is_reached v g ≡ true
unfolding is_reached
reached-some v g i below some = any_below-some (λ i. is_some (v (262144 * g + i))) 262144 i below some

-- ---- a chunk that one run fills

-- of runs that pass a test one does, and whatever it passes they pass
pub any-one : (p : PageRun → Bool) (runs : List PageRun) → list_any p runs ≡ true → (r : PageRun) × (p r ≡ true) × ((q : PageRun → Bool) → q r ≡ true → list_any q runs ≡ true)
any-one p [] some = absurd (cc)
any-one p (r ∷ runs) some = elim (cases_Bool (p r)) [
  | inl is ↦ (r, is, λ q holds. rw holds refl)
  | inr isnt ↦ let rest = any-one p runs (rw isnt at some) in (rest.0, rest.1, λ q holds. grind (arith, common_steps, nat_tests, rest.2 q holds))
]

pub filled-page : (runs : List PageRun) (c n : ℕ) → covers_chunk c runs ≡ true → n / 512 ≡ c → covers runs n ≡ true
filled-page runs c n filled at =
    let one = any-one (λ run. leb run.first (512 * c) && leb (512 * c + 512) (run.first + run.count)) runs filled in
    one.2 (λ run. in_run run n) (grind (arith, nat_tests, one.1))

pub same-unmixed : (answer : ℕ → View) (c : ℕ) (one : View) → ((n : ℕ) → n / 512 ≡ c → answer n ≡ one) → is_mixed answer c ≡ false
unfolding is_mixed
same-unmixed answer c one same =
    any_below-no (λ i. not (is_alike (answer (512 * c + i)) (answer (512 * c)))) 512
    (λ i below. ap₂ (λ a b. not (is_alike a b)) (same (512 * c + i) (omega (arith, below))) (same (512 * c) (omega arith)) ∙ (let alike : is_alike one one ≡ true = grind (arith, common_steps, nat_tests, alike-refl) in ap not alike))

pub filled-touches : (runs : List PageRun) (c : ℕ) → covers_chunk c runs ≡ true → touches_chunk c runs ≡ true
filled-touches runs c filled =
    let one = any-one (λ run. leb run.first (512 * c) && leb (512 * c + 512) (run.first + run.count)) runs filled in
    one.2 (touches_run c) (grind (arith, nat_tests, one.1))

pub covered-touched : (runs : List PageRun) (n : ℕ) → covers runs n ≡ true → touches_chunk (n / 512) runs ≡ true
covered-touched runs n covered = let one = any-one (λ run. in_run run n) runs covered in one.2 (touches_run (n / 512)) (grind (arith, nat_tests, one.1))

pub outcome-filled : (runs : List PageRun) (access : View) (before : ℕ → View) (c : ℕ) → covers_chunk c runs ≡ true → IsOutcome c (edited runs access before) (Some access)
outcome-filled runs access before c filled =
    let same = λ (n : ℕ) (at : n / 512 ≡ c). ap (λ b. cond b access (before n)) (filled-page runs c n filled at) in
    record { same = λ one is n at. same n at ∙ (let e : access ≡ one = cc in e); mixed = sym (same-unmixed (edited runs access before) c access same) }

-- where the pages in none of the runs answer as those of the runs, all do
pub outcome-others : (runs : List PageRun) (access : View) (before : ℕ → View) (c : ℕ) → ((n : ℕ) → n / 512 ≡ c → covers runs n ≡ false → before n ≡ access) → IsOutcome c (edited runs access before) (Some access)
outcome-others runs access before c others =
    let same : (n : ℕ) → n / 512 ≡ c → edited runs access before n ≡ access = λ n at. grind (arith, common_steps, nat_tests, others n at) in
    record { same = λ one is n at. same n at ∙ (let e : access ≡ one = cc in e); mixed = sym (same-unmixed (edited runs access before) c access same) }

-- ---- chunks that are not mixed

-- a page of a chunk whose answers are all equal
pub equal-first : (view : ℕ → View) (c n : ℕ) → is_mixed view c ≡ false → n / 512 ≡ c → view n ≡ view (512 * c)
unfolding is_mixed
equal-first view c n unmixed at =
    let place : 512 * c + n % 512 ≡ n = omega (arith, at) in
    let one : not (is_alike (view (512 * c + n % 512)) (view (512 * c))) ≡ false = any_below-none (λ i. not (is_alike (view (512 * c + i)) (view (512 * c)))) 512 (n % 512) unmixed (omega arith) in
    ap view (sym place) ∙ alike-same (view (512 * c + n % 512)) (view (512 * c)) (grind (arith, common_steps, nat_tests, one))

-- two pages of a chunk that answer otherwise make it mixed
pub unlike-mixed : (view : ℕ → View) (c x y : ℕ) → x / 512 ≡ c → y / 512 ≡ c → is_alike (view x) (view y) ≡ false → is_mixed view c ≡ true
unlike-mixed view c x y at_x at_y unlike = grind (arith, common_steps, nat_tests, equal-first, alike-refl)
