-- The words of one level 3 table, one after another.
use Rattle.stage2.proofs.Names.{nat_tests, View, Pages, PageRun, covers, planned, Writes, IsWordFor, below, common_steps, cases_Bool, ◌≡◌, ℕ, ◌+◌, ◌*◌, ◌<◌, ◌≤◌, true, false, ltb, List, [], Option, Some, None, refl, arith, sym, ◌∙◌, inl, inr}
use Rattle.words.proofs.RoundTrip.{entry-zero}

before-at : (plan : ℕ → Option View) (m n : ℕ) (x : View) → below m plan n ≡ Some x → (n < m) × (plan n ≡ Some x)
before-at plan m n x e = grind (arith, common_steps, nat_tests)

-- nothing yet: nothing is planned for the pages before the i-th
pub writes-none : (k c i : ℕ) (plan : ℕ → Option View) (m : Pages) → ((x : ℕ) → x < i → plan (512 * c + x) ≡ None) → Writes k c (below (512 * c + i) plan) m m
writes-none k c i plan m none = grind (arith, common_steps, nat_tests, before-at)

below-in : (plan : ℕ → Option View) (m n : ℕ) → n < m → below m plan n ≡ plan n
below-in plan m n lt = let t : ltb n m ≡ true = grind (arith, nat_tests) in rw t refl

-- after the pages before the i-th, those up to the j-th, as they are planned
pub writes-over : (k c i j : ℕ) (plan part : ℕ → Option View) (a b e : Pages) → i ≤ j → ((x : ℕ) → x < i → part (512 * c + x) ≡ None) → ((x : ℕ) → i ≤ x → x < j → plan (512 * c + x) ≡ part (512 * c + x)) → ((x : ℕ) → j ≤ x → part (512 * c + x) ≡ None)
    → Writes k c (below (512 * c + i) plan) a b → Writes k c part b e → Writes k c (below (512 * c + j) plan) a e
writes-over k c i j plan part a b e le before same after so next = record {
  ids = next.ids ∙ so.ids;
  quotas = next.quotas ∙ so.quotas;
  taken = next.taken ∙ so.taken;
  others = λ q x apart. next.others q x apart ∙ so.others q x apart;
  here = λ x v small given.
      let f = before-at plan (512 * c + j) (512 * c + x) v given in
      elim (cases_Bool (ltb x i)) [
        | inl t ↦
            let lt : x < i = grind (arith, nat_tests, t) in
            rw (next.stays x small (before x lt)) (so.here x v small (below-in plan (512 * c + i) (512 * c + x) (omega (arith, lt)) ∙ f.1))
        | inr t ↦ next.here x v small (sym (same x (grind (arith, nat_tests, t)) (omega (arith, f.0))) ∙ f.1)
      ];
  stays = λ x small none. grind (arith, common_steps, nat_tests, next.stays, so.stays, below-in);
}

-- words of one plan, which are those of another
pub writes-as : {k c : ℕ} {plan : ℕ → Option View} (other : ℕ → Option View) {a b : Pages} → Writes k c plan a b → ((i : ℕ) (x : View) → i < 512 → other (512 * c + i) ≡ Some x → IsWordFor (512 * c + i) x (b.words k i))
    → ((i : ℕ) → i < 512 → other (512 * c + i) ≡ None → b.words k i ≡ a.words k i) → Writes k c other a b
writes-as other so here stays = record { ids = so.ids; quotas = so.quotas; taken = so.taken; others = so.others; here = here; stays = stays }

-- pages from the i-th up to the j-th, for which nothing is planned
pub writes-pass : (k c i j : ℕ) (plan : ℕ → Option View) (a b : Pages) → i ≤ j → ((x : ℕ) → i ≤ x → x < j → plan (512 * c + x) ≡ None)
    → Writes k c (below (512 * c + i) plan) a b → Writes k c (below (512 * c + j) plan) a b
writes-pass k c i j plan a b le none so = writes-over k c i j plan (λ n. None) a b b le (λ x lt. refl) none (λ x from. refl) so
    (record { ids = refl; quotas = refl; taken = refl; others = λ q x apart. refl; here = λ x v small given. absurd (cc); stays = λ x small gone. refl })

-- all of them: nothing is planned for the pages from the i-th on
pub writes-all : (k c i : ℕ) (plan : ℕ → Option View) (a b : Pages) → ((x : ℕ) → x < 512 → i ≤ x → plan (512 * c + x) ≡ None) → Writes k c (below (512 * c + i) plan) a b → Writes k c plan a b
writes-all k c i plan a b none so =
    writes-as plan so (λ x v small given. elim (cases_Bool (ltb x i)) [
      | inl t ↦ so.here x v small (below-in plan (512 * c + i) (512 * c + x) (let lt : x < i = grind (arith, nat_tests, t) in omega (arith, lt)) ∙ given)
      | inr f ↦ let gone : plan (512 * c + x) ≡ None = none x small (grind (arith, nat_tests, f)) in absurd (cc)
    ])
    (λ x small gone. so.stays x small (grind (arith, common_steps, nat_tests, gone)))

-- ---- plans of the same words

-- where the words of all pages in none of the runs are 0, they need no write
pub writes-rest : (k c : ℕ) (runs : List PageRun) (access : View) (a b : Pages) → ((i : ℕ) → i < 512 → covers runs (512 * c + i) ≡ false → a.words k i ≡ 0)
    → Writes k c (planned runs access None) a b → Writes k c (planned runs access (Some None)) a b
writes-rest k c runs access a b left so =
    writes-as (planned runs access (Some None)) so (λ i x small given. elim (cases_Bool (covers runs (512 * c + i))) [
      | inl e ↦ so.here i x small (rw e (rw e at given))
      | inr e ↦ grind (arith, common_steps, nat_tests, so.stays, entry-zero 3)
    ])
    (λ i small none. absurd (grind (arith, common_steps, nat_tests)))

-- no runs, and all others: all words are 0
pub writes-zero : (k c : ℕ) (runs : List PageRun) (a b : Pages) → Writes k c (planned runs None (Some None)) a b → Writes k c (planned [] None (Some None)) a b
writes-zero k c runs a b so =
    writes-as (planned [] None (Some None)) so (λ i x small given. let all : planned runs None (Some None) (512 * c + i) ≡ Some None = (grind (arith, common_steps, nat_tests)) in so.here i x small (all ∙ given)) (λ i small none. absurd (cc))
