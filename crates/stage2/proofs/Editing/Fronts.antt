-- What a front of a view needs: the pages below an edge of it.
use Rattle.std.proofs.Common.{◌≡◌, ℕ, zero, suc, ◌+◌, ◌-◌, ◌*◌, ◌^◌, ◌<◌, ◌≤◌, Bool, true, false, not, ◌&&◌, ltb, None, refl, sym, ◌∙◌, arith, inl, inr}
use Rattle.stage2.proofs.Names.{nat_tests, View, count_below, is_mixed, is_reached, need, grow, IsEdge, view_below, common_steps, cases_Bool}
use Rattle.stage2.proofs.Editing.Gigabyte.{not-reached}
use Rattle.stage2.proofs.Counting.Needs.{mixed-same, reached-same, mixed-none, reached-none, equal-first}

pub below-in : (view : ℕ → View) (b n : ℕ) → n < b → view_below view b n ≡ view n
below-in view b n lt = let t : ltb n b ≡ true = grind (arith, nat_tests) in rw t refl

pub below-out : (view : ℕ → View) (b n : ℕ) → b ≤ n → view_below view b n ≡ None
below-out view b n le = let t : ltb n b ≡ false = grind (arith, nat_tests) in rw t refl

mixed-at-edge : (view : ℕ → View) (b c : ℕ) → IsEdge view b → 512 * c < b → b < 512 * c + 512 → is_mixed view c ≡ true
mixed-at-edge view b c edge from to = elim (cases_Bool (is_mixed view c)) [
  | inl t ↦ t
  | inr f ↦ elim edge [
    | inl first ↦ absurd (omega arith)
    | inr differ ↦ absurd (differ (equal-first view c (b - 1) f (omega (arith, from, to)) ∙ sym (equal-first view c b f (omega (arith, from, to)))))
  ]
]

mixed-below : (view : ℕ → View) (b c : ℕ) → IsEdge view b → is_mixed (view_below view b) c ≡ true → is_mixed view c ≡ true
mixed-below view b c edge mixed = grind (arith, common_steps, nat_tests, mixed-at-edge, mixed-same, below-in, mixed-none, below-out)

reached-below : (view : ℕ → View) (b g : ℕ) → is_reached (view_below view b) g ≡ true → is_reached view g ≡ true
reached-below view b g reached = elim (cases_Bool (is_reached view g)) [
  | inl t ↦ t
  | inr f ↦
      let none = reached-none (view_below view b) g (λ i small. grind (arith, common_steps, nat_tests, not-reached view g i f small)) in
      absurd (cc)
]

count_below-both : (f g all : ℕ → Bool) (n : ℕ) → ((k : ℕ) → k < n → f k ≡ true → all k ≡ true) → ((k : ℕ) → k < n → g k ≡ true → all k ≡ true) → count_below f n + count_below (λ k. g k && not (f k)) n ≤ count_below all n
unfolding count_below
count_below-both f g all zero in_f in_g = omega arith
count_below-both f g all (suc n) in_f in_g = grind (arith, common_steps, nat_tests, count_below-both f g all n (λ k lt. in_f k (omega (arith, lt))) (λ k lt. in_g k (omega (arith, lt))))

-- one front after another, each up to an edge, needs no more than all
pub fronts-fit : (view v w : ℕ → View) (b e : ℕ) → IsEdge view b → IsEdge view e → ((n : ℕ) → n < 2 ^ 27 → v n ≡ view_below view b n) → ((n : ℕ) → n < 2 ^ 27 → w n ≡ view_below view e n) → need v + grow v w ≤ need view
unfolding need grow
fronts-fit view v w b e edge_b edge_e is_v is_w =
    let mixed_v = λ (c : ℕ) (lt : c < 262144). mixed-same (view_below view b) v c (λ i small. is_v (512 * c + i) (omega (arith, lt, small))) in
    let mixed_w = λ (c : ℕ) (lt : c < 262144). mixed-same (view_below view e) w c (λ i small. is_w (512 * c + i) (omega (arith, lt, small))) in
    let reached_v = λ (g : ℕ) (lt : g < 512). reached-same (view_below view b) v g (λ i small. is_v (262144 * g + i) (omega (arith, lt, small))) in
    let reached_w = λ (g : ℕ) (lt : g < 512). reached-same (view_below view e) w g (λ i small. is_w (262144 * g + i) (omega (arith, lt, small))) in
    let chunks = count_below-both (is_mixed v) (is_mixed w) (is_mixed view) 262144
    (λ c lt t. mixed-below view b c edge_b (sym (mixed_v c lt) ∙ t)) (λ c lt t. mixed-below view e c edge_e (sym (mixed_w c lt) ∙ t)) in
    let gigabytes = count_below-both (is_reached v) (is_reached w) (is_reached view) 512
    (λ g lt t. reached-below view b g (sym (reached_v g lt) ∙ t)) (λ g lt t. reached-below view e g (sym (reached_w g lt) ∙ t)) in
    omega (arith, gigabytes, chunks)
