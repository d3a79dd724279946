-- New views need no more tables than the old ones and what they grow by.
use Rattle.stage2.proofs.Names.{nat_tests, common_steps, View, count_below, is_mixed, is_reached, need, grow, ℕ, ◌+◌, ◌≤◌, Bool, not, ◌&&◌, arith}
use Rattle.std.proofs.Common.{◌||◌}
use Rattle.stage2.proofs.Counting.Pieces.{count_below-fewer, or-most}

count-most : (f g : ℕ → Bool) (n : ℕ) → count_below g n ≤ count_below f n + count_below (λ k. g k && not (f k)) n
count-most f g n = omega (arith, count_below-fewer g (λ k. f k || (g k && not (f k))) n (λ k lt on. (grind (arith, common_steps, nat_tests))), or-most f (λ k. g k && not (f k)) n)

-- new views need no more than the old ones and what they grow by
pub need-grows : (v w : ℕ → View) → need w ≤ need v + grow v w
unfolding need grow
need-grows v w = omega (arith, count-most (is_reached v) (is_reached w) 512, count-most (is_mixed v) (is_mixed w) 262144)
