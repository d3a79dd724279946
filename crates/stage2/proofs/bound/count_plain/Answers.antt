use Rattle.stage2.proofs.Names.{nat_tests, Pool, is_between, points_at, common_steps, ◌≡◌, ℕ, ◌&&◌, not, Bool, false, Some, refl, arith}
use Rattle.pool.proofs.Count.{count_below-none, count_below-tail, count_below-more}
use Rattle.stage2.proofs.bound.count_plain.Goals as goal

outside : (pool : Pool) (j first end x : ℕ) → is_between first end x ≡ false → (is_between first end x && not (points_at (Some j) x pool)) ≡ false
outside pool j first end x out = rw out refl

pub loop-index-init : goal.loop-index-init
loop-index-init g c = grind (arith, common_steps, nat_tests, count_below-none, outside)

pub loop-index-preserved : goal.loop-index-preserved
loop-index-preserved g c = grind (arith, common_steps, nat_tests, count_below-more)

pub returns : goal.returns
returns g c =
    let first = c.args.chunks.first in
    let end = c.args.chunks.end in
    let pool = g.M.TableMem.state c.args.memory.now in
    let which : ℕ → Bool = λ x. is_between first end x && not (points_at (Some c.args.second) x pool) in
    let last = c.loop-index.auto.index-end c.requires.ordered in
    let few = c.loop-index.invariant.few in
    let most = c.requires.most in
    let tail = count_below-tail which c.loop-index.index 512 (omega (arith, last, most)) (λ k from lt. outside pool c.args.second first end k (grind (arith, nat_tests, from, c.loop-index-test.false))) in
    record { counts = omega (arith, tail, c.loop-index.invariant.counts); few = omega (arith, few, last, most) }
