use Rattle.std.proofs.Common.{ℕ, ◌<◌, List, [], ◌∷◌, get_or, suc, zero, arith}
use Rattle.std.specs.List.{AllByRecursion}
use Rattle.spm.proofs.call.numbers_fit.Goals as goal

all_below : (top : ℕ) (xs : List ℕ) → ((i : ℕ) → get_or xs i 0 < top) → AllByRecursion (λ x. x < top) xs
all_below top [] h = tt
all_below top (x ∷ xs) h = (h zero, all_below top xs (λ i. h (suc i)))

pub returns : goal.returns
returns c = record {
  caller = omega (arith, c.ranges.caller.fits);
  count = c.requires;
  regs = all_below _ c.args.regs.now (λ i. omega (arith, c.type_inv.regs i));
  bytes = all_below _ c.args.tx.now (λ i. omega (arith, c.type_inv.tx i));
}
