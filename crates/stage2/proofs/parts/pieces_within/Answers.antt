use Rattle.stage2.proofs.Names.{PageRun, covers, pages_in, nat_tests, common_steps, ◌+◌, ◌*◌, ◌≡◌, ℕ, ◌/◌, true, [], ◌∷◌, List, sym, ap, ◌∙◌, arith}
use Rattle.pool.proofs.RunWords.{runs-single}
use Rattle.stage2.proofs.Counting.FewOperations.{run-all, run-whole, page-counted}
use Rattle.stage2.proofs.Counting.Pieces.{pages_among-le}
use Rattle.stage2.proofs.parts.pieces_within.Goals as goal

module _ (runs : List PageRun) (run : PageRun) (chunk : ℕ) (single : runs ≡ run ∷ []) (some : (n : ℕ) × (covers runs n ≡ true)) (only : (n : ℕ) → covers runs n ≡ true → n / 512 ≡ chunk) where
  pages : pages_in runs chunk ≡ run.count
  pages = ap (λ (rs : List PageRun). pages_in rs chunk) single ∙ run-all run chunk (rw single at some) (rw single at only)

pub returns-in-len1 : goal.returns-in-len1
returns-in-len1 c =
    let single = sym c.list.ensures.same ∙ runs-single c.list.result.now c.run-item.result (omega (arith, c.in-len1.len_at_least, c.in-len1.len_below)) c.run-item.is in
    let most = pages_among-le (λ i. covers c.args.runs.now (512 * c.args.chunk + i)) in
    grind (arith, common_steps, nat_tests, runs-single, pages, run-whole, c.count.ensures.same, pages c.args.runs.now c.run-item.result c.args.chunk single c.requires.some c.requires.only, most)

pub returns-clause-some : goal.returns-clause-some
returns-clause-some c = grind (arith, common_steps, nat_tests, page-counted c.args.runs.now c.args.chunk c.requires.some.0 c.requires.some.1 (c.requires.only c.requires.some.0 c.requires.some.1))
