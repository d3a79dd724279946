use Rattle.std.proofs.Common.{ℕ, ◌+◌, ◌*◌, ◌/◌, ◌≤◌, arith}
use Rattle.std.specs.Int.{div_ceil}
use Rattle.std.proofs.lemmas.Bool.Decides.{nat_tests}
use Rattle.marks.proofs.Levels.{level_start-aligned}
use Rattle.marks.proofs.Listed.{tree-zeros, marks_in-zeros}
use Rattle.marks.proofs.marks.Marks.full.Goals as goal

enough : (count : ℕ) → count ≤ 64 * div_ceil count 64
enough count = grind (arith, nat_tests)

most : (count : ℕ) → div_ceil count 64 ≤ count / 64 + 1
most count = grind (arith, nat_tests)

pub invariant_of-result : goal.invariant_of-result
invariant_of-result c =
    let start = c.start_for-start in
    let aligned = level_start-aligned start.ensures.level.level in
    rw c.in_ok-zeros.ensures (tree-zeros start.result c.args.count _ start.ensures.level
    (omega (arith, aligned, start.ensures.level.begins, c.div_ceil.ensures, enough c.args.count)) (omega (arith, start.ensures.small, c.div_ceil.ensures, most c.args.count, c.requires)))

pub returns : goal.returns
returns c = rw c.in_ok-zeros.ensures (marks_in-zeros c.start_for-start.result c.args.count _)
