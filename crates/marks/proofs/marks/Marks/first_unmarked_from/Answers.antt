use Rattle.std.proofs.Common.{◌≡◌, ℕ, suc, ◌+◌, ◌*◌, ◌/◌, ◌%◌, ◌<◌, List, length, Option, Some, None, arith, sym, ap, ◌∙◌, add-zero}
use Rattle.std.specs.Prelude.{MatchOption}
use Rattle.marks.specs.Tree.{IsFirstBit, IsInLevel, IsTree, NoneBetween, level_start, low}
use Rattle.marks.proofs.Listed.{length-marks_in, word-in_level, found-unmarked, none-unmarked}
use Rattle.marks.proofs.marks.Marks.first_unmarked_from.Goals as goal

-- from the bit of a number on
same-from : (bit : ℕ) → low 0 (64 * (bit / 64) + bit % 64) ≡ bit
unfolding low
same-from bit = omega arith

-- what was found, from the bit of a number on
found-from : (start count n : ℕ) (words : List ℕ) (result : Option ℕ) (tree : IsTree start count words) → n < count
    → ((level height : ℕ) → start ≡ level_start (level + height) → IsInLevel level (64 * ((start + n) / 64)) → MatchOption result
    (NoneBetween words (low height (64 * ((start + n) / 64) + (start + n) % 64)) (level_start (suc (level + height))))
    (λ found. IsFirstBit words start (low height (64 * ((start + n) / 64) + (start + n) % 64)) found))
    → MatchOption result (NoneBetween words (start + n) (level_start (suc tree.last.level))) (λ found. IsFirstBit words start (start + n) found)
found-from start count n words result tree below search-by =
    let depth = tree.last.level in
    let zero : depth + 0 ≡ depth = add-zero depth in
    let found = search-by depth 0 (tree.last.begins ∙ ap level_start (sym zero)) (word-in_level start count words n tree below) in
    rw (same-from (start + n), zero) at found

pub returns-then-n-self : goal.returns-then-n-self
returns-then-n-self c = λ k from inside.
    let m = c.self.inside in
    absurd (omega (arith, from, inside, c.if-n-self.true, ap length c.self.view_is, length-marks_in m.start m.count m.words.items))

pub returns-in_err-found : goal.returns-in_err-found
returns-in_err-found c =
    let m = c.self.inside in
    let none = found-from m.start m.count c.args.n m.words.items None c.self.invariant (omega (arith, c.if-n-self.false)) (rw c.deref.ensures.value at c.in_err-found.ensures) in
    rw (c.from_residual.ensures, ← c.self.view_is) (none-unmarked m.start m.count c.args.n m.words.items c.self.invariant none)

pub overflow_sub-result : goal.overflow_sub-result
overflow_sub-result c =
    let m = c.self.inside in
    let first = found-from m.start m.count c.args.n m.words.items (Some c.in_ok-found.found) c.self.invariant (omega (arith, c.if-n-self.false)) (rw c.deref.ensures.value at c.in_ok-found.ensures) in
    omega (arith, first.counts)

pub overflow_cast-result : goal.overflow_cast-result
overflow_cast-result c =
    let m = c.self.inside in
    let tree = c.self.invariant in
    let first = found-from m.start m.count c.args.n m.words.items (Some c.in_ok-found.found) tree (omega (arith, c.if-n-self.false)) (rw c.deref.ensures.value at c.in_ok-found.ensures) in
    let lowest = found-unmarked m.start m.count c.args.n c.in_ok-found.found m.words.items tree first in
    omega (arith, lowest.inside, length-marks_in m.start m.count m.words.items, tree.room, tree.small)

pub returns : goal.returns
returns c =
    let m = c.self.inside in
    let first = found-from m.start m.count c.args.n m.words.items (Some c.in_ok-found.found) c.self.invariant (omega (arith, c.if-n-self.false)) (rw c.deref.ensures.value at c.in_ok-found.ensures) in
    rw (← c.self.view_is) (found-unmarked m.start m.count c.args.n c.in_ok-found.found m.words.items c.self.invariant first)
