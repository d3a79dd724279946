use Rattle.std.proofs.Common.{◌≡◌, ℕ, ◌+◌, ◌-◌, ◌*◌, ◌/◌, ◌%◌, ◌<◌, List, length, slice_index, arith, subst, inl, inr}
use Rattle.std.proofs.lemmas.Bool.{cases_lt}
use Rattle.std.proofs.lemmas.List.{get_or_read}
use Rattle.marks.specs.Tree.{IsLowestBit, IsTree, marks_in}
use Rattle.marks.specs.Marks.{IsFirstUnmarked, AllMarkedFrom}
use Rattle.marks.proofs.Listed.{length-marks_in, bit-inside, found-unmarked}
use Rattle.marks.proofs.Search.{first-here}
use Rattle.marks.proofs.marks.Marks.next_unmarked.Goals as goal

-- behind the last number all have marks, so the bit of this one stands in the words
inside : (start count n : ℕ) (words : List ℕ) → IsTree start count words → ¬ AllMarkedFrom (marks_in start count words) n → start + n < 64 * length words
inside start count n words tree some = elim (cases_lt n count) [
  | inl below ↦ bit-inside start count words n tree below
  | inr past ↦ absurd (some (λ k from short. absurd (omega (arith, past, from, short, length-marks_in start count words))))
]

-- the lowest bit in the word of a number is the lowest number without a mark
found-here : (start count n lowest : ℕ) (words : List ℕ) → IsTree start count words → IsLowestBit (slice_index words ((start + n) / 64)) ((start + n) % 64) lowest
    → IsFirstUnmarked (marks_in start count words) n (n + (lowest - (start + n) % 64))
found-here start count n lowest words tree is =
    let same : 64 * ((start + n) / 64) + lowest - start ≡ n + (lowest - (start + n) % 64) = omega (arith, is.from) in
    subst (IsFirstUnmarked (marks_in start count words) n) same (found-unmarked start count n (64 * ((start + n) / 64) + lowest) words tree (first-here words start (start + n) lowest (omega arith) is))

pub index-requires : goal.index-requires
index-requires c =
    let m = c.self.inside in
    let bit = inside m.start m.count c.args.n m.words.items c.self.invariant (rw c.self.view_is c.requires) in
    omega (arith, bit, m.words.ok.0)

pub overflow_add-result : goal.overflow_add-result
overflow_add-result c =
    let m = c.self.inside in
    let tree = c.self.invariant in
    let bit = inside m.start m.count c.args.n m.words.items tree (rw c.self.view_is c.requires) in
    let read = get_or_read m.words.items ((m.start + c.args.n) / 64) _ (omega (arith, bit)) c.index.ensures 0 in
    let found = found-here m.start m.count c.args.n c.in-Some.lowest m.words.items tree (rw read at c.in-Some.ensures) in
    omega (arith, found.inside, length-marks_in m.start m.count m.words.items, tree.room, tree.small)

pub returns-in-Some : goal.returns-in-Some
returns-in-Some c =
    let m = c.self.inside in
    let bit = inside m.start m.count c.args.n m.words.items c.self.invariant (rw c.self.view_is c.requires) in
    let read = get_or_read m.words.items ((m.start + c.args.n) / 64) _ (omega (arith, bit)) c.index.ensures 0 in
    rw (← c.self.view_is) (found-here m.start m.count c.args.n c.in-Some.lowest m.words.items c.self.invariant (rw read at c.in-Some.ensures))
