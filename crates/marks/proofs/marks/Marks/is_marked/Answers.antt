use Rattle.std.proofs.Common.{◌≡◌, ℕ, ◌+◌, ◌/◌, ◌%◌, ◌<◌, ◌^◌, ◌==◌, not, false, List, length, slice_index, arith, sym, ◌∙◌, ap}
use Rattle.std.proofs.lemmas.Bool.Decides.{nat_tests}
use Rattle.std.specs.Prelude.{bit_and}
use Rattle.std.specs.Int.{bit_at}
use Rattle.std.proofs.lemmas.List.{get_or_read}
use Rattle.std.proofs.lemmas.Nat.Bits.{bit_at-lt, shr_and_one}
use Rattle.marks.specs.Tree.{bit_in}
use Rattle.marks.proofs.Listed.{length-marks_in, marks_in-at, bit-inside}
use Rattle.marks.proofs.marks.Marks.is_marked.Goals as goal

one-bit : (bit : ℕ) → bit < 2 → (bit == 0) ≡ not (bit == 1)
one-bit bit small = grind (arith, nat_tests)

-- a word that is shifted down to a bit ends with it
bit-read : (words : List ℕ) (bit : ℕ) → (bit_and (slice_index words (bit / 64) / 2 ^ (bit % 64)) 1 == 0) ≡ not (bit_in words bit)
unfolding bit_in
bit-read words bit = rw shr_and_one (one-bit (bit_at (slice_index words (bit / 64)) (bit % 64)) (bit_at-lt (slice_index words (bit / 64)) (bit % 64)))

pub index-requires : goal.index-requires
index-requires c =
    let m = c.self.inside in
    let below : c.args.n < m.count = omega (arith, c.requires, ap length c.self.view_is, length-marks_in m.start m.count m.words.items) in
    let inside = bit-inside m.start m.count m.words.items c.args.n c.self.invariant below in
    let whole = m.words.ok.0 in
    omega (arith, inside, whole)

pub returns : goal.returns
returns c =
    let m = c.self.inside in
    let below : c.args.n < m.count = omega (arith, c.requires, ap length c.self.view_is, length-marks_in m.start m.count m.words.items) in
    let inside = bit-inside m.start m.count m.words.items c.args.n c.self.invariant below in
    let bit = m.start + c.args.n in
    let read : c.index.result.now ≡ slice_index m.words.items (bit / 64) = get_or_read m.words.items (bit / 64) _ (omega (arith, inside)) c.index.ensures 0 in
    rw (read, ← c.self.view_is) (bit-read m.words.items bit ∙ sym (marks_in-at m.start m.count m.words.items c.args.n false below))
