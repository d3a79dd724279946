use Rattle.std.proofs.Common.{◌≡◌, ◌+◌, ◌-◌, ◌/◌, ◌<◌, length, slice_index, arith, ◌∙◌, sym}
use Rattle.std.proofs.lemmas.List.{get_or-set_same}
use Rattle.marks.specs.Tree.{has_bits}
use Rattle.marks.proofs.Words.{written, summed-on, summed-done, has_bits-same, has_bits-on}
use Rattle.marks.proofs.tree.+write.Goals as goal
use Rattle.marks.proofs.tree.+write.Goals.{else-word-gt0-via-then-word-gt0+else-is_turned, else-word-gt0-via-else-word-gt0}

pub returns-then-is_turned-clause-here : goal.returns-then-is_turned-clause-here
returns-then-is_turned-clause-here t c =
    let is = written c.args.words.now c.args.bit c.with_bit-after.result c.args.on (omega (arith, c.requires)) c.with_bit-after.ensures.here c.with_bit-after.ensures.others in
    c.write.ensures.others c.args.bit c.args.bit (omega arith) (omega arith) (λ same. omega (arith, same, c.if-word-gt0.true)) ∙ is.here

pub returns-then-is_turned-clause-others : goal.returns-then-is_turned-clause-others
returns-then-is_turned-clause-others t c = λ start x within from differs.
    let is = written c.args.words.now c.args.bit c.with_bit-after.result c.args.on (omega (arith, c.requires)) c.with_bit-after.ensures.here c.with_bit-after.ensures.others in
    c.write.ensures.others start x (omega (arith, within)) from (λ same. omega (arith, same, within, from, c.if-word-gt0.true)) ∙ is.others x differs

pub returns-then-is_turned-clause-summed : goal.returns-then-is_turned-clause-summed
unfolding has_bits
returns-then-is_turned-clause-summed t c = λ start summed right.
    let is = written c.args.words.now c.args.bit c.with_bit-after.result c.args.on (omega (arith, c.requires)) c.with_bit-after.ensures.here c.with_bit-after.ensures.others in
    let word : c.args.bit / 64 - 1 + 1 ≡ c.args.bit / 64 = omega (arith, c.if-word-gt0.true) in
    let inside : c.args.bit / 64 < length c.args.words.now = omega (arith, c.requires) in
    c.write.ensures.summed start (summed-on start c.args.bit c.args.on c.args.words.now _ is summed right) (λ below. rw (word, get_or-set_same) (has_bits-on _ _ _ _ (sym c.is_turned.ensures ∙ c.if-is_turned.true) c.with_bit-after.ensures.here))

pub returns-else-word-gt0-clause-here : goal.returns-else-word-gt0-clause-here
returns-else-word-gt0-clause-here t c =
    let is = written c.args.words.now c.args.bit c.with_bit-after.result c.args.on (omega (arith, c.requires)) c.with_bit-after.ensures.here c.with_bit-after.ensures.others in
    is.here

pub returns-else-word-gt0-clause-others : goal.returns-else-word-gt0-clause-others
returns-else-word-gt0-clause-others t c = λ start x within from differs.
    let is = written c.args.words.now c.args.bit c.with_bit-after.result c.args.on (omega (arith, c.requires)) c.with_bit-after.ensures.here c.with_bit-after.ensures.others in
    is.others x differs

pub returns-else-word-gt0-clause-summed : goal.returns-else-word-gt0-clause-summed
returns-else-word-gt0-clause-summed t c = λ start summed right.
    let is = written c.args.words.now c.args.bit c.with_bit-after.result c.args.on (omega (arith, c.requires)) c.with_bit-after.ensures.here c.with_bit-after.ensures.others in
    let inside : c.args.bit / 64 < length c.args.words.now = omega (arith, c.requires) in
    let same : 0 < c.args.bit / 64 → has_bits c.with_bit-after.result ≡ has_bits (slice_index c.args.words.now (c.args.bit / 64)) =
    λ some. elim c.else-word-gt0.branch [
      | else-word-gt0-via-then-word-gt0+else-is_turned w ↦ has_bits-same _ _ _ _ (sym w.is_turned.ensures ∙ w.if-is_turned.false) c.with_bit-after.ensures.here c.with_bit-after.ensures.none
      | else-word-gt0-via-else-word-gt0 w ↦ absurd (omega (arith, some, w.if-word-gt0.false))
    ] in
    summed-done start c.args.bit c.args.on c.args.words.now _ is summed right (λ some. rw get_or-set_same (same some))
