use Rattle.std.proofs.Common.{◌≡◌, ◌<◌, false, length, arith, ◌∙◌, ap}
use Rattle.marks.proofs.Listed.{length-marks_in, bit-inside, tree-write, marks_in-write, items-written}
use Rattle.marks.proofs.marks.Marks.mark.Goals as goal

pub write-requires : goal.write-requires
write-requires c =
    let m = c.self.inside in
    let below : c.args.n < m.count = omega (arith, c.requires, ap length c.self.view_is, length-marks_in m.start m.count m.words.items) in
    rw c.deref_mut.ensures.value (bit-inside m.start m.count m.words.items c.args.n c.self.invariant below)

pub invariant_of-self : goal.invariant_of-self
invariant_of-self c =
    let m = c.self.inside in
    let below : c.args.n < m.count = omega (arith, c.requires, ap length c.self.view_is, length-marks_in m.start m.count m.words.items) in
    let whole : length c.write.new.words ≡ m.words.len = c.write.auto.words ∙ c.deref_mut.ensures.len in
    rw (items-written m.words.len c.write.new.words m.words.items whole)
    (tree-write m.start m.count c.args.n _ m.words.items c.write.new.words c.self.invariant below (c.write.auto.words ∙ ap length c.deref_mut.ensures.value)
    c.write.ensures.here
    (rw c.deref_mut.ensures.value at c.write.ensures.others)
    (rw c.deref_mut.ensures.value at c.write.ensures.summed))

pub returns : goal.returns
returns c =
    let m = c.self.inside in
    let below : c.args.n < m.count = omega (arith, c.requires, ap length c.self.view_is, length-marks_in m.start m.count m.words.items) in
    let whole : length c.write.new.words ≡ m.words.len = c.write.auto.words ∙ c.deref_mut.ensures.len in
    rw (items-written m.words.len c.write.new.words m.words.items whole, ← c.self.view_is)
    (marks_in-write m.start m.count c.args.n false m.words.items c.write.new.words c.self.invariant below
    c.write.ensures.here
    (rw c.deref_mut.ensures.value at c.write.ensures.others))
