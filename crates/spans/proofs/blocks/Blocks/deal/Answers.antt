use Rattle.std.proofs.Common.{◌≡◌, ℕ, ◌+◌, ◌-◌, ◌<◌, ◌++◌, ◌∷◌, List, length, take, drop, ap, subst, ◌∙◌, arith}
use Rattle.std.proofs.lemmas.List.{length-take, take_all}
use Rattle.std.proofs.lemmas.Grind.{div_ceil_times}
use Rattle.spans.specs.Spans.{Span}
use Rattle.spans.specs.Blocks.{AreDealt}
use Rattle.spans.proofs.Ascending.{ascend-taken, ascend-dropped}
use Rattle.spans.proofs.Pushed.{dealing-none, dealing-more, dealt-inside}
use Rattle.spans.proofs.blocks.Blocks.deal.Goals as goal

pub loop-done-init : goal.loop-done-init
loop-done-init c =
    let d = div_ceil_times (length c.args.spans.now) 128 (omega arith) in
    let e = c.div_ceil-parts.ensures in
    record {
      dealing = dealing-none c.args.spans.now c.div_ceil-parts.result c.args.place c.args.self.now.list;
      done = omega arith;
      parts = λ lt. record { some = omega (arith, d.0, e, lt); fits = omega (arith, d.0, e); full = omega (arith, d.1, e, lt) };
      none = λ le. omega (arith, d.1, e, le);
      spare = omega arith;
      enough = omega (arith, d.1, e, c.requires.spare);
    }

pub part_len-len-requires : goal.part_len-len-requires
part_len-len-requires c = c.loop-done.invariant.parts c.loop-done-test.true

pub loop-done-preserved : goal.loop-done-preserved
loop-done-preserved c =
    let inv = c.loop-done.invariant in
    let lt = c.loop-done-test.true in
    let a = inv.parts lt in
    let spans = c.args.spans.now in
    let done = c.loop-done.done in
    let len = c.part_len-len.result in
    let e = c.part_len-len.ensures in
    let n : done + len - done ≡ len = omega arith in
    record {
      dealing = dealing-more spans done len c.loop-done.parts c.args.place c.loop-done.at c.args.self.now.list c.loop-done.self.list c.insert.new.self.list inv.dealing c.requires.inside
          (c.insert.ensures.list ∙ ap (λ (k : ℕ). take c.loop-done.at c.loop-done.self.list ++ take k (drop done spans) ∷ drop c.loop-done.at c.loop-done.self.list) n) lt a e;
      done = omega (arith, e.inside, inv.done);
      parts = λ lt.
          let two : 1 < c.loop-done.parts = omega (arith, e.fits, lt) in
          let f = e.full two in
          record { some = omega (arith, two); fits = omega (arith, e.fits); full = omega (arith, f) };
      none = λ le. omega (arith, e.fits, e.full, a.some, le, e.inside);
      spare = omega (arith, inv.spare, c.insert.ensures.spare, a.some);
      enough = inv.enough;
    }

pub insert-requires-clause-ascending : goal.insert-requires-clause-ascending
insert-requires-clause-ascending c =
    ascend-taken (c.loop-done.done + c.part_len-len.result - c.loop-done.done) (drop c.loop-done.done c.args.spans.now) (ascend-dropped c.loop-done.done c.args.spans.now c.requires.ascending)

pub insert-requires-clause-inside : goal.insert-requires-clause-inside
insert-requires-clause-inside c = dealt-inside (take c.loop-done.done c.args.spans.now) c.args.place c.loop-done.at c.args.self.now.list c.loop-done.self.list c.loop-done.invariant.dealing.dealt c.requires.inside

pub insert-requires-clause-spare : goal.insert-requires-clause-spare
insert-requires-clause-spare c =
    let inv = c.loop-done.invariant in
    let some = (inv.parts c.loop-done-test.true).some in
    omega (arith, inv.spare, inv.enough, some)

pub insert-requires-clause-short : goal.insert-requires-clause-short
insert-requires-clause-short c =
    let l = length-take (c.loop-done.done + c.part_len-len.result - c.loop-done.done) (drop c.loop-done.done c.args.spans.now) in
    omega (arith, l, c.part_len-len.ensures.short)

pub overflow_sub-parts : goal.overflow_sub-parts
overflow_sub-parts c = let a = c.loop-done.invariant.parts c.loop-done-test.true in omega (arith, a.some)

pub returns-clause-dealt : goal.returns-clause-dealt
returns-clause-dealt c =
    subst (λ (s : List Span). AreDealt s c.args.place c.loop-done.at c.args.self.now.list c.loop-done.self.list) (take_all c.loop-done.done c.args.spans.now (omega (arith, c.loop-done-test.false))) c.loop-done.invariant.dealing.dealt

pub returns-clause-spare : goal.returns-clause-spare
returns-clause-spare c =
    let inv = c.loop-done.invariant in
    let d = div_ceil_times (length c.args.spans.now) 128 (omega arith) in
    let e = c.div_ceil-parts.ensures in
    omega (arith, inv.spare, d.0, d.1, e)
