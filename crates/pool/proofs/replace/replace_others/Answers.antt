use Rattle.std.proofs.Common.{◌≡◌, ◌+◌, ◌-◌, ◌*◌, refl, sym, ◌∙◌, arith}
use Rattle.pool.proofs.Replaced.{replaces-none, replaces-more, replaces-one}
use Rattle.pool.proofs.Stretches.{first-word, next-word}
use Rattle.pool.proofs.Wrote.{wrote-none, wrote-then, wrote-as}
use Rattle.pool.proofs.replace.replace_others.Goals as goal
use Rattle.pool.proofs.Names.{common_steps}

pub loop-index-init : goal.loop-index-init
loop-index-init g c =
    let w = c.args.with in
    let r = w.range in
    let none : r.first - r.first ≡ 0 = omega arith in
    record {
      wrote = wrote-none _ r.page _ (g.S.WordStore.words c.args.store.now) c.args.log c.requires.ready.counted (λ pool _. rw none (replaces-none w.who r.page r.first r.word r.step w.start pool));
      word = first-word r;
      start = rw none (omega arith);
      standing = refl;
    }

pub loop-index-preserved : goal.loop-index-preserved
loop-index-preserved g c =
    let w = c.args.with in
    let r = w.range in
    let i = c.loop-index.index in
    let before = c.loop-index.invariant in
    let from = c.loop-index.auto.index in
    let at : w.start + 512 * (i - r.first) ≡ c.new.result = sym (c.new.ensures ∙ before.start) in
    let more : (i + 1) - r.first ≡ (i - r.first) + 1 = omega (arith, from) in
    let one : (i + 1) - i ≡ 1 = omega arith in
    record {
      wrote = rw more (wrote-as (wrote-then before.wrote (rw one at c.replace_one.ensures.wrote)) (omega arith) (λ pool _.
          (grind (arith, common_steps, replaces-one, replaces-more))));
      word = next-word r i c.loop-index.word from before.word;
      start = next-word (record r { word = w.start; step = 512 }) i c.loop-index.start from before.start;
      standing = c.replace_one.ensures.standing ∙ before.standing;
    }
