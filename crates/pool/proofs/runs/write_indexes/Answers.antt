use Rattle.pool.proofs.Names.{◌-◌, ◌*◌, ◌+◌, arith}
use Rattle.pool.proofs.RunWords.{sets-none}
use Rattle.pool.proofs.Stretches.{length-sets_of-le}
use Rattle.pool.proofs.Wrote.{wrote-none, may-range}
use Rattle.pool.proofs.runs.write_indexes.Goals as goal

pub returns-then-first-end-clause-wrote : goal.returns-then-first-end-clause-wrote
returns-then-first-end-clause-wrote g c = wrote-none _ c.args.with.page _ (g.S.WordStore.words c.args.store.now) c.args.log c.requires.ready.counted (λ pool _. grind (arith, sets-none c.args.with.page))

pub turn_all-requires-clause-may : goal.turn_all-requires-clause-may
turn_all-requires-clause-may g c = rw c.range-range.ensures (may-range c.args.with c.args.indexes.first c.args.indexes.end c.requires.may c.if-first-end.false c.requires.most)

pub write_others-requires : goal.write_others-requires
write_others-requires g c =
    let w = c.args.with in
    let first = c.args.indexes.first in
    let end = c.args.indexes.end in
    rw c.range-range.ensures record {
      may = may-range w first end c.requires.may c.if-first-end.false c.requires.most;
      ready = record { counted = c.requires.ready.counted; room = omega (arith, length-sets_of-le (g.S.WordStore.words c.args.store.now) w.page first (end - first) (w.word + w.step * first) w.step, c.requires.ready.room) };
    }
