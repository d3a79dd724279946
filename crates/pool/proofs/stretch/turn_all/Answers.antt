use Rattle.pool.proofs.Names.{words_of, arith}
use Rattle.pool.proofs.Nonzero.{nonzero-le}
use Rattle.pool.proofs.Turned.{turned-differ, turned-least, turned-counted}
use Rattle.pool.proofs.Wrote.{wrote-range}
use Rattle.pool.proofs.stretch.turn_all.Goals as goal

pub recounted_all-nonzero-requires : goal.recounted_all-nonzero-requires
recounted_all-nonzero-requires g c =
    let counted = c.requires.ready.counted in
    record {
      least = λ zero. omega (arith, turned-least c.requires.turned c.requires.may zero, counted);
      most = omega (arith, nonzero-le (words_of (g.S.WordStore.words c.args.store.now)) c.args.range.page, counted);
      few = omega (arith, c.requires.may.ordered, c.requires.may.index_in);
    }

pub returns-clause-wrote : goal.returns-clause-wrote
returns-clause-wrote g c =
    let wrote = c.write_all-operations.ensures in
    let after = c.recounted_all-nonzero.ensures in
    let turned = c.requires.turned in
    wrote-range c.args.range wrote.words (wrote.records (turned-differ turned)) wrote.grows (turned-counted turned c.requires.may wrote.words c.requires.ready.counted after.zeros after.others)
