use Rattle.stage2.proofs.Names.{nat_tests, common_steps, arith, sym, ◌∙◌}
use Rattle.stage2.proofs.Editing.FourChunkEdits.{second-inside, second-taken, entry-known}
use Rattle.stage2.proofs.Editing.OneChunk.{is-table, told-alike, told-mixed, read-before}
use Rattle.stage2.proofs.level2.edit_chunk.Goals as goal

pub read_chunk-entry-requires : goal.read_chunk-entry-requires
read_chunk-entry-requires g c = grind (arith, common_steps, nat_tests, second-inside c.requires.site, second-taken c.requires.site, entry-known c.requires.site, c.requires.site.orderly.pages)

pub becomes_alike-requires : goal.becomes_alike-requires
becomes_alike-requires g c = λ k next. is-table c.args.site.now c.args.edit.now (g.M.TableMem.state c.args.memory.now) c.requires.site (sym c.read_chunk-entry.ensures.same ∙ next) c.requires.turned

-- ---- all pages are reached alike then

pub drop_table-requires-clause-alike : goal.drop_table-requires-clause-alike
drop_table-requires-clause-alike g c = told-alike c.args.site.now c.args.edit.now (g.M.TableMem.state c.args.memory.now) c.requires.site c.read_chunk-entry.ensures.same c.becomes_alike.ensures c.if-becomes_alike.true

pub set_block-requires-clause-alike : goal.set_block-requires-clause-alike
set_block-requires-clause-alike g c = told-alike c.args.site.now c.args.edit.now (g.M.TableMem.state c.args.memory.now) c.requires.site c.read_chunk-entry.ensures.same c.becomes_alike.ensures c.if-becomes_alike.true

-- ---- they are not

pub rewrite_table-requires-clause-mixed : goal.rewrite_table-requires-clause-mixed
rewrite_table-requires-clause-mixed g c = told-mixed c.args.site.now c.args.edit.now (g.M.TableMem.state c.args.memory.now) c.requires.site c.read_chunk-entry.ensures.same c.becomes_alike.ensures c.if-becomes_alike.false

pub hang_table-requires-clause-mixed : goal.hang_table-requires-clause-mixed
hang_table-requires-clause-mixed g c = told-mixed c.args.site.now c.args.edit.now (g.M.TableMem.state c.args.memory.now) c.requires.site c.read_chunk-entry.ensures.same c.becomes_alike.ensures c.if-becomes_alike.false

pub hang_table-requires-clause-before : goal.hang_table-requires-clause-before
hang_table-requires-clause-before g c = grind (arith, common_steps, nat_tests, read-before)
