use Rattle.std.proofs.Common.{sym, arith}
use Rattle.std.proofs.lemmas.Grind.{common_steps}
use Rattle.base.specs.State.{sees}
use Rattle.stage2.specs.Tables.{view_of}
use Rattle.audit.proofs.SameTexts.{tables-same}
use Rattle.script.proofs.Worlds.{tables_show}
use Rattle.script.proofs.world.World.tables.Goals as goal

pub returns : goal.returns
returns g c =
    let s = c.args.self.now.spm.state in
    let t = c.tables.result.now in
    rw (sym (tables-same c.args.id (sees s c.args.id) (view_of t c.args.id) (tables_show s t c.args.self.now.spm.pool c.tables.ensures.layout c.tables.ensures.pool c.tables.ensures.agrees c.args.id)))
    c.append_tables.ensures
