use Rattle.std.proofs.Common.{sym, ◌∙◌}
use Rattle.stage2.proofs.Runs.ChunkCounts.{without-pages}
use Rattle.stage2.proofs.site.ChunkEdit.of_own.Goals as goal

pub returns-then-pieces-eq0-clause-none : goal.returns-then-pieces-eq0-clause-none
returns-then-pieces-eq0-clause-none c = λ none. without-pages c.args.runs.now c.args.chunk (sym c.count_pieces-pieces.ensures.pages ∙ c.if-pieces-eq0.true)
