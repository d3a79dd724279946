use Rattle.std.proofs.Common.{sym, ◌∙◌}
use Rattle.stage2.proofs.Runs.OwnRuns.{own-chunk}
use Rattle.stage2.proofs.site.ChunkEdit.new.Goals as goal

pub returns-clause-none : goal.returns-clause-none
returns-clause-none c = λ none. sym (own-chunk c.args.chunk c.args.runs.now c.chunk_runs.result c.chunk_runs.ensures).touches ∙ c.of_own.ensures.none none
