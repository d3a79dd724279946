use Rattle.stage2.proofs.Names.{nat_tests, common_steps, arith}
use Rattle.stage2.proofs.Runs.Normal.{any-within}
use Rattle.stage2.proofs.parts.chunk_span.Goals as goal

pub returns-clause-within : goal.returns-clause-within
returns-clause-within c = λ x small touched. grind (arith, common_steps, nat_tests, any-within)
