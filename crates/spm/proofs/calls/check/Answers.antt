use Rattle.spm.proofs.calls.check.Goals as goal

pub returns-in-Features-clause-stopped : goal.returns-in-Features-clause-stopped
returns-in-Features-clause-stopped c = rw c.in-Features.is (c.features.ensures.stopped c.args.state.now)

pub returns-in-IdGet-clause-granted : goal.returns-in-IdGet-clause-granted
returns-in-IdGet-clause-granted c = rw c.in-IdGet.is (c.id_get.ensures c.args.state.now)
