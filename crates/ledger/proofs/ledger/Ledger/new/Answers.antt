use Rattle.std.proofs.Common.{refl}
use Rattle.ledger.proofs.Donations.{says-left, left-none}
use Rattle.ledger.proofs.ledger.Ledger.new.Goals as goal

pub invariant_of-result : goal.invariant_of-result
invariant_of-result c =
    rw (c.new.ensures.items, c.new-2.ensures.spans)
    (record { gifts = says-left c.args.manifest c.in_ok-given.given.spans; handles = λ n. refl; separate = tt; named = tt })

pub returns-clause-donations : goal.returns-clause-donations
returns-clause-donations c = left-none c.args.manifest c.in_ok-given.given.spans c.in_ok-given.ensures
