use Rattle.std.proofs.Common.{List, sym, subst}
use Rattle.base.specs.Transactions.{Donation, Live}
use Rattle.audit.specs.Laws.{AreOfReached}
use Rattle.audit.proofs.Quotas.{boot-reached}
use Rattle.audit_tests.proofs.texts.audit_boot.Goals as goal

pub audit_text-requires-clause-reached : goal.audit_text-requires-clause-reached
audit_text-requires-clause-reached c =
    let m = c.args.manifest.now in
    subst (λ (x : List Live). AreOfReached m c.args.ledger.now.donations x) (sym c.requires.live)
    (subst (λ (x : List Donation). AreOfReached m x _) (sym c.requires.donations) (boot-reached m c.pool.ensures.valid))
