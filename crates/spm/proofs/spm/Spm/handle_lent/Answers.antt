use Rattle.std.proofs.Common.{sym, ap, subst, ◌∙◌}
use Rattle.base.specs.Manifest.{is_partition}
use Rattle.base.specs.State.{State}
use Rattle.wire.specs.Requests.{request_of}
use Rattle.rules.specs.Call.{CallWords}
use Rattle.pool.specs.Pool.{Pool}
use Rattle.spm.specs.Machine.{Machine, WalksAgree, unchanged}
use Rattle.spm.proofs.ShownLemmas.{begun-shown}
use Rattle.spm.proofs.ClearedLemmas.{stranger_clears, unnamed_clears}
use Rattle.spm.proofs.spm.Spm.handle_lent.Goals as goal

pub returns-then-not-is_partition-clause-moments : goal.returns-then-not-is_partition-clause-moments
returns-then-not-is_partition-clause-moments g c =
    let now = c.args.self.now in
    let machine : Pool → Machine = λ pool. record { state = c.self.inside.state; pool = pool } in
    let agrees = subst (λ (m : Machine). WalksAgree m.state m.pool) c.self.view_is c.self.invariant.agrees in
    begun-shown now (machine c.begin.new.self.pool) agrees (ap machine c.begin.ensures.pool ∙ ap unchanged c.self.view_is)

pub returns-in-Err-clause-moments : goal.returns-in-Err-clause-moments
returns-in-Err-clause-moments g c =
    let now = c.args.self.now in
    let machine : Pool → Machine = λ pool. record { state = c.self.inside.state; pool = pool } in
    let agrees = subst (λ (m : Machine). WalksAgree m.state m.pool) c.self.view_is c.self.invariant.agrees in
    begun-shown now (machine c.begin.new.self.pool) agrees (ap machine c.begin.ensures.pool ∙ ap unchanged c.self.view_is)

pub returns-then-not-is_partition-clause-clears : goal.returns-then-not-is_partition-clause-clears
returns-then-not-is_partition-clause-clears g c =
    let now = c.args.self.now in
    let call = c.args.call.now in
    let known = ap (λ (m : Machine). m.state) (sym c.self.view_is) in
    stranger_clears now.state call (record { state = c.self.inside.state; pool = c.begin.new.self.pool })
    (ap (λ (s : State). is_partition s.manifest call.caller) known ∙ ap (λ p. is_partition c.self.inside.state.manifest p) (sym c.partition.ensures.same) ∙ sym c.is_partition.ensures ∙ c.if-not-is_partition.true)
    (ap (λ (p : Pool). p.operations) c.begin.ensures.pool)

pub returns-in-Err-clause-clears : goal.returns-in-Err-clause-clears
returns-in-Err-clause-clears g c =
    let now = c.args.self.now in
    let call = c.args.call.now in
    let known = ap (λ (m : Machine). m.state) (sym c.self.view_is) in
    unnamed_clears now.state call (record { state = c.self.inside.state; pool = c.begin.new.self.pool })
    (ap (λ (s : State). is_partition s.manifest call.caller) known ∙ ap (λ p. is_partition c.self.inside.state.manifest p) (sym c.partition.ensures.same) ∙ sym c.is_partition.ensures ∙ c.if-not-is_partition.false)
    (ap (λ (w : CallWords). request_of w.regs) (sym c.call.view_is) ∙ c.in-Err.ensures.unknown.0)
    (ap (λ (p : Pool). p.operations) c.begin.ensures.pool)
