use Rattle.std.proofs.Common.{sym, ap, subst, ◌∙◌}
use Rattle.base.specs.Manifest.{is_partition}
use Rattle.rules.specs.Run.{answer, step, refusal}
use Rattle.spm.specs.Machine.{Machine, WalksAgree, MayNeedMemory}
use Rattle.spm.proofs.ConsistencyLemmas.{refused_answer, refused_step, refused_is, may_need}
use Rattle.spm.proofs.ClearedLemmas.{refused_clears}
use Rattle.spm.proofs.ShownLemmas.{same-shown}
use Rattle.spm.proofs.spm.Spm.serve.Goals as goal

pub returns-in-Err-Refused-clause-reply : goal.returns-in-Err-Refused-clause-reply
returns-in-Err-Refused-clause-reply g c =
    let s = c.self.inside.state in
    let call = c.args.call.now in
    let r = c.args.request in
    let known = ap (λ (m : Machine). is_partition m.state.manifest call.caller) c.self.view_is ∙ c.requires.known in
    c.error.ensures ∙ sym (refused_answer s call r known c.requires.request_decoded c.in-Err-Refused.status (rw c.in-Err-Refused.field-0-is at c.in-Err-Refused.ensures.stopped)) ∙ ap (λ (m : Machine). answer m.state call) c.self.view_is

pub returns-in-Err-Refused-clause-state : goal.returns-in-Err-Refused-clause-state
returns-in-Err-Refused-clause-state g c =
    let s = c.self.inside.state in
    let call = c.args.call.now in
    let r = c.args.request in
    let known = ap (λ (m : Machine). is_partition m.state.manifest call.caller) c.self.view_is ∙ c.requires.known in
    sym (refused_step s call r known c.requires.request_decoded c.in-Err-Refused.status (rw c.in-Err-Refused.field-0-is at c.in-Err-Refused.ensures.stopped)) ∙ ap (λ (m : Machine). step m.state call) c.self.view_is

pub returns-in-Err-Refused-clause-clears : goal.returns-in-Err-Refused-clause-clears
returns-in-Err-Refused-clause-clears g c =
    let s = c.self.inside.state in
    let call = c.args.call.now in
    let known = ap (λ (m : Machine). is_partition m.state.manifest call.caller) c.self.view_is ∙ c.requires.known in
    let machine : Machine = record { state = s; pool = c.self.inside.tables.pool } in
    let refuses = refused_is s call c.args.request known c.requires.request_decoded c.in-Err-Refused.status (rw c.in-Err-Refused.field-0-is at c.in-Err-Refused.ensures.stopped) in
    refused_clears c.args.self.now.state call machine c.in-Err-Refused.status (ap (λ (m : Machine). refusal m.state call) (sym c.self.view_is) ∙ refuses)
    (ap (λ (m : Machine). m.pool.operations) c.self.view_is ∙ c.requires.begun)

pub returns-in-Err-Refused-clause-moments : goal.returns-in-Err-Refused-clause-moments
returns-in-Err-Refused-clause-moments g c =
    let now = c.args.self.now in
    let machine : Machine = record { state = c.self.inside.state; pool = c.self.inside.tables.pool } in
    same-shown now machine (subst (λ (m : Machine). WalksAgree m.state m.pool) c.self.view_is c.self.invariant.agrees) c.requires.begun c.self.view_is

pub returns-in-Err-NoMemory-clause-memory_after_the_tests : goal.returns-in-Err-NoMemory-clause-memory_after_the_tests
returns-in-Err-NoMemory-clause-memory_after_the_tests g c =
    let s = c.self.inside.state in
    let call = c.args.call.now in
    let r = c.args.request in
    let known = ap (λ (m : Machine). is_partition m.state.manifest call.caller) c.self.view_is ∙ c.requires.known in
    let stopped = rw c.in-Err-NoMemory.field-0-is at c.in-Err-NoMemory.ensures.stopped in
    subst (λ (m : Machine). MayNeedMemory m.state call) c.self.view_is (may_need s call r known c.requires.request_decoded stopped.0 stopped.1)

pub returns-in-Err-NoMemory-clause-moments : goal.returns-in-Err-NoMemory-clause-moments
returns-in-Err-NoMemory-clause-moments g c =
    let now = c.args.self.now in
    let machine : Machine = record { state = c.self.inside.state; pool = c.self.inside.tables.pool } in
    same-shown now machine (subst (λ (m : Machine). WalksAgree m.state m.pool) c.self.view_is c.self.invariant.agrees) c.requires.begun c.self.view_is
