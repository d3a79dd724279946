use Rattle.std.proofs.Common.{rules, ◌≡◌, ◌≢◌, Err}
use Rattle.script.specs.declared.fault.RunFault.TheVariants.{Write}
use Rattle.script.proofs.Outcomes.{finished, unfinished, unread, told, ended_in_memory, ended_in_write}
use Rattle.script.proofs.script.run_script.Goals as goal

pub returns-in_err-script-clause-left : goal.returns-in_err-script-clause-left
returns-in_err-script-clause-left g c = unread _ _ _ _ _ (search rules) c.in_err-script.ensures.faults

pub returns-in_err-world-clause-left : goal.returns-in_err-world-clause-left
returns-in_err-world-clause-left g c =
    (c.in_ok-script.script.items, c.in_ok-script.ensures.whole, ended_in_memory _ _ _ _ (search rules))

pub returns-in_err-finish-clause-left : goal.returns-in_err-finish-clause-left
returns-in_err-finish-clause-left g c =
    let write : c.run_lines-outcome.result ≢ Err Write = search rules in
    let waits = rw (c.in_ok-world.ensures, c.deref.ensures.value) at c.run_lines-outcome.ensures.waits in (
      c.in_ok-script.script.items,
      c.in_ok-script.ensures.whole,
      ended_in_write _ _ _ _ _ (search (rules, c.from_residual-in_err-finish.ensures, c.in_err-finish.ensures, c.in_err-finish.ensures.failed)) (unfinished _ _ _ _ _ _ _ write waits c.in_err-finish.ensures.beginning),
    )

pub returns-in_err-finish-clause-reader : goal.returns-in_err-finish-clause-reader
returns-in_err-finish-clause-reader g c =
    let write : c.from_residual-in_err-finish.result ≡ Err Write = search (rules, c.from_residual-in_err-finish.ensures, c.in_err-finish.ensures, c.in_err-finish.ensures.failed) in
    rw write c.in_ok-script.ensures.failed

pub returns-in_err-finish-clause-writer : goal.returns-in_err-finish-clause-writer
returns-in_err-finish-clause-writer g c =
    let write : c.from_residual-in_err-finish.result ≡ Err Write = search (rules, c.from_residual-in_err-finish.ensures, c.in_err-finish.ensures, c.in_err-finish.ensures.failed) in
    rw write c.in_err-finish.ensures.failed.1

pub returns-clause-left : goal.returns-clause-left
returns-clause-left g c =
    let write : c.run_lines-outcome.result ≢ Err Write = search rules in
    let waits = rw (c.in_ok-world.ensures, c.deref.ensures.value) at c.run_lines-outcome.ensures.waits in
    (c.in_ok-script.script.items, c.in_ok-script.ensures.whole, finished _ _ _ _ _ _ _ c.in_ok-script.ensures.short write waits c.in_ok-finish.ensures.written)

pub returns-clause-reader : goal.returns-clause-reader
returns-clause-reader g c = told _ _ _ _ _ c.run_lines-outcome.result _ _ c.run_lines-outcome.ensures.waits c.in_ok-script.ensures.failed
