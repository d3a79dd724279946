use Rattle.std.proofs.Common.{rules, ◌≡◌, None, ◌∙◌}
use Rattle.std.specs.BTreeMap.{get}
use Rattle.std.specs.Ordering.{nat_cmp}
use Rattle.script.specs.Script.{world_at}
use Rattle.script.proofs.Runs.{at_last, broken_off, ends_at_line, line_done, part_written, ends_with_write, passed_line}
use Rattle.script.proofs.script.run_lines.Goals as goal

pub returns-in_err-run_line-clause-waits : goal.returns-in_err-run_line-clause-waits
returns-in_err-run_line-clause-waits g c =
    let inv = c.loop-left.invariant in
    let under = rw (c.in-Some.is, c.first_line.ensures.parts) at inv.text in
    let err = c.in_err-run_line.ensures in
    let numbered = rw (c.in-Some.is, c.first_line.ensures.parts) at inv.bad in
    ends_at_line _ _ _ _ _ _ _ _ _ _ _ _ (search rules) err.same err.faults numbered under

pub returns-in_err-write_if_long-clause-waits : goal.returns-in_err-write_if_long-clause-waits
returns-in_err-write_if_long-clause-waits g c =
    let inv = c.loop-left.invariant in
    let under = rw (c.in-Some.is, c.first_line.ensures.parts) at inv.text in
    let done = line_done _ _ _ _ _ _ _ _ _ _ under c.in_ok-run_line.ensures.ok in
    let err = c.in_err-write_if_long.ensures in
    let write = err.failed.0 in
    ends_with_write _ _ _ _ _ _ (search rules) (broken_off _ _ _ _ _ _ _ _ done err.beginning)

pub loop-left-preserved : goal.loop-left-preserved
loop-left-preserved g c =
    let inv = c.loop-left.invariant in
    let under = rw (c.in-Some.is, c.first_line.ensures.parts) at inv.text in
    let done = line_done _ _ _ _ _ _ _ _ _ _ under c.in_ok-run_line.ensures.ok in
    let bound = rw (c.in-Some.is) at inv.within in
    let numbered = rw (c.in-Some.is, c.first_line.ensures.parts) at inv.bad in
    record {
      within = search rules;
      bad = numbered ∙ passed_line _ _ _ _ _ _ _ c.in_ok-run_line.ensures.ok;
      text = part_written _ _ _ _ _ _ _ _ _ done c.in_ok-write_if_long.ensures.written;
      unfailed = search rules;
    }

pub returns-clause-waits : goal.returns-clause-waits
returns-clause-waits g c =
    let inv = c.loop-left.invariant in
    let none : c.loop-left.left ≡ None = search rules in
    (rw none at inv.bad, at_last _ _ _ _ (world_at c.loop-left.world.spm.state (get nat_cmp c.loop-left.world.kept)) _ (rw none at inv.text))
