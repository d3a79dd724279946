use Rattle.stage2.proofs.Names.{pages_of, is_some, ap, arith}
use Rattle.stage2.proofs.Counting.Operations.{new-unmapped, new-all}
use Rattle.stage2.proofs.Editing.Gaps.{writes-gaps}
use Rattle.stage2.proofs.Editing.Level3Words.{writes-rest}
use Rattle.stage2.proofs.Walkers.SeatedChunks.{unheld-outside}
use Rattle.stage2.proofs.Walkers.StepLists.{stays-filled}
use Rattle.stage2.proofs.Walkers.ZeroedTables.{stays-after}
use Rattle.stage2.proofs.level3.fill_table.Goals as goal

-- ---- nothing was reached

pub returns-in-None-default-clause-words : goal.returns-in-None-default-clause-words
returns-in-None-default-clause-words g c =
    let e = c.args.edit.now in
    rw c.in-None-default.is-0 (writes-rest c.args.third e.chunk e.runs e.access (pages_of (g.M.TableMem.state c.args.memory.now).memory) (pages_of (g.M.TableMem.state c.turn_runs.new.memory).memory) (λ i small out. c.requires.empty i small) c.turn_runs.ensures.writes.words)

pub returns-in-None-default-clause-unseen : goal.returns-in-None-default-clause-unseen
returns-in-None-default-clause-unseen g c = λ layout row which answer loose. stays-filled c.turn_runs.ensures.writes.made loose

-- ---- the runs are not to be reached

pub write_gaps-requires-clause-room : goal.write_gaps-requires-clause-room
write_gaps-requires-clause-room g c =
    let e = c.args.edit.now in
    omega (arith, new-unmapped e.runs e.access c.args.before.now e.chunk c.in-Some-None.is-1 (ap (λ a. is_some a) c.in-Some-None.is-0), c.requires.room)

pub returns-in-Some-None-clause-words : goal.returns-in-Some-None-clause-words
returns-in-Some-None-clause-words g c =
    let e = c.args.edit.now in
    rw c.in-Some-None.is-1 (writes-gaps c.args.third e.chunk e.runs c.args.before.now (pages_of (g.M.TableMem.state c.args.memory.now).memory) (pages_of (g.M.TableMem.state c.write_gaps.new.memory).memory) (λ i small covered. c.requires.empty i small) c.write_gaps.ensures.writes.words)

pub returns-in-Some-None-clause-unseen : goal.returns-in-Some-None-clause-unseen
returns-in-Some-None-clause-unseen g c = λ layout row which answer loose. stays-filled c.write_gaps.ensures.writes.made loose

pub returns-in-Some-None-clause-room : goal.returns-in-Some-None-clause-room
returns-in-Some-None-clause-room g c =
    let e = c.args.edit.now in
    omega (arith, new-unmapped e.runs e.access c.args.before.now e.chunk c.in-Some-None.is-1 (ap (λ a. is_some a) c.in-Some-None.is-0), c.write_gaps.ensures.room)

-- ---- all are to be reached

pub turn_runs-requires-in-Some-Some-clause-room : goal.turn_runs-requires-in-Some-Some-clause-room
turn_runs-requires-in-Some-Some-clause-room g c =
    let e = c.args.edit.now in
    omega (arith, new-all e.runs e.access c.args.before.now e.chunk (ap (λ a. is_some a) c.in-Some-Some.is-1) (ap (λ a. is_some a) c.in-Some-Some.is-0), c.requires.room, e.pages, e.most)

pub write_gaps-requires-in-Some-Some-clause-room : goal.write_gaps-requires-in-Some-Some-clause-room
write_gaps-requires-in-Some-Some-clause-room g c =
    let e = c.args.edit.now in
    omega (arith, new-all e.runs e.access c.args.before.now e.chunk (ap (λ a. is_some a) c.in-Some-Some.is-1) (ap (λ a. is_some a) c.in-Some-Some.is-0), c.requires.room, c.turn_runs-in-Some-Some.ensures.room)

pub returns-in-Some-Some-clause-unseen : goal.returns-in-Some-Some-clause-unseen
returns-in-Some-Some-clause-unseen g c = λ layout row which answer loose.
    let first = c.turn_runs-in-Some-Some.ensures.writes in
    stays-after (stays-filled first.made loose) (stays-filled c.write_gaps-in-Some-Some.ensures.writes.made (unheld-outside layout loose first.words.others))

pub returns-in-Some-Some-clause-room : goal.returns-in-Some-Some-clause-room
returns-in-Some-Some-clause-room g c =
    let e = c.args.edit.now in
    let words = new-all e.runs e.access c.args.before.now e.chunk (ap (λ a. is_some a) c.in-Some-Some.is-1) (ap (λ a. is_some a) c.in-Some-Some.is-0) in
    omega (arith, words, c.turn_runs-in-Some-Some.ensures.room, c.write_gaps-in-Some-Some.ensures.room)
