use Rattle.stage2.proofs.Names.{View, pages_of, table_word_of, answers, edited, EditsGigabyte, ◌≡◌, ◌+◌, not, None, common_steps, sym, ap, subst, ◌∙◌, arith}
use Rattle.stage2.proofs.Editing.Gigabyte.{is-none, finish-none}
use Rattle.stage2.proofs.Editing.TabledGigabyte.{tabled-can, tabled-page, tabled-left, can-unlink, kept, emptied}
use Rattle.stage2.proofs.Editing.UntabledGigabyte.{untabled-free, untabled-can, untabled-left, untabled-edited}
use Rattle.stage2.proofs.Walkers.ZeroedTables.{stays-none}
use Rattle.stage2.proofs.level1.edit_gigabyte.Goals as goal
use Rattle.stage2.proofs.level1.edit_gigabyte.Goals.{in-Some, in-None+else-is_none}

pub take_page-second-requires : goal.take_page-second-requires
take_page-second-requires g c = record { free = untabled-free c.requires (sym c.find_table-found.ensures ∙ c.in-None.is) (c.is_none.ensures ∙ ap not c.if-is_none.false) }

pub edit_chunks-requires : goal.edit_chunks-requires
edit_chunks-requires g c = elim c.match-found.branch [
  | in-Some w ↦ rw (w.second-is, w.memory-is) (tabled-can c.requires (sym c.find_table-found.ensures ∙ w.in-Some.is))
  | in-None+else-is_none w ↦
      let taken = w.take_page-second in
      rw (w.second-is, w.memory-is)
      (untabled-can c.requires (sym c.find_table-found.ensures ∙ w.in-None.is) (w.is_none.ensures ∙ ap not w.if-is_none.false) (g.met.M.TableMem.whole c.args.memory.now) (g.met.M.TableMem.free_is_zero c.args.memory.now taken.result)
      taken.ensures.lowest taken.ensures.state taken.ensures.room)
]

-- ---- no table hangs, and none is asked for

pub returns-then-is_none : goal.returns-then-is_none
returns-then-is_none g c =
    let e = c.args.edit.now in
    let m = pages_of (g.M.TableMem.state c.args.memory.now).memory in
    let none : e.access ≡ None = is-none e.access (c.is_none.ensures ∙ ap not c.if-is_none.true) in
    record {
      edits = subst (λ (a : View). EditsGigabyte e.layout.now e.row c.args.gigabyte (edited c.args.runs.now a (answers e.layout.now m.words e.row)) m m) (sym none)
          (finish-none e.layout.now e.row c.args.gigabyte c.args.runs.now m c.requires.canonical e.inside (sym c.find_table-found.ensures ∙ c.in-None.is));
      in_step = λ free. stays-none e.layout.now e.row _ _ (g.M.TableMem.state c.args.memory.now);
      room = omega arith;
    }

-- ---- one was taken, and is linked

pub put_word-requires-clause-room : goal.put_word-requires-clause-room
put_word-requires-clause-room g c = elim c.match-found.branch [
  | in-Some w ↦ absurd (grind (arith, common_steps, w.found-is, c.is_none-2.ensures, c.if-is_none-2.true))
  | in-None+else-is_none w ↦
      let taken = w.take_page-second in
      untabled-left c.requires (sym c.find_table-found.ensures ∙ w.in-None.is) (w.is_none.ensures ∙ ap not w.if-is_none.false) (g.met.M.TableMem.whole c.args.memory.now) (g.met.M.TableMem.free_is_zero c.args.memory.now taken.result)
      taken.ensures.lowest taken.ensures.state taken.ensures.room (rw (w.second-is, w.memory-is) at c.edit_chunks.ensures)
]

pub returns-then-is_none-2 : goal.returns-then-is_none-2
returns-then-is_none-2 g c = elim c.match-found.branch [
  | in-Some w ↦ absurd (grind (arith, common_steps, w.found-is, c.is_none-2.ensures, c.if-is_none-2.true))
  | in-None+else-is_none w ↦
      let taken = w.take_page-second in
      let word : c.table_word-link.result ≡ table_word_of (c.args.edit.now.layout.now.base + taken.result) = c.table_word-link.ensures.value ∙ ap table_word_of (c.address.ensures ∙ ap (λ j. c.args.edit.now.layout.now.base + j) w.second-is) in
      untabled-edited c.requires (sym c.find_table-found.ensures ∙ w.in-None.is) (w.is_none.ensures ∙ ap not w.if-is_none.false) (g.met.M.TableMem.whole c.args.memory.now) (g.met.M.TableMem.free_is_zero c.args.memory.now taken.result)
      taken.ensures.lowest taken.ensures.state taken.ensures.room (rw (w.second-is, w.memory-is) at c.edit_chunks.ensures)
      (rw (c.root.ensures, c.index.ensures.same, word) at c.put_word.ensures.pages) (rw (c.root.ensures, c.index.ensures.same, word) at c.put_word.ensures.logged) c.put_word.ensures.room
]

-- ---- one hung before

pub is_empty-requires : goal.is_empty-requires
is_empty-requires g c = elim c.match-found.branch [
  | in-Some w ↦ rw w.second-is (tabled-page c.requires (sym c.find_table-found.ensures ∙ w.in-Some.is) (rw (w.second-is, w.memory-is) at c.edit_chunks.ensures))
  | in-None+else-is_none w ↦ absurd (grind (arith, common_steps, w.found-is, w.in-None.is, c.is_none-2.ensures, c.if-is_none-2.false))
]

pub unlink-requires-clause-can : goal.unlink-requires-clause-can
unlink-requires-clause-can g c = elim c.match-found.branch [
  | in-Some w ↦ rw w.second-is (can-unlink c.requires (sym c.find_table-found.ensures ∙ w.in-Some.is) (rw (w.second-is, w.memory-is) at c.edit_chunks.ensures) (rw w.second-is at (c.is_empty.ensures.yes c.if-is_empty.true)))
  | in-None+else-is_none w ↦ absurd (grind (arith, common_steps, w.found-is, w.in-None.is, c.is_none-2.ensures, c.if-is_none-2.false))
]

pub unlink-requires-clause-room : goal.unlink-requires-clause-room
unlink-requires-clause-room g c = elim c.match-found.branch [
  | in-Some w ↦ tabled-left c.requires (sym c.find_table-found.ensures ∙ w.in-Some.is) (rw (w.second-is, w.memory-is) at c.edit_chunks.ensures)
  | in-None+else-is_none w ↦ absurd (grind (arith, common_steps, w.found-is, w.in-None.is, c.is_none-2.ensures, c.if-is_none-2.false))
]

pub returns-then-is_empty : goal.returns-then-is_empty
returns-then-is_empty g c = elim c.match-found.branch [
  | in-Some w ↦
      emptied c.requires (sym c.find_table-found.ensures ∙ w.in-Some.is) (rw (w.second-is, w.memory-is) at c.edit_chunks.ensures) (rw w.second-is at (c.is_empty.ensures.yes c.if-is_empty.true))
      (rw w.second-is at c.unlink.ensures.pages) c.unlink.ensures.in_step c.unlink.ensures.room
  | in-None+else-is_none w ↦ absurd (grind (arith, common_steps, w.found-is, w.in-None.is, c.is_none-2.ensures, c.if-is_none-2.false))
]

pub returns-else-is_empty : goal.returns-else-is_empty
returns-else-is_empty g c = elim c.match-found.branch [
  | in-Some w ↦ kept c.requires (sym c.find_table-found.ensures ∙ w.in-Some.is) (rw (w.second-is, w.memory-is) at c.edit_chunks.ensures) (rw w.second-is at (c.is_empty.ensures.no c.if-is_empty.false))
  | in-None+else-is_none w ↦ absurd (grind (arith, common_steps, w.found-is, w.in-None.is, c.is_none-2.ensures, c.if-is_none-2.false))
]
