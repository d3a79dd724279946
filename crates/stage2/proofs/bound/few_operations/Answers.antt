use Rattle.stage2.proofs.Names.{View, covers, pages_of, nonzero_in, answers_of, block_answer, next_page, pages_in, nat_tests, common_steps, ◌≡◌, ℕ, ◌+◌, ◌*◌, ◌/◌, ◌≤◌, false, is_some, length, Some, None, sym, ap, ◌∙◌, arith}
use Rattle.stage2.proofs.Counting.Bounds.{in-chunk}
use Rattle.stage2.proofs.Counting.FewOperations.{few-unmapped, few-mapped, few-either, few-hung, few-filled, entry-known, entry-plain, entry-words, entry-beside}
use Rattle.stage2.proofs.Counting.Growth.{IsRead, second-page, entry-mixed, filled-operations}
use Rattle.stage2.proofs.Counting.Pieces.{nonzero-most}
use Rattle.stage2.proofs.Editing.FourChunkEdits.{is-next}
use Rattle.stage2.proofs.bound.few_operations.Goals.{in-Some+then-is_some+then-pages-nonzero, in-Some+else-is_some, else-is_some-via-then-is_some+else-pages-nonzero, else-is_some-via-else-is_some, in-None+else-is_filled+else-is_some-2}
use Rattle.stage2.proofs.bound.few_operations.Goals as goal

nothing : (a : View) → is_some a ≡ false → a ≡ None
nothing a e = grind (arith, common_steps, nat_tests)

pub entry_at-entry-requires : goal.entry_at-entry-requires
entry_at-entry-requires g c =
    let e = c.args.edit.now in
    let chunk = c.in_ok-chunk.chunk in
    let at : c.of-gigabyte.result ≡ chunk / 512 = omega (arith, c.of-gigabyte.ensures, c.first.ensures.same) in
    let h : IsRead e.layout.now (pages_of (g.M.TableMem.state c.args.memory.now).memory) e.row c.second_at-second.result chunk = record { canonical = c.requires.canonical; inside = e.inside; below = c.in_ok-chunk.ensures.1; hangs = rw (← at) (sym c.second_at-second.ensures) } in
    let page = λ (j : ℕ) (is : c.second_at-second.result ≡ Some j). second-page h.canonical {g = chunk / 512} (omega (arith, c.in_ok-chunk.ensures.1)) e.row h.inside j (h.hangs ∙ is) in
    record {
      pages = h.canonical.orderly.pages;
      table = λ j is. (page j is).0;
      taken = λ j is. (page j is).1;
      known = entry-known _ _ h;
    }

pub overflow_sub-nonzero : goal.overflow_sub-nonzero
overflow_sub-nonzero g c = grind (arith, common_steps, nat_tests, nonzero-most)

pub returns-then-is_filled-clause-bound : goal.returns-then-is_filled-clause-bound
returns-then-is_filled-clause-bound g c =
    let e = c.args.edit.now in
    let m = pages_of (g.M.TableMem.state c.args.memory.now).memory in
    let runs = c.args.runs.now in
    let chunk = c.in_ok-chunk.chunk in
    let here = c.in_ok-chunk.ensures in
    let at : c.of-gigabyte.result ≡ chunk / 512 = omega (arith, c.of-gigabyte.ensures, c.first.ensures.same) in
    let h : IsRead e.layout.now m e.row c.second_at-second.result chunk = record { canonical = c.requires.canonical; inside = e.inside; below = here.1; hangs = rw (← at) (sym c.second_at-second.ensures) } in
    let none = ap next_page (sym c.entry_at-entry.ensures.same) ∙ sym c.table_of.ensures ∙ c.in-None.is in
    let three = filled-operations h runs e.access none (c.is_filled.ensures c.if-is_filled.true) in
    few-filled runs e.access (answers_of e.layout.now m.words e.row) chunk here.1 (in-chunk runs _ _ chunk c.bounds.ensures.within here.0 here.2) three

pub returns-clause-bound : goal.returns-clause-bound
returns-clause-bound g c =
    let e = c.args.edit.now in
    let m = pages_of (g.M.TableMem.state c.args.memory.now).memory in
    let runs = c.args.runs.now in
    let access = e.access in
    let chunk = c.in_ok-chunk.chunk in
    let here = c.in_ok-chunk.ensures in
    let at : c.of-gigabyte.result ≡ chunk / 512 = omega (arith, c.of-gigabyte.ensures, c.first.ensures.same) in
    let h : IsRead e.layout.now m e.row c.second_at-second.result chunk = record { canonical = c.requires.canonical; inside = e.inside; below = here.1; hangs = rw (← at) (sym c.second_at-second.ensures) } in
    let only = in-chunk runs _ _ chunk c.bounds.ensures.within here.0 here.2 in
    let before : ℕ → View = answers_of e.layout.now m.words e.row in
    let read = ap next_page (sym c.entry_at-entry.ensures.same) ∙ sym c.table_of.ensures in
    let mixed = entry-mixed _ _ h in
    let pages = c.count_pages-pages.ensures chunk in
    let enough : pages_in runs chunk + length runs ≤ length c.list.result.now + c.count_pages-pages.result = omega (arith, pages, ap length c.list.ensures.same) in
    elim c.match-table_of.branch [
      | in-Some+then-is_some+then-pages-nonzero w ↦
          let next = read ∙ w.in-Some.is in
          let words = entry-words h w.in-Some.third (is-next _ _ next) in
          let nonzero : w.nonzero-nonzero.result ≡ nonzero_in m.words w.in-Some.third = w.nonzero-nonzero.ensures ∙ ap (nonzero_in m.words) w.number.ensures in
          let most = few-either runs access before chunk here.1 only w.max-words.result (omega (arith, enough, w.max-words.ensures)) (mixed ∙ ap (λ o. is_some o) next) (sym w.is_some.ensures ∙ w.if-is_some.true) (omega (arith, words, nonzero, w.max-words.ensures)) in
          omega (arith, most, w.words-is)
      | in-Some+else-is_some w ↦
          let next = read ∙ w.in-Some.is in
          let was = mixed ∙ ap (λ o. is_some o) next in
          elim w.else-is_some.branch [
            | else-is_some-via-then-is_some+else-pages-nonzero v ↦
                let nonzero : w.nonzero-nonzero.result ≡ nonzero_in m.words w.in-Some.third = w.nonzero-nonzero.ensures ∙ ap (nonzero_in m.words) w.number.ensures in
                let beside = entry-beside h w.in-Some.third (is-next _ _ next) (λ i. covers runs (512 * chunk + i)) (omega (arith, v.if-pages-nonzero.false, pages, nonzero)) in
                omega (arith, few-mapped runs access before chunk here.1 only _ enough was (sym w.is_some.ensures ∙ v.if-is_some.true) beside, w.words-is)
            | else-is_some-via-else-is_some v ↦
                omega (arith, few-unmapped runs access before chunk here.1 only _ enough was (sym w.is_some.ensures ∙ v.if-is_some.false), w.words-is)
          ]
      | in-None+else-is_filled+else-is_some-2 w ↦
          let none = nothing _ (ap (λ o. is_some o) (ap block_answer (sym c.entry_at-entry.ensures.same) ∙ sym w.block_of.ensures) ∙ sym w.is_some-in-None.ensures ∙ w.if-is_some-2.false) in
          let most = few-hung runs access before chunk here.1 only _ enough (entry-plain h (read ∙ w.in-None.is) none) in
          omega (arith, most, w.words-is)
    ]
