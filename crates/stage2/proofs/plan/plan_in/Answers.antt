use Rattle.stage2.proofs.Names.{nat_tests, common_steps, View, pages_of, Layout, Slot, Next, answers_at, answers_of, IsSpelled, table_operations, ◌≡◌, ◌≤◌, ℕ, ◌+◌, ◌*◌, ◌/◌, cond, Some, refl, sym, ap, ◌∙◌, arith}
use Rattle.stage2.proofs.Editing.ChunkByChunk.{bit}
use Rattle.stage2.proofs.Editing.MadeEdit.{touches-made}
use Rattle.stage2.proofs.Counting.Growth.{IsRead, grows-entry, second-page, entry-view, view-same, view-mixed, view-spelled, view-taken}
use Rattle.stage2.proofs.Counting.Operations.{chunk-same}
use Rattle.stage2.proofs.Counting.FewOperations.{entry-known}
use Rattle.stage2.proofs.Editing.TurnedRuns.{runs-turned}
use Rattle.stage2.proofs.plan.plan_in.Goals as goal

pub entry_at-entry-requires : goal.entry_at-entry-requires
entry_at-entry-requires g c =
    let pool = g.M.TableMem.state c.args.memory.now in
    let h : IsRead c.args.row.now.layout.now (pages_of pool.memory) c.args.row.now.row c.args.second.now c.args.edit.now.chunk = record { canonical = c.requires.canonical; inside = c.args.row.now.inside; below = c.requires.in_range; hangs = c.requires.table } in
    let page = λ (j : ℕ) (e : c.args.second.now ≡ Some j). second-page h.canonical {g = c.args.edit.now.chunk / 512} (omega (arith, c.requires.in_range)) c.args.row.now.row h.inside j (h.hangs ∙ e) in
    record {
      pages = h.canonical.orderly.pages;
      table = λ j e. (page j e).0;
      taken = λ j e. (page j e).1;
      known = entry-known _ _ h;
    }

pub plan_chunk-requires-clause-table : goal.plan_chunk-requires-clause-table
plan_chunk-requires-clause-table g c = λ k next.
    let e = c.args.edit.now in
    let layout = c.args.row.now.layout.now in
    let pool = g.M.TableMem.state c.args.memory.now in
    let m = pages_of pool.memory in
    let h : IsRead layout m c.args.row.now.row c.args.second.now e.chunk = record { canonical = c.requires.canonical; inside = c.args.row.now.inside; below = c.requires.in_range; hangs = c.requires.table } in
    let read = sym c.entry_at-entry.ensures.same ∙ next in
    let spelled : IsSpelled e k pool = λ n there. rw c.requires.layout (view-spelled h k read n there) in
    record {
      inside = let third = c.entry_at-entry.ensures.inside k next in omega (arith, third, c.requires.canonical.orderly.pages);
      taken = view-taken h k read;
      spelled = spelled;
      turned = runs-turned e k pool (answers_of layout m.words c.args.row.now.row) spelled
          (λ n there. sym (entry-view _ _ h n there) ∙ ap (λ (s : Slot). answers_at layout m.words s n) read ∙ ap (λ (l : Layout). answers_at l m.words (Next k) n) (sym c.requires.layout))
          c.requires.turned;
    }

pub plan_chunk-requires-clause-mixed : goal.plan_chunk-requires-clause-mixed
plan_chunk-requires-clause-mixed g c =
    let h : IsRead c.args.row.now.layout.now (pages_of (g.M.TableMem.state c.args.memory.now).memory) c.args.row.now.row c.args.second.now c.args.edit.now.chunk = record { canonical = c.requires.canonical; inside = c.args.row.now.inside; below = c.requires.in_range; hangs = c.requires.table } in
    rw (c.requires.layout, c.entry_at-entry.ensures.same) (view-mixed h)

pub returns : goal.returns
returns g c =
    let e = c.args.edit.now in
    let chunk = e.chunk in
    let layout = c.args.row.now.layout.now in
    let m = pages_of (g.M.TableMem.state c.args.memory.now).memory in
    let h : IsRead layout m c.args.row.now.row c.args.second.now chunk = record { canonical = c.requires.canonical; inside = c.args.row.now.inside; below = c.requires.in_range; hangs = c.requires.table } in
    let read : ℕ → View = answers_at layout m.words c.entry_at-entry.result in
    let grows = grows-entry h e.runs e.access in
    let same = chunk-same e.runs e.runs e.access (answers_of layout m.words c.args.row.now.row) read chunk (λ n at. refl) refl
    (λ i small. ap (λ (s : Slot). answers_at layout m.words s (512 * chunk + i)) c.entry_at-entry.ensures.same ∙ view-same h i small)
    refl in
    let all : 3 + table_operations e.runs e.access read chunk ≤ c.plan_chunk.result.operations = rw c.requires.layout at c.plan_chunk.ensures.operations in
    record {
      tables = grind (arith, common_steps, nat_tests, bit);
      operations = omega (arith, all, ap (λ t. cond t (3 + table_operations e.runs e.access read chunk) 0) (sym (touches-made e)) ∙ same);
      most = c.plan_chunk.ensures.most;
    }
