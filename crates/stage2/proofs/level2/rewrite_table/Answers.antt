use Rattle.std.proofs.Common.{◌≡◌, ℕ, ◌+◌, ◌*◌, ◌/◌, Bool, true, false, ◌&&◌, eqb, is_some, None, arith, cond, not, refl, sym, ◌∙◌, ap, subst, inl, inr}
use Rattle.stage2.proofs.Names.{covers, View, Memory, pages_of, Redoes_in, planned, chunk_view, chunk_after, part_count, walked, nat_tests, common_steps}
use Rattle.base.proofs.Booleans.{both}
use Rattle.stage2.proofs.Editing.FourChunkEdits.{does-rewrite}
use Rattle.stage2.proofs.Editing.OneChunk.{is-table, kept}
use Rattle.stage2.proofs.Tree.Rows.{has-row}
use Rattle.stage2.proofs.Walkers.Disturbed.{stays-covered}
use Rattle.stage2.proofs.Walkers.Level3Rewrite.{PlansOnly, plans-runs, stays-made, clears-made, clears-filled}
use Rattle.stage2.proofs.Walkers.SeatedChunks.{level_3-seen, invalid-word, unheld-third}
use Rattle.stage2.proofs.Walkers.StepLists.{stays-filled}
use Rattle.stage2.proofs.Walkers.ZeroedTables.{stays-cleared}
use Rattle.stage2.proofs.level2.rewrite_table.Goals as goal

pub write_runs-requires : goal.write_runs-requires
write_runs-requires g c =
    let s = c.args.site.now in
    let e = c.args.edit.now in
    let old = g.M.TableMem.state c.args.memory.now in
    let can = c.requires.can in
    grind (arith, common_steps, nat_tests, kept s e old can.site c.requires.table c.requires.mixed, is-table s e old can.site c.requires.table can.turned)

pub returns-else-is_none : goal.returns-else-is_none
returns-else-is_none g c =
    let s = c.args.site.now in
    let e = c.args.edit.now in
    let chunk = e.chunk in
    let k = c.args.third in
    let runs = e.runs in
    let access = e.access in
    let site = c.requires.can.site in
    let table = c.requires.table in
    let x = g.M.TableMem.state c.args.memory.now in
    let y = g.M.TableMem.state c.write_runs.new.memory in
    let wrote = c.write_runs.ensures.writes in
    let maps : is_some access ≡ true = c.is_none.ensures ∙ ap not c.if-is_none.false in
    let room = c.write_runs.ensures.room in
    record {
      edits = does-rewrite site runs access k (pages_of y.memory) table wrote.words c.requires.mixed;
      in_step = λ seated free.
          stays-covered chunk runs e.access (chunk_view s e x) (λ n. refl)
          (elim seated [
            | inl hung ↦
                stays-made wrote.made (plans-runs chunk runs access) (level_3-seen site hung k table)
                (λ i small w. invalid-word site k i table small (grind (arith, common_steps, nat_tests, both (covers runs (512 * chunk + i)) (eqb ((512 * chunk + i) / 512) chunk) w)))
            | inr loose ↦ stays-filled wrote.made (unheld-third site loose k table)
          ]);
      room = omega (arith, kept s e x site table c.requires.mixed, room);
    }

-- ---- pages are unmapped: they are invalidated run by run

unmaps : (a : View) (b : Bool) (k : ℕ) → is_some a ≡ not b → b ≡ true → cond (is_some a) 0 k ≡ k
unmaps a b k e f = let none : is_some a ≡ false = e ∙ ap not f in rw none refl

pub invalidate_parts-requires : goal.invalidate_parts-requires
invalidate_parts-requires g c = grind (arith, common_steps, nat_tests, unmaps, kept, has-row)

pub returns-then-is_none : goal.returns-then-is_none
returns-then-is_none g c =
    let s = c.args.site.now in
    let e = c.args.edit.now in
    let layout = e.layout.now in
    let row = s.row in
    let chunk = e.chunk in
    let j = s.second in
    let k = c.args.third in
    let runs = e.runs in
    let site = c.requires.can.site in
    let table = c.requires.table in
    let x = g.M.TableMem.state c.args.memory.now in
    let y = g.M.TableMem.state c.write_runs.new.memory in
    let m = pages_of x.memory in
    let wrote = c.write_runs.ensures.writes in
    let which : ℕ → Bool = λ n. covers runs n && eqb (n / 512) chunk in
    let none : e.access ≡ None = (grind (arith, common_steps, nat_tests)) in
    let room = c.write_runs.ensures.room in
    record {
      edits = subst (λ (memory : Memory). Redoes_in layout row chunk j (chunk_after s e x) m (pages_of memory)) (sym c.invalidate_parts.ensures.memory)
          (does-rewrite site runs e.access k (pages_of y.memory) table wrote.words c.requires.mixed);
      in_step = λ seated free.
          stays-covered chunk runs e.access (chunk_view s e x) (λ n. ap (walked n) (sym none))
          (stays-cleared s.p c.requires.can.row
          (elim seated [
            | inl hung ↦
                clears-made wrote.made (subst (λ (a : View). PlansOnly chunk (planned runs e.access None) which a) none (plans-runs chunk runs e.access)) (level_3-seen site hung k table)
            | inr loose ↦ clears-filled wrote.made (unheld-third site loose k table)
          ]) c.invalidate_parts.ensures.settles);
      room = omega (arith, unmaps e.access c.is_none.result (part_count chunk runs) c.is_none.ensures c.if-is_none.true, kept s e x site table c.requires.mixed, room, c.invalidate_parts.ensures.room);
    }
