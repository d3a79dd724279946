use Rattle.stage2.proofs.Names.{option_map_or, PageRun, in_run, covers, Pool, Invalidate, part_in, IsLogged, ◌≡◌, ℕ, ◌+◌, ◌/◌, ◌&&◌, eqb, take, List, None, Some, sym, ap, ◌∙◌, arith}
use Rattle.pool.proofs.FirstRuns.{take-all}
use Rattle.stage2.proofs.Runs.Parts.{parts-more, parts-same, sum-take}
use Rattle.stage2.proofs.Walkers.ZeroedTables.{settles-one, settles-more, settles-as}
use Rattle.stage2.proofs.level3.invalidate_parts.Goals as goal
use Rattle.stage2.proofs.level3.invalidate_parts.Goals.{in-Some, in_default}

pub loop-run-preserved : goal.loop-run-preserved
loop-run-preserved g c =
    let runs = c.args.runs.now in
    let i = c.loop-run.run-index in
    let run = c.run-item.result in
    let old = g.M.TableMem.state c.args.memory.now in
    let mid = g.M.TableMem.state c.loop-run.memory in
    let count : PageRun → ℕ = λ run. option_map_or (λ (part : PageRun). 1) (part_in c.args.chunk run) 0 in
    let inside = rw c.list-run-items.ensures.same at c.loop-run-test.true in
    let item = rw c.list-run-items.ensures.same at c.run-item.is in
    let more = sum-take count runs i run inside item in
    elim c.match-part_in.branch [
      | in-Some w ↦
          let part = w.in-Some.part in
          let new = g.M.TableMem.state w.invalidate.new.self in
          let is : part_in c.args.chunk run ≡ Some part = sym c.part_in.ensures ∙ w.in-Some.is in
          let here : count run ≡ 1 = ap (λ o. option_map_or (λ (part : PageRun). 1) o 0) is in
          let same : new.memory ≡ mid.memory = ap (λ (p : Pool). p.memory) w.invalidate.ensures.state in
          let logged : IsLogged (Invalidate c.args.p part) mid new = record { operations = ap (λ (p : Pool). p.operations) w.invalidate.ensures.state; made = ap (λ (p : Pool). p.made) w.invalidate.ensures.state } in
          rw w.memory-is (record {
            memory = same ∙ c.loop-run.invariant.memory;
            settles = settles-more c.args.p (λ n. covers (take i runs) n && eqb (n / 512) c.args.chunk) (in_run part) (λ n. covers (take (i + 1) runs) n && eqb (n / 512) c.args.chunk)
                old mid new c.loop-run.invariant.settles (settles-one c.args.p part mid new same logged) (λ n small. parts-more runs i c.args.chunk run part n inside item is);
            room = omega (arith, c.loop-run.invariant.room, w.invalidate.ensures.room, more, here);
          })
      | in_default w ↦
          let is : part_in c.args.chunk run ≡ None = sym c.part_in.ensures ∙ w.in_default.is in
          let here : count run ≡ 0 = ap (λ o. option_map_or (λ (part : PageRun). 1) o 0) is in
          rw w.memory-is (record {
            memory = c.loop-run.invariant.memory;
            settles = settles-as c.args.p (λ n. covers (take i runs) n && eqb (n / 512) c.args.chunk) (λ n. covers (take (i + 1) runs) n && eqb (n / 512) c.args.chunk)
                old mid c.loop-run.invariant.settles (λ n small. parts-same runs i c.args.chunk run n inside item is);
            room = omega (arith, c.loop-run.invariant.room, more, here);
          })
    ]

pub returns-clause-settles : goal.returns-clause-settles
returns-clause-settles g c =
    let runs = c.args.runs.now in
    let all : take c.loop-run.run-index runs ≡ runs = take-all runs c.loop-run.run-index (rw c.list-run-items.ensures.same at c.loop-run-test.false) (rw c.list-run-items.ensures.same at c.loop-run.auto.run-index-end) in
    settles-as c.args.p (λ n. covers (take c.loop-run.run-index runs) n && eqb (n / 512) c.args.chunk) (λ n. covers runs n && eqb (n / 512) c.args.chunk)
    (g.M.TableMem.state c.args.memory.now) (g.M.TableMem.state c.loop-run.memory) c.loop-run.invariant.settles (λ n small. ap (λ (rs : List PageRun). covers rs n && eqb (n / 512) c.args.chunk) (sym all))
