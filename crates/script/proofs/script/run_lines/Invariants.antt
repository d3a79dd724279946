use Rattle.std.proofs.Common.{◌≡◌, ◌+◌, ◌≤◌, [], length}
use Rattle.std.specs.Option.{option_map_or}
use Rattle.std.specs.BTreeMap.{get}
use Rattle.std.specs.Ordering.{nat_cmp}
use Rattle.script.specs.Left.{most_bytes}
use Rattle.script.specs.Script.{first_bad, lines_in, world_at}
use Rattle.script.proofs.Runs.{IsUnderWay}
use Rattle.script.proofs.script.run_lines.Given as goal

-- the lines that are left have the numbers that follow
abbrev pub invariant-loop-left : goal.invariant-loop-left
invariant-loop-left g l =
    let start = world_at l.fn.world.spm.state (get nat_cmp l.fn.world.kept) in
    let world = world_at l.world.spm.state (get nat_cmp l.world.kept) in
    let left = option_map_or (λ (lines : _). lines_in lines.now) l.left [] in
    record {
      within : l.number + option_map_or (λ (lines : _). length lines.now + 1) l.left 0 ≤ most_bytes + 1;
      bad : first_bad 1 (lines_in l.script) ≡ first_bad (l.number + 1) left;
      text : IsUnderWay (g.W.Write.contents l.fn.writer.inner) (g.W.Write.contents l.writer.inner) l.text.items start (lines_in l.script) world left;
      unfailed : l.writer.failed ≡ l.fn.writer.failed;
    }

abbrev pub decreases-loop-left : goal.decreases-loop-left
decreases-loop-left g l = option_map_or (λ (lines : _). length lines.now + 1) l.left 0
