use Rattle.std.proofs.Common.{◌≡◌, ◌+◌, ◌-◌, ◌<◌, ◌≤◌, length}
use Rattle.spans.specs.Blocks.{AreParts}
use Rattle.spans.proofs.Pushed.{AreDealing}
use Rattle.spans.proofs.blocks.Blocks.deal.Given as goal

abbrev pub invariant-loop-done : goal.invariant-loop-done
invariant-loop-done l = record {
  dealing : AreDealing l.spans l.done l.parts l.place l.at l.fn.self.list l.self.list;
  done : l.done ≤ length l.spans;
  parts : l.done < length l.spans → AreParts (length l.spans - l.done) l.parts;
  none : length l.spans ≤ l.done → l.parts ≡ 0;
  spare : l.self.spare + l.initial.parts ≡ l.fn.self.spare + l.parts;
  enough : l.initial.parts ≤ l.fn.self.spare;
}

abbrev pub decreases-loop-done : goal.decreases-loop-done
decreases-loop-done l = length l.spans - l.done
