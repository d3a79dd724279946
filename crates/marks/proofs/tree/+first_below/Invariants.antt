use Rattle.std.proofs.Common.{◌*◌, ◌-◌, length}
use Rattle.marks.proofs.tree.+first_below.Given as goal

abbrev pub decreases-first_below : goal.decreases-first_below
decreases-first_below l = 64 * length l.words.now - l.bit
