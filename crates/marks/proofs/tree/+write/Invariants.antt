use Rattle.marks.proofs.tree.+write.Given as goal

abbrev pub decreases-write : goal.decreases-write
decreases-write l = l.bit
