use Rattle.std.proofs.Common.{◌≡◌, take}
use Rattle.manifest.proofs.draft.to_partitions.Given as goal

abbrev pub invariant-loop-draft : goal.invariant-loop-draft
invariant-loop-draft l = l.partitions.items ≡ take l.draft-index l.drafts
