use Rattle.std.proofs.Common.{◌≡◌, ◌+◌, ◌++◌, [], length}
use Rattle.std.specs.Option.{option_map_or}
use Rattle.lines.specs.Lines.{texts}
use Rattle.lines.specs.Grammar.{parted_by}
use Rattle.lines.proofs.line.words_of.Given as goal

-- the words that were read, and those that are left
abbrev pub invariant-loop-left : goal.invariant-loop-left
invariant-loop-left l =
    texts l.words.items ++ option_map_or (λ (parts : _). parted_by 32 parts.now) l.left [] ≡ parted_by 32 l.bytes

abbrev pub decreases-loop-left : goal.decreases-loop-left
decreases-loop-left l = option_map_or (λ (parts : _). length parts.now + 1) l.left 0
