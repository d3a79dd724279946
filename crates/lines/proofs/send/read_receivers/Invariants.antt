use Rattle.std.proofs.Common.{◌≡◌, ◌+◌, ◌≤◌, [], length, drop}
use Rattle.std.specs.Option.{option_map_or}
use Rattle.lines.specs.Grammar.{parted_by, receiver_of}
use Rattle.lines.proofs.Parts.{Reads}
use Rattle.lines.proofs.send.read_receivers.Given as goal

abbrev pub invariant-loop-left : goal.invariant-loop-left
invariant-loop-left l = record {
  few : length l.receivers.items ≤ 8;
  reads : Reads receiver_of (parted_by 44 l.text) (length l.receivers.items) l.receivers.items;
  left : option_map_or (λ (parts : _). parted_by 44 parts.now) l.left [] ≡ drop (length l.receivers.items) (parted_by 44 l.text);
}

abbrev pub decreases-loop-left : goal.decreases-loop-left
decreases-loop-left l = option_map_or (λ (parts : _). length parts.now + 1) l.left 0
