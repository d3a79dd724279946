-- there are as many numbers as at first
use Rattle.std.proofs.Common.{◌≡◌, length}
use Rattle.table_tests.proofs.numbers.the_lowest_number_is_taken.Given as goal

abbrev pub invariant-loop-n : goal.invariant-loop-n
invariant-loop-n g l = length l.marks ≡ 1043

abbrev pub invariant-loop-given : goal.invariant-loop-given
invariant-loop-given g l = length l.marks ≡ 1043
