use Rattle.std.proofs.Common.{◌≡◌, ◌+◌, ◌≤◌, vec_len, vec_capacity}
use Rattle.spans.proofs.blocks.Blocks.ready.Given as goal

abbrev pub invariant-loop : goal.invariant-loop
invariant-loop l = record {
  list : l.self-inside.list.items ≡ l.fn.self.list;
  spare : vec_len l.self-inside.spare ≡ l.had + l.counter;
  in_list : vec_len l.self-inside.list + (l.had + l.more) ≤ vec_capacity l.self-inside.list;
  in_spare : vec_len l.self-inside.list + (l.had + l.more) ≤ vec_capacity l.self-inside.spare;
}
