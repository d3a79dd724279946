use Rattle.std.proofs.Common.{◌-◌, leb, length, rules, arith}
use Rattle.std.proofs.lemmas.Bool.{leb-false}
use Rattle.std.proofs.lemmas.List.Sorted.{IsPartitionPoint-from_clause, IsPartitionedBy-leb}
use Rattle.spans.specs.Spans.{Span, end_of}
use Rattle.spans.proofs.Ascending.{end_from-last, ends_ascend, ends_before}
use Rattle.spans.proofs.find.place_near_end.Goals as goal

pub returns-then-end_of-page-2-clause-place : goal.returns-then-end_of-page-2-clause-place
returns-then-end_of-page-2-clause-place c = record {
  inside = omega arith;
  below = search rules;
  above = λ d lt. omega (arith, c.if-end_of-page.false, c.end_of.ensures.same, end_from-last c.args.spans.now (length c.args.spans.now - 1) d (omega arith));
}

pub returns-else-page-end_of-2-clause-place : goal.returns-else-page-end_of-2-clause-place
returns-else-page-end_of-2-clause-place c =
    let point = IsPartitionPoint-from_clause (λ (s : Span). leb (end_of s.run) c.args.page) c.args.spans.now c.partition_point.result c.partition_point.ensures.partitioned (IsPartitionedBy-leb (λ (s : Span). end_of s.run) c.args.spans.now c.args.page (ends_ascend 0 c.args.spans.now c.requires)) (λ a r f k. search rules) in
    record {
      inside = c.partition_point.ensures.bound;
      below = ends_before c.args.spans.now c.partition_point.result c.args.page c.partition_point.ensures.bound point.0;
      above = λ d lt. leb-false _ _ (point.1 c.partition_point.result d (omega arith) lt);
    }
