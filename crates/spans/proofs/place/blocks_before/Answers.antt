use Rattle.std.proofs.Common.{◌≡◌, ◌∙◌, ◌-◌, ◌<◌, [], List, length, ltb, true, false, ◌≤◌, sym, subst, ap, rules, arith}
use Rattle.std.proofs.lemmas.Bool.{ltb-true, ltb-false}
use Rattle.std.proofs.lemmas.List.Sorted.{IsPartitionPoint-from_clause, IsPartitionedBy-ltb}
use Rattle.std.specs.List.Sorted.{IsNonDecreasingBy, IsPartitionPoint}
use Rattle.spans.specs.Spans.{Span}
use Rattle.spans.specs.Search.{begins_at}
use Rattle.spans.specs.Blocks.{BlocksView}
use Rattle.spans.proofs.Stacked.{above_page, begins_upward}
use Rattle.spans.proofs.place.blocks_before.Goals as goal

pub returns-then-begin_at-page : goal.returns-then-begin_at-page
returns-then-begin_at-page c =
    let bs = c.args.blocks.now.list in
    record {
      inside = omega (arith, c.len-all.ensures);
      before = λ i d lt.
          let last : c.len-all.result - 1 < length bs = omega (arith, c.len-all.ensures, c.if-all-gt0.true) in
          let up = begins_upward 0 i (c.len-all.result - 1) bs d [] c.requires.filled c.requires.ascending (omega arith) last in
          omega (arith, up, c.begin_at.ensures.same, c.if-begin_at-page.true);
      behind = above_page 0 c.args.page c.len-all.result bs c.requires.filled c.requires.ascending (λ d lt. absurd (omega (arith, lt, c.len-all.ensures)));
    }

pub returns : goal.returns
returns c =
    let bs = c.args.blocks.now.list in
    let page = c.args.page in
    let ss = c.deref.result.now in
    let is : ss ≡ bs = c.deref.ensures.value ∙ ap (λ (v : BlocksView). v.list) c.blocks-2.view_is in
    let upward : IsNonDecreasingBy begins_at ss = subst (IsNonDecreasingBy begins_at) (sym is) (λ i j d le lt. begins_upward 0 i j bs d d c.requires.filled c.requires.ascending le lt) in
    let found = IsPartitionPoint-from_clause (λ (b : List Span). ltb (begins_at b) page) ss c.partition_point.result c.partition_point.ensures.partitioned (IsPartitionedBy-ltb begins_at ss page upward) (λ a r f k. search rules) in
    let point : IsPartitionPoint (λ (b : List Span). ltb (begins_at b) page ≡ true) (λ (b : List Span). ltb (begins_at b) page ≡ false) bs c.partition_point.result = subst (λ (l : List (List Span)). IsPartitionPoint (λ (b : List Span). ltb (begins_at b) page ≡ true) (λ (b : List Span). ltb (begins_at b) page ≡ false) l c.partition_point.result) is found in
    let inside : c.partition_point.result ≤ length bs = omega (arith, c.partition_point.ensures.bound, ap length is) in
    record {
      inside = inside;
      before = λ i d lt. ltb-true _ _ (point.0 i d (omega (arith, lt, inside)) lt);
      behind = above_page 0 page c.partition_point.result bs c.requires.filled c.requires.ascending (λ d lt. ltb-false _ _ (point.1 c.partition_point.result d (omega arith) lt));
    }
