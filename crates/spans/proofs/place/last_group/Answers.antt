use Rattle.std.proofs.Common.{◌≡◌, ◌∙◌, ℕ, ◌+◌, ◌-◌, ◌<◌, ◌≤◌, [], true, false, leb, ltb, List, length, get_or, drop, refl, ap, rules, arith}
use Rattle.std.proofs.lemmas.Bool.{leb-true, leb-false, ltb-true, ltb-false}
use Rattle.std.proofs.lemmas.List.{get_or_default}
use Rattle.std.proofs.lemmas.List.Sorted.{IsPartitionPoint-from_clause, IsPartitionedBy-leb}
use Rattle.base.specs.Pages.{PageRun}
use Rattle.spans.specs.Spans.{Span, ascend}
use Rattle.spans.specs.Search.{begins_at}
use Rattle.spans.specs.Blocks.{all_spans}
use Rattle.spans.proofs.Ascending.{far}
use Rattle.spans.proofs.Stacked.{later}
use Rattle.spans.proofs.place.last_group.Goals as goal

pub returns-then-place-eq0-clause-group : goal.returns-then-place-eq0-clause-group
returns-then-place-eq0-clause-group c =
    let bs = c.args.blocks.now.list in
    let runs = c.args.runs.now in
    let last = c.index-runs-runs.result in
    let at : c.number.result ≡ last.first = c.number.ensures.same ∙ c.first.ensures.same in
    record {
      first = λ e. refl;
      before = λ i d b lt. absurd (omega arith);
      behind = λ i d b some from lt. absurd (omega (arith, some, c.if-place-eq0.true));
      next = λ i d lt.
          let up = c.requires.firsts i (length runs - 1) d (omega arith) (omega arith) in
          let end = ap (λ (r : PageRun). r.first) c.index-runs-runs.is in
          let same = ap (λ (r : PageRun). r.first) (get_or_default runs (length runs - 1) d last (omega arith)) in
          let rest : ascend last.first (all_spans (drop (c.saturating_sub-place.result + 1) bs)) ≡ true =
          later last.first c.blocks_before.result (c.saturating_sub-place.result + 1) bs (rw (← at) c.blocks_before.ensures.behind) (omega (arith, c.saturating_sub-place.ensures, c.if-place-eq0.true)) in
          far (get_or runs i d).first last.first (all_spans (drop (c.saturating_sub-place.result + 1) bs)) (omega (arith, up, end, same)) rest;
    }

point : (c : goal.After-partition_point-from) → ((i : ℕ) (d : PageRun) → i < c.partition_point-from.result → (get_or c.args.runs.now i d).first ≤ c.begin_at-begin.result) × ((i : ℕ) (d : PageRun) → c.partition_point-from.result ≤ i → i < length c.args.runs.now → c.begin_at-begin.result < (get_or c.args.runs.now i d).first)
point c =
    let p = IsPartitionPoint-from_clause (λ (r : PageRun). leb r.first c.begin_at-begin.result) c.args.runs.now c.partition_point-from.result c.partition_point-from.ensures.partitioned
    (IsPartitionedBy-leb (λ (r : PageRun). r.first) c.args.runs.now c.begin_at-begin.result c.requires.firsts) (λ a r f k. search rules) in (
      λ i d lt. leb-true _ _ (p.0 i d (omega (arith, lt, c.partition_point-from.ensures.bound)) lt),
      λ i d from lt. leb-false _ _ (p.1 i d from lt),
    )

pub returns-clause-from : goal.returns-clause-from
returns-clause-from c =
    let runs = c.args.runs.now in
    let last = c.index-runs-runs.result in
    let at : c.number.result ≡ last.first = c.number.ensures.same ∙ c.first.ensures.same in
    let before = c.blocks_before.ensures.before c.saturating_sub-place.result [] (omega (arith, c.saturating_sub-place.ensures, c.if-place-eq0.false)) in
    let begin = c.begin_at-begin.ensures.same in
    elim (ltb c.partition_point-from.result (length runs)) as (λ b. ltb c.partition_point-from.result (length runs) ≡ b → c.partition_point-from.result < length runs) [
      | true ↦ λ t. ltb-true _ _ t
      | false ↦ λ t.
          let le = ltb-false _ _ t in
          let p = (point c).0 (length runs - 1) last (omega (arith, le, c.requires.runs)) in
          let end = ap (λ (r : PageRun). r.first) c.index-runs-runs.is in
          absurd (omega (arith, p, end, before, begin, at))
    ] refl

pub returns-clause-group : goal.returns-clause-group
returns-clause-group c =
    let bs = c.args.blocks.now.list in
    let runs = c.args.runs.now in
    let last = c.index-runs-runs.result in
    let at : c.number.result ≡ last.first = c.number.ensures.same ∙ c.first.ensures.same in
    let p = point c in
    let begin : (b : List Span) → c.begin_at-begin.result ≡ begins_at (get_or bs c.saturating_sub-place.result b) = λ b. c.begin_at-begin.ensures.same ∙ ap begins_at (get_or_default bs c.saturating_sub-place.result [] b (omega (arith, c.saturating_sub-place.ensures, c.if-place-eq0.false, c.blocks_before.ensures.inside))) in
    record {
      first = λ e. absurd (c.if-place-eq0.false e);
      before = λ i d b lt. let q = p.0 i d lt in let e = begin b in omega (arith, q, e);
      behind = λ i d b some from lt. let q = p.1 i d from lt in let e = begin b in omega (arith, q, e);
      next = λ i d lt.
          let up = c.requires.firsts i (length runs - 1) d (omega arith) (omega arith) in
          let end = ap (λ (r : PageRun). r.first) c.index-runs-runs.is in
          let same = ap (λ (r : PageRun). r.first) (get_or_default runs (length runs - 1) d last (omega arith)) in
          let rest : ascend last.first (all_spans (drop (c.saturating_sub-place.result + 1) bs)) ≡ true =
          later last.first c.blocks_before.result (c.saturating_sub-place.result + 1) bs (rw (← at) c.blocks_before.ensures.behind) (omega (arith, c.saturating_sub-place.ensures, c.if-place-eq0.false)) in
          far (get_or runs i d).first last.first (all_spans (drop (c.saturating_sub-place.result + 1) bs)) (omega (arith, up, end, same)) rest;
    }
