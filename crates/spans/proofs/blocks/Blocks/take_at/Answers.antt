use Rattle.std.proofs.Common.{◌≡◌, ◌∙◌, ℕ, ◌+◌, ◌-◌, ◌<◌, true, false, eqb, Option, List, [], length, get_or, drop, sym, ap, subst, arith}
use Rattle.std.specs.Option.{option_map_or}
use Rattle.std.proofs.Math.ListN.{set}
use Rattle.std.proofs.lemmas.List.{get_or_default}
use Rattle.spans.specs.Spans.{Span, ascend, value_at}
use Rattle.spans.specs.Search.{begins_at}
use Rattle.spans.specs.Blocks.{BlocksView, all_spans, AreTidyBut}
use Rattle.spans.specs.Taking.{IsTakenIn}
use Rattle.spans.proofs.Ascending.{value_at-ahead}
use Rattle.spans.proofs.Stacked.{at_block}
use Rattle.spans.proofs.Halving.{next-ascends, next-behind}
use Rattle.spans.proofs.Taken.{none-taken, taken-there, tidy-but}
use Rattle.spans.proofs.Others.{no_number, taken-gone}
use Rattle.spans.proofs.blocks.Blocks.take_at.Goals as goal

pub returns-then-count-eq0-clause-taken : goal.returns-then-count-eq0-clause-taken
returns-then-count-eq0-clause-taken c = none-taken 0 c.args.value (all_spans c.args.self.now.list) c.requires.tidy.stacked.ascending

pub returns-then-count-eq0-clause-gone : goal.returns-then-count-eq0-clause-gone
returns-then-count-eq0-clause-gone c =
    let bs = c.args.self.now.list in
    let up : ascend (c.args.page + 1) (all_spans bs) ≡ true = subst (λ (k : ℕ). ascend (c.args.page + 1) (all_spans (drop k bs)) ≡ true) c.if-count-eq0.true c.blocks_before-count.ensures.behind in
    no_number c.args.value (all_spans bs) c.args.page (value_at-ahead (c.args.page + 1) (all_spans bs) c.args.page up (omega arith))

pub returns-then-not-has_value-clause-taken : goal.returns-then-not-has_value-clause-taken
returns-then-not-has_value-clause-taken c = none-taken 0 c.args.value (all_spans c.args.self.now.list) c.requires.tidy.stacked.ascending

pub returns-then-not-has_value-clause-gone : goal.returns-then-not-has_value-clause-gone
returns-then-not-has_value-clause-gone c =
    let bs = c.args.self.now.list in
    let page = c.args.page in
    let count = c.blocks_before-count.result in
    let e = c.blocks_before-count.ensures in
    let place : ℕ = count - 1 in
    let on : count ≡ place + 1 = omega (arith, c.if-count-eq0.false) in
    let d = c.block.result.now in
    let from = e.before place d (omega (arith, on)) in
    let up : ascend (page + 1) (all_spans (drop (place + 1) bs)) ≡ true = subst (λ (k : ℕ). ascend (page + 1) (all_spans (drop k bs)) ≡ true) on e.behind in
    let none = value_at-ahead (page + 1) (all_spans (drop (place + 1) bs)) page up (omega arith) in
    let same : value_at (all_spans bs) page ≡ value_at (get_or bs place d) page = at_block bs place page d c.requires.tidy.stacked (omega (arith, e.inside, on)) (omega (arith, from)) none in
    let block : value_at (get_or bs place d) page ≡ value_at c.spans.result.now page = ap (λ (l : List Span). value_at l page) (sym (c.spans.ensures.same ∙ c.block.ensures.block d)) in
    ap (λ (o : Option ℕ). option_map_or (λ v. eqb v c.args.value) o false) (same ∙ block) ∙ sym c.has_value.ensures ∙ c.if-not-has_value.true

pub tidy-requires : goal.tidy-requires
tidy-requires c =
    let bs = c.args.self.now.list in
    let value = c.args.value in
    let next = c.begin_at-2.result in
    let count = c.blocks_before-count.result in
    let place : ℕ = count - 1 in
    let b = c.index_mut.result.now in
    let now = c.take_out.new.self in
    let on : count ≡ place + 1 = omega (arith, c.if-count-eq0.false) in
    let above : ascend next (all_spans (drop (place + 1) bs)) ≡ true = subst (λ (k : ℕ). ascend next (all_spans (drop k bs)) ≡ true) on (next-ascends bs count next c.requires.tidy.stacked c.begin_at-2.ensures.same) in
    let lt : place < length bs = omega (arith, c.blocks_before-count.ensures.inside, on) in
    let list = ap (λ (v : BlocksView). v.list) c.self.view_is in
    let is : b ≡ get_or bs place b = c.index_mut.ensures.value ∙ ap (λ (l : List (List Span)). get_or l place b) list in
    let put : set c.self.inside.list.items place now ≡ set bs place now = ap (λ (l : List (List Span)). set l place now) list in
    subst (AreTidyBut place) (sym put) (tidy-but value next bs place b now c.requires.tidy.stacked lt above is c.take_out.ensures c.requires.tidy.dense)

taken : (c : goal.After-tidy) → IsTakenIn c.begin_at.result c.begin_at-2.result c.args.value (all_spans c.args.self.now.list) (all_spans c.tidy.new.self.list)
taken c =
    let bs = c.args.self.now.list in
    let value = c.args.value in
    let next = c.begin_at-2.result in
    let count = c.blocks_before-count.result in
    let place : ℕ = count - 1 in
    let b = c.index_mut.result.now in
    let now = c.take_out.new.self in
    let on : count ≡ place + 1 = omega (arith, c.if-count-eq0.false) in
    let above : ascend next (all_spans (drop (place + 1) bs)) ≡ true = subst (λ (k : ℕ). ascend next (all_spans (drop k bs)) ≡ true) on (next-ascends bs count next c.requires.tidy.stacked c.begin_at-2.ensures.same) in
    let lt : place < length bs = omega (arith, c.blocks_before-count.ensures.inside, on) in
    let list = ap (λ (v : BlocksView). v.list) c.self.view_is in
    let is : b ≡ get_or bs place b = c.index_mut.ensures.value ∙ ap (λ (l : List (List Span)). get_or l place b) list in
    let put : set c.self.inside.list.items place now ≡ set bs place now = ap (λ (l : List (List Span)). set l place now) list in
    let begin : c.begin_at.result ≡ begins_at b = c.begin_at.ensures.same ∙ ap begins_at (get_or_default bs place [] b lt ∙ sym is) in
    let same : all_spans c.tidy.new.self.list ≡ all_spans (set bs place now) = c.tidy.ensures.spans ∙ ap all_spans put in
    subst (λ (k : ℕ). IsTakenIn k next value (all_spans bs) (all_spans c.tidy.new.self.list)) (sym begin)
    (subst (λ (l : List Span). IsTakenIn (begins_at b) next value (all_spans bs) l) (sym same) (taken-there value next bs place b now c.requires.tidy.stacked lt above is c.take_out.ensures))

pub returns-clause-taken : goal.returns-clause-taken
returns-clause-taken c = taken c

pub returns-clause-gone : goal.returns-clause-gone
returns-clause-gone c =
    let bs = c.args.self.now.list in
    let count = c.blocks_before-count.result in
    let e = c.blocks_before-count.ensures in
    let from = e.before (count - 1) [] (omega (arith, c.if-count-eq0.false)) in
    let to = next-behind bs count c.begin_at-2.result c.requires.tidy.stacked c.begin_at-2.ensures.same (c.args.page + 1) e.behind (omega (arith, c.requires.page)) in
    taken-gone c.args.value c.begin_at.result c.begin_at-2.result (all_spans bs) (all_spans c.tidy.new.self.list) (taken c) c.requires.tidy.stacked.ascending c.args.page (omega (arith, from, c.begin_at.ensures.same)) (omega (arith, to))
