use Rattle.std.proofs.Common.{◌≡◌, ◌∙◌, ◌||◌, ◌-◌, ◌<◌, ℕ, [], Bool, true, false, cond, Option, Some, List, length, take, drop, refl, sym, ap, subst, arith}
use Rattle.std.proofs.lemmas.List.{length-take, length-drop}
use Rattle.base.specs.Pages.{PageRun, covers}
use Rattle.spans.specs.Spans.{Span, value_at, ascend, are_joined}
use Rattle.spans.specs.Blocks.{all_spans, AreDense, BelongTo, IsSetFrom}
use Rattle.spans.proofs.Stacked.{some_blocks, later}
use Rattle.spans.proofs.Dense.{dense-take}
use Rattle.spans.proofs.Edited.{group-mine, group-belong, left-stacked, left-joined, left-at, left-needs}
use Rattle.spans.proofs.Needs.{group-needs}
use Rattle.spans.proofs.Runs.{firsts_ascend, firsts_taken, rest_covers}
use Rattle.spans.proofs.edit.put_sorted.Goals as goal

pub last_group-place-requires-clause-firsts : goal.last_group-place-requires-clause-firsts
last_group-place-requires-clause-firsts c = firsts_taken c.loop-left.left c.args.runs.now (firsts_ascend 0 c.args.runs.now c.requires.rise)

pub edit-requires-clause-belong : goal.edit-requires-clause-belong
edit-requires-clause-belong c =
    let inv = c.loop-left.invariant in
    let runs = c.args.runs.now in
    let left = c.loop-left.left in
    let old = c.loop-left.blocks.list in
    let group = c.last_group-place.result in
    let e = c.last_group-place.ensures in
    let mine = group-mine old runs left group inv.stacked inv.joined c.requires.rise inv.left e.group e.place e.from in
    subst (λ (l : List PageRun). BelongTo l old group.place) (sym mine) (group-belong old runs left group inv.stacked inv.joined c.requires.rise inv.left e.group e.place e.from inv.dense)

pub edit-requires-clause-spare : goal.edit-requires-clause-spare
edit-requires-clause-spare c =
    let d : List Span = [] in
    let inv = c.loop-left.invariant in
    let runs = c.args.runs.now in
    let left = c.loop-left.left in
    let old = c.loop-left.blocks.list in
    let group = c.last_group-place.result in
    let e = c.last_group-place.ensures in
    let n = group-needs old (take left runs) group d e.group inv.stacked.filled inv.stacked.ascending e.place e.from in
    let l = length-take left runs in
    let mine = ap length (group-mine old runs left group inv.stacked inv.joined c.requires.rise inv.left e.group e.place e.from) in
    let m = length-drop group.from (take left runs) in
    omega (arith, n, l, mine, m, inv.spare)

set_both : (a b : Bool) (v w : Option ℕ) → cond a v (cond b v w) ≡ cond (a || b) v w
set_both true b v w = refl
set_both false b v w = refl

pub join-requires-clause-ascending : goal.join-requires-clause-ascending
join-requires-clause-ascending c =
    let inv = c.loop-left.invariant in
    let runs = c.args.runs.now in
    let left = c.loop-left.left in
    let old = c.loop-left.blocks.list in
    let group = c.last_group-place.result in
    let e = c.last_group-place.ensures in
    let new = c.edit.new.self.list in
    let value = Some c.args.value in
    let l = length-take left runs in
    let mine = group-mine old runs left group inv.stacked inv.joined c.requires.rise inv.left e.group e.place e.from in
    let edited : IsSetFrom (drop group.from (take left runs)) value old group.place new = subst (λ (m : List PageRun). IsSetFrom m value old group.place new) mine c.edit.ensures.edited.set in
    let stacked = left-stacked old runs left group inv.stacked inv.joined c.requires.rise inv.left e.group e.place e.from value new edited c.edit.ensures.edited.filled in
    later 0 0 (group.place - 1) new stacked.ascending (omega arith)

pub loop-left-preserved : goal.loop-left-preserved
loop-left-preserved c =
    let inv = c.loop-left.invariant in
    let runs = c.args.runs.now in
    let left = c.loop-left.left in
    let old = c.loop-left.blocks.list in
    let group = c.last_group-place.result in
    let e = c.last_group-place.ensures in
    let new = c.edit.new.self.list in
    let value = Some c.args.value in
    let l = length-take left runs in
    let mine = group-mine old runs left group inv.stacked inv.joined c.requires.rise inv.left e.group e.place e.from in
    let edited : IsSetFrom (drop group.from (take left runs)) value old group.place new = subst (λ (m : List PageRun). IsSetFrom m value old group.place new) mine c.edit.ensures.edited.set in
    let d : List Span = [] in
    let needs = left-needs old runs left group inv.stacked inv.joined c.requires.rise inv.left e.group e.place e.from value new edited c.edit.ensures.edited.filled d in
    let spare = c.edit.ensures.spare in
    let long = ap length mine in
    let m = length-drop group.from (take left runs) in
    let first : group.place ≡ 0 = omega (arith, c.if-place-gt0.false) in
    record {
      left = omega (arith, e.from, l, inv.left);
      stacked = left-stacked old runs left group inv.stacked inv.joined c.requires.rise inv.left e.group e.place e.from value new edited c.edit.ensures.edited.filled;
      dense = subst (λ (k : ℕ). AreDense (drop k new)) first c.edit.ensures.edited.dense;
      joined = left-joined old runs left group inv.stacked inv.joined c.requires.rise inv.left e.group e.place e.from value new edited c.edit.ensures.edited.filled;
      some = c.edit.ensures.some;
      at = λ n.
          left-at old runs left group inv.stacked inv.joined c.requires.rise inv.left e.group e.place e.from value new edited c.edit.ensures.edited.filled n
          ∙ ap (λ o. cond (covers (drop group.from (take left runs)) n) value o) (inv.at n)
          ∙ set_both (covers (drop group.from (take left runs)) n) (covers (drop left runs) n) value (value_at (all_spans c.args.blocks.now.list) n)
          ∙ ap (λ b. cond b value (value_at (all_spans c.args.blocks.now.list) n)) (sym (rest_covers runs group.from left n (omega (arith, e.from, l)) inv.left));
      spare = omega (arith, needs, spare, long, l, m, e.from, inv.spare);
      capacity = omega (arith, c.edit.ensures.capacity, inv.capacity);
    }

pub loop-left-preserved-then-place-gt0 : goal.loop-left-preserved-then-place-gt0
loop-left-preserved-then-place-gt0 c =
    let inv = c.loop-left.invariant in
    let runs = c.args.runs.now in
    let left = c.loop-left.left in
    let old = c.loop-left.blocks.list in
    let group = c.last_group-place.result in
    let e = c.last_group-place.ensures in
    let new = c.edit.new.self.list in
    let value = Some c.args.value in
    let l = length-take left runs in
    let mine = group-mine old runs left group inv.stacked inv.joined c.requires.rise inv.left e.group e.place e.from in
    let edited : IsSetFrom (drop group.from (take left runs)) value old group.place new = subst (λ (m : List PageRun). IsSetFrom m value old group.place new) mine c.edit.ensures.edited.set in
    let d : List Span = [] in
    let needs = left-needs old runs left group inv.stacked inv.joined c.requires.rise inv.left e.group e.place e.from value new edited c.edit.ensures.edited.filled d in
    let spare = c.edit.ensures.spare in
    let long = ap length mine in
    let m = length-drop group.from (take left runs) in
    let stacked = left-stacked old runs left group inv.stacked inv.joined c.requires.rise inv.left e.group e.place e.from value new edited c.edit.ensures.edited.filled in
    let one = c.join.ensures.joined in
    let lt : 0 < group.place = omega (arith, c.if-place-gt0.true) in
    let same : all_spans c.join.new.self.list ≡ all_spans new = one.spans 0 lt in
    let front : AreDense (take group.place new) = subst AreDense (sym edited.before) (dense-take group.place old inv.dense) in
    let fewer = c.join.ensures.needs stacked (take group.from runs) in
    record {
      left = omega (arith, e.from, l, inv.left);
      stacked = record { ascending = ap (ascend 0) same ∙ stacked.ascending; filled = one.filled 0 lt stacked.filled };
      dense = one.dense 0 lt front c.edit.ensures.edited.dense;
      joined = ap are_joined same ∙ left-joined old runs left group inv.stacked inv.joined c.requires.rise inv.left e.group e.place e.from value new edited c.edit.ensures.edited.filled;
      some = some_blocks new c.join.new.self.list same stacked.filled c.edit.ensures.some;
      at = λ n.
          ap (λ (s : List Span). value_at s n) same
          ∙ left-at old runs left group inv.stacked inv.joined c.requires.rise inv.left e.group e.place e.from value new edited c.edit.ensures.edited.filled n
          ∙ ap (λ o. cond (covers (drop group.from (take left runs)) n) value o) (inv.at n)
          ∙ set_both (covers (drop group.from (take left runs)) n) (covers (drop left runs) n) value (value_at (all_spans c.args.blocks.now.list) n)
          ∙ ap (λ b. cond b value (value_at (all_spans c.args.blocks.now.list) n)) (sym (rest_covers runs group.from left n (omega (arith, e.from, l)) inv.left));
      spare = omega (arith, needs, spare, long, l, m, e.from, inv.spare, fewer);
      capacity = omega (arith, c.edit.ensures.capacity, inv.capacity);
    }
