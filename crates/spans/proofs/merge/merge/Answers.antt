use Rattle.std.proofs.Common.{◌≡◌, ◌∙◌, ◌+◌, ◌-◌, ◌^◌, ◌≤◌, ◌++◌, ◌||◌, [], ℕ, Bool, true, false, cond, Option, Some, List, length, take, drop, get_or, refl, sym, ap, subst, add-one, append-nil, length-append, arith}
use Rattle.std.proofs.lemmas.List.{length-drop, take-append-drop, take_all}
use Rattle.base.specs.Pages.{PageRun, in_run, covers, rise}
use Rattle.spans.specs.Spans.{Span, value_at, end_of, ascend, end_from, are_joined}
use Rattle.spans.specs.Edits.{listed, all_before, all_from, IsSame}
use Rattle.spans.proofs.Ascending.{ascend-dropped, end_from-append, end_from-both}
use Rattle.spans.proofs.Joined.{joined-right}
use Rattle.spans.proofs.Lists.{rest_lent, take_more_of}
use Rattle.spans.proofs.Merging.{step-at, step-ascends, step-ends, step-len}
use Rattle.spans.proofs.Parting.{span_of, all_from-above, before-from, fewer_before, from-dropped, from-later}
use Rattle.spans.proofs.Runs.{rise_at, rise_first, covers_next}
use Rattle.spans.proofs.Same.{same-before, same-then}
use Rattle.spans.proofs.merge.merge.Goals as goal

pub loop-run-init : goal.loop-run-init
loop-run-init c =
    let ss = c.args.spans.now in
    let none = c.clear.ensures.items in
    let all : all_from 0 ss ≡ ss = all_from-above 0 ss c.requires.ascending in
    let whole : c.clear.new.self.items ++ all_from 0 ss ≡ ss = ap (λ l. l ++ all_from 0 ss) none ∙ all in
    record {
      inside = omega arith;
      passed = omega arith;
      ends = subst (λ (l : List Span). end_from 0 l ≤ 0) (sym none) (omega arith);
      ascending = ap (ascend 0) whole ∙ c.requires.ascending;
      rises = c.requires.rise;
      at = λ n. ap (λ l. value_at l n) whole;
      joined = λ j. ap are_joined none;
      len = (let l = ap length none in let m = ap length all in omega (arith, l, m));
      capacity = omega (arith, c.clear.ensures.capacity);
    }

pub append-at-requires-clause-ascending : goal.append-at-requires-clause-ascending
append-at-requires-clause-ascending c =
    let ss = c.args.spans.now in
    let at = c.loop-run.at in
    ap (ascend 0) (rest_lent at ss c.loop-run.invariant.inside) ∙ ascend-dropped at ss c.requires.ascending

pub append-at-requires-clause-room : goal.append-at-requires-clause-room
append-at-requires-clause-room c =
    let inv = c.loop-run.invariant in
    let ss = c.args.spans.now in
    let at = c.loop-run.at in
    let from = c.loop-run.from in
    let rest = ap length (ap (all_from from) (rest_lent at ss inv.inside) ∙ from-dropped from at ss c.requires.ascending inv.passed) in
    omega (arith, rest, inv.len, inv.capacity, c.requires.room, c.loop-run-test.true)

pub push-requires : goal.push-requires
push-requires c =
    let inv = c.loop-run.invariant in
    let ss = c.args.spans.now in
    let at = c.loop-run.at in
    let from = c.loop-run.from in
    let lent = take (length ss - at) (drop at ss) in
    let rest = ap length (ap (all_from from) (rest_lent at ss inv.inside) ∙ from-dropped from at ss c.requires.ascending inv.passed) in
    let l = length-append c.loop-run.out.items (all_before c.number.result (all_from from lent)) in
    let f = fewer_before c.number.result (all_from from lent) in
    omega (arith, rest, l, f, inv.len, inv.capacity, c.requires.room, c.loop-run-test.true, c.append-at.ensures.same.fewer, c.append-at.ensures.capacity)

set_twice : (a b : Bool) (v o : Option ℕ) → cond b v (cond a v o) ≡ cond (a || b) v o
set_twice true true v o = refl
set_twice true false v o = refl
set_twice false b v o = refl

pub loop-run-preserved : goal.loop-run-preserved
loop-run-preserved c =
    let inv = c.loop-run.invariant in
    let ss = c.args.spans.now in
    let up = c.requires.ascending in
    let at = c.loop-run.at in
    let from = c.loop-run.from in
    let i = c.loop-run.run-index in
    let runs = c.args.runs.now in
    let run = c.run-item.result in
    let out = c.loop-run.out.items in
    let rest = all_from from ss in
    let mid = c.append-at.new.out.items in
    let new = c.push.new.out.items in
    let place = c.append-at.result in
    let value = c.args.value in
    let e = c.append-at.ensures in
    let lent = rest_lent at ss inv.inside in
    let left = ap (all_from from) lent ∙ from-dropped from at ss up inv.passed in
    let first_at = c.number.ensures.same ∙ c.first.ensures.same in
    let end_at : c.end-from.result ≡ end_of run = c.end-from.ensures.same in
    let some = c.end-from.ensures.in_range.0 in
    let run_is = ap (λ (r : PageRun). r.first) c.run-item.is in
    let first_is = rise_first from i runs run c.loop-run-test.true inv.rises in
    let first : from ≤ run.first = omega (arith, first_is, run_is) in
    let ends : end_from 0 out ≤ run.first = omega (arith, first, inv.ends) in
    let a : IsSame (out ++ all_before run.first rest) mid = subst (λ k. IsSame (out ++ all_before k rest) mid) first_at (subst (λ (l : List Span). IsSame (out ++ all_before c.number.result l) mid) left e.same) in
    let same : IsSame ((out ++ all_before run.first rest) ++ listed (span_of run (Some value))) new = same-then ((out ++ all_before run.first rest) ++ listed (span_of run (Some value))) (mid ++ listed (span_of run (Some value))) new (same-before (out ++ all_before run.first rest) mid (listed (span_of run (Some value))) a) c.push.ensures.same in
    let behind : all_from c.end-from.result ss ≡ all_from (end_of run) rest = ap (λ k. all_from k ss) end_at ∙ sym (from-later from (end_of run) 0 ss up (omega (arith, first))) in
    let next : rise (end_of (get_or runs i run)) (drop (i + 1) runs) ≡ true = ap (λ (k : ℕ). rise (end_of (get_or runs i run)) (drop k runs)) (add-one i) ∙ rise_at 0 i runs run c.requires.rise c.loop-run-test.true in
    let long = ap length lent in
    let l = length-drop at ss in
    let len = step-len out rest new (all_from c.end-from.result ss) run (Some value) inv.ascending ends some same behind in
    let step_end = step-ends out rest new (all_from c.end-from.result ss) run (Some value) inv.ascending ends some same behind in
    let below : end_from 0 (take place (drop at ss)) ≤ from = subst (λ (l : List Span). end_from 0 (take place l) ≤ from) lent e.place.below in
    let passed = end_from-both (end_from 0 (take at ss)) from (take place (drop at ss)) inv.passed below in
    let taken = ap (end_from 0) (take_more_of at place ss) ∙ end_from-append 0 (take at ss) (take place (drop at ss)) in
    record {
      inside = omega (arith, e.place.inside, long, l, inv.inside);
      passed = omega (arith, taken, passed, first, end_at);
      ends = omega (arith, step_end, end_at);
      ascending = step-ascends out rest new (all_from c.end-from.result ss) run (Some value) inv.ascending ends some same behind;
      rises = ap (λ k. rise k (drop (i + 1) runs)) (end_at ∙ ap end_of c.run-item.is) ∙ next;
      at = λ n.
          step-at out rest new (all_from c.end-from.result ss) run (Some value) inv.ascending ends some same behind n
          ∙ ap (λ o. cond (in_run run n) (Some value) o) (inv.at n)
          ∙ set_twice (covers (take i runs) n) (in_run run n) (Some value) (value_at ss n)
          ∙ ap (λ b. cond b (Some value) (value_at ss n)) (ap (λ (r : PageRun). covers (take i runs) n || in_run r n) c.run-item.is ∙ covers_next i runs c.loop-run-test.true run n);
      joined = λ j.
          let part = joined-right (take at ss) (drop at ss) (ap are_joined (take-append-drop at ss) ∙ j) in
          ap are_joined (sym (append-nil new)) ∙ c.push.ensures.joined [] (e.joined (inv.joined j) (ap are_joined lent ∙ part)) refl;
      len = omega (arith, len, inv.len);
      capacity = omega (arith, e.capacity, c.push.ensures.capacity, inv.capacity);
    }

pub append-requires-clause-ascending : goal.append-requires-clause-ascending
append-requires-clause-ascending c =
    let ss = c.args.spans.now in
    let at = c.loop-run.at in
    ap (ascend 0) (rest_lent at ss c.loop-run.invariant.inside) ∙ ascend-dropped at ss c.requires.ascending

pub append-requires-clause-room : goal.append-requires-clause-room
append-requires-clause-room c =
    let inv = c.loop-run.invariant in
    let ss = c.args.spans.now in
    let at = c.loop-run.at in
    let from = c.loop-run.from in
    let rest = ap length (ap (all_from from) (rest_lent at ss inv.inside) ∙ from-dropped from at ss c.requires.ascending inv.passed) in
    omega (arith, rest, inv.len, inv.capacity, c.requires.room, c.loop-run.auto.run-index-end)

pub returns-clause-merged : goal.returns-clause-merged
returns-clause-merged c =
    let inv = c.loop-run.invariant in
    let ss = c.args.spans.now in
    let at = c.loop-run.at in
    let from = c.loop-run.from in
    let i = c.loop-run.run-index in
    let runs = c.args.runs.now in
    let out = c.loop-run.out.items in
    let new = c.append.new.out.items in
    let part = take (length ss - at) (drop at ss) in
    let lent = rest_lent at ss inv.inside in
    let part_up = ap (ascend 0) lent ∙ ascend-dropped at ss c.requires.ascending in
    let rest : all_before (2 ^ 27) (all_from from part) ≡ all_from from ss = before-from from (2 ^ 27) 0 part part_up c.append.ensures.in_range ∙ ap (all_from from) lent ∙ from-dropped from at ss c.requires.ascending inv.passed in
    let same : IsSame (out ++ all_from from ss) new = subst (λ (l : List Span). IsSame (out ++ l) new) rest c.append.ensures.same in
    let l = length-append out (all_from from ss) in
    let all : take i runs ≡ runs = take_all i runs (omega (arith, c.loop-run-test.false)) in
    record {
      ascending = same.ascends 0 inv.ascending;
      at = λ n. same.at n ∙ inv.at n ∙ ap (λ (r : List PageRun). cond (covers r n) (Some c.args.value) (value_at ss n)) all;
      joined = λ j.
          let joined_part = joined-right (take at ss) (drop at ss) (ap are_joined (take-append-drop at ss) ∙ j) in
          c.append.ensures.joined (inv.joined j) (ap are_joined lent ∙ joined_part);
      fewer = omega (arith, same.fewer, l, inv.len, c.loop-run.auto.run-index-end);
    }
