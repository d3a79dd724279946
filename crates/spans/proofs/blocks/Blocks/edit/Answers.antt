use Rattle.std.proofs.Common.{◌≡◌, ◌∙◌, ◌+◌, ◌-◌, ◌*◌, ◌≤◌, ◌++◌, true, [], Some, List, length, get_or, take, drop, refl, sym, ap, subst, arith}
use Rattle.std.proofs.Math.ListN.{set}
use Rattle.spans.specs.Spans.{Span, ascend, end_of, end_from, are_joined}
use Rattle.spans.specs.Edits.{IsMerged}
use Rattle.spans.specs.Blocks.{BlocksView, all_spans, AreDealt, HasTakenIn, IsEdited}
use Rattle.spans.proofs.Ascending.{ascend-dropped}
use Rattle.spans.proofs.Edited.{belong-joined, edited-some, taken-ascends}
use Rattle.spans.proofs.Joined.{joined-left}
use Rattle.spans.proofs.Lists.{lent_at, rest_lent}
use Rattle.spans.proofs.Written.{far_next, now-ascends, refilled-ascends, refilled-edited, dealt-some, dealt-ascends, dealt-edited}
use Rattle.spans.proofs.blocks.Blocks.edit.Goals as goal

pub merge-requires-clause-ascending : goal.merge-requires-clause-ascending
merge-requires-clause-ascending c =
    let kept = c.place_near_end-kept.result in
    let spans = c.spans-spans.result.now in
    let up : ascend 0 spans ≡ true = ap (ascend 0) c.spans-spans.ensures.same ∙ c.spans-spans.ensures.ascending in
    ap (ascend 0) (rest_lent kept spans c.place_near_end-kept.ensures.place.inside) ∙ ascend-dropped kept spans up

pub set_from-requires-clause-ascending : goal.set_from-requires-clause-ascending
set_from-requires-clause-ascending c =
    let old = c.args.self.now.list in
    let place = c.args.place in
    let runs = c.args.runs.now in
    let value = c.args.value in
    let g = c.requires.belong in
    let b = get_or old place [] in
    let kept = c.place_near_end-kept.result in
    let spans : c.spans-spans.result.now ≡ b = c.spans-spans.ensures.same ∙ c.block.ensures.block [] in
    let list = ap (λ (v : BlocksView). v.list) c.self.view_is in
    let here : c.index_mut.result.now ≡ b = sym (lent_at c.self.inside.list.items old place [] c.index_mut.result.now list g.inside c.index_mut.ensures.value) in
    let out = c.merge.new.out.items in
    let lent = rest_lent kept c.spans-spans.result.now c.place_near_end-kept.ensures.place.inside ∙ ap (drop kept) spans in
    let merged : IsMerged runs (Some value) (drop kept b) out = subst (λ (l : List Span). IsMerged runs (Some value) l out) lent c.merge.ensures.merged in
    let first = c.index-runs-0.result in
    let last = c.index-runs-runs.result in
    let before = ap (λ (l : List Span). end_from 0 (take kept l)) spans in
    let below : end_from 0 (take kept b) ≤ first.first - 1 = omega (arith, before, c.place_near_end-kept.ensures.place.below, c.saturating_sub.ensures, c.number.ensures.same, c.first.ensures.same) in
    let above = far_next old place (end_of last) g.tidy.stacked (λ lt. omega (arith, c.begin_at.ensures.same, c.if-end-begin_at.true, c.end-end.ensures.same)) in
    let l = ap length spans in
    let short : length b + 2 * length runs ≤ 128 = omega (arith, l, c.if-spans-runs-le-LIMIT.true) in
    ap (ascend 0) (ap (λ l. take kept l ++ c.deref.result.now) here ∙ ap (λ l. take kept b ++ l) c.deref.ensures.value)
    ∙ now-ascends old place runs value g last c.index-runs-runs.is kept out first c.index-runs-0.is below merged

pub join-requires-clause-ascending : goal.join-requires-clause-ascending
join-requires-clause-ascending c =
    let old = c.args.self.now.list in
    let place = c.args.place in
    let runs = c.args.runs.now in
    let value = c.args.value in
    let g = c.requires.belong in
    let b = get_or old place [] in
    let kept = c.place_near_end-kept.result in
    let spans : c.spans-spans.result.now ≡ b = c.spans-spans.ensures.same ∙ c.block.ensures.block [] in
    let list = ap (λ (v : BlocksView). v.list) c.self.view_is in
    let here : c.index_mut.result.now ≡ b = sym (lent_at c.self.inside.list.items old place [] c.index_mut.result.now list g.inside c.index_mut.ensures.value) in
    let out = c.merge.new.out.items in
    let lent = rest_lent kept c.spans-spans.result.now c.place_near_end-kept.ensures.place.inside ∙ ap (drop kept) spans in
    let merged : IsMerged runs (Some value) (drop kept b) out = subst (λ (l : List Span). IsMerged runs (Some value) l out) lent c.merge.ensures.merged in
    let first = c.index-runs-0.result in
    let last = c.index-runs-runs.result in
    let before = ap (λ (l : List Span). end_from 0 (take kept l)) spans in
    let below : end_from 0 (take kept b) ≤ first.first - 1 = omega (arith, before, c.place_near_end-kept.ensures.place.below, c.saturating_sub.ensures, c.number.ensures.same, c.first.ensures.same) in
    let above = far_next old place (end_of last) g.tidy.stacked (λ lt. omega (arith, c.begin_at.ensures.same, c.if-end-begin_at.true, c.end-end.ensures.same)) in
    let l = ap length spans in
    let short : length b + 2 * length runs ≤ 128 = omega (arith, l, c.if-spans-runs-le-LIMIT.true) in
    let now = c.set_from.new.self in
    let now_is : now ≡ take kept b ++ out = c.set_from.ensures ∙ ap (λ l. take kept l ++ c.deref.result.now) here ∙ ap (λ l. take kept b ++ l) c.deref.ensures.value in
    let put = set c.self.inside.list.items place now in
    let put_is : put ≡ set old place now = ap (λ (l : List (List Span)). set l place now) list in
    refilled-ascends old place runs value g last c.index-runs-runs.is (c.end-end.ensures.in_range.0) kept out now put first c.index-runs-0.is below above short merged now_is put_is

edited_here : (c : goal.After-join) → IsEdited c.args.runs.now c.args.value c.args.self.now.list c.args.place c.join.new.self.list
edited_here c =
    let old = c.args.self.now.list in
    let place = c.args.place in
    let runs = c.args.runs.now in
    let value = c.args.value in
    let g = c.requires.belong in
    let b = get_or old place [] in
    let kept = c.place_near_end-kept.result in
    let spans : c.spans-spans.result.now ≡ b = c.spans-spans.ensures.same ∙ c.block.ensures.block [] in
    let list = ap (λ (v : BlocksView). v.list) c.self.view_is in
    let here : c.index_mut.result.now ≡ b = sym (lent_at c.self.inside.list.items old place [] c.index_mut.result.now list g.inside c.index_mut.ensures.value) in
    let out = c.merge.new.out.items in
    let lent = rest_lent kept c.spans-spans.result.now c.place_near_end-kept.ensures.place.inside ∙ ap (drop kept) spans in
    let merged : IsMerged runs (Some value) (drop kept b) out = subst (λ (l : List Span). IsMerged runs (Some value) l out) lent c.merge.ensures.merged in
    let first = c.index-runs-0.result in
    let last = c.index-runs-runs.result in
    let before = ap (λ (l : List Span). end_from 0 (take kept l)) spans in
    let below : end_from 0 (take kept b) ≤ first.first - 1 = omega (arith, before, c.place_near_end-kept.ensures.place.below, c.saturating_sub.ensures, c.number.ensures.same, c.first.ensures.same) in
    let above = far_next old place (end_of last) g.tidy.stacked (λ lt. omega (arith, c.begin_at.ensures.same, c.if-end-begin_at.true, c.end-end.ensures.same)) in
    let l = ap length spans in
    let short : length b + 2 * length runs ≤ 128 = omega (arith, l, c.if-spans-runs-le-LIMIT.true) in
    let now = c.set_from.new.self in
    let now_is : now ≡ take kept b ++ out = c.set_from.ensures ∙ ap (λ l. take kept l ++ c.deref.result.now) here ∙ ap (λ l. take kept b ++ l) c.deref.ensures.value in
    let put = set c.self.inside.list.items place now in
    let put_is : put ≡ set old place now = ap (λ (l : List (List Span)). set l place now) list in
    refilled-edited old place runs value g last c.index-runs-runs.is (c.end-end.ensures.in_range.0) kept out now put first c.index-runs-0.is below above short merged now_is put_is c.join.new.self.list c.join.ensures.joined

pub returns-then-end-begin_at-clause-edited : goal.returns-then-end-begin_at-clause-edited
returns-then-end-begin_at-clause-edited c = edited_here c

pub returns-then-end-begin_at-clause-some : goal.returns-then-end-begin_at-clause-some
returns-then-end-begin_at-clause-some c =
    let e = edited_here c in
    edited-some c.args.self.now.list c.join.new.self.list c.args.place c.args.runs.now (Some c.args.value) c.args.value c.index-runs-runs.result e.set refl c.index-runs-runs.is c.requires.belong.some c.end-end.ensures.in_range.0

pub place_near_end-requires : goal.place_near_end-requires
place_near_end-requires c =
    let old = c.args.self.now.list in
    let place = c.args.place in
    let runs = c.args.runs.now in
    let value = c.args.value in
    let g = c.requires.belong in
    let b = get_or old place [] in
    let last = c.index-runs-runs.result in
    let spans : c.spans-spans.result.now ≡ b = c.spans-spans.ensures.same ∙ c.block.ensures.block [] in
    let out = c.merge-2.new.out.items in
    let merged : IsMerged runs (Some value) b out = subst (λ (l : List Span). IsMerged runs (Some value) l out) spans c.merge-2.ensures.merged in
    let mid = c.take_in.new.self.list in
    let out2 = c.take_in.new.out.items in
    let t : HasTakenIn (end_of last) out (drop (place + 1) old) out2 (drop (place + 1) mid) = subst (λ k. HasTakenIn k out (drop (place + 1) old) out2 (drop (place + 1) mid)) c.end-end.ensures.same c.take_in.ensures.taken in
    let j2 : are_joined out2 ≡ true = c.take_in.ensures.joined (merged.joined (joined-left b (all_spans (drop (place + 1) old)) (belong-joined old place runs (Some value) [] g last c.index-runs-runs.is))) g.joined in
    ap (ascend 0) c.deref-3.ensures.value ∙ taken-ascends old place runs (Some value) [] g last c.index-runs-runs.is out out2 (drop (place + 1) mid) merged t j2

pub deal-at-requires-clause-ascending : goal.deal-at-requires-clause-ascending
deal-at-requires-clause-ascending c =
    let old = c.args.self.now.list in
    let place = c.args.place in
    let runs = c.args.runs.now in
    let value = c.args.value in
    let g = c.requires.belong in
    let b = get_or old place [] in
    let last = c.index-runs-runs.result in
    let spans : c.spans-spans.result.now ≡ b = c.spans-spans.ensures.same ∙ c.block.ensures.block [] in
    let out = c.merge-2.new.out.items in
    let merged : IsMerged runs (Some value) b out = subst (λ (l : List Span). IsMerged runs (Some value) l out) spans c.merge-2.ensures.merged in
    let mid = c.take_in.new.self.list in
    let out2 = c.take_in.new.out.items in
    let t : HasTakenIn (end_of last) out (drop (place + 1) old) out2 (drop (place + 1) mid) = subst (λ k. HasTakenIn k out (drop (place + 1) old) out2 (drop (place + 1) mid)) c.end-end.ensures.same c.take_in.ensures.taken in
    let j2 : are_joined out2 ≡ true = c.take_in.ensures.joined (merged.joined (joined-left b (all_spans (drop (place + 1) old)) (belong-joined old place runs (Some value) [] g last c.index-runs-runs.is))) g.joined in
    ap (ascend 0) c.deref-2.ensures.value ∙ taken-ascends old place runs (Some value) [] g last c.index-runs-runs.is out out2 (drop (place + 1) mid) merged t j2

pub join-requires-2-clause-some : goal.join-requires-2-clause-some
join-requires-2-clause-some c =
    let old = c.args.self.now.list in
    let place = c.args.place in
    let runs = c.args.runs.now in
    let value = c.args.value in
    let g = c.requires.belong in
    let b = get_or old place [] in
    let last = c.index-runs-runs.result in
    let spans : c.spans-spans.result.now ≡ b = c.spans-spans.ensures.same ∙ c.block.ensures.block [] in
    let out = c.merge-2.new.out.items in
    let merged : IsMerged runs (Some value) b out = subst (λ (l : List Span). IsMerged runs (Some value) l out) spans c.merge-2.ensures.merged in
    let mid = c.take_in.new.self.list in
    let out2 = c.take_in.new.out.items in
    let t : HasTakenIn (end_of last) out (drop (place + 1) old) out2 (drop (place + 1) mid) = subst (λ k. HasTakenIn k out (drop (place + 1) old) out2 (drop (place + 1) mid)) c.end-end.ensures.same c.take_in.ensures.taken in
    let j2 : are_joined out2 ≡ true = c.take_in.ensures.joined (merged.joined (joined-left b (all_spans (drop (place + 1) old)) (belong-joined old place runs (Some value) [] g last c.index-runs-runs.is))) g.joined in
    let dealt : AreDealt out2 place c.deal-at.result c.retire.new.self.list c.deal-at.new.self.list = subst (λ (l : List Span). AreDealt l place c.deal-at.result c.retire.new.self.list c.deal-at.new.self.list) c.deref-2.ensures.value c.deal-at.ensures.dealt in
    let dense = c.take_in.ensures.dense g.tidy.dense in
    let some = dealt-some old place runs value g last c.index-runs-runs.is (c.end-end.ensures.in_range.0) out out2 mid c.retire.new.self.list c.deal-at.new.self.list c.deal-at.result merged t c.take_in.ensures.before j2 dense c.retire.ensures.list dealt in
    omega (arith, some)

pub join-requires-2-clause-ascending : goal.join-requires-2-clause-ascending
join-requires-2-clause-ascending c =
    let old = c.args.self.now.list in
    let place = c.args.place in
    let runs = c.args.runs.now in
    let value = c.args.value in
    let g = c.requires.belong in
    let b = get_or old place [] in
    let last = c.index-runs-runs.result in
    let spans : c.spans-spans.result.now ≡ b = c.spans-spans.ensures.same ∙ c.block.ensures.block [] in
    let out = c.merge-2.new.out.items in
    let merged : IsMerged runs (Some value) b out = subst (λ (l : List Span). IsMerged runs (Some value) l out) spans c.merge-2.ensures.merged in
    let mid = c.take_in.new.self.list in
    let out2 = c.take_in.new.out.items in
    let t : HasTakenIn (end_of last) out (drop (place + 1) old) out2 (drop (place + 1) mid) = subst (λ k. HasTakenIn k out (drop (place + 1) old) out2 (drop (place + 1) mid)) c.end-end.ensures.same c.take_in.ensures.taken in
    let j2 : are_joined out2 ≡ true = c.take_in.ensures.joined (merged.joined (joined-left b (all_spans (drop (place + 1) old)) (belong-joined old place runs (Some value) [] g last c.index-runs-runs.is))) g.joined in
    let dealt : AreDealt out2 place c.deal-at.result c.retire.new.self.list c.deal-at.new.self.list = subst (λ (l : List Span). AreDealt l place c.deal-at.result c.retire.new.self.list c.deal-at.new.self.list) c.deref-2.ensures.value c.deal-at.ensures.dealt in
    let dense = c.take_in.ensures.dense g.tidy.dense in
    dealt-ascends old place runs value g last c.index-runs-runs.is (c.end-end.ensures.in_range.0) out out2 mid c.retire.new.self.list c.deal-at.new.self.list c.deal-at.result merged t c.take_in.ensures.before j2 dense c.retire.ensures.list dealt

edited_on : (c : goal.After-join-2) → IsEdited c.args.runs.now c.args.value c.args.self.now.list c.args.place c.join-2.new.self.list
edited_on c =
    let old = c.args.self.now.list in
    let place = c.args.place in
    let runs = c.args.runs.now in
    let value = c.args.value in
    let g = c.requires.belong in
    let b = get_or old place [] in
    let last = c.index-runs-runs.result in
    let spans : c.spans-spans.result.now ≡ b = c.spans-spans.ensures.same ∙ c.block.ensures.block [] in
    let out = c.merge-2.new.out.items in
    let merged : IsMerged runs (Some value) b out = subst (λ (l : List Span). IsMerged runs (Some value) l out) spans c.merge-2.ensures.merged in
    let mid = c.take_in.new.self.list in
    let out2 = c.take_in.new.out.items in
    let t : HasTakenIn (end_of last) out (drop (place + 1) old) out2 (drop (place + 1) mid) = subst (λ k. HasTakenIn k out (drop (place + 1) old) out2 (drop (place + 1) mid)) c.end-end.ensures.same c.take_in.ensures.taken in
    let j2 : are_joined out2 ≡ true = c.take_in.ensures.joined (merged.joined (joined-left b (all_spans (drop (place + 1) old)) (belong-joined old place runs (Some value) [] g last c.index-runs-runs.is))) g.joined in
    let dealt : AreDealt out2 place c.deal-at.result c.retire.new.self.list c.deal-at.new.self.list = subst (λ (l : List Span). AreDealt l place c.deal-at.result c.retire.new.self.list c.deal-at.new.self.list) c.deref-2.ensures.value c.deal-at.ensures.dealt in
    let dense = c.take_in.ensures.dense g.tidy.dense in
    dealt-edited old place runs value g last c.index-runs-runs.is (c.end-end.ensures.in_range.0) out out2 mid c.retire.new.self.list c.deal-at.new.self.list c.deal-at.result merged t c.take_in.ensures.before j2 dense c.retire.ensures.list dealt c.join-2.new.self.list c.join-2.ensures.joined

pub returns-clause-edited : goal.returns-clause-edited
returns-clause-edited c = edited_on c

pub returns-clause-some : goal.returns-clause-some
returns-clause-some c =
    let e = edited_on c in
    edited-some c.args.self.now.list c.join-2.new.self.list c.args.place c.args.runs.now (Some c.args.value) c.args.value c.index-runs-runs.result e.set refl c.index-runs-runs.is c.requires.belong.some c.end-end.ensures.in_range.0
