-- What was merged of a block stands in it, or in other blocks.
use Rattle.std.proofs.Common.{◌≡◌, ℕ, ◌+◌, ◌-◌, ◌*◌, ◌<◌, ◌≤◌, true, List, [], ◌∷◌, ◌++◌, length, get_or, take, drop, Some, refl, sym, ap, subst, ◌∙◌, append-nil, arith}
use Rattle.std.proofs.Math.ListN.{set}
use Rattle.std.proofs.lemmas.List.{get_or_default, length-take, length-drop, take-take, drop-set, drop-set-lt}
use Rattle.base.specs.Pages.{PageRun}
use Rattle.spans.specs.Spans.{Span, ascend, end_of, end_from, are_joined}
use Rattle.spans.specs.Search.{begins_at}
use Rattle.spans.specs.Edits.{IsMerged, IsSame}
use Rattle.spans.specs.Blocks.{all_spans, AreDense, AreFilled, AreDealt, AreJoinedAt, AreStacked, BelongTo, HasTakenIn, IsEdited, IsSetFrom}
use Rattle.spans.proofs.Ascending.{ascend-left}
use Rattle.spans.proofs.Stacked.{IsFilled, above_here, all_joined, filled_rest, later}
use Rattle.spans.proofs.Dense.{dense-few, dense-drop}
use Rattle.spans.proofs.Edited.{belong-ascends, edited-as, edited-by, kept-merged, refilled, some-merged}
use Rattle.spans.proofs.Pushed.{put-front, put-rest, put-spans, put-made, put-behind}

-- before the blocks behind the place are joined, and then
module _ (old put new : List (List Span)) (place at : ℕ) (runs : List PageRun) (value : ℕ) (set_put : IsSetFrom runs (Some value) old place put) (less : place < at) (filled : AreFilled (drop place put)) (front : AreDense (drop place (take at put))) (behind : AreDense (drop at put))
    (j : AreJoinedAt at put new) where
  pub edited-joined_at : IsEdited runs value old place new
  edited-joined_at = record {
    set = edited-as runs (Some value) old place put new set_put (sym (take-take place (at - 1) new (omega (arith, less))) ∙ ap (take place) j.before ∙ take-take place (at - 1) put (omega (arith, less))) (j.spans place less);
    filled = j.filled place less filled;
    dense = j.dense place less front behind;
  }

-- the next block begins behind a page, and so do all behind it
pub far_next : (bs : List (List Span)) (place page : ℕ) → AreStacked bs → (place + 1 < length bs → page < begins_at (get_or bs (place + 1) [])) → ascend (page + 1) (all_spans (drop (place + 1) bs)) ≡ true
far_next bs place page h next =
    above_here 0 (page + 1) (place + 1) bs (filled_rest (place + 1) bs h.filled) (later 0 0 (place + 1) bs h.ascending (omega arith)) (λ d lt.
    let same = ap begins_at (get_or_default bs (place + 1) [] d lt) in
    let n = next lt in
    omega (arith, same, n))

module _ (old : List (List Span)) (place : ℕ) (runs : List PageRun) (value : ℕ) (g : BelongTo runs old place) (last : PageRun) (is : last ≡ get_or runs (length runs - 1) last) where
  block : List Span
  block = get_or old place []

  behind_it : List Span
  behind_it = all_spans (drop (place + 1) old)

  up : ascend 0 (block ++ behind_it) ≡ true
  unfolding block behind_it
  up = belong-ascends old place runs (Some value) [] g last is

  pub now-ascends : (kept : ℕ) (out : List Span) (first : PageRun) → first ≡ get_or runs 0 first → end_from 0 (take kept (get_or old place [])) ≤ first.first - 1 → IsMerged runs (Some value) (drop kept (get_or old place [])) out → ascend 0 (take kept (get_or old place []) ++ out) ≡ true
  unfolding block
  now-ascends kept out first first_is below merged =
      let all = kept-merged (get_or old place []) out kept runs (Some value) first g.some first_is (ascend-left 0 block behind_it up) below g.rises merged in
      all.ascending

  -- some of its intervals stay, and the last run does not reach the next block
  module _ (count : 0 < last.count) (kept : ℕ) (out now : List Span) (put : List (List Span)) (first : PageRun) (first_is : first ≡ get_or runs 0 first) (below : end_from 0 (take kept (get_or old place [])) ≤ first.first - 1) (above : ascend (end_of last + 1) (all_spans (drop (place + 1) old)) ≡ true)
      (short : length (get_or old place []) + 2 * length runs ≤ 128) (merged : IsMerged runs (Some value) (drop kept (get_or old place [])) out) (now_is : now ≡ take kept (get_or old place []) ++ out) (put_is : put ≡ set old place now) where
    all : IsMerged runs (Some value) (get_or old place []) now
    unfolding block
    all = subst (IsMerged runs (Some value) (get_or old place [])) (sym now_is) (kept-merged (get_or old place []) out kept runs (Some value) first g.some first_is (ascend-left 0 block behind_it up) below g.rises merged)

    pub refilled-set : IsSetFrom runs (Some value) old place put
    refilled-set = refilled old place runs (Some value) [] g last is now put put_is all above

    pub refilled-ascends : ascend 0 (all_spans (drop (place + 1 - 1) put)) ≡ true
    refilled-ascends = let on : place + 1 - 1 ≡ place = omega arith in let s = refilled-set in ap (λ (k : ℕ). ascend 0 (all_spans (drop k put))) on ∙ s.ascending

    rest : drop place put ≡ now ∷ drop (place + 1) old
    rest = ap (drop place) put_is ∙ drop-set old place now g.inside

    pub refilled-edited : (new : List (List Span)) → AreJoinedAt (place + 1) put new → IsEdited runs value old place new
    refilled-edited new j =
        let some = some-merged old place runs (Some value) [] g last is value now now [] refl count all (subst (λ (l : List Span). IsSame l now) (sym (append-nil now)) (record { at = λ n. refl; ascends = λ e h. h; ends = λ e. refl; fewer = omega arith })) in
        let a = all in
        let filled : AreFilled (drop place put) = subst AreFilled (sym rest) ((some, omega (arith, a.fewer, short)), filled_rest (place + 1) old g.tidy.stacked.filled) in
        let l = length-take (place + 1) put in
        let m = length-drop place (take (place + 1) put) in
        let behind : drop (place + 1) put ≡ drop (place + 1) old = ap (drop (place + 1)) put_is ∙ drop-set-lt (place + 1) old place now (omega arith) in
        edited-joined_at old put new place (place + 1) runs value refilled-set (omega arith) filled (dense-few (drop place (take (place + 1) put)) (omega (arith, l, m))) (subst AreDense (sym behind) (dense-drop (place + 1) old g.tidy.dense)) j

  -- other blocks stand in its place
  module _ (count : 0 < last.count) (out out2 : List Span) (mid rem put : List (List Span)) (at : ℕ) (merged : IsMerged runs (Some value) (get_or old place []) out) (t : HasTakenIn (end_of last) out (drop (place + 1) old) out2 (drop (place + 1) mid)) (front : take (place + 1) mid ≡ take (place + 1) old)
      (j2 : are_joined out2 ≡ true) (dense : AreDense (drop (place + 1) mid)) (rem_is : rem ≡ take place mid ++ drop (place + 1) mid) (dealt : AreDealt out2 place at rem put) where
    pub mid-inside : place < length mid
    mid-inside =
        let l = length-take (place + 1) mid in
        let m = length-take (place + 1) old in
        let e = ap length front in
        omega (arith, l, m, e, g.inside)

    mid_front : take place mid ≡ take place old
    mid_front = sym (take-take place (place + 1) mid (omega arith)) ∙ ap (take place) front ∙ take-take place (place + 1) old (omega arith)

    d : AreDealt out2 place at (take place mid ++ drop (place + 1) mid) put
    d = subst (λ (l : List (List Span)). AreDealt out2 place at l put) rem_is dealt

    pub dealt-set : IsSetFrom runs (Some value) old place put
    dealt-set = edited-by old place runs (Some value) [] g last is out out2 (drop (place + 1) mid) put merged t j2 (put-front out2 place at mid put mid-inside d ∙ mid_front) (put-spans out2 place at mid put mid-inside d)

    pub dealt-some : place < at
    dealt-some =
        let some = some-merged old place runs (Some value) [] g last is value out out2 t.taken refl count merged t.same in
        let e = d in
        let made = some_made e.made out2 e.spans some in
        omega (arith, e.count, made)
      where
        some_made : (bs : List (List Span)) (ss : List Span) → all_spans bs ≡ ss → 0 < length ss → 0 < length bs
        some_made [] ss e some = let l = ap length e in absurd (omega (arith, l, some))
        some_made (b ∷ bs) ss e some = omega arith

    pub dealt-ascends : ascend 0 (all_spans (drop (at - 1) put)) ≡ true
    dealt-ascends = let s = dealt-set in let less = dealt-some in later 0 place (at - 1) put s.ascending (omega (arith, less))

    pub dealt-edited : (new : List (List Span)) → AreJoinedAt at put new → IsEdited runs value old place new
    dealt-edited new j =
        let e = d in
        let filled : AreFilled (drop place put) = subst AreFilled (sym (put-rest out2 place at mid put mid-inside d)) (all_joined IsFilled e.made (drop (place + 1) mid) e.filled t.filled) in
        edited-joined_at old put new place at runs value dealt-set dealt-some filled (subst AreDense (sym (put-made out2 place at mid put mid-inside d)) e.dense) (subst AreDense (sym (put-behind out2 place at mid put mid-inside d)) dense) j
