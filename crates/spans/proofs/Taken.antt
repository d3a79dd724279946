-- The intervals of one number go out of a block.
use Rattle.std.proofs.Common.{◌≡◌, ℕ, ◌+◌, ◌-◌, ◌<◌, ◌≤◌, true, List, [], ◌∷◌, ◌++◌, length, get_or, take, drop, refl, sym, ap, subst, ◌∙◌, arith}
use Rattle.std.proofs.Math.ListN.{set}
use Rattle.std.proofs.lemmas.List.{length-set, length-take, length-drop, take-set-le, drop-set, drop-set-lt}
use Rattle.spans.specs.Spans.{Span, ascend, end_from}
use Rattle.spans.specs.Search.{begins_at}
use Rattle.spans.specs.Blocks.{all_spans, AreDense, AreFilled, AreStacked, AreTidyBut, AreJoinedAt}
use Rattle.spans.specs.Taking.{others, IsTakenIn}
use Rattle.spans.proofs.Stacked.{all-parted, all-next, block-begins, filled_front, filled_rest, filled_at}
use Rattle.spans.proofs.Dense.{IsSettled, dense-few, dense-take, dense-drop}
use Rattle.spans.proofs.Lists.{drop-cons-at, front-of, get_or-set_at, no_items, rest-of}
use Rattle.spans.proofs.Others.{fewer_others, taken-ascends}

pub none-taken : (end value : ℕ) (ss : List Span) → ascend end ss ≡ true → IsTakenIn 0 end value ss ss
none-taken end value ss h = record { before = []; between = []; behind = ss; was = refl; now = refl; below = omega arith; above = h }

module _ (value end : ℕ) (old : List (List Span)) (place : ℕ) (block now : List Span) (stacked : AreStacked old) (lt : place < length old) (above : ascend end (all_spans (drop (place + 1) old)) ≡ true) (is : block ≡ get_or old place block) (taken : now ≡ others value block) where
  here : drop place (set old place now) ≡ now ∷ drop (place + 1) old
  here = put_here
    where
      put_here : drop place (set old place now) ≡ now ∷ drop (place + 1) old
      put_here = drop-set old place now lt

  front : take place (set old place now) ≡ take place old
  front = take-set-le place old place now (omega arith)

  pub behind-same : drop (place + 1) (set old place now) ≡ drop (place + 1) old
  behind-same = drop-set-lt (place + 1) old place now (omega arith)

  pub taken-there : IsTakenIn (begins_at block) end value (all_spans old) (all_spans (set old place now))
  taken-there = record {
    before = all_spans (take place old);
    between = block;
    behind = all_spans (drop (place + 1) old);
    was = all-parted place old ∙ ap (λ l. all_spans (take place old) ++ l) (all-next place old block lt ∙ ap (λ (l : List Span). l ++ all_spans (drop (place + 1) old)) (sym is));
    now =
        all-parted place (set old place now) ∙ ap (λ l. all_spans l ++ all_spans (drop place (set old place now))) front
        ∙ ap (λ l. all_spans (take place old) ++ all_spans l) here ∙ ap (λ (l : List Span). all_spans (take place old) ++ (l ++ all_spans (drop (place + 1) old))) taken;
    below =
        let b = block-begins old place block lt stacked.ascending (filled_at place old block stacked.filled lt).0 in
        subst (λ (l : List Span). end_from 0 (all_spans (take place old)) ≤ begins_at l) (sym is) b.0;
    above = above;
  }

  pub tidy-but : AreDense old → AreTidyBut place (set old place now)
  tidy-but h = record {
    inside = omega (arith, lt, length-set old place now);
    short =
        let f = filled_at place old block stacked.filled lt in
        let b = ap length is in
        let t = ap length taken in
        let n = fewer_others value block in
        let w = ap length (get_or-set_at old place now [] lt) in
        omega (arith, f.1, b, t, n, w);
    ascending = taken-ascends value (begins_at block) end (all_spans old) (all_spans (set old place now)) taken-there stacked.ascending;
    before = subst AreFilled (sym front) (filled_front place old stacked.filled);
    behind = subst AreFilled (sym behind-same) (filled_rest (place + 1) old stacked.filled);
    dense_before = subst AreDense (sym front) (dense-take place old h);
    dense_behind = subst AreDense (sym behind-same) (dense-drop (place + 1) old h);
  }

-- ---- a block that may have lost its intervals

module _ (bs new : List (List Span)) (place : ℕ) (lt : place < length bs) (f : AreFilled (drop (place + 1) bs)) where
  -- it has none, and goes
  pub settled-gone : length (get_or bs place []) ≡ 0 → new ≡ take place bs ++ drop (place + 1) bs → IsSettled place bs new
  settled-gone none is =
      let rest : drop place new ≡ drop (place + 1) bs = ap (drop place) is ∙ rest-of place bs (drop (place + 1) bs) (omega (arith, lt)) in
      record {
        before = ap (take place) is ∙ front-of place bs (drop (place + 1) bs) (omega (arith, lt));
        spans = ap all_spans rest ∙ sym (all-next place bs [] lt ∙ ap (λ (l : List Span). l ++ all_spans (drop (place + 1) bs)) (no_items (get_or bs place []) none));
        filled = subst AreFilled (sym rest) f;
        dense = λ h. subst AreDense (sym rest) h;
      }

  -- it has some, and the next may go into it
  pub settled-kept : 0 < length (get_or bs place []) → length (get_or bs place []) ≤ 128 → AreJoinedAt (place + 1) bs new → IsSettled place bs new
  settled-kept some short j =
      let on : place + 1 - 1 ≡ place = omega arith in
      let l = length-take (place + 1) bs in
      let m = length-drop place (take (place + 1) bs) in
      record {
        before = ap (λ (k : ℕ). take k new) (sym on) ∙ j.before ∙ ap (λ (k : ℕ). take k bs) on;
        spans = j.spans place (omega arith);
        filled = j.filled place (omega arith) (subst AreFilled (sym (drop-cons-at bs place [] lt)) ((some, short), f));
        dense = λ h. j.dense place (omega arith) (dense-few (drop place (take (place + 1) bs)) (omega (arith, l, m))) h;
      }
