-- Runs that get a number, or none, from the block on that they belong to: what that leaves of all blocks.
use Rattle.std.proofs.Common.{◌≡◌, ℕ, zero, suc, ◌+◌, ◌-◌, ◌<◌, ◌≤◌, Bool, true, false, ◌||◌, cond, leb, ltb, List, [], ◌∷◌, ◌++◌, length, get_or, take, drop, Option, Some, None, length-append, refl, sym, ap, subst, ◌∙◌, append_assoc, append-nil, arith}
use Rattle.std.specs.Option.{option_map_or}
use Rattle.std.specs.List.{AllByRecursion}
use Rattle.std.proofs.lemmas.List.{take-set-le, take-append-drop, length-take, length-drop, take_more, take_all, take-take, drop-take, get_or-drop, drop-set, drop_all}
use Rattle.std.proofs.lemmas.Bool.{ltb-true, ltb-false}
use Rattle.std.proofs.lemmas.Bool.Decides.{nat_tests}
use Rattle.std.proofs.Math.ListN.{set}
use Rattle.base.specs.Pages.{PageRun, in_run, covers, rise}
use Rattle.spans.specs.Spans.{Span, value_at, end_of, ascend, end_from, are_joined}
use Rattle.spans.specs.Search.{begins_at}
use Rattle.spans.specs.Edits.{all_from, IsSame, IsMerged}
use Rattle.spans.specs.Blocks.{all_spans, needed, more_blocks, AreFilled, AreStacked, IsGroup, BelongTo, IsSetFrom, HasTakenIn, AreDense}
use Rattle.spans.specs.declared.place.Group.{Group}
use Rattle.spans.proofs.Ascending.{far, ascend-left, ascend-right, ascend-append, value_at-append, value_at-behind, value_at-ahead, in_first}
use Rattle.spans.proofs.Parting.{all_from-above, ascend-all_from, ascend-all_from_same, value_at-all_from}
use Rattle.spans.proofs.Joined.{none_there, joined-left, joined-right, joined-apart, joined-both, joined-from}
use Rattle.spans.proofs.Same.{same-self, same-before}
use Rattle.spans.proofs.Stacked.{from_page, set-ascends, set-at, before-ascends, before-at, all-parted, all-next, block-ascends, block-begins, filled_front, filled_rest, filled_at, filled_both, later}
use Rattle.spans.proofs.Runs.{rise_low, rise_taken, rise_dropped, covers_from, covers_within}
use Rattle.spans.proofs.Needs.{group-before, group-needs, needed-place}

-- a page that has a number is between the ends
pub page_in : (e : ℕ) (ss : List Span) (n v : ℕ) → ascend e ss ≡ true → value_at ss n ≡ Some v → (e ≤ n) × (n < end_from e ss)
page_in e ss n v h is = (
  elim (ltb n e) as (λ b. ltb n e ≡ b → e ≤ n) [
    | true ↦ λ t. absurd (none_there (value_at ss n) v (value_at-ahead e ss n h (ltb-true _ _ t)) is)
    | false ↦ λ t. ltb-false _ _ t
  ] refl,
  elim (ltb n (end_from e ss)) as (λ b. ltb n (end_from e ss) ≡ b → n < end_from e ss) [
    | true ↦ λ t. ltb-true _ _ t
    | false ↦ λ t. absurd (none_there (value_at ss n) v (value_at-behind e ss n h (ltb-false _ _ t)) is)
  ] refl,
)

-- ---- one block, of which the first intervals stay

module _ (old out : List Span) (kept : ℕ) (runs : List PageRun) (value : Option ℕ) (first : PageRun) (some : 0 < length runs) (is : first ≡ get_or runs 0 first) (h : ascend 0 old ≡ true)
    (below : end_from 0 (take kept old) ≤ first.first - 1) (rises : rise 0 runs ≡ true) (merged : IsMerged runs value (drop kept old) out) where
  xs : List Span
  xs = take kept old

  ys : List Span
  ys = drop kept old

  whole : xs ++ ys ≡ old
  unfolding xs ys
  whole = take-append-drop kept old

  all : ascend 0 (xs ++ ys) ≡ true
  all = ap (ascend 0) whole ∙ h

  from_first : (n : ℕ) → covers runs n ≡ true → first.first ≤ n
  from_first n t = covers_from first.first runs n (rise_low first.first runs (λ d lt. first_at runs first d some is) rises) t
    where
      first_at : (runs : List PageRun) (first d : PageRun) → 0 < length runs → first ≡ get_or runs 0 first → first.first ≤ (get_or runs 0 d).first
      first_at [] first d some is = absurd (omega arith)
      first_at (r ∷ runs) first d some is = let e = ap (λ (x : PageRun). x.first) is in omega arith

  left : (n : ℕ) → n < first.first → value_at out n ≡ value_at ys n
  unfolding ys
  left n lt = merged.at n ∙ elim (covers runs n) as (λ b. covers runs n ≡ b → cond b value (value_at (drop kept old) n) ≡ value_at (drop kept old) n) [
    | true ↦ λ t. let f = from_first n t in absurd (omega arith)
    | false ↦ λ t. refl
  ] refl

  out_from : ascend (end_from 0 xs) out ≡ true
  unfolding xs ys
  out_from = from_page 0 (end_from 0 xs) out merged.ascending (λ n lt. left n (omega (arith, below, lt)) ∙ value_at-ahead (end_from 0 xs) ys n (ascend-right 0 xs ys all) lt)

  both : ascend 0 (xs ++ out) ≡ true
  both = ascend-append 0 xs out (ascend-left 0 xs ys all) out_from

  pub kept-merged : IsMerged runs value old (take kept old ++ out)
  unfolding xs ys
  kept-merged = record {
    ascending = both;
    at = λ n.
        before-at xs ys out n (covers runs n) value (λ t. let f = from_first n t in value_at-behind 0 xs n (ascend-left 0 xs ys all) (omega (arith, below, f))) (merged.at n)
        ∙ ap (λ l. cond (covers runs n) value (value_at l n)) whole;
    joined = λ j.
        let k : are_joined (xs ++ ys) ≡ true = ap are_joined whole ∙ j in
        joined-both 0 xs out both (joined-left xs ys k) (merged.joined (joined-right xs ys k)) (λ n v a b.
        let p = page_in 0 xs n v (ascend-left 0 xs ys all) a in
        joined-apart 0 xs ys all k n v a (sym (left (n + 1) (omega (arith, below, p.1))) ∙ b));
    fewer =
        let l = length-append (take kept old) out in
        let m = length-append (take kept old) (drop kept old) in
        let w = ap length whole in
        omega (arith, l, m, w, merged.fewer);
  }

-- ---- one block, and what is taken in of those behind it

covered_end : (runs : List PageRun) (last : PageRun) (n : ℕ) → 0 < length runs → last ≡ get_or runs (length runs - 1) last → rise 0 runs ≡ true → covers runs n ≡ true → n < end_of last
covered_end runs last n some is rises t =
    let on : length runs - 1 + 1 ≡ length runs = omega arith in
    let whole : runs ≡ take (length runs - 1) runs ++ last ∷ [] =
    sym (take_all (length runs - 1 + 1) runs (omega arith)) ∙ take_more runs (length runs - 1) last (omega arith) ∙ ap (λ x. take (length runs - 1) runs ++ x ∷ []) (sym is) in
    (covers_within 0 (take (length runs - 1) runs) last n (ap (rise 0) (sym whole) ∙ rises) (ap (λ (l : List PageRun). covers l n) (sym whole) ∙ t)).1

pub covered_last : (runs : List PageRun) (i : ℕ) (last : PageRun) (n : ℕ) → i < length runs → last ≡ get_or runs i last → in_run last n ≡ true → covers runs n ≡ true
covered_last [] i last n lt is t = absurd (omega arith)
covered_last (r ∷ runs) zero last n lt is t = let e : in_run r n ≡ true = ap (λ (x : PageRun). in_run x n) (sym is) ∙ t in rw e refl
covered_last (r ∷ runs) (suc i) last n lt is t = either (in_run r n) (covers runs n) (covered_last runs i last n (omega arith) is t)
  where
    either : (a b : Bool) → b ≡ true → (a || b) ≡ true
    either true b e = refl
    either false b e = e

or_else : (o p : Option ℕ) → o ≡ None → option_map_or (λ (v : ℕ). Some v) o p ≡ p
or_else o p e = rw e refl

module _ (here behind : List Span) (runs : List PageRun) (value : Option ℕ) (last : PageRun) (out out2 taken rest : List Span)
    (h : ascend 0 (here ++ behind) ≡ true) (j : are_joined (here ++ behind) ≡ true) (some : 0 < length runs) (is : last ≡ get_or runs (length runs - 1) last) (rises : rise 0 runs ≡ true)
    (next : ascend last.first behind ≡ true) (merged : IsMerged runs value here out) (parted : all_from (end_of last) behind ≡ taken ++ rest) (same : IsSame (out ++ taken) out2)
    (above : ascend (end_of last + 1) rest ≡ true) (j2 : are_joined out2 ≡ true) where
  end : ℕ
  end = end_of last

  hit_end : (n : ℕ) → covers runs n ≡ true → n < end_of last
  hit_end n t = covered_end runs last n some is rises t

  cut : List Span
  cut = all_from (end_of last) behind

  here_up : ascend 0 here ≡ true
  here_up = ascend-left 0 here behind h

  behind_up : ascend (end_from 0 here) behind ≡ true
  behind_up = ascend-right 0 here behind h

  cut_up : ascend (end_of last) cut ≡ true
  unfolding cut
  cut_up = ascend-all_from (end_of last) last.first behind next

  both_up : ascend 0 (here ++ cut) ≡ true
  unfolding cut
  both_up = ascend-append 0 here (all_from (end_of last) behind) here_up (ascend-all_from_same (end_of last) (end_from 0 here) behind behind_up)

  inside : (n : ℕ) → covers runs n ≡ true → (0 ≤ n) × (n < end_of last)
  inside n t = (omega arith, hit_end n t)

  mid_up : ascend 0 (out ++ cut) ≡ true
  mid_up = set-ascends 0 (end_of last) here out cut (covers runs) value both_up cut_up merged.ascending merged.at inside

  mid_at : (n : ℕ) → value_at (out ++ cut) n ≡ cond (covers runs n) value (value_at (here ++ cut) n)
  mid_at n = set-at 0 (end_of last) here out cut (covers runs) value both_up cut_up merged.ascending merged.at inside n

  -- nothing is lost of pages that are in no run
  kept : (n : ℕ) → covers runs n ≡ false → value_at cut n ≡ value_at behind n
  unfolding cut
  kept n free = value_at-all_from (end_of last) behind n ∙ elim (leb (end_of last) n) as (λ b. leb (end_of last) n ≡ b → cond b (value_at behind n) None ≡ value_at behind n) [
    | true ↦ λ t. refl
    | false ↦ λ t. elim (ltb n last.first) as (λ b. ltb n last.first ≡ b → None ≡ value_at behind n) [
      | true ↦ λ u. sym (value_at-ahead last.first behind n next (ltb-true _ _ u))
      | false ↦ λ u.
          let in_last : in_run last n ≡ true = grind (arith, nat_tests) in
          let yes = covered_last runs (length runs - 1) last n (omega arith) is in_last in
          absurd (cc)
    ] refl
  ] refl

  now : IsSame (out ++ cut) (out2 ++ rest)
  unfolding cut
  now = subst (λ (l : List Span). IsSame l (out2 ++ rest)) (append_assoc out taken rest ∙ ap (λ l. out ++ l) (sym parted)) (same-before (out ++ taken) out2 rest same)

  pub edited-ascends : ascend 0 (out2 ++ rest) ≡ true
  edited-ascends = let s = now in s.ascends 0 mid_up

  pub edited-at : (n : ℕ) → value_at (out2 ++ rest) n ≡ cond (covers runs n) value (value_at (here ++ behind) n)
  edited-at n = let s = now in s.at n ∙ mid_at n ∙ elim (covers runs n) as (λ b. covers runs n ≡ b → cond b value (value_at (here ++ cut) n) ≡ cond b value (value_at (here ++ behind) n)) [
    | true ↦ λ t. refl
    | false ↦ λ t. value_at-append here cut n ∙ ap (λ o. option_map_or (λ (v : ℕ). Some v) (value_at here n) o) (kept n t) ∙ sym (value_at-append here behind n)
  ] refl

  parts_up : ascend (end_of last) (taken ++ rest) ≡ true
  unfolding cut
  parts_up = ap (ascend (end_of last)) (sym parted) ∙ cut_up

  parts_joined : are_joined (taken ++ rest) ≡ true
  parts_joined = ap are_joined (sym parted) ∙ joined-from (end_of last) (end_from 0 here) behind behind_up (joined-right here behind j)

  apart : (n v : ℕ) → value_at out2 n ≡ Some v → value_at rest (n + 1) ≡ Some v → ⊥
  unfolding cut
  apart n v a b =
      let p = page_in (end_of last + 1) rest (n + 1) v above b in
      let free : covers runs n ≡ false = elim (covers runs n) as (λ q. covers runs n ≡ q → q ≡ false) [
        | true ↦ λ t. let e = hit_end n t in absurd (omega (arith, e, p.0))
        | false ↦ λ t. refl
      ] refl in
      let first : value_at out n ≡ value_at here n = merged.at n ∙ rw free refl in
      let both : value_at out2 n ≡ option_map_or (λ (x : ℕ). Some x) (value_at out n) (value_at taken n) = same.at n ∙ value_at-append out taken n in
      let q = page_in (end_from (end_of last) taken) rest (n + 1) v (ascend-right (end_of last) taken rest parts_up) b in
      let none = value_at-behind (end_of last) taken (n + 1) (ascend-left (end_of last) taken rest parts_up) q.0 in
      let there : value_at behind (n + 1) ≡ Some v =
      sym (value_at-all_from (end_of last) behind (n + 1) ∙ (let t : leb (end_of last) (n + 1) ≡ true = grind (arith, nat_tests, p.0) in rw t refl))
      ∙ ap (λ l. value_at l (n + 1)) parted ∙ value_at-append taken rest (n + 1) ∙ or_else (value_at taken (n + 1)) (value_at rest (n + 1)) none ∙ b in
      of_two (value_at out n) refl (sym both ∙ a) first there
    where
      of_two : (o : Option ℕ) → value_at out n ≡ o → option_map_or (λ (x : ℕ). Some x) o (value_at taken n) ≡ Some v → value_at out n ≡ value_at here n → value_at behind (n + 1) ≡ Some v → ⊥
      of_two None e k f t = joined-apart (end_of last) taken rest parts_up parts_joined n v k b
      of_two (Some x) e k f t = let same : Some x ≡ Some v = k in joined-apart 0 here behind h j n v (sym f ∙ e ∙ same) t

  pub edited-joined : are_joined (out2 ++ rest) ≡ true
  edited-joined = joined-both 0 out2 rest edited-ascends j2 (joined-right taken rest parts_joined) apart

pub none-taken : (page : ℕ) (out : List Span) (bs : List (List Span)) → ascend (page + 1) (all_spans bs) ≡ true → AreFilled bs → HasTakenIn page out bs out bs
none-taken page out bs above f = record {
  taken = [];
  parted = all_from-above page (all_spans bs) (far page (page + 1) (all_spans bs) (omega arith) above);
  same = subst (λ (l : List Span). IsSame l out) (sym (append-nil out)) (same-self out);
  above = above;
  filled = f;
}

-- ---- all blocks from that one on

module _ (old : List (List Span)) (place : ℕ) (runs : List PageRun) (value : Option ℕ) (d : List Span) (g : BelongTo runs old place) (last : PageRun) (is : last ≡ get_or runs (length runs - 1) last) where
  block : List Span
  block = get_or old place d

  behind_it : List Span
  behind_it = all_spans (drop (place + 1) old)

  split : all_spans (drop place old) ≡ block ++ behind_it
  unfolding block behind_it
  split = all-next place old d g.inside

  pub belong-ascends : ascend 0 (get_or old place d ++ all_spans (drop (place + 1) old)) ≡ true
  unfolding block behind_it
  belong-ascends = ap (ascend 0) (sym split) ∙ later 0 0 place old g.tidy.stacked.ascending (omega arith)

  pub belong-joined : are_joined (get_or old place d ++ all_spans (drop (place + 1) old)) ≡ true
  unfolding block behind_it
  belong-joined = ap are_joined (sym split) ∙ joined-right (all_spans (take place old)) (all_spans (drop place old)) (ap are_joined (sym (all-parted place old)) ∙ g.joined)

  next_first : ascend last.first behind_it ≡ true
  unfolding behind_it
  next_first = ap (λ (r : PageRun). ascend r.first (all_spans (drop (place + 1) old))) is ∙ g.next last

  -- once the block, and what is taken in of those behind it, stand in other blocks
  pub edited-by : (out out2 : List Span) (rest new : List (List Span)) → IsMerged runs value (get_or old place d) out → HasTakenIn (end_of last) out (drop (place + 1) old) out2 rest → are_joined out2 ≡ true
      → take place new ≡ take place old → all_spans (drop place new) ≡ out2 ++ all_spans rest → IsSetFrom runs value old place new
  unfolding block behind_it
  edited-by out out2 rest new merged t j2 before spans = record {
    before = before;
    ascending = ap (ascend 0) spans ∙ edited-ascends block behind_it runs value last out out2 t.taken (all_spans rest) belong-ascends belong-joined g.some is g.rises next_first merged t.parted t.same t.above j2;
    at = λ n.
        ap (λ l. value_at l n) spans ∙ edited-at block behind_it runs value last out out2 t.taken (all_spans rest) belong-ascends belong-joined g.some is g.rises next_first merged t.parted t.same t.above j2 n
        ∙ ap (λ l. cond (covers runs n) value (value_at l n)) (sym split);
    joined = ap are_joined spans ∙ edited-joined block behind_it runs value last out out2 t.taken (all_spans rest) belong-ascends belong-joined g.some is g.rises next_first merged t.parted t.same t.above j2;
  }

  pub taken-ascends : (out out2 : List Span) (rest : List (List Span)) → IsMerged runs value (get_or old place d) out → HasTakenIn (end_of last) out (drop (place + 1) old) out2 rest → are_joined out2 ≡ true → ascend 0 out2 ≡ true
  unfolding block behind_it
  taken-ascends out out2 rest merged t j2 =
      ascend-left 0 out2 (all_spans rest) (edited-ascends block behind_it runs value last out out2 t.taken (all_spans rest) belong-ascends belong-joined g.some is g.rises next_first merged t.parted t.same t.above j2)

  -- the block has other intervals
  pub refilled : (b : List Span) (put : List (List Span)) → put ≡ set old place b → IsMerged runs value (get_or old place d) b → ascend (end_of last + 1) (all_spans (drop (place + 1) old)) ≡ true → IsSetFrom runs value old place put
  unfolding block behind_it
  refilled b put is merged above =
      edited-by b b (drop (place + 1) old) put merged (none-taken (end_of last) b (drop (place + 1) old) above (filled_rest (place + 1) old g.tidy.stacked.filled)) (merged.joined (joined-left block behind_it belong-joined))
      (ap (take place) is ∙ take-set-le place old place b (omega arith))
      (ap all_spans (ap (drop place) is ∙ drop-set old place b g.inside))

  -- a page of the runs has the number in what is merged, and in what stands for it
  pub some-merged : (v : ℕ) (out out2 taken : List Span) → value ≡ Some v → 0 < last.count → IsMerged runs value (get_or old place d) out → IsSame (out ++ taken) out2 → 0 < length out2
  some-merged v out out2 taken is_value count merged same =
      let yes = covered_last runs (length runs - 1) last last.first (let s = g.some in omega arith) is (in_first last count) in
      let there : value_at out last.first ≡ Some v = merged.at last.first ∙ rw yes is_value in
      let here : value_at out2 last.first ≡ Some v = same.at last.first ∙ value_at-append out taken last.first ∙ rw there refl in
      has_some out2 here
    where
      has_some : (ss : List Span) → value_at ss last.first ≡ Some v → 0 < length ss
      has_some [] e = absurd cc
      has_some (s ∷ ss) e = omega arith

-- the same intervals in other blocks
pub edited-as : (runs : List PageRun) (value : Option ℕ) (old : List (List Span)) (place : ℕ) (mid new : List (List Span)) → IsSetFrom runs value old place mid → take place new ≡ take place mid → all_spans (drop place new) ≡ all_spans (drop place mid) → IsSetFrom runs value old place new
edited-as runs value old place mid new e before spans = record {
  before = before ∙ e.before;
  ascending = ap (ascend 0) spans ∙ e.ascending;
  at = λ n. ap (λ l. value_at l n) spans ∙ e.at n;
  joined = ap are_joined spans ∙ e.joined;
}

-- where pages have a number, there is a block
pub edited-some : (old new : List (List Span)) (place : ℕ) (runs : List PageRun) (value : Option ℕ) (v : ℕ) (last : PageRun) → IsSetFrom runs value old place new → value ≡ Some v → last ≡ get_or runs (length runs - 1) last → 0 < length runs → 0 < last.count → 0 < length new
edited-some old new place runs value v last e is there some count =
    let yes = covered_last runs (length runs - 1) last last.first (omega arith) there (in_first last count) in
    let here : value_at (all_spans (drop place new)) last.first ≡ Some v = e.at last.first ∙ rw yes is in
    elim (ltb 0 (length new)) as (λ b. ltb 0 (length new) ≡ b → 0 < length new) [
      | true ↦ λ t. ltb-true _ _ t
      | false ↦ λ t.
          let le = ltb-false _ _ t in
          let none : value_at (all_spans (drop place new)) last.first ≡ None = ap (λ l. value_at (all_spans l) last.first) (drop_all place new (omega arith)) in
          absurd (none_there (value_at (all_spans (drop place new)) last.first) v none here)
    ] refl

-- ---- the blocks before it, too

module _ (old new : List (List Span)) (place : ℕ) (runs : List PageRun) (value : Option ℕ) (low : ℕ) (stacked : AreStacked old) (j : are_joined (all_spans old) ≡ true) (lt : place < length old)
    (below : end_from 0 (all_spans (take place old)) ≤ low) (above : ascend low (all_spans (drop place old)) ≡ true) (from : (n : ℕ) → covers runs n ≡ true → low ≤ n) (strict : 0 < place → (n : ℕ) → covers runs n ≡ true → low < n)
    (e : IsSetFrom runs value old place new) (filled_rest_new : AreFilled (drop place new)) where
  front : List Span
  front = all_spans (take place old)

  was_all : all_spans old ≡ front ++ all_spans (drop place old)
  unfolding front
  was_all = all-parted place old

  now_all : all_spans new ≡ front ++ all_spans (drop place new)
  unfolding front
  now_all = all-parted place new ∙ ap (λ l. all_spans l ++ all_spans (drop place new)) e.before

  up : ascend 0 (front ++ all_spans (drop place old)) ≡ true
  up = ap (ascend 0) (sym was_all) ∙ stacked.ascending

  front_up : ascend 0 front ≡ true
  front_up = ascend-left 0 front (all_spans (drop place old)) up

  pub group-from : ascend low (all_spans (drop place new)) ≡ true
  group-from = from_page 0 low (all_spans (drop place new)) e.ascending (λ n less. e.at n ∙ elim (covers runs n) as (λ b. covers runs n ≡ b → cond b value (value_at (all_spans (drop place old)) n) ≡ None) [
    | true ↦ λ t. let f = from n t in absurd (omega arith)
    | false ↦ λ t. value_at-ahead low (all_spans (drop place old)) n above less
  ] refl)

  new_up : ascend 0 (front ++ all_spans (drop place new)) ≡ true
  unfolding front
  new_up = before-ascends 0 low (all_spans (take place old)) (all_spans (drop place old)) (all_spans (drop place new)) up below group-from

  pub group-stacked : AreStacked new
  group-stacked = record {
    ascending = ap (ascend 0) now_all ∙ new_up;
    filled = filled_both place new (subst AreFilled (sym e.before) (filled_front place old stacked.filled)) filled_rest_new;
  }

  pub group-at : (n : ℕ) → value_at (all_spans new) n ≡ cond (covers runs n) value (value_at (all_spans old) n)
  unfolding front
  group-at n =
      ap (λ l. value_at l n) now_all
      ∙ before-at (all_spans (take place old)) (all_spans (drop place old)) (all_spans (drop place new)) n (covers runs n) value
      (λ t. let f = from n t in value_at-behind 0 (all_spans (take place old)) n front_up (omega (arith, below, f))) (e.at n)
      ∙ ap (λ l. cond (covers runs n) value (value_at l n)) (sym was_all)

  next_free : (n v : ℕ) → value_at front n ≡ Some v → covers runs (n + 1) ≡ false
  unfolding front
  next_free n v a =
      let p = page_in 0 (all_spans (take place old)) n v front_up a in
      elim (covers runs (n + 1)) as (λ b. covers runs (n + 1) ≡ b → b ≡ false) [
        | true ↦ λ t. elim (ltb 0 place) as (λ q. ltb 0 place ≡ q → true ≡ false) [
          | true ↦ λ u. let s = strict (ltb-true _ _ u) (n + 1) t in absurd (omega (arith, s, p.1, below))
          | false ↦ λ u.
              let z : place ≡ 0 = let l = ltb-false _ _ u in omega arith in
              let none : end_from 0 (all_spans (take place old)) ≡ 0 = rw z refl in
              absurd (omega (arith, none, p.1))
        ] refl
        | false ↦ λ t. refl
      ] refl

  pub group-joined : are_joined (all_spans new) ≡ true
  unfolding front
  group-joined =
      let k : are_joined (front ++ all_spans (drop place old)) ≡ true = ap are_joined (sym was_all) ∙ j in
      ap are_joined now_all
      ∙ joined-both 0 front (all_spans (drop place new)) new_up (joined-left front (all_spans (drop place old)) k) e.joined (λ n v a b.
      let free = next_free n v a in
      let same : value_at (all_spans (drop place new)) (n + 1) ≡ value_at (all_spans (drop place old)) (n + 1) = e.at (n + 1) ∙ rw free refl in
      joined-apart 0 front (all_spans (drop place old)) up k n v a (sym same ∙ b))

-- ---- where the block of a group begins, or the first page

pub record HasLow (bs : List (List Span)) (place : ℕ) (runs : List PageRun) (from : ℕ) : Type 0 where
  pub low : ℕ
  pub below : end_from 0 (all_spans (take place bs)) ≤ low
  pub above : ascend low (all_spans (drop place bs)) ≡ true
  pub most : AllByRecursion (λ run. run.first ≤ low) (take from runs)
  pub least : (r : PageRun) → low ≤ (get_or (drop from runs) 0 r).first
  pub strict : 0 < place → (r : PageRun) → low < (get_or (drop from runs) 0 r).first

pub low-of : (bs : List (List Span)) (runs : List PageRun) (group : Group) (d : List Span) → IsGroup bs runs group → AreFilled bs → ascend 0 (all_spans bs) ≡ true → group.place < length bs → group.from < length runs → HasLow bs group.place runs group.from
low-of bs runs group d g f up lt inside = elim (ltb 0 group.place) as (λ q. ltb 0 group.place ≡ q → HasLow bs group.place runs group.from) [
  | true ↦ λ t.
      let some : 0 < group.place = ltb-true _ _ t in
      let begun = block-begins bs group.place d lt up (filled_at group.place bs d f lt).0 in
      let begins : (r : PageRun) → begins_at (get_or bs group.place d) < (get_or (drop group.from runs) 0 r).first = λ r.
      let b = g.behind (group.from + 0) r d some (omega arith) (omega arith) in
      let e = ap (λ (x : PageRun). x.first) (get_or-drop group.from runs 0 r) in
      omega (arith, b, e) in
      record {
        low = begins_at (get_or bs group.place d);
        below = begun.0;
        above = ap (ascend (begins_at (get_or bs group.place d))) (all-next group.place bs d lt) ∙ begun.1;
        most = group-before bs runs group d g f up lt inside;
        least = λ r. let b = begins r in omega arith;
        strict = λ z r. begins r;
      }
  | false ↦ λ t.
      let place_zero : group.place ≡ 0 = grind (arith, nat_tests) in
      let from_zero : group.from ≡ 0 = g.first place_zero in
      let none : take group.place bs ≡ [] = rw place_zero refl in
      let no_runs : take group.from runs ≡ [] = rw from_zero refl in
      record {
        low = 0;
        below = subst (λ (l : List (List Span)). end_from 0 (all_spans l) ≤ 0) (sym none) (omega arith);
        above = ap (ascend 0) (all-next group.place bs d lt) ∙ far 0 (end_from 0 (all_spans (take group.place bs))) (get_or bs group.place d ++ all_spans (drop (group.place + 1) bs)) (omega arith) (block-ascends bs group.place d lt up);
        most = subst (AllByRecursion (λ (run : PageRun). run.first ≤ 0)) (sym no_runs) tt;
        least = λ r. omega arith;
        strict = λ z r. absurd (omega arith);
      }
] refl

-- ---- a group of runs that was found

module _ (old : List (List Span)) (runs : List PageRun) (left : ℕ) (group : Group) (stacked : AreStacked old) (j : are_joined (all_spans old) ≡ true) (rises : rise 0 runs ≡ true) (le : left ≤ length runs)
    (g : IsGroup old (take left runs) group) (lt : group.place < length old) (inside : group.from < length (take left runs)) where
  mine : List PageRun
  mine = drop group.from (take left runs)

  long : length mine ≡ left - group.from
  unfolding mine
  long = let l = length-take left runs in let m = length-drop group.from (take left runs) in omega arith

  pub group-mine : take (left - group.from) (drop group.from runs) ≡ drop group.from (take left runs)
  group-mine =
      let l = length-take left runs in
      let at : group.from + (left - group.from) ≡ left = omega arith in
      sym (drop-take group.from (left - group.from) runs) ∙ ap (λ (k : ℕ). drop group.from (take k runs)) at

  mine_rises : rise 0 mine ≡ true
  unfolding mine
  mine_rises = rise_dropped 0 group.from (take left runs) (rise_taken 0 left runs rises)

  pub group-belong : AreDense old → BelongTo (drop group.from (take left runs)) old group.place
  unfolding mine
  group-belong h = record {
    inside = lt;
    tidy = record { stacked = stacked; dense = h };
    joined = j;
    rises = mine_rises;
    some = let l = long in omega (arith, l, length-take left runs, inside);
    next = λ d.
        let l = length-drop group.from (take left runs) in
        let i : ℕ = length (drop group.from (take left runs)) - 1 in
        let same = ap (λ (r : PageRun). ascend r.first (all_spans (drop (group.place + 1) old))) (get_or-drop group.from (take left runs) i d) in
        same ∙ g.next (group.from + i) d (omega (arith, l, inside));
  }

  low : HasLow old group.place (take left runs) group.from
  low = low-of old (take left runs) group [] g stacked.filled stacked.ascending lt inside

  low_covers : (n : ℕ) → covers mine n ≡ true → low.low ≤ n
  unfolding mine
  low_covers n t = let k = low in covers_from k.low mine n (rise_low k.low mine (λ d some. k.least d) mine_rises) t

  low_strict : 0 < group.place → (n : ℕ) → covers mine n ≡ true → low.low < n
  unfolding mine
  low_strict z n t =
      let k = low in
      let f = covers_from (k.low + 1) mine n (rise_low (k.low + 1) mine (λ d some. let s = k.strict z d in omega arith) mine_rises) t in
      omega arith

  module _ (value : Option ℕ) (new : List (List Span)) (e : IsSetFrom (drop group.from (take left runs)) value old group.place new) (f : AreFilled (drop group.place new)) where
    pub left-stacked : AreStacked new
    unfolding mine
    left-stacked = let k = low in group-stacked old new group.place mine value k.low stacked j lt k.below k.above low_covers low_strict e f

    pub left-joined : are_joined (all_spans new) ≡ true
    unfolding mine
    left-joined = let k = low in group-joined old new group.place mine value k.low stacked j lt k.below k.above low_covers low_strict e f

    pub left-at : (n : ℕ) → value_at (all_spans new) n ≡ cond (covers (drop group.from (take left runs)) n) value (value_at (all_spans old) n)
    unfolding mine
    left-at n = let k = low in group-at old new group.place mine value k.low stacked j lt k.below k.above low_covers low_strict e f n

    inside_new : group.place ≤ length new
    inside_new =
        let a = length-take group.place new in
        let b = length-take group.place old in
        let s = ap length e.before in
        omega (arith, a, b, s, lt)

    -- what the group needs, and what is left
    pub left-needs : (d : List Span) → needed old (take left runs) ≡ needed new (take group.from runs) + more_blocks (length (get_or old group.place d)) (left - group.from)
    unfolding mine
    left-needs d =
        let k = low in
        let l = length-take left runs in
        let from = group-from old new group.place mine value k.low stacked j lt k.below k.above low_covers low_strict e f in
        let stacked_new = left-stacked in
        let none : group.place ≡ 0 → take group.from (take left runs) ≡ [] = λ z. ap (λ (n : ℕ). take n (take left runs)) (g.first z) in
        let a = group-needs old (take left runs) group d g stacked.filled stacked.ascending lt inside in
        let b = needed-place new group.place k.low (take group.from (take left runs)) inside_new f from k.most none stacked_new.filled in
        let c = ap (λ (m : List (List Span)). needed m (take group.from (take left runs))) e.before in
        let fewer : take group.from (take left runs) ≡ take group.from runs = take-take group.from left runs (omega (arith, l, inside)) in
        let f = ap (needed new) fewer in
        let taken : length (take left runs) ≡ left = omega arith in
        let m = ap (λ (n : ℕ). more_blocks (length (get_or old group.place d)) (n - group.from)) taken in
        omega (arith, a, b, c, f, m)
