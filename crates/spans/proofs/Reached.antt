-- Blocks that begin at a page or before it are taken out.
use Rattle.std.proofs.Common.{◌≡◌, ℕ, ◌+◌, ◌-◌, ◌<◌, ◌≤◌, true, List, [], ◌++◌, length, get_or, take, drop, sym, ap, subst, ◌∙◌, drop-drop, arith}
use Rattle.std.proofs.lemmas.List.{get_or-drop, get_or_default, length-drop}
use Rattle.spans.specs.Spans.{Span, ascend, end_from, are_joined}
use Rattle.spans.specs.Search.{begins_at}
use Rattle.spans.specs.Edits.{all_from, IsSame}
use Rattle.spans.specs.Blocks.{all_spans, AreBefore, AreDense, AreFilled, AreStacked, HasTakenIn}
use Rattle.spans.proofs.Ascending.{far}
use Rattle.spans.proofs.Stacked.{all-next, all-parted, block-begins, filled_at, filled_rest, front-ascends, later}
use Rattle.spans.proofs.Dense.{dense-drop}
use Rattle.spans.proofs.Joined.{joined-left, joined-right}
use Rattle.spans.proofs.Lists.{front-of, rest-of}
use Rattle.spans.proofs.Parting.{all_from-above, all_from-append, all_from-below}

module _ (bs : List (List Span)) (place count page : ℕ) (stacked : AreStacked bs) (inside : place < count) (before : AreBefore bs (page + 1) count) where
  last : List Span
  last = get_or bs (count - 1) []

  rest : List Span
  rest = all_spans (drop count bs)

  at_last : count - 1 < length bs
  at_last = omega (arith, inside, before.inside)

  on : count - 1 + 1 ≡ count
  on = omega (arith, inside)

  split : all_spans (drop (count - 1) bs) ≡ last ++ rest
  unfolding last rest
  split = all-next (count - 1) bs [] at_last ∙ ap (λ (k : ℕ). get_or bs (count - 1) [] ++ all_spans (drop k bs)) on

  -- the blocks from the place on
  ds : List (List Span)
  ds = drop place bs

  k : ℕ
  k = count - 1 - place

  ds_up : ascend 0 (all_spans ds) ≡ true
  unfolding ds
  ds_up = later 0 0 place bs stacked.ascending (omega arith)

  ds_last : drop k ds ≡ drop (count - 1) bs
  unfolding ds k
  ds_last = let e : place + (count - 1 - place) ≡ count - 1 = omega (arith, inside) in drop-drop (count - 1 - place) place bs ∙ ap (λ (n : ℕ). drop n bs) e

  k_in : k < length ds
  unfolding ds k
  k_in = let l = length-drop place bs in let a = at_last in omega (arith, l, a, inside)

  below : end_from 0 (all_spans (take k ds)) ≤ page
  unfolding ds k
  below =
      let filled = filled_rest place bs stacked.filled in
      let b = (block-begins (drop place bs) (count - 1 - place) [] k_in ds_up (filled_at (count - 1 - place) (drop place bs) [] filled k_in).0).0 in
      let e : place + (count - 1 - place) ≡ count - 1 = omega (arith, inside) in
      let same = ap begins_at (get_or-drop place bs (count - 1 - place) [] ∙ ap (λ (n : ℕ). get_or bs n []) e) in
      let from = before.before (count - 1) [] (omega (arith, inside)) in
      omega (arith, b, same, from)

  rest_up : ascend (page + 1) rest ≡ true
  unfolding rest
  rest_up = before.behind

  parted : all_from page (all_spans (drop place bs)) ≡ all_from page last ++ rest
  unfolding ds
  parted =
      ap (all_from page) (all-parted k ds) ∙ all_from-append page (all_spans (take k ds)) (all_spans (drop k ds))
      ∙ ap (λ l. l ++ all_from page (all_spans (drop k ds))) (all_from-below page 0 (all_spans (take k ds)) (front-ascends ds k [] k_in ds_up) below)
      ∙ ap (all_from page) (ap all_spans ds_last ∙ split) ∙ all_from-append page last rest
      ∙ ap (λ l. all_from page last ++ l) (all_from-above page rest (far page (page + 1) rest (omega arith) rest_up))

  pub last-joined : are_joined (all_spans bs) ≡ true → are_joined (get_or bs (count - 1) []) ≡ true
  unfolding last
  last-joined j = joined-left last rest (ap are_joined (sym split) ∙ joined-right (all_spans (take (count - 1) bs)) (all_spans (drop (count - 1) bs)) (ap are_joined (sym (all-parted (count - 1) bs)) ∙ j))

  -- those before the last of them went, and then the last
  module _ (mid new : List (List Span)) (drained : mid ≡ take place bs ++ drop (count - 1) bs) (removed : new ≡ take place mid ++ drop (place + 1) mid) where
    low : place ≤ length bs
    low = let a = at_last in omega (arith, inside, a)

    mid_front : take place mid ≡ take place bs
    mid_front = ap (take place) drained ∙ front-of place bs (drop (count - 1) bs) low

    mid_rest : drop place mid ≡ drop (count - 1) bs
    mid_rest = ap (drop place) drained ∙ rest-of place bs (drop (count - 1) bs) low

    pub mid-long : place < length mid
    mid-long =
        let l = length-drop place mid in
        let m = length-drop (count - 1) bs in
        let e = ap length mid_rest in
        let a = at_last in
        omega (arith, l, m, e, a)

    mid-last : (d : List Span) → get_or mid place d ≡ get_or bs (count - 1) d
    mid-last d =
        let e : place + 0 ≡ place = omega arith in
        let f : count - 1 + 0 ≡ count - 1 = omega arith in
        ap (λ (n : ℕ). get_or mid n d) (sym e) ∙ sym (get_or-drop place mid 0 d) ∙ ap (λ (l : List (List Span)). get_or l 0 d) mid_rest ∙ get_or-drop (count - 1) bs 0 d ∙ ap (λ (n : ℕ). get_or bs n d) f

    pub mid-last-is : (x : List Span) → x ≡ get_or mid place x → x ≡ get_or bs (count - 1) []
    mid-last-is x is = is ∙ mid-last x ∙ get_or_default bs (count - 1) x [] at_last

    pub new-rest : drop place new ≡ drop count bs
    new-rest =
        let l = mid-long in
        ap (drop place) removed ∙ rest-of place mid (drop (place + 1) mid) (omega (arith, l)) ∙ sym (drop-drop 1 place mid) ∙ ap (drop 1) mid_rest ∙ drop-drop 1 (count - 1) bs ∙ ap (λ (n : ℕ). drop n bs) on

    pub taken-in : (out out2 : List Span) → IsSame (out ++ all_from page (get_or bs (count - 1) [])) out2 → HasTakenIn page out (drop place bs) out2 (drop place new)
    unfolding last rest
    taken-in out out2 same = record {
      taken = all_from page (get_or bs (count - 1) []);
      parted = parted ∙ ap (λ l. all_from page (get_or bs (count - 1) []) ++ all_spans l) (sym new-rest);
      same = same;
      above = ap (λ l. ascend (page + 1) (all_spans l)) new-rest ∙ before.behind;
      filled = subst AreFilled (sym new-rest) (filled_rest count bs stacked.filled);
    }

    pub dense-left : AreDense bs → AreDense (drop place new)
    dense-left h = subst AreDense (sym new-rest) (dense-drop count bs h)
