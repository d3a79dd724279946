-- Blocks no two of which could be one, and two that became one.
use Rattle.std.proofs.Common.{◌≡◌, ℕ, zero, suc, ◌+◌, ◌-◌, ◌*◌, ◌<◌, ◌≤◌, true, List, [], ◌∷◌, ◌++◌, length, get_or, take, drop, length-append, refl, sym, ap, subst, ◌∙◌, append_assoc, arith}
use Rattle.std.proofs.Math.ListN.{set}
use Rattle.std.proofs.Math.Seq.{take-append_seam, drop-append_seam, take-append-add, drop-append-add}
use Rattle.std.proofs.lemmas.List.{length-take, drop-append-le}
use Rattle.spans.specs.Spans.{Span, ascend}
use Rattle.spans.specs.Blocks.{all_spans, needed, AreFilled, AreDense, AreStacked, AreJoinedAt}
use Rattle.spans.proofs.Ascending.{ascend-left}
use Rattle.spans.proofs.Lists.{parts_of, drop-cons-at, removed-get, removed-set}
use Rattle.spans.proofs.Stacked.{IsFilled, all-append, all-parted, all_joined, later}
use Rattle.spans.proofs.Needs.{needed-one}

-- from a place on the same intervals stand in blocks as a map's
pub record IsSettled (i : ℕ) (old new : List (List Span)) : Type 0 where
  pub before : take i new ≡ take i old
  pub spans : all_spans (drop i new) ≡ all_spans (drop i old)
  pub filled : AreFilled (drop i new)
  pub dense : AreDense (drop (i + 1) old) → AreDense (drop i new)

pub dense-drop : (i : ℕ) (bs : List (List Span)) → AreDense bs → AreDense (drop i bs)
dense-drop zero bs h = h
dense-drop (suc i) [] h = tt
dense-drop (suc i) (b ∷ bs) h = dense-drop i bs h.1

pub dense-take : (i : ℕ) (bs : List (List Span)) → AreDense bs → AreDense (take i bs)
dense-take zero bs h = tt
dense-take (suc i) [] h = tt
dense-take (suc zero) (b ∷ bs) h = (tt, tt)
dense-take (suc (suc i)) (b ∷ []) h = (tt, tt)
dense-take (suc (suc i)) (b ∷ c ∷ bs) h = (h.0, dense-take (suc i) (c ∷ bs) h.1)

pub dense-few : (bs : List (List Span)) → length bs ≤ 1 → AreDense bs
dense-few [] le = tt
dense-few (b ∷ []) le = (tt, tt)
dense-few (b ∷ c ∷ bs) le = absurd (omega arith)

-- a block grew
pub dense-grown : (a b : List Span) (bs : List (List Span)) → length a ≤ length b → AreDense (a ∷ bs) → AreDense (b ∷ bs)
dense-grown a b [] le h = (tt, tt)
dense-grown a b (c ∷ bs) le h = (omega (arith, le, h.0), h.1)

-- so there are few of them
pub dense-count : (bs : List (List Span)) → AreDense bs → 113 * length bs ≤ 2 * length (all_spans bs) + 113
dense-count [] h = omega arith
dense-count (a ∷ []) h = omega arith
dense-count (a ∷ b ∷ bs) h =
    let r = dense-count bs h.1.1 in
    let l = length-append a (b ++ all_spans bs) in
    let m = length-append b (all_spans bs) in
    omega (arith, r, l, m, h.0)

-- ---- one more behind them

-- how long the last of them is; without one, as long as can be
abbrev pub last_long : List (List Span) → ℕ
last_long [] = 128
last_long (b ∷ []) = length b
last_long (b ∷ c ∷ bs) = last_long (c ∷ bs)

pub last_long-more : (bs : List (List Span)) (part : List Span) → last_long (bs ++ part ∷ []) ≡ length part
last_long-more [] part = refl
last_long-more (b ∷ []) part = refl
last_long-more (b ∷ c ∷ bs) part = last_long-more (c ∷ bs) part

pub dense-more : (bs : List (List Span)) (part : List Span) → AreDense bs → 112 < last_long bs + length part → AreDense (bs ++ part ∷ [])
dense-more [] part h lt = (tt, tt)
dense-more (b ∷ []) part h lt = (lt, (tt, tt))
dense-more (b ∷ c ∷ bs) part h lt = (h.0, dense-more (c ∷ bs) part h.1 lt)

-- ---- where two parts meet

dense-meet : (j : ℕ) (bs : List (List Span)) → AreDense (take (suc j) bs) → AreDense (drop (suc j) bs) → (suc j < length bs → (d : List Span) → 112 < length (get_or bs j d) + length (get_or bs (suc j) d)) → AreDense bs
dense-meet j [] h k long = tt
dense-meet j (b ∷ []) h k long = (tt, tt)
dense-meet zero (b ∷ c ∷ bs) h k long = (long (omega arith) b, k)
dense-meet (suc j) (b ∷ c ∷ bs) h k long = (h.0, dense-meet j (c ∷ bs) h.1 k (λ lt d. long (omega arith) d))

dense-both : (i j : ℕ) (bs : List (List Span)) → i ≤ j → AreDense (drop i (take (suc j) bs)) → AreDense (drop (suc j) bs) → (suc j < length bs → (d : List Span) → 112 < length (get_or bs j d) + length (get_or bs (suc j) d)) → AreDense (drop i bs)
dense-both zero j bs le h k long = dense-meet j bs h k long
dense-both (suc i) zero bs le h k long = absurd (omega arith)
dense-both (suc i) (suc j) [] le h k long = tt
dense-both (suc i) (suc j) (b ∷ bs) le h k long = dense-both i j bs (omega arith) h k (λ lt d. long (omega arith) d)

-- they stay two where they are long enough, or where there is no second one
stay : (j : ℕ) (bs : List (List Span)) → (suc j < length bs → (d : List Span) → 112 < length (get_or bs j d) + length (get_or bs (suc j) d)) → AreJoinedAt (suc j) bs bs
stay j bs long = record {
  before = refl;
  spans = λ i lt. refl;
  filled = λ i lt f. f;
  dense = λ i lt h k. dense-both i j bs (omega arith) h k long;
}

pub stay-two : (at : ℕ) (bs : List (List Span)) → 0 < at → (at < length bs → (d : List Span) → 112 < length (get_or bs (at - 1) d) + length (get_or bs at d)) → AreJoinedAt at bs bs
stay-two at bs some long =
    let on : suc (at - 1) ≡ at = omega (arith, some) in
    subst (λ (k : ℕ). AreJoinedAt k bs bs) on (stay (at - 1) bs (λ lt d.
    let same = ap (λ (k : ℕ). length (get_or bs k d)) on in
    let l = long (omega (arith, lt, on)) d in
    omega (arith, same, l)))

-- ---- two that became one

dense-joined : (xs : List (List Span)) (a b : List Span) (ys : List (List Span)) → AreDense (xs ++ a ∷ []) → AreDense (b ∷ ys) → AreDense (xs ++ (a ++ b) ∷ ys)
dense-joined [] a b ys h k = let l = length-append a b in dense-grown b (a ++ b) ys (omega arith) k
dense-joined (x ∷ []) a b ys h k = let l = length-append a b in (omega (arith, h.0, l), dense-joined [] a b ys (tt, tt) k)
dense-joined (x ∷ y ∷ xs) a b ys h k = (h.0, dense-joined (y ∷ xs) a b ys h.1 k)

filled-parts : (xs ys : List (List Span)) → AreFilled (xs ++ ys) → AreFilled xs × AreFilled ys
filled-parts [] ys f = (tt, f)
filled-parts (x ∷ xs) ys f = let p = filled-parts xs ys f.1 in ((f.0, p.0), p.1)

module _ (xs : List (List Span)) (a b : List Span) (ys : List (List Span)) where
  one-spans : (i : ℕ) → i ≤ length xs → all_spans (drop i (xs ++ (a ++ b) ∷ ys)) ≡ all_spans (drop i (xs ++ a ∷ b ∷ ys))
  one-spans i le =
      ap all_spans (drop-append-le i xs ((a ++ b) ∷ ys) le) ∙ all-append (drop i xs) ((a ++ b) ∷ ys)
      ∙ ap (λ l. all_spans (drop i xs) ++ l) (append_assoc a b (all_spans ys))
      ∙ sym (ap all_spans (drop-append-le i xs (a ∷ b ∷ ys) le) ∙ all-append (drop i xs) (a ∷ b ∷ ys))

  one-filled : (i : ℕ) → i ≤ length xs → length a + length b ≤ 112 → AreFilled (drop i (xs ++ a ∷ b ∷ ys)) → AreFilled (drop i (xs ++ (a ++ b) ∷ ys))
  one-filled i le short f =
      let l = length-append a b in
      let p = filled-parts (drop i xs) (a ∷ b ∷ ys) (subst AreFilled (drop-append-le i xs (a ∷ b ∷ ys) le) f) in
      subst AreFilled (sym (drop-append-le i xs ((a ++ b) ∷ ys) le))
      (all_joined IsFilled (drop i xs) ((a ++ b) ∷ ys) p.0 ((omega (arith, l, p.1.0.0), omega (arith, l, short)), p.1.1.1))

  one-dense : (i : ℕ) → i ≤ length xs → AreDense (drop i (take (length xs + 1) (xs ++ a ∷ b ∷ ys))) → AreDense (drop (length xs + 1) (xs ++ a ∷ b ∷ ys)) → AreDense (drop i (xs ++ (a ++ b) ∷ ys))
  one-dense i le h k =
      let front : take (length xs + 1) (xs ++ a ∷ b ∷ ys) ≡ xs ++ a ∷ [] = take-append-add xs (a ∷ b ∷ ys) 1 in
      let rest : drop (length xs + 1) (xs ++ a ∷ b ∷ ys) ≡ b ∷ ys = drop-append-add xs (a ∷ b ∷ ys) 1 in
      let low = subst AreDense (ap (drop i) front ∙ drop-append-le i xs (a ∷ []) le) h in
      subst AreDense (sym (drop-append-le i xs ((a ++ b) ∷ ys) le)) (dense-joined (drop i xs) a b ys low (subst AreDense rest k))

  become-one : length a + length b ≤ 112 → AreJoinedAt (length xs + 1) (xs ++ a ∷ b ∷ ys) (xs ++ (a ++ b) ∷ ys)
  become-one short =
      let on : length xs + 1 - 1 ≡ length xs = omega arith in
      record {
        before =
            ap (λ (k : ℕ). take k (xs ++ (a ++ b) ∷ ys)) on ∙ take-append_seam xs ((a ++ b) ∷ ys)
            ∙ sym (ap (λ (k : ℕ). take k (xs ++ a ∷ b ∷ ys)) on ∙ take-append_seam xs (a ∷ b ∷ ys));
        spans = λ i lt. one-spans i (omega arith);
        filled = λ i lt f. one-filled i (omega arith) short f;
        dense = λ i lt h k. one-dense i (omega arith) h k;
      }

-- the block at a place is taken out, and the one before it has its intervals behind its own
module _ (old rem : List (List Span)) (at : ℕ) (here next : List Span) (some : 0 < at) (lt : at < length old) (removed : rem ≡ take at old ++ drop (at + 1) old) (is : here ≡ get_or rem (at - 1) here) (after : next ≡ get_or old at next) where
  xs : List (List Span)
  xs = take (at - 1) old

  ys : List (List Span)
  ys = drop (at + 1) old

  xs_long : length xs + 1 ≡ at
  unfolding xs
  xs_long = let l = length-take (at - 1) old in omega (arith, l, some, lt)

  old_is : xs ++ here ∷ next ∷ ys ≡ old
  unfolding xs ys
  old_is =
      let on : at - 1 + 1 ≡ at = omega (arith, some) in
      let first : get_or old (at - 1) here ≡ here = sym (is ∙ ap (λ l. get_or l (at - 1) here) removed ∙ removed-get old at some lt here) in
      sym (parts_of old (at - 1) here (omega (arith, some, lt))
      ∙ ap (λ (x : List Span). take (at - 1) old ++ x ∷ drop (at - 1 + 1) old) first
      ∙ ap (λ l. take (at - 1) old ++ here ∷ l) (ap (λ (k : ℕ). drop k old) on ∙ drop-cons-at old at next lt ∙ ap (λ (x : List Span). x ∷ drop (at + 1) old) (sym after)))

  pub joined-ascends : ascend 0 (all_spans (drop (at - 1) old)) ≡ true → ascend 0 (here ++ next) ≡ true
  unfolding xs ys
  joined-ascends up =
      let l = xs_long in
      let on : at - 1 ≡ length (take (at - 1) old) = omega (arith, l) in
      let parts : drop (at - 1) old ≡ here ∷ next ∷ drop (at + 1) old = ap (drop (at - 1)) (sym old_is) ∙ ap (λ (k : ℕ). drop k (take (at - 1) old ++ here ∷ next ∷ drop (at + 1) old)) on ∙ drop-append_seam (take (at - 1) old) (here ∷ next ∷ drop (at + 1) old) in
      ascend-left 0 (here ++ next) (all_spans (drop (at + 1) old)) (ap (ascend 0) (append_assoc here next (all_spans (drop (at + 1) old))) ∙ ap (λ l. ascend 0 (all_spans l)) (sym parts) ∙ up)

  module _ (both : List Span) (same : both ≡ here ++ next) where
    new_is : set rem (at - 1) both ≡ xs ++ (here ++ next) ∷ ys
    unfolding xs ys
    new_is = ap (λ l. set l (at - 1) both) removed ∙ removed-set old at some lt both ∙ ap (λ (x : List Span). take (at - 1) old ++ x ∷ drop (at + 1) old) same

    pub joined-at : length here + length next ≤ 112 → AreJoinedAt at old (set rem (at - 1) both)
    unfolding xs ys
    joined-at short =
        subst (λ (k : ℕ). AreJoinedAt k old (set rem (at - 1) both)) xs_long
        (subst (λ (l : List (List Span)). AreJoinedAt (length (take (at - 1) old) + 1) l (set rem (at - 1) both)) old_is
        (subst (λ (l : List (List Span)). AreJoinedAt (length (take (at - 1) old) + 1) (take (at - 1) old ++ here ∷ next ∷ drop (at + 1) old) l) (sym new_is)
        (become-one (take (at - 1) old) here next (drop (at + 1) old) short)))

    pub joined-needs : AreStacked old → (runs : _) → needed (set rem (at - 1) both) runs ≤ 1 + needed old runs
    unfolding xs ys
    joined-needs s runs =
        let f = filled-parts (take (at - 1) old) (here ∷ next ∷ drop (at + 1) old) (subst AreFilled (sym old_is) s.filled) in
        let up = later 0 0 (length (take (at - 1) old)) (take (at - 1) old ++ here ∷ next ∷ drop (at + 1) old) (ap (λ l. ascend 0 (all_spans l)) old_is ∙ s.ascending) (omega arith) in
        let behind = ap (λ l. ascend 0 (all_spans l)) (sym (drop-append_seam (take (at - 1) old) (here ∷ next ∷ drop (at + 1) old))) ∙ up in
        let n = needed-one (take (at - 1) old) here next (drop (at + 1) old) 0 f.1 behind runs in
        let now = ap (λ l. needed l runs) new_is in
        let was = ap (λ l. needed l runs) old_is in
        omega (arith, n, now, was)

-- ---- a block that got shorter

pub settled-all : (i : ℕ) (old new : List (List Span)) → IsSettled i old new → all_spans new ≡ all_spans old
settled-all i old new s = all-parted i new ∙ ap (λ l. all_spans l ++ all_spans (drop i new)) s.before ∙ ap (λ l. all_spans (take i old) ++ l) s.spans ∙ sym (all-parted i old)
