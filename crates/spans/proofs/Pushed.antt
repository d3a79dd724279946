-- Blocks that are put before the one at a place.
use Rattle.std.proofs.Common.{◌≡◌, ℕ, ◌+◌, ◌-◌, true, false, ltb, ◌<◌, ◌≤◌, List, [], ◌∷◌, ◌++◌, length, take, drop, length-append, refl, sym, ap, ◌∙◌, append_assoc, append-nil, arith}
use Rattle.std.proofs.Math.Seq.{take-append_seam, drop-append_seam}
use Rattle.std.proofs.lemmas.List.{take-append-drop, length-take, length-drop}
use Rattle.spans.specs.Spans.{Span}
use Rattle.spans.specs.Blocks.{all_spans, AreDealt, AreParts, IsPart}
use Rattle.std.proofs.lemmas.Bool.{ltb-true, ltb-false}
use Rattle.spans.proofs.Lists.{front-of, rest-of, take_more_of}
use Rattle.spans.proofs.Stacked.{IsFilled, all-append, all_joined}
use Rattle.spans.proofs.Dense.{last_long, last_long-more, dense-more}

-- the first of the intervals stand in blocks, and so many parts are left
pub record AreDealing (spans : List Span) (done parts place at : ℕ) (old new : List (List Span)) : Type 0 where
  pub dealt : AreDealt (take done spans) place at old new
  pub one : done < length spans → parts ≡ 1 → 112 < last_long dealt.made + (length spans - done)
  pub last : done < length spans → 1 < parts → 81 ≤ last_long dealt.made

pub dealt-none : (place : ℕ) (bs : List (List Span)) → AreDealt [] place place bs bs
dealt-none place bs = record {
  made = [];
  list = sym (take-append-drop place bs);
  count = omega arith;
  spans = refl;
  filled = tt;
  dense = tt;
}

module _ (spans part : List Span) (place at : ℕ) (old mid new : List (List Span)) (p : AreDealt spans place at old mid) (le : place ≤ length old) (list : new ≡ take at mid ++ part ∷ drop at mid) (some : 0 < length part) (short : length part ≤ 128) where
  xs : List (List Span)
  xs = take place old ++ p.made

  ys : List (List Span)
  ys = drop place old

  whole : mid ≡ xs ++ ys
  unfolding xs ys
  whole = p.list ∙ sym (append_assoc (take place old) p.made (drop place old))

  long : at ≡ length xs
  unfolding xs
  long = let l = length-take place old in let m = length-append (take place old) p.made in omega (arith, p.count)

  before : take at mid ≡ xs
  before = ap (take at) whole ∙ ap (λ k. take k (xs ++ ys)) long ∙ take-append_seam xs ys

  behind : drop at mid ≡ ys
  behind = ap (drop at) whole ∙ ap (λ k. drop k (xs ++ ys)) long ∙ drop-append_seam xs ys

  pub dealt-more : 112 < last_long p.made + length part → AreDealt (spans ++ part) place (at + 1) old new
  unfolding xs ys
  dealt-more beside = record {
    made = p.made ++ part ∷ [];
    list =
        list ∙ ap (λ l. l ++ part ∷ drop at mid) before ∙ ap (λ l. (take place old ++ p.made) ++ part ∷ l) behind
        ∙ append_assoc (take place old) p.made (part ∷ drop place old)
        ∙ ap (λ l. take place old ++ l) (sym (append_assoc p.made (part ∷ []) (drop place old)));
    count = let l = length-append p.made (part ∷ []) in omega (arith, p.count, l);
    spans = all-append p.made (part ∷ []) ∙ ap (λ l. l ++ all_spans (part ∷ [])) p.spans ∙ ap (λ l. spans ++ l) (append-nil part);
    filled = all_joined IsFilled p.made (part ∷ []) p.filled ((some, short), tt);
    dense = dense-more p.made part p.dense beside;
  }

  pub dealt-last : (beside : 112 < last_long p.made + length part) → last_long (dealt-more beside).made ≡ length part
  unfolding dealt-more
  dealt-last beside = last_long-more p.made part

pub dealt-inside : (spans : List Span) (place at : ℕ) (old new : List (List Span)) → AreDealt spans place at old new → place ≤ length old → at ≤ length new
dealt-inside spans place at old new p le =
    let n = ap length p.list in
    let a = length-append (take place old) (p.made ++ drop place old) in
    let b = length-append p.made (drop place old) in
    let l = length-take place old in
    omega (arith, n, a, b, l, le, p.count)

pub dealing-none : (spans : List Span) (parts place : ℕ) (bs : List (List Span)) → AreDealing spans 0 parts place place bs bs
unfolding dealt-none
dealing-none spans parts place bs = record {
  dealt = dealt-none place bs;
  one = λ lt is. let none : last_long (dealt-none place bs).made ≡ 128 = none_last in omega (arith, none);
  last = λ lt some. let none : last_long (dealt-none place bs).made ≡ 128 = none_last in omega (arith, none);
}
  where
    none_last : last_long (dealt-none place bs).made ≡ 128
    none_last = refl

pub dealing-more : (spans : List Span) (done len parts place at : ℕ) (old mid new : List (List Span)) (p : AreDealing spans done parts place at old mid) → place ≤ length old → new ≡ take at mid ++ take len (drop done spans) ∷ drop at mid
    → done < length spans → AreParts (length spans - done) parts → IsPart (length spans - done) parts len
    → AreDealing spans (done + len) (parts - 1) place (at + 1) old new
dealing-more spans done len parts place at old mid new p le list lt a e =
    let some = e.some in
    let short = e.short in
    let inside : done + len ≤ length spans = omega (arith, e.inside, lt) in
    let left = a.some in
    let part = take len (drop done spans) in
    let l = length-take len (drop done spans) in
    let m = length-drop done spans in
    let long : length part ≡ len = omega (arith, l, m, inside) in
    let beside : 112 < last_long p.dealt.made + length part = elim (ltb 1 parts) as (λ b. ltb 1 parts ≡ b → 112 < last_long p.dealt.made + length part) [
      | true ↦ λ t. let two = ltb-true _ _ t in omega (arith, long, p.last lt two, e.least two)
      | false ↦ λ t. let at_most = ltb-false _ _ t in omega (arith, long, p.one lt (omega (arith, at_most, left)), e.fits, inside, at_most)
    ] refl in
    let more = dealt-more (take done spans) part place at old mid new p.dealt le list (omega (arith, long, some)) (omega (arith, long, short)) beside in
    let is_last = dealt-last (take done spans) part place at old mid new p.dealt le list (omega (arith, long, some)) (omega (arith, long, short)) beside in
    let on = take_more_of done len spans in
    of_parts (take done spans ++ part) (sym on) more is_last
  where
    of_parts : (ss : List Span) → ss ≡ take (done + len) spans → (d : AreDealt ss place (at + 1) old new) → last_long d.made ≡ length (take len (drop done spans)) → AreDealing spans (done + len) (parts - 1) place (at + 1) old new
    of_parts ss same d is =
        let l = length-take len (drop done spans) in
        let m = length-drop done spans in
        record {
          dealt = record { made = d.made; list = d.list; count = d.count; spans = d.spans ∙ same; filled = d.filled; dense = d.dense };
          one = λ k q. omega (arith, is, e.fits, k, q, e.inside, a.full, l, m);
          last = λ k two. omega (arith, is, e.many (omega (arith, two)), l, m, e.inside);
        }

-- in place of the block there
module _ (spans : List Span) (place at : ℕ) (mid new : List (List Span)) (lt : place < length mid) (p : AreDealt spans place at (take place mid ++ drop (place + 1) mid) new) where
  now : new ≡ take place mid ++ (p.made ++ drop (place + 1) mid)
  now = p.list ∙ ap (λ l. l ++ (p.made ++ drop place (take place mid ++ drop (place + 1) mid))) (front-of place mid (drop (place + 1) mid) (omega arith))
      ∙ ap (λ l. take place mid ++ (p.made ++ l)) (rest-of place mid (drop (place + 1) mid) (omega arith))

  pub put-front : take place new ≡ take place mid
  put-front = ap (take place) now ∙ front-of place mid (p.made ++ drop (place + 1) mid) (omega arith)

  pub put-rest : drop place new ≡ p.made ++ drop (place + 1) mid
  put-rest = ap (drop place) now ∙ rest-of place mid (p.made ++ drop (place + 1) mid) (omega arith)

  pub put-spans : all_spans (drop place new) ≡ spans ++ all_spans (drop (place + 1) mid)
  put-spans = ap all_spans put-rest ∙ all-append p.made (drop (place + 1) mid) ∙ ap (λ l. l ++ all_spans (drop (place + 1) mid)) p.spans

  zs : List (List Span)
  zs = take place mid ++ p.made

  zs_long : at ≡ length zs
  unfolding zs
  zs_long = let l = length-take place mid in let m = length-append (take place mid) p.made in omega (arith, p.count)

  now_whole : new ≡ zs ++ drop (place + 1) mid
  unfolding zs
  now_whole = now ∙ sym (append_assoc (take place mid) p.made (drop (place + 1) mid))

  pub put-made : drop place (take at new) ≡ p.made
  unfolding zs
  put-made = ap (drop place) (ap (take at) now_whole ∙ ap (λ k. take k (zs ++ drop (place + 1) mid)) zs_long ∙ take-append_seam zs (drop (place + 1) mid)) ∙ rest-of place mid p.made (omega arith)

  pub put-behind : drop at new ≡ drop (place + 1) mid
  put-behind = ap (drop at) now_whole ∙ ap (λ k. drop k (zs ++ drop (place + 1) mid)) zs_long ∙ drop-append_seam zs (drop (place + 1) mid)
