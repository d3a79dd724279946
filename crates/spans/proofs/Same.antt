-- Lists of intervals that say the same of each page.
use Rattle.std.proofs.Common.{◌≡◌, ℕ, ◌+◌, true, List, [], ◌∷◌, ◌++◌, length, get_or, take, Some, None, length-append, refl, sym, ap, ◌∙◌, append_assoc, arith}
use Rattle.std.proofs.Math.ListN.{set}
use Rattle.std.proofs.lemmas.List.{take_more, take_more_set, take_all, length-set}
use Rattle.spans.specs.Spans.{Span, value_at, ascend, end_from, is_apart, are_joined}
use Rattle.spans.specs.Edits.{joined, IsSame}
use Rattle.spans.proofs.Ascending.{end_from-append, ascend-left, ascend-right, ascend-append, value_at-append}
use Rattle.spans.proofs.Joining.{AreOne, are_one, value_at-one_behind, ascend-one_behind}
use Rattle.spans.proofs.Joined.{joined-swap, joined-as, apart-none}
use Rattle.std.proofs.lemmas.Bool.{and_from}

pub same-self : (xs : List Span) → IsSame xs xs
same-self xs = record { at = λ n. refl; ascends = λ e h. h; ends = λ e. refl; fewer = omega arith }

pub same-then : (xs ys zs : List Span) → IsSame xs ys → IsSame ys zs → IsSame xs zs
same-then xs ys zs a b = record {
  at = λ n. b.at n ∙ a.at n;
  ascends = λ e h. b.ascends e (a.ascends e h);
  ends = λ e. b.ends e ∙ a.ends e;
  fewer = omega (arith, a.fewer, b.fewer);
}

-- others behind both
pub same-before : (xs ys zs : List Span) → IsSame xs ys → IsSame (xs ++ zs) (ys ++ zs)
same-before xs ys zs a = record {
  at = λ n. value_at-append ys zs n ∙ rw (a.at n) (sym (value_at-append xs zs n));
  ascends = λ e h. ascend-append e ys zs (a.ascends e (ascend-left e xs zs h)) (rw (a.ends e) (ascend-right e xs zs h));
  ends = λ e. end_from-append e ys zs ∙ ap (λ k. end_from k zs) (a.ends e) ∙ sym (end_from-append e xs zs);
  fewer = let l = length-append xs zs in let m = length-append ys zs in omega (arith, a.fewer, l, m);
}

-- ---- one more interval

-- the last of a list
module _ (xs : List Span) (i : ℕ) (last : Span) (on : i + 1 ≡ length xs) (is : last ≡ get_or xs i last) where
  front : List Span
  front = take i xs

  whole : xs ≡ front ++ last ∷ []
  unfolding front
  whole = sym (take_all (i + 1) xs (omega arith)) ∙ take_more xs i last (omega arith) ∙ ap (λ x. take i xs ++ x ∷ []) (sym is)

  more : (t : Span) → xs ++ t ∷ [] ≡ front ++ last ∷ t ∷ []
  more t = ap (λ l. l ++ t ∷ []) whole ∙ append_assoc front (last ∷ []) (t ∷ [])

  -- as one with it
  module _ (t j : Span) (e : joined last t ≡ Some j) where
    one : AreOne j last t
    one = are_one last t j e

    now : set xs i j ≡ front ++ j ∷ []
    unfolding front
    now =
        let l = length-set xs i j in
        sym (take_all (i + 1) (set xs i j) (omega arith)) ∙ take_more_set xs i j (omega arith)

    pub one-same : IsSame (xs ++ t ∷ []) (set xs i j)
    one-same = record {
      at = λ n. ap (λ l. value_at l n) now ∙ value_at-one_behind j last t one [] front n ∙ ap (λ l. value_at l n) (sym (more t));
      ascends = λ e h. ap (ascend e) now ∙ ascend-one_behind j last t one [] front e (ap (ascend e) (sym (more t)) ∙ h);
      ends = λ e.
          let a = ap (end_from e) now ∙ end_from-append e front (j ∷ []) in
          let b = ap (end_from e) (more t) ∙ end_from-append e front (last ∷ t ∷ []) in
          let o = one in
          a ∙ o.end ∙ sym b;
      fewer = let l = length-set xs i j in let m = length-append xs (t ∷ []) in omega arith;
    }

    pub one-joined : (ys : List Span) → are_joined xs ≡ true → are_joined (t ∷ ys) ≡ true → are_joined (set xs i j ++ ys) ≡ true
    one-joined ys a b =
        let o = one in
        ap (λ l. are_joined (l ++ ys)) now ∙ ap are_joined (append_assoc front (j ∷ []) ys)
        ∙ joined-swap front last j ys (sym o.same_first) o.first (ap are_joined (sym whole) ∙ a) (joined-as t j ys (sym o.same_next) o.end b)

  pub next-joined : (t : Span) (ys : List Span) → joined last t ≡ None → are_joined xs ≡ true → are_joined (t ∷ ys) ≡ true → are_joined ((xs ++ t ∷ []) ++ ys) ≡ true
  next-joined t ys e a b =
      ap (λ l. are_joined (l ++ ys)) (more t) ∙ ap are_joined (append_assoc front (last ∷ t ∷ []) ys)
      ∙ joined-swap front last last (t ∷ ys) refl refl (ap are_joined (sym whole) ∙ a) (and_from (is_apart last (t ∷ ys)) (are_joined (t ∷ ys)) (apart-none last t ys e) b)
