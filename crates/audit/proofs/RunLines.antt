-- The lines of runs that come one behind another, of which the last waits.
use Rattle.std.proofs.Common.{◌≡◌, ℕ, ◌+◌, ◌<◌, ◌≤◌, Bool, true, false, cond, List, [], ◌∷◌, ◌++◌, codes, length, Option, Some, None, refl, sym, ap, ◌∙◌, append-nil, append_assoc, length-append, arith}
use Rattle.std.specs.List.{flat_map}
use Rattle.std.proofs.lemmas.List.{length_push}
use Rattle.std.specs.Fmt.{decimal}
use Rattle.std.proofs.lemmas.List.Concat.{flat_map-append}
use Rattle.base.specs.Pages.{PageRun}
use Rattle.base.specs.Runs.{ValuedRun, is_followed_by, joined, with_next}
use Rattle.base.proofs.MaximalRuns.{with_next-last}
use Rattle.digits.specs.Digits.{address_text, extent_text}
use Rattle.audit.specs.Runs.{AreLined, line_of, waiting}

extent-some : (run : PageRun) → 0 < length (extent_text run)
extent-some run =
    let whole = length-append (address_text run.first ++ codes " ") (decimal run.count) in
    let front = length-append (address_text run.first) (codes " ") in
    omega (arith, whole, front)

module _ {A : Type 0} (rest : A → List ℕ) where
  -- a line has some bytes
  pub line-some : (text new : List ℕ) (run : ValuedRun A) → new ≡ text ++ line_of rest run → length text + 1 ≤ length new
  line-some text new run is =
      let long = ap (λ xs. length xs) is in
      let line = length-append text (line_of rest run) in
      let parts = length-append (extent_text run.run) (rest run.value) in
      let some = extent-some run.run in
      omega (arith, long, line, parts, some)

  lines-more : (before text new : List ℕ) (complete : List (ValuedRun A)) (run : ValuedRun A) → text ≡ before ++ flat_map (line_of rest) complete → new ≡ text ++ line_of rest run → new ≡ before ++ flat_map (line_of rest) (complete ++ run ∷ [])
  lines-more before text new complete run lines is =
      is ∙ ap (λ t. t ++ line_of rest run) lines
      ∙ append_assoc before (flat_map (line_of rest) complete) (line_of rest run)
      ∙ ap (λ t. before ++ (flat_map (line_of rest) complete ++ t)) (sym (append-nil (line_of rest run)))
      ∙ ap (λ t. before ++ t) (sym (flat_map-append (line_of rest) complete (run ∷ [])))

  -- before the first run
  unfoldable pub lined-none : (text : List ℕ) (count : ℕ) (last : Option (ValuedRun A)) → count ≡ 0 → last ≡ None → AreLined rest text text count last []
  lined-none text count last zero none = record { complete = []; all = ap waiting (sym none); lines = sym (append-nil text); counted = zero; first = λ is. refl }

  module _ (same : A → A → Bool) (before text : List ℕ) (count : ℕ) (old : Option (ValuedRun A)) (runs : List (ValuedRun A)) (so : AreLined rest before text count old runs) (next : ValuedRun A) where
    behind : (last : ValuedRun A) → old ≡ Some last → with_next same runs next ≡ so.complete ++ cond (is_followed_by same last next) (joined last next ∷ []) (last ∷ next ∷ [])
    behind last is = ap (λ rs. with_next same rs next) (so.all ∙ ap (λ o. so.complete ++ waiting o) is) ∙ with_next-last same so.complete last next

    -- the next run is the first
    pub lined-first : old ≡ None → AreLined rest before text count (Some next) (with_next same runs next)
    unfolding with_next
    lined-first none =
        let empty : so.complete ≡ [] = so.first none in
        record {
          complete = [];
          all = ap (λ rs. with_next same rs next) (so.all ∙ ap (λ xs. xs ++ waiting old) empty ∙ ap waiting none);
          lines = so.lines ∙ ap (λ xs. before ++ flat_map (line_of rest) xs) empty;
          counted = so.counted ∙ ap length empty;
          first = λ is. refl;
        }

    -- it joins the one that waits
    pub lined-joined : (last both : ValuedRun A) → old ≡ Some last → is_followed_by same last next ≡ true → both ≡ joined last next → AreLined rest before text count (Some both) (with_next same runs next)
    lined-joined last both is follows joins = record {
      complete = so.complete;
      all = behind last is ∙ ap (λ b. so.complete ++ cond b (joined last next ∷ []) (last ∷ next ∷ [])) follows ∙ ap (λ run. so.complete ++ run ∷ []) (sym joins);
      lines = so.lines;
      counted = so.counted;
      first = λ none. absurd (cc);
    }

    -- the line of the one that waits is appended
    pub lined-apart : (last : ValuedRun A) (new : List ℕ) → old ≡ Some last → is_followed_by same last next ≡ false → new ≡ text ++ line_of rest last → AreLined rest before new (count + 1) (Some next) (with_next same runs next)
    lined-apart last new is apart line = record {
      complete = so.complete ++ last ∷ [];
      all = behind last is ∙ ap (λ b. so.complete ++ cond b (joined last next ∷ []) (last ∷ next ∷ [])) apart ∙ sym (append_assoc so.complete (last ∷ []) (next ∷ []));
      lines = lines-more before text new so.complete last so.lines line;
      counted = let one = length_push so.complete last in omega (arith, so.counted, one);
      first = λ none. absurd (cc);
    }

  module _ (before text : List ℕ) (count : ℕ) (old : Option (ValuedRun A)) (runs : List (ValuedRun A)) (so : AreLined rest before text count old runs) where
    all-of : (o : Option (ValuedRun A)) → old ≡ o → runs ≡ so.complete ++ waiting o
    all-of o is = so.all ∙ ap (λ o. so.complete ++ waiting o) is

    -- no line is left
    pub lines-none : old ≡ None → text ≡ before ++ flat_map (line_of rest) runs
    lines-none none = so.lines ∙ ap (λ rs. before ++ flat_map (line_of rest) rs) (sym (all-of None none ∙ append-nil so.complete))

    pub count-none : old ≡ None → count ≡ length runs
    count-none none = so.counted ∙ ap length (sym (all-of None none ∙ append-nil so.complete))

    -- the last line is appended
    pub lines-last : (last : ValuedRun A) (new : List ℕ) → old ≡ Some last → new ≡ text ++ line_of rest last → new ≡ before ++ flat_map (line_of rest) runs
    lines-last last new is line = lines-more before text new so.complete last so.lines line ∙ ap (λ rs. before ++ flat_map (line_of rest) rs) (sym (all-of (Some last) is))

    pub count-last : (last : ValuedRun A) → old ≡ Some last → count + 1 ≡ length runs
    count-last last is = let one = length_push so.complete last in let all = ap length (all-of (Some last) is) in omega (arith, so.counted, one, all)
