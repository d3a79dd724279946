-- Intervals in blocks: what an edit of one block does to all of them.
use Rattle.std.proofs.Common.{◌≡◌, ℕ, zero, suc, ◌+◌, ◌-◌, ◌*◌, ◌<◌, ◌≤◌, Bool, true, false, cond, leb, ltb, List, [], ◌∷◌, ◌++◌, length, get_or, take, drop, Option, Some, None, is_some, max, length-append, refl, sym, ap, subst, ◌∙◌, append_assoc, arith}
use Rattle.std.specs.Option.{option_map_or}
use Rattle.std.specs.List.{AllByRecursion}
use Rattle.std.proofs.Math.Seq.{drop-cons}
use Rattle.std.proofs.lemmas.List.{take-append-drop, length-drop, get_or-drop}
use Rattle.std.proofs.lemmas.Bool.{leb-true, ltb-true}
use Rattle.std.proofs.lemmas.Bool.Decides.{nat_tests}
use Rattle.spans.specs.Spans.{Span, value_at, end_of, ascend, end_from}
use Rattle.spans.specs.Search.{begins_at}
use Rattle.spans.specs.Blocks.{all_spans, AreFilled, AreStacked}
use Rattle.spans.proofs.Lists.{no_items}
use Rattle.spans.proofs.Ascending.{begins, far, ascend-cons, ascend-left, ascend-right, ascend-append, least, out, behind, value_at-append, value_at-behind, value_at-ahead, in_first, in_last}

-- ---- where no page has a number, there is no interval

pub from_page : (e page : ℕ) (ss : List Span) → ascend e ss ≡ true → ((n : ℕ) → n < page → value_at ss n ≡ None) → ascend page ss ≡ true
from_page e page [] h none = refl
from_page e page (s ∷ ss) h none =
    let x = begins e s ss h in
    let here : value_at (s ∷ ss) s.run.first ≡ Some s.value = rw (in_first s.run x.some) refl in
    let le : page ≤ s.run.first =
    elim (ltb s.run.first page) as (λ b. ltb s.run.first page ≡ b → page ≤ s.run.first) [
      | true ↦ λ t. let no : value_at (s ∷ ss) s.run.first ≡ None = none s.run.first (ltb-true _ _ t) in absurd (cc)
      | false ↦ λ t. grind (arith, nat_tests)
    ] refl in
    ascend-cons page s ss le x.some x.rest

pub up_to_page : (e page : ℕ) (ss : List Span) → ascend e ss ≡ true → e ≤ page → ((n : ℕ) → page ≤ n → value_at ss n ≡ None) → end_from e ss ≤ page
up_to_page e page [] h le none = le
up_to_page e page (s ∷ ss) h le none =
    let x = begins e s ss h in
    let end : ℕ = end_of s.run in
    let here : value_at (s ∷ ss) (end - 1) ≡ Some s.value = rw (in_last s.run x.some) refl in
    let to : end ≤ page =
    elim (leb page (end - 1)) as (λ b. leb page (end - 1) ≡ b → end ≤ page) [
      | true ↦ λ t. let no : value_at (s ∷ ss) (end - 1) ≡ None = none (end - 1) (leb-true _ _ t) in absurd (cc)
      | false ↦ λ t. grind (arith, nat_tests)
    ] refl in
    up_to_page end page ss x.rest to (λ n le2. sym (out s ss n (behind s.run n (omega arith))) ∙ none n le2)

pub ascend-both : (a b : ℕ) (ss : List Span) → ascend a ss ≡ true → ascend b ss ≡ true → ascend (max a b) ss ≡ true
ascend-both a b [] h k = refl
ascend-both a b (s ∷ ss) h k =
    let x = begins a s ss h in
    let y = begins b s ss k in
    ascend-cons (max a b) s ss (omega (arith, x.from, y.from)) x.some x.rest

-- ---- one block, between the page where it begins and one where others do

some_or_none : (v : Option ℕ) → option_map_or (λ (x : ℕ). Some x) v None ≡ v
some_or_none None = refl
some_or_none (Some x) = refl

module _ (low high : ℕ) (old new ys : List Span) (hit : ℕ → Bool) (value : Option ℕ) (h : ascend low (old ++ ys) ≡ true) (above : ascend high ys ≡ true) (ascending : ascend 0 new ≡ true)
    (at : (n : ℕ) → value_at new n ≡ cond (hit n) value (value_at old n)) (inside : (n : ℕ) → hit n ≡ true → (low ≤ n) × (n < high)) where
  kept : (n : ℕ) → (hit n ≡ true → ⊥) → value_at new n ≡ value_at old n
  kept n not =
      at n ∙ elim (hit n) as (λ b. hit n ≡ b → cond b value (value_at old n) ≡ value_at old n) [
        | true ↦ λ t. absurd (not t)
        | false ↦ λ t. refl
      ] refl

  new_from : ascend low new ≡ true
  new_from = from_page 0 low new ascending (λ n lt. kept n (λ t. let i = inside n t in omega (arith, i.0)) ∙ value_at-ahead low old n (ascend-left low old ys h) lt)

  old_end : ℕ
  old_end = end_from low old

  new_end : end_from low new ≤ max high old_end
  unfolding old_end
  new_end =
      let le = least low old (ascend-left low old ys h) in
      up_to_page low (max high old_end) new new_from (omega (arith, le)) (λ n from. kept n (λ t. let i = inside n t in omega (arith, i.1)) ∙ value_at-behind low old n (ascend-left low old ys h) (omega arith))

  pub set-ascends : ascend low (new ++ ys) ≡ true
  unfolding old_end
  set-ascends = ascend-append low new ys new_from (far (end_from low new) (max high old_end) ys new_end (ascend-both high old_end ys above (ascend-right low old ys h)))

  pub set-at : (n : ℕ) → value_at (new ++ ys) n ≡ cond (hit n) value (value_at (old ++ ys) n)
  set-at n =
      value_at-append new ys n
      ∙ elim (hit n) as (λ b. hit n ≡ b → option_map_or (λ (x : ℕ). Some x) (value_at new n) (value_at ys n) ≡ cond b value (value_at (old ++ ys) n)) [
        | true ↦ λ t.
            let i = inside n t in
            let here : value_at new n ≡ value = at n ∙ rw t refl in
            let none : value_at ys n ≡ None = value_at-ahead high ys n above i.1 in
            rw (here, none) (some_or_none value)
        | false ↦ λ t.
            let here : value_at new n ≡ value_at old n = at n ∙ rw t refl in
            rw here (sym (value_at-append old ys n))
      ] refl

-- ---- intervals before those that change

pub before-ascends : (e low : ℕ) (xs old new : List Span) → ascend e (xs ++ old) ≡ true → end_from e xs ≤ low → ascend low new ≡ true → ascend e (xs ++ new) ≡ true
before-ascends e low xs old new h le k = ascend-append e xs new (ascend-left e xs old h) (far (end_from e xs) low new le k)

pub before-at : (xs old new : List Span) (n : ℕ) (hit : Bool) (value : Option ℕ) → (hit ≡ true → value_at xs n ≡ None) → value_at new n ≡ cond hit value (value_at old n) → value_at (xs ++ new) n ≡ cond hit value (value_at (xs ++ old) n)
before-at xs old new n true value none at = value_at-append xs new n ∙ rw (none refl, at) refl
before-at xs old new n false value none at = value_at-append xs new n ∙ rw at (sym (value_at-append xs old n))

-- ---- all blocks

pub all-append : (xs ys : List (List Span)) → all_spans (xs ++ ys) ≡ all_spans xs ++ all_spans ys
all-append [] ys = refl
all-append (b ∷ xs) ys = ap (λ l. b ++ l) (all-append xs ys) ∙ sym (append_assoc b (all_spans xs) (all_spans ys))

pub all-parted : (i : ℕ) (bs : List (List Span)) → all_spans bs ≡ all_spans (take i bs) ++ all_spans (drop i bs)
all-parted i bs = ap all_spans (sym (take-append-drop i bs)) ∙ all-append (take i bs) (drop i bs)

pub all-next : (i : ℕ) (bs : List (List Span)) (d : List Span) → i < length bs → all_spans (drop i bs) ≡ get_or bs i d ++ all_spans (drop (i + 1) bs)
all-next i bs d lt = let on : suc i ≡ i + 1 = omega arith in ap all_spans (drop-cons bs i d lt ∙ ap (λ (k : ℕ). get_or bs i d ∷ drop k bs) on)

pub all_at : {A : Type 0} (P : A → Type 0) (bs : List A) (i : ℕ) (d : A) → AllByRecursion P bs → i < length bs → P (get_or bs i d)
all_at P [] i d h lt = absurd (omega arith)
all_at P (b ∷ bs) zero d h lt = h.0
all_at P (b ∷ bs) (suc i) d h lt = all_at P bs i d h.1 (omega arith)

pub all_taken : {A : Type 0} (P : A → Type 0) (i : ℕ) (bs : List A) → AllByRecursion P bs → AllByRecursion P (take i bs)
all_taken P zero bs h = tt
all_taken P (suc i) [] h = tt
all_taken P (suc i) (b ∷ bs) h = (h.0, all_taken P i bs h.1)

pub all_dropped : {A : Type 0} (P : A → Type 0) (i : ℕ) (bs : List A) → AllByRecursion P bs → AllByRecursion P (drop i bs)
all_dropped P zero bs h = h
all_dropped P (suc i) [] h = tt
all_dropped P (suc i) (b ∷ bs) h = all_dropped P i bs h.1

pub all_joined : {A : Type 0} (P : A → Type 0) (xs ys : List A) → AllByRecursion P xs → AllByRecursion P ys → AllByRecursion P (xs ++ ys)
all_joined P [] ys h k = k
all_joined P (b ∷ xs) ys h k = (h.0, all_joined P xs ys h.1 k)

abbrev pub IsFilled : List Span → Type 0
IsFilled b = (0 < length b) × (length b ≤ 128)

pub filled_both : (i : ℕ) (bs : List (List Span)) → AreFilled (take i bs) → AreFilled (drop i bs) → AreFilled bs
filled_both i bs front rest = subst (λ (l : List (List Span)). AreFilled l) (take-append-drop i bs) (all_joined IsFilled (take i bs) (drop i bs) front rest)

pub filled_front : (i : ℕ) (bs : List (List Span)) → AreFilled bs → AreFilled (take i bs)
filled_front i bs h = all_taken IsFilled i bs h

pub filled_rest : (i : ℕ) (bs : List (List Span)) → AreFilled bs → AreFilled (drop i bs)
filled_rest i bs h = all_dropped IsFilled i bs h

pub filled_at : (i : ℕ) (bs : List (List Span)) (d : List Span) → AreFilled bs → i < length bs → IsFilled (get_or bs i d)
filled_at i bs d h lt = all_at IsFilled bs i d h lt

-- where an interval begins, with others behind it
pub begins-filled : (e : ℕ) (ss ys : List Span) → 0 < length ss → ascend e (ss ++ ys) ≡ true → (e ≤ begins_at ss) × (ascend (begins_at ss) (ss ++ ys) ≡ true)
begins-filled e [] ys some h = absurd (omega arith)
begins-filled e (s ∷ ss) ys some h =
    let x = begins e s (ss ++ ys) h in
    (x.from, ascend-cons s.run.first s (ss ++ ys) (omega arith) x.some x.rest)

-- ---- the place of a page among blocks

begins_at_least : (e j : ℕ) (bs : List (List Span)) (d : List Span) → AreFilled bs → ascend e (all_spans bs) ≡ true → j < length bs → e ≤ begins_at (get_or bs j d)
begins_at_least e j [] d f h lt = absurd (omega arith)
begins_at_least e zero (b ∷ bs) d f h lt = (begins-filled e b (all_spans bs) f.0.0 h).0
begins_at_least e (suc j) (b ∷ bs) d f h lt =
    let a = least e b (ascend-left e b (all_spans bs) h) in
    let r = begins_at_least (end_from e b) j bs d f.1 (ascend-right e b (all_spans bs) h) (omega arith) in
    omega arith

pub begins_upward : (e i j : ℕ) (bs : List (List Span)) (c d : List Span) → AreFilled bs → ascend e (all_spans bs) ≡ true → i ≤ j → j < length bs → begins_at (get_or bs i c) ≤ begins_at (get_or bs j d)
begins_upward e i j [] c d f h le lt = absurd (omega arith)
begins_upward e zero j (b ∷ bs) c d f h le lt = begins_at_least (begins_at b) j (b ∷ bs) d f (begins-filled e b (all_spans bs) f.0.0 h).1 lt
begins_upward e (suc i) zero (b ∷ bs) c d f h le lt = absurd (omega arith)
begins_upward e (suc i) (suc j) (b ∷ bs) c d f h le lt = begins_upward (end_from e b) i j bs c d f.1 (ascend-right e b (all_spans bs) h) (omega arith) (omega arith)

pub above_page : (e page i : ℕ) (bs : List (List Span)) → AreFilled bs → ascend e (all_spans bs) ≡ true → ((d : List Span) → i < length bs → page ≤ begins_at (get_or bs i d)) → ascend page (all_spans (drop i bs)) ≡ true
above_page e page zero [] f h le = refl
above_page e page zero (b ∷ bs) f h le =
    let x = begins-filled e b (all_spans bs) f.0.0 h in
    far page (begins_at b) (b ++ all_spans bs) (le b (omega arith)) x.1
above_page e page (suc i) [] f h le = refl
above_page e page (suc i) (b ∷ bs) f h le = above_page (end_from e b) page i bs f.1 (ascend-right e b (all_spans bs) h) (λ d lt. le d (omega arith))

-- ---- a block, those before it and those behind it

module _ (bs : List (List Span)) (i : ℕ) (d : List Span) (lt : i < length bs) (h : ascend 0 (all_spans bs) ≡ true) where
  front : List Span
  front = all_spans (take i bs)

  block : List Span
  block = get_or bs i d

  rest : List Span
  rest = all_spans (drop (i + 1) bs)

  pub parted : all_spans bs ≡ all_spans (take i bs) ++ (get_or bs i d ++ all_spans (drop (i + 1) bs))
  parted = all-parted i bs ∙ ap (λ l. all_spans (take i bs) ++ l) (all-next i bs d lt)

  pub part-ascends : ascend 0 (all_spans (take i bs) ++ (get_or bs i d ++ all_spans (drop (i + 1) bs))) ≡ true
  part-ascends = ap (ascend 0) (sym parted) ∙ h

  pub front-ascends : ascend 0 (all_spans (take i bs)) ≡ true
  front-ascends = ascend-left 0 (all_spans (take i bs)) (get_or bs i d ++ all_spans (drop (i + 1) bs)) part-ascends

  pub block-ascends : ascend (end_from 0 (all_spans (take i bs))) (get_or bs i d ++ all_spans (drop (i + 1) bs)) ≡ true
  block-ascends = ascend-right 0 (all_spans (take i bs)) (get_or bs i d ++ all_spans (drop (i + 1) bs)) part-ascends

  -- where it begins
  pub block-begins : 0 < length (get_or bs i d) → (end_from 0 (all_spans (take i bs)) ≤ begins_at (get_or bs i d)) × (ascend (begins_at (get_or bs i d)) (get_or bs i d ++ all_spans (drop (i + 1) bs)) ≡ true)
  block-begins some = begins-filled (end_from 0 (all_spans (take i bs))) (get_or bs i d) (all_spans (drop (i + 1) bs)) some block-ascends

pub block_ascends : (bs : List (List Span)) (i : ℕ) (d : List Span) → AreStacked bs → i < length bs → ascend 0 (get_or bs i d) ≡ true
block_ascends bs i d h lt =
    let block = block-ascends bs i d lt h.ascending in
    far 0 (end_from 0 (all_spans (take i bs))) (get_or bs i d) (omega arith) (ascend-left (end_from 0 (all_spans (take i bs))) (get_or bs i d) (all_spans (drop (i + 1) bs)) block)

-- ---- the number of a page is that of its block

pub at_front : (xs ys : List Span) (n : ℕ) → value_at ys n ≡ None → value_at (xs ++ ys) n ≡ value_at xs n
at_front xs ys n none = value_at-append xs ys n ∙ rw none (some_or_none (value_at xs n))

pub at_rest : (xs ys : List Span) (n : ℕ) → value_at xs n ≡ None → value_at (xs ++ ys) n ≡ value_at ys n
at_rest xs ys n none = value_at-append xs ys n ∙ rw none refl

pub no_blocks : (bs : List (List Span)) → length bs ≡ 0 → all_spans bs ≡ []
no_blocks [] e = refl
no_blocks (b ∷ bs) e = absurd (omega arith)

pub no_spans : (bs : List (List Span)) → AreFilled bs → all_spans bs ≡ [] → length bs ≡ 0
no_spans [] f e = refl
no_spans (b ∷ bs) f e = let l = length-append b (all_spans bs) in let none = ap length e in absurd (omega (arith, f.0.0))

pub fewer_blocks : (bs : List (List Span)) → AreFilled bs → length bs ≤ length (all_spans bs)
fewer_blocks [] f = omega arith
fewer_blocks (b ∷ bs) f = let l = length-append b (all_spans bs) in let rest = fewer_blocks bs f.1 in omega (arith, f.0.0)

-- a page before which the last block begins that begins before it
pub at_block : (bs : List (List Span)) (i n : ℕ) (d : List Span) → AreStacked bs → i < length bs → begins_at (get_or bs i d) ≤ n → value_at (all_spans (drop (i + 1) bs)) n ≡ None → value_at (all_spans bs) n ≡ value_at (get_or bs i d) n
at_block bs i n d h lt from none =
    let begun = block-begins bs i d lt h.ascending (filled_at i bs d h.filled lt).0 in
    let none_before = value_at-behind 0 (all_spans (take i bs)) n (front-ascends bs i d lt h.ascending) (omega (arith, begun.0)) in
    ap (λ l. value_at l n) (parted bs i d lt h.ascending)
    ∙ at_rest (all_spans (take i bs)) (get_or bs i d ++ all_spans (drop (i + 1) bs)) n none_before
    ∙ at_front (get_or bs i d) (all_spans (drop (i + 1) bs)) n none

-- what is behind the blocks before a place, up to where the block there begins
module _ (bs : List (List Span)) (i e next : ℕ) (f : AreFilled bs) (h : ascend e (all_spans (drop i bs)) ≡ true) (is : i < length bs → (d : List Span) → next ≡ begins_at (get_or bs i d)) where
  pub rest_behind : (length bs ≤ i → e ≤ next) → e ≤ next
  rest_behind end = elim (ltb i (length bs)) as (λ q. ltb i (length bs) ≡ q → e ≤ next) [
    | true ↦ λ t.
        let inside = ltb-true _ _ t in
        let at = is inside [] in
        let begun = begins-filled e (get_or bs i []) (all_spans (drop (i + 1) bs)) (filled_at i bs [] f inside).0 (ap (ascend e) (sym (all-next i bs [] inside)) ∙ h) in
        omega (arith, begun.0, at)
    | false ↦ λ t. end (grind (arith, nat_tests))
  ] refl

-- what begins behind a page from a place on does so from later ones on
pub later : (e i j : ℕ) (bs : List (List Span)) → ascend e (all_spans (drop i bs)) ≡ true → i ≤ j → ascend e (all_spans (drop j bs)) ≡ true
later e zero zero bs h le = h
later e zero (suc j) [] h le = refl
later e zero (suc j) (b ∷ bs) h le =
    let l = least e b (ascend-left e b (all_spans bs) h) in
    later e zero j bs (far e (end_from e b) (all_spans bs) l (ascend-right e b (all_spans bs) h)) (omega arith)
later e (suc i) zero bs h le = absurd (omega arith)
later e (suc i) (suc j) [] h le = refl
later e (suc i) (suc j) (b ∷ bs) h le = later e i j bs h (omega arith)

-- ---- all blocks from a place on

pub some_blocks : (old new : List (List Span)) → all_spans new ≡ all_spans old → AreFilled old → 0 < length old → 0 < length new
some_blocks old [] e f some = let none = no_spans old f (sym e) in absurd (omega arith)
some_blocks old (b ∷ bs) e f some = omega arith

-- what stands from a place on begins behind a page, where the block there does
pub above_here : (e page i : ℕ) (bs : List (List Span)) → AreFilled (drop i bs) → ascend e (all_spans (drop i bs)) ≡ true → ((d : List Span) → i < length bs → page ≤ begins_at (get_or bs i d)) → ascend page (all_spans (drop i bs)) ≡ true
above_here e page i bs f h le = above_page e page 0 (drop i bs) f h (λ d lt.
    let l = length-drop i bs in
    let at = ap begins_at (get_or-drop i bs 0 d) in
    let on : i + 0 ≡ i = omega arith in
    let same = ap (λ (k : ℕ). begins_at (get_or bs k d)) on in
    let b = le d (omega arith) in
    omega arith)

-- ---- where the last block ends

begins_before-end : (ss : List Span) → 0 < length ss → ascend 0 ss ≡ true → begins_at ss ≤ end_from 0 ss
begins_before-end [] some up = absurd (omega (arith, some))
begins_before-end (s ∷ ss) some up = let x = begins 0 s ss up in omega (arith, x.some, least (end_of s.run) ss x.rest)

-- no page behind the end of the last block has a number
pub value_at-end : (bs : List (List Span)) (i n : ℕ) (b : List Span) → AreStacked bs → i + 1 ≡ length bs → b ≡ get_or bs i b → end_from 0 b ≤ n → value_at (all_spans bs) n ≡ None
value_at-end bs i n b h last is from =
    let lt : i < length bs = omega (arith, last) in
    let ends : end_from 0 (get_or bs i b) ≤ n = subst (λ (x : List Span). end_from 0 x ≤ n) is from in
    let up = block_ascends bs i b h lt in
    let begun : begins_at (get_or bs i b) ≤ n = omega (arith, begins_before-end (get_or bs i b) (filled_at i bs b h.filled lt).0 up, ends) in
    let none : drop (i + 1) bs ≡ [] = no_items (drop (i + 1) bs) (length-drop (i + 1) bs ∙ (omega (arith, last))) in
    at_block bs i n b h lt begun (ap (λ (x : List (List Span)). value_at (all_spans x) n) none) ∙ value_at-behind 0 (get_or bs i b) n up ends

-- the last page of some has a number
number_of_last : (e : ℕ) (ss : List Span) → ascend e ss ≡ true → 0 < length ss → is_some (value_at ss (end_from e ss - 1)) ≡ true
number_of_last e [] h some = absurd (omega arith)
number_of_last e (s ∷ []) h some = let x = begins e s [] h in rw (in_last s.run x.some) refl
number_of_last e (s ∷ t ∷ ss) h some =
    let x = begins e s (t ∷ ss) h in
    let y = begins (end_of s.run) t ss x.rest in
    let l = least (end_of t.run) ss y.rest in
    let n : ℕ = end_from (end_of s.run) (t ∷ ss) - 1 in
    ap (λ (o : Option ℕ). is_some o) (out s (t ∷ ss) n (behind s.run n (omega (arith, y.from, y.some, l)))) ∙ number_of_last (end_of s.run) (t ∷ ss) x.rest (omega arith)

-- and so has that of the last block
pub value_at-last : (bs : List (List Span)) (i : ℕ) (b : List Span) → AreStacked bs → i + 1 ≡ length bs → b ≡ get_or bs i b → is_some (value_at (all_spans bs) (end_from 0 b - 1)) ≡ true
value_at-last bs i b h last is =
    let lt : i < length bs = omega (arith, last) in
    let up = block_ascends bs i b h lt in
    let some = (filled_at i bs b h.filled lt).0 in
    let here : is_some (value_at (get_or bs i b) (end_from 0 (get_or bs i b) - 1)) ≡ true = number_of_last 0 (get_or bs i b) up some in
    let none : drop (i + 1) bs ≡ [] = no_items (drop (i + 1) bs) (length-drop (i + 1) bs ∙ (omega (arith, last))) in
    let begun = begins_before-last (get_or bs i b) some up in
    subst (λ (x : List Span). is_some (value_at (all_spans bs) (end_from 0 x - 1)) ≡ true) (sym is)
    (ap (λ (o : Option ℕ). is_some o) (at_block bs i (end_from 0 (get_or bs i b) - 1) b h lt begun (ap (λ (x : List (List Span)). value_at (all_spans x) (end_from 0 (get_or bs i b) - 1)) none)) ∙ here)
  where
    begins_before-last : (ss : List Span) → 0 < length ss → ascend 0 ss ≡ true → begins_at ss ≤ end_from 0 ss - 1
    begins_before-last [] some up = absurd (omega (arith, some))
    begins_before-last (s ∷ ss) some up = let x = begins 0 s ss up in omega (arith, x.some, least (end_of s.run) ss x.rest)

-- each block has 128 at most
pub few_in_each : (bs : List (List Span)) → AreFilled bs → length (all_spans bs) ≤ 128 * length bs
few_in_each [] f = omega arith
few_in_each (b ∷ bs) f = let l = length-append b (all_spans bs) in let r = few_in_each bs f.1 in omega (arith, l, r, f.0.1)
