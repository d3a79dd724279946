-- What intervals have before a page and from a page on, and what is put in between.
use Rattle.std.proofs.Common.{◌≡◌, ℕ, suc, ◌<◌, ◌≤◌, Bool, true, false, ◌&&◌, not, cond, leb, ltb, List, [], ◌∷◌, ◌++◌, length, get_or, take, drop, min, max, Option, Some, None, refl, sym, ap, ◌∙◌, append_assoc, append-nil, arith}
use Rattle.std.specs.Option.{option_map_or}
use Rattle.std.proofs.Math.Seq.{drop-cons}
use Rattle.std.proofs.lemmas.List.{take-append-drop, take_all}
use Rattle.std.proofs.lemmas.Bool.{leb-true}
use Rattle.std.proofs.lemmas.Bool.Decides.{nat_tests}
use Rattle.base.specs.Pages.{PageRun, in_run}
use Rattle.spans.specs.Spans.{Span, value_at, end_of, ascend, end_from}
use Rattle.spans.specs.Edits.{part_of, left_of, right_of, listed, all_before, all_from}
use Rattle.spans.proofs.Ascending.{Begins, begins, far, ascend-cons, least, ascend-left, ascend-right, ascend-append, value_at-append}
use Rattle.spans.proofs.Cutting.{no_left, no_right, whole_left, whole_right, left_at, right_at, outside, is_left, is_right}

-- an interval with the pages of a run, where they are to have a number
abbrev pub span_of : PageRun → Option ℕ → Option Span
span_of run None = None
span_of run (Some value) = Some (record { run = run; value = value })

-- the intervals where the pages of a run have another number, or none
abbrev pub replaced : PageRun → Option ℕ → List Span → List Span
replaced run value ss =
    all_before run.first ss ++ (listed (span_of run value) ++ all_from (end_of run) ss)

-- ---- of two lists

pub all_before-append : (page : ℕ) (xs ys : List Span) → all_before page (xs ++ ys) ≡ all_before page xs ++ all_before page ys
unfolding all_before
all_before-append page [] ys = refl
all_before-append page (s ∷ xs) ys = rw (all_before-append page xs ys) (sym (append_assoc (listed (left_of page s)) (all_before page xs) (all_before page ys)))

pub all_from-append : (page : ℕ) (xs ys : List Span) → all_from page (xs ++ ys) ≡ all_from page xs ++ all_from page ys
unfolding all_from
all_from-append page [] ys = refl
all_from-append page (s ∷ xs) ys = rw (all_from-append page xs ys) (sym (append_assoc (listed (right_of page s)) (all_from page xs) (all_from page ys)))

-- ---- of intervals that all stand on one side

pub all_before-above : (page : ℕ) (ss : List Span) → ascend page ss ≡ true → all_before page ss ≡ []
unfolding all_before
all_before-above page [] h = refl
all_before-above page (s ∷ ss) h =
    let x = begins page s ss h in
    let rest = all_before-above page ss (far page (end_of s.run) ss (omega (arith, x.from)) x.rest) in
    rw (no_left page s x.from, rest) refl

pub all_before-below : (page e : ℕ) (ss : List Span) → ascend e ss ≡ true → end_from e ss ≤ page → all_before page ss ≡ ss
unfolding all_before
all_before-below page e [] h le = refl
all_before-below page e (s ∷ ss) h le =
    let x = begins e s ss h in
    let b = least (end_of s.run) ss x.rest in
    rw (whole_left page s x.some (omega (arith, b)), all_before-below page (end_of s.run) ss x.rest le) refl

pub all_from-above : (page : ℕ) (ss : List Span) → ascend page ss ≡ true → all_from page ss ≡ ss
unfolding all_from
all_from-above page [] h = refl
all_from-above page (s ∷ ss) h =
    let x = begins page s ss h in
    let rest = all_from-above page ss (far page (end_of s.run) ss (omega (arith, x.from)) x.rest) in
    rw (whole_right page s x.some x.from, rest) refl

pub all_from-below : (page e : ℕ) (ss : List Span) → ascend e ss ≡ true → end_from e ss ≤ page → all_from page ss ≡ []
unfolding all_from
all_from-below page e [] h le = refl
all_from-below page e (s ∷ ss) h le =
    let x = begins e s ss h in
    let b = least (end_of s.run) ss x.rest in
    rw (no_right page s (omega (arith, b)), all_from-below page (end_of s.run) ss x.rest le) refl

-- ---- in ascending order

left_ascends : (page e : ℕ) (s : Span) (l : Option Span) (rest : List Span) → e ≤ s.run.first → 0 < s.run.count → left_of page s ≡ l → ascend (end_of s.run) rest ≡ true → ascend e (listed l ++ rest) ≡ true
left_ascends page e s None rest from some is h = far e (end_of s.run) rest (omega arith) h
left_ascends page e s (Some x) rest from some is h =
    let l = is_left page s x some is in
    ascend-cons e x rest (omega (arith, l.first)) l.some (far (end_of x.run) (end_of s.run) rest l.within h)

pub ascend-all_before : (page e : ℕ) (ss : List Span) → ascend e ss ≡ true → ascend e (all_before page ss) ≡ true
unfolding all_before
ascend-all_before page e [] h = refl
ascend-all_before page e (s ∷ ss) h =
    let x = begins e s ss h in
    left_ascends page e s (left_of page s) (all_before page ss) x.from x.some refl (ascend-all_before page (end_of s.run) ss x.rest)

left_ends : (page e m : ℕ) (s : Span) (l : Option Span) (rest : List Span) → 0 < s.run.count → left_of page s ≡ l → e ≤ m → page ≤ m → ((d : ℕ) → d ≤ m → end_from d rest ≤ m) → end_from e (listed l ++ rest) ≤ m
left_ends page e m s None rest some is a b h = h e a
left_ends page e m s (Some x) rest some is a b h = let l = is_left page s x some is in h (end_of x.run) (omega (arith, l.before))

pub end_from-all_before : (page d e m : ℕ) (ss : List Span) → ascend d ss ≡ true → e ≤ m → page ≤ m → end_from e (all_before page ss) ≤ m
unfolding all_before
end_from-all_before page d e m [] h a b = a
end_from-all_before page d e m (s ∷ ss) h a b =
    let x = begins d s ss h in
    left_ends page e m s (left_of page s) (all_before page ss) x.some refl a b (λ k le. end_from-all_before page (end_of s.run) k m ss x.rest le b)

right_ascends : (page d e : ℕ) (s : Span) (r : Option Span) (rest : List Span) → 0 < s.run.count → right_of page s ≡ r → ((x : Span) → r ≡ Some x → e ≤ x.run.first) → ascend (end_of s.run) rest ≡ true → (r ≡ None → ascend e rest ≡ true) → ascend e (listed r ++ rest) ≡ true
right_ascends page d e s None rest some is from h k = k refl
right_ascends page d e s (Some x) rest some is from h k =
    let r = is_right page s x some is in
    ascend-cons e x rest (from x refl) r.some (rw r.end h)

pub ascend-all_from_same : (page d : ℕ) (ss : List Span) → ascend d ss ≡ true → ascend d (all_from page ss) ≡ true
unfolding all_from
ascend-all_from_same page d [] h = refl
ascend-all_from_same page d (s ∷ ss) h =
    let x = begins d s ss h in
    let rest = ascend-all_from_same page (end_of s.run) ss x.rest in
    right_ascends page d d s (right_of page s) (all_from page ss) x.some refl (λ y is. let r = is_right page s y x.some is in omega (arith, r.least, x.from)) rest (λ is. far d (end_of s.run) (all_from page ss) (omega (arith, x.from)) rest)

pub ascend-all_from : (page d : ℕ) (ss : List Span) → ascend d ss ≡ true → ascend page (all_from page ss) ≡ true
unfolding all_from
ascend-all_from page d [] h = refl
ascend-all_from page d (s ∷ ss) h =
    let x = begins d s ss h in
    right_ascends page d page s (right_of page s) (all_from page ss) x.some refl (λ y is. let r = is_right page s y x.some is in r.from) (ascend-all_from_same page (end_of s.run) ss x.rest) (λ is. ascend-all_from page (end_of s.run) ss x.rest)

-- ---- the numbers of pages

first_of_two : (i a : Bool) (v : ℕ) (w : Option ℕ) → option_map_or (λ (x : ℕ). Some x) (cond (i && a) (Some v) None) (cond a w None) ≡ cond a (cond i (Some v) w) None
first_of_two true true v w = refl
first_of_two true false v w = refl
first_of_two false true v w = refl
first_of_two false false v w = refl

none_at : (a : Bool) → cond a None None ≡ (let none : Option ℕ = None in none)
none_at true = refl
none_at false = refl

pub value_at-all_before : (page : ℕ) (ss : List Span) (n : ℕ) → value_at (all_before page ss) n ≡ cond (ltb n page) (value_at ss n) None
unfolding all_before
value_at-all_before page [] n = sym (none_at (ltb n page))
value_at-all_before page (s ∷ ss) n =
    value_at-append (listed (left_of page s)) (all_before page ss) n
    ∙ rw (left_at, value_at-all_before page ss n) (first_of_two (in_run s.run n) (ltb n page) s.value (value_at ss n))

pub value_at-all_from : (page : ℕ) (ss : List Span) (n : ℕ) → value_at (all_from page ss) n ≡ cond (leb page n) (value_at ss n) None
unfolding all_from
value_at-all_from page [] n = sym (none_at (leb page n))
value_at-all_from page (s ∷ ss) n =
    value_at-append (listed (right_of page s)) (all_from page ss) n
    ∙ rw (right_at, value_at-all_from page ss n) (first_of_two (in_run s.run n) (leb page n) s.value (value_at ss n))

-- ---- another number in between

value_at-span_of : (run : PageRun) (value : Option ℕ) (n : ℕ) → value_at (listed (span_of run value)) n ≡ cond (in_run run n) value None
value_at-span_of run None n = sym (none_at (in_run run n))
value_at-span_of run (Some v) n = refl

three : (l b : Bool) (v w : Option ℕ)
    → option_map_or (λ (x : ℕ). Some x) (cond l w None) (option_map_or (λ (x : ℕ). Some x) (cond (not l && not b) v None) (cond b w None))
    ≡ cond (not l && not b) v w
three true true v None = refl
three true true v (Some w) = refl
three true false v None = refl
three true false v (Some w) = refl
three false true v w = refl
three false false None w = refl
three false false (Some v) w = refl

pub value_at-replaced : (run : PageRun) (value : Option ℕ) (ss : List Span) (n : ℕ) → value_at (replaced run value ss) n ≡ cond (in_run run n) value (value_at ss n)
value_at-replaced run value ss n =
    value_at-append (all_before run.first ss) (listed (span_of run value) ++ all_from (end_of run) ss) n
    ∙ ap (option_map_or (λ (x : ℕ). Some x) (value_at (all_before run.first ss) n)) (value_at-append (listed (span_of run value)) (all_from (end_of run) ss) n)
    ∙ rw (value_at-all_before run.first ss n, value_at-span_of run value n, value_at-all_from (end_of run) ss n, outside run n) (three (ltb n run.first) (leb (end_of run) n) value (value_at ss n))

pub ascend-span_of : (run : PageRun) (value : Option ℕ) (ss : List Span) → 0 < run.count → ascend (end_of run) ss ≡ true → ascend run.first (listed (span_of run value) ++ ss) ≡ true
ascend-span_of run None ss some h = far run.first (end_of run) ss (omega arith) h
ascend-span_of run (Some v) ss some h = ascend-cons run.first (record { run = run; value = v }) ss (omega arith) some h

pub ascend-replaced : (run : PageRun) (value : Option ℕ) (ss : List Span) → 0 < run.count → ascend 0 ss ≡ true → ascend 0 (replaced run value ss) ≡ true
ascend-replaced run value ss some h =
    let xs = all_before run.first ss in
    let ys = listed (span_of run value) ++ all_from (end_of run) ss in
    let ends : end_from 0 xs ≤ run.first = end_from-all_before run.first 0 0 run.first ss h (omega arith) (omega arith) in
    ascend-append 0 xs ys (ascend-all_before run.first 0 ss h) (far (end_from 0 xs) run.first ys ends (ascend-span_of run value (all_from (end_of run) ss) some (ascend-all_from (end_of run) 0 ss h)))

-- ---- where the page is in the list

-- all end at the page or before it
pub before_at_end : (page i : ℕ) (ss : List Span) → ascend 0 ss ≡ true → length ss ≤ i → end_from 0 (take i ss) ≤ page → all_before page ss ≡ ss
before_at_end page i ss h le below = all_before-below page 0 ss h (rw (← take_all i ss le) below)

pub from_at_end : (page i : ℕ) (ss : List Span) → ascend 0 ss ≡ true → length ss ≤ i → end_from 0 (take i ss) ≤ page → all_from page ss ≡ []
from_at_end page i ss h le below = all_from-below page 0 ss h (rw (← take_all i ss le) below)

-- the interval at a place ends behind the page, and those before it do not
module _ (page i : ℕ) (ss : List Span) (s : Span) (h : ascend 0 ss ≡ true) (lt : i < length ss) (is : s ≡ get_or ss i s) (below : end_from 0 (take i ss) ≤ page) (above : page < end_of s.run) where
  xs : List Span
  xs = take i ss

  ys : List Span
  ys = drop (suc i) ss

  parted : ss ≡ xs ++ s ∷ ys
  unfolding xs ys
  parted = sym (take-append-drop i ss) ∙ ap (λ l. take i ss ++ l) (drop-cons ss i s lt ∙ ap (λ x. x ∷ drop (suc i) ss) (sym is))

  front : ascend 0 xs ≡ true
  front = ascend-left 0 xs (s ∷ ys) (ap (ascend 0) (sym parted) ∙ h)

  here : Begins (end_from 0 xs) s ys
  here = begins (end_from 0 xs) s ys (ascend-right 0 xs (s ∷ ys) (ap (ascend 0) (sym parted) ∙ h))

  none_before : (first : ℕ) → first ≤ page → all_before first ys ≡ []
  none_before first le = all_before-above first ys (far first (end_of s.run) ys (omega (arith, above)) here.rest)

  pub before_here : all_before page ss ≡ take i ss ++ listed (left_of page s)
  unfolding all_before xs
  before_here =
      ap (all_before page) parted ∙ all_before-append page xs (s ∷ ys)
      ∙ rw (all_before-below page 0 xs front below, none_before page (omega arith), append-nil) refl

  pub from_here : all_from page ss ≡ listed (right_of page s) ++ drop (suc i) ss
  unfolding all_from xs ys
  from_here =
      ap (all_from page) parted ∙ all_from-append page xs (s ∷ ys)
      ∙ rw (all_from-below page 0 xs front below, all_from-above page ys (far page (end_of s.run) ys (omega (arith, above)) here.rest)) refl

pub some_from : (page e : ℕ) (ss : List Span) → e ≤ page → page < end_from e ss → 0 < length (all_from page ss)
unfolding all_from
some_from page e [] le lt = absurd (omega arith)
some_from page e (s ∷ ss) le lt = elim (leb (end_of s.run) page) as (λ b. leb (end_of s.run) page ≡ b → 0 < length (listed (cond b None (Some (part_of (max s.run.first page) (end_of s.run) s))) ++ all_from page ss)) [
  | true ↦ λ t. some_from page (end_of s.run) ss (leb-true _ _ t) lt
  | false ↦ λ t. omega arith
] refl

pub fewer_from : (page : ℕ) (ss : List Span) → length (all_from page ss) ≤ length ss
unfolding all_from
fewer_from page [] = omega arith
fewer_from page (s ∷ ss) =
    let rest = fewer_from page ss in
    elim (leb (end_of s.run) page) as (λ b. length (listed (cond b None (Some (part_of (max s.run.first page) (end_of s.run) s))) ++ all_from page ss) ≤ length (s ∷ ss)) [ true ↦ omega arith | false ↦ omega arith ]

pub fewer_before : (page : ℕ) (ss : List Span) → length (all_before page ss) ≤ length ss
unfolding all_before
fewer_before page [] = omega arith
fewer_before page (s ∷ ss) =
    let rest = fewer_before page ss in
    elim (leb page s.run.first) as (λ b. length (listed (cond b None (Some (part_of s.run.first (min (end_of s.run) page) s))) ++ all_before page ss) ≤ length (s ∷ ss)) [ true ↦ omega arith | false ↦ omega arith ]

-- ---- from a page on, and before another

right_within : (page m : ℕ) (s : Span) (r : Option Span) (rest : List Span) → 0 < s.run.count → right_of page s ≡ r → end_of s.run ≤ m → all_before m rest ≡ rest → all_before m (listed r ++ rest) ≡ listed r ++ rest
unfolding all_before
right_within page m s None rest some is le e = e
right_within page m s (Some x) rest some is le e =
    let r = is_right page s x some is in
    rw (whole_left m x r.some (omega (arith, r.end, le)), e) refl

-- all end at the second page or before it
pub before-from : (page m e : ℕ) (ss : List Span) → ascend e ss ≡ true → end_from e ss ≤ m → all_before m (all_from page ss) ≡ all_from page ss
unfolding all_from
before-from page m e [] h le = all_before-above m [] refl
before-from page m e (s ∷ ss) h le =
    let x = begins e s ss h in
    let b = least (end_of s.run) ss x.rest in
    right_within page m s (right_of page s) (all_from page ss) x.some refl (omega (arith, b)) (before-from page m (end_of s.run) ss x.rest le)

same_right : (b : ℕ) (w s : Span) → end_of w.run ≡ end_of s.run → max w.run.first b ≡ max s.run.first b → w.value ≡ s.value → right_of b w ≡ right_of b s
same_right b w s e f v = rw (e, f, v) refl

right_again : (a b : ℕ) (s : Span) → 0 < s.run.count → a ≤ b → all_from b (listed (right_of a s)) ≡ listed (right_of b s)
unfolding all_from
right_again a b s some le = elim (leb (end_of s.run) a) as (λ t. leb (end_of s.run) a ≡ t → all_from b (listed (cond t None (Some (part_of (max s.run.first a) (end_of s.run) s)))) ≡ listed (right_of b s)) [
  | true ↦ λ t. sym (ap listed (no_right b s (let q = leb-true _ _ t in omega arith)))
  | false ↦ λ t.
      let lt : a < end_of s.run = grind (arith, nat_tests) in
      let w = part_of (max s.run.first a) (end_of s.run) s in
      let end : end_of w.run ≡ end_of s.run = omega arith in
      let first : max w.run.first b ≡ max s.run.first b = omega arith in
      append-nil (listed (right_of b w)) ∙ ap listed (same_right b w s end first refl)
] refl

-- a later page
pub from-later : (a b e : ℕ) (ss : List Span) → ascend e ss ≡ true → a ≤ b → all_from b (all_from a ss) ≡ all_from b ss
unfolding all_from
from-later a b e [] h le = refl
from-later a b e (s ∷ ss) h le =
    let x = begins e s ss h in
    all_from-append b (listed (right_of a s)) (all_from a ss)
    ∙ ap (λ l. l ++ all_from b (all_from a ss)) (right_again a b s x.some le)
    ∙ ap (λ l. listed (right_of b s) ++ l) (from-later a b (end_of s.run) ss x.rest le)

-- of those that end at the page or before it, none is there
pub from-dropped : (page i : ℕ) (ss : List Span) → ascend 0 ss ≡ true → end_from 0 (take i ss) ≤ page → all_from page (drop i ss) ≡ all_from page ss
from-dropped page i ss h below =
    let front = ascend-left 0 (take i ss) (drop i ss) (ap (ascend 0) (take-append-drop i ss) ∙ h) in
    sym (ap (all_from page) (sym (take-append-drop i ss)) ∙ all_from-append page (take i ss) (drop i ss) ∙ ap (λ l. l ++ all_from page (drop i ss)) (all_from-below page 0 (take i ss) front below))
