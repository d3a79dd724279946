-- How many more blocks there are where runs get a number.
use Rattle.std.proofs.Common.{◌≡◌, ℕ, suc, ◌+◌, ◌-◌, ◌<◌, ◌≤◌, Bool, true, false, cond, not, leb, ltb, filter, List, [], ◌∷◌, ◌++◌, length, get_or, take, drop, length-append, refl, sym, ap, subst, ◌∙◌, arith, ◌*◌, ◌/◌}
use Rattle.std.specs.List.{AllByRecursion}
use Rattle.std.proofs.lemmas.List.{take-append-drop, length-take, length-drop, get_or-take, get_or-drop}
use Rattle.std.proofs.lemmas.List.Filters.{length-filter_both}
use Rattle.std.proofs.lemmas.Bool.{leb-true, ltb-true}
use Rattle.std.proofs.lemmas.Bool.Decides.{nat_tests}
use Rattle.std.proofs.Math.Seq.{drop-cons, get_or-append_seam}
use Rattle.base.specs.Pages.{PageRun}
use Rattle.spans.specs.Spans.{Span, ascend, end_from}
use Rattle.spans.specs.Search.{begins_at}
use Rattle.spans.specs.Blocks.{all_spans, AreFilled, more_blocks, runs_before, runs_after, needed, blocks_needed, IsGroup}
use Rattle.spans.specs.declared.place.Group.{Group}
use Rattle.spans.proofs.Ascending.{far, ascend-right}
use Rattle.spans.proofs.Stacked.{all-next, block-begins, begins-filled, begins_upward, filled_front, filled_rest, filled_at}

-- ---- of one block

none_more : (len : ℕ) → len ≤ 128 → more_blocks len 0 ≡ 0
none_more len le = omega arith

pub most_more : (len runs : ℕ) → len ≤ 128 → more_blocks len runs ≤ runs
most_more len runs le = omega arith

-- ---- lists that are filtered

filter_within : {A : Type 0} (p q : A → Bool) → ((x : A) → p x ≡ true → q x ≡ true) → (xs : List A) → filter p (filter q xs) ≡ filter p xs
filter_within p q h [] = refl
filter_within p q h (x ∷ xs) =
    let rest = filter_within p q h xs in
    elim (q x) as (λ b. q x ≡ b → filter p (cond b (x ∷ filter q xs) (filter q xs)) ≡ cond (p x) (x ∷ filter p xs) (filter p xs)) [
      | true ↦ λ t. elim (p x) as (λ c. cond c (x ∷ filter p (filter q xs)) (filter p (filter q xs)) ≡ cond c (x ∷ filter p xs) (filter p xs)) [ true ↦ ap (λ l. x ∷ l) rest | false ↦ rest ]
      | false ↦ λ t. elim (p x) as (λ c. p x ≡ c → filter p (filter q xs) ≡ cond c (x ∷ filter p xs) (filter p xs)) [ true ↦ λ u. let yes = h x u in absurd (cc) | false ↦ λ u. rest ] refl
    ] refl

filter_swap : {A : Type 0} (p q : A → Bool) (xs : List A) → filter p (filter q xs) ≡ filter q (filter p xs)
filter_swap p q [] = refl
filter_swap p q (x ∷ xs) =
    let rest = filter_swap p q xs in
    elim (q x) as (λ b. q x ≡ b → filter p (cond b (x ∷ filter q xs) (filter q xs)) ≡ filter q (cond (p x) (x ∷ filter p xs) (filter p xs))) [
      | true ↦ λ t. elim (p x) as (λ c. cond c (x ∷ filter p (filter q xs)) (filter p (filter q xs)) ≡ filter q (cond c (x ∷ filter p xs) (filter p xs))) [ true ↦ rw t (ap (λ l. x ∷ l) rest) | false ↦ rest ]
      | false ↦ λ t. elim (p x) as (λ c. filter p (filter q xs) ≡ filter q (cond c (x ∷ filter p xs) (filter p xs))) [ true ↦ rw t rest | false ↦ rest ]
    ] refl

filter_all : {A : Type 0} (p : A → Bool) (xs : List A) → AllByRecursion (λ x. p x ≡ true) xs → filter p xs ≡ xs
filter_all p [] h = refl
filter_all p (x ∷ xs) h = rw h.0 (ap (λ l. x ∷ l) (filter_all p xs h.1))

filter_none : {A : Type 0} (p : A → Bool) (xs : List A) → AllByRecursion (λ x. p x ≡ false) xs → filter p xs ≡ []
filter_none p [] h = refl
filter_none p (x ∷ xs) h = rw h.0 (filter_none p xs h.1)

filter_front : {A : Type 0} (p : A → Bool) (xs ys : List A) → AllByRecursion (λ x. p x ≡ true) xs → AllByRecursion (λ x. p x ≡ false) ys → filter p (xs ++ ys) ≡ xs
filter_front p [] ys h k = filter_none p ys k
filter_front p (x ∷ xs) ys h k = rw h.0 (ap (λ l. x ∷ l) (filter_front p xs ys h.1 k))

filter_rest : {A : Type 0} (p : A → Bool) (xs ys : List A) → AllByRecursion (λ x. p x ≡ false) xs → AllByRecursion (λ x. p x ≡ true) ys → filter p (xs ++ ys) ≡ ys
filter_rest p [] ys h k = filter_all p ys k
filter_rest p (x ∷ xs) ys h k = rw h.0 (filter_rest p xs ys h.1 k)

all_filtered : {A : Type 0} (P : A → Type 0) (p : A → Bool) (xs : List A) → AllByRecursion P xs → AllByRecursion P (filter p xs)
all_filtered P p [] h = tt
all_filtered P p (x ∷ xs) h =
    let rest = all_filtered P p xs h.1 in
    elim (p x) as (λ b. AllByRecursion P (cond b (x ∷ filter p xs) (filter p xs))) [ true ↦ (h.0, rest) | false ↦ rest ]

pub all_each : {A : Type 0} (P : A → Type 0) (xs : List A) → ((i : ℕ) (d : A) → i < length xs → P (get_or xs i d)) → AllByRecursion P xs
all_each P [] h = tt
all_each P (x ∷ xs) h = (h 0 x (omega arith), all_each P xs (λ i d lt. h (suc i) d (omega arith)))

all_as : {A : Type 0} (P Q : A → Type 0) → ((x : A) → P x → Q x) → (xs : List A) → AllByRecursion P xs → AllByRecursion Q xs
all_as P Q f [] h = tt
all_as P Q f (x ∷ xs) h = (f x h.0, all_as P Q f xs h.1)

-- ---- runs before a block, and behind where it begins

to : ℕ → List PageRun → List PageRun
to page runs = filter (λ run. leb run.first page) runs

behind : ℕ → List PageRun → List PageRun
behind page runs = filter (λ run. ltb page run.first) runs

-- each run begins in front of these blocks, or with them
abbrev pub AreAhead : List (List Span) → List PageRun → Type 0
AreAhead bs runs = AllByRecursion (λ run. ascend run.first (all_spans bs) ≡ true) runs

first_to : (run : PageRun) (page : ℕ) → run.first ≤ page → leb run.first page ≡ true
first_to run page le = grind (arith, nat_tests)

not_behind : (run : PageRun) (page : ℕ) → run.first ≤ page → ltb page run.first ≡ false
not_behind run page le = grind (arith, nat_tests)

is_behind : (run : PageRun) (page : ℕ) → page < run.first → ltb page run.first ≡ true
is_behind run page lt = grind (arith, nat_tests)

not_to : (run : PageRun) (page : ℕ) → page < run.first → leb run.first page ≡ false
not_to run page lt = grind (arith, nat_tests)

other_way : (run : PageRun) (page : ℕ) → ltb page run.first ≡ not (leb run.first page)
other_way run page = grind (arith, nat_tests)

ahead_of : (b : List Span) (bs : List (List Span)) (run : PageRun) → 0 < length b → ascend run.first (b ++ all_spans bs) ≡ true → run.first ≤ begins_at b
ahead_of b bs run some h = (begins-filled run.first b (all_spans bs) some h).0

all_before : (bs : List (List Span)) (runs : List PageRun) → AreFilled bs → AreAhead bs runs → runs_before bs runs ≡ runs
all_before [] runs f h = refl
all_before (b ∷ bs) runs f h = filter_all (λ run. leb run.first (begins_at b)) runs (all_as (λ run. ascend run.first (b ++ all_spans bs) ≡ true) (λ run. leb run.first (begins_at b) ≡ true) (λ run k. first_to run (begins_at b) (ahead_of b bs run f.0.0 k)) runs h)

none_after : (bs : List (List Span)) (runs : List PageRun) → AreFilled bs → AreAhead bs runs → runs_after bs runs ≡ []
none_after [] runs f h = refl
none_after (b ∷ bs) runs f h = filter_none (λ run. ltb (begins_at b) run.first) runs (all_as (λ run. ascend run.first (b ++ all_spans bs) ≡ true) (λ run. ltb (begins_at b) run.first ≡ false) (λ run k. not_behind run (begins_at b) (ahead_of b bs run f.0.0 k)) runs h)

before_none : (bs : List (List Span)) → runs_before bs [] ≡ []
before_none [] = refl
before_none (b ∷ bs) = refl

after_none : (bs : List (List Span)) → runs_after bs [] ≡ []
after_none [] = refl
after_none (b ∷ bs) = refl

pub needed-none : (bs : List (List Span)) → AreFilled bs → needed bs [] ≡ 0
needed-none [] f = refl
needed-none (b ∷ bs) f =
    let rest = needed-none bs f.1 in
    rw (before_none bs, after_none bs, rest) (let n = none_more (length b) f.0.1 in omega arith)

-- a run needs one more at most
pub needed-most : (bs : List (List Span)) (runs : List PageRun) → AreFilled bs → needed bs runs ≤ length runs
needed-most [] runs f = omega arith
needed-most (b ∷ []) runs f = let m = most_more (length b) (length runs) f.0.1 in omega arith
needed-most (b ∷ c ∷ bs) runs f =
    let m = most_more (length b) (length (runs_before (c ∷ bs) runs)) f.0.1 in
    let r = needed-most (c ∷ bs) (runs_after (c ∷ bs) runs) f.1 in
    let both = length-filter_both (λ (run : PageRun). leb run.first (begins_at c)) (λ (run : PageRun). ltb (begins_at c) run.first) (λ run. other_way run (begins_at c)) runs in
    omega arith

-- ---- blocks that no run belongs to

pub needed-front : (xs ds : List (List Span)) (runs : List PageRun) → 0 < length xs → AreFilled ds → AreAhead ds runs → needed (xs ++ ds) runs ≡ needed xs runs
needed-front [] ds runs some f h = absurd (omega arith)
needed-front (a ∷ []) ds runs some f h =
    let rest = needed-none ds f in
    rw (all_before ds runs f h, none_after ds runs f h, rest) refl
needed-front (a ∷ b ∷ xs) ds runs some f h =
    ap (λ n. more_blocks (length a) (length (runs_before (b ∷ xs) runs)) + n)
    (needed-front (b ∷ xs) ds (runs_after (b ∷ xs) runs) (omega arith) f (all_filtered (λ run. ascend run.first (all_spans ds) ≡ true) (λ run. ltb (begins_at b) run.first) runs h))

-- ---- the last block that runs belong to

to_less : (a b : ℕ) → a ≤ b → (run : PageRun) → leb run.first a ≡ true → leb run.first b ≡ true
to_less a b le run t = let l = leb-true _ _ t in first_to run b (omega arith)

behind_less : (a b : ℕ) → a ≤ b → (run : PageRun) → ltb b run.first ≡ true → ltb a run.first ≡ true
behind_less a b le run t = let l = ltb-true _ _ t in is_behind run a (omega arith)

needed-split : (e : ℕ) (xs : List (List Span)) (b : List Span) (cs : List (List Span)) (runs : List PageRun) → 0 < length xs → AreFilled (xs ++ b ∷ cs) → ascend e (all_spans (xs ++ b ∷ cs)) ≡ true → AreFilled cs → AreAhead cs runs
    → needed (xs ++ b ∷ cs) runs ≡ needed xs (to (begins_at b) runs) + more_blocks (length b) (length (behind (begins_at b) runs))
unfolding to behind
needed-split e [] b cs runs some f up g h = absurd (omega arith)
needed-split e (a ∷ []) b cs runs some f up g h =
    let rs = filter (λ (run : PageRun). ltb (begins_at b) run.first) runs in
    let ahead = all_filtered (λ run. ascend run.first (all_spans cs) ≡ true) (λ run. ltb (begins_at b) run.first) runs h in
    let rest = needed-none cs g in
    let last : needed (b ∷ cs) rs ≡ more_blocks (length b) (length rs) = rw (all_before cs rs g ahead, none_after cs rs g ahead, rest) (omega arith) in
    rw last (omega arith)
needed-split e (a ∷ c ∷ xs) b cs runs some f up g h =
    let rs = filter (λ (run : PageRun). ltb (begins_at c) run.first) runs in
    let le : begins_at c ≤ begins_at b = subst (λ (x : List Span). begins_at c ≤ begins_at x) (get_or-append_seam (c ∷ xs) b cs c)
    (begins_upward (end_from e a) 0 (length (c ∷ xs)) (c ∷ xs ++ b ∷ cs) c c f.1 (ascend-right e a (all_spans (c ∷ xs ++ b ∷ cs)) up) (omega arith) (let l = length-append (c ∷ xs) (b ∷ cs) in omega arith)) in
    let rest = needed-split (end_from e a) (c ∷ xs) b cs rs (omega arith) f.1 (ascend-right e a (all_spans (c ∷ xs ++ b ∷ cs)) up) g (all_filtered (λ run. ascend run.first (all_spans cs) ≡ true) (λ run. ltb (begins_at c) run.first) runs h) in
    let first : filter (λ (run : PageRun). leb run.first (begins_at c)) (filter (λ run. leb run.first (begins_at b)) runs) ≡ filter (λ run. leb run.first (begins_at c)) runs =
    filter_within (λ run. leb run.first (begins_at c)) (λ run. leb run.first (begins_at b)) (to_less (begins_at c) (begins_at b) le) runs in
    let middle : filter (λ (run : PageRun). ltb (begins_at c) run.first) (filter (λ run. leb run.first (begins_at b)) runs) ≡ filter (λ run. leb run.first (begins_at b)) rs =
    filter_swap (λ run. ltb (begins_at c) run.first) (λ run. leb run.first (begins_at b)) runs in
    let last : filter (λ (run : PageRun). ltb (begins_at b) run.first) rs ≡ filter (λ run. ltb (begins_at b) run.first) runs =
    filter_within (λ run. ltb (begins_at b) run.first) (λ run. ltb (begins_at c) run.first) (behind_less (begins_at c) (begins_at b) le) runs in
    rw (first, middle) (let r = rest in let l = ap (λ (x : List PageRun). more_blocks (length b) (length x)) last in omega (arith, r, l))

-- ---- the runs of a group

module _ (bs : List (List Span)) (place from : ℕ) (runs : List PageRun) (d : List Span) (f : AreFilled bs) (up : ascend 0 (all_spans bs) ≡ true) (lt : place < length bs) (inside : from ≤ length runs)
    (before : AllByRecursion (λ run. run.first ≤ begins_at (get_or bs place d)) (take from runs)) (later : 0 < place → AllByRecursion (λ run. begins_at (get_or bs place d) < run.first) (drop from runs))
    (none : place ≡ 0 → from ≡ 0) (ahead : AreAhead (drop (place + 1) bs) runs) where
  b : List Span
  b = get_or bs place d

  whole : bs ≡ take place bs ++ get_or bs place d ∷ drop (place + 1) bs
  whole = let on : suc place ≡ place + 1 = omega arith in sym (take-append-drop place bs) ∙ ap (λ l. take place bs ++ l) (drop-cons bs place d lt ∙ ap (λ (k : ℕ). get_or bs place d ∷ drop k bs) on)

  parts : AllByRecursion (λ run. leb run.first (begins_at (get_or bs place d)) ≡ true) (take from runs)
  parts = all_as (λ run. run.first ≤ begins_at (get_or bs place d)) (λ run. leb run.first (begins_at (get_or bs place d)) ≡ true) (λ run le. first_to run (begins_at (get_or bs place d)) le) (take from runs) before

  front_is : 0 < place → to (begins_at (get_or bs place d)) runs ≡ take from runs
  unfolding to
  front_is some =
      ap (filter (λ run. leb run.first (begins_at (get_or bs place d)))) (sym (take-append-drop from runs))
      ∙ filter_front (λ run. leb run.first (begins_at (get_or bs place d))) (take from runs) (drop from runs) parts
      (all_as (λ run. begins_at (get_or bs place d) < run.first) (λ run. leb run.first (begins_at (get_or bs place d)) ≡ false) (λ run k. not_to run (begins_at (get_or bs place d)) k) (drop from runs) (later some))

  rest_is : 0 < place → behind (begins_at (get_or bs place d)) runs ≡ drop from runs
  unfolding behind
  rest_is some =
      ap (filter (λ run. ltb (begins_at (get_or bs place d)) run.first)) (sym (take-append-drop from runs))
      ∙ filter_rest (λ run. ltb (begins_at (get_or bs place d)) run.first) (take from runs) (drop from runs)
      (all_as (λ run. run.first ≤ begins_at (get_or bs place d)) (λ run. ltb (begins_at (get_or bs place d)) run.first ≡ false) (λ run le. not_behind run (begins_at (get_or bs place d)) le) (take from runs) before)
      (all_as (λ run. begins_at (get_or bs place d) < run.first) (λ run. ltb (begins_at (get_or bs place d)) run.first ≡ true) (λ run k. is_behind run (begins_at (get_or bs place d)) k) (drop from runs) (later some))

  more_left : length (drop from runs) ≡ length runs - from
  more_left = length-drop from runs

  -- those of the group, and the others
  pub needed-group : needed bs runs ≡ needed (take place bs) (take from runs) + more_blocks (length (get_or bs place d)) (length runs - from)
  needed-group = elim (ltb 0 place) as (λ q. ltb 0 place ≡ q → needed bs runs ≡ needed (take place bs) (take from runs) + more_blocks (length (get_or bs place d)) (length runs - from)) [
    | true ↦ λ t.
        let some : 0 < place = ltb-true _ _ t in
        let long : 0 < length (take place bs) = let l = length-take place bs in omega arith in
        ap (λ l. needed l runs) whole
        ∙ needed-split 0 (take place bs) (get_or bs place d) (drop (place + 1) bs) runs long (subst AreFilled whole f) (ap (λ l. ascend 0 (all_spans l)) (sym whole) ∙ up) (filled_rest (place + 1) bs f) ahead
        ∙ ap (λ l. needed (take place bs) l + more_blocks (length (get_or bs place d)) (length (behind (begins_at (get_or bs place d)) runs))) (front_is some)
        ∙ ap (λ l. needed (take place bs) (take from runs) + more_blocks (length (get_or bs place d)) (length l)) (rest_is some)
        ∙ ap (λ n. needed (take place bs) (take from runs) + more_blocks (length (get_or bs place d)) n) more_left
    | false ↦ λ t.
        let zero_place : place ≡ 0 = grind (arith, nat_tests) in
        let zero_from : from ≡ 0 = none zero_place in
        let g = filled_rest (place + 1) bs f in
        let rest = needed-none (drop (place + 1) bs) g in
        let front : take place bs ≡ [] = rw zero_place refl in
        let count : length runs - from ≡ length runs = omega arith in
        let all : bs ≡ get_or bs place d ∷ drop (place + 1) bs = whole ∙ ap (λ l. l ++ get_or bs place d ∷ drop (place + 1) bs) front in
        ap (λ l. needed l runs) all
        ∙ ap (λ l. more_blocks (length (get_or bs place d)) (length l) + needed (drop (place + 1) bs) (runs_after (drop (place + 1) bs) runs)) (all_before (drop (place + 1) bs) runs g ahead)
        ∙ ap (λ l. more_blocks (length (get_or bs place d)) (length runs) + needed (drop (place + 1) bs) l) (none_after (drop (place + 1) bs) runs g ahead)
        ∙ ap (λ n. more_blocks (length (get_or bs place d)) (length runs) + n) rest
        ∙ rw (front, count) (omega arith)
  ] refl

-- blocks from a place on before which the runs begin are not needed
pub needed-place : (bs : List (List Span)) (place e : ℕ) (runs : List PageRun) → place ≤ length bs → AreFilled (drop place bs) → ascend e (all_spans (drop place bs)) ≡ true → AllByRecursion (λ run. run.first ≤ e) runs → (place ≡ 0 → runs ≡ []) → AreFilled bs
    → needed bs runs ≡ needed (take place bs) runs
needed-place bs place e runs inside g up le none f = elim (ltb 0 place) as (λ q. ltb 0 place ≡ q → needed bs runs ≡ needed (take place bs) runs) [
  | true ↦ λ t.
      let some : 0 < place = ltb-true _ _ t in
      let long : 0 < length (take place bs) = let l = length-take place bs in omega arith in
      ap (λ l. needed l runs) (sym (take-append-drop place bs))
      ∙ needed-front (take place bs) (drop place bs) runs long g (all_as (λ run. run.first ≤ e) (λ run. ascend run.first (all_spans (drop place bs)) ≡ true) (λ run k. far run.first e (all_spans (drop place bs)) k up) runs le)
  | false ↦ λ t.
      let zero_place : place ≡ 0 = grind (arith, nat_tests) in
      ap (needed bs) (none zero_place) ∙ needed-none bs f ∙ sym (ap (needed (take place bs)) (none zero_place) ∙ needed-none (take place bs) (filled_front place bs f))
] refl

-- ---- a group that was found

module _ (bs : List (List Span)) (runs : List PageRun) (group : Group) (d : List Span) (g : IsGroup bs runs group) (f : AreFilled bs) (up : ascend 0 (all_spans bs) ≡ true) (lt : group.place < length bs) (inside : group.from < length runs) where
  pub group-before : AllByRecursion (λ run. run.first ≤ begins_at (get_or bs group.place d)) (take group.from runs)
  group-before = all_each (λ run. run.first ≤ begins_at (get_or bs group.place d)) (take group.from runs) (λ i r less.
      let l = length-take group.from runs in
      let here : i < group.from = omega arith in
      subst (λ (x : PageRun). x.first ≤ begins_at (get_or bs group.place d)) (sym (get_or-take group.from runs i r here)) (g.before i r d here))

  group-later : 0 < group.place → AllByRecursion (λ run. begins_at (get_or bs group.place d) < run.first) (drop group.from runs)
  group-later some = all_each (λ run. begins_at (get_or bs group.place d) < run.first) (drop group.from runs) (λ i r less.
      let l = length-drop group.from runs in
      subst (λ (x : PageRun). begins_at (get_or bs group.place d) < x.first) (sym (get_or-drop group.from runs i r)) (g.behind (group.from + i) r d some (omega arith) (omega arith)))

  group-ahead : AreAhead (drop (group.place + 1) bs) runs
  group-ahead = all_each (λ run. ascend run.first (all_spans (drop (group.place + 1) bs)) ≡ true) runs (λ i r less. g.next i r less)

  pub group-needs : needed bs runs ≡ needed (take group.place bs) (take group.from runs) + more_blocks (length (get_or bs group.place d)) (length runs - group.from)
  group-needs = needed-group bs group.place group.from runs d f up lt (omega arith) group-before group-later g.first group-ahead

  -- and for the others alone
  pub group-left : needed bs (take group.from runs) ≡ needed (take group.place bs) (take group.from runs)
  group-left =
      let begun = block-begins bs group.place d lt up (filled_at group.place bs d f lt).0 in
      let rest : ascend (begins_at (get_or bs group.place d)) (all_spans (drop group.place bs)) ≡ true = ap (ascend (begins_at (get_or bs group.place d))) (all-next group.place bs d lt) ∙ begun.1 in
      needed-place bs group.place (begins_at (get_or bs group.place d)) (take group.from runs) (omega arith) (filled_rest group.place bs f) rest group-before
      (λ e. ap (λ (k : ℕ). take k runs) (g.first e)) f

pub first-needed : (bs : List (List Span)) (runs : List PageRun) → length bs ≡ 0 → 0 < length runs → 1 + (2 * length runs - 1) / 128 ≡ blocks_needed bs runs
first-needed [] [] e some = absurd (omega arith)
first-needed [] (run ∷ runs) e some = let same : 2 * length (run ∷ runs) ≡ 0 + 2 * length (run ∷ runs) = omega arith in ap (λ (k : ℕ). 1 + (k - 1) / 128) same
first-needed (b ∷ bs) runs e some = absurd (omega arith)

pub some-needed : (bs : List (List Span)) (runs : List PageRun) → 0 < length bs → needed bs runs ≡ blocks_needed bs runs
some-needed [] runs some = absurd (omega arith)
some-needed (b ∷ bs) runs some = refl

-- ---- two blocks that became one

one_more : (a b r s : ℕ) → 0 < a → 0 < b → more_blocks (a + b) (r + s) ≤ 1 + (more_blocks a r + more_blocks b s)
one_more a b r s some other = omega arith

begins-one : (a b : List Span) → 0 < length a → begins_at (a ++ b) ≡ begins_at a
begins-one [] b some = absurd (omega arith)
begins-one (s ∷ a) b some = refl

-- the runs that belong to both
runs-both : (low high : ℕ) (runs : List PageRun) → low ≤ high → length (to low runs) + length (to high (behind low runs)) ≡ length (to high runs)
unfolding to behind
runs-both low high runs le =
    let both = length-filter_both (λ (run : PageRun). leb run.first low) (λ (run : PageRun). ltb low run.first) (λ run. other_way run low) (filter (λ run. leb run.first high) runs) in
    let first = ap length (filter_within (λ (run : PageRun). leb run.first low) (λ run. leb run.first high) (to_less low high le) runs) in
    let rest = ap length (filter_swap (λ (run : PageRun). ltb low run.first) (λ run. leb run.first high) runs) in
    omega (arith, both, first, rest)

of_both : (low high : ℕ) (runs : List PageRun) → low ≤ high → length (filter (λ (run : PageRun). leb run.first low) runs) + length (filter (λ (run : PageRun). leb run.first high) (filter (λ (run : PageRun). ltb low run.first) runs)) ≡ length (filter (λ (run : PageRun). leb run.first high) runs)
unfolding to behind
of_both low high runs le = runs-both low high runs le

-- both need one more than one of them at most
pub needed-one : (xs : List (List Span)) (a b : List Span) (ys : List (List Span)) (e : ℕ) → AreFilled (a ∷ b ∷ ys) → ascend e (all_spans (a ∷ b ∷ ys)) ≡ true → (runs : List PageRun)
    → needed (xs ++ (a ++ b) ∷ ys) runs ≤ 1 + needed (xs ++ a ∷ b ∷ ys) runs
needed-one [] a b [] e f up runs =
    let l = length-append a b in
    let both = length-filter_both (λ (run : PageRun). leb run.first (begins_at b)) (λ (run : PageRun). ltb (begins_at b) run.first) (λ run. other_way run (begins_at b)) runs in
    let m = one_more (length a) (length b) (length (filter (λ (run : PageRun). leb run.first (begins_at b)) runs)) (length (filter (λ (run : PageRun). ltb (begins_at b) run.first) runs)) f.0.0 f.1.0.0 in
    rw l (rw (sym both) (omega (arith, m)))
needed-one [] a b (y ∷ ys) e f up runs =
    let le : begins_at b ≤ begins_at y = begins_upward e 1 2 (a ∷ b ∷ y ∷ ys) b y f up (omega arith) (omega arith) in
    let l = length-append a b in
    let rest : filter (λ (run : PageRun). ltb (begins_at y) run.first) (filter (λ run. ltb (begins_at b) run.first) runs) ≡ filter (λ run. ltb (begins_at y) run.first) runs =
    filter_within (λ run. ltb (begins_at y) run.first) (λ run. ltb (begins_at b) run.first) (behind_less (begins_at b) (begins_at y) le) runs in
    let both = of_both (begins_at b) (begins_at y) runs le in
    let m = one_more (length a) (length b) (length (filter (λ (run : PageRun). leb run.first (begins_at b)) runs)) (length (filter (λ (run : PageRun). leb run.first (begins_at y)) (filter (λ run. ltb (begins_at b) run.first) runs))) f.0.0 f.1.0.0 in
    rw (rest, l, sym both) (omega (arith, m))
needed-one (x ∷ []) a b ys e f up runs =
    let same = begins-one a b f.0.0 in
    let r = needed-one [] a b ys e f up (filter (λ (run : PageRun). ltb (begins_at a) run.first) runs) in
    rw same (omega (arith, r))
needed-one (x ∷ y ∷ xs) a b ys e f up runs =
    let r = needed-one (y ∷ xs) a b ys e f up (filter (λ (run : PageRun). ltb (begins_at y) run.first) runs) in
    omega (arith, r)
