-- Maximal runs, made run by run, and the value that they give a page.
use Rattle.std.proofs.Common.{◌≡◌, ℕ, zero, suc, ◌+◌, ◌-◌, ◌<◌, ◌≤◌, Bool, true, false, ◌||◌, cond, eqb, leb, ltb, List, [], ◌∷◌, ◌++◌, map, length, take, set, get_or, Option, Some, None, find, refl, sym, ap, ap₂, subst, ◌∙◌, arith, eq-eqb, append_assoc}
use Rattle.std.specs.Option.{option_map, option_map_or}
use Rattle.std.proofs.lemmas.Bool.{eqb-true, leb-true}
use Rattle.std.proofs.lemmas.Bool.Decides.{nat_tests}
use Rattle.std.proofs.lemmas.List.{set_at, take_all, take_more, length-take-le}
use Rattle.base.proofs.Booleans.{both}
use Rattle.base.specs.Pages.{PageRun, in_run, covers}
use Rattle.base.specs.Runs.{ValuedRun, valued, is_followed_by, joined, with_next, maximal_runs, valued_at, end_of_all}

pub with_next-last : {A : Type 0} (same : A → A → Bool) (front : List (ValuedRun A)) (last next : ValuedRun A) → with_next same (front ++ last ∷ []) next ≡ front ++ cond (is_followed_by same last next) (joined last next ∷ []) (last ∷ next ∷ [])
unfolding with_next
with_next-last same [] last next = refl
with_next-last same (x ∷ []) last next = refl
with_next-last same (x ∷ y ∷ front) last next = ap (λ t. x ∷ t) (with_next-last same (y ∷ front) last next)

some-run : {A : Type 0} (same : A → A → Bool) (runs : List (ValuedRun A)) (next : ValuedRun A) → 0 < length (with_next same runs next)
unfolding with_next
some-run same [] next = omega arith
some-run same (r ∷ []) next = elim (is_followed_by same r next) as (λ b. 0 < length (cond b (joined r next ∷ []) (r ∷ next ∷ []))) [ true ↦ omega arith | false ↦ omega arith ]
some-run same (r ∷ s ∷ runs) next = omega arith

past-first : {A : Type 0} (same : A → A → Bool) (r : ValuedRun A) (runs : List (ValuedRun A)) (next : ValuedRun A) → 0 < length runs → with_next same (r ∷ runs) next ≡ r ∷ with_next same runs next
unfolding with_next
past-first same r [] next some = absurd (omega arith)
past-first same r (s ∷ runs) next some = refl

follows-same : {A : Type 0} (same : A → A → Bool) (first count start more : ℕ) (v a : A) → first + count ≡ start → same v a ≡ true → is_followed_by same (valued first count v) (valued start more a) ≡ true
follows-same same first count start more v a at alike =
    let t : eqb (first + count) start ≡ true = eq-eqb (first + count) start at in
    rw (t, alike) refl

-- pages and those behind them, of one value
pub with_next-twice : {A : Type 0} (same : A → A → Bool) (runs : List (ValuedRun A)) (first c d : ℕ) (a : A) → same a a ≡ true → with_next same (with_next same runs (valued first c a)) (valued (first + c) d a) ≡ with_next same runs (valued first (c + d) a)
unfolding with_next
with_next-twice same [] first c d a alike = rw (follows-same same first c (first + c) d a a refl alike) refl
with_next-twice same (r ∷ []) first c d a alike =
    elim (is_followed_by same r (valued first c a)) as (λ b. is_followed_by same r (valued first c a) ≡ b
    → with_next same (cond b (joined r (valued first c a) ∷ []) (r ∷ valued first c a ∷ [])) (valued (first + c) d a) ≡ cond b (joined r (valued first (c + d) a) ∷ []) (r ∷ valued first (c + d) a ∷ [])) [
      | true ↦ λ e.
          let two = both (eqb (r.run.first + r.run.count) first) (same r.value a) e in
          let at : r.run.first + r.run.count ≡ first = eqb-true _ _ two.0 in
          let here : r.run.first + (r.run.count + c) ≡ first + c = omega (arith, at) in
          let sum : r.run.count + c + d ≡ r.run.count + (c + d) = omega arith in
          rw (follows-same same r.run.first (r.run.count + c) (first + c) d r.value a here two.1) (ap (λ n. valued r.run.first n r.value ∷ []) sum)
      | false ↦ λ e. rw (follows-same same first c (first + c) d a a refl alike) refl
    ] refl
with_next-twice same (r ∷ s ∷ runs) first c d a alike =
    past-first same r (with_next same (s ∷ runs) (valued first c a)) (valued (first + c) d a) (some-run same (s ∷ runs) (valued first c a))
    ∙ ap (λ t. r ∷ t) (with_next-twice same (s ∷ runs) first c d a alike)

-- ---- of the first pages

one-more : {A : Type 0} (same : A → A → Bool) (f : ℕ → Option A) (n : ℕ) (o : Option A) → f n ≡ o → maximal_runs same f (suc n) ≡ option_map_or (λ a. with_next same (maximal_runs same f n) (valued n 1 a)) o (maximal_runs same f n)
unfolding maximal_runs
one-more same f n o e = rw e refl

-- pages that have no value
pub none-more : {A : Type 0} (same : A → A → Bool) (f : ℕ → Option A) (b k : ℕ) → ((n : ℕ) → b ≤ n → n < b + k → f n ≡ None) → maximal_runs same f (b + k) ≡ maximal_runs same f b
none-more same f b zero none = let at : b + 0 ≡ b = omega arith in ap (maximal_runs same f) at
none-more same f b (suc k) none =
    let at : b + suc k ≡ suc (b + k) = omega arith in
    ap (maximal_runs same f) at ∙ one-more same f (b + k) None (none (b + k) (omega arith) (omega arith))
    ∙ none-more same f b k (λ n le lt. none n le (omega (arith, lt)))

-- pages that have one
pub some-more : {A : Type 0} (same : A → A → Bool) (f : ℕ → Option A) (b k : ℕ) (a : A) → same a a ≡ true → ((n : ℕ) → b ≤ n → n < b + suc k → f n ≡ Some a) → maximal_runs same f (b + suc k) ≡ with_next same (maximal_runs same f b) (valued b (suc k) a)
some-more same f b zero a alike all =
    let at : b + 1 ≡ suc b = omega arith in
    ap (maximal_runs same f) at ∙ one-more same f b (Some a) (all b (omega arith) (omega arith))
some-more same f b (suc k) a alike all =
    let at : b + suc (suc k) ≡ suc (b + suc k) = omega arith in
    let sum : suc k + 1 ≡ suc (suc k) = omega arith in
    ap (maximal_runs same f) at ∙ one-more same f (b + suc k) (Some a) (all (b + suc k) (omega arith) (omega arith))
    ∙ ap (λ runs. with_next same runs (valued (b + suc k) 1 a)) (some-more same f b k a alike (λ n le lt. all n le (omega (arith, lt))))
    ∙ with_next-twice same (maximal_runs same f b) b (suc k) 1 a alike
    ∙ ap (λ n. with_next same (maximal_runs same f b) (valued b n a)) sum

-- the pages from one up to another
pub none-until : {A : Type 0} (same : A → A → Bool) (f : ℕ → Option A) (b e : ℕ) → b ≤ e → ((n : ℕ) → b ≤ n → n < e → f n ≡ None) → maximal_runs same f e ≡ maximal_runs same f b
none-until same f b e le none = upto (e - b) (omega (arith, le))
  where
    upto : (k : ℕ) → e ≡ b + k → maximal_runs same f e ≡ maximal_runs same f b
    upto k at = ap (maximal_runs same f) at ∙ none-more same f b k (λ n from lt. none n from (omega (arith, at, lt)))

pub some-until : {A : Type 0} (same : A → A → Bool) (f : ℕ → Option A) (b e : ℕ) (a : A) → b < e → same a a ≡ true → ((n : ℕ) → b ≤ n → n < e → f n ≡ Some a) → maximal_runs same f e ≡ with_next same (maximal_runs same f b) (valued b (e - b) a)
some-until same f b e a lt alike all = upto (e - b) refl
  where
    upto : (k : ℕ) → e - b ≡ k → maximal_runs same f e ≡ with_next same (maximal_runs same f b) (valued b k a)
    upto zero is = absurd (omega (arith, is, lt))
    upto (suc k) is =
        let at : e ≡ b + suc k = omega (arith, is, lt) in
        ap (maximal_runs same f) at ∙ some-more same f b k a alike (λ n from small. all n from (omega (arith, at, small)))

-- equal values have equal runs
pub runs-same : {A : Type 0} (same : A → A → Bool) (f g : ℕ → Option A) (n : ℕ) → ((i : ℕ) → i < n → g i ≡ f i) → maximal_runs same g n ≡ maximal_runs same f n
unfolding maximal_runs
runs-same same f g zero alike = refl
runs-same same f g (suc n) alike =
    let here = alike n (omega arith) in
    ap₂ (λ (o : Option _) (runs : List (ValuedRun _)). option_map_or (λ a. with_next same runs (valued n 1 a)) o runs) here (runs-same same f g n (λ i lt. alike i (omega (arith, lt))))

-- ---- where the last run is changed in its place, or one is put behind it

split-last : {A : Type 0} (found : List (ValuedRun A)) (last : ValuedRun A) → 0 < length found → last ≡ get_or found (length found - 1) last → found ≡ take (length found - 1) found ++ last ∷ []
split-last found last some is =
    let all : length found - 1 + 1 ≡ length found = omega (arith, some) in
    sym (take_all (length found - 1 + 1) found (omega (arith, all))) ∙ take_more found (length found - 1) last (omega (arith, all))
    ∙ ap (λ x. take (length found - 1) found ++ x ∷ []) (sym is)

grown : {A : Type 0} (same : A → A → Bool) (found : List (ValuedRun A)) (last next both : ValuedRun A) → 0 < length found → last ≡ get_or found (length found - 1) last → is_followed_by same last next ≡ true → both ≡ joined last next → set found (length found - 1) both ≡ with_next same found next
grown same found last next both some is follows so =
    let was = split-last found last some is in
    let front = take (length found - 1) found in
    let place : length front ≡ length found - 1 = length-take-le (length found - 1) found (omega arith) in
    ap (λ t. set t (length found - 1) both) was ∙ set_at front last [] both (length found - 1) place
    ∙ ap (λ x. front ++ x ∷ []) so
    ∙ ap (λ c. front ++ cond c (joined last next ∷ []) (last ∷ next ∷ [])) (sym follows)
    ∙ sym (with_next-last same front last next) ∙ ap (λ t. with_next same t next) (sym was)

pub grown-last : {A : Type 0} (same : A → A → Bool) (found list : List (ValuedRun A)) (n : ℕ) (last next both : ValuedRun A) → list ≡ found → n ≡ length found → 0 < length list → last ≡ get_or list (length list - 1) last → is_followed_by same last next ≡ true → both ≡ joined last next → set found (n - 1) both ≡ with_next same found next
grown-last same found list n last next both read size some is follows so =
    ap (λ k. set found (k - 1) both) size
    ∙ subst (λ (t : List (ValuedRun _)). set t (length t - 1) both ≡ with_next same t next) read (grown same list last next both some is follows so)

pub put-behind : {A : Type 0} (same : A → A → Bool) (found list new : List (ValuedRun A)) (last next : ValuedRun A) → list ≡ found → 0 < length list → last ≡ get_or list (length list - 1) last → is_followed_by same last next ≡ false → new ≡ found ++ next ∷ [] → new ≡ with_next same found next
put-behind same found list new last next read some is apart now =
    let front = take (length list - 1) list in
    let was : found ≡ front ++ last ∷ [] = sym read ∙ split-last list last some is in
    now ∙ ap (λ t. t ++ next ∷ []) was ∙ append_assoc front (last ∷ []) (next ∷ [])
    ∙ ap (λ c. front ++ cond c (joined last next ∷ []) (last ∷ next ∷ [])) (sym apart)
    ∙ sym (with_next-last same front last next) ∙ ap (λ t. with_next same t next) (sym was)

pub put-first : {A : Type 0} (same : A → A → Bool) (found list new : List (ValuedRun A)) (next : ValuedRun A) → list ≡ found → length list ≤ 0 → new ≡ found ++ next ∷ [] → new ≡ with_next same found next
unfolding with_next
put-first same [] list new next read none now = now
put-first same (r ∷ runs) list new next read none now = let size = ap length read in absurd (omega (arith, none, size))

-- ---- the value of a page

-- each of the runs ends at the page or before it
pub AreBelow : {A : Type 0} → ℕ → List (ValuedRun A) → Type 0
AreBelow n [] = Unit {0}
AreBelow n (r ∷ runs) = (r.run.first + r.run.count ≤ n) × AreBelow n runs

below-more : {A : Type 0} (b e : ℕ) (runs : List (ValuedRun A)) → b ≤ e → AreBelow b runs → AreBelow e runs
unfolding AreBelow
below-more b e [] le all = tt
below-more b e (r ∷ runs) le all = (omega (arith, all.0), below-more b e runs le all.1)

below-next : {A : Type 0} (same : A → A → Bool) (runs : List (ValuedRun A)) (first count : ℕ) (a : A) → AreBelow first runs → AreBelow (first + count) (with_next same runs (valued first count a))
unfolding AreBelow with_next
below-next same [] first count a all = (omega arith, tt)
below-next same (r ∷ []) first count a all =
    elim (is_followed_by same r (valued first count a)) as (λ b. AreBelow (first + count) (cond b (joined r (valued first count a) ∷ []) (r ∷ valued first count a ∷ []))) [
      | true ↦ (omega (arith, all.0), tt)
      | false ↦ (omega (arith, all.0), (omega arith, tt))
    ]
below-next same (r ∷ s ∷ runs) first count a all = (omega (arith, all.0), below-next same (s ∷ runs) first count a all.1)

below-step : {A : Type 0} (same : A → A → Bool) (runs : List (ValuedRun A)) (n : ℕ) (o : Option A) → AreBelow n runs → AreBelow (suc n) (option_map_or (λ a. with_next same runs (valued n 1 a)) o runs)
below-step same runs n None below = below-more n (suc n) runs (omega arith) below
below-step same runs n (Some a) below = let at : n + 1 ≡ suc n = omega arith in subst (λ (k : ℕ). AreBelow k (with_next same runs (valued n 1 a))) at (below-next same runs n 1 a below)

pub below-maximal : {A : Type 0} (same : A → A → Bool) (f : ℕ → Option A) (n : ℕ) → AreBelow n (maximal_runs same f n)
unfolding maximal_runs AreBelow
below-maximal same f zero = tt
below-maximal same f (suc n) = below-step same (maximal_runs same f n) n (f n) (below-maximal same f n)

apart-runs : (a b : PageRun) (k : ℕ) → a.first + a.count ≤ b.first → in_run a k ≡ true → in_run b k ≡ false
apart-runs a b k le is = grind (arith, nat_tests)

in-both : (a b : PageRun) (k : ℕ) → a.first + a.count ≡ b.first → in_run (record { first = a.first; count = a.count + b.count }) k ≡ (in_run a k || in_run b k)
in-both a b k at = grind (arith, nat_tests)

pub valued-first : {A : Type 0} (r : ValuedRun A) (runs : List (ValuedRun A)) (k : ℕ) → valued_at (r ∷ runs) k ≡ cond (in_run r.run k) (Some r.value) (valued_at runs k)
valued-first r runs k =
    elim (in_run r.run k) as (λ b. option_map (λ (x : ValuedRun _). x.value) (cond b (Some r) (find (λ (x : ValuedRun _). in_run x.run k) runs)) ≡ cond b (Some r.value) (valued_at runs k)) [
      | true ↦ refl
      | false ↦ refl
    ]

-- of two values of a page that exclude each other, either may be asked for first
either-first : {A : Type 0} (b c : Bool) (x y : A) (o : Option A) → (b ≡ true → c ≡ false) → cond b (Some x) (cond c (Some y) o) ≡ cond c (Some y) (cond b (Some x) o)
either-first true true x y o apart = let no = apart refl in absurd cc
either-first true false x y o apart = refl
either-first false true x y o apart = refl
either-first false false x y o apart = refl

one-value : {A : Type 0} (b c : Bool) (x : A) (o : Option A) → cond (b || c) (Some x) o ≡ cond c (Some x) (cond b (Some x) o)
one-value true true x o = refl
one-value true false x o = refl
one-value false true x o = refl
one-value false false x o = refl

-- values that are the same are one
abbrev pub IsSound : {A : Type 0} → (A → A → Bool) → Type 0
IsSound same = (a b : _) → same a b ≡ true → a ≡ b

at-next : {A : Type 0} (same : A → A → Bool) (runs : List (ValuedRun A)) (first count : ℕ) (a : A) (k : ℕ) → IsSound same → AreBelow first runs
    → valued_at (with_next same runs (valued first count a)) k ≡ cond (in_run (record { first = first; count = count }) k) (Some a) (valued_at runs k)
unfolding with_next AreBelow
at-next same [] first count a k sound below = valued-first (valued first count a) [] k
at-next same (r ∷ []) first count a k sound below =
    let next = valued first count a in
    elim (is_followed_by same r next) as (λ b. is_followed_by same r next ≡ b → valued_at (cond b (joined r next ∷ []) (r ∷ next ∷ [])) k ≡ cond (in_run next.run k) (Some a) (valued_at (r ∷ []) k)) [
      | true ↦ λ e.
          let two = both (eqb (r.run.first + r.run.count) first) (same r.value a) e in
          let at : r.run.first + r.run.count ≡ first = eqb-true _ _ two.0 in
          let value : r.value ≡ a = sound r.value a two.1 in
          valued-first (joined r next) [] k
          ∙ ap (λ (b : Bool). cond b (Some r.value) None) (in-both r.run next.run k at)
          ∙ one-value (in_run r.run k) (in_run next.run k) r.value None
          ∙ ap (λ (v : _). cond (in_run next.run k) (Some v) (cond (in_run r.run k) (Some r.value) None)) value
          ∙ ap (λ (o : Option _). cond (in_run next.run k) (Some a) o) (sym (valued-first r [] k))
      | false ↦ λ e.
          valued-first r (next ∷ []) k
          ∙ ap (λ (o : Option _). cond (in_run r.run k) (Some r.value) o) (valued-first next [] k)
          ∙ either-first (in_run r.run k) (in_run next.run k) r.value a None (λ is. apart-runs r.run next.run k below.0 is)
          ∙ ap (λ (o : Option _). cond (in_run next.run k) (Some a) o) (sym (valued-first r [] k))
    ] refl
at-next same (r ∷ s ∷ runs) first count a k sound below =
    let next = valued first count a in
    valued-first r (with_next same (s ∷ runs) next) k
    ∙ ap (λ (o : Option _). cond (in_run r.run k) (Some r.value) o) (at-next same (s ∷ runs) first count a k sound below.1)
    ∙ either-first (in_run r.run k) (in_run next.run k) r.value a (valued_at (s ∷ runs) k) (λ is. apart-runs r.run next.run k below.0 is)
    ∙ ap (λ (o : Option _). cond (in_run next.run k) (Some a) o) (sym (valued-first r (s ∷ runs) k))

no-value : {A : Type 0} (b : Bool) → cond b None None ≡ (let o : Option A = None in o)
no-value true = refl
no-value false = refl

module _ {A : Type 0} (same : A → A → Bool) (sound : IsSound same) (f : ℕ → Option A) (k : ℕ) where
  -- the next page has no value
  behind-none : (b : ℕ) → f b ≡ None → cond (ltb k b) (f k) None ≡ cond (ltb k (suc b)) (f k) None
  behind-none b is =
      elim (eqb k b) as (λ t. eqb k b ≡ t → cond (ltb k b) (f k) None ≡ cond (ltb k (suc b)) (f k) None) [
        | true ↦ λ e.
            let here : f k ≡ None = ap f (eqb-true k b e) ∙ is in
            ap (λ (o : Option A). cond (ltb k b) o None) here ∙ no-value (ltb k b) ∙ sym (no-value (ltb k (suc b))) ∙ ap (λ (o : Option A). cond (ltb k (suc b)) o None) (sym here)
        | false ↦ λ e. let alike : ltb k b ≡ ltb k (suc b) = grind (arith, nat_tests) in ap (λ (t : Bool). cond t (f k) None) alike
      ] refl

  -- the next page has one
  behind-some : (b : ℕ) (a : A) → f b ≡ Some a → cond (in_run (record { first = b; count = 1 }) k) (Some a) (cond (ltb k b) (f k) None) ≡ cond (ltb k (suc b)) (f k) None
  behind-some b a is =
      elim (eqb k b) as (λ t. eqb k b ≡ t → cond (in_run (record { first = b; count = 1 }) k) (Some a) (cond (ltb k b) (f k) None) ≡ cond (ltb k (suc b)) (f k) None) [
        | true ↦ λ e.
            let at : k ≡ b = eqb-true k b e in
            let here : f k ≡ Some a = ap f at ∙ is in
            let in_it : in_run (record { first = b; count = 1 }) k ≡ true = grind (arith, nat_tests) in
            let under : ltb k (suc b) ≡ true = grind (arith, nat_tests) in
            ap (λ (t : Bool). cond t (Some a) (cond (ltb k b) (f k) None)) in_it ∙ sym here ∙ ap (λ (t : Bool). cond t (f k) None) (sym under)
        | false ↦ λ e.
            let out : in_run (record { first = b; count = 1 }) k ≡ false = grind (arith, nat_tests) in
            let alike : ltb k b ≡ ltb k (suc b) = grind (arith, nat_tests) in
            ap (λ (t : Bool). cond t (Some a) (cond (ltb k b) (f k) None)) out ∙ ap (λ (t : Bool). cond t (f k) None) alike
      ] refl

  at-step : (b : ℕ) (o : Option A) → f b ≡ o → valued_at (maximal_runs same f b) k ≡ cond (ltb k b) (f k) None
      → valued_at (option_map_or (λ a. with_next same (maximal_runs same f b) (valued b 1 a)) o (maximal_runs same f b)) k ≡ cond (ltb k (suc b)) (f k) None
  at-step b None is before = before ∙ behind-none b is
  at-step b (Some a) is before =
      at-next same (maximal_runs same f b) b 1 a k sound (below-maximal same f b)
      ∙ ap (λ (o : Option A). cond (in_run (record { first = b; count = 1 }) k) (Some a) o) before
      ∙ behind-some b a is

  at-maximal : (b : ℕ) → valued_at (maximal_runs same f b) k ≡ cond (ltb k b) (f k) None
  unfolding maximal_runs
  at-maximal zero = let no : ltb k 0 ≡ false = grind (arith, nat_tests) in ap (λ (t : Bool). cond t (f k) None) (sym no)
  at-maximal (suc b) = at-step b (f b) refl (at-maximal b)

-- of each page, where none behind the first pages has a value
pub at-each : {A : Type 0} (same : A → A → Bool) (sound : IsSound same) (f : ℕ → Option A) (b : ℕ) → ((n : ℕ) → b ≤ n → f n ≡ None) → (k : ℕ) → valued_at (maximal_runs same f b) k ≡ f k
at-each same sound f b beyond k =
    at-maximal same sound f k b
    ∙ elim (ltb k b) as (λ t. ltb k b ≡ t → cond t (f k) None ≡ f k) [
      | true ↦ λ e. refl
      | false ↦ λ e. sym (beyond k (grind (arith, nat_tests)))
    ] refl

-- two counts of pages behind which none has a value
pub same-bounds : {A : Type 0} (same : A → A → Bool) (f : ℕ → Option A) (b e : ℕ) → ((n : ℕ) → b ≤ n → f n ≡ None) → ((n : ℕ) → e ≤ n → f n ≡ None) → maximal_runs same f b ≡ maximal_runs same f e
same-bounds same f b e behind beyond =
    elim (leb b e) as (λ t. leb b e ≡ t → maximal_runs same f b ≡ maximal_runs same f e) [
      | true ↦ λ h. sym (none-until same f b e (leb-true b e h) (λ n from lt. behind n from))
      | false ↦ λ h. none-until same f e b (grind (arith, nat_tests)) (λ n from lt. beyond n from)
    ] refl

-- ---- behind all runs

pub end-front : (runs more : List PageRun) → end_of_all runs ≤ end_of_all (runs ++ more)
end-front [] more = omega arith
end-front (run ∷ runs) more = omega (arith, end-front runs more)

pub end-back : (runs more : List PageRun) → end_of_all more ≤ end_of_all (runs ++ more)
end-back [] more = omega arith
end-back (run ∷ runs) more = omega (arith, end-back runs more)

pub covers-behind : (runs : List PageRun) (n : ℕ) → end_of_all runs ≤ n → covers runs n ≡ false
covers-behind [] n le = refl
covers-behind (run ∷ runs) n le =
    let here : run.first + run.count ≤ n = omega (arith, le) in
    let out : in_run run n ≡ false = grind (arith, nat_tests) in
    ap (λ (b : Bool). b || covers runs n) out ∙ covers-behind runs n (omega (arith, le))

pub valued-behind : {A : Type 0} (runs : List (ValuedRun A)) (n : ℕ) → end_of_all (map (λ r. r.run) runs) ≤ n → valued_at runs n ≡ None
valued-behind [] n le = refl
valued-behind (r ∷ runs) n le =
    let here : r.run.first + r.run.count ≤ n = omega (arith, le) in
    let out : in_run r.run n ≡ false = grind (arith, nat_tests) in
    valued-first r runs n ∙ ap (λ (b : Bool). cond b (Some r.value) (valued_at runs n)) out ∙ valued-behind runs n (omega (arith, le))
