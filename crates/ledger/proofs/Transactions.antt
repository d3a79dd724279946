-- Live transactions that come and go.
use Rattle.std.proofs.Common.{◌≡◌, ℕ, ◌<◌, Bool, true, false, cond, eqb, ltb, List, [], ◌∷◌, Option, Some, None, refl, sym, ap, subst, ◌∙◌, arith}
use Rattle.std.specs.List.{AllByRecursion}
use Rattle.std.specs.Option.{option_map, option_map_or}
use Rattle.std.proofs.lemmas.Bool.{eqb-true, ltb-true}
use Rattle.std.proofs.lemmas.Bool.Decides.{nat_tests}
use Rattle.base.specs.Access.{View}
use Rattle.base.specs.Transactions.{Live, AreAscending}
use Rattle.base.specs.Pages.{covers}
use Rattle.base.specs.Ledger.{live_at}
use Rattle.spans.specs.Spans.{Span, value_at}
use Rattle.ledger.specs.Ledger.{found, NamesItsSender}
use Rattle.base.proofs.Ascending.{all_with, all_above, find-new, find-other}
use Rattle.ledger.specs.Changes.{with_live, with_retrieval, with_retrieval_of, without}
use Rattle.ledger.specs.Intervals.{AreSeparate, AreAllSeparate, AreHandles}

abbrev handle_at : List Live → ℕ → Option ℕ
handle_at live n = option_map (λ (t : Live). t.handle) (live_at live n)

-- ---- one of several

first_not : (b : Bool) (t : Live) (o : Option Live) → cond b (Some t) o ≡ None → (b ≡ false) × (o ≡ None)
first_not true t o e = absurd cc
first_not false t o e = (refl, e)

all_found : (P : Live → Type 0) (live : List Live) (h : ℕ) (t : Live) → AllByRecursion P live → found live h ≡ Some t → P t
all_found P [] h t all e = absurd cc
all_found P (u ∷ us) h t all e =
    elim (eqb u.handle h) as (λ b. cond b (Some u) (found us h) ≡ Some t → P t) [
      | true ↦ λ e. let same : u ≡ t = cc in subst P same all.0
      | false ↦ λ e. all_found P us h t all.1 e
    ] e

none_under : (u : Live) (us : List Live) (n : ℕ) → AllByRecursion (AreSeparate u) us → covers u.ranges n ≡ true → live_at us n ≡ None
none_under u [] n all is = refl
none_under u (t ∷ us) n all is = rw (all.0.pages n is) (none_under u us n all.1 is)

-- ---- one more

pub AreHandles-open : (live : List Live) (t : Live) (old new : List Span) → AreHandles live old → ((n : ℕ) → covers t.ranges n ≡ true → live_at live n ≡ None)
    → ((n : ℕ) → value_at new n ≡ cond (covers t.ranges n) (Some t.handle) (value_at old n)) → AreHandles (with_live t live) new
AreHandles-open live t old new are none at = λ n.
    at n ∙ elim (covers t.ranges n) as (λ b. covers t.ranges n ≡ b → cond b (Some t.handle) (value_at old n) ≡ handle_at (with_live t live) n) [
      | true ↦ λ c. ap (option_map (λ (u : Live). u.handle)) (sym (find-new (λ u. covers u.ranges n) t live c (none n c)))
      | false ↦ λ c. are n ∙ ap (option_map (λ (u : Live). u.handle)) (sym (find-other (λ u. covers u.ranges n) t live c))
    ] refl

outside : (b c : Bool) (u : Live) (o : Option Live) → b ≡ true → (c ≡ true → cond b (Some u) o ≡ None) → c ≡ false
outside b true u o is none = let not = (first_not b u o (none refl)).0 in absurd cc
outside b false u o is none = refl

behind : (u t : Live) (us : List Live) → ((n : ℕ) → covers t.ranges n ≡ true → live_at (u ∷ us) n ≡ None) → u.handle < t.handle → AreSeparate u t
behind u t us none lower = record { pages = λ n is. outside (covers u.ranges n) (covers t.ranges n) u (live_at us n) is (none n); handles = lower }

before_each : (t : Live) (us : List Live) → AllByRecursion (λ u. t.handle < u.handle) us → ((n : ℕ) → covers t.ranges n ≡ true → live_at us n ≡ None) → AllByRecursion (AreSeparate t) us
before_each t [] lower none = tt
before_each t (u ∷ us) lower none = (
  record { pages = λ n is. (first_not (covers u.ranges n) u (live_at us n) (none n is)).0; handles = lower.0 },
  before_each t us lower.1 (λ n is. (first_not (covers u.ranges n) u (live_at us n) (none n is)).1),
)

handles_of : (u : Live) (us : List Live) → AllByRecursion (AreSeparate u) us → AllByRecursion (λ v. u.handle < v.handle) us
handles_of u [] all = tt
handles_of u (v ∷ vs) all = (all.0.handles, handles_of u vs all.1)

pub ascending : (live : List Live) → AreAllSeparate live → AreAscending live
ascending [] all = tt
ascending (u ∷ us) all = (handles_of u us all.0, ascending us all.1)

above : (a b : ℕ) → ltb a b ≡ false → eqb b a ≡ false → b < a
above a b past other = grind (arith, nat_tests, past, other)

pub AreAllSeparate-open : (live : List Live) (t : Live) → AreAllSeparate live → ((n : ℕ) → covers t.ranges n ≡ true → live_at live n ≡ None) → found live t.handle ≡ None
    → AreAllSeparate (with_live t live)
AreAllSeparate-open [] t all none new = (tt, tt)
AreAllSeparate-open (u ∷ us) t all none new =
    let fresh = first_not (eqb u.handle t.handle) u (found us t.handle) new in
    elim (ltb t.handle u.handle) as (λ b. ltb t.handle u.handle ≡ b → AreAllSeparate (cond b (t ∷ u ∷ us) (u ∷ with_live t us))) [
      | true ↦ λ e. let lt = ltb-true _ _ e in (before_each t (u ∷ us) (lt, all_above t u us lt (handles_of u us all.0)) none, all)
      | false ↦ λ e. (
        all_with (AreSeparate u) t us all.0 (behind u t us none (above t.handle u.handle e fresh.0)),
        AreAllSeparate-open us t all.1 (λ n is. (first_not (covers u.ranges n) u (live_at us n) (none n is)).1) fresh.1,
      )
    ] refl

-- ---- the pages of a handle

no_handle : (live : List Live) (h low n : ℕ) → AllByRecursion (λ v. low < v.handle) live → h ≡ low → option_map_or (λ k. eqb k h) (handle_at live n) false ≡ false
no_handle [] h low n all e = refl
no_handle (u ∷ us) h low n all e =
    let less = all.0 in
    let other : eqb u.handle h ≡ false = grind (arith, nat_tests) in
    elim (covers u.ranges n) as (λ b. option_map_or (λ k. eqb k h) (option_map (λ (v : Live). v.handle) (cond b (Some u) (live_at us n))) false ≡ false) [
      | true ↦ other
      | false ↦ no_handle us h low n all.1 e
    ]

-- none has the handle of a transaction that is not live
pub no_number : (live : List Live) (h n : ℕ) → found live h ≡ None → option_map_or (λ k. eqb k h) (handle_at live n) false ≡ false
no_number [] h n none = refl
no_number (u ∷ us) h n none =
    let fresh = first_not (eqb u.handle h) u (found us h) none in
    elim (covers u.ranges n) as (λ b. option_map_or (λ k. eqb k h) (option_map (λ (v : Live). v.handle) (cond b (Some u) (live_at us n))) false ≡ false) [
      | true ↦ fresh.0
      | false ↦ no_number us h n fresh.1
    ]

-- the live transaction that covers a page has this handle just where the one of this handle covers it
pub has_handle : (live : List Live) (h n : ℕ) (t : Live) → AreAllSeparate live → found live h ≡ Some t → option_map_or (λ k. eqb k h) (handle_at live n) false ≡ covers t.ranges n
has_handle [] h n t all e = absurd cc
has_handle (u ∷ us) h n t all e =
    elim (eqb u.handle h) as (λ b. eqb u.handle h ≡ b → cond b (Some u) (found us h) ≡ Some t → option_map_or (λ k. eqb k h) (handle_at (u ∷ us) n) false ≡ covers t.ranges n) [
      | true ↦ λ q e.
          let same : u ≡ t = cc in
          let here : option_map_or (λ k. eqb k h) (handle_at (u ∷ us) n) false ≡ covers u.ranges n =
          elim (covers u.ranges n) as (λ b. option_map_or (λ k. eqb k h) (option_map (λ (v : Live). v.handle) (cond b (Some u) (live_at us n))) false ≡ b) [
            | true ↦ q
            | false ↦ no_handle us h u.handle n (handles_of u us all.0) (sym (eqb-true _ _ q))
          ] in
          subst (λ (x : Live). option_map_or (λ k. eqb k h) (handle_at (u ∷ us) n) false ≡ covers x.ranges n) same here
      | false ↦ λ q e.
          elim (covers u.ranges n) as (λ b. covers u.ranges n ≡ b → option_map_or (λ k. eqb k h) (option_map (λ (v : Live). v.handle) (cond b (Some u) (live_at us n))) false ≡ covers t.ranges n) [
            | true ↦ λ is. q ∙ sym ((all_found (AreSeparate u) us h t all.0 e).pages n is)
            | false ↦ λ is. has_handle us h n t all.1 e
          ] refl
    ] refl e

-- ---- one less

last_out : (b c : Bool) (u : Live) (rest less : Option Live) → less ≡ cond c None rest → (b ≡ true → c ≡ false) → cond b (Some u) less ≡ cond c None (cond b (Some u) rest)
last_out true true u rest less e apart = let not = apart refl in absurd cc
last_out true false u rest less e apart = refl
last_out false c u rest less e apart = e

first_out : (b : Bool) (u : Live) (rest : Option Live) → (b ≡ true → rest ≡ None) → rest ≡ cond b None (cond b (Some u) rest)
first_out true u rest none = none refl
first_out false u rest none = refl

live_at-without : (live : List Live) (h n : ℕ) (t : Live) → AreAllSeparate live → found live h ≡ Some t → live_at (without h live) n ≡ cond (covers t.ranges n) None (live_at live n)
live_at-without [] h n t all e = absurd cc
live_at-without (u ∷ us) h n t all e =
    elim (eqb u.handle h) as (λ b. cond b (Some u) (found us h) ≡ Some t → live_at (cond b us (u ∷ without h us)) n ≡ cond (covers t.ranges n) None (live_at (u ∷ us) n)) [
      | true ↦ λ e.
          let same : u ≡ t = cc in
          let here = first_out (covers u.ranges n) u (live_at us n) (none_under u us n all.0) in
          subst (λ (x : Live). live_at us n ≡ cond (covers x.ranges n) None (live_at (u ∷ us) n)) same here
      | false ↦ λ e.
          last_out (covers u.ranges n) (covers t.ranges n) u (live_at us n) (live_at (without h us) n) (live_at-without us h n t all.1 e) (λ is. (all_found (AreSeparate u) us h t all.0 e).pages n is)
    ] e

closed : (b : Bool) (o : Option Live) → option_map (λ (u : Live). u.handle) (cond b None o) ≡ cond b None (option_map (λ (u : Live). u.handle) o)
closed true o = refl
closed false o = refl

pub AreHandles-close : (live : List Live) (h : ℕ) (t : Live) (old new : List Span) → AreAllSeparate live → found live h ≡ Some t → AreHandles live old
    → ((n : ℕ) → value_at new n ≡ cond (covers t.ranges n) None (value_at old n)) → AreHandles (without h live) new
AreHandles-close live h t old new all is are at = λ n.
    at n ∙ ap (cond (covers t.ranges n) None) (are n) ∙ sym (closed (covers t.ranges n) (live_at live n))
    ∙ ap (option_map (λ (u : Live). u.handle)) (sym (live_at-without live h n t all is))

pub AllByRecursion-without : (P : Live → Type 0) (live : List Live) (h : ℕ) → AllByRecursion P live → AllByRecursion P (without h live)
AllByRecursion-without P [] h all = tt
AllByRecursion-without P (u ∷ us) h all =
    elim (eqb u.handle h) as (λ b. AllByRecursion P (cond b us (u ∷ without h us))) [
      | true ↦ all.1
      | false ↦ (all.0, AllByRecursion-without P us h all.1)
    ]

pub AreAllSeparate-without : (live : List Live) (h : ℕ) → AreAllSeparate live → AreAllSeparate (without h live)
AreAllSeparate-without [] h all = tt
AreAllSeparate-without (u ∷ us) h all =
    elim (eqb u.handle h) as (λ b. AreAllSeparate (cond b us (u ∷ without h us))) [
      | true ↦ all.1
      | false ↦ (AllByRecursion-without (AreSeparate u) us h all.0, AreAllSeparate-without us h all.1)
    ]

-- ---- one changed

same_here : (b : Bool) (t u : Live) (x y : Option Live) → t.handle ≡ u.handle → option_map (λ (v : Live). v.handle) x ≡ option_map (λ (v : Live). v.handle) y
    → option_map (λ (v : Live). v.handle) (cond b (Some t) x) ≡ option_map (λ (v : Live). v.handle) (cond b (Some u) y)
same_here true t u x y e f = ap (λ (k : ℕ). Some k) e
same_here false t u x y e f = f

handle_at-retrieval : (live : List Live) (h p : ℕ) (view : View) (n : ℕ) → handle_at (with_retrieval_of h p view live) n ≡ handle_at live n
handle_at-retrieval [] h p view n = refl
handle_at-retrieval (u ∷ us) h p view n =
    elim (eqb u.handle h) as (λ b. handle_at (cond b (with_retrieval p view u ∷ us) (u ∷ with_retrieval_of h p view us)) n ≡ handle_at (u ∷ us) n) [
      | true ↦ same_here (covers u.ranges n) (with_retrieval p view u) u (live_at us n) (live_at us n) refl refl
      | false ↦ same_here (covers u.ranges n) u u (live_at (with_retrieval_of h p view us) n) (live_at us n) refl (handle_at-retrieval us h p view n)
    ]

pub AreHandles-retrieval : (live : List Live) (h p : ℕ) (view : View) (spans : List Span) → AreHandles live spans → AreHandles (with_retrieval_of h p view live) spans
AreHandles-retrieval live h p view spans are = λ n. are n ∙ sym (handle_at-retrieval live h p view n)

AllByRecursion-retrieval : (t : Live) (live : List Live) (h p : ℕ) (view : View) → AllByRecursion (AreSeparate t) live → AllByRecursion (AreSeparate t) (with_retrieval_of h p view live)
AllByRecursion-retrieval t [] h p view all = tt
AllByRecursion-retrieval t (u ∷ us) h p view all =
    elim (eqb u.handle h) as (λ b. AllByRecursion (AreSeparate t) (cond b (with_retrieval p view u ∷ us) (u ∷ with_retrieval_of h p view us))) [
      | true ↦ (record { pages = all.0.pages; handles = all.0.handles }, all.1)
      | false ↦ (all.0, AllByRecursion-retrieval t us h p view all.1)
    ]

pub named-retrieval : (live : List Live) (h p : ℕ) (view : View) → AllByRecursion NamesItsSender live → AllByRecursion NamesItsSender (with_retrieval_of h p view live)
named-retrieval [] h p view all = tt
named-retrieval (u ∷ us) h p view all =
    elim (eqb u.handle h) as (λ b. AllByRecursion NamesItsSender (cond b (with_retrieval p view u ∷ us) (u ∷ with_retrieval_of h p view us))) [
      | true ↦ (all.0, all.1)
      | false ↦ (all.0, named-retrieval us h p view all.1)
    ]

other_way : (u : Live) (us : List Live) (p : ℕ) (view : View) → AllByRecursion (AreSeparate u) us → AllByRecursion (AreSeparate (with_retrieval p view u)) us
other_way u [] p view all = tt
other_way u (t ∷ us) p view all = (record { pages = all.0.pages; handles = all.0.handles }, other_way u us p view all.1)

pub AreAllSeparate-retrieval : (live : List Live) (h p : ℕ) (view : View) → AreAllSeparate live → AreAllSeparate (with_retrieval_of h p view live)
AreAllSeparate-retrieval [] h p view all = tt
AreAllSeparate-retrieval (u ∷ us) h p view all =
    elim (eqb u.handle h) as (λ b. AreAllSeparate (cond b (with_retrieval p view u ∷ us) (u ∷ with_retrieval_of h p view us))) [
      | true ↦ (other_way u us p view all.0, all.1)
      | false ↦ (AllByRecursion-retrieval u us h p view all.0, AreAllSeparate-retrieval us h p view all.1)
    ]
