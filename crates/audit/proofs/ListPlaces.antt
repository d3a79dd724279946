-- Places in lists, by page: of the donation that has it, and of the live transaction that covers it.
use Rattle.std.proofs.Common.{◌≡◌, ℕ, zero, suc, ◌+◌, ◌<◌, Bool, true, false, ◌||◌, cond, List, [], ◌∷◌, ◌++◌, length, take, drop, get_or, Option, Some, None, refl, sym, ap, ◌∙◌, arith}
use Rattle.std.specs.List.{slice_get, AllByRecursion}
use Rattle.std.specs.Option.{option_or, option_map}
use Rattle.std.proofs.lemmas.List.{take_more, drop_more}
use Rattle.std.proofs.lemmas.List.Folds.{find-append}
use Rattle.base.specs.Pages.{PageRun, in_run, covers}
use Rattle.base.specs.Ledger.{donation_at, live_at}
use Rattle.base.specs.Transactions.{Gift, Donation, Live}
use Rattle.base.proofs.MaximalRuns.{valued-first}
use Rattle.rules.specs.Laws.OneOwner.{AreApart, AreAllApart}
use Rattle.audit.specs.Alike.{at_place, gift_at}

got : {A : Type 0} (items : List A) (i : ℕ) (x : A) → i < length items → x ≡ get_or items i x → slice_get items i ≡ Some x
got [] i x lt is = absurd (omega arith)
got (y ∷ ys) zero x lt is = ap (λ z. Some z) (sym is)
got (y ∷ ys) (suc i) x lt is = got ys i x (omega arith) is

-- the place of an item, or another one
at-cond : {A : Type 0} (items : List A) (i : ℕ) (x : A) (b : Bool) (place : Option ℕ) → i < length items → x ≡ get_or items i x → at_place items (cond b (Some i) place) ≡ cond b (Some x) (at_place items place)
at-cond items i x true place lt is = got items i x lt is
at-cond items i x false place lt is = refl

-- ---- donations

rest-of : (ds : List Donation) (i : ℕ) (d : Donation) → i < length ds → d ≡ get_or ds i d → drop i ds ≡ d ∷ drop (i + 1) ds
rest-of ds i d lt is = drop_more ds i d lt ∙ ap (λ (x : Donation). x ∷ drop (i + 1) ds) (sym is)

value-of : (b : Bool) (d : Donation) (o : Option Donation) → option_map (λ (x : Donation). x.value) (cond b (Some d) o) ≡ cond b (Some d.value) (option_map (λ (x : Donation). x.value) o)
value-of true d o = refl
value-of false d o = refl

or-false : (b : Bool) → (b || false) ≡ b
or-false true = refl
or-false false = refl

-- one run alone covers its pages
pub covers-one : (run : PageRun) (n : ℕ) → covers (run ∷ []) n ≡ in_run run n
covers-one run n = or-false (in_run run n)

-- with one donation more in front, a page that it has has its place
pub donation-placed : (ds : List Donation) (i n : ℕ) (d : Donation) (old new : Option ℕ) → i < length ds → d ≡ get_or ds i d
    → donation_at (drop (i + 1) ds) n ≡ gift_at ds old → new ≡ cond (in_run d.run n) (Some i) old → donation_at (drop i ds) n ≡ gift_at ds new
donation-placed ds i n d old new lt is so now =
    ap (λ (t : List Donation). donation_at t n) (rest-of ds i d lt is)
    ∙ valued-first d (drop (i + 1) ds) n
    ∙ ap (λ (o : Option Gift). cond (in_run d.run n) (Some d.value) o) so
    ∙ sym (value-of (in_run d.run n) d (at_place ds old))
    ∙ ap (option_map (λ (x : Donation). x.value)) (sym (at-cond ds i d (in_run d.run n) old lt is))
    ∙ ap (gift_at ds) (sym now)

-- ---- live transactions

apart_at : (u t : Live) (us : List Live) (j : ℕ) → AllByRecursion (AreApart u) us → j < length us → t ≡ get_or us j t → AreApart u t
apart_at u t [] j all lt is = absurd (omega arith)
apart_at u t (v ∷ vs) zero all lt is = λ n c. ap (λ (x : Live). covers x.ranges n) is ∙ all.0 n c
apart_at u t (v ∷ vs) (suc j) all lt is = apart_at u t vs j all.1 (omega arith) is

-- a page of a transaction is in none before it
none-before : (live : List Live) (i n : ℕ) (t : Live) → AreAllApart live → i < length live → t ≡ get_or live i t → covers t.ranges n ≡ true → live_at (take i live) n ≡ None
none-before [] i n t apart lt is c = absurd (omega arith)
none-before (u ∷ us) zero n t apart lt is c = refl
none-before (u ∷ us) (suc j) n t apart lt is c =
    let out : covers u.ranges n ≡ false = elim (covers u.ranges n) as (λ b. covers u.ranges n ≡ b → b ≡ false) [
      | true ↦ λ e. absurd (let no = apart_at u t us j apart.0 (omega arith) is n e in cc)
      | false ↦ λ e. refl
    ] refl in
    ap (λ b. cond b (Some u) (live_at (take j us) n)) out ∙ none-before us j n t apart.1 (omega arith) is c

or-last : (o : Option Live) (t : Live) (b : Bool) → (b ≡ true → o ≡ None) → option_or o (cond b (Some t) None) ≡ cond b (Some t) o
or-last None t true none = refl
or-last None t false none = refl
or-last (Some u) t true none = absurd (let no = none refl in cc)
or-last (Some u) t false none = refl

live-more : (live : List Live) (i n : ℕ) (t : Live) → AreAllApart live → i < length live → t ≡ get_or live i t → live_at (take (i + 1) live) n ≡ cond (covers t.ranges n) (Some t) (live_at (take i live) n)
live-more live i n t apart lt is =
    let more : take (i + 1) live ≡ take i live ++ t ∷ [] = take_more live i t lt ∙ ap (λ x. take i live ++ x ∷ []) (sym is) in
    ap (λ (l : List Live). live_at l n) more
    ∙ find-append (λ (x : Live). covers x.ranges n) (take i live) (t ∷ [])
    ∙ or-last (live_at (take i live) n) t (covers t.ranges n) (none-before live i n t apart lt is)

-- with one transaction more, a page that it covers has its place
pub live-placed : (live : List Live) (i n : ℕ) (t : Live) (old new : Option ℕ) → AreAllApart live → i < length live → t ≡ get_or live i t
    → live_at (take i live) n ≡ at_place live old → new ≡ cond (covers t.ranges n) (Some i) old → live_at (take (i + 1) live) n ≡ at_place live new
live-placed live i n t old new apart lt is so now =
    live-more live i n t apart lt is
    ∙ ap (λ o. cond (covers t.ranges n) (Some t) o) so
    ∙ sym (at-cond live i t (covers t.ranges n) old lt is)
    ∙ ap (at_place live) (sym now)
