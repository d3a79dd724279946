-- Each move of the passes keeps the rule.
use Rattle.std.proofs.Common.{◌≡◌, ◌≢◌, ◌⊎◌, ℕ, zero, suc, ◌+◌, ◌<◌, ◌==◌, List, [], ◌∷◌, ◌++◌, length, set, cond, inl, inr, refl, sym, ap, ◌∙◌, subst, ⊎_elim, arith, append_assoc, eq-eqb, ne_eqb}
use mathlib.Core.Option.{Option, none, some, some-ne-none, some-injective}
use lib.ListN.{get_elem?}
use prog.Atomic.{either}
use Rattle.std.proofs.lemmas.List.{append-nil}
use Rattle.atomic_table.specs.Table.{State, Me, Act, keeps, Allows, Splits, Joins, opening, step}
use Rattle.atomic_table.proofs.Lists.{at_set, set_again}
use Rattle.desk.specs.declared.entry.Entry.{Entry}
use Rattle.desk.specs.declared.pass.Known.{Known}
use Rattle.desk.specs.declared.pass.View.{View}
use Rattle.desk.specs.declared.pass.View.TheVariants.{Nothing, Keeper, Seated, Meeting}
use Rattle.desk.specs.Passes.{known, with_seat, with_call, with_home, newcomer, known_of, seen_of, IsKeeper, IsSeat, issuing, issued, met, added, keeper_of, seat_of, IsUpTo, NotAmong, IsOut, Fits, Kept, Adds, ComesHome}
use Rattle.desk.specs.Receipts.{NoneOf}
use Rattle.desk.proofs.Views.{at_more}
use Rattle.desk.proofs.Numbers.{not_among_push}

abbrev pub holds : State Entry View → Type 0
holds s = Kept s.views

-- ---- places

-- one seat stands elsewhere
abbrev moved : ℕ → ℕ → (ℕ → ℕ) → ℕ → ℕ
moved n to place m = cond (m == n) to (place m)

moved_here : (n to : ℕ) (place : ℕ → ℕ) → moved n to place n ≡ to
moved_here n to place = ap (λ b. cond b to (place n)) (eq-eqb n n refl)

moved_else : (n to : ℕ) (place : ℕ → ℕ) (m : ℕ) → m ≢ n → moved n to place m ≡ place m
moved_else n to place m apart = ap (λ b. cond b to (place m)) (ne_eqb m n apart)

-- ---- all passes

abbrev AllFit : Known → ℕ → (ℕ → ℕ) → List View → Type 0
AllFit k keeper place views = (by : ℕ) (v : View) → get_elem? views by ≡ some v → Fits k keeper place by v

-- as the keeper knows it
as_known : (k : Known) (by : ℕ) (views : List View) (h : Kept views) → by ≡ h.keeper → k ≡ h.known → AllFit k by h.place views
as_known k by views h here same =
    subst (λ (q : Known). AllFit q by h.place views) (sym same) (subst (λ (q : ℕ). AllFit h.known q h.place views) (sym here) h.fits)

-- one pass has a new view, and the others as before
set_fits : (k : Known) (keeper : ℕ) (place : ℕ → ℕ) (views : List View) (by : ℕ) (w : View)
    → ((j : ℕ) (u : View) → j ≢ by → get_elem? views j ≡ some u → Fits k keeper place j u) → Fits k keeper place by w
    → AllFit k keeper place (set views by w)
set_fits k keeper place views by w others mine j u e =
    ⊎_elim
    (λ (x : (j ≡ by) × (w ≡ u)). subst (λ (y : ℕ × View). Fits k keeper place y.0 y.1) (λ i. (sym x.0 i, x.1 i)) mine)
    (λ (x : (j ≢ by) × (get_elem? views j ≡ some u)). others j u x.0 x.1)
    (at_set views by j w u e)

-- one pass more
more_fits : (k : Known) (keeper : ℕ) (place : ℕ → ℕ) (views : List View) (w : View)
    → ((j : ℕ) (u : View) → j < length views → get_elem? views j ≡ some u → Fits k keeper place j u) → Fits k keeper place (length views) w
    → AllFit k keeper place (views ++ w ∷ [])
more_fits k keeper place views w others mine j u e =
    ⊎_elim
    (λ (x : (get_elem? views j ≡ some u) × (j < length views)). others j u x.1 x.0)
    (λ (x : (w ≡ u) × (j ≡ length views)). subst (λ (y : ℕ × View). Fits k keeper place y.0 y.1) (λ i. (sym x.1 i, x.0 i)) mine)
    (at_more views w u j e)

-- what a pass that is not the keeper's says after a move that concerns the seat n alone
others_fit : (k now : Known) (by : ℕ) (place then : ℕ → ℕ) (j : ℕ) (u : View) → j ≢ by → Fits k by place j u
    → ((m : ℕ) (seen : List Entry) → j ≡ place m → IsOut k m seen → (j ≡ then m) × IsOut now m seen)
    → Fits now by then j u
others_fit k now by place then j Nothing apart fits goes = tt
others_fit k now by place then j (Keeper mine) apart fits goes = absurd (apart fits.0)
others_fit k now by place then j (Seated m seen) apart fits goes = goes m seen fits.0 fits.1
others_fit k now by place then j (Meeting mine m seen) apart fits goes = absurd (apart fits.0)

-- ---- the start

pub begins : Kept (newcomer ∷ [])
begins = record { known = known [] [] 0; keeper = 0; place = λ n. 0; fits = one }
  where
    one : (by : ℕ) (v : View) → get_elem? (newcomer ∷ []) by ≡ some v → Fits (known [] [] 0) 0 (λ n. 0) by v
    one zero v e = subst (Fits (known [] [] 0) 0 (λ n. 0) 0) (some-injective _ _ e) (refl, refl)
    one (suc by) v e = absurd (some-ne-none v (sym e))

-- ---- the moves

-- a pass that knows nothing
pub spares : (by : ℕ) (v : View) → Splits holds by v v Nothing
spares by v s h at = record {
  known = h.known;
  keeper = h.keeper;
  place = h.place;
  fits = more_fits h.known h.keeper h.place (set s.views by v) Nothing
      (λ j u less e. h.fits j u (subst (λ (l : List View). get_elem? l j ≡ some u) (set_again s.views by v at) e))
      tt;
}

nobody_home : (k : Known) → k.home ≡ [] → NotAmong k.seats k.home
nobody_home k none_yet = subst (NotAmong k.seats) (sym none_yet) tt

pub issues : (by : ℕ) (k : Known) → k.home ≡ [] → Splits holds by (Keeper k) (Keeper (with_seat k)) (Seated k.seats k.history)
issues by k none_yet s h at =
    let mine = h.fits by (Keeper k) at in
    let fits = as_known k by s.views h mine.0 mine.1 in
    let views = set s.views by (Keeper (with_seat k)) in
    let place : ℕ → ℕ = moved k.seats (length views) h.place in
    record {
      known = with_seat k;
      keeper = by;
      place = place;
      fits = more_fits (with_seat k) by place views (Seated k.seats k.history)
          (λ j u less e. set_fits (with_seat k) by place s.views by (Keeper (with_seat k))
          (λ i v apart f. others_fit k (with_seat k) by h.place place i v apart (fits i v f)
          (λ m seen there out. (
            there ∙ sym (moved_else k.seats (length views) h.place m (let l = out.made in omega arith)),
            record { made = (let l = out.made in omega arith); knows = out.knows; away = out.away },
          )))
          (refl, refl) j u e) (
            sym (moved_here k.seats (length views) h.place),
            record { made = omega arith; knows = record { rest = []; goes_on = sym (append-nil k.history); without_it = tt }; away = nobody_home k none_yet },
          );
    }

pub meets : (by : ℕ) (k : Known) (other n : ℕ) (seen : List Entry) → Joins holds by (Keeper k) other (Seated n seen) (Meeting k n seen) Nothing
meets by k other n seen s h at apart there =
    let mine = h.fits by (Keeper k) at in
    let fits = as_known k by s.views h mine.0 mine.1 in
    let w = Meeting k n seen in
    let theirs : Fits k by h.place other (Seated n seen) = ⊎_elim
    (λ (t : (other ≡ by) × (w ≡ Seated n seen)). absurd (apart t.0))
    (λ (t : (other ≢ by) × (get_elem? s.views other ≡ some (Seated n seen))). fits other (Seated n seen) t.1)
    (at_set s.views by other w (Seated n seen) there) in
    let place : ℕ → ℕ = moved n by h.place in
    record {
      known = k;
      keeper = by;
      place = place;
      fits = set_fits k by place (set s.views by w) other Nothing
          (λ j u off e. ⊎_elim
          (λ (t : (j ≡ by) × (w ≡ u)). subst (λ (y : ℕ × View). Fits k by place y.0 y.1) (λ i. (sym t.0 i, t.1 i)) (refl, refl, sym (moved_here n by h.place), theirs.1))
          (λ (t : (j ≢ by) × (get_elem? s.views j ≡ some u)). others_fit k k by h.place place j u t.0 (fits j u t.1)
          (λ m seen' at' out. (at' ∙ sym (moved_else n by h.place m (λ same. off (at' ∙ ap h.place same ∙ sym theirs.0))), out)))
          (at_set s.views by j w u e))
          tt;
    }

pub parts : (by : ℕ) (k : Known) (n : ℕ) (seen : List Entry) → Splits holds by (Meeting k n seen) (Keeper k) (Seated n seen)
parts by k n seen s h at =
    let mine = h.fits by (Meeting k n seen) at in
    let fits = as_known k by s.views h mine.0 mine.1 in
    let out : IsOut k n seen = subst (λ (q : Known). IsOut q n seen) (sym mine.1) mine.3 in
    let views = set s.views by (Keeper k) in
    let place : ℕ → ℕ = moved n (length views) h.place in
    record {
      known = k;
      keeper = by;
      place = place;
      fits = more_fits k by place views (Seated n seen)
          (λ j u less e. set_fits k by place s.views by (Keeper k)
          (λ i v apart f. others_fit k k by h.place place i v apart (fits i v f)
          (λ m seen' at' out'. (at' ∙ sym (moved_else n (length views) h.place m (λ same. apart (at' ∙ ap h.place same ∙ sym mine.2))), out')))
          (refl, refl) j u e)
          (sym (moved_here n (length views) h.place), out);
    }

none_of_more : (n : ℕ) (rest : List Entry) (e : Entry) → NoneOf n rest → e.seat ≢ n → NoneOf n (rest ++ e ∷ [])
none_of_more n [] e none_yet apart = (apart, tt)
none_of_more n (x ∷ xs) e none_yet apart = (none_yet.0, none_of_more n xs e none_yet.1 apart)

pub out_more : (k : Known) (n : ℕ) (seen : List Entry) (e : Entry) → IsOut k n seen → e.seat ≢ n → IsOut (with_call k e) n seen
out_more k n seen e out apart =
    let up = out.knows in
    record {
      made = out.made;
      knows = record {
        rest = up.rest ++ e ∷ [];
        goes_on = ap (λ (l : List Entry). l ++ e ∷ []) up.goes_on ∙ append_assoc seen up.rest (e ∷ []);
        without_it = none_of_more n up.rest e up.without_it apart;
      };
      away = out.away;
    }

pub adds : (slots by : ℕ) (k : Known) (n : ℕ) (seen : List Entry) (e : Entry) → e.seat ≡ n
    → Allows holds slots by (Meeting k n seen, []) 0 (λ m. either (m == 0) 0 m) (Adds (step slots 0 0 0 (some e)) (Meeting k n seen, []))
adds slots by k n seen e own s h count at less =
    let mine = h.fits by (Meeting k n seen) at in
    let fits = as_known k by s.views h mine.0 mine.1 in
    let out : IsOut k n seen = subst (λ (q : Known). IsOut q n seen) (sym mine.1) mine.3 in
    let now = with_call k e in
    let w = Meeting now n now.history in (
      w,
      keeps,
      tt,
      record {
        known = now;
        keeper = by;
        place = h.place;
        fits = set_fits now by h.place s.views by w
            (λ j u apart f. others_fit k now by h.place h.place j u apart (fits j u f)
            (λ m seen' at' out'. (at', out_more k m seen' e out' (λ same. apart (at' ∙ ap h.place (sym same ∙ own) ∙ sym mine.2)))))
            (refl, refl, mine.2, record { made = out.made; knows = record { rest = []; goes_on = sym (append-nil now.history); without_it = tt }; away = out.away });
      },
      (refl, out),
    )

pub homes : (slots by : ℕ) (k : Known) (n : ℕ) (seen : List Entry)
    → Allows holds slots by (Meeting k n seen, []) 0 (λ m. m) (ComesHome (step slots 0 0 0 none) (Meeting k n seen, []))
homes slots by k n seen s h count at less =
    let mine = h.fits by (Meeting k n seen) at in
    let fits = as_known k by s.views h mine.0 mine.1 in
    let out : IsOut k n seen = subst (λ (q : Known). IsOut q n seen) (sym mine.1) mine.3 in
    let now = with_home k n in (
      Keeper now,
      keeps,
      tt,
      record {
        known = now;
        keeper = by;
        place = h.place;
        fits = set_fits now by h.place s.views by (Keeper now)
            (λ j u apart f. others_fit k now by h.place h.place j u apart (fits j u f)
            (λ m seen' at' out'. (at', record { made = out'.made; knows = out'.knows; away = not_among_push m k.home n out'.away (λ same. apart (at' ∙ ap h.place (sym same) ∙ sym mine.2)) })))
            (refl, refl);
      },
      (refl, out),
    )

-- ---- the same at views that are known

pub issues_as : (by : ℕ) (me : Me Entry View) → IsKeeper me → (known_of me.0).home ≡ [] → Splits holds by me.0 (issuing me.0) (issued me.0)
issues_as by me is none_yet =
    subst (λ (v : View). Splits holds by v (issuing v) (issued v)) (sym (ap (λ (m : Me Entry View). m.0) is)) (issues by (known_of me.0) none_yet)

pub meets_as : (by : ℕ) (me : Me Entry View) (other n : ℕ) (you : Me Entry View) → IsKeeper me → IsSeat n you → Joins holds by me.0 other you.0 (met me.0 you.0) Nothing
meets_as by me other n you is seat =
    subst (λ (v : View). Joins holds by v other you.0 (met v you.0) Nothing) (sym (ap (λ (m : Me Entry View). m.0) is))
    (subst (λ (w : View). Joins holds by (Keeper (known_of me.0)) other w (met (Keeper (known_of me.0)) w) Nothing) (sym (ap (λ (m : Me Entry View). m.0) seat))
    (meets by (known_of me.0) other n (seen_of you.0)))

pub parts_as : (by : ℕ) (me : Me Entry View) (k : Known) (n : ℕ) (seen : List Entry) → me ≡ (Meeting k n seen, []) → Splits holds by me.0 (keeper_of me.0) (seat_of me.0)
parts_as by me k n seen is =
    subst (λ (v : View). Splits holds by v (keeper_of v) (seat_of v)) (sym (ap (λ (m : Me Entry View). m.0) is)) (parts by k n seen)

pub adds_as : (slots by : ℕ) (me : Me Entry View) (k : Known) (n : ℕ) (seen : List Entry) (e : Entry) → me ≡ (Meeting k n seen, []) → e.seat ≡ n
    → Allows holds slots by me 0 (λ m. either (m == 0) 0 m) (Adds (step slots 0 0 0 (some e)) me)
adds_as slots by me k n seen e is own =
    subst (λ (x : Me Entry View). Allows holds slots by x 0 (λ m. either (m == 0) 0 m) (Adds (step slots 0 0 0 (some e)) x)) (sym is) (adds slots by k n seen e own)

pub homes_as : (slots by : ℕ) (me : Me Entry View) (k : Known) (n : ℕ) (seen : List Entry) → me ≡ (Meeting k n seen, [])
    → Allows holds slots by me 0 (λ m. m) (ComesHome (step slots 0 0 0 none) me)
homes_as slots by me k n seen is =
    subst (λ (x : Me Entry View). Allows holds slots by x 0 (λ m. m) (ComesHome (step slots 0 0 0 none) x)) (sym is) (homes slots by k n seen)

-- the keeper with what the seat knows
pub met_is : (me you : Me Entry View) (n : ℕ) → IsKeeper me → IsSeat n you → ◌≡◌ {A = Me Entry View} (met me.0 you.0, me.1) (Meeting (known_of me.0) n (seen_of you.0), [])
met_is me you n is seat = λ i. (met (is i).0 (seat i).0, (is i).1)

pub met_same : (me me' you you' : Me Entry View) → me ≡ me' → you ≡ you' → ◌≡◌ {A = Me Entry View} (met me.0 you.0, me.1) (met me'.0 you'.0, me'.1)
met_same me me' you you' p q = λ i. (met (p i).0 (q i).0, (p i).1)

-- both with one more call
pub added_is : (me : Me Entry View) (k : Known) (n : ℕ) (seen : List Entry) (e : Entry) → me ≡ (Meeting k n seen, [])
    → ◌≡◌ {A = Me Entry View} (added me.0 (some e), me.1) (Meeting (with_call k e) n (k.history ++ e ∷ []), [])
added_is me k n seen e is = λ i. (added (is i).0 (some e), (is i).1)
