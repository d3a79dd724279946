-- Runs in the order of their first pages, of which those that touch or share pages become one.
use Rattle.std.proofs.Common.{◌≡◌, ℕ, zero, suc, ◌+◌, ◌<◌, ◌≤◌, Bool, true, false, cond, ◌||◌, leb, ltb, List, [], ◌∷◌, length, refl, sym, ap, subst, ◌∙◌, arith}
use Rattle.std.specs.List.Retain.{DedupsFrom, IsDeduped}
use Rattle.std.specs.List.Sorted.{IsNonDecreasingBy}
use Rattle.std.specs.Bool.{MatchBool}
use Rattle.std.proofs.lemmas.Bool.{and_parts, leb-true, ltb-true}
use Rattle.std.proofs.lemmas.Bool.Decides.{nat_tests}
use Rattle.std.proofs.lemmas.List.Sums.{sum_by-cons}
use Rattle.base.specs.Pages.{PageRun, in_run, covers, with_run, rise, rise_above, are_normal}
use Rattle.base.specs.Descriptors.Send.{pages_in}
use Rattle.base.proofs.Joining.{end_of, AreSpread, spread-rest, spread-with, pages_with}

-- ---- maximal runs

rise_from_above : (e : ℕ) (runs : List PageRun) → rise_above e runs ≡ true → rise e runs ≡ true
rise_from_above e [] h = refl
rise_from_above e (run ∷ runs) h =
    let parts = and_parts (ltb e run.first) (rise_above (end_of run) runs) h in
    let here : leb e run.first ≡ true = (let lt = ltb-true _ _ parts.0 in grind (arith, nat_tests)) in
    rw here (rise_from_above (end_of run) runs parts.1)

-- maximal runs rise
pub rise_from_normal : (runs : List PageRun) → are_normal runs ≡ true → rise 0 runs ≡ true
rise_from_normal [] h = refl
rise_from_normal (run ∷ runs) h = let here : leb 0 run.first ≡ true = grind (arith, nat_tests) in rw here (rise_from_above (end_of run) runs h)

-- ---- runs in the order of their first pages

abbrev IsOrdered : List PageRun → Type 0
IsOrdered runs = IsNonDecreasingBy (λ (run : PageRun). run.first) runs

ordered_rest : (run : PageRun) (runs : List PageRun) → IsOrdered (run ∷ runs) → IsOrdered runs
ordered_rest run runs h i j d le lt = h (suc i) (suc j) d (omega arith) (omega arith)

-- where the second goes, and the first begins where it did
ordered_without : (run next now : PageRun) (runs : List PageRun) → now.first ≡ run.first → IsOrdered (run ∷ next ∷ runs) → IsOrdered (now ∷ runs)
ordered_without run next now runs same h zero zero d le lt = omega arith
ordered_without run next now runs same h zero (suc j) d le lt = let a = h 0 (suc (suc j)) d (omega arith) (omega arith) in omega (arith, a, same)
ordered_without run next now runs same h (suc i) zero d le lt = absurd (omega arith)
ordered_without run next now runs same h (suc i) (suc j) d le lt = h (suc (suc i)) (suc (suc j)) d (omega arith) (omega arith)

-- the new runs are maximal and begin at a page, have the pages of the old ones, and are no more than these
pub record IsGathered (first : ℕ) (old new : List PageRun) : Type 0 where
  pub kept : PageRun
  pub rest : List PageRun
  pub is : new ≡ kept ∷ rest
  pub begins : kept.first ≡ first
  pub rises : rise_above (end_of kept) rest ≡ true
  pub same : (n : ℕ) → covers new n ≡ covers old n
  pub fewer : length new ≤ length old
  pub sum : AreSpread old → pages_in new ≡ pages_in old

in_both : (run next : PageRun) (n : ℕ) → run.first ≤ next.first → next.first ≤ end_of run → in_run (with_run run next) n ≡ (in_run run n || in_run next n)
in_both run next n from to = grind (arith, nat_tests)

or_assoc : (a b c : Bool) → ((a || b) || c) ≡ (a || (b || c))
or_assoc true b c = refl
or_assoc false b c = refl

pages_in-first : (run : PageRun) (runs : List PageRun) → pages_in (run ∷ runs) ≡ run.count + pages_in runs
pages_in-first = sum_by-cons (λ (r : PageRun). r.count)

gathered_as_one : (run next : PageRun) (runs new : List PageRun) → run.first ≤ next.first → next.first ≤ end_of run → IsGathered run.first (with_run run next ∷ runs) new → IsGathered run.first (run ∷ next ∷ runs) new
gathered_as_one run next runs new le to g = record {
  kept = g.kept;
  rest = g.rest;
  is = g.is;
  begins = g.begins;
  rises = g.rises;
  same = λ n. g.same n ∙ ap (λ b. b || covers runs n) (in_both run next n le to) ∙ or_assoc (in_run run n) (in_run next n) (covers runs n);
  fewer = omega (arith, g.fewer);
  sum = λ s.
      let rest = g.sum (spread-with run next runs le s) in
      let two = pages_with run next runs le to s in
      omega (arith, rest, two, pages_in-first (with_run run next) runs, pages_in-first run (next ∷ runs), pages_in-first next runs);
}

gathered_apart : (run next : PageRun) (runs new : List PageRun) → end_of run < next.first → IsGathered next.first (next ∷ runs) new → IsGathered run.first (run ∷ next ∷ runs) (run ∷ new)
gathered_apart run next runs new lt g =
    let here : ltb (end_of run) g.kept.first ≡ true = (let b = g.begins in grind (arith, nat_tests)) in
    record {
      kept = run;
      rest = new;
      is = refl;
      begins = refl;
      rises = ap (rise_above (end_of run)) g.is ∙ rw here g.rises;
      same = λ n. ap (λ b. in_run run n || b) (g.same n);
      fewer = omega (arith, g.fewer);
      sum = λ s. omega (arith, g.sum (spread-rest run (next ∷ runs) s), pages_in-first run new, pages_in-first run (next ∷ runs));
    }

-- of any runs
pub record AreGathered (old new : List PageRun) : Type 0 where
  pub normal : are_normal new ≡ true
  pub rises : rise 0 new ≡ true
  pub same : (n : ℕ) → covers new n ≡ covers old n
  pub fewer : length new ≤ length old
  pub some : 0 < length old → 0 < length new
  pub sum : AreSpread old → pages_in new ≡ pages_in old

-- each call takes a run in where it begins in the one kept or at its end, and changes nothing else
module _ {F : Type 0} (R : F → PageRun → PageRun → Bool → F → PageRun → PageRun → Type 0) (f : F)
    (h : (x k : PageRun) (b : Bool) (f' : F) (x' k' : PageRun) → R f x k b f' x' k' → (b ≡ leb x.first (end_of k)) × (k' ≡ cond b (with_run k x) k) × (x' ≡ x) × (f' ≡ f)) where
  gathered_from : (runs : List PageRun) (g : F) (run : PageRun) (new : List PageRun) → g ≡ f → IsOrdered (run ∷ runs) → DedupsFrom R g run runs new → IsGathered run.first (run ∷ runs) new
  gathered_from [] g run new e up t = subst (IsGathered run.first (run ∷ [])) (sym t) record {
    kept = run;
    rest = [];
    is = refl;
    begins = refl;
    rises = refl;
    same = λ n. refl;
    fewer = omega arith;
    sum = λ s. refl;
  }
  gathered_from (next ∷ runs) g run new e up t =
      let one = h next run t.0 t.1 t.2 t.3 (subst (λ (y : F). R y next run t.0 t.1 t.2 t.3) e t.4) in
      let order : run.first ≤ next.first = up 0 1 run (omega arith) (omega arith) in
      elim t.0 as (λ b. b ≡ leb next.first (end_of run) → t.3 ≡ cond b (with_run run next) run → MatchBool b (DedupsFrom R t.1 t.3 runs new) ((zs : List PageRun) × DedupsFrom R t.1 t.2 runs zs × (new ≡ t.3 ∷ zs)) → IsGathered run.first (run ∷ next ∷ runs) new) [
        | true ↦ λ is now rest.
            gathered_as_one run next runs new order (leb-true _ _ (sym is))
            (gathered_from runs t.1 (with_run run next) new one.3 (ordered_without run next (with_run run next) runs refl up) (subst (λ (k : PageRun). DedupsFrom R t.1 k runs new) now rest))
        | false ↦ λ is now rest.
            let above : end_of run < next.first = grind (arith, nat_tests) in
            subst (IsGathered run.first (run ∷ next ∷ runs)) (sym (rest.2 ∙ ap (λ (k : PageRun). k ∷ rest.0) now))
            (gathered_apart run next runs rest.0 above
            (gathered_from runs t.1 next rest.0 one.3 (ordered_rest run (next ∷ runs) up) (subst (λ (k : PageRun). DedupsFrom R t.1 k runs rest.0) one.2 rest.1)))
      ] one.0 one.1 t.5

  pub all_gathered : (runs new : List PageRun) → IsOrdered runs → IsDeduped R f runs new → AreGathered runs new
  all_gathered [] new up k = subst (AreGathered []) (sym k.told) record {
    normal = refl;
    rises = refl;
    same = λ n. refl;
    fewer = omega arith;
    some = λ h. h;
    sum = λ s. refl;
  }
  all_gathered (run ∷ runs) new up k =
      let g = gathered_from runs f run new refl up k.told in
      let long = ap length g.is in
      let normal = ap are_normal g.is ∙ g.rises in
      record {
        normal = normal;
        rises = rise_from_normal new normal;
        same = g.same;
        fewer = g.fewer;
        some = λ h. omega (arith, long);
        sum = g.sum;
      }
