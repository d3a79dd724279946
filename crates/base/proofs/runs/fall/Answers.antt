use Rattle.std.proofs.Common.{◌≡◌, ℕ, ◌+◌, ◌-◌, ◌<◌, true, ltb, List, [], ◌∷◌, ◌++◌, take, reverse, length, get_or, refl, sym, ap, subst, ◌∙◌, arith}
use Rattle.std.proofs.lemmas.Bool.Decides.{nat_tests}
use Rattle.std.proofs.lemmas.List.{take_more, take_all, reverse-append}
use Rattle.base.specs.Pages.{PageRun, are_normal, rise_above}
use Rattle.base.proofs.runs.fall.Goals as goal

-- the first of some, and one more
reversed : (runs : List PageRun) (i : ℕ) (r : PageRun) → i < length runs → r ≡ get_or runs i r → reverse (take (i + 1) runs) ≡ r ∷ reverse (take i runs)
reversed runs i r lt is = ap reverse (take_more runs i r lt ∙ ap (λ (x : PageRun). take i runs ++ x ∷ []) (sym is)) ∙ reverse-append (take i runs) (r ∷ [])

-- one more that ends before the last begins
falls : (runs : List PageRun) (i : ℕ) (a b : PageRun) → i + 1 < length runs → a ≡ get_or runs i a → b ≡ get_or runs (i + 1) b → b.first + b.count < a.first → are_normal (reverse (take (i + 1) runs)) ≡ true → are_normal (reverse (take (i + 2) runs)) ≡ true
falls runs i a b lt is next below so =
    let first = reversed runs i a (omega (arith, lt)) is in
    let more = reversed runs (i + 1) b lt next in
    let behind : rise_above (a.first + a.count) (reverse (take i runs)) ≡ true = rw first at so in
    let two : i + 2 ≡ (i + 1) + 1 = omega arith in
    let here : ltb (b.first + b.count) a.first ≡ true = grind (arith, nat_tests, below) in
    rw (two, more, first, here) behind

pub loop-index-init : goal.loop-index-init
loop-index-init c = record { fallen = one c.args.runs.now }
  where
    one : (runs : List PageRun) → are_normal (reverse (take 1 runs)) ≡ true
    one [] = refl
    one (r ∷ runs) = refl

pub loop-index-preserved : goal.loop-index-preserved
loop-index-preserved c =
    let i = c.loop-index.index in
    let low = c.loop-index.auto.index in
    let before : i - 1 + 1 ≡ i = omega (arith, low) in
    let after : i - 1 + 2 ≡ i + 1 = omega (arith, low) in
    let lt : i - 1 + 1 < length c.args.runs.now = omega (arith, before, c.loop-index-test.true) in
    let so : are_normal (reverse (take (i - 1 + 1) c.args.runs.now)) ≡ true = rw before c.loop-index.invariant.fallen in
    let over = c.if-number-end.false in
    record { fallen = subst (λ k. are_normal (reverse (take k c.args.runs.now)) ≡ true) after (falls c.args.runs.now (i - 1) c.index-runs-index.result c.index-runs-index-in-loop-index.result lt c.index-runs-index.is (rw before c.index-runs-index-in-loop-index.is) (omega (arith, over, c.end.ensures.same, c.number.ensures.same, c.first.ensures.same)) so) }

pub returns : goal.returns
returns c = λ _. subst (λ (runs : List PageRun). are_normal (reverse runs) ≡ true) (take_all c.loop-index.index c.args.runs.now c.loop-index-test.false) c.loop-index.invariant.fallen
