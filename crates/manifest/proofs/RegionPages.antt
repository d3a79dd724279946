-- The pages of a region have the same region.
use Rattle.std.proofs.Common.{◌≡◌, ℕ, ◌+◌, ◌<◌, ◌≤◌, true, false, cond, leb, List, [], ◌∷◌, Some, refl, sym, ap, subst, ◌∙◌, arith}
use Rattle.std.specs.List.{find}
use Rattle.std.proofs.lemmas.Bool.{and_parts, leb-true}
use Rattle.std.proofs.lemmas.Bool.Decides.{nat_tests}
use Rattle.base.specs.Pages.{PageRun, in_run}
use Rattle.base.specs.Manifest.{RegionRow}
use Rattle.manifest.specs.Valid.{begin_from}

pub in_run-before : (run : PageRun) (n : ℕ) → in_run run n ≡ true → n < run.first + run.count
in_run-before run n is = grind (arith, nat_tests)

in_run-within : (run : PageRun) (n : ℕ) → run.first ≤ n → n < run.first + run.count → in_run run n ≡ true
in_run-within run n from to = grind (arith, nat_tests)

in_run-from : (run : PageRun) (n : ℕ) → in_run run n ≡ true → run.first ≤ n
in_run-from run n is = grind (arith, nat_tests)

in_run-behind : (run : PageRun) (n : ℕ) → run.first + run.count ≤ n → in_run run n ≡ false
in_run-behind run n le = grind (arith, nat_tests)

pub found_has : (rs : List RegionRow) (page : ℕ) (r : RegionRow) → find (λ (q : RegionRow). in_run q.pages page) rs ≡ Some r → in_run r.pages page ≡ true
found_has [] page r e = absurd cc
found_has (q ∷ rs) page r e =
    elim (in_run q.pages page) as (λ b. in_run q.pages page ≡ b → cond b (Some q) (find (λ (x : RegionRow). in_run x.pages page) rs) ≡ Some r → in_run r.pages page ≡ true) [
      | true ↦ λ is e. let same : q ≡ r = cc in subst (λ (x : RegionRow). in_run x.pages page ≡ true) same is
      | false ↦ λ not e. found_has rs page r e
    ] refl e

above : (rs : List RegionRow) (least page : ℕ) (r : RegionRow) → begin_from least rs ≡ true → find (λ (q : RegionRow). in_run q.pages page) rs ≡ Some r → least ≤ r.pages.first
above [] least page r begin e = absurd cc
above (q ∷ rs) least page r begin e =
    let b = and_parts (leb least q.pages.first) (begin_from (q.pages.first + q.pages.count) rs) begin in
    let first : least ≤ q.pages.first = leb-true _ _ b.0 in
    elim (in_run q.pages page) as (λ b. cond b (Some q) (find (λ (x : RegionRow). in_run x.pages page) rs) ≡ Some r → least ≤ r.pages.first) [
      | true ↦ λ e. let same : q ≡ r = cc in subst (λ (x : RegionRow). least ≤ x.pages.first) same first
      | false ↦ λ e. let rest = above rs (q.pages.first + q.pages.count) page r b.1 e in omega arith
    ] e

region_at-page : (rs : List RegionRow) (least page n : ℕ) (r : RegionRow) → begin_from least rs ≡ true → find (λ (q : RegionRow). in_run q.pages page) rs ≡ Some r → in_run r.pages n ≡ true
    → find (λ (q : RegionRow). in_run q.pages n) rs ≡ Some r
region_at-page [] least page n r begin e is = absurd cc
region_at-page (q ∷ rs) least page n r begin e is =
    let b = and_parts (leb least q.pages.first) (begin_from (q.pages.first + q.pages.count) rs) begin in
    elim (in_run q.pages page) as (λ b. cond b (Some q) (find (λ (x : RegionRow). in_run x.pages page) rs) ≡ Some r → find (λ (x : RegionRow). in_run x.pages n) (q ∷ rs) ≡ Some r) [
      | true ↦ λ e.
          let same : q ≡ r = cc in
          let here : in_run q.pages n ≡ true = subst (λ (x : RegionRow). in_run x.pages n ≡ true) (sym same) is in
          rw here (ap (λ (x : RegionRow). Some x) same)
      | false ↦ λ e.
          let rest = above rs (q.pages.first + q.pages.count) page r b.1 e in
          let from = in_run-from r.pages n is in
          let out : in_run q.pages n ≡ false = in_run-behind q.pages n (omega arith) in
          rw out (region_at-page rs (q.pages.first + q.pages.count) page n r b.1 e is)
    ] e

-- from a page of the region to its end
pub region_at-same : (rs : List RegionRow) (page n : ℕ) (r : RegionRow) → begin_from 0 rs ≡ true → find (λ (q : RegionRow). in_run q.pages page) rs ≡ Some r → page ≤ n → n < r.pages.first + r.pages.count
    → find (λ (q : RegionRow). in_run q.pages n) rs ≡ find (λ (q : RegionRow). in_run q.pages page) rs
region_at-same rs page n r begin e from to =
    let first = in_run-from r.pages page (found_has rs page r e) in
    region_at-page rs 0 page n r begin e (in_run-within r.pages n (omega arith) to) ∙ sym e
