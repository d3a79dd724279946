-- Regions in ascending order: the views of the pages before one, in it and after the last.
use Rattle.std.proofs.Common.{◌≡◌, ℕ, ◌+◌, ◌^◌, ◌<◌, ◌≤◌, true, false, List, [], ◌∷◌, drop, find, None, refl, ap, ◌∙◌, arith}
use Rattle.std.specs.Option.{option_and_then}
use Rattle.std.proofs.lemmas.Bool.{leb-true}
use Rattle.std.proofs.lemmas.Bool.Decides.{nat_tests}
use Rattle.std.proofs.lemmas.Bool.{and_parts}
use Rattle.base.specs.Pages.{IsRun, in_run}
use Rattle.base.specs.Manifest.{RegionRow, granted_in}
use Rattle.manifest.specs.Valid.{begin_from, granted_by}

-- the regions before one at `i` end at `position` or before, and the others begin there or after
pub record Passed (rs : List RegionRow) (i position : ℕ) : Type 0 where
  pub begins : begin_from position (drop i rs) ≡ true
  pub same : (n : ℕ) → position ≤ n → find (λ r. in_run r.pages n) rs ≡ find (λ r. in_run r.pages n) (drop i rs)
  pub inside : position ≤ 2 ^ 27

pub passed-start : (rs : List RegionRow) → begin_from 0 rs ≡ true → Passed rs 0 0
passed-start rs e = record { begins = e; same = λ n le. refl; inside = omega arith }

-- no region has a page before the first of them
pub none_from : (least : ℕ) (rs : List RegionRow) (n : ℕ) → begin_from least rs ≡ true → n < least → find (λ r. in_run r.pages n) rs ≡ None
none_from least [] n e below = refl
none_from least (r ∷ rs) n e below =
    let b = and_parts _ _ e in
    let begins : least ≤ r.pages.first = leb-true _ _ b.0 in
    let out : in_run r.pages n ≡ false = grind (arith, nat_tests) in
    rw out (none_from (r.pages.first + r.pages.count) rs n b.1 (omega (arith, begins)))

pub begins_at : (rs : List RegionRow) (i position : ℕ) (r : RegionRow) (rest : List RegionRow) → Passed rs i position → drop i rs ≡ r ∷ rest → (position ≤ r.pages.first) × (begin_from (r.pages.first + r.pages.count) rest ≡ true)
begins_at rs i position r rest before whole =
    let b = and_parts _ _ (rw whole at before.begins) in
    (leb-true _ _ b.0, b.1)

-- between two regions nothing is granted
pub granted-gap : (rs : List RegionRow) (i position : ℕ) (r : RegionRow) (rest : List RegionRow) (p n : ℕ) → Passed rs i position → drop i rs ≡ r ∷ rest → position ≤ n → n < r.pages.first → granted_by rs p n ≡ None
granted-gap rs i position r rest p n before whole from below =
    let b = begins_at rs i position r rest before whole in
    let none : find (λ s. in_run s.pages n) (r ∷ rest) ≡ None =
    let out : in_run r.pages n ≡ false = grind (arith, nat_tests) in
    rw out (none_from (r.pages.first + r.pages.count) rest n b.1 (omega arith)) in
    ap (option_and_then (λ s. granted_in s p)) (before.same n from ∙ ap (find (λ s. in_run s.pages n)) whole ∙ none)

-- in a region it is the region's grant
pub granted-within : (rs : List RegionRow) (i position : ℕ) (r : RegionRow) (rest : List RegionRow) (p n : ℕ) → Passed rs i position → drop i rs ≡ r ∷ rest → r.pages.first ≤ n → n < r.pages.first + r.pages.count → granted_by rs p n ≡ granted_in r p
granted-within rs i position r rest p n before whole from below =
    let b = begins_at rs i position r rest before whole in
    let here : in_run r.pages n ≡ true = grind (arith, nat_tests) in
    let found : option_and_then (λ s. granted_in s p) (find (λ s. in_run s.pages n) (r ∷ rest)) ≡ granted_in r p = rw here refl in
    ap (option_and_then (λ s. granted_in s p)) (before.same n (omega (arith, b.0)) ∙ ap (find (λ s. in_run s.pages n)) whole) ∙ found

-- after the last region nothing is granted
pub granted-after : (rs : List RegionRow) (i position : ℕ) (p n : ℕ) → Passed rs i position → drop i rs ≡ [] → position ≤ n → granted_by rs p n ≡ None
granted-after rs i position p n before whole from =
    ap (option_and_then (λ s. granted_in s p)) (before.same n from ∙ ap (find (λ s. in_run s.pages n)) whole)

pub passed-next : (rs : List RegionRow) (i position : ℕ) (r : RegionRow) → Passed rs i position → drop i rs ≡ r ∷ drop (i + 1) rs → IsRun r.pages → Passed rs (i + 1) (r.pages.first + r.pages.count)
passed-next rs i position r before whole run =
    let b = begins_at rs i position r (drop (i + 1) rs) before whole in
    record {
      begins = b.1;
      same = λ n from.
          let out : in_run r.pages n ≡ false = grind (arith, nat_tests) in
          let skipped : find (λ s. in_run s.pages n) (r ∷ drop (i + 1) rs) ≡ find (λ s. in_run s.pages n) (drop (i + 1) rs) = rw out refl in
          before.same n (omega (arith, b.0)) ∙ ap (find (λ s. in_run s.pages n)) whole ∙ skipped;
      inside = run.1;
    }
