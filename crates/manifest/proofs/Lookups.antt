-- What a search by halving finds in rows that stand in ascending order.
use Rattle.std.proofs.Common.{◌≡◌, ℕ, zero, suc, ◌+◌, ◌<◌, ◌≤◌, ◌==◌, true, false, leb, ltb, List, [], ◌∷◌, length, get_or, find, Some, None, refl, inl, inr, arith}
use Rattle.std.specs.List.Sorted.{IsNonDecreasingBy, IsPartitionPoint, IsPartitionedBy}
use Rattle.std.proofs.lemmas.Bool.{cases_Bool, leb-true, ltb-true, and_parts}
use Rattle.std.proofs.lemmas.Bool.Decides.{nat_tests}
use Rattle.base.specs.Pages.{in_run}
use Rattle.base.specs.Manifest.{PartitionRow, RegionRow}
use Rattle.manifest.specs.Valid.{begin_from, rise_from}
use Rattle.manifest.proofs.Regions.{none_from}

-- ---- regions

abbrev pub end_of : RegionRow → ℕ
end_of r = r.pages.first + r.pages.count

end-least : (least : ℕ) (rs : List RegionRow) (j : ℕ) (d : RegionRow) → begin_from least rs ≡ true → j < length rs → least ≤ end_of (get_or rs j d)
end-least least [] j d e below = absurd (omega arith)
end-least least (r ∷ rs) zero d e below = let first : least ≤ r.pages.first = leb-true _ _ (and_parts _ _ e).0 in omega (arith, first)
end-least least (r ∷ rs) (suc j) d e below =
    let b = and_parts (leb least r.pages.first) (begin_from (r.pages.first + r.pages.count) rs) e in
    let first : least ≤ r.pages.first = leb-true _ _ b.0 in
    let rest = end-least (r.pages.first + r.pages.count) rs j d b.1 (omega arith) in
    omega (arith, first, rest)

-- the regions end in ascending order
pub ends_rise : (least : ℕ) (rs : List RegionRow) → begin_from least rs ≡ true → IsNonDecreasingBy end_of rs
ends_rise least [] e i j d le below = absurd (omega arith)
ends_rise least (r ∷ rs) e zero zero d le below = omega arith
ends_rise least (r ∷ rs) e zero (suc j) d le below = end-least (r.pages.first + r.pages.count) rs j d (and_parts _ _ e).1 (omega arith)
ends_rise least (r ∷ rs) e (suc i) zero d le below = absurd (omega arith)
ends_rise least (r ∷ rs) e (suc i) (suc j) d le below = ends_rise (r.pages.first + r.pages.count) rs (and_parts _ _ e).1 i j d (omega arith) (omega arith)

-- the regions before one end at the page or before
abbrev pub EndBefore : List RegionRow → ℕ → ℕ → Type 0
EndBefore rs i n = (k : ℕ) (d : RegionRow) → k < i → end_of (get_or rs k d) ≤ n

shorter : (r : RegionRow) (rs : List RegionRow) (i n : ℕ) → EndBefore (r ∷ rs) (suc i) n → EndBefore rs i n
shorter r rs i n before k d below = before (suc k) d (omega arith)

-- the first region that ends after the page has it
pub find-found : (least : ℕ) (rs : List RegionRow) (i n : ℕ) (r : RegionRow) → i < length rs → r ≡ get_or rs i r → EndBefore rs i n → in_run r.pages n ≡ true → find (λ s. in_run s.pages n) rs ≡ Some r
find-found least [] i n r below is before inside = absurd (omega arith)
find-found least (x ∷ rs) zero n r below is before inside = let here : in_run x.pages n ≡ true = rw (← is) inside in rw (here, is)
find-found least (x ∷ rs) (suc i) n r below is before inside =
    let past : end_of x ≤ n = before 0 x (omega arith) in
    let out : in_run x.pages n ≡ false = grind (arith, nat_tests) in
    rw out (find-found least rs i n r (omega arith) is (shorter x rs i n before) inside)

-- it does not have the page, and so none does
pub find-gap : (least : ℕ) (rs : List RegionRow) (i n : ℕ) (r : RegionRow) → begin_from least rs ≡ true → i < length rs → r ≡ get_or rs i r → EndBefore rs i n → n < end_of r → in_run r.pages n ≡ false → find (λ s. in_run s.pages n) rs ≡ None
find-gap least [] i n r e below is before after outside = absurd (omega arith)
find-gap least (x ∷ rs) zero n r e below is before after outside =
    let here : in_run x.pages n ≡ false = rw (← is) outside in
    let later : n < x.pages.first + x.pages.count = rw (← is) after in
    rw here (none_from (x.pages.first + x.pages.count) rs n (and_parts _ _ e).1 later)
find-gap least (x ∷ rs) (suc i) n r e below is before after outside =
    let past : end_of x ≤ n = before 0 x (omega arith) in
    let out : in_run x.pages n ≡ false = grind (arith, nat_tests) in
    rw out (find-gap (x.pages.first + x.pages.count) rs i n r (and_parts _ _ e).1 (omega arith) is (shorter x rs i n before) after outside)

-- all regions end at the page or before
pub find-past : (rs : List RegionRow) (i n : ℕ) → length rs ≤ i → EndBefore rs i n → find (λ s. in_run s.pages n) rs ≡ None
find-past [] i n past before = refl
find-past (x ∷ rs) zero n past before = absurd (omega arith)
find-past (x ∷ rs) (suc i) n past before =
    let ends : end_of x ≤ n = before 0 x (omega arith) in
    let out : in_run x.pages n ≡ false = grind (arith, nat_tests) in
    rw out (find-past rs i n (omega arith) (shorter x rs i n before))

-- a page that no region has stands before the first region that ends after it
pub gap-before : (rs : List RegionRow) (i n : ℕ) (r : RegionRow) → i < length rs → r ≡ get_or rs i r → EndBefore rs i n → n < end_of r → find (λ s. in_run s.pages n) rs ≡ None → n < r.pages.first
gap-before rs i n r below is before after none =
    elim (cases_Bool (in_run r.pages n)) [
      | inl inside ↦ let found = find-found 0 rs i n r below is before inside in absurd (cc)
      | inr outside ↦ grind (arith, nat_tests, outside, after)
    ]

-- and none has one between
pub gap-on : (rs : List RegionRow) (i page n : ℕ) (r : RegionRow) → begin_from 0 rs ≡ true → i < length rs → r ≡ get_or rs i r → EndBefore rs i page → page ≤ n → n < r.pages.first → find (λ s. in_run s.pages n) rs ≡ None
gap-on rs i page n r e below is before from to =
    let outside : in_run r.pages n ≡ false = grind (arith, nat_tests, to) in
    find-gap 0 rs i n r e below is (λ k d h. let ends = before k d h in omega (arith, ends, from)) (omega (arith, to)) outside

-- behind the last region
pub gap-past : (rs : List RegionRow) (i page n : ℕ) → length rs ≤ i → EndBefore rs i page → page ≤ n → find (λ s. in_run s.pages n) rs ≡ None
gap-past rs i page n past before from = find-past rs i n past (λ k d h. let ends = before k d h in omega (arith, ends, from))

-- ---- partitions

id-least : (least : ℕ) (rows : List PartitionRow) (j : ℕ) (d : PartitionRow) → rise_from least rows ≡ true → j < length rows → least ≤ (get_or rows j d).id
id-least least [] j d e below = absurd (omega arith)
id-least least (row ∷ rows) zero d e below = leb-true _ _ (and_parts _ _ e).0
id-least least (row ∷ rows) (suc j) d e below =
    let b = and_parts (leb least row.id) (rise_from (row.id + 1) rows) e in
    let first : least ≤ row.id = leb-true _ _ b.0 in
    let rest = id-least (row.id + 1) rows j d b.1 (omega arith) in
    omega (arith, first, rest)

-- the identifiers rise
pub ids_rise : (least : ℕ) (rows : List PartitionRow) → rise_from least rows ≡ true → IsNonDecreasingBy (λ row. row.id) rows
ids_rise least [] e i j d le below = absurd (omega arith)
ids_rise least (row ∷ rows) e zero zero d le below = omega arith
ids_rise least (row ∷ rows) e zero (suc j) d le below = let rest = id-least (row.id + 1) rows j d (and_parts _ _ e).1 (omega arith) in omega (arith, rest)
ids_rise least (row ∷ rows) e (suc i) zero d le below = absurd (omega arith)
ids_rise least (row ∷ rows) e (suc i) (suc j) d le below = ids_rise (row.id + 1) rows (and_parts _ _ e).1 i j d (omega arith) (omega arith)

abbrev pub Below : List PartitionRow → ℕ → ℕ → Type 0
Below rows i p = (k : ℕ) (d : PartitionRow) → k < i → (get_or rows k d).id < p

fewer : (row : PartitionRow) (rows : List PartitionRow) (i p : ℕ) → Below (row ∷ rows) (suc i) p → Below rows i p
fewer row rows i p before k d below = before (suc k) d (omega arith)

no_row : (least : ℕ) (rows : List PartitionRow) (p : ℕ) → rise_from least rows ≡ true → p < least → find (λ r. r.id == p) rows ≡ None
no_row least [] p e below = refl
no_row least (row ∷ rows) p e below =
    let b = and_parts (leb least row.id) (rise_from (row.id + 1) rows) e in
    let first : least ≤ row.id = leb-true _ _ b.0 in
    let other : (row.id == p) ≡ false = grind (arith, nat_tests) in
    rw other (no_row (row.id + 1) rows p b.1 (omega (arith, first)))

pub row-found : (rows : List PartitionRow) (i p : ℕ) (r : PartitionRow) → i < length rows → r ≡ get_or rows i r → Below rows i p → (r.id == p) ≡ true → find (λ row. row.id == p) rows ≡ Some r
row-found [] i p r below is before same = absurd (omega arith)
row-found (x ∷ rows) zero p r below is before same = let here : (x.id == p) ≡ true = rw (← is) same in rw (here, is)
row-found (x ∷ rows) (suc i) p r below is before same =
    let less : x.id < p = before 0 x (omega arith) in
    let other : (x.id == p) ≡ false = grind (arith, nat_tests) in
    rw other (row-found rows i p r (omega arith) is (fewer x rows i p before) same)

pub row-gap : (least : ℕ) (rows : List PartitionRow) (i p : ℕ) (r : PartitionRow) → rise_from least rows ≡ true → i < length rows → r ≡ get_or rows i r → Below rows i p → p ≤ r.id → (r.id == p) ≡ false → find (λ row. row.id == p) rows ≡ None
row-gap least [] i p r e below is before after differs = absurd (omega arith)
row-gap least (x ∷ rows) zero p r e below is before after differs =
    let here : (x.id == p) ≡ false = rw (← is) differs in
    let later : p ≤ x.id = rw (← is) after in
    rw here (no_row (x.id + 1) rows p (and_parts _ _ e).1 (omega (arith, later)))
row-gap least (x ∷ rows) (suc i) p r e below is before after differs =
    let less : x.id < p = before 0 x (omega arith) in
    let other : (x.id == p) ≡ false = grind (arith, nat_tests) in
    rw other (row-gap (x.id + 1) rows i p r (and_parts _ _ e).1 (omega arith) is (fewer x rows i p before) after differs)

pub row-past : (rows : List PartitionRow) (i p : ℕ) → length rows ≤ i → Below rows i p → find (λ row. row.id == p) rows ≡ None
row-past [] i p past before = refl
row-past (x ∷ rows) zero p past before = absurd (omega arith)
row-past (x ∷ rows) (suc i) p past before =
    let less : x.id < p = before 0 x (omega arith) in
    let other : (x.id == p) ≡ false = grind (arith, nat_tests) in
    rw other (row-past rows i p (omega arith) (fewer x rows i p before))

-- ---- places found by halving

-- the regions before a place end at the page or before, and the one at it ends after
pub record HalvedRegions (rs : List RegionRow) (i n : ℕ) : Type 0 where
  pub before : EndBefore rs i n
  pub after : (r : RegionRow) → i < length rs → r ≡ get_or rs i r → n < end_of r

pub halved-regions : (rs : List RegionRow) (i n : ℕ) → IsPartitionPoint (λ r. leb (end_of r) n ≡ true) (λ r. leb (end_of r) n ≡ false) rs i → HalvedRegions rs i n
halved-regions rs i n point = record {
  before = λ k d h. leb-true _ _ (point.0 k d (omega arith) h);
  after = λ r below is. let last : leb (end_of r) n ≡ false = rw is (point.1 i r (omega arith) below) in grind (arith, nat_tests);
}

-- the rows before a place are of identifiers below one, and the row at it is not
pub record HalvedRows (rows : List PartitionRow) (i p : ℕ) : Type 0 where
  pub before : Below rows i p
  pub after : (r : PartitionRow) → i < length rows → r ≡ get_or rows i r → p ≤ r.id

pub halved-rows : (rows : List PartitionRow) (i p : ℕ) → IsPartitionPoint (λ r. ltb r.id p ≡ true) (λ r. ltb r.id p ≡ false) rows i → HalvedRows rows i p
halved-rows rows i p point = record {
  before = λ k d h. ltb-true _ _ (point.0 k d (omega arith) h);
  after = λ r below is. let last : ltb r.id p ≡ false = rw is (point.1 i r (omega arith) below) in grind (arith, nat_tests);
}

pub rows_are_parted : (rows : List PartitionRow) (p : ℕ) → rise_from 0 rows ≡ true → IsPartitionedBy (λ row. ltb row.id p) rows
rows_are_parted rows p e i j d le below later =
    let rise : (get_or rows i d).id ≤ (get_or rows j d).id = ids_rise 0 rows e i j d le below in
    let less : (get_or rows j d).id < p = ltb-true _ _ later in
    grind (arith, nat_tests)
