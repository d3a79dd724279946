-- The rows of an array, item by item.
use Rattle.std.proofs.Common.{◌≡◌, ℕ, ◌+◌, ◌<◌, ◌≤◌, List, [], ◌∷◌, ◌++◌, length, get_or, drop, Option, Some, None, option_map, refl, ap, sym, ◌∙◌, arith, append_assoc}
use Rattle.std.proofs.lemmas.List.{drop_all}
use Rattle.toml.specs.declared.value.Value.{Value}
use Rattle.toml.specs.Data.{Data, no_items, item}
use Rattle.toml.specs.View.{view, items_view, members_view}
use Rattle.toml.proofs.Views.{items_view-drop, Entry}
use Rattle.manifest.specs.Document.{rows_in, members_count}

-- the rows of the items before one were read
pub record RowsUpTo {A : Type 0} (row_of : Data → Option A) (vs : List Value) (i : ℕ) (rows : List A) : Type 0 where
  pub is : rows_in row_of (items_view vs) ≡ option_map (λ rest. rows ++ rest) (rows_in row_of (items_view (drop i vs)))

option_map-same : {A : Type 0} (o : Option (List A)) → o ≡ option_map (λ rest. [] ++ rest) o
option_map-same None = refl
option_map-same (Some rows) = refl

pub rows_up_to-start : {A : Type 0} (row_of : Data → Option A) (vs : List Value) → RowsUpTo row_of vs 0 []
rows_up_to-start row_of vs = record { is = option_map-same (rows_in row_of (items_view vs)) }

more : {A : Type 0} (rows : List A) (row : A) (o : Option (List A)) → option_map (λ rest. rows ++ rest) (option_map (λ rest. row ∷ rest) o) ≡ option_map (λ rest. (rows ++ row ∷ []) ++ rest) o
more rows row None = refl
more rows row (Some rest) = ap Some (sym (append_assoc rows (row ∷ []) rest))

pub rows_up_to-next : {A : Type 0} (row_of : Data → Option A) (vs : List Value) (i : ℕ) (rows : List A) (v : Value) (row : A) → i < length vs → v ≡ get_or vs i v → row_of (view v) ≡ Some row → RowsUpTo row_of vs i rows → RowsUpTo row_of vs (i + 1) (rows ++ row ∷ [])
rows_up_to-next row_of vs i rows v row below is here before =
    let whole : items_view (drop i vs) ≡ item (view v) (items_view (drop (i + 1) vs)) = items_view-drop vs i v below ∙ ap (λ x. item (view x) (items_view (drop (i + 1) vs))) (sym is) in
    let step : rows_in row_of (items_view (drop i vs)) ≡ option_map (λ rest. row ∷ rest) (rows_in row_of (items_view (drop (i + 1) vs))) = rw (whole, here) refl in
    record { is = before.is ∙ ap (option_map (λ rest. rows ++ rest)) step ∙ more rows row (rows_in row_of (items_view (drop (i + 1) vs))) }

pub rows_up_to-none : {A : Type 0} (row_of : Data → Option A) (vs : List Value) (i : ℕ) (rows : List A) (v : Value) → i < length vs → v ≡ get_or vs i v → row_of (view v) ≡ None → RowsUpTo row_of vs i rows → rows_in row_of (items_view vs) ≡ None
rows_up_to-none row_of vs i rows v below is here before =
    let whole : items_view (drop i vs) ≡ item (view v) (items_view (drop (i + 1) vs)) = items_view-drop vs i v below ∙ ap (λ x. item (view x) (items_view (drop (i + 1) vs))) (sym is) in
    let step : rows_in row_of (items_view (drop i vs)) ≡ None = rw (whole, here) refl in
    before.is ∙ ap (option_map (λ rest. rows ++ rest)) step

all-rows : {A : Type 0} (rows : List A) → rows ++ [] ≡ rows
all-rows [] = refl
all-rows (row ∷ rows) = ap (λ rest. row ∷ rest) (all-rows rows)

pub rows_up_to-end : {A : Type 0} (row_of : Data → Option A) (vs : List Value) (i : ℕ) (rows : List A) → length vs ≤ i → RowsUpTo row_of vs i rows → rows_in row_of (items_view vs) ≡ Some rows
rows_up_to-end row_of vs i rows past before =
    let none : items_view (drop i vs) ≡ no_items = ap items_view (drop_all i vs past) in
    let step : rows_in row_of (items_view (drop i vs)) ≡ Some [] = rw none refl in
    before.is ∙ ap (option_map (λ rest. rows ++ rest)) step ∙ ap Some (all-rows rows)

pub members_count-view : (es : List Entry) → members_count (members_view es) ≡ length es
members_count-view [] = refl
members_count-view (e ∷ es) = let rest = members_count-view es in omega (arith, rest)
