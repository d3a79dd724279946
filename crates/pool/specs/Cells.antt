-- Places in a block of memory, each of them empty or filled.
use Rattle.std.specs.Prelude.{◌≡◌, ℕ, zero, suc, ◌+◌, ◌*◌, ◌<◌, Bool, true, false, get_or, map, is_some, slice_index_or, slice_set, unwrap_or, List, Option, Some, None}

-- the place at the index is filled
abbrev pub IsFilled : {X : Type 0} → List (Option X) → ℕ → Type 0
IsFilled {X} cs i = (x : X) × (get_or cs i None ≡ Some x)

-- the words that places stand for: one that is empty stands for 0
abbrev pub held : List (Option ℕ) → List ℕ
held cs = map (λ c. unwrap_or c 0) cs

-- all 512 places of a page are filled
abbrev pub IsPageFilled : List (Option ℕ) → ℕ → Type 0
IsPageFilled cs page = (i : ℕ) → i < 512 → is_some (get_or cs (512 * page + i) None) ≡ true

-- none of them is
abbrev pub IsPageEmpty : List (Option ℕ) → ℕ → Type 0
IsPageEmpty cs page = (i : ℕ) → i < 512 → get_or cs (512 * page + i) None ≡ None

-- the first places of a page, so many of them, are filled with 0
unfoldable pub with_zeros : List (Option ℕ) → ℕ → ℕ → List (Option ℕ)
with_zeros cs page zero = cs
with_zeros cs page (suc n) = slice_set (with_zeros cs page n) (512 * page + n) (Some 0)

-- each page that is marked is filled, and each other one is empty
pub record AreMarked (marks : List Bool) (cs : List (Option ℕ)) : Type 0 where
  pub filled : (page : ℕ) → slice_index_or marks page false ≡ true → IsPageFilled cs page
  pub empty : (page : ℕ) → slice_index_or marks page false ≡ false → IsPageEmpty cs page
