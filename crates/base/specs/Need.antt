-- How many table pages the views of a partition need (Arm ARM, VMSAv8-64, 4 KB granule: a level 3 table maps a chunk of 512 pages, a level 2 table a gigabyte).
use Rattle.std.specs.Prelude.{ℕ, ◌+◌, ◌*◌, Bool, true, false, not, ◌&&◌, List, Some, None, is_some, if◌then◌else◌}
use Rattle.base.specs.Counts.{count_below, any_below}
use Rattle.base.specs.Pages.{PageRun, covers}
use Rattle.base.specs.Access.{View, is_same}

abbrev pub is_alike : View → View → Bool
is_alike None None = true
is_alike None (Some b) = false
is_alike (Some a) None = false
is_alike (Some a) (Some b) = is_same a b

-- the views of a chunk's 512 pages are not all equal: it needs a level 3 table
unfoldable pub is_mixed : (ℕ → View) → ℕ → Bool
is_mixed view c = any_below (λ i. not (is_alike (view (512 * c + i)) (view (512 * c)))) 512

-- some page of the gigabyte is reached: it needs a level 2 table
unfoldable pub is_reached : (ℕ → View) → ℕ → Bool
is_reached view g = any_below (λ i. is_some (view (262144 * g + i))) 262144

-- the tables of a partition's views, the root apart
unfoldable pub need : (ℕ → View) → ℕ
need view = count_below (is_reached view) 512 + count_below (is_mixed view) 262144

-- these views where the pages of the runs are reached so
abbrev pub reaching : List PageRun → View → (ℕ → View) → ℕ → View
reaching runs access view n = if covers runs n then access else view n

-- the tables of the new views at places where the old ones need none
unfoldable pub grow : (ℕ → View) → (ℕ → View) → ℕ
grow old new =
    count_below (λ g. is_reached new g && not (is_reached old g)) 512
    + count_below (λ c. is_mixed new c && not (is_mixed old c)) 262144
