-- An edit of one partition's pages: those of runs are reached with an access, or, for None, not at all.
use Rattle.std.specs.Prelude.{◌≡◌, ℕ, ◌+◌, ◌/◌, ◌^◌, ◌<◌, Bool, true, ◌&&◌, ◌||◌, not, ◌==◌, nat_le, nat_lt, ◌⊎◌, None, is_some, List, if◌then◌else◌}
use Rattle.std.specs.List.{list_any}
use Rattle.base.specs.Access.{View}
use Rattle.base.specs.Need.{is_mixed}
use Rattle.base.specs.Pages.{PageRun, covers}

-- the answers after an edit: the pages of the runs are reached so, all others as before
abbrev pub edited : List PageRun → View → (ℕ → View) → ℕ → View
edited runs access before n = if covers runs n then access else before n

-- the run has a page in the chunk
abbrev pub touches_run : ℕ → PageRun → Bool
touches_run c run =
    nat_lt 0 run.count
    && (nat_le (run.first / 512) c && nat_lt c ((run.first + run.count + 511) / 512))

-- one of the runs has
abbrev pub touches_chunk : ℕ → List PageRun → Bool
touches_chunk c runs = list_any (touches_run c) runs

-- of these pages, those of a map are not mapped before
abbrev pub AreFree : (ℕ → Bool) → List PageRun → View → (ℕ → View) → Type 0
AreFree which runs access view =
    (n : ℕ) → n < 2 ^ 27 → which n ≡ true → covers runs n ≡ true → (access ≡ None) ⊎ (view n ≡ None)

-- each page of the runs among these is turned: it is to be reached exactly where it is not
abbrev pub Turns : (ℕ → Bool) → List PageRun → View → (ℕ → View) → Type 0
Turns which runs access view =
    (n : ℕ) → which n ≡ true → covers runs n ≡ true → is_some (view n) ≡ not (is_some access)

-- the pages of the runs, and all pages of a chunk that has no table before the edit or after it
abbrev pub disturbs : List PageRun → (ℕ → View) → (ℕ → View) → ℕ → Bool
disturbs runs old new n = covers runs n || not (is_mixed old (n / 512) && is_mixed new (n / 512))

-- the pages that the edit of the chunks may disturb
abbrev pub disturbed : List PageRun → (ℕ → View) → (ℕ → View) → ℕ → Bool
disturbed runs old new n = touches_chunk (n / 512) runs && disturbs runs old new n

-- what partitions reach, where the pages of the runs are reached so by one of them
abbrev pub with_pages : ℕ → List PageRun → View → (ℕ → ℕ → View) → ℕ → ℕ → View
with_pages p runs access before q n = if (q == p) && covers runs n then access else before q n
