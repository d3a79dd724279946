-- Tables that are filled upward: the pages that a partition reaches alike are mapped run by run.
use Rattle.std.specs.Prelude.{◌≡◌, ◌≢◌, ℕ, ◌-◌, ◌^◌, ◌<◌, ◌≤◌, ◌⊎◌, List, [], ◌∷◌, Some, None, if◌then◌else◌, nat_lt}
use Rattle.base.specs.Access.{Access, View}
use Rattle.base.specs.Manifest.{row_of}
use Rattle.base.specs.Pages.{PageRun}
use Rattle.stage2.specs.Slot.{Layout}
use Rattle.stage2.specs.Tables.{TablesView, walk_in, AreCanonical, AreTurnedFor, Fits}
use Rattle.stage2.specs.Walk.{walked}
use Rattle.stage2.specs.declared.walked.Walked.TheVariants.{None as Unmapped}

-- a view has an edge before this page
abbrev pub IsEdge : (ℕ → View) → ℕ → Type 0
IsEdge view b = (b ≡ 0) ⊎ (view (b - 1) ≢ view b)

-- this part of a view, and nothing from a page on
abbrev pub view_below : (ℕ → View) → ℕ → ℕ → View
view_below view b n = if nat_lt n b then view n else None

-- a view, up to the last page
abbrev pub in_range : (ℕ → View) → ℕ → View
in_range view = view_below view (2 ^ 27)

-- the pages from one up to another, where they are reached
abbrev pub pending_runs : ℕ → ℕ → View → List PageRun
pending_runs first end None = []
pending_runs first end (Some a) = record { first = first; count = end - first } ∷ []

-- these pages can be mapped so
pub record CanMap (p first end : ℕ) (access : Access) (t : TablesView) : Type 0 where
  pub some : first < end
  pub inside : end ≤ 2 ^ 27
  pub turned : AreTurnedFor p (pending_runs first end (Some access)) (Some access) t
  pub fits : Fits p (pending_runs first end (Some access)) (Some access) t

-- The pages below the pending ones are mapped as the view has them; the pending ones, up to `number`, are all reached alike.
pub record IsFilling (layout : Layout) (view : ℕ → View) (p first number : ℕ) (access : View) (t : TablesView) : Type 0 where
  pub placed : t.layout ≡ layout
  pub canonical : AreCanonical t
  pub walks : (n : ℕ) → n < 2 ^ 27 → walk_in t p n ≡ walked n (view_below view first n)
  pub ordered : first ≤ number
  pub inside : number ≤ 2 ^ 27
  pub some : first ≡ number → (number ≡ 0) × (access ≡ None)
  pub alike : (n : ℕ) → first ≤ n → n < number → view n ≡ access
  pub edge : IsEdge view first

-- the walks of all other partitions stay
pub record KeepsOthers (p : ℕ) (old new : TablesView) : Type 0 where
  pub walks : (q n : ℕ) → n < 2 ^ 27 → q ≢ p → walk_in new q n ≡ walk_in old q n

-- a partition's pages are walked as this view has them
pub record IsFilled (view : ℕ → View) (p : ℕ) (t : TablesView) : Type 0 where
  pub walks : (n : ℕ) → n < 2 ^ 27 → walk_in t p n ≡ walked n (view n)

-- of the partitions before a row the views are mapped, of all others nothing
pub record AreFilled (layout : Layout) (view : ℕ → ℕ → View) (count : ℕ) (t : TablesView) : Type 0 where
  pub placed : t.layout ≡ layout
  pub canonical : AreCanonical t
  pub walks : (p n : ℕ) → n < 2 ^ 27 → walk_in t p n
      ≡ (if nat_lt (row_of layout.ids p) count then walked n (view p n) else Unmapped)
