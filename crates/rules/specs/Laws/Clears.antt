-- What a call that passes its tests clears is reached by no other partition.
use Rattle.std.specs.Prelude.{◌≡◌, ℕ, true, Option, Some, None}
use Rattle.base.specs.Pages.{covers}
use Rattle.base.specs.State.{State, sees}
use Rattle.rules.specs.Rule.{Edit}

-- where pages are cleared, no partition reaches them but the one whose view of them is edited
abbrev pub AreClearedUnreached : State → Option Edit → Type 0
AreClearedUnreached s None = Unit {0}
AreClearedUnreached s (Some edit) =
    edit.clears ≡ true → (q n : ℕ) → covers edit.runs n ≡ true → (q ≡ edit.who → ⊥)
    → sees s q n ≡ None
