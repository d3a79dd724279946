-- A table of tests: the first that fails decides the refusal.
use Rattle.std.specs.Prelude.{◌≡◌, Bool, List, [], ◌∷◌, Option, Some, None, if◌then◌else◌}
use Rattle.base.specs.declared.status.Status.{Status}

pub record Test : Type 0 where
  pub passes : Bool
  pub refusal : Status

infix 3 ◌otherwise◌
abbrev pub ◌otherwise◌ : Bool → Status → Test
passes otherwise refusal = record { passes = passes; refusal = refusal }

abbrev pub first_refusal : List Test → Option Status
first_refusal [] = None
first_refusal (test ∷ tests) = if test.passes then first_refusal tests else Some test.refusal

-- no test fails
abbrev pub NoneRefuses : List Test → Type 0
NoneRefuses tests = first_refusal tests ≡ None

-- the first test that fails refuses with this status
abbrev pub RefusesWith : List Test → Status → Type 0
RefusesWith tests status = first_refusal tests ≡ Some status
