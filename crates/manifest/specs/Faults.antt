-- The faults of a manifest's rows: the first rule that is broken.
use Rattle.std.specs.Prelude.{ℕ, Bool, List, [], ◌∷◌, Option, Some, None, if◌then◌else◌}
use Rattle.base.specs.Manifest.{ManifestRows}
use Rattle.manifest.specs.Valid.{is_within_limits, names_partitions_once, shares_no_page, grants_owners, grants_once, executes_normal_only, fits_quotas}

-- a rule, and the number of the fault where it is broken
pub record Rule : Type 0 where
  pub holds : Bool
  pub fault : ℕ

abbrev pub first_broken : List Rule → Option ℕ
first_broken [] = None
first_broken (rule ∷ rules) = if rule.holds then first_broken rules else Some rule.fault

-- the rules of rows, in the order of their faults
abbrev pub rules_of : ManifestRows → List Rule
rules_of m =
    record { holds = is_within_limits m; fault = 4 }
    ∷ record { holds = names_partitions_once m; fault = 5 }
    ∷ record { holds = shares_no_page m; fault = 6 }
    ∷ record { holds = grants_owners m; fault = 7 }
    ∷ record { holds = grants_once m; fault = 8 }
    ∷ record { holds = executes_normal_only m; fault = 9 }
    ∷ record { holds = fits_quotas m; fault = 10 }
    ∷ []

-- the fault of rows, if they break a rule
abbrev pub fault_of : ManifestRows → Option ℕ
fault_of m = first_broken (rules_of m)
