-- The numbers of a manifest's faults.
use Rattle.std.specs.Prelude.{◌≡◌, ℕ, Bool, true, false, Result, MatchResult, Some, None, ◌⊎◌}
use Rattle.base.specs.Manifest.{ManifestRows}
use Rattle.manifest.specs.Faults.{fault_of}
use Rattle.manifest.specs.declared.fault.ManifestFault.{ManifestFault}
use Rattle.manifest.specs.declared.fault.ManifestFault.TheVariants.{NotToml, Key, Value, Limit, Identifier, Overlap, OwnerWithoutGrant, SecondGrant, ExecutableDevice, Quota, OutOfMemory}

abbrev pub number_of : ManifestFault → ℕ
number_of NotToml = 1
number_of (Key place) = 2
number_of (Value place) = 3
number_of (Limit place) = 4
number_of (Identifier place) = 5
number_of (Overlap place) = 6
number_of (OwnerWithoutGrant place) = 7
number_of (SecondGrant place) = 8
number_of (ExecutableDevice place) = 9
number_of (Quota place) = 10
number_of OutOfMemory = 11

-- the rule holds, or the answer is the fault of this number
abbrev pub Tests : {A : Type 0} → Bool → ℕ → Result A ManifestFault → Type 0
Tests holds fault result =
    MatchResult result (λ _. holds ≡ true) (λ f. (holds ≡ false) × (number_of f ≡ fault))

-- the manifest has these rows, which break no rule
abbrev pub IsOfRows : ManifestRows → ManifestRows → Type 0
IsOfRows rows m = (m ≡ rows) × (fault_of rows ≡ None)

-- the fault is the first of the rows, or want of memory
abbrev pub AppliesTo : ManifestRows → ManifestFault → Type 0
AppliesTo m fault = (number_of fault ≡ 11) ⊎ (fault_of m ≡ Some (number_of fault))
