-- What a text on its way leaves with a writer.
use Rattle.std.specs.Prelude.{◌≡◌, ℕ, List, ◌++◌, Option}
use Rattle.std.specs.Io.KnownBytes.{Appends}

-- known bytes grow by a beginning of the text
abbrev pub AppendsBeginning : Option (List ℕ) → Option (List ℕ) → List ℕ → Type 0
AppendsBeginning old new text =
    (front rest : List ℕ) × (text ≡ front ++ rest) × Appends old new front

-- a front of the text was written, and the rest is left
abbrev pub IsPartWritten : Option (List ℕ) → Option (List ℕ) → List ℕ → List ℕ → Type 0
IsPartWritten old new text left = (front : List ℕ) × (text ≡ front ++ left) × Appends old new front
