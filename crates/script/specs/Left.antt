-- What the run of a script leaves: with its writer, and of failures.
use Rattle.std.specs.Prelude.{◌≡◌, ℕ, ◌≤◌, Bool, true, List, ◌++◌, length, Option, Some, None, Result, Ok, Err, IfSome}
use Rattle.std.specs.Io.KnownBytes.{Appends, Keeps}
use Rattle.script.specs.declared.fault.RunFault.{RunFault}
use Rattle.script.specs.declared.fault.RunFault.TheVariants.{Line, TooLong, Memory, Read, Write}
use Rattle.script.specs.Output.{AppendsBeginning}
use Rattle.script.specs.Script.{World, Writes, first_bad, lines_in}

-- ---- lines

-- the whole text of the lines was written
abbrev pub WroteText : Option (List ℕ) → Option (List ℕ) → World → List (List ℕ) → Type 0
WroteText old new s lines = (text : List ℕ) × Writes lines s text × Appends old new text

-- a beginning of it
abbrev pub WroteBeginning : Option (List ℕ) → Option (List ℕ) → World → List (List ℕ) → Type 0
WroteBeginning old new s lines =
    (text : List ℕ) × Writes lines s text × AppendsBeginning old new text

-- what was written, and what waits, are the whole text
abbrev pub WaitsWith : Option (List ℕ) → Option (List ℕ) → List ℕ → World → List (List ℕ) → Type 0
WaitsWith old new waiting s lines =
    (written : List ℕ) × Writes lines s (written ++ waiting) × Appends old new written

-- or a beginning of it
abbrev pub WaitsWithBeginning : Option (List ℕ) → Option (List ℕ) → List ℕ → World → List (List ℕ) → Type 0
WaitsWithBeginning old new waiting s lines =
    (written rest : List ℕ) × Writes lines s (written ++ (waiting ++ rest)) × Appends old new written

-- By how lines ended, before the last of their text is written: all of them, those before the first that is none, or a
-- beginning of their text.
abbrev pub Waits : Option (List ℕ) → Option (List ℕ) → List ℕ → World → List (List ℕ) → Result (Unit {0}) RunFault → Type 0
Waits old new waiting s lines (Ok done) =
    (first_bad 1 lines ≡ None) × WaitsWith old new waiting s lines
Waits old new waiting s lines (Err (Line n)) =
    (first_bad 1 lines ≡ Some n) × WaitsWith old new waiting s lines
Waits old new waiting s lines (Err Memory) = WaitsWithBeginning old new waiting s lines
Waits old new waiting s lines (Err Write) = WroteBeginning old new s lines
Waits old new waiting s lines (Err Read) = ⊥
Waits old new waiting s lines (Err TooLong) = ⊥

-- ---- scripts

-- the most bytes of a script
abbrev pub most_bytes : ℕ
most_bytes = 16777216

-- the bytes of a script are all that the reader had, where those are known
abbrev pub IsScriptOf : Option (List ℕ) → List ℕ → Type 0
IsScriptOf remaining script = IfSome remaining (λ all. script ≡ all)

-- By how it ended: the text of all lines, of those before the first that is none, a beginning of the text, or nothing.
abbrev pub Left : Option (List ℕ) → Option (List ℕ) → World → List ℕ → Result (Unit {0}) RunFault → Type 0
Left old new s script (Ok done) =
    (length script ≤ most_bytes) × (first_bad 1 (lines_in script) ≡ None)
    × WroteText old new s (lines_in script)
Left old new s script (Err (Line n)) =
    (length script ≤ most_bytes) × (first_bad 1 (lines_in script) ≡ Some n)
    × WroteText old new s (lines_in script)
Left old new s script (Err Memory) = WroteBeginning old new s (lines_in script)
Left old new s script (Err Write) = WroteBeginning old new s (lines_in script)
Left old new s script (Err Read) = Keeps old new
Left old new s script (Err TooLong) = Keeps old new

-- ---- failures

-- the writer has failed where the fault says so, and else not since
abbrev pub TellsOfWriter : {T : Type 0} → Bool → Bool → Result T RunFault → Type 0
TellsOfWriter failed failed_then (Err Write) = failed_then ≡ true
TellsOfWriter failed failed_then result = failed_then ≡ failed

-- and so the reader
abbrev pub TellsOfReader : {T : Type 0} → Bool → Bool → Result T RunFault → Type 0
TellsOfReader failed failed_then (Err Read) = failed_then ≡ true
TellsOfReader failed failed_then result = failed_then ≡ failed
