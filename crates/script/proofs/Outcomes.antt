-- What a run leaves, by how its lines ended.
use Rattle.std.proofs.Common.{◌≡◌, ◌≢◌, ℕ, ◌≤◌, Bool, List, [], ◌++◌, Option, Some, None, Result, Ok, Err, length, refl, sym, ap, ◌∙◌, subst, append_assoc, append-nil}
use Rattle.std.specs.Io.KnownBytes.{Appends}
use Rattle.std.proofs.KnownBytes.{Appends-nil, Appends-trans, Keeps-refl}
use Rattle.script.specs.declared.fault.RunFault.{RunFault}
use Rattle.script.specs.declared.fault.RunFault.TheVariants.{Line, TooLong, Memory, Read, Write}
use Rattle.script.specs.Output.{AppendsBeginning}
use Rattle.script.specs.Left.{IsScriptOf, Left, TellsOfReader, Waits, WaitsWith, WaitsWithBeginning, WroteText, WroteBeginning, most_bytes}
use Rattle.script.specs.Script.{World, Writes, lines_in}
use Rattle.script.proofs.Runs.{some_text}

-- a reader has some script
pub some_script : (remaining : Option (List ℕ)) → (script : List ℕ) × IsScriptOf remaining script
some_script None = ([], tt)
some_script (Some bytes) = (bytes, refl)

-- nothing was written
pub nothing_written : (known : Option (List ℕ)) (s : World) (lines : List (List ℕ)) → WroteBeginning known known s lines
nothing_written known s lines =
    let text = some_text lines s in
    (text.0, text.1, ([], text.0, refl, Appends-nil known))

-- a script that was not read leaves nothing
left_unread : (known : Option (List ℕ)) (s : World) (script : List ℕ) (fault : RunFault) → fault ≢ Write → ((n : ℕ) → fault ≢ Line n) → Left known known s script (Err fault)
left_unread known s script (Line n) write line = absurd (line n refl)
left_unread known s script TooLong write line = Keeps-refl known
left_unread known s script Memory write line = nothing_written known s (lines_in script)
left_unread known s script Read write line = Keeps-refl known
left_unread known s script Write write line = absurd (write refl)

pub unread : (known remaining : Option (List ℕ)) (s : World) (fault : RunFault) (result : Result (Unit {0}) RunFault) → result ≡ Err fault → (fault ≢ Write) × ((n : ℕ) → fault ≢ Line n) → (script : List ℕ) × IsScriptOf remaining script × Left known known s script result
unread known remaining s fault result e (write, line) =
    let script = some_script remaining in
    (script.0, script.1, subst (Left known known s script.0) (sym e) (left_unread known s script.0 fault write line))

-- what waits is written whole
wrote_text : (old mid new : Option (List ℕ)) (waiting : List ℕ) (s : World) (lines : List (List ℕ)) → WaitsWith old mid waiting s lines → Appends mid new waiting → WroteText old new s lines
wrote_text old mid new waiting s lines (written, text, appended) more = (written ++ waiting, text, Appends-trans old mid new written waiting appended more)

wrote_more : (old mid new : Option (List ℕ)) (waiting : List ℕ) (s : World) (lines : List (List ℕ)) → WaitsWithBeginning old mid waiting s lines → AppendsBeginning mid new waiting → WroteBeginning old new s lines
wrote_more old mid new waiting s lines (written, rest, text, appended) (front, left, parted, more) = (
  written ++ (waiting ++ rest),
  text,
  (
    written ++ front,
    left ++ rest,
    ap (λ (u : List ℕ). written ++ (u ++ rest)) parted ∙ ap (λ (u : List ℕ). written ++ u) (append_assoc front left rest) ∙ sym (append_assoc written front (left ++ rest)),
    Appends-trans old mid new written front appended more,
  ),
)

-- the text of all lines is a beginning too
begins : (old new : Option (List ℕ)) (waiting : List ℕ) (s : World) (lines : List (List ℕ)) → WaitsWith old new waiting s lines → WaitsWithBeginning old new waiting s lines
begins old new waiting s lines (written, text, appended) =
    (written, [], subst (λ (u : List ℕ). Writes lines s (written ++ u)) (sym (append-nil waiting)) text, appended)

all_of : (known : Option (List ℕ)) (new : Option (List ℕ)) (text : List ℕ) → Appends known new text → AppendsBeginning known new text
all_of known new text more = (text, [], sym (append-nil text), more)

-- and so the last of the text, or a beginning of it
pub finished : (old mid new : Option (List ℕ)) (waiting : List ℕ) (s : World) (script : List ℕ) (outcome : Result (Unit {0}) RunFault) → length script ≤ most_bytes → outcome ≢ Err Write → Waits old mid waiting s (lines_in script) outcome → Appends mid new waiting → Left old new s script outcome
finished old mid new waiting s script (Ok done) short write (none, text) more = (short, none, wrote_text old mid new waiting s (lines_in script) text more)
finished old mid new waiting s script (Err (Line n)) short write (first, text) more = (short, first, wrote_text old mid new waiting s (lines_in script) text more)
finished old mid new waiting s script (Err Memory) short write waits more = wrote_more old mid new waiting s (lines_in script) waits (all_of mid new waiting more)
finished old mid new waiting s script (Err Write) short write waits more = absurd (write refl)
finished old mid new waiting s script (Err Read) short write waits more = absurd waits
finished old mid new waiting s script (Err TooLong) short write waits more = absurd waits

pub unfinished : (old mid new : Option (List ℕ)) (waiting : List ℕ) (s : World) (lines : List (List ℕ)) (outcome : Result (Unit {0}) RunFault) → outcome ≢ Err Write → Waits old mid waiting s lines outcome → AppendsBeginning mid new waiting → WroteBeginning old new s lines
unfinished old mid new waiting s lines (Ok done) write waits more = wrote_more old mid new waiting s lines (begins old mid waiting s lines waits.1) more
unfinished old mid new waiting s lines (Err (Line n)) write waits more = wrote_more old mid new waiting s lines (begins old mid waiting s lines waits.1) more
unfinished old mid new waiting s lines (Err Memory) write waits more = wrote_more old mid new waiting s lines waits more
unfinished old mid new waiting s lines (Err Write) write waits more = absurd (write refl)
unfinished old mid new waiting s lines (Err Read) write waits more = absurd waits
unfinished old mid new waiting s lines (Err TooLong) write waits more = absurd waits

pub ended_in_memory : (known : Option (List ℕ)) (s : World) (script : List ℕ) (result : Result (Unit {0}) RunFault) → result ≡ Err Memory → Left known known s script result
ended_in_memory known s script result e = subst (Left known known s script) (sym e) (nothing_written known s (lines_in script))

pub ended_in_write : (old new : Option (List ℕ)) (s : World) (script : List ℕ) (result : Result (Unit {0}) RunFault) → result ≡ Err Write → WroteBeginning old new s (lines_in script) → Left old new s script result
ended_in_write old new s script result e began = subst (Left old new s script) (sym e) began

-- the lines of a script that was read say nothing of the reader
pub told : (old new : Option (List ℕ)) (waiting : List ℕ) (s : World) (lines : List (List ℕ)) (r : Result (Unit {0}) RunFault) (failed after : Bool) → Waits old new waiting s lines r → after ≡ failed → TellsOfReader failed after r
told old new waiting s lines (Ok done) failed after waits same = same
told old new waiting s lines (Err (Line n)) failed after waits same = same
told old new waiting s lines (Err Memory) failed after waits same = same
told old new waiting s lines (Err Write) failed after waits same = same
told old new waiting s lines (Err Read) failed after waits same = absurd waits
told old new waiting s lines (Err TooLong) failed after waits same = absurd waits
