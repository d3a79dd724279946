-- The texts of lines, one line after another.
use Rattle.std.proofs.Common.{◌≡◌, ◌⊎◌, inl, inr, ℕ, ◌+◌, List, [], ◌∷◌, ◌++◌, Option, Some, None, Result, Err, refl, sym, ap, ◌∙◌, subst, append_assoc, append-nil}
use Rattle.std.specs.Io.KnownBytes.{Appends}
use Rattle.std.proofs.KnownBytes.{Appends-trans}
use Rattle.script.specs.Output.{AppendsBeginning, IsPartWritten}
use Rattle.script.specs.declared.fault.RunFault.{RunFault}
use Rattle.script.specs.declared.fault.RunFault.TheVariants.{Line, Memory, Write}
use Rattle.script.specs.Left.{Waits, WaitsWith, WaitsWithBeginning, WroteBeginning}
use Rattle.lines.specs.Said.{Said, Nothing, Tx, Call, Send, Retrieve, Relinquish, Reclaim, Maps, Tables, Owners, Operations, Audit}
use Rattle.lines.specs.Grammar.{line_of}
use Rattle.script.specs.Script.{World, IsTextOf, RunsLine, Writes, WritesLine, after, first_bad}

-- a line that is none ends the text
pub bad : (line : List ℕ) (lines : List (List ℕ)) (s : World) → line_of line ≡ None → Writes (line ∷ lines) s []
bad line lines s e = subst (λ (o : Option Said). WritesLine o s (Writes lines) []) (sym e) refl

-- a line's text stands before that of the lines behind it
pub step : (line : List ℕ) (lines : List (List ℕ)) (s : World) (said : Said) (mine more : List ℕ) → line_of line ≡ Some said → IsTextOf s said mine → Writes lines (after s said) more → Writes (line ∷ lines) s (mine ++ more)
step line lines s said mine more e text behind = subst (λ (o : Option Said). WritesLine o s (Writes lines) (mine ++ more)) (sym e) (mine, more, text, behind, refl)

-- each line has a text
pub some_mine : (s : World) (said : Said) → (mine : List ℕ) × IsTextOf s said mine
unfolding IsTextOf
some_mine s Nothing = (_, refl)
some_mine s (Tx p bytes) = (_, refl)
some_mine s (Call p registers) = (_, refl)
some_mine s (Send kind send) = (_, refl)
some_mine s (Retrieve f) = (_, refl)
some_mine s (Relinquish f) = (_, refl)
some_mine s (Reclaim r) = (_, refl)
some_mine s (Maps p) = (_, refl)
some_mine s (Tables p) = (_, refl)
some_mine s Owners = (_, refl)
some_mine s Operations = (_, ([], refl))
some_mine s Audit = (_, refl)

some_behind : (o : Option Said) (s : World) (lines : List (List ℕ)) → ((t : World) → (text : List ℕ) × Writes lines t text) → (text : List ℕ) × WritesLine o s (Writes lines) text
some_behind None s lines behind = ([], refl)
some_behind (Some said) s lines behind =
    let mine = some_mine s said in
    let more = behind (after s said) in
    (mine.0 ++ more.0, (mine.0, more.0, mine.1, more.1, refl))

-- and so have lines in order
pub some_text : (lines : List (List ℕ)) (s : World) → (text : List ℕ) × Writes lines s text
some_text [] s = ([], refl)
some_text (line ∷ lines) s = some_behind (line_of line) s lines (λ t. some_text lines t)

-- ---- lines under way

-- what was written, and what waits, stand before each text of the lines that are left
abbrev pub IsUnderWay : Option (List ℕ) → Option (List ℕ) → List ℕ → World → List (List ℕ) → World → List (List ℕ) → Type 0
IsUnderWay old new waiting start all s left =
    (written : List ℕ) × Appends old new written × ((more : List ℕ) → Writes left s more → Writes all start (written ++ (waiting ++ more)))

-- a line's text was appended to what waits
pub line_done : (old new : Option (List ℕ)) (waiting next : List ℕ) (start s t : World) (all lines : List (List ℕ)) (line : List ℕ) → IsUnderWay old new waiting start all s (line ∷ lines) → RunsLine s t line waiting next → IsUnderWay old new next start all t lines
line_done old new waiting next start s t all lines line (written, appended, before) (said, e, moved, (mine, grown, text)) = (
  written,
  appended,
  λ more h.
      subst (λ (u : List ℕ). Writes all start (written ++ u)) (sym (append_assoc waiting mine more) ∙ ap (λ (u : List ℕ). u ++ more) (sym grown))
      (before (mine ++ more) (step line lines s said mine more e text (rw (sym moved) h))),
)

-- a front of what waits was written
pub part_written : (old mid new : Option (List ℕ)) (waiting next : List ℕ) (start s : World) (all lines : List (List ℕ)) → IsUnderWay old mid waiting start all s lines → IsPartWritten mid new waiting next → IsUnderWay old new next start all s lines
part_written old mid new waiting next start s all lines (written, appended, before) (front, parted, more_appended) = (
  written ++ front,
  Appends-trans old mid new written front appended more_appended,
  λ more h.
      subst (Writes all start) (ap (λ (u : List ℕ). written ++ (u ++ more)) parted ∙ ap (λ (u : List ℕ). written ++ u) (append_assoc front next more) ∙ sym (append_assoc written front (next ++ more)))
      (before more h),
)

-- where no more text comes
pub at_end : (old new : Option (List ℕ)) (waiting : List ℕ) (start s : World) (all lines : List (List ℕ)) → IsUnderWay old new waiting start all s lines → Writes lines s [] → WaitsWith old new waiting start all
at_end old new waiting start s all lines (written, appended, before) none =
    (written, subst (λ (u : List ℕ). Writes all start (written ++ u)) (append-nil waiting) (before [] none), appended)

pub at_last : (old new : Option (List ℕ)) (waiting : List ℕ) (start s : World) (all : List (List ℕ)) → IsUnderWay old new waiting start all s [] → WaitsWith old new waiting start all
at_last old new waiting start s all under = at_end old new waiting start s all [] under refl

-- and where more may come
pub stopped : (old new : Option (List ℕ)) (waiting : List ℕ) (start s : World) (all lines : List (List ℕ)) → IsUnderWay old new waiting start all s lines → WaitsWithBeginning old new waiting start all
stopped old new waiting start s all lines (written, appended, before) =
    let more = some_text lines s in
    (written, more.0, before more.0 more.1, appended)

-- what waits was written in part
pub broken_off : (old mid new : Option (List ℕ)) (waiting : List ℕ) (start s : World) (all lines : List (List ℕ)) → IsUnderWay old mid waiting start all s lines → AppendsBeginning mid new waiting → WroteBeginning old new start all
broken_off old mid new waiting start s all lines (written, appended, before) (front, rest, parted, more_appended) =
    let more = some_text lines s in (
      written ++ (waiting ++ more.0),
      before more.0 more.1,
      (
        written ++ front,
        rest ++ more.0,
        ap (λ (u : List ℕ). written ++ (u ++ more.0)) parted ∙ ap (λ (u : List ℕ). written ++ u) (append_assoc front rest more.0) ∙ sym (append_assoc written front (rest ++ more.0)),
        Appends-trans old mid new written front appended more_appended,
      ),
    )

-- ---- bad lines

-- a line that is one is passed over
pub passed : (number : ℕ) (line : List ℕ) (lines : List (List ℕ)) (said : Said) → line_of line ≡ Some said → first_bad number (line ∷ lines) ≡ first_bad (number + 1) lines
passed number line lines said e = rw e refl

pub found : (number : ℕ) (line : List ℕ) (lines : List (List ℕ)) → line_of line ≡ None → first_bad number (line ∷ lines) ≡ Some number
found number line lines e = rw e refl

pub passed_line : (number : ℕ) (s t : World) (line old new : List ℕ) (lines : List (List ℕ)) → RunsLine s t line old new → first_bad number (line ∷ lines) ≡ first_bad (number + 1) lines
passed_line number s t line old new lines (said, e, moved, text) = passed number line lines said e

-- ---- outcomes

pub ends_with_write : (old new : Option (List ℕ)) (waiting : List ℕ) (s : World) (lines : List (List ℕ)) (result : Result (Unit {0}) RunFault) → result ≡ Err Write → WroteBeginning old new s lines → Waits old new waiting s lines result
ends_with_write old new waiting s lines result e began = subst (Waits old new waiting s lines) (sym e) began

-- a line could not be run: memory was wanting, or it is none
pub ends_at_line : (old new : Option (List ℕ)) (waiting next : List ℕ) (start s : World) (all lines : List (List ℕ)) (line : List ℕ) (number : ℕ) (fault : RunFault) (result : Result (Unit {0}) RunFault) → result ≡ Err fault → next ≡ waiting → (fault ≡ Memory) ⊎ ((fault ≡ Line number) × (line_of line ≡ None)) → first_bad 1 all ≡ first_bad number (line ∷ lines) → IsUnderWay old new waiting start all s (line ∷ lines) → Waits old new next start all result
ends_at_line old new waiting next start s all lines line number fault result e same cause numbered under = elim cause [
  | inl memory ↦ rw (e, memory, same) (stopped old new waiting start s all (line ∷ lines) under)
  | inr none ↦ rw (e, none.0, same) (numbered ∙ found number line lines none.1, at_end old new waiting start s all (line ∷ lines) under (bad line lines s none.1))
]
