-- What scripts write: the texts of their lines in order, from the state of a manifest on.
use Rattle.std.specs.Prelude.{◌≡◌, ℕ, ◌+◌, ◌==◌, List, [], ◌∷◌, ◌++◌, length, is_none, codes, Option, Some, None, if◌then◌else◌}
use Rattle.std.specs.List.{slice_split}
use Rattle.std.specs.Option.{option_map_or}
use Rattle.base.specs.declared.transaction.Kind.{Kind}
use Rattle.base.specs.declared.transaction.Kind.TheVariants.{Donate, Lend, Share}
use Rattle.base.specs.Descriptors.Encoding.{SendFields, RetrieveFields, RelinquishFields, send_text, retrieve_text, relinquish_text}
use Rattle.base.specs.Handles.{low_half, high_half}
use Rattle.base.specs.Manifest.{ManifestRows}
use Rattle.base.specs.State.{State, start, sees, version_of}
use Rattle.pool.specs.declared.operation.Op.{Op}
use Rattle.rules.specs.Call.{CallWords}
use Rattle.rules.specs.Run.{answer, step}
use Rattle.audit.specs.Texts.{maps_text, owners_text, tables_text}
use Rattle.script.specs.Texts.{reply_text, operations_text}
use Rattle.lines.specs.declared.send.ReclaimLine.{ReclaimLine}
use Rattle.lines.specs.Said.{Said, SaidSend, Tx, Call, Send, Retrieve, Relinquish, Reclaim, Maps, Tables, Owners, Operations, Audit}
use Rattle.lines.specs.Grammar.{line_of}

-- ---- the secure world that a script runs in

-- a state, and the bytes that each partition's TX buffer holds at its calls
pub record World : Type 0 where
  pub state : State
  pub kept : ℕ → List ℕ

abbrev pub world_of : ManifestRows → World
world_of m = record { state = start m; kept = λ p. [] }

abbrev pub with_kept : ℕ → List ℕ → (ℕ → List ℕ) → ℕ → List ℕ
with_kept p bytes kept q = if q == p then bytes else kept q

-- the identifier of the 32-bit call
abbrev pub identifier_of : Kind → ℕ
identifier_of Donate = 0x84000071
identifier_of Lend = 0x84000072
identifier_of Share = 0x84000073

-- the memory region attributes: none for a donate, and for a lend to one receiver
abbrev pub attributes_of : Kind → ℕ → ℕ
attributes_of Donate receivers = 0
attributes_of Lend receivers = if receivers == 1 then 0 else 0x2f
attributes_of Share receivers = 0x2f

abbrev pub fields_of : Kind → SaidSend → SendFields
fields_of kind send = record {
  header = record {
    sender = send.sender;
    attributes = attributes_of kind (length send.receivers);
    flags = if send.clears then 1 else 0;
    handle = 0;
    tag = send.tag;
  };
  receivers = send.receivers;
  total = send.total;
  ranges = send.ranges;
}

-- the bytes that are kept for a partition as those of its last call
abbrev pub kept_by : (ℕ → Option CallWords) → ℕ → List ℕ
kept_by last p = option_map_or (λ c. c.tx) (last p) []

-- the world of a state, where these are the last calls
abbrev pub world_at : State → (ℕ → Option CallWords) → World
world_at s last = record { state = s; kept = kept_by last }

abbrev pub registers : ℕ → ℕ → ℕ → ℕ → List ℕ
registers w0 w1 w2 w3 = w0 ∷ w1 ∷ w2 ∷ w3 ∷ 0 ∷ 0 ∷ 0 ∷ 0 ∷ []

-- a call with the bytes that are kept for its caller
abbrev pub call_by : (ℕ → List ℕ) → ℕ → List ℕ → CallWords
call_by kept p registers = record { caller = p; regs = registers; tx = kept p }

-- a call whose whole descriptor is in TX
abbrev pub handed_over : ℕ → ℕ → List ℕ → CallWords
handed_over p identifier tx =
    record { caller = p; regs = registers identifier (length tx) (length tx) 0; tx = tx }

abbrev pub send_call : State → Kind → SaidSend → CallWords
send_call s kind send =
    handed_over send.sender (identifier_of kind)
    (send_text (version_of s.partitions send.sender) (fields_of kind send))

abbrev pub retrieve_call : State → RetrieveFields → CallWords
retrieve_call s f =
    handed_over f.endpoint.partition 0x84000074
    (retrieve_text (version_of s.partitions f.endpoint.partition) f)

abbrev pub relinquish_call : RelinquishFields → CallWords
relinquish_call f =
    record { caller = f.endpoint; regs = registers 0x84000076 0 0 0; tx = relinquish_text f }

abbrev pub reclaim_registers : ReclaimLine → List ℕ
reclaim_registers r =
    registers 0x84000077 (low_half r.handle) (high_half r.handle) (if r.clears then 1 else 0)

-- the call that a line makes, if it makes one
abbrev pub call_of : World → Said → Option CallWords
call_of s (Call p registers) = Some (call_by s.kept p registers)
call_of s (Send kind send) = Some (send_call s.state kind send)
call_of s (Retrieve f) = Some (retrieve_call s.state f)
call_of s (Relinquish f) = Some (relinquish_call f)
call_of s (Reclaim r) = Some (call_by s.kept r.caller (reclaim_registers r))
call_of s line = None

-- the bytes that are kept after a line
abbrev pub kept_after : World → Said → ℕ → List ℕ
kept_after s (Tx p bytes) = with_kept p bytes s.kept
kept_after s line = s.kept

-- the world after a line
unfoldable pub after : World → Said → World
after s line = record {
  state = option_map_or (step s.state) (call_of s line) s.state;
  kept = kept_after s line;
}

-- The text that a line writes. What `ops` writes stands for the text of some operations.
unfoldable pub IsTextOf : World → Said → List ℕ → Type 0
IsTextOf s (Maps p) text = text ≡ maps_text p (sees s.state p)
IsTextOf s (Tables p) text = text ≡ tables_text p (sees s.state p)
IsTextOf s Owners text = text ≡ owners_text s.state.manifest s.state.donations
IsTextOf s Operations text = (operations : List Op) × (text ≡ operations_text operations)
IsTextOf s Audit text = text ≡ codes "equal\n"
IsTextOf s line text = text ≡ option_map_or (λ c. reply_text (answer s.state c)) (call_of s line) []

-- a line's text was appended
abbrev pub AppendsText : World → Said → List ℕ → List ℕ → Type 0
AppendsText s line old new = (mine : List ℕ) × (new ≡ old ++ mine) × IsTextOf s line mine

-- bytes are a line, which leads from one world to another and whose text was appended
abbrev pub RunsLine : World → World → List ℕ → List ℕ → List ℕ → Type 0
RunsLine s next bytes old new =
    (line : Said) × (line_of bytes ≡ Some line) × (next ≡ after s line) × AppendsText s line old new

-- ---- scripts

-- the lines of a script, which line feeds part: behind the last one, where nothing stands, is an empty line, which writes nothing
abbrev pub lines_in : List ℕ → List (List ℕ)
lines_in script = slice_split (λ b. b == 10) script

-- the number of the first line that is none, where the first of these has this number
abbrev pub first_bad : ℕ → List (List ℕ) → Option ℕ
first_bad number [] = None
first_bad number (line ∷ lines) =
    if is_none (line_of line) then Some number else first_bad (number + 1) lines

-- a line's text, and then the text of those behind it; nothing where it is none
abbrev pub WritesLine : Option Said → World → (World → List ℕ → Type 0) → List ℕ → Type 0
WritesLine None s Behind text = text ≡ []
WritesLine (Some line) s Behind text =
    (mine : List ℕ) × (more : List ℕ) × IsTextOf s line mine × Behind (after s line) more
    × (text ≡ mine ++ more)

-- the texts of lines in order, up to the first that is none
abbrev pub Writes : List (List ℕ) → World → List ℕ → Type 0
Writes [] s text = text ≡ []
Writes (line ∷ lines) s text = WritesLine (line_of line) s (Writes lines) text
