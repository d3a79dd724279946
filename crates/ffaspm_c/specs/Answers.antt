-- What the exports answer.
use Rattle.std.specs.Prelude.{◌≡◌, ℕ, ◌+◌, ◌*◌, ◌/◌, List, [], ◌++◌, drop, length, IsSome, Option, Some, None, if◌then◌else◌, ◌⊎◌}
use Rattle.base.specs.declared.partition.Version.{Version}
use Rattle.base.specs.declared.partition.Version.TheVariants.{V10, V11}
use Rattle.base.specs.Access.{Access, View, is_rw, is_normal}
use Rattle.base.specs.Buffers.{Pair}
use Rattle.base.specs.Manifest.{ManifestRows}
use Rattle.base.specs.State.{start}
use Rattle.manifest.specs.declared.fault.ManifestFault.{ManifestFault}
use Rattle.manifest.specs.Document.{IsManifestOf, IsFirstFault}
use Rattle.manifest.specs.Numbers.{number_of}
use Rattle.wire.specs.Replies.{ReplyWords}
use Rattle.rules.specs.Call.{CallWords}
use Rattle.rules.specs.Run.{IsReached, refusal, step, clears}
use Rattle.spm.specs.Machine.{Machine, WalksAgree, ShowsCall, HasCleared, unchanged}

-- ---- statuses of the exports; 1 to 11 are faults of a manifest, of which 11 is want of memory

abbrev pub done : ℕ
done = 0

abbrev pub no_memory : ℕ
no_memory = 11

abbrev pub not_made : ℕ
not_made = 12

abbrev pub made_already : ℕ
made_already = 13

abbrev pub rx_short : ℕ
rx_short = 14

abbrev pub nothing_there : ℕ
nothing_there = 15

-- ---- make

-- the manager of a manifest that the bytes hold, before any call
pub record IsBooted (bytes : List ℕ) (m : Machine) : Type 0 where
  pub rows : ManifestRows
  pub manifest : IsManifestOf bytes rows
  pub state : m.state ≡ start rows
  pub operations : m.pool.operations ≡ []
  pub agrees : WalksAgree m.state m.pool
  pub reached : IsReached m.state

-- the bytes hold a manifest
pub record IsDocument (bytes : List ℕ) : Type 0 where
  pub rows : ManifestRows
  pub manifest : IsManifestOf bytes rows

-- the number is that of the first fault of the bytes, or of want of memory
pub record IsFaultNumber (bytes : List ℕ) (number : ℕ) : Type 0 where
  pub fault : ManifestFault
  pub first : IsFirstFault bytes fault
  pub numbered : number ≡ number_of fault

-- made, or there is a manager already, or a fault
abbrev pub IsMakeAnswer : List ℕ → ℕ → Type 0
IsMakeAnswer bytes number = (number ≡ done) ⊎ ((number ≡ made_already) ⊎ IsFaultNumber bytes number)

-- ---- calls

-- the call of these registers, with this copy of TX
abbrev pub call_from : ℕ → List ℕ → List ℕ → CallWords
call_from caller regs tx = record { caller = caller; regs = regs; tx = tx }

-- the two are there, and are related so
abbrev pub AreBoth : (Machine → Machine → Type 0) → Option Machine → Option Machine → Type 0
AreBoth R None new = ⊥
AreBoth R (Some old) None = ⊥
AreBoth R (Some old) (Some new) = R old new

-- the state is that after the call, the tables agree with it, and walkers saw no more than its edit
pub record IsAnswered (c : CallWords) (old new : Machine) : Type 0 where
  pub state : new.state ≡ step old.state c
  pub refused : IsSome (refusal old.state c) → new ≡ unchanged old
  pub agrees : WalksAgree new.state new.pool
  pub moments : ShowsCall old new
  pub clears : HasCleared (clears old.state c) new
  pub reached : IsReached new.state

-- the state and all words are the same, and the list of operations is empty
abbrev pub IsLeft : Machine → Machine → Type 0
IsLeft old new = new ≡ unchanged old

-- the bytes, or none
abbrev pub bytes_of : Option (List ℕ) → List ℕ
bytes_of None = []
bytes_of (Some bytes) = bytes

-- the bytes that RX is filled with
abbrev pub rx_bytes : ReplyWords → List ℕ
rx_bytes reply = bytes_of reply.rx

-- these bytes stand in front, and behind them the room is as it was
abbrev pub in_front : List ℕ → List ℕ → List ℕ
in_front bytes room = bytes ++ drop (length bytes) room

-- what the export gives is the reply
pub record IsReply (reply : ReplyWords) (out : List ℕ) (length_out : ℕ) (old new : List ℕ) : Type 0 where
  pub regs : out ≡ reply.regs
  pub count : length_out ≡ length (rx_bytes reply)
  pub bytes : new ≡ in_front (rx_bytes reply) old

abbrev pub IsHandleStatus : ℕ → Type 0
IsHandleStatus status =
    (status ≡ done)
    ⊎ ((status ≡ no_memory) ⊎ ((status ≡ rx_short) ⊎ (status ≡ not_made)))

-- ---- what is looked up

-- the page that holds an address
abbrev pub page_at : ℕ → ℕ
page_at address = address / 4096

-- read 1, write 2, execute 4, device 8
abbrev pub access_bits : Access → ℕ
access_bits a =
    1 + (if is_rw a.rights then 2 else 0) + (if a.exec then 4 else 0)
    + (if is_normal a.kind then 0 else 8)

-- 0 where the page is not reached
abbrev pub bits_of : View → ℕ
bits_of None = 0
bits_of (Some access) = access_bits access

-- the major version in bits 30:16, the minor one in bits 15:0
abbrev pub version_word : Version → ℕ
version_word V10 = 0x10000
version_word V11 = 0x10001

-- the addresses and the pages of a pair's two buffers
pub record IsPairOut (pair : Pair) (tx tx_pages rx rx_pages : ℕ) : Type 0 where
  pub tx_address : tx ≡ 4096 * pair.tx.first
  pub tx_count : tx_pages ≡ pair.tx.count
  pub rx_address : rx ≡ 4096 * pair.rx.first
  pub rx_count : rx_pages ≡ pair.rx.count

-- done, nothing there, or not made
abbrev pub IsLookStatus : ℕ → Type 0
IsLookStatus status =
    (status ≡ done) ⊎ ((status ≡ nothing_there) ⊎ (status ≡ not_made))
