-- The words of translation tables (Arm ARM, VMSAv8-64 stage 2 descriptors, 4 KB granule).
use Rattle.std.specs.Prelude.{◌≡◌, ◌≢◌, ℕ, ◌+◌, ◌*◌, ◌/◌, ◌%◌, ◌^◌, ◌<◌, Bool, true, false, ◌==◌, ◌&&◌, IsTrue, if◌then◌else◌, nat_lt}
use Rattle.base.specs.declared.access.Rights.{Rights}
use Rattle.base.specs.declared.access.Rights.TheVariants.{Ro, Rw}
use Rattle.base.specs.declared.access.MemoryKind.{MemoryKind}
use Rattle.base.specs.declared.access.MemoryKind.TheVariants.{Normal, Device}
use Rattle.base.specs.Access.{Access, IsLegal}
use Rattle.words.specs.declared.word.Entry.{Entry}
use Rattle.words.specs.declared.word.Entry.TheVariants.{Invalid, Table, Leaf, Wrong}

-- ---- writing

-- The type, bits 1:0, is 1 in a block descriptor and 3 in a page descriptor.
abbrev pub type_bits : Bool → ℕ
type_bits true = 1
type_bits false = 3

-- MemAttr, bits 5:2, is 15 for normal memory, write-back, and 1 for device memory, nGnRE.
abbrev pub attribute_bits : MemoryKind → ℕ
attribute_bits Normal = 15 * 2 ^ 2
attribute_bits Device = 1 * 2 ^ 2

-- S2AP, bits 7:6, is 1 for read-only and 3 for read and write.
abbrev pub rights_bits : Rights → ℕ
rights_bits Ro = 1 * 2 ^ 6
rights_bits Rw = 3 * 2 ^ 6

-- SH, bits 9:8, is 3, inner shareable, for normal memory and 0 for device memory.
abbrev pub shareability_bits : MemoryKind → ℕ
shareability_bits Normal = 3 * 2 ^ 8
shareability_bits Device = 0

-- AF, bit 10, is 1.
abbrev pub access_flag : ℕ
access_flag = 2 ^ 10

-- XN, bits 54:53, is binary 00 where execution is permitted and binary 10 where it is not.
abbrev pub execute_never_bits : Bool → ℕ
execute_never_bits true = 0
execute_never_bits false = 2 * 2 ^ 53

-- Beside its output address a block or page descriptor has its type, MemAttr, S2AP, SH, AF and XN.
unfoldable pub leaf_fields : Bool → Access → ℕ
leaf_fields block access =
    type_bits block
    + attribute_bits access.kind
    + rights_bits access.rights
    + shareability_bits access.kind
    + access_flag
    + execute_never_bits access.exec

-- A block or page descriptor has its output address and these fields, and all other bits are 0.
unfoldable pub leaf_word_of : Bool → ℕ → Access → ℕ
leaf_word_of block page access = page * 2 ^ 12 + leaf_fields block access

-- A table descriptor has the address of the next-level table and 3 in bits 1:0, and all other bits are 0.
unfoldable pub table_word_of : ℕ → ℕ
table_word_of page = page * 2 ^ 12 + 3

-- A block descriptor stands at level 2, and a page descriptor at level 3.
abbrev pub leaf_level : Bool → ℕ
leaf_level true = 2
leaf_level false = 3

-- ---- reading

-- An address has 39 bits, and bits 38:12 are its page.
unfoldable pub page_at : ℕ → ℕ
page_at word = word / 2 ^ 12 % 2 ^ 27

-- MemAttr is bits 5:2, and 15 there is normal memory.
abbrev pub is_normal_at : ℕ → Bool
is_normal_at word = word / 2 ^ 2 % 2 ^ 4 == 15

-- S2AP is bits 7:6, and 3 there is read and write.
abbrev pub is_writable_at : ℕ → Bool
is_writable_at word = word / 2 ^ 6 % 2 ^ 2 == 3

-- XN is bits 54:53, and 0 there permits execution.
abbrev pub is_executable_at : ℕ → Bool
is_executable_at word = word / 2 ^ 53 % 2 ^ 2 == 0

-- The access of a leaf is told by its S2AP, XN and MemAttr, and device memory is never executable.
unfoldable pub access_at : ℕ → Access
access_at word = record {
  rights = if is_writable_at word then Rw else Ro;
  exec = is_normal_at word && is_executable_at word;
  kind = if is_normal_at word then Normal else Device;
}

-- The output address of a block is aligned to 2 MB, and that of a page to 4 KB.
abbrev pub is_aligned : Bool → ℕ → Bool
is_aligned true page = page % 512 == 0
is_aligned false page = true

-- A word is a block or a page if it is, in all its bits, the descriptor of its output address, aligned, and its access.
unfoldable pub leaf_at : Bool → ℕ → Entry
leaf_at block word =
    if is_aligned block (page_at word)
    && (word == leaf_word_of block (page_at word) (access_at word))
    then Leaf (page_at word) (access_at word)
    else Wrong

-- A descriptor whose bit 0 is 0 is invalid, and another is at levels 1 and 2 a table, at level 2 a block and at level 3 a page, or wrong.
unfoldable pub entry_of : ℕ → ℕ → Entry
entry_of level word =
    if word % 2 == 0 then Invalid
    else (if nat_lt level 3 && (word == table_word_of (page_at word)) then Table (page_at word)
    else (if level == leaf_level true then leaf_at true word
    else (if level == leaf_level false then leaf_at false word
    else Wrong)))

-- ---- reading as the inverse of writing

-- At level 1 or 2 the word is the descriptor of a table, whose address is below 2^39.
pub record IsTableWord (level word page : ℕ) : Type 0 where
  pub at_level : level < 3
  pub in_range : page < 2 ^ 27
  pub spelled : word ≡ table_word_of page

-- At level 2 the word is the descriptor of a block, aligned to 2 MB, or at level 3 of a page, whose address is below 2^39, with a legal access.
pub record IsLeafWord (level word page : ℕ) (access : Access) : Type 0 where
  pub block : Bool
  pub at_level : level ≡ leaf_level block
  pub in_range : page < 2 ^ 27
  pub aligned : IsTrue block → page % 512 ≡ 0
  pub legal : IsLegal access
  pub spelled : word ≡ leaf_word_of block page access

-- At this level the word spells the entry: its bit 0 is 0, or it is the descriptor of a table or of a leaf, or it is none of these.
unfoldable pub SpellsEntry : ℕ → ℕ → Entry → Type 0
SpellsEntry level word Invalid = word % 2 ≡ 0
SpellsEntry level word (Table page) = IsTableWord level word page
SpellsEntry level word (Leaf page access) = IsLeafWord level word page access
SpellsEntry level word Wrong =
    (word % 2 ≢ 0)
    × ((page : ℕ) → ¬ IsTableWord level word page)
    × ((page : ℕ) (access : Access) → ¬ IsLeafWord level word page access)
