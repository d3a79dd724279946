-- The descriptor of a relinquish: its fields at their offsets, and the rules that they keep (FF-A 1.1, "FFA_MEM_RELINQUISH", "Descriptor to relinquish a memory region").
use Rattle.std.specs.Prelude.{◌≡◌, ℕ, Bool, ◌&&◌, ◌==◌, nat_le, List, length, IsTrue}
use Rattle.base.specs.Descriptors.Send.{u16_at, u32_at, u64_at, are_clear_flags, orders_clear}

pub record Relinquish : Type 0 where
  pub handle : ℕ
  pub clears : Bool
  pub endpoint : ℕ

-- The bytes begin with a descriptor of 18 bytes: flags that may order a clear, and one endpoint. What stands behind it is free.
unfoldable pub is_relinquish : List ℕ → Bool
is_relinquish bytes =
    nat_le 18 (length bytes)
    && are_clear_flags (u32_at bytes 8)
    && (u32_at bytes 12 == 1)

-- the values of the fields
unfoldable pub relinquish_of : List ℕ → Relinquish
relinquish_of bytes =
    record {
      handle = u64_at bytes 0;
      clears = orders_clear (u32_at bytes 8);
      endpoint = u16_at bytes 16;
    }

-- the bytes spell the relinquish
abbrev pub SpellsRelinquish : List ℕ → Relinquish → Type 0
SpellsRelinquish bytes v = IsTrue (is_relinquish bytes) × (v ≡ relinquish_of bytes)
