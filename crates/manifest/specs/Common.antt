-- The rows of the common manifest: three partitions with private memory, a device of the first, and a page of the first that the second may read.
use Rattle.std.specs.Prelude.{ℕ, Bool, true, false, [], ◌∷◌}
use Rattle.base.specs.declared.access.Rights.TheVariants.{Ro, Rw}
use Rattle.base.specs.declared.access.MemoryKind.TheVariants.{Normal, Device}
use Rattle.base.specs.Manifest.{PartitionRow, GrantRow, RegionRow, ManifestRows}

abbrev pub partition_row : ℕ → PartitionRow
partition_row id = record { id = id; quota = 16 }

abbrev pub data_grant : ℕ → GrantRow
data_grant p = record { partition = p; rights = Rw; exec = false }

-- normal memory that its owner alone is granted
abbrev pub private_row : ℕ → ℕ → ℕ → Bool → RegionRow
private_row first count owner exec =
    record {
      pages = record { first = first; count = count };
      kind = Normal;
      owner = owner;
      grants = record { partition = owner; rights = Rw; exec = exec } ∷ [];
    }

-- a page of device memory
abbrev pub device_row : RegionRow
device_row =
    record {
      pages = record { first = 0x9000; count = 1 };
      kind = Device;
      owner = 0x8001;
      grants = data_grant 0x8001 ∷ [];
    }

-- a page that its owner writes and another partition reads
abbrev pub shared_row : RegionRow
shared_row =
    record {
      pages = record { first = 0xd0000; count = 1 };
      kind = Normal;
      owner = 0x8001;
      grants = data_grant 0x8001 ∷ record { partition = 0x8002; rights = Ro; exec = false } ∷ [];
    }

abbrev pub common_rows : ManifestRows
common_rows =
    record {
      pool = 0x40000;
      partitions = partition_row 0x8001 ∷ partition_row 0x8002 ∷ partition_row 0x8003 ∷ [];
      regions =
          device_row
          ∷ private_row 0x80000 1024 0x8001 true
          ∷ private_row 0x90000 2 0x8001 false
          ∷ private_row 0xa0000 512 0x8002 false
          ∷ private_row 0xb0000 2 0x8002 false
          ∷ private_row 0xc0000 2 0x8003 false
          ∷ shared_row
          ∷ [];
    }
