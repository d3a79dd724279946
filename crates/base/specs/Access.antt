-- What a partition may do with a page (Arm ARM, stage 2 permissions and memory attributes).
use Rattle.std.specs.Prelude.{◌≡◌, Bool, true, false, not, ◌&&◌, Option, Some, None, if◌then◌else◌}
use Rattle.base.specs.declared.access.Rights.{Rights}
use Rattle.base.specs.declared.access.Rights.TheVariants.{Ro, Rw}
use Rattle.base.specs.declared.access.MemoryKind.{MemoryKind}
use Rattle.base.specs.declared.access.MemoryKind.TheVariants.{Normal, Device}

-- data access, instruction access and kind of memory
pub record Access : Type 0 where
  pub rights : Rights
  pub exec : Bool
  pub kind : MemoryKind

-- what a partition reaches of a page: the access that it has, or nothing
abbrev pub View : Type 0
View = Option Access

-- only normal memory is executable
abbrev pub IsLegal : Access → Type 0
IsLegal a = a.exec ≡ true → a.kind ≡ Normal

abbrev pub is_rw : Rights → Bool
is_rw Ro = false
is_rw Rw = true

abbrev pub is_normal : MemoryKind → Bool
is_normal Normal = true
is_normal Device = false

abbrev pub is_same_bool : Bool → Bool → Bool
is_same_bool a b = if a then b else not b

-- the two are alike in all three
abbrev pub is_same : Access → Access → Bool
is_same a b =
    is_same_bool (is_rw a.rights) (is_rw b.rights) && is_same_bool a.exec b.exec
    && is_same_bool (is_normal a.kind) (is_normal b.kind)

-- the page is reached, and with this permission
abbrev pub is_reached_with : Access → View → Bool
is_reached_with a None = false
is_reached_with a (Some b) = is_same b a
