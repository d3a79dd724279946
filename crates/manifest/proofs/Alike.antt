-- Two views are alike where the derived `==` says that they are equal.
use Rattle.std.proofs.Common.{◌≡◌, Bool, true, false, ◌&&◌, Some, None, refl, ap₂, ◌∙◌}
use Rattle.std.specs.Option.{option_eq}
use Rattle.base.specs.declared.access.Rights.{Rights}
use Rattle.base.specs.declared.access.Rights.TheVariants.{Ro, Rw}
use Rattle.base.specs.declared.access.MemoryKind.{MemoryKind}
use Rattle.base.specs.declared.access.MemoryKind.TheVariants.{Normal, Device}
use Rattle.base.specs.contracts.access.RightsPartialEq.TheImpl.{eq-value as rights-value}
use Rattle.base.specs.contracts.access.MemoryKindPartialEq.TheImpl.{eq-value as kind-value}
use Rattle.base.specs.contracts.access.AccessPartialEq.TheImpl.{eq-value}
use mathlib.Core.Bool.{beq}
use Rattle.base.specs.Access.{View, Access, is_same, is_same_bool, is_rw, is_normal}
use Rattle.base.specs.Need.{is_alike}

rights-eq : (a b : Rights) → rights-value.it a b ≡ is_same_bool (is_rw a) (is_rw b)
rights-eq Ro Ro = refl
rights-eq Ro Rw = refl
rights-eq Rw Ro = refl
rights-eq Rw Rw = refl

exec-eq : (a b : Bool) → beq a b ≡ is_same_bool a b
exec-eq true true = refl
exec-eq true false = refl
exec-eq false true = refl
exec-eq false false = refl

kind-eq : (a b : MemoryKind) → kind-value.it a b ≡ is_same_bool (is_normal a) (is_normal b)
kind-eq Normal Normal = refl
kind-eq Normal Device = refl
kind-eq Device Normal = refl
kind-eq Device Device = refl

and-assoc : (x y z : Bool) → (x && (y && z)) ≡ ((x && y) && z)
and-assoc true y z = refl
and-assoc false y z = refl

access-eq : (a b : Access) → eq-value.it a b ≡ is_same a b
access-eq a b =
    and-assoc (rights-value.it a.rights b.rights) (beq a.exec b.exec) (kind-value.it a.kind b.kind)
    ∙ ap₂ (λ x z. x && z) (ap₂ (λ x y. x && y) (rights-eq a.rights b.rights) (exec-eq a.exec b.exec)) (kind-eq a.kind b.kind)

pub view-eq : (a b : View) → option_eq eq-value.it a b ≡ is_alike a b
view-eq None None = refl
view-eq None (Some b) = refl
view-eq (Some a) None = refl
view-eq (Some a) (Some b) = access-eq a b
