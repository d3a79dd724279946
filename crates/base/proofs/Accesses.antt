-- Two accesses that are alike are one.
use Rattle.std.proofs.Common.{◌≡◌, Bool, true, false, ◌&&◌, Some, None, refl, ap, ◌∙◌}
use Rattle.base.specs.declared.access.Rights.{Rights}
use Rattle.base.specs.declared.access.Rights.TheVariants.{Ro, Rw}
use Rattle.base.specs.declared.access.MemoryKind.{MemoryKind}
use Rattle.base.specs.declared.access.MemoryKind.TheVariants.{Normal, Device}
use Rattle.base.specs.Access.{Access, View, is_same, is_same_bool, is_rw, is_normal, is_reached_with}
use Rattle.base.proofs.Booleans.{both}

access : Rights → Bool → MemoryKind → Access
access rights exec kind = record { rights = rights; exec = exec; kind = kind }

same_rights : (a b : Rights) → is_same_bool (is_rw a) (is_rw b) ≡ true → a ≡ b
same_rights Ro Ro e = refl
same_rights Ro Rw e = absurd cc
same_rights Rw Ro e = absurd cc
same_rights Rw Rw e = refl

same_exec : (a b : Bool) → is_same_bool a b ≡ true → a ≡ b
same_exec true true e = refl
same_exec true false e = absurd cc
same_exec false true e = absurd cc
same_exec false false e = refl

same_kind : (a b : MemoryKind) → is_same_bool (is_normal a) (is_normal b) ≡ true → a ≡ b
same_kind Normal Normal e = refl
same_kind Normal Device e = absurd cc
same_kind Device Normal e = absurd cc
same_kind Device Device e = refl

pub same_access : (a b : Access) → is_same a b ≡ true → a ≡ b
unfolding access
same_access a b e =
    let x = both (is_same_bool (is_rw a.rights) (is_rw b.rights) && is_same_bool a.exec b.exec) (is_same_bool (is_normal a.kind) (is_normal b.kind)) e in
    let y = both (is_same_bool (is_rw a.rights) (is_rw b.rights)) (is_same_bool a.exec b.exec) x.0 in
    let r = same_rights a.rights b.rights y.0 in
    let i = same_exec a.exec b.exec y.1 in
    let k = same_kind a.kind b.kind x.1 in
    ap (λ v. access v a.exec a.kind) r ∙ ap (λ v. access b.rights v a.kind) i ∙ ap (λ v. access b.rights b.exec v) k

pub reached_with : (home : Access) (view : View) → is_reached_with home view ≡ true → view ≡ Some home
reached_with home None e = absurd cc
reached_with home (Some a) e = ap Some (same_access a home e)

self_bool : (b : Bool) → is_same_bool b b ≡ true
self_bool true = refl
self_bool false = refl

-- an access is like itself
pub same_self : (a : Access) → is_same a a ≡ true
same_self a = rw (self_bool (is_rw a.rights), self_bool a.exec, self_bool (is_normal a.kind)) refl
