-- Accesses, and owners with homes, that are the same are one.
use Rattle.std.proofs.Common.{ℕ, eqb, ap, ◌∙◌}
use Rattle.std.proofs.lemmas.Bool.{eqb-true}
use Rattle.base.specs.Access.{Access, is_same}
use Rattle.base.proofs.Accesses.{same_access}
use Rattle.base.proofs.Booleans.{both}
use Rattle.base.proofs.MaximalRuns.{IsSound}
use Rattle.audit.specs.Runs.{Ownership, is_same_ownership}

pub access_sound : IsSound is_same
access_sound a b e = same_access a b e

pub ownership_sound : IsSound is_same_ownership
ownership_sound a b e =
    let two = both (eqb a.owner b.owner) (is_same a.home b.home) e in
    ap (λ (p : ℕ). of p a.home) (eqb-true a.owner b.owner two.0) ∙ ap (λ (v : Access). of b.owner v) (same_access a.home b.home two.1)
  where
    of : ℕ → Access → Ownership
    of owner home = record { owner = owner; home = home }
