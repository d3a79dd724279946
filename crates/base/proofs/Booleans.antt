-- A conjunction: what it says, and what makes one.
use Rattle.std.proofs.Common.{◌≡◌, Bool, true, false, ◌&&◌, refl}

pub both : (a b : Bool) → (a && b) ≡ true → (a ≡ true) × (b ≡ true)
both true b e = (refl, e)
both false b e = absurd cc

pub left : (a b : Bool) → (a && b) ≡ true → a ≡ true
left a b e = (both a b e).0

pub right : (a b : Bool) → (a && b) ≡ true → b ≡ true
right a b e = (both a b e).1

pub and_true : (a b : Bool) → a ≡ true → b ≡ true → (a && b) ≡ true
and_true true b h k = k
and_true false b h k = h
