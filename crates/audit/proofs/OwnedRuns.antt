-- Runs of pages with one owner and one home, made segment by segment.
use Rattle.std.proofs.Common.{◌≡◌, ℕ, ◌^◌, ◌<◌, ◌≤◌, true, eqb, List, length, Option, Some, None, refl, sym, arith, eq-eqb}
use Rattle.base.specs.Access.{is_same}
use Rattle.base.proofs.Booleans.{and_true}
use Rattle.base.specs.Runs.{maximal_runs}
use Rattle.base.proofs.MaximalRuns.{none-until, some-until}
use Rattle.audit.specs.Runs.{Ownership, OwnedRun, AreLined, is_same_ownership, with_owned}
use Rattle.audit.specs.Texts.{ownership_end}
use Rattle.base.proofs.Accesses.{same_self}

ownership-self : (o : Ownership) → is_same_ownership o o ≡ true
ownership-self o = and_true (eqb o.owner o.owner) (is_same o.home o.home) (eq-eqb o.owner o.owner refl) (same_self o.home)

segment : (f : ℕ → Option Ownership) (b end : ℕ) (o : Option Ownership) → b < end → ((n : ℕ) → b ≤ n → n < end → f n ≡ o) → with_owned (maximal_runs is_same_ownership f b) b end o ≡ maximal_runs is_same_ownership f end
segment f b end None lt all = sym (none-until is_same_ownership f b end (omega (arith, lt)) all)
segment f b end (Some a) lt all = sym (some-until is_same_ownership f b end a lt (ownership-self a) all)

pub owned-more : (f : ℕ → Option Ownership) (b page end : ℕ) (o : Option Ownership) → page ≡ b → page < end → ((n : ℕ) → page ≤ n → n < end → f n ≡ o) → with_owned (maximal_runs is_same_ownership f b) b end o ≡ maximal_runs is_same_ownership f end
owned-more f b page end o at lt all = segment f b end o (omega (arith, at, lt)) (λ n le under. all n (omega (arith, at, le)) under)

-- the lines of the runs before this page are appended
pub record IsOwning (f : ℕ → Option Ownership) (before text : List ℕ) (count : ℕ) (last : Option OwnedRun) (number : ℕ) : Type 0 where
  pub lined : AreLined ownership_end before text count last (maximal_runs is_same_ownership f number)
  pub few : count ≤ length text
  pub inside : number ≤ 2 ^ 27
