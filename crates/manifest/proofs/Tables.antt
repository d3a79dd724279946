-- Which chunks are mixed and which gigabytes are reached, by the pages at which the views change.
use Rattle.std.proofs.Common.{◌≡◌, ℕ, zero, suc, ◌+◌, ◌-◌, ◌*◌, ◌/◌, ◌%◌, ◌<◌, ◌==◌, Bool, true, false, not, ◌&&◌, ◌||◌, Some, None, is_some, refl, ap, ap₂, sym, ◌∙◌, arith, inl, inr}
use Rattle.std.proofs.lemmas.Bool.{cases_eq, cases_Bool}
use Rattle.std.proofs.lemmas.Bool.Decides.{nat_tests}
use Rattle.base.specs.declared.access.Rights.{Rights}
use Rattle.base.specs.declared.access.Rights.TheVariants.{Ro, Rw}
use Rattle.base.specs.declared.access.MemoryKind.{MemoryKind}
use Rattle.base.specs.declared.access.MemoryKind.TheVariants.{Normal, Device}
use Rattle.base.specs.Access.{View, Access, is_same, is_same_bool, is_rw, is_normal}
use Rattle.base.specs.Counts.{any_below}
use Rattle.base.specs.Need.{is_alike, is_mixed, is_reached}
use Rattle.manifest.specs.Boundaries.{is_boundary}

-- ---- searches over the first numbers

pub any_below-some : (f : ℕ → Bool) (n k : ℕ) → k < n → f k ≡ true → any_below f n ≡ true
unfolding any_below
any_below-some f zero k below is_true = absurd (omega arith)
any_below-some f (suc n) k below is_true = elim (cases_eq k n) [
  | inl is ↦ let here : f n ≡ true = rw (← is) is_true in rw here refl
  | inr is_other ↦ let rest = any_below-some f n k (omega arith) is_true in rw rest (or-true (f n))
]
  where
    or-true : (b : Bool) → (b || true) ≡ true
    or-true true = refl
    or-true false = refl

pub any_below-none : (f : ℕ → Bool) (n k : ℕ) → any_below f n ≡ false → k < n → f k ≡ false
any_below-none f n k none below = elim (cases_Bool (f k)) [
  | inl t ↦ let found = any_below-some f n k below t in absurd (cc)
  | inr f ↦ f
]

pub any_below-no : (f : ℕ → Bool) (n : ℕ) → ((k : ℕ) → k < n → f k ≡ false) → any_below f n ≡ false
unfolding any_below
any_below-no f zero none = refl
any_below-no f (suc n) none =
    let here = none n (omega arith) in
    let rest = any_below-no f n (λ k below. none k (omega arith)) in
    rw (here, rest) refl

-- ---- views that are alike

rights-same : (a b : Rights) → is_same_bool (is_rw a) (is_rw b) ≡ true → a ≡ b
rights-same Ro Ro e = refl
rights-same Ro Rw e = absurd (cc)
rights-same Rw Ro e = absurd (cc)
rights-same Rw Rw e = refl

bool-same : (a b : Bool) → is_same_bool a b ≡ true → a ≡ b
bool-same true true e = refl
bool-same true false e = absurd (cc)
bool-same false true e = absurd (cc)
bool-same false false e = refl

kind-same : (a b : MemoryKind) → is_same_bool (is_normal a) (is_normal b) ≡ true → a ≡ b
kind-same Normal Normal e = refl
kind-same Normal Device e = absurd (cc)
kind-same Device Normal e = absurd (cc)
kind-same Device Device e = refl

and-left : (a b : Bool) → (a && b) ≡ true → a ≡ true
and-left true b e = refl
and-left false b e = absurd (cc)

and-right : (a b : Bool) → (a && b) ≡ true → b ≡ true
and-right true b e = e
and-right false b e = absurd (cc)

access-same : (a b : Access) → is_same a b ≡ true → a ≡ b
access-same a b e =
    let first = is_same_bool (is_rw a.rights) (is_rw b.rights) in
    let second = is_same_bool a.exec b.exec in
    let third = is_same_bool (is_normal a.kind) (is_normal b.kind) in
    let r = rights-same a.rights b.rights (and-left first second (and-left (first && second) third e)) in
    let x = bool-same a.exec b.exec (and-right first second (and-left (first && second) third e)) in
    let k = kind-same a.kind b.kind (and-right (first && second) third e) in
    ap₂ (λ (u : Rights × Bool) (v : MemoryKind). record { rights = u.0; exec = u.1; kind = v }) (ap₂ (λ (u : Rights) (v : Bool). (u, v)) r x) k

pub alike-same : (a b : View) → is_alike a b ≡ true → a ≡ b
alike-same None None e = refl
alike-same None (Some b) e = absurd (cc)
alike-same (Some a) None e = absurd (cc)
alike-same (Some a) (Some b) e = ap Some (access-same a b e)

rights-refl : (a : Rights) → is_same_bool (is_rw a) (is_rw a) ≡ true
rights-refl Ro = refl
rights-refl Rw = refl

bool-refl : (a : Bool) → is_same_bool a a ≡ true
bool-refl true = refl
bool-refl false = refl

kind-refl : (a : MemoryKind) → is_same_bool (is_normal a) (is_normal a) ≡ true
kind-refl Normal = refl
kind-refl Device = refl

pub alike-refl : (a : View) → is_alike a a ≡ true
alike-refl None = refl
alike-refl (Some a) = rw (rights-refl a.rights, bool-refl a.exec, kind-refl a.kind) refl

-- ---- boundaries

-- where the views of two neighbours are one there is no boundary
pub boundary-none : (view : ℕ → View) (n : ℕ) (a : View) → view (n - 1) ≡ a → view n ≡ a → is_boundary view n ≡ false
unfolding is_boundary
boundary-none view n a before here = rw (before, here, alike-refl a) (and-false (not (n % 512 == 0)))
  where
    and-false : (b : Bool) → (b && false) ≡ false
    and-false true = refl
    and-false false = refl

-- a boundary is inside a chunk
pub boundary-inside : (view : ℕ → View) (n : ℕ) → is_boundary view n ≡ true → 0 < n % 512
unfolding is_boundary
boundary-inside view n e = let inside = and-left (not (n % 512 == 0)) _ e in grind (arith, nat_tests)

-- a chunk with a boundary inside it is mixed
not-false : (b : Bool) → not b ≡ false → b ≡ true
not-false true e = refl
not-false false e = absurd (cc)

all-same : (view : ℕ → View) (c : ℕ) → is_mixed view c ≡ false → (i : ℕ) → i < 512 → view (512 * c + i) ≡ view (512 * c)
unfolding is_mixed
all-same view c e i small = alike-same (view (512 * c + i)) (view (512 * c)) (not-false (is_alike (view (512 * c + i)) (view (512 * c))) (any_below-none (λ i. not (is_alike (view (512 * c + i)) (view (512 * c)))) 512 i e small))

pub mixed-boundary : (view : ℕ → View) (n : ℕ) → is_boundary view n ≡ true → is_mixed view (n / 512) ≡ true
mixed-boundary view n e = elim (cases_Bool (is_mixed view (n / 512))) [
  | inl t ↦ t
  | inr f ↦
      let inside = boundary-inside view n e in
      let here = all-same view (n / 512) f (n % 512) (omega arith) in
      let before = all-same view (n / 512) f (n % 512 - 1) (omega arith) in
      let at : 512 * (n / 512) + n % 512 ≡ n = omega arith in
      let at_before : 512 * (n / 512) + (n % 512 - 1) ≡ n - 1 = omega arith in
      let none = boundary-none view n (view (512 * (n / 512))) (ap view (sym at_before) ∙ before) (ap view (sym at) ∙ here) in
      absurd (cc)
]

-- inside a chunk, a page that is no boundary has the view of the page before it
boundary-step : (view : ℕ → View) (n : ℕ) → 0 < n % 512 → is_boundary view n ≡ false → view n ≡ view (n - 1)
unfolding is_boundary
boundary-step view n inside e =
    let here : (n % 512 == 0) ≡ false = grind (arith, nat_tests) in
    sym (alike-same (view (n - 1)) (view n) (not-false (is_alike (view (n - 1)) (view n)) (rw here at e)))

same-from : (view : ℕ → View) (c : ℕ) → ((n : ℕ) → n / 512 ≡ c → is_boundary view n ≡ false) → (i : ℕ) → i < 512 → view (512 * c + i) ≡ view (512 * c)
same-from view c none zero small = let at : 512 * c + 0 ≡ 512 * c = omega arith in ap view at
same-from view c none (suc i) small =
    let at : (512 * c + suc i) / 512 ≡ c = omega arith in
    let inside : 0 < (512 * c + suc i) % 512 = omega arith in
    let before : 512 * c + suc i - 1 ≡ 512 * c + i = omega arith in
    boundary-step view (512 * c + suc i) inside (none (512 * c + suc i) at) ∙ ap view before ∙ same-from view c none i (omega arith)

-- a chunk with no boundary inside it is not
pub mixed-none : (view : ℕ → View) (c : ℕ) → ((n : ℕ) → n / 512 ≡ c → is_boundary view n ≡ false) → is_mixed view c ≡ false
unfolding is_mixed
mixed-none view c none = any_below-no (λ i. not (is_alike (view (512 * c + i)) (view (512 * c)))) 512 (λ i small. let same = same-from view c none i small in rw (same, alike-refl (view (512 * c))) refl)

-- ---- gigabytes

pub reached-some : (view : ℕ → View) (n : ℕ) → is_some (view n) ≡ true → is_reached view (n / 262144) ≡ true
unfolding is_reached
reached-some view n some =
    let at : 262144 * (n / 262144) + n % 262144 ≡ n = omega arith in
    any_below-some (λ i. is_some (view (262144 * (n / 262144) + i))) 262144 (n % 262144) (omega arith) (rw at some)

pub reached-none : (view : ℕ → View) (g : ℕ) → ((n : ℕ) → n / 262144 ≡ g → is_some (view n) ≡ false) → is_reached view g ≡ false
unfolding is_reached
reached-none view g none = any_below-no (λ i. is_some (view (262144 * g + i))) 262144 (λ i below. none (262144 * g + i) (omega arith))
