-- Counting places upward: how many of the first numbers pass, where whole ranges pass or fail.
use Rattle.std.proofs.Common.{◌≡◌, ℕ, zero, suc, ◌+◌, ◌-◌, ◌*◌, ◌/◌, ◌%◌, ◌^◌, ◌<◌, ◌≤◌, Bool, true, false, is_some, refl, sym, ◌∙◌, arith, inl, inr}
use Rattle.std.proofs.lemmas.Bool.{cases_eq, cases_lt, cases_Bool}
use Rattle.base.specs.Access.{View}
use Rattle.base.specs.Counts.{count_below}
use Rattle.base.specs.Need.{is_mixed, is_reached}
use Rattle.manifest.specs.Boundaries.{is_boundary, Tally, added, passed}
use Rattle.manifest.proofs.Tables.{boundary-inside, mixed-boundary, mixed-none, reached-some, reached-none}

pub count_below-le : (f : ℕ → Bool) (n : ℕ) → count_below f n ≤ n
unfolding count_below
count_below-le f zero = omega arith
count_below-le f (suc n) =
    let rest = count_below-le f n in
    elim (cases_Bool (f n)) [
      | inl t ↦ rw t (omega (arith, rest))
      | inr fails ↦ rw fails (omega (arith, rest))
    ]

-- a range that fails adds nothing
count_below-tail : (f : ℕ → Bool) (n m : ℕ) → n ≤ m → ((k : ℕ) → n ≤ k → k < m → f k ≡ false) → count_below f m ≡ count_below f n
unfolding count_below
count_below-tail f n zero le none = let same : n ≡ 0 = omega arith in rw same refl
count_below-tail f n (suc m) le none = elim (cases_eq n (suc m)) [
  | inl is ↦ rw is refl
  | inr other ↦
      let here = none m (omega arith) (omega arith) in
      let rest = count_below-tail f n m (omega arith) (λ k from below. none k from (omega arith)) in
      rw here (omega (arith, rest))
]

-- a range that passes adds its length
count_below-range : (f : ℕ → Bool) (n m : ℕ) → n ≤ m → ((k : ℕ) → n ≤ k → k < m → f k ≡ true) → count_below f m ≡ count_below f n + (m - n)
unfolding count_below
count_below-range f n zero le all = let same : n ≡ 0 = omega arith in rw same refl
count_below-range f n (suc m) le all = elim (cases_eq n (suc m)) [
  | inl is ↦ rw is (omega arith)
  | inr other ↦
      let here = all m (omega arith) (omega arith) in
      let rest = count_below-range f n m (omega arith) (λ k from below. all k from (omega arith)) in
      rw here (omega (arith, rest))
]

-- the tally has what passes below its next place
pub record Counts (f : ℕ → Bool) (t : Tally) : Type 0 where
  pub is : t.count ≡ count_below f t.next

-- the places from `first` to `end` pass, and none between those looked at and `first`
added-counts : (f : ℕ → Bool) (first end : ℕ) (t : Tally) → Counts f t → t.next ≤ end → first ≤ end
    → ((k : ℕ) → t.next ≤ k → k < first → f k ≡ false) → ((k : ℕ) → first ≤ k → k < end → f k ≡ true) → Counts f (added first end t)
added-counts f first end t counts le rise none all = elim (cases_lt first t.next) [
  | inl within ↦
      let more = count_below-range f t.next end le (λ k from below. all k (omega arith) below) in
      record { is = omega (arith, more, counts.is) }
  | inr after ↦
      let rest = count_below-tail f t.next first (omega arith) none in
      let more = count_below-range f first end rise all in
      record { is = omega (arith, more, rest, counts.is) }
]

-- ---- chunks

-- each boundary up to a page was looked at
pub record Mixed (view : ℕ → View) (position : ℕ) (t : Tally) : Type 0 where
  pub counts : Counts (is_mixed view) t
  pub seen : (n : ℕ) → n ≤ position → is_boundary view n ≡ true → n / 512 < t.next
  pub near : 512 * t.next ≤ position + 511

counts-start : (f : ℕ → Bool) → 0 ≡ count_below f 0
unfolding count_below
counts-start f = refl

pub mixed-start : (view : ℕ → View) → Mixed view 0 (record { count = 0; next = 0 })
mixed-start view = record {
  counts = record { is = counts-start (is_mixed view) };
  seen = λ n le e. let inside = boundary-inside view n e in absurd (omega arith);
  near = omega arith;
}

-- pages follow that are no boundaries
none-seen : (view : ℕ → View) (position page : ℕ) (t : Tally) → ((n : ℕ) → position < n → n < page → is_boundary view n ≡ false) → Mixed view position t → (n : ℕ) → n < page → is_boundary view n ≡ true → n / 512 < t.next
none-seen view position page t none before n below e = elim (cases_lt position n) [
  | inl after ↦ let fails = none n after below in absurd (cc)
  | inr seen ↦ before.seen n (omega arith) e
]

pub mixed-pass : (view : ℕ → View) (position page : ℕ) (t : Tally) → position ≤ page → ((n : ℕ) → position < n → n < page → is_boundary view n ≡ false) → Mixed view position t → Mixed view page (passed view page t)
mixed-pass view position page t rise none before = elim (cases_Bool (is_boundary view page)) [
  | inl edge ↦
      let inside : 0 < page % 512 = boundary-inside view page edge in
      rw edge record {
        counts = added-counts (is_mixed view) (page / 512) (page / 512 + 1) t before.counts (omega (arith, before.near)) (omega arith)
            (λ k from below. mixed-none view k (λ n at. elim (cases_Bool (is_boundary view n)) [
              | inl t' ↦ let seen = none-seen view position page t none before n (omega arith) t' in absurd (omega (arith, seen))
              | inr fails ↦ fails
            ]))
            (λ k from below. let at : k ≡ page / 512 = omega arith in rw at (mixed-boundary view page edge));
        seen = λ n le e. omega arith;
        near = omega arith;
      }
  | inr fails ↦
      rw fails record {
        counts = before.counts;
        seen = λ n le e. elim (cases_eq n page) [
          | inl is ↦ absurd (bad view n page is e fails)
          | inr other ↦ none-seen view position page t none before n (omega arith) e
        ];
        near = omega (arith, before.near);
      }
]
  where
    bad : (view : ℕ → View) (n page : ℕ) → n ≡ page → is_boundary view n ≡ true → is_boundary view page ≡ false → ⊥
    bad view n page is e fails = cc

-- no page from the last boundary on is one
pub mixed-end : (view : ℕ → View) (position : ℕ) (t : Tally) → position ≤ 2 ^ 27 → ((n : ℕ) → position < n → is_boundary view n ≡ false) → Mixed view position t → t.count ≡ count_below (is_mixed view) 262144
mixed-end view position t inside none before =
    let rest = count_below-tail (is_mixed view) t.next 262144 (omega (arith, before.near)) (λ k from below. mixed-none view k (λ n at. elim (cases_Bool (is_boundary view n)) [
      | inl e ↦ elim (cases_lt position n) [
        | inl after ↦ none n after
        | inr le ↦ let seen = before.seen n (omega arith) e in absurd (omega (arith, seen))
      ]
      | inr fails ↦ fails
    ])) in
    before.counts.is ∙ sym rest

-- ---- gigabytes

-- each page below a position was looked at
pub record Reached (view : ℕ → View) (position : ℕ) (t : Tally) : Type 0 where
  pub counts : Counts (is_reached view) t
  pub seen : (n : ℕ) → n < position → is_some (view n) ≡ true → n / 262144 < t.next
  pub near : 262144 * t.next ≤ position + 262143

pub reached-start : (view : ℕ → View) → Reached view 0 (record { count = 0; next = 0 })
reached-start view = record { counts = record { is = counts-start (is_reached view) }; seen = λ n below some. absurd (omega arith); near = omega arith }

-- pages follow that are not reached
pub reached-none_to : (view : ℕ → View) (position page : ℕ) (t : Tally) → position ≤ page → ((n : ℕ) → position ≤ n → n < page → is_some (view n) ≡ false) → Reached view position t → Reached view page t
reached-none_to view position page t rise none before = record {
  counts = before.counts;
  seen = λ n below some. elim (cases_lt n position) [
    | inl old ↦ before.seen n old some
    | inr new ↦ let fails = none n (omega arith) below in absurd (cc)
  ];
  near = omega (arith, before.near);
}

-- a gigabyte between the first and the last page of a run has a page of the run
touched : (view : ℕ → View) (position page k : ℕ) → ((n : ℕ) → position ≤ n → n < page → is_some (view n) ≡ true) → position / 262144 ≤ k → k < (page - 1) / 262144 + 1 → position < page → is_reached view k ≡ true
touched view position page k all from below rise = elim (cases_lt (262144 * k) position) [
  | inl inside ↦ let at : position / 262144 ≡ k = omega arith in rw at at (reached-some view position (all position (omega arith) rise))
  | inr after ↦ let at : (262144 * k) / 262144 ≡ k = omega arith in rw at at (reached-some view (262144 * k) (all (262144 * k) (omega arith) (omega arith)))
]

-- pages follow that are
pub reached-some_to : (view : ℕ → View) (position page : ℕ) (t : Tally) → position < page → ((n : ℕ) → position ≤ n → n < page → is_some (view n) ≡ true) → Reached view position t → Reached view page (added (position / 262144) ((page - 1) / 262144 + 1) t)
reached-some_to view position page t rise all before = record {
  counts = added-counts (is_reached view) (position / 262144) ((page - 1) / 262144 + 1) t before.counts (omega (arith, before.near)) (omega arith)
      (λ k from below. reached-none view k (λ n at. elim (cases_Bool (is_some (view n))) [
        | inl some ↦ let seen = before.seen n (omega arith) some in absurd (omega (arith, seen))
        | inr fails ↦ fails
      ]))
      (λ k from below. touched view position page k all from below rise);
  seen = λ n below some. omega arith;
  near = omega arith;
}

pub reached-end : (view : ℕ → View) (position : ℕ) (t : Tally) → position ≤ 2 ^ 27 → ((n : ℕ) → position ≤ n → is_some (view n) ≡ false) → Reached view position t → t.count ≡ count_below (is_reached view) 512
reached-end view position t inside none before =
    let rest = count_below-tail (is_reached view) t.next 512 (omega (arith, before.near)) (λ k from below. reached-none view k (λ n at. elim (cases_Bool (is_some (view n))) [
      | inl some ↦ elim (cases_lt n position) [
        | inl old ↦ let seen = before.seen n old some in absurd (omega (arith, seen))
        | inr new ↦ none n (omega arith)
      ]
      | inr fails ↦ fails
    ])) in
    before.counts.is ∙ sym rest
