-- What an interval has before a page and from a page on.
use Rattle.std.proofs.Common.{◌≡◌, ℕ, ◌+◌, ◌-◌, ◌<◌, ◌≤◌, Bool, true, false, ◌&&◌, not, cond, leb, ltb, Option, Some, None, min, max, refl, sym, ap, subst, arith}
use Rattle.std.proofs.lemmas.Bool.Decides.{nat_tests}
use Rattle.base.specs.Pages.{PageRun, in_run}
use Rattle.spans.specs.Spans.{Span, value_at, end_of}
use Rattle.spans.specs.Edits.{left_of, right_of, listed}

-- ---- none of it, or all

pub no_left : (page : ℕ) (s : Span) → page ≤ s.run.first → left_of page s ≡ None
no_left page s le = let e : leb page s.run.first ≡ true = grind (arith, nat_tests) in rw e refl

pub no_right : (page : ℕ) (s : Span) → end_of s.run ≤ page → right_of page s ≡ None
no_right page s le = let e : leb (end_of s.run) page ≡ true = grind (arith, nat_tests) in rw e refl

remade : (s : Span) (first count : ℕ) → first ≡ s.run.first → count ≡ s.run.count → Some (record { run = record { first = first; count = count }; value = s.value }) ≡ Some s
remade s first count f c = rw (f, c) refl

pub whole_left : (page : ℕ) (s : Span) → 0 < s.run.count → end_of s.run ≤ page → left_of page s ≡ Some s
whole_left page s some le =
    let e : leb page s.run.first ≡ false = grind (arith, nat_tests) in
    let c : min (end_of s.run) page - s.run.first ≡ s.run.count = omega arith in
    rw e (remade s s.run.first (min (end_of s.run) page - s.run.first) refl c)

pub whole_right : (page : ℕ) (s : Span) → 0 < s.run.count → page ≤ s.run.first → right_of page s ≡ Some s
whole_right page s some le =
    let e : leb (end_of s.run) page ≡ false = grind (arith, nat_tests) in
    let f : max s.run.first page ≡ s.run.first = omega arith in
    let c : end_of s.run - max s.run.first page ≡ s.run.count = omega arith in
    rw e (remade s (max s.run.first page) (end_of s.run - max s.run.first page) f c)

-- ---- the numbers of pages

shift : (a b c : Bool) → (a && (b && c)) ≡ ((a && b) && c)
shift true b c = refl
shift false b c = refl

both_true : (c : Bool) → (c && true) ≡ c
both_true true = refl
both_true false = refl

below_min : (n a b : ℕ) → ltb n (min a b) ≡ (ltb n a && ltb n b)
below_min n a b = grind (arith, nat_tests)

above_max : (n a b : ℕ) → leb (max a b) n ≡ (leb a n && leb b n)
above_max n a b = grind (arith, nat_tests)

last : (a b c : Bool) → ((a && b) && c) ≡ ((a && c) && b)
last true true c = sym (both_true c)
last true false true = refl
last true false false = refl
last false b c = refl

none_before : (i l : Bool) (v : Option ℕ) → (i && l) ≡ false → cond (i && l) v None ≡ None
none_before i l v e = rw e refl

pub left_at : (page : ℕ) (s : Span) (n : ℕ) → value_at (listed (left_of page s)) n ≡ cond (in_run s.run n && ltb n page) (Some s.value) None
left_at page s n =
    elim (leb page s.run.first) as (λ t. leb page s.run.first ≡ t → value_at (listed (cond t None (Some (record { run = record { first = s.run.first; count = min (end_of s.run) page - s.run.first }; value = s.value })))) n ≡ cond (in_run s.run n && ltb n page) (Some s.value) None) [
      | true ↦ λ e. let out : (in_run s.run n && ltb n page) ≡ false = grind (arith, nat_tests) in sym (none_before (in_run s.run n) (ltb n page) (Some s.value) out)
      | false ↦ λ e.
          let end : s.run.first + (min (end_of s.run) page - s.run.first) ≡ min (end_of s.run) page = grind (arith, nat_tests) in
          let same : (leb s.run.first n && ltb n (s.run.first + (min (end_of s.run) page - s.run.first))) ≡ (in_run s.run n && ltb n page) = rw (end, below_min) (shift (leb s.run.first n) (ltb n (end_of s.run)) (ltb n page)) in
          ap (λ (b : Bool). cond b (Some s.value) None) same
    ] refl

pub right_at : (page : ℕ) (s : Span) (n : ℕ) → value_at (listed (right_of page s)) n ≡ cond (in_run s.run n && leb page n) (Some s.value) None
right_at page s n =
    elim (leb (end_of s.run) page) as (λ t. leb (end_of s.run) page ≡ t → value_at (listed (cond t None (Some (record { run = record { first = max s.run.first page; count = end_of s.run - max s.run.first page }; value = s.value })))) n ≡ cond (in_run s.run n && leb page n) (Some s.value) None) [
      | true ↦ λ e. let out : (in_run s.run n && leb page n) ≡ false = grind (arith, nat_tests) in sym (none_before (in_run s.run n) (leb page n) (Some s.value) out)
      | false ↦ λ e.
          let end : max s.run.first page + (end_of s.run - max s.run.first page) ≡ end_of s.run = grind (arith, nat_tests) in
          let same : (leb (max s.run.first page) n && ltb n (max s.run.first page + (end_of s.run - max s.run.first page))) ≡ (in_run s.run n && leb page n) = rw (end, above_max) (last (leb s.run.first n) (leb page n) (ltb n (end_of s.run))) in
          ap (λ (b : Bool). cond b (Some s.value) None) same
    ] refl

pub outside : (run : PageRun) (n : ℕ) → in_run run n ≡ (not (ltb n run.first) && not (leb (end_of run) n))
outside run n = grind (arith, nat_tests)

-- the pages of an interval before a page
pub record IsLeft (page : ℕ) (s l : Span) : Type 0 where
  pub first : l.run.first ≡ s.run.first
  pub some : 0 < l.run.count
  pub within : end_of l.run ≤ end_of s.run
  pub before : end_of l.run ≤ page

left_parts : (page : ℕ) (s l : Span) → 0 < s.run.count → leb page s.run.first ≡ false → record { run = record { first = s.run.first; count = min (end_of s.run) page - s.run.first }; value = s.value } ≡ l → IsLeft page s l
left_parts page s l some test same =
    subst (IsLeft page s) same (record { first = refl; some = grind (arith, nat_tests); within = grind (arith, nat_tests); before = grind (arith, nat_tests) })

pub is_left : (page : ℕ) (s l : Span) → 0 < s.run.count → left_of page s ≡ Some l → IsLeft page s l
is_left page s l some e =
    elim (leb page s.run.first) as (λ t. leb page s.run.first ≡ t → cond t None (Some (record { run = record { first = s.run.first; count = min (end_of s.run) page - s.run.first }; value = s.value })) ≡ Some l → IsLeft page s l) [
      | true ↦ λ t h. absurd cc
      | false ↦ λ t h. left_parts page s l some t (cc)
    ] refl e

-- the pages of an interval from a page on
pub record IsRight (page : ℕ) (s r : Span) : Type 0 where
  pub from : page ≤ r.run.first
  pub some : 0 < r.run.count
  pub end : end_of r.run ≡ end_of s.run
  pub least : s.run.first ≤ r.run.first

right_parts : (page : ℕ) (s r : Span) → 0 < s.run.count → leb (end_of s.run) page ≡ false → record { run = record { first = max s.run.first page; count = end_of s.run - max s.run.first page }; value = s.value } ≡ r → IsRight page s r
right_parts page s r some test same =
    subst (IsRight page s) same (record { from = omega arith; some = grind (arith, nat_tests); end = grind (arith, nat_tests); least = omega arith })

pub is_right : (page : ℕ) (s r : Span) → 0 < s.run.count → right_of page s ≡ Some r → IsRight page s r
is_right page s r some e =
    elim (leb (end_of s.run) page) as (λ t. leb (end_of s.run) page ≡ t → cond t None (Some (record { run = record { first = max s.run.first page; count = end_of s.run - max s.run.first page }; value = s.value })) ≡ Some r → IsRight page s r) [
      | true ↦ λ t h. absurd cc
      | false ↦ λ t h. right_parts page s r some t (cc)
    ] refl e
