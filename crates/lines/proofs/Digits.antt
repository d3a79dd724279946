-- Digits that are read one by one.
use Rattle.std.proofs.Common.{◌≡◌, ℕ, ◌+◌, ◌*◌, ◌^◌, ◌<◌, ◌≤◌, Bool, true, false, ◌&&◌, ltb, cond, List, [], ◌∷◌, length, get_or, drop, Some, None, refl, sym, ap, ◌∙◌, arith, add-one}
use Rattle.std.specs.List.{list_all}
use Rattle.std.specs.Char.{digit_value}
use Rattle.std.specs.Str.Parse.{digits_value, digits_value_after}
use Rattle.std.proofs.lemmas.List.{at_drop_more, at_drop_all}
use Rattle.std.proofs.lemmas.Bool.Decides.{nat_tests}
use Rattle.std.proofs.Math.Nat.{pow-succ', pow-le-pow_right}

module _ (test : ℕ → Bool) (radix : ℕ) (ds : List ℕ) where
  -- the first i digits write n
  pub record Reads (i n : ℕ) : Type 0 where
    pub digits : list_all test (drop i ds) ≡ list_all test ds
    pub value : digits_value_after radix n (drop i ds) ≡ digits_value radix ds

  pub reads_none : Reads 0 0
  reads_none = record { digits = refl; value = refl }

  pub reads_more : (i n x : ℕ) → i < length ds → x ≡ get_or ds i 0 → test x ≡ true → Reads i n → Reads (i + 1) (n * radix + digit_value x)
  reads_more i n x within is passes r =
      let all = at_drop_more (list_all test) ds i 0 within in
      let value = at_drop_more (digits_value_after radix n) ds i 0 within in
      record {
        digits = sym (ap (λ (b : Bool). b && list_all test (drop (i + 1) ds)) (ap test (sym is) ∙ passes)) ∙ sym all ∙ r.digits;
        value = ap (λ (y : ℕ). digits_value_after radix (n * radix + digit_value y) (drop (i + 1) ds)) is ∙ sym value ∙ r.value;
      }

  -- no digit is left
  pub reads_all : (i n : ℕ) → length ds ≤ i → Reads i n → (list_all test ds ≡ true) × (digits_value radix ds ≡ n)
  reads_all i n end r = (
    sym r.digits ∙ at_drop_all (list_all test) ds i end,
    sym r.value ∙ at_drop_all (digits_value_after radix n) ds i end,
  )

-- ---- digits in turn

-- what a digit that was read, or not, says
pub told : (b : Bool) (x y : ℕ) → Some y ≡ cond b (Some x) None → (b ≡ true) × (y ≡ x)
told true x y e = (refl, cc)
told false x y e = absurd cc

-- there is room for a digit more
pub room : (i count n value : ℕ) → n < 16 ^ i → i < count → count ≤ 16 → value < 16 → (n * 16 + value < 16 ^ (i + 1)) × (n * 16 + value < 2 ^ 64)
room i count n value small more few digit =
    let power : 16 ^ (i + 1) ≡ 16 * 16 ^ i = ap (λ (k : ℕ). 16 ^ k) (add-one i) ∙ pow-succ' 16 i in
    let within : i + 1 ≤ 16 = omega arith in
    let positive : 0 < 16 = omega arith in
    let most : 16 ^ (i + 1) ≤ 16 ^ 16 = pow-le-pow_right positive within in
    let fits : n * 16 + value < 16 ^ (i + 1) = omega arith in
    (fits, omega arith)

grows : (n : ℕ) (ds : List ℕ) → n ≤ digits_value_after 10 n ds
grows n [] = omega arith
grows n (d ∷ ds) = let more = grows (n * 10 + digit_value d) ds in omega (arith, more)

none_of : (a b : Bool) (x : ℕ) → b ≡ false → None ≡ cond (a && b) (Some x) None
none_of a b x e = rw e (elim a as (λ t. None ≡ cond (t && false) (Some x) None) [ true ↦ refl | false ↦ refl ])

-- a decimal number that some digits carry past 2^32 stays there
pub passed : (test : ℕ → Bool) (ds : List ℕ) (i n : ℕ) → 2 ^ 32 ≤ n → Reads test 10 ds i n → None ≡ cond (list_all test ds && ltb (digits_value 10 ds) (2 ^ 32)) (Some (digits_value 10 ds)) None
passed test ds i n long r =
    let more : n ≤ digits_value_after 10 n (drop i ds) = grows n (drop i ds) in
    let whole : 2 ^ 32 ≤ digits_value 10 ds = omega (arith, r.value) in
    let no : ltb (digits_value 10 ds) (2 ^ 32) ≡ false = grind (arith, nat_tests) in
    none_of (list_all test ds) _ _ no

-- and one that all digits leave below it is read
pub counted : (test : ℕ → Bool) (ds : List ℕ) (i n : ℕ) → length ds ≤ i → n < 2 ^ 32 → Reads test 10 ds i n → Some n ≡ cond (list_all test ds && ltb (digits_value 10 ds) (2 ^ 32)) (Some (digits_value 10 ds)) None
counted test ds i n end small r =
    let all = reads_all test 10 ds i n end r in
    let yes : ltb n (2 ^ 32) ≡ true = grind (arith, nat_tests) in
    rw (all.0, all.1, yes) refl
