-- Hexadecimal digits that are written from the last one on.
use Rattle.std.proofs.Common.{◌≡◌, ℕ, zero, suc, ◌+◌, ◌-◌, ◌*◌, ◌/◌, ◌%◌, ◌^◌, ◌<◌, ◌≤◌, Bool, true, false, cond, List, [], ◌∷◌, length, drop, eqb, ◌++◌, refl, sym, ap, ◌∙◌, arith, append_assoc, add-one, lit<, lt_trans}
use Rattle.std.proofs.Math.Nat.{pow-succ'}
use Rattle.std.proofs.lemmas.List.{replicate_more, length_push, length-drop}
use Rattle.std.proofs.Math.ListN.{set, replicate}
use Rattle.std.proofs.lemmas.List.{drop-set}
use Rattle.digits.specs.Digits.{hex}
use Rattle.std.specs.Fmt.{digits_onto, digits, digit_glyph}
use borrow.Author.Tests.{eq-eqb, ne_eqb, eqb-true, eqb-false}

module _ (n : ℕ) (acc : List ℕ) where
  -- one step, by the test whether it is the last
  spelled_suc : (k : ℕ) (t : Bool) → eqb (n / 16) 0 ≡ t → digits_onto (suc k) 16 false n acc ≡ cond t (digit_glyph false (n % 16) ∷ acc) (digits_onto k 16 false (n / 16) (digit_glyph false (n % 16) ∷ acc))
  spelled_suc k t e = ap (λ (b : Bool). cond b (digit_glyph false (n % 16) ∷ acc) (digits_onto k 16 false (n / 16) (digit_glyph false (n % 16) ∷ acc))) e

  pub onto_last : (i : ℕ) → 0 < i → n / 16 ≡ 0 → digits_onto i 16 false n acc ≡ digit_glyph false (n % 16) ∷ acc
  onto_last zero h e = absurd (omega arith)
  onto_last (suc k) h e = spelled_suc k true (eq-eqb _ 0 e)

  pub onto_step : (i : ℕ) → 0 < i → (n / 16 ≡ 0 → ⊥) → digits_onto i 16 false n acc ≡ digits_onto (i - 1) 16 false (n / 16) (digit_glyph false (n % 16) ∷ acc)
  onto_step zero h e = absurd (omega arith)
  onto_step (suc k) h e = spelled_suc k false (ne_eqb _ 0 e) ∙ ap (λ (j : ℕ). digits_onto j 16 false (n / 16) (digit_glyph false (n % 16) ∷ acc)) {x = k} {y = suc k - 1} (omega arith)

pub onto_nil : (n : ℕ) → digits_onto 64 16 false n [] ≡ digits 16 false n
unfolding digits
onto_nil n = refl

-- writing below index i puts an element before those from i on
pub drop-set-cons : (out : List ℕ) (i x g : ℕ) → 0 < i → i ≤ length out → x ≡ g → drop (i - 1) (set out (i - 1) x) ≡ g ∷ drop i out
drop-set-cons out zero x g h k e = absurd (omega arith)
drop-set-cons out (suc j) x g h k e =
    ap (λ (m : ℕ). drop m (set out m x)) {x = suc j - 1} {y = j} (omega arith)
    ∙ (drop-set out j x (omega arith)
    ∙ (ap (λ y. y ∷ drop (j + 1) out) e ∙ ap (λ m. g ∷ drop m out) {x = j + 1} {y = suc j} (omega arith)))

-- ---- digits of a number that fits a width

-- the last digits of a number, of which there are so many
abbrev pub last_digits : ℕ → ℕ → List ℕ
last_digits zero n = []
last_digits (suc w) n = last_digits w (n / 16) ++ digit_glyph false (n % 16) ∷ []

pub zeros : (w : ℕ) → last_digits w 0 ≡ replicate w 48
zeros zero = refl
zeros (suc w) = ap (λ (ds : List ℕ). ds ++ 48 ∷ []) (zeros w) ∙ replicate_more {X = ℕ} w 48 ∙ ap (λ (k : ℕ). replicate {A = ℕ} k 48) (add-one w)

-- what stands behind the digits stays behind them
onto_append : (k n : ℕ) (acc : List ℕ) → digits_onto k 16 false n acc ≡ digits_onto k 16 false n [] ++ acc
onto_append zero n acc = refl
onto_append (suc k) n acc =
    let g = digit_glyph false (n % 16) in
    elim (eqb (n / 16) 0) as (λ b. cond b (g ∷ acc) (digits_onto k 16 false (n / 16) (g ∷ acc)) ≡ cond b (g ∷ []) (digits_onto k 16 false (n / 16) (g ∷ [])) ++ acc) [
      | true ↦ refl
      | false ↦ onto_append k (n / 16) (g ∷ acc) ∙ sym (append_assoc (digits_onto k 16 false (n / 16) []) (g ∷ []) acc) ∙ ap (λ (ds : List ℕ). ds ++ acc) (sym (onto_append k (n / 16) (g ∷ [])))
    ]

-- digits with zeros in front up to a width
abbrev filled : ℕ → List ℕ → List ℕ
filled w ds = replicate (w - length ds) 48 ++ ds

filled_one : (w n : ℕ) (ds : List ℕ) → n / 16 ≡ 0 → ds ≡ digit_glyph false (n % 16) ∷ [] → filled (suc w) ds ≡ last_digits (suc w) n
filled_one w n ds e is =
    let last : List ℕ = digit_glyph false (n % 16) ∷ [] in
    let one : suc w - 1 ≡ w = omega arith in
    ap (filled (suc w)) is ∙ ap (λ (k : ℕ). replicate k 48 ++ last) one
    ∙ ap (λ (front : List ℕ). front ++ last) (sym (zeros w) ∙ ap (last_digits w) (sym e))

filled_more : (w n : ℕ) (front ds : List ℕ) → ds ≡ front ++ digit_glyph false (n % 16) ∷ [] → filled w front ≡ last_digits w (n / 16) → filled (suc w) ds ≡ last_digits (suc w) n
filled_more w n front ds is h =
    let last : List ℕ = digit_glyph false (n % 16) ∷ [] in
    let more : length (front ++ last) ≡ length front + 1 = length_push front (digit_glyph false (n % 16)) in
    let count : suc w - length (front ++ last) ≡ w - length front = omega arith in
    ap (filled (suc w)) is ∙ ap (λ (k : ℕ). replicate k 48 ++ (front ++ last)) count
    ∙ sym (append_assoc (replicate (w - length front) 48) front last) ∙ ap (λ (ds : List ℕ). ds ++ last) h

below : (k n : ℕ) → n < 16 ^ suc k → n / 16 < 16 ^ k
below k n h =
    let power : 16 ^ suc k ≡ 16 * 16 ^ k = pow-succ' 16 k in
    omega (arith, power)

-- the digits in front of the last one
onto_more : (k n : ℕ) → (n / 16 ≡ 0 → ⊥) → digits_onto (suc k) 16 false n [] ≡ digits_onto k 16 false (n / 16) [] ++ digit_glyph false (n % 16) ∷ []
onto_more k n ne =
    spelled_suc n [] k false (ne_eqb _ 0 ne) ∙ onto_append k (n / 16) (digit_glyph false (n % 16) ∷ [])

fitting : (k w n : ℕ) → n < 16 ^ suc k → n < 16 ^ suc w → filled (suc w) (digits_onto (suc k) 16 false n []) ≡ last_digits (suc w) n
fitting zero w n long wide =
    let e : n / 16 ≡ 0 = omega arith in
    filled_one w n _ e (onto_last n [] 1 (omega arith) e)
fitting (suc k) zero n long wide =
    let e : n / 16 ≡ 0 = omega arith in
    filled_one 0 n _ e (onto_last n [] (suc (suc k)) (omega arith) e)
fitting (suc k) (suc w) n long wide =
    elim (eqb (n / 16) 0) as (λ b. eqb (n / 16) 0 ≡ b → filled (suc (suc w)) (digits_onto (suc (suc k)) 16 false n []) ≡ last_digits (suc (suc w)) n) [
      | true ↦ λ e. filled_one (suc w) n _ (eqb-true _ _ e) (onto_last n [] (suc (suc k)) (omega arith) (eqb-true _ _ e))
      | false ↦ λ e.
          let h : n / 16 < 16 ^ suc k = below (suc k) n long in
          let l : n / 16 < 16 ^ suc w = below (suc w) n wide in
          filled_more (suc w) n _ _ (onto_more (suc k) n (eqb-false _ _ e)) (fitting k w (n / 16) h l)
    ] refl

-- a number below 16 to a width in as many digits
pub hex_fits : (w n : ℕ) → 0 < w → n < 16 ^ w → n < 2 ^ 64 → hex w n ≡ last_digits w n
unfolding hex
hex_fits zero n some fits small = absurd (omega arith)
hex_fits (suc w) n some fits small = ap (filled (suc w)) (sym (onto_nil n)) ∙ fitting 63 w n (lt_trans small (lit< tt)) fits

-- one digit more
pub last_step : (out : List ℕ) (i n x : ℕ) → 0 < i → i ≤ length out → x ≡ digit_glyph false (n % 16) → last_digits (i - 1) (n / 16) ++ drop (i - 1) (set out (i - 1) x) ≡ last_digits i n ++ drop i out
last_step out zero n x some within e = absurd (omega arith)
last_step out (suc j) n x some within e =
    let back : suc j - 1 ≡ j = omega arith in
    ap (λ (ds : List ℕ). last_digits (suc j - 1) (n / 16) ++ ds) (drop-set-cons out (suc j) x _ some within e)
    ∙ ap (λ (k : ℕ). last_digits k (n / 16) ++ digit_glyph false (n % 16) ∷ drop (suc j) out) back
    ∙ sym (append_assoc (last_digits j (n / 16)) (digit_glyph false (n % 16) ∷ []) (drop (suc j) out))

-- all digits are written
pub all_written : (out : List ℕ) (i rest w n : ℕ) → i ≤ 0 → last_digits i rest ++ drop i out ≡ last_digits w n → hex w n ≡ last_digits w n → out ≡ hex w n
all_written out zero rest w n done e fits = e ∙ sym fits
all_written out (suc i) rest w n done e fits = absurd (omega arith)

-- digits that stand from an index of 64 on, with zeros in front
pub hex_parts : (width n first : ℕ) (out : List ℕ) → length out ≡ 64 → first ≤ 64 → drop first out ≡ digits 16 false n → hex width n ≡ replicate (width - (64 - first)) 48 ++ drop first out
unfolding hex
hex_parts width n first out size bound e =
    let len : length (digits 16 false n) ≡ 64 - first = sym (ap length e) ∙ (length-drop first out ∙ ap (λ k. k - first) size) in
    ap (λ k. replicate (width - k) 48 ++ digits 16 false n) len ∙ ap (λ ds. replicate (width - (64 - first)) 48 ++ ds) (sym e)

pub eight_zeros : hex 8 0 ≡ replicate 8 48
eight_zeros = hex_fits 8 0 (omega arith) (lit< tt) (lit< tt) ∙ zeros 8
