-- Lists of eight.
use Rattle.std.proofs.Common.{◌≡◌, ℕ, ◌<◌, ◌+◌, suc, List, [], ◌∷◌, ◌++◌, length, get_or, drop, refl, sym, ap, ◌∙◌, arith}
use Rattle.std.proofs.lemmas.List.{drop_all}
use Rattle.std.proofs.Math.Seq.{drop-cons}

module _ {A : Type 0} (xs : List A) (count : length xs ≡ 8) where
  step : (k : ℕ) (x : A) → k < 8 → x ≡ get_or xs k x → drop k xs ≡ x ∷ drop (suc k) xs
  step k x less is = drop-cons xs k x (omega arith) ∙ ap (λ y. y ∷ drop (suc k) xs) (sym is)

  -- a list of eight by its elements
  pub eight : (a b c d e f g h : A) → a ≡ get_or xs 0 a → b ≡ get_or xs 1 b → c ≡ get_or xs 2 c → d ≡ get_or xs 3 d → e ≡ get_or xs 4 e → f ≡ get_or xs 5 f
      → g ≡ get_or xs 6 g → h ≡ get_or xs 7 h → a ∷ b ∷ c ∷ d ∷ e ∷ f ∷ g ∷ h ∷ [] ≡ xs
  eight a b c d e f g h p0 p1 p2 p3 p4 p5 p6 p7 =
      let s7 : drop 7 xs ≡ h ∷ [] = step 7 h (omega arith) p7 ∙ ap (λ ys. h ∷ ys) (drop_all 8 xs (omega arith)) in
      let s6 : drop 6 xs ≡ g ∷ h ∷ [] = step 6 g (omega arith) p6 ∙ ap (λ ys. g ∷ ys) s7 in
      let s5 : drop 5 xs ≡ f ∷ g ∷ h ∷ [] = step 5 f (omega arith) p5 ∙ ap (λ ys. f ∷ ys) s6 in
      let s4 : drop 4 xs ≡ e ∷ f ∷ g ∷ h ∷ [] = step 4 e (omega arith) p4 ∙ ap (λ ys. e ∷ ys) s5 in
      let s3 : drop 3 xs ≡ d ∷ e ∷ f ∷ g ∷ h ∷ [] = step 3 d (omega arith) p3 ∙ ap (λ ys. d ∷ ys) s4 in
      let s2 : drop 2 xs ≡ c ∷ d ∷ e ∷ f ∷ g ∷ h ∷ [] = step 2 c (omega arith) p2 ∙ ap (λ ys. c ∷ ys) s3 in
      let s1 : drop 1 xs ≡ b ∷ c ∷ d ∷ e ∷ f ∷ g ∷ h ∷ [] = step 1 b (omega arith) p1 ∙ ap (λ ys. b ∷ ys) s2 in
      let s0 : drop 0 xs ≡ a ∷ b ∷ c ∷ d ∷ e ∷ f ∷ g ∷ h ∷ [] = step 0 a (omega arith) p0 ∙ ap (λ ys. a ∷ ys) s1 in
      sym s0
