-- No line has more than ten words.
use Rattle.std.proofs.Common.{◌≡◌, ℕ, ◌<◌, Bool, true, false, cond, List, [], ◌∷◌, length, Option, Some, None, option_map, codes, bytes_eq, refl, sym, ap, ◌∙◌, arith, get_or, ltb}
use borrow.Author.Tests.{ne_eqb}
use Rattle.base.specs.declared.transaction.Kind.TheVariants.{Share, Lend, Donate}
use Rattle.lines.specs.Lines.{number_of, id_of, permissions_of, is_nothing}
use Rattle.lines.specs.Said.{Said, Nothing, Call, Send, Retrieve, Relinquish, Reclaim}
use Rattle.lines.specs.Grammar.{◌>>=◌, ranges_of, receivers_of, total_of, type_of, call_of, send_of, retrieve_of, relinquish_of, reclaim_of, named, line_of_words, line_of, parted_by}
use Rattle.lines.proofs.Parts.{registers_many}

-- what follows is none
later : {A B : Type 0} (o : Option A) (f : A → Option B) → ((x : A) → f x ≡ None) → (o >>= f) ≡ None
later None f h = refl
later (Some x) f h = h x

if_both : (b : Bool) (x y : Option Said) → x ≡ None → y ≡ None → cond b x y ≡ None
if_both true x y h k = h
if_both false x y h k = k

module _ (a b c d e f g h i j : List ℕ) (more : List (List ℕ)) where
  words : List (List ℕ)
  words = a ∷ b ∷ c ∷ d ∷ e ∷ f ∷ g ∷ h ∷ i ∷ j ∷ more

  call_none : call_of words ≡ None
  unfolding words
  call_none = later (id_of a) _ (λ p. ap (λ o. o >>= λ registers. Some (Call p registers)) (sym (registers_many (b ∷ c ∷ d ∷ e ∷ f ∷ g ∷ h ∷ i ∷ j ∷ more) (omega arith))))

  send_none : send_of words ≡ None
  unfolding words
  send_none = later (ranges_of d) _ (λ ranges. later (id_of a) _ (λ sender. later (number_of b) _ (λ tag. later (receivers_of c) _ (λ receivers. later (total_of ranges) _ (λ total. refl)))))

  retrieve_none : retrieve_of words ≡ None
  unfolding words
  retrieve_none = later (id_of a) _ (λ p. later (number_of b) _ (λ handle. later (id_of c) _ (λ sender. later (number_of d) _ (λ tag. later (type_of e) _ (λ kind. later (permissions_of f) _ (λ permissions. refl))))))

  relinquish_none : relinquish_of words ≡ None
  unfolding words
  relinquish_none = later (id_of a) _ (λ p. later (number_of b) _ (λ handle. refl))

  reclaim_none : reclaim_of words ≡ None
  unfolding words
  reclaim_none = later (id_of a) _ (λ p. later (number_of b) _ (λ handle. refl))

  named_none : (name : List ℕ) → named name (a ∷ b ∷ c ∷ d ∷ e ∷ f ∷ g ∷ h ∷ i ∷ j ∷ more) ≡ None
  unfolding words
  named_none name =
      if_both (bytes_eq name (codes "tx")) _ _ refl
      (if_both (bytes_eq name (codes "call")) _ _ call_none
      (if_both (bytes_eq name (codes "share")) _ _ (ap (option_map (Send Share)) send_none)
      (if_both (bytes_eq name (codes "lend")) _ _ (ap (option_map (Send Lend)) send_none)
      (if_both (bytes_eq name (codes "donate")) _ _ (ap (option_map (Send Donate)) send_none)
      (if_both (bytes_eq name (codes "retrieve")) _ _ (ap (option_map Retrieve) retrieve_none)
      (if_both (bytes_eq name (codes "relinquish")) _ _ (ap (option_map Relinquish) relinquish_none)
      (if_both (bytes_eq name (codes "reclaim")) _ _ (ap (option_map Reclaim) reclaim_none)
      (if_both (bytes_eq name (codes "maps")) _ _ refl
      (if_both (bytes_eq name (codes "tables")) _ _ refl
      (if_both (bytes_eq name (codes "owners")) _ _ refl
      (if_both (bytes_eq name (codes "ops")) _ _ refl
      (if_both (bytes_eq name (codes "audit")) _ _ refl refl))))))))))))

pub too_many : (ws : List (List ℕ)) → 10 < length ws → line_of_words ws ≡ None
too_many (name ∷ a ∷ b ∷ c ∷ d ∷ e ∷ f ∷ g ∷ h ∷ i ∷ j ∷ more) many = named_none a b c d e f g h i j more name
too_many ws many = absurd (omega arith)

pub not_nothing : (bytes : List ℕ) → 0 < length bytes → (get_or bytes 0 0 ≡ 35 → ⊥) → is_nothing bytes ≡ false
not_nothing [] some other = absurd (omega arith)
not_nothing (byte ∷ bytes) some other = ne_eqb byte 35 other

-- what is not nothing, and no words of a line, is no line
pub no_line : (bytes : List ℕ) → is_nothing bytes ≡ false → line_of_words (parted_by 32 bytes) ≡ None → None ≡ line_of bytes
unfolding line_of
no_line bytes other none = sym (if_both (ltb 66000 (length bytes)) None _ refl (ap (λ b. cond b (Some Nothing) (line_of_words (parted_by 32 bytes))) other ∙ none))
