-- Pages that each of two things leaves alike are left alike by both.
use Rattle.std.proofs.Common.{◌≡◌, ℕ, ◌+◌, ◌<◌, List, ◌∷◌, length, drop, get_or, refl, sym, ap, subst, ◌∙◌, arith}
use Rattle.std.proofs.lemmas.List.{drop_more}
use Rattle.base.specs.Alike.{IsAlikeUntil}

pub alike-none : {A : Type 0} (f : ℕ → A) (page limit : ℕ) → page < limit → ((n : ℕ) → f n ≡ f page) → IsAlikeUntil f page limit limit
alike-none f page limit lt same = record { behind = lt; inside = omega arith; alike = λ n from to. same n }

-- what is made of two
pub alike-both : {A B C : Type 0} (join : A → B → C) (f : ℕ → A) (g : ℕ → B) (page limit until end : ℕ) → IsAlikeUntil f page limit until → IsAlikeUntil g page until end → IsAlikeUntil (λ n. join (f n) (g n)) page limit end
alike-both join f g page limit until end a b =
    record {
      behind = b.behind;
      inside = omega (arith, a.inside, b.inside);
      alike = λ n from to. let x = a.alike n from (omega (arith, to, b.inside)) in let y = b.alike n from to in rw (x, y) refl;
    }

-- the first of what is left of a list, and the others
pub one_more : {X : Type 0} (xs : List X) (i : ℕ) (x : X) → i < length xs → x ≡ get_or xs i x → drop i xs ≡ x ∷ drop (i + 1) xs
one_more xs i x lt is = drop_more xs i x lt ∙ ap (λ y. y ∷ drop (i + 1) xs) (sym is)

-- the first of a list, and the others: what is said of a page by a list is made of what they say
pub alike-more : {X A B : Type 0} (said : List X → ℕ → A) (of : X → ℕ → B) (join : X → B → A → A) → ((x : X) (xs : List X) (n : ℕ) → said (x ∷ xs) n ≡ join x (of x n) (said xs n))
    → (xs : List X) (i : ℕ) (x : X) (page limit until end : ℕ) → i < length xs → x ≡ get_or xs i x
    → IsAlikeUntil (of x) page limit until → IsAlikeUntil (said (drop (i + 1) xs)) page until end → IsAlikeUntil (said (drop i xs)) page limit end
alike-more said of join first xs i x page limit until end lt is one rest =
    let both = alike-both (join x) (of x) (said (drop (i + 1) xs)) page limit until end one rest in
    subst (λ ys. IsAlikeUntil (said ys) page limit end) (sym (one_more xs i x lt is)) (record {
      behind = both.behind;
      inside = both.inside;
      alike = λ n from to. first x (drop (i + 1) xs) n ∙ both.alike n from to ∙ sym (first x (drop (i + 1) xs) page);
    })
