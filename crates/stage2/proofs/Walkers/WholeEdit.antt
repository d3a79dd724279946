-- What walkers see of a whole edit.
use Rattle.std.proofs.Common.{◌≡◌, ℕ, ◌^◌, ◌<◌, Bool, true, List, [], ◌∷◌, refl, arith}
use Rattle.stage2.proofs.Names.{View, PageRun, row_of, Pool, words_of, all_lie_in, Op, Walked, Layout, walked, Agrees, AtEachMoment, OpenCall, IsInStepIn, nothing, IsSteady, Moments, nat_tests, common_steps, Unmapped, eqb-true}
use Rattle.stage2.proofs.Walkers.InStep.{orderly-start}

pub at_each : (P Q : List Op → Type 0) → ((past : List Op) → P past → Q past) → (past : List Op) → AtEachMoment P past → AtEachMoment Q past
at_each P Q f [] h = f [] h
at_each P Q f (op ∷ past) h = (f (op ∷ past) h.0, at_each P Q f past h.1)

-- an edit of a row, from one pool to another
abbrev pub edit_of : Layout → Pool → ℕ → (ℕ → Bool) → (ℕ → Walked) → List PageRun → OpenCall
edit_of layout old row which answer cleared = record { layout = layout; entry = words_of old.memory.words; made = old.made; row = row; which = which; answer = answer; cleared = cleared }

module _ (layout : Layout) (old new : Pool) (before after : ℕ → ℕ → View) (row : ℕ) (which : ℕ → Bool) (answer : ℕ → Walked) (cleared : List PageRun)
    (o : IsInStepIn (edit_of layout old row which answer cleared) nothing new) (within : all_lie_in new ≡ true)
    (starts : Agrees layout (words_of old.memory.words) before) (ends : Agrees layout (words_of new.memory.words) after)
    (changed : (q n : ℕ) → n < 2 ^ 27 → row_of layout.ids q ≡ row → which n ≡ true → answer n ≡ walked n (after q n))
    (kept : (q n : ℕ) → n < 2 ^ 27 → row_of layout.ids q ≡ row → which n ≡ true → IsSteady before after q n → Unmapped ≡ walked n (before q n)) where
  pub moments-of : Moments layout old new before after
  moments-of = grind (arith, common_steps, nat_tests, at_each, eqb-true)

-- before the first operation
pub orderly-begun : (layout : Layout) (old new : Pool) (row : ℕ) (which : ℕ → Bool) (answer : ℕ → Walked) → new.memory ≡ old.memory → new.operations ≡ [] → new.made ≡ old.made → IsInStepIn (edit_of layout old row which answer []) nothing new
orderly-begun layout old new row which answer same none made = grind (arith, common_steps, nat_tests, orderly-start (edit_of layout old row which answer []) nothing refl)

-- nothing was done
pub moments-none : (layout : Layout) (old new : Pool) (before after : ℕ → ℕ → View) → Agrees layout (words_of old.memory.words) before → Agrees layout (words_of new.memory.words) after
    → new.memory ≡ old.memory → new.operations ≡ [] → new.made ≡ old.made → Moments layout old new before after
moments-none layout old new before after starts ends same none made =
    moments-of layout old new before after 0 nothing (λ n. Unmapped) [] (orderly-begun layout old new 0 nothing (λ n. Unmapped) same none made) (rw none refl) starts ends
    (λ q n small e which. absurd (cc))
    (λ q n small e which. absurd (cc))
