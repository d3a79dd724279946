-- What places stand for of which some are empty, and which pages are filled.
use Rattle.pool.proofs.Names.{nat_tests, common_steps, held, with_zeros, IsFilled, IsPageFilled, AreMarked}
use Rattle.std.proofs.Common.{◌≡◌, ◌≢◌, ℕ, zero, suc, ◌+◌, ◌*◌, ◌/◌, ◌%◌, ◌<◌, ◌≤◌, ◌⊎◌, Bool, true, false, List, length, replicate, get_or, slice_index, slice_index_or, unwrap_or, is_some, Option, Some, None, refl, ap, ◌∙◌, arith, true≢false}
use Rattle.std.proofs.Math.ListN.{set, get_or-map}
use Rattle.std.proofs.Math.Nat.{div-add-mod, mod-lt}
use Rattle.std.proofs.Math.Seq.{map-set_same}
use Rattle.std.proofs.lemmas.List.{length-map, length-set, get_or-set_same, get_or-set_other}
use Rattle.pool.specs.Cells.{IsPageEmpty}
use Rattle.pool.proofs.Contents.{swept}

-- ---- single places

pub length-held : (cs : List (Option ℕ)) → length (held cs) ≡ length cs
length-held cs = length-map cs (λ c. unwrap_or c 0)

pub held-none : (cs : List (Option ℕ)) (i : ℕ) → get_or cs i None ≡ None → slice_index (held cs) i ≡ 0
held-none cs i is = get_or-map (λ c. unwrap_or c 0) cs i None ∙ ap (λ c. unwrap_or c 0) is

pub held-new : (n : ℕ) → held (replicate n None) ≡ replicate n 0
held-new zero = refl
held-new (suc n) = grind (arith, common_steps, held-new n)

is-some : (o : Option ℕ) → is_some o ≡ true → (x : ℕ) × (o ≡ Some x)
is-some None h = grind (arith, nat_tests)
is-some (Some x) h = (x, refl)

-- ---- the page of a place

pub filled-at : (cs : List (Option ℕ)) (page i : ℕ) → IsPageFilled cs page → i < 512 → IsFilled cs (512 * page + i)
filled-at cs page i filled lt = grind (arith, common_steps, filled i lt)

pub filled-place : (marks : List Bool) (cs : List (Option ℕ)) (place : ℕ) → AreMarked marks cs → slice_index_or marks (place / 512) false ≡ true → IsFilled cs place
filled-place marks cs place marked is = grind (arith, common_steps, nat_tests, is-some (get_or cs place None), div-add-mod place 512, mod-lt place, marked.filled (place / 512) is (place % 512))

pub empty-place : (marks : List Bool) (cs : List (Option ℕ)) (place : ℕ) → AreMarked marks cs → slice_index_or marks (place / 512) false ≡ false → get_or cs place None ≡ None
empty-place marks cs place marked is = grind (arith, common_steps, nat_tests, div-add-mod place 512, mod-lt place, marked.empty (place / 512))

-- ---- a page that is filled with zeros

pub length-zeros : (cs : List (Option ℕ)) (page n : ℕ) → length (with_zeros cs page n) ≡ length cs
unfolding with_zeros
length-zeros cs page zero = refl
length-zeros cs page (suc n) = length-set (with_zeros cs page n) (512 * page + n) (Some 0) ∙ length-zeros cs page n

pub zeros-none : (cs : List (Option ℕ)) (page : ℕ) → with_zeros cs page 0 ≡ cs
unfolding with_zeros
zeros-none cs page = refl

pub zeros-next : (cs : List (Option ℕ)) (page n : ℕ) → with_zeros cs page (n + 1) ≡ set (with_zeros cs page n) (512 * page + n) (Some 0)
unfolding with_zeros
zeros-next cs page n = grind (arith, common_steps)

pub zeros-beside : (cs : List (Option ℕ)) (page n k : ℕ) → (k < 512 * page) ⊎ (512 * page + n ≤ k) → get_or (with_zeros cs page n) k None ≡ get_or cs k None
unfolding with_zeros
zeros-beside cs page zero k beside = refl
zeros-beside cs page (suc n) k beside = grind (arith, common_steps, nat_tests, get_or-set_other, zeros-beside cs page n k)

zeros-done : (cs : List (Option ℕ)) (page n i : ℕ) → i < n → 512 * page + n ≤ length cs → get_or (with_zeros cs page n) (512 * page + i) None ≡ Some 0
unfolding with_zeros
zeros-done cs page zero i lt inside = absurd (omega (arith, lt))
zeros-done cs page (suc n) i lt inside = grind (arith, common_steps, nat_tests, length-zeros cs page n, get_or-set_same, get_or-set_other, zeros-done cs page n i)

pub held-zeros : (cs : List (Option ℕ)) (page n : ℕ) → n ≤ 512 → IsPageEmpty cs page → held (with_zeros cs page n) ≡ held cs
unfolding with_zeros
held-zeros cs page zero most empty = refl
held-zeros cs page (suc n) most empty = grind (arith, common_steps, nat_tests, empty n, zeros-beside cs page n (512 * page + n), held-zeros cs page n, map-set_same (λ c. unwrap_or c 0) (with_zeros cs page n) (512 * page + n) (Some 0) None)

apart : (q page i n : ℕ) → q ≢ page → i < 512 → n ≡ 512 → (512 * q + i < 512 * page) ⊎ (512 * page + n ≤ 512 * q + i)
apart q page i n other lt is = grind (arith, nat_tests)

pub marked-fill : (marks : List Bool) (cs : List (Option ℕ)) (page n : ℕ) → n ≡ 512 → page < length marks → 512 * page + n ≤ length cs → AreMarked marks cs → AreMarked (set marks page true) (with_zeros cs page n)
marked-fill marks cs page n is inside room marked = grind (arith, nat_tests, zeros-done, zeros-beside, get_or-set_other, true≢false, get_or-set_same)

-- ---- places that are emptied one after another

pub swept-empty : (cs : List (Option ℕ)) (place : ℕ) → place < length cs → get_or cs place None ≡ None → swept None place cs ≡ swept None (place + 1) cs
swept-empty cs place inside none = grind (arith, common_steps, nat_tests)
