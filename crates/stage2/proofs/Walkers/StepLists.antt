-- Lists of operations that keep an edit in step.
use Rattle.std.proofs.Common.{◌≡◌, ◌≢◌, ℕ, ◌+◌, ◌*◌, ◌/◌, ◌%◌, ◌^◌, ◌<◌, Bool, true, eqb, List, [], ◌∷◌, ◌++◌, Option, Some, None, length, refl, arith, ap, sym, subst, ◌∙◌, ◌⊎◌, inl, inr}
use Rattle.stage2.proofs.Names.{nat_tests, View, row_of, Pool, Words, words_of, put, Op, Set, Invalidate, Clear, Walked, Layout, slot, at_2, Place, Gigabyte, Chunk, next_page, table_at, IsPlace, IsForest, counted, Made, AreSets, Filled, replaced, words_after, IsInvalid, OpenCall, MayGive, IsInStep, IsInStepIn, nothing, StaysInStep, common_steps, Unmapped, cases_Bool}
use Rattle.stage2.specs.inner.History.{broken}
use Rattle.stage2.proofs.Tree.WalkFrame.{put-same, IsUnheld, table_at-unheld, IsLevel2Write, table_at-level_2, table_at-level_2-other, walk-level_2}
use Rattle.stage2.proofs.Tree.RootWrites.{is_chunk, forest-level_2}
use Rattle.stage2.proofs.Walkers.Level3Write.{slot-zero}
use Rattle.stage2.proofs.Tree.PutTwice.{put-twice, put-there}
use Rattle.stage2.proofs.Walkers.InStep.{orderly-invalidate}
use Rattle.stage2.proofs.Walkers.TableWrites.{orderly-unheld, orderly-level_2, orderly-cut_chunk, level_2-zero}
use Rattle.stage2.proofs.Walkers.ZeroedTables.{counted-more}

-- ---- counting

counted-made : (ops past : List Op) (before made : ℕ) → made % 2 ^ 64 ≡ (before + length past) % 2 ^ 64 → counted ops made % 2 ^ 64 ≡ (before + length (ops ++ past)) % 2 ^ 64
counted-made [] past before made h = h
counted-made (op ∷ ops) past before made h = counted-more before (length (ops ++ past)) (counted ops made) (counted (op ∷ ops) made) (counted-made ops past before made h) refl

-- a list of operations that keeps an edit in step, between two pools
pub made-in-step : (e : OpenCall) (due more : ℕ → Bool) (ops : List Op) (old new : Pool) → Made ops old new → IsInStepIn e due old
    → IsInStep e more (words_after ops (words_of old.memory.words)) (ops ++ old.operations) → IsInStepIn e more new
made-in-step e due more ops old new made o done = grind (arith, common_steps, nat_tests, counted-made)

-- ---- a page that hangs nowhere is filled, or set to 0

unheld-sets : (layout : Layout) (words : Words) (k c b : ℕ) (plan : ℕ → Option View) (ops : List Op) → AreSets k c plan b ops → IsUnheld layout words k → IsUnheld layout (words_after ops words) k
unheld-sets layout words k c b plan [] s h = h
unheld-sets layout words k c b plan (Set q i word ∷ ops) s h = grind (arith, common_steps, nat_tests, table_at-unheld, unheld-sets layout words k c i plan ops s.3 h)
unheld-sets layout words k c b plan (Invalidate p run ∷ ops) s h = absurd s
unheld-sets layout words k c b plan (Clear run ∷ ops) s h = absurd s

sets-unheld : (e : OpenCall) (due : ℕ → Bool) (words : Words) (past : List Op) (k c b : ℕ) (plan : ℕ → Option View) (ops : List Op) → AreSets k c plan b ops → IsUnheld e.layout words k → IsInStep e due words past
    → IsInStep e due (words_after ops words) (ops ++ past)
sets-unheld e due words past k c b plan [] s h o = o
sets-unheld e due words past k c b plan (Set q i word ∷ ops) s h o =
    orderly-unheld e due (words_after ops words) (ops ++ past) q i word (subst (λ x. IsUnheld e.layout (words_after ops words) x) (sym s.0) (unheld-sets e.layout words k c i plan ops s.3 h)) (sets-unheld e due words past k c i plan ops s.3 h o)
sets-unheld e due words past k c b plan (Invalidate p run ∷ ops) s h o = absurd s
sets-unheld e due words past k c b plan (Clear run ∷ ops) s h o = absurd s

pub filled-unheld : (e : OpenCall) (due : ℕ → Bool) (layout : Layout) (k c b : ℕ) (plan : ℕ → Option View) (old new : Pool) → Filled k c b plan old new → e.layout ≡ layout → IsUnheld layout (words_of old.memory.words) k → IsInStepIn e due old → IsInStepIn e due new
filled-unheld e due layout k c b plan old new f same h o =
    let here : IsUnheld e.layout (words_of old.memory.words) k = subst (λ (l : Layout). IsUnheld l (words_of old.memory.words) k) (sym same) h in
    made-in-step e due due f.ops old new f.made o (sets-unheld e due (words_of old.memory.words) old.operations k c b plan f.ops f.sets here o.orderly)

pub stays-filled : {layout : Layout} {row k c b : ℕ} {plan : ℕ → Option View} {which : ℕ → Bool} {answer : ℕ → Walked} {old new : Pool} → Filled k c b plan old new → IsUnheld layout (words_of old.memory.words) k → StaysInStep layout row which answer old new
stays-filled {layout} {row} {k} {c} {b} {plan} {which} {answer} {old} {new} f h e allows o = filled-unheld e nothing layout k c b plan old new f allows.same_layout h o

-- ---- the word of a chunk, in a level 2 table that hangs or that hangs nowhere as yet

abbrev pub IsHung : Layout → Words → ℕ → ℕ → ℕ → Type 0
IsHung layout words row c j = (IsForest layout words × (table_at layout words (Gigabyte row (c / 512)) ≡ Some j)) ⊎ IsUnheld layout words j

pub level_2-write : (layout : Layout) (words : Words) (row c j word : ℕ) → row < length layout.ids → c < 262144 → IsForest layout words → table_at layout words (Gigabyte row (c / 512)) ≡ Some j → ((k : ℕ) → next_page (slot layout 2 word) ≡ Some k → IsUnheld layout words k)
    → IsLevel2Write layout words row (c / 512) j (c % 512) word
level_2-write layout words row c j word partition small forest table fresh = record { forest = forest; partition = partition; gigabyte = omega arith; index = omega arith; table = table; fresh = fresh }

-- the word becomes 0
pub hung-cut : (layout : Layout) (words : Words) (row c j : ℕ) → row < length layout.ids → c < 262144 → IsHung layout words row c j → IsHung layout (put j (c % 512) 0 words) row c j
hung-cut layout words row c j partition small hung = grind (arith, common_steps, nat_tests, level_2-zero, forest-level_2, table_at-level_2-other, table_at-unheld)

cut-step : (e : OpenCall) (words : Words) (past : List Op) (p c j : ℕ) → e.row < length e.layout.ids → c < 262144 → IsHung e.layout words e.row c j → row_of e.layout.ids p ≡ e.row
    → ((x : ℕ) → x < 2 ^ 27 → x / 512 ≡ c → MayGive e e.row x Unmapped) → IsInStep e nothing words past
    → IsInStep e nothing (put j (c % 512) 0 words) (Invalidate p (record { first = 512 * c; count = 512 }) ∷ Set j (c % 512) 0 ∷ past)
cut-step e words past p c j partition small (inl h) is may o =
    let whole : 512 * (c / 512) + c % 512 ≡ c = omega arith in
    let O : ℕ → Type 0 = λ x. IsInStep e nothing (put j (c % 512) 0 words) (Invalidate p (record { first = 512 * x; count = 512 }) ∷ Set j (c % 512) 0 ∷ past) in
    subst O whole (orderly-cut_chunk e nothing words past (c / 512) j (c % 512) p (level_2-zero e.layout words e.row c j h.0 partition small h.1) is (λ x below at. may x below (at ∙ whole)) o)
cut-step e words past p c j partition small (inr h) is may o =
    orderly-invalidate e nothing nothing (put j (c % 512) 0 words) (Set j (c % 512) 0 ∷ past) p (record { first = 512 * c; count = 512 }) (orderly-unheld e nothing words past j (c % 512) 0 h o) is (λ n below f g. refl)

make-step : (e : OpenCall) (words : Words) (past : List Op) (c j word : ℕ) → e.row < length e.layout.ids → c < 262144 → IsHung e.layout words e.row c j → IsInvalid (words j (c % 512))
    → ((k : ℕ) → next_page (slot e.layout 2 word) ≡ Some k → IsUnheld e.layout words k)
    → ((x : ℕ) → x < 2 ^ 27 → x / 512 ≡ c → MayGive e e.row x (at_2 e.layout (put j (c % 512) word words) x (slot e.layout 2 word))) → IsInStep e nothing words past
    → IsInStep e nothing (put j (c % 512) word words) (Set j (c % 512) word ∷ past)
make-step e words past c j word partition small (inl h) invalid fresh may o = grind (arith, common_steps, nat_tests, level_2-write e.layout words e.row c j word partition small h.0 h.1 fresh, orderly-level_2, walk-level_2)
make-step e words past c j word partition small (inr h) invalid fresh may o = orderly-unheld e nothing words past j (c % 512) word h o

broken-step : (e : OpenCall) (words : Words) (past : List Op) (p c j : ℕ) → e.row < length e.layout.ids → c < 262144 → IsHung e.layout words e.row c j → row_of e.layout.ids p ≡ e.row
    → ((x : ℕ) → x < 2 ^ 27 → x / 512 ≡ c → MayGive e e.row x Unmapped) → IsInStep e nothing words past
    → IsInStep e nothing (words_after (broken p j c (words j (c % 512))) words) (broken p j c (words j (c % 512)) ++ past)
broken-step e words past p c j partition small hung is may o = grind (arith, common_steps, nat_tests, cut-step)

broken-words : (words : Words) (p c j : ℕ) → words_after (broken p j c (words j (c % 512))) words ≡ put j (c % 512) 0 words
broken-words words p c j = grind (arith, common_steps, nat_tests, put-there)

-- a page that hangs nowhere but at the chunk hangs nowhere once the chunk has no table
pub unheld-word : (layout : Layout) (words : Words) (row c j word k : ℕ) → row < length layout.ids → c < 262144 → IsHung layout words row c j → next_page (slot layout 2 word) ≡ None
    → ((a : Place) → IsPlace layout a → a ≢ Chunk row c → table_at layout words a ≡ Some k → ⊥) → (IsUnheld layout words j → IsUnheld layout words k) → IsUnheld layout (put j (c % 512) word words) k
unheld-word layout words row c j word k partition small hung none free loose a inside at = grind (arith, common_steps, nat_tests, table_at-unheld, level_2-write, table_at-level_2, is_chunk, table_at-level_2-other)

unheld-cut : (layout : Layout) (words : Words) (row c j k : ℕ) → row < length layout.ids → c < 262144 → IsHung layout words row c j → IsUnheld layout words k → IsUnheld layout (put j (c % 512) 0 words) k
unheld-cut layout words row c j k partition small hung free = unheld-word layout words row c j 0 k partition small hung (ap next_page (slot-zero layout 2)) (λ a inside other. free a inside) (λ loose. free)

-- the word is replaced: if it was valid it is cut off first
pub replace-step : (e : OpenCall) (words : Words) (past : List Op) (p c j word : ℕ) → e.row < length e.layout.ids → c < 262144 → IsHung e.layout words e.row c j → row_of e.layout.ids p ≡ e.row
    → ((x : ℕ) → x < 2 ^ 27 → x / 512 ≡ c → MayGive e e.row x Unmapped) → ((k : ℕ) → next_page (slot e.layout 2 word) ≡ Some k → IsUnheld e.layout words k)
    → ((x : ℕ) → x < 2 ^ 27 → x / 512 ≡ c → MayGive e e.row x (at_2 e.layout (put j (c % 512) word words) x (slot e.layout 2 word))) → IsInStep e nothing words past
    → IsInStep e nothing (words_after (replaced p j c (words j (c % 512)) word) words) (replaced p j c (words j (c % 512)) word ++ past)
replace-step e words past p c j word partition small hung is none fresh may o =
    let b = broken p j c (words j (c % 512)) in
    let first = broken-step e words past p c j partition small hung is none o in
    let cut : IsInStep e nothing (put j (c % 512) 0 words) (b ++ past) = subst (λ (w : Words). IsInStep e nothing w (b ++ past)) (broken-words words p c j) first in
    let second : IsInStep e nothing (put j (c % 512) word (put j (c % 512) 0 words)) (Set j (c % 512) word ∷ (b ++ past)) =
    make-step e (put j (c % 512) 0 words) (b ++ past) c j word partition small (hung-cut e.layout words e.row c j partition small hung) (ap (λ x. x % 2) (put-same words j (c % 512) 0))
    (λ k next. unheld-cut e.layout words e.row c j k partition small hung (fresh k next))
    (λ x below at. subst (λ (w : Words). MayGive e e.row x (at_2 e.layout w x (slot e.layout 2 word))) (sym (put-twice words j (c % 512) 0 word)) (may x below at)) cut in
    elim (cases_Bool (eqb word 0)) [
      | inl t ↦ rw t first
      | inr f ↦ rw f (subst (λ (w : Words). IsInStep e nothing (put j (c % 512) word w) (Set j (c % 512) word ∷ (b ++ past))) (sym (broken-words words p c j)) second)
    ]

pub stays-replaced : {layout : Layout} {row c j : ℕ} (p word : ℕ) {answer : ℕ → Walked} {old new : Pool} → row < length layout.ids → c < 262144 → IsHung layout (words_of old.memory.words) row c j → row_of layout.ids p ≡ row
    → ((k : ℕ) → next_page (slot layout 2 word) ≡ Some k → IsUnheld layout (words_of old.memory.words) k)
    → ((x : ℕ) → x < 2 ^ 27 → x / 512 ≡ c → at_2 layout (put j (c % 512) word (words_of old.memory.words)) x (slot layout 2 word) ≡ answer x)
    → Made (replaced p j c (words_of old.memory.words j (c % 512)) word) old new → StaysInStep layout row (λ n. eqb (n / 512) c) answer old new
stays-replaced {layout} {row} {c} {j} p word {answer} {old} {new} partition small hung is fresh gives made e allows o =
    let words = words_of old.memory.words in
    let at_c : (x : ℕ) → x / 512 ≡ c → eqb (x / 512) c ≡ true = λ x at. grind (arith, nat_tests) in
    let hung_here : IsHung e.layout words e.row c j = rw (allows.same_layout, allows.same_row) hung in
    made-in-step e nothing nothing (replaced p j c (words j (c % 512)) word) old new made o
    (replace-step e words old.operations p c j word (rw (allows.same_layout, allows.same_row) partition) small hung_here (rw (allows.same_layout, allows.same_row) is)
    (λ x below at. (allows.may x below (at_c x at)).0) (subst (λ (l : Layout). (k : ℕ) → next_page (slot l 2 word) ≡ Some k → IsUnheld l words k) (sym allows.same_layout) fresh)
    (λ x below at. let told : at_2 e.layout (put j (c % 512) word words) x (slot e.layout 2 word) ≡ answer x = rw allows.same_layout (gives x below at) in
    subst (λ (a : Walked). MayGive e e.row x a) (sym told) (allows.may x below (at_c x at)).1) o.orderly)
