-- Words of a level 3 table that hangs are written, and what walks under way see of it.
use Rattle.std.proofs.Common.{◌≡◌, ℕ, ◌+◌, ◌*◌, ◌/◌, ◌%◌, ◌<◌, ◌≤◌, Bool, true, ◌&&◌, ◌||◌, eqb, List, [], ◌∷◌, ◌++◌, Option, Some, None, refl, arith, ap, sym, subst, ◌∙◌, inl, inr}
use Rattle.stage2.proofs.Names.{nat_tests, PageRun, covers, View, Pool, Words, words_of, put, Op, Set, Invalidate, Clear, Walked, Layout, slot, index_1, at_3, walk, walked, Gigabyte, Chunk, planned, AreSets, Filled, words_after, IsInvalid, OpenCall, MayGive, IsInStep, nothing, LeavesDue, StaysInStep, common_steps, Unmapped}
use Rattle.stage2.proofs.Tree.WalkFrame.{put-other, IsUnheld, IsLevel3Write, table_at-level_3, walk-level_3, walk-level_3-other, page-walk}
use Rattle.stage2.proofs.Walkers.Level3Write.{slot-zero, at_3-word}
use Rattle.stage2.proofs.Tree.RootWrites.{is_pair}
use Rattle.stage2.proofs.Walkers.InStep.{may-now, orderly-set, orderly-weaker}
use Rattle.stage2.proofs.Walkers.BreakBeforeMake.{invalid-empty}
use Rattle.stage2.proofs.Walkers.TableWrites.{fine-same, fine-made, breaks-invalid}
use Rattle.stage2.proofs.Walkers.ZeroedTables.{breaks-zero, clears-none}
use Rattle.stage2.proofs.Walkers.StepLists.{made-in-step, filled-unheld}

-- ---- one word of a table that hangs at a chunk

module _ (layout : Layout) (words : Words) (row c k i : ℕ) (h : IsLevel3Write layout words row c k) (small : i < 512) where
  here-word : (word n : ℕ) → n ≡ 512 * c + i → walk layout (put k i word words) row n ≡ at_3 (slot layout 3 word)
  here-word word n e = ap (walk layout (put k i word words) row) e ∙ walk-level_3 layout words row c k i word h small

  was-word : (n : ℕ) → n ≡ 512 * c + i → walk layout words row n ≡ at_3 (slot layout 3 (words k i))
  was-word n e = ap (walk layout words row) e ∙ page-walk layout words row c i k h.partition small h.table

-- an invalid word becomes valid
make-word : (e : OpenCall) (words : Words) (past : List Op) (c k i word : ℕ) → IsLevel3Write e.layout words e.row c k → i < 512 → IsInvalid (words k i) → MayGive e e.row (512 * c + i) (at_3 (slot e.layout 3 word)) → IsInStep e nothing words past
    → IsInStep e nothing (put k i word words) (Set k i word ∷ past)
make-word e words past c k i word h small invalid may o =
    orderly-set e nothing nothing words past k i word o
    (λ r x inside below. elim (is_pair e.row (512 * c + i) r x) [
      | inl at ↦ grind (arith, common_steps, nat_tests, at.0, was-word e.layout words e.row c k i h small x at.1, invalid-empty e.layout 3 (words k i) invalid, here-word e.layout words e.row c k i h small word x at.1, at.1, fine-made, table_at-level_3)
      | inr apart ↦ grind (arith, common_steps, nat_tests, fine-same, table_at-level_3, walk-level_3-other e.layout words e.row c k i word h r x below apart, may-now e nothing words past o r x inside below)
    ])
    (breaks-invalid e words past k i word o invalid)

-- a word becomes 0, of a page whose invalidation is due
clear-word : (e : OpenCall) (due : ℕ → Bool) (words : Words) (past : List Op) (c k i word : ℕ) → IsLevel3Write e.layout words e.row c k → i < 512 → word ≡ 0 → due (512 * c + i) ≡ true → MayGive e e.row (512 * c + i) Unmapped → IsInStep e due words past
    → IsInStep e due (put k i word words) (Set k i word ∷ past)
clear-word e due words past c k i word h small is_zero is_due may o =
    let new = put k i word words in
    orderly-set e due due words past k i word o
    (λ r x inside below. elim (is_pair e.row (512 * c + i) r x) [
      | inl at ↦
          let gone : walk e.layout new r x ≡ Unmapped = rw at.0 (here-word e.layout words e.row c k i h small word x at.1) ∙ ap (λ w. at_3 (slot e.layout 3 w)) is_zero ∙ ap at_3 (slot-zero e.layout 3) in
          record {
            gigabyte = λ j f. table_at-level_3 e.layout words e.row c k i word h (Gigabyte r (index_1 x)) (inside, omega arith) ∙ f;
            chunk = λ j f. table_at-level_3 e.layout words e.row c k i word h (Chunk r (x / 512)) (inside, omega arith) ∙ f;
            may = rw (gone, at.0, at.1) may;
            owed = λ free. absurd (grind (arith, common_steps, nat_tests, at.0, ap due at.1 ∙ is_due, free));
          }
      | inr apart ↦ grind (arith, common_steps, nat_tests, fine-same, table_at-level_3, walk-level_3-other e.layout words e.row c k i word h r x below apart, may-now e due words past o r x inside below)
    ])
    (λ a inside at. rw is_zero (breaks-zero e.layout e.entry past k i))

-- ---- all that are planned

sets-level_3 : (layout : Layout) (words : Words) (row c k b : ℕ) (plan : ℕ → Option View) (ops : List Op) → AreSets k c plan b ops → IsLevel3Write layout words row c k → IsLevel3Write layout (words_after ops words) row c k
sets-level_3 layout words row c k b plan [] s h = h
sets-level_3 layout words row c k b plan (Set q i word ∷ ops) s h = grind (arith, common_steps, nat_tests, table_at-level_3, sets-level_3 layout words row c k i plan ops s.3 h)
sets-level_3 layout words row c k b plan (Invalidate p run ∷ ops) s h = absurd s
sets-level_3 layout words row c k b plan (Clear run ∷ ops) s h = absurd s

-- a word that is not reached yet
sets-above : (words : Words) (k c b : ℕ) (plan : ℕ → Option View) (ops : List Op) (x : ℕ) → AreSets k c plan b ops → b ≤ x → words_after ops words k x ≡ words k x
sets-above words k c b plan [] x s le = refl
sets-above words k c b plan (Set q i word ∷ ops) x s le = grind (arith, common_steps, nat_tests, put-other, sets-above words k c i plan ops x s.3 (omega arith))
sets-above words k c b plan (Invalidate p run ∷ ops) x s le = absurd s
sets-above words k c b plan (Clear run ∷ ops) x s le = absurd s

-- a plan that gives these answers, and no others
abbrev pub PlansOnly : ℕ → (ℕ → Option View) → (ℕ → Bool) → View → Type 0
PlansOnly c plan which access = (i : ℕ) (answer : View) → i < 512 → plan (512 * c + i) ≡ Some answer → (answer ≡ access) × (which (512 * c + i) ≡ true)

sets-made : (e : OpenCall) (words : Words) (past : List Op) (k c b : ℕ) (plan : ℕ → Option View) (which : ℕ → Bool) (access : View) (ops : List Op) → AreSets k c plan b ops → b ≤ 512 → PlansOnly c plan which access → IsLevel3Write e.layout words e.row c k
    → ((i : ℕ) → i < 512 → which (512 * c + i) ≡ true → IsInvalid (words k i) × MayGive e e.row (512 * c + i) (walked (512 * c + i) access)) → IsInStep e nothing words past → IsInStep e nothing (words_after ops words) (ops ++ past)
sets-made e words past k c b plan which access [] s le only h each o = o
sets-made e words past k c b plan which access (Set q i word ∷ ops) s le only h each o =
    let small : i < 512 = omega arith in
    let is = only i s.2.0 small s.2.1 in
    let one = each i small is.1 in
    let before = sets-made e words past k c i plan which access ops s.3 (omega arith) only h each o in
    let table = sets-level_3 e.layout words e.row c k i plan ops s.3 h in
    let invalid : IsInvalid (words_after ops words k i) = ap (λ x. x % 2) (sets-above words k c i plan ops i s.3 (omega arith)) ∙ one.0 in
    let gives : at_3 (slot e.layout 3 word) ≡ walked (512 * c + i) access = at_3-word e.layout (512 * c + i) word s.2.0 s.2.2.entry ∙ ap (walked (512 * c + i)) is.0 in
    let done = make-word e (words_after ops words) (ops ++ past) c k i word table small invalid (subst (λ (a : Walked). MayGive e e.row (512 * c + i) a) (sym gives) one.1) before in
    subst (λ x. IsInStep e nothing (put x i word (words_after ops words)) (Set x i word ∷ (ops ++ past))) (sym s.0) done
sets-made e words past k c b plan which access (Invalidate p run ∷ ops) s le only h each o = absurd s
sets-made e words past k c b plan which access (Clear run ∷ ops) s le only h each o = absurd s

sets-cleared : (e : OpenCall) (due : ℕ → Bool) (words : Words) (past : List Op) (k c b : ℕ) (plan : ℕ → Option View) (which : ℕ → Bool) (ops : List Op) → AreSets k c plan b ops → b ≤ 512 → PlansOnly c plan which None → IsLevel3Write e.layout words e.row c k
    → ((i : ℕ) → i < 512 → which (512 * c + i) ≡ true → (due (512 * c + i) ≡ true) × MayGive e e.row (512 * c + i) Unmapped) → IsInStep e due words past → IsInStep e due (words_after ops words) (ops ++ past)
sets-cleared e due words past k c b plan which [] s le only h each o = o
sets-cleared e due words past k c b plan which (Set q i word ∷ ops) s le only h each o =
    let small : i < 512 = omega arith in
    let is = only i s.2.0 small s.2.1 in
    let one = each i small is.1 in
    let before = sets-cleared e due words past k c i plan which ops s.3 (omega arith) only h each o in
    let done = clear-word e due (words_after ops words) (ops ++ past) c k i word (sets-level_3 e.layout words e.row c k i plan ops s.3 h) small (s.2.2.zero is.0) one.0 one.1 before in
    subst (λ x. IsInStep e due (put x i word (words_after ops words)) (Set x i word ∷ (ops ++ past))) (sym s.0) done
sets-cleared e due words past k c b plan which (Invalidate p run ∷ ops) s le only h each o = absurd s
sets-cleared e due words past k c b plan which (Clear run ∷ ops) s le only h each o = absurd s

-- ---- of a pool

pub stays-made : {layout : Layout} {row k c : ℕ} {plan : ℕ → Option View} {which : ℕ → Bool} {access : View} {old new : Pool} → Filled k c 512 plan old new → PlansOnly c plan which access → IsLevel3Write layout (words_of old.memory.words) row c k
    → ((i : ℕ) → i < 512 → which (512 * c + i) ≡ true → IsInvalid (words_of old.memory.words k i)) → StaysInStep layout row which (λ n. walked n access) old new
stays-made {layout} {row} {k} {c} {plan} {which} {access} {old} {new} f only h each e allows o =
    let here : IsLevel3Write e.layout (words_of old.memory.words) e.row c k = rw (allows.same_layout, allows.same_row) h in
    made-in-step e nothing nothing f.ops old new f.made o
    (sets-made e (words_of old.memory.words) old.operations k c 512 plan which access f.ops f.sets (omega arith) only here (λ i small w. (each i small w, (allows.may (512 * c + i) (omega arith) w).1)) o.orderly)

pub clears-made : {layout : Layout} {row k c : ℕ} {plan : ℕ → Option View} {which : ℕ → Bool} {old new : Pool} → Filled k c 512 plan old new → PlansOnly c plan which None → IsLevel3Write layout (words_of old.memory.words) row c k → LeavesDue layout row which old new
clears-made {layout} {row} {k} {c} {plan} {which} {old} {new} f only h e due allows o =
    let here : IsLevel3Write e.layout (words_of old.memory.words) e.row c k = rw (allows.same_layout, allows.same_row) h in
    let more : ℕ → Bool = λ n. due n || which n in
    let weak = orderly-weaker e due more (words_of old.memory.words) old.operations o.orderly (λ n small f. (grind (arith, common_steps, nat_tests))) in
    made-in-step e due more f.ops old new f.made o
    (sets-cleared e more (words_of old.memory.words) old.operations k c 512 plan which f.ops f.sets (omega arith) only here (λ i small w. ((grind (arith, common_steps, nat_tests)), (allows.may (512 * c + i) (omega arith) w).0)) weak)

pub clears-filled : {layout : Layout} {row k c b : ℕ} {plan : ℕ → Option View} {which : ℕ → Bool} {old new : Pool} → Filled k c b plan old new → IsUnheld layout (words_of old.memory.words) k → LeavesDue layout row which old new
clears-filled {layout} {row} {k} {c} {b} {plan} {which} {old} {new} f h e due allows o = filled-unheld e (λ n. due n || which n) layout k c b plan old new f allows.same_layout h (clears-none layout row which old e due allows o)

-- the plan of a rewrite: the pages of the runs, and no others
pub plans-runs : (c : ℕ) (runs : List PageRun) (access : View) → PlansOnly c (planned runs access None) (λ n. covers runs n && eqb (n / 512) c) access
plans-runs c runs access i answer small is = grind (arith, common_steps, nat_tests)
