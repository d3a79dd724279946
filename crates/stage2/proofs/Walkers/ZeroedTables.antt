-- Words of level 3 tables are set to 0, and their pages are invalidated later.
use Rattle.std.proofs.Common.{◌≡◌, ℕ, suc, ◌+◌, ◌%◌, ◌^◌, ◌<◌, Bool, true, false, ◌&&◌, ◌||◌, not, List, length, refl, arith, ◌∙◌, ◌⊎◌}
use Rattle.stage2.proofs.Names.{PageRun, in_run, row_of, Pool, Words, words_of, Op, Invalidate, Walked, Layout, BreaksFirst, OpenCall, IsInStepIn, IsLogged, nothing, LeavesDue, Settles, StaysInStep, nat_tests, common_steps, Unmapped}
use Rattle.stage2.specs.Moments.{Allows}
use Rattle.stage2.proofs.Walkers.InStep.{orderly-invalidate, orderly-weaker}

-- 0 may be written anywhere
pub breaks-zero : (layout : Layout) (entry : Words) (past : List Op) (page index : ℕ) → BreaksFirst layout entry past page index 0
breaks-zero layout entry past page index = record { breaks = λ _. refl; makes = λ valid row n moment stood. absurd (valid refl) }

-- ---- counting

pub counted-more : (a l m k : ℕ) → m % 2 ^ 64 ≡ (a + l) % 2 ^ 64 → k ≡ (m + 1) % 2 ^ 64 → k % 2 ^ 64 ≡ (a + suc l) % 2 ^ 64
counted-more a l m k e f = omega (arith, e, f)

pub counted-op : (e : OpenCall) (op : Op) (old new : Pool) → IsLogged op old new → old.made % 2 ^ 64 ≡ (e.made + length old.operations) % 2 ^ 64 → new.made % 2 ^ 64 ≡ (e.made + length new.operations) % 2 ^ 64
counted-op e op old new is counted = grind (arith, common_steps, nat_tests, counted-more)

-- ---- one after another

weaker : (e : OpenCall) (due more : ℕ → Bool) (pool : Pool) → IsInStepIn e due pool → ((n : ℕ) → n < 2 ^ 27 → more n ≡ false → due n ≡ false) → IsInStepIn e more pool
weaker e due more pool h fewer = record { orderly = orderly-weaker e due more (words_of pool.memory.words) pool.operations h.orderly fewer; counted = h.counted }

fewer-pages : (e : OpenCall) (layout : Layout) (row : ℕ) (which all : ℕ → Bool) (answer : ℕ → Walked) → ((n : ℕ) → n < 2 ^ 27 → which n ≡ true → all n ≡ true) → Allows e layout row all answer → Allows e layout row which answer
fewer-pages e layout row which all answer within h = record { same_layout = h.same_layout; same_row = h.same_row; may = λ n small w. h.may n small (within n small w) }

pub clears-none : (layout : Layout) (row : ℕ) (which : ℕ → Bool) (a : Pool) → LeavesDue layout row which a a
clears-none layout row which a e due allows o = weaker e due (λ n. due n || which n) a o (λ n small f. (grind (arith, common_steps, nat_tests)))

-- ---- invalidations

pub settles-one : (who : ℕ) (run : PageRun) (a b : Pool) → b.memory ≡ a.memory → IsLogged (Invalidate who run) a b → Settles who (λ n. in_run run n) a b
settles-one who run a b same is e due row o =
    let more : ℕ → Bool = λ n. due n && not (in_run run n) in
    record {
      orderly = rw (same, is.operations) (orderly-invalidate e due more (words_of a.memory.words) a.operations who run o.orderly row (λ n small f g. (grind (arith, common_steps, nat_tests))));
      counted = counted-op e (Invalidate who run) a b is o.counted;
    }

pub settles-more : (who : ℕ) (which more all : ℕ → Bool) (a b c : Pool) → Settles who which a b → Settles who more b c → ((n : ℕ) → n < 2 ^ 27 → all n ≡ (which n || more n)) → Settles who all a c
settles-more who which more all a b c so here is e due row o = grind (arith, common_steps, nat_tests, here e (λ n. due n && not (which n)) row (so e due row o), weaker)

pub settles-as : (who : ℕ) (which all : ℕ → Bool) (a b : Pool) → Settles who which a b → ((n : ℕ) → n < 2 ^ 27 → all n ≡ which n) → Settles who all a b
settles-as who which all a b so is e due row o = weaker e (λ n. due n && not (which n)) (λ n. due n && not (all n)) b (so e due row o) (λ n small f. rw (is n small) at f)

-- ---- edits after which nothing is due

pub stays-cleared : {layout : Layout} {row : ℕ} (who : ℕ) {which : ℕ → Bool} {a b c : Pool} → row_of layout.ids who ≡ row → LeavesDue layout row which a b → Settles who which b c → StaysInStep layout row which (λ n. Unmapped) a c
stays-cleared {layout} {row} who {which} {a} {b} {c} is clears settles e allows o =
    let here : row_of e.layout.ids who ≡ e.row = rw (allows.same_layout, allows.same_row) is in
    weaker e (λ n. (false || which n) && not (which n)) nothing c (settles e (λ n. false || which n) here (clears e nothing allows o)) (λ n small f. (grind (arith, common_steps, nat_tests)))

pub stays-none : (layout : Layout) (row : ℕ) (which : ℕ → Bool) (answer : ℕ → Walked) (a : Pool) → StaysInStep layout row which answer a a
stays-none layout row which answer a e allows o = o

pub stays-more : (layout : Layout) (row : ℕ) (which more all : ℕ → Bool) (answer : ℕ → Walked) (a b c : Pool) → StaysInStep layout row which answer a b → StaysInStep layout row more answer b c → ((n : ℕ) → n < 2 ^ 27 → all n ≡ (which n || more n))
    → StaysInStep layout row all answer a c
stays-more layout row which more all answer a b c so here is e allows o = grind (arith, common_steps, nat_tests, fewer-pages)

pub stays-as : (layout : Layout) (row : ℕ) (which all : ℕ → Bool) (answer : ℕ → Walked) (a b : Pool) → StaysInStep layout row which answer a b → ((n : ℕ) → n < 2 ^ 27 → all n ≡ which n) → StaysInStep layout row all answer a b
stays-as layout row which all answer a b so is e allows o = so e (fewer-pages e layout row which all answer (λ n small w. is n small ∙ w) allows) o

-- of an edit that may disturb more, and give other answers
pub stays-wider : (layout : Layout) (row : ℕ) (which all : ℕ → Bool) (answer other : ℕ → Walked) (a b : Pool) → StaysInStep layout row which answer a b → ((n : ℕ) → n < 2 ^ 27 → which n ≡ true → (all n ≡ true) × ((answer n ≡ Unmapped) ⊎ (answer n ≡ other n)))
    → StaysInStep layout row all other a b
stays-wider layout row which all answer other a b so within e allows o = grind (arith, common_steps, nat_tests)

-- one edit after another
pub stays-after : {layout : Layout} {row : ℕ} {which : ℕ → Bool} {answer : ℕ → Walked} {a b c : Pool} → StaysInStep layout row which answer a b → StaysInStep layout row which answer b c → StaysInStep layout row which answer a c
stays-after {layout} {row} {which} {answer} {a} {b} {c} so here e allows o = here e allows (so e allows o)

-- pages are taken and given back without an operation
pub stays-taken : {layout : Layout} {row : ℕ} {which : ℕ → Bool} {answer : ℕ → Walked} {a b : Pool} → words_of b.memory.words ≡ words_of a.memory.words → b.operations ≡ a.operations → b.made ≡ a.made → StaysInStep layout row which answer a b
stays-taken {layout} {row} {which} {answer} {a} {b} words ops made e allows o = record { orderly = rw (words, ops) o.orderly; counted = rw (ops, made) o.counted }
