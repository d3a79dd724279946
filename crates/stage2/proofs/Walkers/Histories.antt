-- Operations, one after another.
use Rattle.stage2.proofs.Names.{View, Op, Set, Invalidate, Clear, Words, Pool, put, words_after, counted, Made, AreSets, AllChange, Filled, nat_tests, common_steps, ◌≡◌, ℕ, ◌+◌, ◌*◌, ◌%◌, ◌^◌, ◌≤◌, List, [], ◌∷◌, ◌++◌, refl, ap, sym, ◌∙◌, arith, Option, Some}

after-append : (b a : List Op) (w : Words) → words_after (b ++ a) w ≡ words_after b (words_after a w)
after-append [] a w = refl
after-append (Set page index word ∷ b) a w = ap (put page index word) (after-append b a w)
after-append (Invalidate p run ∷ b) a w = after-append b a w
after-append (Clear run ∷ b) a w = after-append b a w

counted-append : (b a : List Op) (n : ℕ) → counted (b ++ a) n ≡ counted b (counted a n)
counted-append [] a n = refl
counted-append (op ∷ b) a n = ap (λ x. (x + 1) % 2 ^ 64) (counted-append b a n)

pub made-none : (s : Pool) → Made [] s s
made-none s = record { operations = refl; count = refl; words = refl }

-- what is planned may be part of another plan, of more pages
sets-more : (k c i b : ℕ) (plan more : ℕ → Option View) (ops : List Op) → i ≤ b → ((n : ℕ) (answer : View) → plan n ≡ Some answer → more n ≡ Some answer) → AreSets k c plan i ops → AreSets k c more b ops
sets-more k c i b plan more [] le all s = tt
sets-more k c i b plan more (Set q x w ∷ ops) le all s = let lt = s.1 in (s.0, omega arith, (s.2.0, all (512 * c + x) s.2.0 s.2.1, s.2.2), sets-more k c x x plan more ops (omega arith) all s.3)
sets-more k c i b plan more (Invalidate p r ∷ ops) le all s = absurd s
sets-more k c i b plan more (Clear r ∷ ops) le all s = absurd s

pub sets-wider : (k c i b : ℕ) (plan : ℕ → Option View) (ops : List Op) → i ≤ b → AreSets k c plan i ops → AreSets k c plan b ops
sets-wider k c i b plan ops le s = sets-more k c i b plan plan ops le (λ n answer is. is) s

-- operations that each change their word, after others that do
pub changes-append : (w : Words) (b a : List Op) → AllChange (words_after a w) b → AllChange w a → AllChange w (b ++ a)
changes-append w [] a h so = so
changes-append w (Set page index word ∷ b) a h so = (λ same. h.0 (ap (λ (x : Words). x page index) (sym (after-append b a w)) ∙ same), changes-append w b a h.1 so)
changes-append w (Invalidate p run ∷ b) a h so = changes-append w b a h so
changes-append w (Clear run ∷ b) a h so = changes-append w b a h so

-- ---- a table is filled

pub filled-none : (k c b : ℕ) (plan : ℕ → Option View) (s : Pool) → Filled k c b plan s s
filled-none k c b plan s = record { ops = []; made = made-none s; sets = tt; changes = tt }

-- writes as they are planned, after those of words below the i-th
sets-over : (k c i b : ℕ) (plan part : ℕ → Option View) (ops so : List Op) → i ≤ b → ((x : ℕ) (v : View) → part (512 * c + x) ≡ Some v → (i ≤ x) × (plan (512 * c + x) ≡ Some v)) → AreSets k c part b ops → AreSets k c plan i so
    → AreSets k c plan b (ops ++ so)
sets-over k c i b plan part [] so le over h below = sets-wider k c i b plan so le below
sets-over k c i b plan part (Set q x word ∷ ops) so le over h below =
    let this = over x h.2.0 h.2.1 in
    (h.0, h.1, (h.2.0, this.1, h.2.2), sets-over k c i x plan part ops so this.0 over h.3 below)
sets-over k c i b plan part (Invalidate p r ∷ ops) so le over h below = absurd h
sets-over k c i b plan part (Clear r ∷ ops) so le over h below = absurd h

-- after the pages before the i-th, some up to the j-th, as they are planned
pub filled-over : (k c i j : ℕ) (plan part : ℕ → Option View) (a b e : Pool) → i ≤ j → ((x : ℕ) (v : View) → part (512 * c + x) ≡ Some v → (i ≤ x) × (plan (512 * c + x) ≡ Some v)) → Filled k c i plan a b → Filled k c j part b e → Filled k c j plan a e
filled-over k c i j plan part a b e le over so next = grind (arith, common_steps, nat_tests, next.ops, so.ops, counted-append, after-append, sets-over k c i j plan part next.ops so.ops le over next.sets so.sets, changes-append)

pub filled-wider : (k c i b : ℕ) (plan : ℕ → Option View) (a e : Pool) → i ≤ b → Filled k c i plan a e → Filled k c b plan a e
filled-wider k c i b plan a e le h = record { ops = h.ops; made = h.made; sets = sets-wider k c i b plan h.ops le h.sets; changes = h.changes }

pub filled-more : (k c b : ℕ) (plan more : ℕ → Option View) (a e : Pool) → ((n : ℕ) (answer : View) → plan n ≡ Some answer → more n ≡ Some answer) → Filled k c b plan a e → Filled k c b more a e
filled-more k c b plan more a e all h = record { ops = h.ops; made = h.made; sets = sets-more k c b b plan more h.ops (omega arith) all h.sets; changes = h.changes }
