use Rattle.std.proofs.Common.{◌≡◌, ℕ, ◌+◌, ◌*◌, ◌==◌, true, false, [], List, Option, Some, None, arith, refl, subst, not, ◌≢◌, is_some, sym, ◌∙◌, ap}
use Rattle.stage2.proofs.Names.{nat_tests, View, PageRun, covers, pages_of, words_of, nonzero_in, planned, WritesPlan, some_pages, gaps, common_steps}
use Rattle.stage2.proofs.Editing.PlannedWords.{writes-join, filled-join}
use Rattle.stage2.proofs.Editing.Stretches.{word-zero, word-some, writes-stretch}
use Rattle.stage2.proofs.Editing.Level3Words.{writes-none, writes-all, writes-rest, writes-zero}
use Rattle.stage2.proofs.Walkers.Histories.{filled-none, filled-more}
use Rattle.stage2.proofs.Counting.Pieces.{nonzero-most, none-among, all-among, word-beside}
use Rattle.stage2.proofs.Editing.Gaps.{writes-gaps}
use Rattle.stage2.proofs.level3.empty_table.Goals as goal

-- all words are written
abbrev plan : ℕ → Option View
plan = planned [] None (Some None)

gone : (a : View) → is_some a ≡ false → a ≡ None
gone a none = grind (arith, common_steps, nat_tests)

there : (a : View) → is_some a ≡ true → a ≢ None
there a some none = let bad : false ≡ true = ap (λ x. is_some x) (sym none) ∙ some in cc

-- ---- the words of the runs' pages, of which there are as many as words that are not 0

pub turn_runs-requires-clause-turned : goal.turn_runs-requires-clause-turned
turn_runs-requires-clause-turned g c = λ i small covered.
    let e = c.args.edit.now in
    let k = c.args.third in
    let words = words_of (g.M.TableMem.state c.args.memory.now).memory.words in
    let unmaps = c.is_none.ensures ∙ ap not c.if-is_none.true in
    let counted = sym (c.nonzero-nonzero.ensures ∙ ap (nonzero_in words) c.number.ensures) ∙ c.if-nonzero-edit.true ∙ e.pages in
    let other = all-among words k (λ j. covers e.runs (512 * e.chunk + j)) counted (λ j lt out. (c.requires.left j lt out).zero (gone e.access unmaps)) i small covered in
    let zero : (words k i == 0) ≡ false = grind (arith, nat_tests, other) in
    zero ∙ sym unmaps

-- what is planned for the pages of the runs is planned for all
all-none : (runs : List PageRun) (n : ℕ) (answer : View) → planned runs None None n ≡ Some answer → planned [] None (Some None) n ≡ Some answer
all-none runs n answer given = grind (arith, common_steps, nat_tests)

pub returns-then-nonzero-edit-clause-writes : goal.returns-then-nonzero-edit-clause-writes
returns-then-nonzero-edit-clause-writes g c =
    let e = c.args.edit.now in
    let none = gone e.access (c.is_none.ensures ∙ ap not c.if-is_none.true) in
    let k = c.args.third in
    let start = g.M.TableMem.state c.args.memory.now in
    let end = g.M.TableMem.state c.turn_runs.new.memory in
    let old = pages_of start.memory in
    let new = pages_of end.memory in
    let zeroed : WritesPlan k e.chunk 512 (planned e.runs None None) start end = subst (λ (a : View). WritesPlan k e.chunk 512 (planned e.runs a None) start end) none c.turn_runs.ensures.writes in
    record {
      words = writes-zero k e.chunk e.runs old new (writes-rest k e.chunk e.runs None old new (λ i small out. (c.requires.left i small out).zero none) zeroed.words);
      made = filled-more k e.chunk 512 (planned e.runs None None) plan start end (all-none e.runs) zeroed.made;
    }

-- ---- the words beside the runs, of which there are as many as words that are not 0

pub overflow_add-nonzero : goal.overflow_add-nonzero
overflow_add-nonzero g c = grind (arith, common_steps, nat_tests, nonzero-most)

pub write_gaps-requires-clause-turned : goal.write_gaps-requires-clause-turned
write_gaps-requires-clause-turned g c = λ i small out. grind (arith, common_steps, nat_tests, there, word-some, c.requires.left i small out)

-- what is planned beside the runs is planned for all
all-gaps : (runs : List PageRun) (n : ℕ) (answer : View) → gaps runs None n ≡ Some answer → planned [] None (Some None) n ≡ Some answer
all-gaps runs n answer given = grind (arith, common_steps, nat_tests)

pub returns-then-nonzero-edit-eq-CHUNK_PAGES-clause-writes : goal.returns-then-nonzero-edit-eq-CHUNK_PAGES-clause-writes
returns-then-nonzero-edit-eq-CHUNK_PAGES-clause-writes g c =
    let e = c.args.edit.now in
    let k = c.args.third in
    let start = g.M.TableMem.state c.args.memory.now in
    let end = g.M.TableMem.state c.write_gaps.new.memory in
    let old = pages_of start.memory in
    let new = pages_of end.memory in
    let nonzero = c.nonzero-nonzero.ensures ∙ ap (nonzero_in old.words) c.number.ensures in
    let left = c.if-nonzero-edit-eq-CHUNK_PAGES.true in
    let some = there e.access (sym c.is_some.ensures ∙ c.if-is_some.true) in
    let zero = none-among old.words k (λ i. covers e.runs (512 * e.chunk + i)) (omega (arith, nonzero, e.pages, left)) (λ i small out. word-some (512 * e.chunk + i) e.access (old.words k i) some (c.requires.left i small out)) in
    record {
      words = writes-zero k e.chunk e.runs old new (writes-gaps k e.chunk e.runs None old new zero c.write_gaps.ensures.writes.words);
      made = filled-more k e.chunk 512 (gaps e.runs None) plan start end (all-gaps e.runs) c.write_gaps.ensures.writes.made;
    }

-- ---- all words that are not 0

pub clear_words-requires-clause-room : goal.clear_words-requires-clause-room
clear_words-requires-clause-room g c = grind (arith, common_steps, nat_tests, word-beside, gone)

pub returns-else-is_some-clause-room : goal.returns-else-is_some-clause-room
returns-else-is_some-clause-room g c = grind (arith, common_steps, nat_tests, word-beside, gone)

pub returns-else-is_some-clause-writes : goal.returns-else-is_some-clause-writes
returns-else-is_some-clause-writes g c =
    let start = g.M.TableMem.state c.args.memory.now in
    let end = g.M.TableMem.state c.clear_words.new.memory in
    let old = pages_of start.memory in
    let new = pages_of end.memory in
    let k = c.args.third in
    let chunk = c.args.edit.now.chunk in
    let all : WritesPlan k chunk 512 (some_pages chunk 0 512 None) start end =
    rw c.clear_words.ensures.state (writes-stretch k chunk 0 512 0 0 None start (g.met.M.TableMem.whole c.args.memory.now) c.requires.page_in (omega arith) (omega arith) (λ x lt. word-zero (512 * chunk + (0 + x)) x)) in
    record {
      words = writes-all k chunk 512 plan old new (λ x small from. absurd (omega (arith, small, from)))
          (writes-join k chunk 0 512 plan None old old new (omega arith) (λ x from lt. refl) (writes-none k chunk 0 plan old (λ x lt. absurd (omega (arith, lt)))) all.words);
      made = filled-join k chunk 0 512 plan None start start end (omega arith) (λ x from lt. refl) (filled-none k chunk 0 plan start) all.made;
    }
