-- Entries that are passed on the way to the next pages that are reached.
use Rattle.std.proofs.Common.{◌≡◌, ℕ, ◌+◌, ◌*◌, true, not, ◌&&◌, List, [], ◌∷◌, ◌++◌, None, is_some, sym, ap, ◌∙◌, append_assoc, arith}
use Rattle.std.proofs.lemmas.List.Folds.{list_all-append}
use Rattle.stage2.proofs.Names.{Access, View, TableEntry, pages_at, entry_row, StandInRow, ArePassed, nat_tests, common_steps}
use Rattle.stage2.specs.Reading.{AlikePages, access_by, reach_nothing, AreNext}

pub passed-more : (old new : List TableEntry) (e : TableEntry) → access_by e ≡ None → ArePassed old (e ∷ new) → ArePassed old new
passed-more old new e none so = record {
  tables = so.tables ++ e ∷ [];
  reach = list_all-append (λ e. not (is_some (access_by e))) so.tables (e ∷ []) ∙ ap (λ b. b && reach_nothing (e ∷ [])) so.reach ∙ ap (λ (o : View). not (is_some o) && true) none;
  follow = so.follow ∙ sym (append_assoc so.tables (e ∷ []) new);
}

-- the next pages that are reached
pub next-pages : (old mid new : List TableEntry) (e : TableEntry) (a : Access) (more : ℕ) (pages : AlikePages) → ArePassed old (e ∷ mid) → StandInRow e a more mid new → pages.pages ≡ record { first = e.first; count = pages_at e.level * (more + 1) } → pages.access ≡ a → pages.word ≡ e.word → AreNext old pages new
unfolding entry_row
next-pages old mid new e a more pages so row is with at = grind (arith, common_steps, nat_tests)
