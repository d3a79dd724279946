-- Each word of a level 3 table is the one for its page's answer.
use Rattle.stage2.proofs.Names.{Pages, answers_at, IsSite, IsWordFor, answer_of, Layout, Empty, Next, slot, IsTidy, at_3, nat_tests, common_steps, ◌≡◌, ℕ, ◌/◌, ◌%◌, arith}
use Rattle.words.proofs.RoundTrip.{word-table}
use Rattle.stage2.proofs.Editing.FourChunkEdits.{walk-entry, at_2-seen, table-entry, clean-words}

word-spelled : (layout : Layout) (n w : ℕ) → IsTidy n (at_3 (slot layout 3 w)) → (slot layout 3 w ≡ Empty → w ≡ 0) → IsWordFor n (answer_of (at_3 (slot layout 3 w))) w
unfolding slot
word-spelled layout n w tidy clean = grind (arith, common_steps, nat_tests, word-table)

pub spelled-words : {layout : Layout} {row c j : ℕ} {m : Pages} (h : IsSite layout row c j m) (k : ℕ) → slot layout 2 (m.words j (c % 512)) ≡ Next k → (n : ℕ) → n / 512 ≡ c → IsWordFor n (answers_at layout m.words (Next k) n) (m.words k (n % 512))
spelled-words h k is n at = grind (arith, common_steps, nat_tests, h.orderly.tidy, walk-entry h n, at_2-seen, table-entry h, word-spelled, clean-words)
