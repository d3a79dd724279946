-- One operation more on a copy of the words.
use Rattle.pool.proofs.Names.{Op, Set, words_of, ◌≡◌, ℕ, ◌+◌, ◌*◌, length, slice_set}
use Rattle.pool.specs.Pool.{ImageWords, IsInImage, applied}
use Rattle.pool.proofs.Words.{words_of-set}

pub applied-set : (op : Op) (copy image : ImageWords) (page index word : ℕ) → op ≡ Set page index word → copy ≡ image → length copy.words ≡ 512 * copy.pages → IsInImage op image
    → words_of (slice_set copy.words (512 * page + index) word) ≡ applied op (words_of image.words)
applied-set op copy image page index word is same whole inside =
    let within = rw (is, ← same) at inside in rw (is, ← same) (words_of-set copy.words copy.pages page index word whole within.0 within.1)
