-- Where pages are turned, so are their words.
use Rattle.stage2.proofs.Names.{nat_tests, View, Pool, words_of, ChunkEdit, Site, answers_at, IsAt, IsSpelled, TurnsChunk, slot_at, chunk_view, Slot, Next, common_steps, ◌≡◌, ℕ, ◌/◌, sym, ap, ◌∙◌, arith}
use Rattle.stage2.specs.inner.Clauses.{TurnsRuns}
use Rattle.stage2.proofs.Editing.FourChunkEdits.{answers-entry}
use Rattle.stage2.proofs.Editing.Stretches.{word-some}

pub runs-turned : (e : ChunkEdit) (k : ℕ) (pool : Pool) (view : ℕ → View) → IsSpelled e k pool → ((n : ℕ) → n / 512 ≡ e.chunk → view n ≡ answers_at e.layout.now (words_of pool.memory.words) (Next k) n) → TurnsChunk e view → TurnsRuns k e pool
runs-turned e k pool view spelled same so turns i small covered = grind (arith, common_steps, nat_tests, word-some)

-- by the word that was read at its site
pub turned-read : (s : Site) (e : ChunkEdit) (pool : Pool) → IsAt s e pool → {read : Slot} → read ≡ slot_at s e pool → (k : ℕ) → read ≡ Next k → IsSpelled e k pool → TurnsChunk e (chunk_view s e pool) → TurnsRuns k e pool
turned-read s e pool at is k next spelled =
    runs-turned e k pool (chunk_view s e pool) spelled (λ n here. answers-entry at n here ∙ ap (λ (x : Slot). answers_at e.layout.now (words_of pool.memory.words) x n) (sym is ∙ next))
