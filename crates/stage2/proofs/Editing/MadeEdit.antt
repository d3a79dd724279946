-- The edit of a chunk that is made of that of its row: what its clauses say of the row's layout and access.
use Rattle.std.proofs.Common.{◌≡◌, ℕ, ◌/◌, ◌&&◌, eqb, true, refl, arith}
use Rattle.stage2.proofs.Names.{View, Pool, pages_of, ChunkEdit, Site, edited, touches_chunk, AreFree, disturbs, answers_in, IsGrowing, IsSite, Redoes_in, IsAt, GrowsChunk, ChunkInStep, operations_in_table, StaysInStep, table_operations, Layout, IsSeated, walked}
use Rattle.stage2.specs.inner.Clauses.{EditsChunk}
use Rattle.stage2.proofs.Runs.ChunkCounts.{with-pages}

pub touches-made : (h : ChunkEdit) → touches_chunk h.chunk h.runs ≡ true
touches-made h = with-pages h.runs h.chunk (let pages = h.pages in let some = h.touched in omega (arith, pages, some))

module _ (s : Site) (h : ChunkEdit) (layout : Layout) (c : ℕ) (access : View) (l : h.layout.now ≡ layout) (at : h.chunk ≡ c) (a : h.access ≡ access) (old new : Pool) where
  pub site-made : IsSite layout s.row c s.second (pages_of old.memory) → IsAt s h old
  site-made so = rw (l, at) so

  pub grows-made : GrowsChunk s h old → IsGrowing (answers_in layout s.row c s.second (pages_of old.memory)) (edited h.runs access (answers_in layout s.row c s.second (pages_of old.memory))) c
  grows-made so = rw (l, at, a) at so

  pub room-made : operations_in_table s h old ≡ table_operations h.runs access (answers_in layout s.row c s.second (pages_of old.memory)) c
  room-made = rw (l, at, a) refl

  pub edits-made : EditsChunk s h old new → Redoes_in layout s.row c s.second (edited h.runs access (answers_in layout s.row c s.second (pages_of old.memory))) (pages_of old.memory) (pages_of new.memory)
  edits-made so = rw (l, at, a) at so

  pub step-made : ChunkInStep s h old new → IsSeated layout s.row (c / 512) s.second (pages_of old.memory) → AreFree (λ n. eqb (n / 512) c) h.runs access (answers_in layout s.row c s.second (pages_of old.memory))
      → StaysInStep layout s.row (λ n. eqb (n / 512) c && disturbs h.runs (answers_in layout s.row c s.second (pages_of old.memory)) (edited h.runs access (answers_in layout s.row c s.second (pages_of old.memory))) n)
      (λ n. walked n (edited h.runs access (answers_in layout s.row c s.second (pages_of old.memory)) n)) old new
  step-made so = rw (l, at, a) at so
