-- The words that the proofs of this crate speak with, passed on from one place. It declares nothing.
pub use Rattle.std.proofs.lemmas.Map.Views.{any-filter_same}
pub use Rattle.std.proofs.lemmas.List.{get_or_read}
pub use Rattle.std.proofs.lemmas.Bool.{and_parts, cases_Bool, cases_eq, cases_lt, eqb-true, ltb-true}
pub use Rattle.std.proofs.Common.{Bool, List, None, Option, Some, [], ap, ap₂, arith, cond, eqb, false, get_or, inl, inr, is_none, is_some, leb, length, ltb, map, max, min, not, position, refl, rules, subst, suc, sym, take, true, zero, ℕ, ◌%◌, ◌&&◌, ◌*◌, ◌++◌, ◌+◌, ◌-◌, ◌/◌, ◌<◌, ◌==◌, ◌^◌, ◌∙◌, ◌∷◌, ◌≡◌, ◌≢◌, ◌≤◌, ◌⊎◌}
pub use Rattle.std.proofs.lemmas.Bool.Decides.{nat_tests}
pub use Rattle.std.proofs.lemmas.Grind.{common_steps}
pub use Rattle.std.specs.List.{flat_map, list_any}
pub use Rattle.std.specs.Option.{option_map, option_map_or}
pub use Rattle.base.specs.Access.{Access, View}
unfoldable pub use Rattle.base.specs.Counts.{count_below}
pub use Rattle.base.specs.Manifest.{ManifestRows, PartitionRow, ids_of, page_count, row_of}
pub use Rattle.base.specs.Need.{is_alike}
unfoldable pub use Rattle.base.specs.Need.{grow, is_mixed, is_reached, need}
pub use Rattle.base.specs.Pages.{PageRun, are_normal, covers, in_run, rise, rise_above}
pub use Rattle.base.specs.declared.access.MemoryKind.{MemoryKind}
pub use Rattle.base.specs.declared.access.Rights.{Rights}
pub use Rattle.manifest.specs.Valid.{quota_of}
pub use Rattle.pool.specs.Pool.{InShare, IsLowestFree, IsWhole, Memory, Pages, Pool, Words, after_break, after_make, after_replaces, after_take, all_lie_in, counted, free_of, gaps_of, index_from, mark, pages_of, row_quota, share_start, taken_of, used_by, with_mark, with_put, words_in}
unfoldable pub use Rattle.pool.specs.Pool.{nonzero_in, put, words_of}
pub use Rattle.pool.specs.declared.operation.Op.{Op}
pub use Rattle.pool.specs.declared.operation.Op.TheVariants.{Clear, Invalidate, Set}
pub use Rattle.stage2.specs.Edits.{AreFree, Turns, disturbed, disturbs, edited, touches_chunk, touches_run}
pub use Rattle.stage2.specs.Entries.{entry_for_table, leaf_for}
unfoldable pub use Rattle.stage2.specs.Entries.{word_at}
pub use Rattle.stage2.specs.Level.{number_of}
unfoldable pub use Rattle.stage2.specs.Listing.{chunk_entries, each_below, entries, gigabyte_entries, page_entries}
pub use Rattle.stage2.specs.Moments.{AtEachMoment, Begins, BreaksFirst, Ends, IsInStep, IsInStepIn, IsInvalid, IsLogged, IsSteady, LeavesDue, MayGive, Moments, OpenCall, Settles, Since, StaysInStep, UnderWay, Walker, begins, earlier, from_1, from_2, goes_on, invalidates, nothing, now, reads, words_after}
pub use Rattle.stage2.specs.Orderly.{IsCanonical, IsOrderly, answer_of, answers, level_at, linked}
pub use Rattle.stage2.specs.Parts.{chunk_runs, end_from, gigabyte_runs, lie_within, part_count, runs_before, runs_between, runs_past}
unfoldable pub use Rattle.stage2.specs.Parts.{part_in}
pub use Rattle.stage2.specs.Reading.{ArePassed, IsCursor, PassTheSame, StandInRow, TableEntry, access_of, entry_at, left_in, next_first, pages_at, shown, table_entries, table_in}
unfoldable pub use Rattle.stage2.specs.Reading.{entries_from, entry_row, left_of, tree_entries, with_chunks}
pub use Rattle.stage2.specs.Readings.{Reading, entries_of, reading_of}
pub use Rattle.stage2.specs.Room.{chunk_operations, chunks_operations, gigabyte_operations, pages_in, reached_in, row_operations, table_operations}
unfoldable pub use Rattle.stage2.specs.Room.{pages_among, sum_below}
pub use Rattle.stage2.specs.Slot.{Bad, Empty, Layout, Maps, Next, Slot, layout_of, slot_from}
unfoldable pub use Rattle.stage2.specs.Slot.{slot}
pub use Rattle.stage2.specs.Sound.{IsTidy}
pub use Rattle.stage2.specs.Tables.{AreCanonical, AreEdited, AreTurnedFor, ClearsInStep, EditsInStep, ReachSo, ShowsMoments, edit_operations, has_root, view_of, walk_in}
pub use Rattle.stage2.specs.Walk.{Agrees, Chunk, Gigabyte, IsForest, IsPlace, Place, Root, at_1, at_2, at_3, chunk_table, index_1, index_2, index_3, next_page, translation, walk, walked}
unfoldable pub use Rattle.stage2.specs.Walk.{table_at, walk_across}
pub use Rattle.stage2.specs.declared.cursor.Cursor.{Cursor}
pub use Rattle.stage2.specs.declared.parts.Piece.{Piece}
pub use Rattle.stage2.specs.declared.plan.Plan.{Plan}
pub use Rattle.stage2.specs.declared.site.ChunkEdit.{ChunkEdit}
pub use Rattle.stage2.specs.declared.site.RowEdit.{RowEdit}
pub use Rattle.stage2.specs.declared.site.Site.{Site}
pub use Rattle.stage2.specs.declared.table_page.Level.{Level}
pub use Rattle.stage2.specs.declared.table_page.Level.TheVariants.{First}
pub use Rattle.stage2.specs.declared.walked.Walked.{Walked}
pub use Rattle.stage2.specs.declared.walked.Walked.TheVariants.{Leaf as Mapped, None as Unmapped}
pub use Rattle.stage2.specs.inner.Change.{block_step, entry_for, step_for}
pub use Rattle.stage2.specs.inner.Chunks.{IsEntryFor, IsGrowing, IsOutcome, IsSite, IsWordFor, Redoes, Redoes_in, Writes, answers_at, answers_in, answers_of, below, block_answer, covers_chunk, entry_in, planned, second_of}
pub use Rattle.stage2.specs.inner.Clauses.{AreChunksEdited, CanEditChunks, CanEditGigabyte, ChunkInStep, GigabyteInStep, GrowsChunk, HasFree, IsAt, IsGigabyteEdited, IsSeatedAt, IsSpelled, OthersAnswer, Puts, StaysAtChunk, TurnsChunk, WritesPlan, chunk_after, chunk_view, gaps, is_between, operations_in_chunks, operations_in_gigabyte, operations_in_table, points_at, read_after, read_before, row_after, row_view, second_at, slot_at, some_pages, tells, view_in, word_in, words_left}
pub use Rattle.stage2.specs.inner.Filling.{AreFilled, IsEdge, IsFilled, IsFilling, KeepsOthers, in_range, view_below}
pub use Rattle.stage2.specs.inner.Gigabytes.{EditsGigabyte, EditsRow, FitsGigabyte, FitsRow, IsPast, IsUnderway, Touches, gigabyte_growth, grows_at}
pub use Rattle.stage2.specs.inner.History.{AllChange, AreSets, Filled, Made, replaced}
pub use Rattle.stage2.specs.inner.Pieces.{IsNextPiece}
pub use Rattle.stage2.specs.inner.Steps.{IsSeated, disturbed_below}
pub use Rattle.words.specs.Words.{IsLeafWord, leaf_level, table_word_of}
unfoldable pub use Rattle.words.specs.Words.{entry_of, leaf_fields, leaf_word_of}
pub use Rattle.words.specs.declared.word.Entry.{Entry}
pub use Rattle.words.specs.declared.word.Entry.TheVariants.{Invalid, Leaf, Table}
