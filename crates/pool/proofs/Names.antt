-- The words that the proofs of this crate speak with, passed on from one place. It declares nothing.
pub use Rattle.std.proofs.lemmas.List.{at_drop_all, at_drop_more, get_or_read, length-append, length-map, length-replicate}
pub use Rattle.std.proofs.lemmas.Bool.{cases_eq}
pub use Rattle.std.proofs.Math.ListN.{set}
pub use Rattle.std.proofs.Common.{Bool, List, [], add-one, ap, arith, cond, drop, false, get_or, inl, inr, length, max, not, refl, replicate, reverse, slice_index, slice_set, subst, suc, sum, sym, take, true, zero, ℕ, ◌*◌, ◌++◌, ◌+◌, ◌-◌, ◌<◌, ◌==◌, ◌||◌, ◌∙◌, ◌∷◌, ◌≡◌, ◌≢◌, ◌≤◌, Vec, ◌⊎◌}
pub use Rattle.pool.specs.declared.word_store.WordStore.{Ghosts}
pub use Rattle.std.proofs.lemmas.Bool.Decides.{nat_tests}
pub use Rattle.std.proofs.lemmas.Grind.{common_steps}
pub use Rattle.std.specs.List.{list_all}
pub use Rattle.std.specs.Mem.{type_size}
pub use Rattle.std.specs.Prelude.{Option}
unfoldable pub use Rattle.base.specs.Counts.{count_below}
pub use Rattle.base.specs.Manifest.{ManifestRows, PartitionRow, ids_of, page_count, quotas_of, row_of}
pub use Rattle.base.specs.Pages.{PageRun, covers, in_run, rise}
pub use Rattle.marks.specs.Marks.{IsFirstUnmarked}
pub use Rattle.pool.specs.CellOwnership.{cells_lent, cells_own, slot, slot_lent, slots, slots_lent}
pub use Rattle.pool.specs.Cells.{AreMarked, IsFilled, IsPageFilled, held}
unfoldable pub use Rattle.pool.specs.Cells.{with_zeros}
pub use Rattle.pool.specs.Pool.{CountsFree, CountsNonzero, HasFree, InShare, IsLowestFree, Memory, NoneFreeBelow, Pages, Pool, StandOnce, Words, after_invalidate, after_run, after_set, after_sets, counted, gap, gaps_of, index_from, lies_in, new_memory, pages_of, row_quota, share_start, used_by, with_mark, words_in}
unfoldable pub use Rattle.pool.specs.Pool.{after_replaces, after_runs, gaps_from, mark, nonzero_in, put, sets_of, taken_of, words_of, words_set}
pub use Rattle.pool.specs.Shown.{IsShown}
pub use Rattle.pool.specs.Writing.{AreThere, Grows, MayWrite, NoneThere, Puts, RecordsAll, TurnRuns, Wrote, indexes_set, log_of, range_set, replaces, runs_set, with_range, writes_of}
pub use Rattle.pool.specs.declared.log.Log.{Log}
pub use Rattle.pool.specs.declared.operation.Op.{Op}
pub use Rattle.pool.specs.declared.operation.Op.TheVariants.{Set}
pub use Rattle.pool.specs.declared.runs.TableWords.{TableWords}
pub use Rattle.pool.specs.declared.table_pool.TablePool.{TablePool}
pub use Rattle.pool.specs.declared.word_range.WordRange.{WordRange}
