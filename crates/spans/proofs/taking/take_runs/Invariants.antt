use Rattle.std.proofs.Common.{◌≡◌, ℕ, ◌<◌, ◌≤◌, false, get_or}
use Rattle.std.specs.List.{AllByRecursion}
use Rattle.base.specs.Pages.{PageRun}
use Rattle.spans.specs.Blocks.{all_spans, AreDense, AreStacked}
use Rattle.spans.specs.Taking.{has_number, others}
use Rattle.spans.proofs.Others.{BeginsRun}
use Rattle.spans.proofs.taking.take_runs.Given as goal

abbrev pub invariant-loop-run : goal.invariant-loop-run
invariant-loop-run l = record {
  stacked : AreStacked l.blocks.list;
  dense : AreDense l.blocks.list;
  rest : others l.value (all_spans l.blocks.list) ≡ others l.value (all_spans l.fn.blocks.list);
  begins : AllByRecursion (BeginsRun l.value l.runs) (all_spans l.blocks.list);
  gone : (i : ℕ) (d : PageRun) → i < l.run-index → has_number l.value (all_spans l.blocks.list) (get_or l.runs i d).first ≡ false;
  zone : (n : ℕ) → l.from ≤ n → n < l.end → has_number l.value (all_spans l.blocks.list) n ≡ false;
}
