use Rattle.std.proofs.Common.{◌+◌, ◌∙◌, sym, ap, refl}
use Rattle.base.specs.Descriptors.Send.{u32_at}
use Rattle.descr.proofs.Tests.{and-false}
use Rattle.descr.proofs.Sends.{ranges-same, has_memory-parts}
use Rattle.descr.proofs.send.read_memory.Goals.{else-is_composite-via-then-is_composite+else-are_disjoint, else-is_composite-via-else-is_composite}
use Rattle.descr.proofs.send.read_memory.Goals as goal

pub read_ranges-requires-clause-few : goal.read_ranges-requires-clause-few
read_ranges-requires-clause-few c =
    let count = c.u32_at-count.ensures ∙ ap (λ x. u32_at c.args.bytes.now (x + 4)) c.composite_at-composite.ensures in
    rw count c.requires.few_ranges

pub returns-then-are_disjoint-clause-some : goal.returns-then-are_disjoint-clause-some
returns-then-are_disjoint-clause-some c =
    let count = c.u32_at-count.ensures ∙ ap (λ x. u32_at c.args.bytes.now (x + 4)) c.composite_at-composite.ensures in
    let ranges = c.in_ok-ranges.ensures.some in
    let parts = has_memory-parts c.args.version c.args.bytes.now _ _ _ c.composite_at-composite.ensures count ranges.1 in
    let disjoint = sym c.are_disjoint.ensures ∙ c.if-are_disjoint.true in
    let composite = sym c.is_composite.ensures ∙ c.if-is_composite.true in
    (rw (parts, ranges.0, disjoint, composite) refl, ranges-same c.args.version c.args.bytes.now _ _ _ c.composite_at-composite.ensures count ranges.1)

pub returns-else-is_composite-clause-none : goal.returns-else-is_composite-clause-none
returns-else-is_composite-clause-none c =
    let count = c.u32_at-count.ensures ∙ ap (λ x. u32_at c.args.bytes.now (x + 4)) c.composite_at-composite.ensures in
    let parts = has_memory-parts c.args.version c.args.bytes.now _ _ _ c.composite_at-composite.ensures count c.in_ok-ranges.ensures.some.1 in
    elim c.else-is_composite.branch [
      | else-is_composite-via-then-is_composite+else-are_disjoint w ↦ rw (parts, ← w.are_disjoint.ensures, w.if-are_disjoint.false, and-false) refl
      | else-is_composite-via-else-is_composite w ↦ rw (parts, ← c.is_composite.ensures, w.if-is_composite.false, and-false) refl
    ]
