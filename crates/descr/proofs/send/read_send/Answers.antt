use Rattle.std.proofs.Common.{◌∙◌, sym, refl}
use Rattle.base.specs.Descriptors.Send.{send_of}
use Rattle.descr.proofs.Sends.{not_send-layout, not_send-header, not_send-receivers, not_send-memory, is_send-true}
use Rattle.descr.proofs.send.read_send.Goals.{then-not-has_layout-via-then-not-has_layout, then-not-has_layout-via-else-not-has_layout+then-not-is_header}
use Rattle.descr.proofs.send.read_send.Goals as goal

pub returns-then-not-has_layout-clause-none : goal.returns-then-not-has_layout-clause-none
returns-then-not-has_layout-clause-none c =
    elim c.then-not-has_layout.branch [
      | then-not-has_layout-via-then-not-has_layout w ↦ not_send-layout c.args.version c.args.bytes.now (sym c.has_layout.ensures.value ∙ w.if-not-has_layout.true)
      | then-not-has_layout-via-else-not-has_layout+then-not-is_header w ↦ not_send-header c.args.version c.args.bytes.now (sym w.is_header.ensures ∙ w.if-not-is_header.true)
    ]

pub returns-in_err-receivers-clause-none : goal.returns-in_err-receivers-clause-none
returns-in_err-receivers-clause-none c = rw c.from_residual.ensures (not_send-receivers c.args.version c.args.bytes.now c.in_err-receivers.ensures.none)

pub returns-in_err-ranges-clause-none : goal.returns-in_err-ranges-clause-none
returns-in_err-ranges-clause-none c = rw c.from_residual-in_err-ranges.ensures (not_send-memory c.args.version c.args.bytes.now c.in_err-ranges.ensures.none)

pub returns-clause-some : goal.returns-clause-some
unfolding send_of
returns-clause-some c =
    let receivers = c.in_ok-receivers.ensures.some in
    let memory = c.in_ok-ranges.ensures.some in
    let layout = sym c.has_layout.ensures.value ∙ c.if-not-has_layout.false in
    let header = sym c.is_header.ensures ∙ c.if-not-is_header.false in
    (is_send-true c.args.version c.args.bytes.now layout header receivers.0 memory.0, rw (c.new.ensures, c.u16_at.ensures, c.attributes_of.ensures, c.orders_clear.ensures, c.u32_at.ensures, c.u64_at.ensures, receivers.1, memory.1) refl)
