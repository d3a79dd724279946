use Rattle.std.proofs.Common.{◌≡◌, length, ap, ◌∙◌, arith}
use Rattle.rules.specs.Calls.Retrieve.{rx_size}
use Rattle.wire.specs.Replies.{ReplyWords}
use Rattle.ffaspm_c.specs.Answers.{call_from, rx_bytes}
use Rattle.ffaspm_c.proofs.RxFits.{fits_in_rx}
use Rattle.ffaspm_c.proofs.call.serve.Goals as goal

pub fill-rx_length-requires : goal.fill-rx_length-requires
fill-rx_length-requires c =
    let s = c.args.spm.now.state in
    let call = call_from c.args.call.now.caller c.args.call.now.regs c.args.tx.now in
    let same = ap (λ (r : ReplyWords). length (rx_bytes r)) (c.answer.view_is ∙ c.in-Ok.ensures.reply) in
    let size : c.rx_size.result ≡ rx_size s call.caller = c.rx_size.ensures ∙ ap (rx_size s) c.new.ensures in
    omega (arith, same, fits_in_rx s call, size, c.if-rx-rx_size.false)
