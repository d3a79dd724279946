use Rattle.std.proofs.Common.{◌≡◌, ◌-◌, ◌+◌, take, drop, length, sym, ap, ◌∙◌, length-drop, arith}
use Rattle.std.proofs.lemmas.List.{take_all, take_at}
use Rattle.audit.proofs.Forward.{brought}
use Rattle.audit.proofs.text.bring_forward.Goals as goal

pub returns : goal.returns
returns c =
    let items = c.args.text.now.items in
    let ok = c.args.text.now.ok in
    let count = c.len.result - c.args.end in
    let rest : count ≡ length items - c.args.end = ap (λ n. n - c.args.end) (c.len.ensures ∙ ok.0) in
    let first = c.copy_from_slice.ensures.after ∙ ap (λ xs. take (length xs - c.args.end) (drop c.args.end xs)) c.deref.ensures.value ∙ take_all (length items - c.args.end) (drop c.args.end items) (omega (arith, length-drop c.args.end items)) in
    let size : length c.copy_from_slice.new.self ≡ count = ap length first ∙ length-drop c.args.end items ∙ sym rest in
    let header = c.copy_from_slice-2.ensures.after ∙ take_at c.copy_from_slice.new.self _ count size ∙ first in
    let on : c.args.start + count - c.args.start ≡ count = omega arith in
    brought items c.args.start c.args.end count c.requires.ordered c.requires.inside rest c.copy_within.new.self.items c.deref_mut.result.now c.copy_from_slice-2.new.self _ c.copy_within.new.self.len c.copy_within.ensures.items c.deref_mut.ensures.value header (ap (λ k. drop k (drop c.args.start c.deref_mut.result.now)) on) (c.copy_within.ensures.len ∙ ok.0)
