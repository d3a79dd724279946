use Rattle.std.proofs.Common.{◌≡◌, ◌∙◌, ◌+◌, ◌-◌, ◌<◌, ◌++◌, List, length, get_or, take, drop, sym, ap, arith}
use Rattle.spans.specs.Spans.{Span, ascend}
use Rattle.std.proofs.lemmas.List.{take_all}
use Rattle.spans.specs.Blocks.{BlocksView}
use Rattle.spans.proofs.Lists.{removed-get}
use Rattle.spans.proofs.Dense.{stay-two, joined-at, joined-ascends, joined-needs}
use Rattle.spans.proofs.blocks.Blocks.join.Goals.{After-push_reserved, then-len-at-via-then-len-at, then-len-at-via-else-len-at+then-spans-gt-SHORT}
use Rattle.spans.proofs.blocks.Blocks.join.Goals as goal

pub returns-then-len-at-clause-joined : goal.returns-then-len-at-clause-joined
returns-then-len-at-clause-joined c =
    stay-two c.args.at c.args.self.now.list c.requires.some (λ lt d. elim c.then-len-at.branch [
      | then-len-at-via-then-len-at w ↦ absurd (omega (arith, lt, w.if-len-at.true, c.len.ensures))
      | then-len-at-via-else-len-at+then-spans-gt-SHORT w ↦
          let a = ap length (w.spans.ensures.same ∙ w.block.ensures.block d) in
          let b = ap length (w.spans-else-len-at.ensures.same ∙ w.block-else-len-at.ensures.block d) in
          omega (arith, a, b, w.if-spans-gt-SHORT.true)
    ])

pub set_from-requires-clause-ascending : goal.set_from-requires-clause-ascending
set_from-requires-clause-ascending c =
    let here = c.index_mut-here.result.now in
    let next = c.remove-next.result in
    let at = c.args.at in
    let list = ap (λ (v : BlocksView). v.list) c.self.view_is in
    ap (ascend 0) (ap (λ l. l ++ c.spans-3.result.now) (take_all (length c.spans-2.result.now) here (omega (arith, ap length c.spans-2.ensures.same))) ∙ ap (λ l. here ++ l) c.spans-3.ensures.same)
    ∙ joined-ascends c.args.self.now.list c.remove-next.new.self.items at here next c.requires.some (omega (arith, c.len.ensures, c.if-len-at.false))
    (c.remove-next.ensures.by_index.2 ∙ ap (λ (l : List (List Span)). take at l ++ drop (at + 1) l) list) c.index_mut-here.ensures.value (c.remove-next.ensures.value ∙ ap (λ (l : List (List Span)). get_or l at next) list) c.requires.ascending

both : (c : After-push_reserved) → c.set_from.new.self ≡ c.index_mut-here.result.now ++ c.remove-next.result
both c =
    let here = c.index_mut-here.result.now in
    c.set_from.ensures ∙ ap (λ l. l ++ c.spans-3.result.now) (take_all (length c.spans-2.result.now) here (omega (arith, ap length c.spans-2.ensures.same))) ∙ ap (λ l. here ++ l) c.spans-3.ensures.same

pub returns-clause-joined : goal.returns-clause-joined
returns-clause-joined c =
    let here = c.index_mut-here.result.now in
    let next = c.remove-next.result in
    let at = c.args.at in
    let list = ap (λ (v : BlocksView). v.list) c.self.view_is in
    let rem : c.remove-next.new.self.items ≡ take at c.args.self.now.list ++ drop (at + 1) c.args.self.now.list = c.remove-next.ensures.by_index.2 ∙ ap (λ (l : List (List Span)). take at l ++ drop (at + 1) l) list in
    let lt : at < length c.args.self.now.list = omega (arith, c.len.ensures, c.if-len-at.false) in
    let is : here ≡ get_or c.args.self.now.list (at - 1) here = c.index_mut-here.ensures.value ∙ ap (λ (l : List (List Span)). get_or l (at - 1) here) rem ∙ removed-get c.args.self.now.list at c.requires.some lt here in
    let after : next ≡ get_or c.args.self.now.list at next = c.remove-next.ensures.value ∙ ap (λ (l : List (List Span)). get_or l at next) list in
    let a = ap length (c.spans.ensures.same ∙ c.block.ensures.block here ∙ sym is) in
    let b = ap length (c.spans-else-len-at.ensures.same ∙ c.block-else-len-at.ensures.block next ∙ sym after) in
    joined-at c.args.self.now.list c.remove-next.new.self.items at here next c.requires.some lt rem c.index_mut-here.ensures.value after c.set_from.new.self (both c)
    (omega (arith, a, b, c.if-spans-gt-SHORT.false))

pub returns-clause-needs : goal.returns-clause-needs
returns-clause-needs c = λ s runs.
    let here = c.index_mut-here.result.now in
    let next = c.remove-next.result in
    let at = c.args.at in
    let list = ap (λ (v : BlocksView). v.list) c.self.view_is in
    let n = joined-needs c.args.self.now.list c.remove-next.new.self.items at here next c.requires.some (omega (arith, c.len.ensures, c.if-len-at.false))
    (c.remove-next.ensures.by_index.2 ∙ ap (λ (l : List (List Span)). take at l ++ drop (at + 1) l) list) c.index_mut-here.ensures.value (c.remove-next.ensures.value ∙ ap (λ (l : List (List Span)). get_or l at next) list) c.set_from.new.self (both c) s runs in
    let spare = ap (λ (v : BlocksView). v.spare) c.self.view_is in
    omega (arith, n, spare, c.push_reserved.ensures.len)
