use Rattle.std.proofs.Common.{◌≡◌, ◌∙◌, ◌+◌, ◌-◌, ◌^◌, ◌<◌, ◌++◌, true, [], List, length, get_or, take, drop, ap, subst, length-append, arith}
use Rattle.spans.specs.Spans.{Span, ascend, are_joined}
use Rattle.spans.specs.Edits.{all_from, IsSame}
use Rattle.spans.specs.Blocks.{BlocksView}
use Rattle.spans.proofs.Dense.{dense-drop}
use Rattle.spans.proofs.Edited.{none-taken}
use Rattle.spans.proofs.Parting.{before-from, fewer_from}
use Rattle.spans.proofs.Reached.{last-joined, mid-last-is, taken-in, dense-left}
use Rattle.spans.proofs.Stacked.{filled_rest, later}
use Rattle.spans.proofs.blocks.Blocks.take_in.Goals as goal

pub returns-then-count-place-clause-taken : goal.returns-then-count-place-clause-taken
returns-then-count-place-clause-taken c =
    let bs = c.args.self.now.list in
    let place = c.args.place in
    let above = later (c.args.page + 1) c.blocks_before-count.result place bs c.blocks_before-count.ensures.behind c.if-count-place.true in
    none-taken c.args.page c.args.out.now.items (drop place bs) above (filled_rest place bs c.requires.stacked.filled)

pub returns-then-count-place-clause-dense : goal.returns-then-count-place-clause-dense
returns-then-count-place-clause-dense c = λ h. dense-drop c.args.place c.args.self.now.list h

pub append-requires-clause-room : goal.append-requires-clause-room
append-requires-clause-room c =
    let f = fewer_from c.args.page c.spans.result.now in
    let l = ap length c.spans.ensures.same in
    omega (arith, f, l, c.spans.ensures.short, c.requires.room)

-- what goes behind the list
appended : (c : goal.After-push_reserved) → IsSame (c.args.out.now.items ++ all_from c.args.page c.spans.result.now) c.append.new.out.items
appended c =
    let page = c.args.page in
    let last = c.spans.result.now in
    let up : ascend 0 last ≡ true = ap (ascend 0) c.spans.ensures.same ∙ c.spans.ensures.ascending in
    subst (λ (l : List Span). IsSame (c.args.out.now.items ++ l) c.append.new.out.items) (before-from page (2 ^ 27) 0 last up c.append.ensures.in_range) c.append.ensures.same

pub returns-clause-taken : goal.returns-clause-taken
returns-clause-taken c =
    let bs = c.args.self.now.list in
    let place = c.args.place in
    let count = c.blocks_before-count.result in
    let mid = c.drop.new.self.0.items in
    let new = c.remove-last.new.self.items in
    let less : place < count = omega (arith, c.if-count-place.false) in
    let kept : mid ≡ take place bs ++ drop (count - 1) bs = c.drop.ensures.items ∙ c.drain.ensures.kept ∙ ap (λ (v : BlocksView). take place v.list ++ drop (count - 1) v.list) c.self.view_is in
    let removed : new ≡ take place mid ++ drop (place + 1) mid = c.remove-last.ensures.by_index.2 in
    let is : c.spans.result.now ≡ get_or bs (count - 1) [] = c.spans.ensures.same ∙ mid-last-is bs place count c.args.page c.requires.stacked less c.blocks_before-count.ensures mid new kept removed c.remove-last.result c.remove-last.ensures.value in
    taken-in bs place count c.args.page c.requires.stacked less c.blocks_before-count.ensures mid new kept removed c.args.out.now.items c.append.new.out.items
    (subst (λ (l : List Span). IsSame (c.args.out.now.items ++ all_from c.args.page l) c.append.new.out.items) is (appended c))

pub returns-clause-joined : goal.returns-clause-joined
returns-clause-joined c = λ j k.
    let bs = c.args.self.now.list in
    let place = c.args.place in
    let count = c.blocks_before-count.result in
    let mid = c.drop.new.self.0.items in
    let new = c.remove-last.new.self.items in
    let less : place < count = omega (arith, c.if-count-place.false) in
    let kept : mid ≡ take place bs ++ drop (count - 1) bs = c.drop.ensures.items ∙ c.drain.ensures.kept ∙ ap (λ (v : BlocksView). take place v.list ++ drop (count - 1) v.list) c.self.view_is in
    let is : c.spans.result.now ≡ get_or bs (count - 1) [] = c.spans.ensures.same ∙ mid-last-is bs place count c.args.page c.requires.stacked less c.blocks_before-count.ensures mid new kept c.remove-last.ensures.by_index.2 c.remove-last.result c.remove-last.ensures.value in
    c.append.ensures.joined j (ap are_joined is ∙ last-joined bs place count c.args.page c.requires.stacked less c.blocks_before-count.ensures k)

pub returns-clause-dense : goal.returns-clause-dense
returns-clause-dense c = λ h.
    let bs = c.args.self.now.list in
    let place = c.args.place in
    let count = c.blocks_before-count.result in
    let mid = c.drop.new.self.0.items in
    let less : place < count = omega (arith, c.if-count-place.false) in
    let kept : mid ≡ take place bs ++ drop (count - 1) bs = c.drop.ensures.items ∙ c.drain.ensures.kept ∙ ap (λ (v : BlocksView). take place v.list ++ drop (count - 1) v.list) c.self.view_is in
    dense-left bs place count c.args.page c.requires.stacked less c.blocks_before-count.ensures mid c.remove-last.new.self.items kept c.remove-last.ensures.by_index.2 h

pub returns-clause-len : goal.returns-clause-len
returns-clause-len c =
    let out = c.args.out.now.items in
    let same = appended c in
    let l = length-append out (all_from c.args.page c.spans.result.now) in
    let f = fewer_from c.args.page c.spans.result.now in
    let n = ap length c.spans.ensures.same in
    let spare = ap (λ (v : BlocksView). v.spare) c.self.view_is in
    omega (arith, same.fewer, l, f, n, spare, c.spans.ensures.short, c.push_reserved.ensures.len)
