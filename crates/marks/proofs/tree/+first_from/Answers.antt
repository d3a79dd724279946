use Rattle.std.proofs.Common.{◌∙◌, arith, refl}
use Rattle.marks.proofs.Words.{bit_in-at}
use Rattle.marks.proofs.Search.{first-in_word, none-from_root, first-above}
use Rattle.marks.proofs.tree.+first_from.Goals as goal

pub first_below-requires-clause-on : goal.first_below-requires-clause-on
first_below-requires-clause-on t c =
    let on = c.in-Some.ensures.on in
    bit_in-at c.args.words.now c.args.word c.in-Some.lowest c.in-Some.ensures.inside ∙ rw on refl

pub returns-in-Some : goal.returns-in-Some
returns-in-Some t c = λ level height is place.
    first-in_word c.args.words.now c.args.start c.args.word c.args.place c.in-Some.lowest c.first_below.result level height c.requires.summed is place c.in-Some.ensures c.first_below.ensures

pub returns-then-word-eq0 : goal.returns-then-word-eq0
returns-then-word-eq0 t c = λ level height is place.
    none-from_root c.args.words.now c.args.start c.args.word c.args.place level height c.requires.summed is place c.if-word-eq0.true c.in_default.ensures

pub returns : goal.returns
returns t c = λ level height is place.
    first-above c.args.words.now c.args.start c.args.word c.args.place level height c.first_from.result c.requires.summed is place (omega (arith, c.if-word-eq0.false)) c.requires.within c.in_default.ensures c.first_from.ensures
