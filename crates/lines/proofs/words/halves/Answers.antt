use Rattle.std.proofs.Common.{◌∙◌, sym, ap, option_map}
use Rattle.std.proofs.lemmas.List.{take_rest}
use Rattle.lines.proofs.FirstPart.{halved, not_halved}
use Rattle.lines.proofs.words.halves.Goals as goal

pub returns-in_err-at : goal.returns-in_err-at
returns-in_err-at c =
    ap (option_map (λ halves. (halves.0.now, halves.1.now))) c.from_residual.ensures ∙ not_halved c.args.mark c.args.word.now (sym c.place_of.ensures ∙ c.in_err-at.was)

pub returns : goal.returns
returns c = rw take_rest (halved c.args.mark c.in_ok-at.at c.args.word.now (sym c.place_of.ensures ∙ c.in_ok-at.was))
