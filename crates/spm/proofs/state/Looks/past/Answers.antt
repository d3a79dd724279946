use Rattle.std.proofs.Common.{◌≡◌, ◌∙◌, arith, inl, inr}
use Rattle.std.proofs.lemmas.Bool.{cases_lt}
use Rattle.spm.proofs.state.Looks.past.Goals as goal

pub returns-clause-known : goal.returns-clause-known
returns-clause-known c =
    let start : c.number.result ≡ c.args.run.first = c.number.ensures.same ∙ c.first.ensures.same in
    λ n from to. elim (cases_lt n c.past-first.result) [
      | inl before ↦ inl (c.past-first.ensures.known n (omega (arith, start, from)) before)
      | inr behind ↦ inr (c.past.ensures.known n behind to)
    ]
