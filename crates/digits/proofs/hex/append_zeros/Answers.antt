use Rattle.std.proofs.Common.{ℕ, rules, sym}
use Rattle.std.proofs.lemmas.List.{take-replicate}
use Rattle.digits.proofs.hex.append_zeros.Goals as goal

pub returns : goal.returns
returns c = rw (sym (take-replicate {X = ℕ} c.args.count 16 48 c.requires)) (search rules)
