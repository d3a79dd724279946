use Rattle.std.proofs.Common.{sym, ◌∙◌}
use Rattle.pool.proofs.Rows.{position_ids}
use Rattle.pool.proofs.places.row_in.Goals as goal

pub returns : goal.returns
returns c = c.place_of.ensures ∙ sym (position_ids c.args.partitions.now c.args.p)
