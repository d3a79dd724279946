use Rattle.std.proofs.Common.{rules, ◌∙◌}
use Rattle.descw.proofs.Joins.{access_joined}
use Rattle.descw.proofs.text.write_access.Goals as goal

pub returns-clause-text : goal.returns-clause-text
returns-clause-text c =
    let written = c.write_pair.ensures in
    record {
      items = written.items ∙ access_joined c.args.out.now.items c.args.composite _ _ _ _ c.args.endpoint c.join_words.ensures c.join_halves-head.ensures (search rules) (search rules) (search rules);
      len = written.len;
      capacity = written.capacity;
    }
