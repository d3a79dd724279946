use Rattle.std.proofs.Common.{rules, ◌∙◌, arith}
use Rattle.descw.proofs.Header.{header_size-rest}
use Rattle.descw.proofs.Joins.{header_joined}
use Rattle.descw.proofs.text.write_header.Goals as goal

pub returns-clause-text : goal.returns-clause-text
returns-clause-text c =
    let head = c.write_pair.ensures in
    let end = c.write_header_end.ensures in
    record {
      items = end.items ∙ rw (← c.header.view_is) (header_joined c.args.version c.args.out.now.items _ c.args.count _ _ _ _ _ c.join_words.ensures c.join_halves-head.ensures (search rules) (search rules) (search rules));
      len = omega (arith, end.len, head.len, header_size-rest c.args.version);
      capacity = end.capacity ∙ head.capacity;
    }
