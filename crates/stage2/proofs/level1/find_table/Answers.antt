use Rattle.stage2.proofs.Names.{pages_of, nat_tests, common_steps, arith}
use Rattle.stage2.proofs.Tree.KnownWords.{root-known}
use Rattle.stage2.proofs.level1.find_table.Goals as goal

pub read_slot-requires-clause-known : goal.read_slot-requires-clause-known
read_slot-requires-clause-known g c = grind (arith, common_steps, nat_tests, root-known c.args.layout.now (pages_of (g.M.TableMem.state c.args.memory.now).memory) c.requires.canonical.orderly c.args.row c.args.gigabyte c.requires.row c.index.ensures.in_range)
