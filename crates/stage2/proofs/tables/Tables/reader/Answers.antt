use Rattle.stage2.proofs.Names.{shown, Reading, entries_of, reading_of, map, ap, ◌∙◌}
use Rattle.stage2.proofs.Editing.WholeTables.{canonical-inside}
use Rattle.stage2.proofs.Reading.Listing.{all-shown}
use Rattle.stage2.proofs.tables.Tables.reader.Goals as goal

pub returns-clause-canonical : goal.returns-clause-canonical
returns-clause-canonical g c =
    let m = c.self.inside.memory in
    canonical-inside _ _ _ c.args.self.now c.self.view_is c.self.invariant (g.met.M.TableMem.free_is_zero m) (g.met.M.TableMem.operations_lie_within m)

pub returns-clause-shown : goal.returns-clause-shown
returns-clause-shown g c = λ p.
    ap (λ (r : Reading). map shown (entries_of r p)) (c.new.ensures ∙ ap reading_of c.self.view_is) ∙ all-shown c.args.self.now p (returns-clause-canonical g c)
