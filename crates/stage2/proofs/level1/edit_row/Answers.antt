use Rattle.stage2.proofs.Editing.UpToGigabyte.{only-can, only-edited}
use Rattle.stage2.proofs.level1.edit_row.Goals as goal

pub edit_gigabyte-requires : goal.edit_gigabyte-requires
edit_gigabyte-requires g c = only-can c.requires c.in-Some.ensures

pub returns-in-Some : goal.returns-in-Some
returns-in-Some g c = only-edited c.requires c.in-Some.ensures c.edit_gigabyte.ensures
