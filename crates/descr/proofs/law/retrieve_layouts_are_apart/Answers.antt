use Rattle.descr.proofs.TwoLayouts.{retrieves_apart}
use Rattle.descr.proofs.law.retrieve_layouts_are_apart.Goals as goal

pub returns : goal.returns
returns c = retrieves_apart
