use Rattle.descr.proofs.TwoLayouts.{sends_apart}
use Rattle.descr.proofs.law.layouts_are_apart.Goals as goal

pub returns : goal.returns
returns c = sends_apart
