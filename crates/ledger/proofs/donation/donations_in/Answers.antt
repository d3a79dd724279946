use Rattle.std.proofs.Common.{arith}
use Rattle.base.specs.Runs.{maximal_runs}
use Rattle.ledger.proofs.Donations.{left-more, left-all}
use Rattle.ledger.proofs.donation.donations_in.Goals as goal

pub loop-number-init : goal.loop-number-init
unfolding maximal_runs
loop-number-init c = record { runs = c.new-found.ensures.items; inside = omega arith }

pub loop-number-preserved : goal.loop-number-preserved
loop-number-preserved c =
    let l = c.loop-number in
    let page = c.new-page.result in
    let left = c.left_from-gift.result in
    let is = c.left_from-gift.ensures in
    record {
      runs = left-more c.args.manifest.now c.args.given.now.spans l.number page left.end l.found.items c.push_left.new.found.items left.value c.new-page.ensures is.behind is.alike l.invariant.runs c.in_ok-push_left.ensures;
      inside = is.in_range;
    }

pub returns : goal.returns
returns c = left-all c.args.manifest.now c.args.given.now.spans c.end-last.result c.loop-number.number c.loop-number.found.items (omega arith) c.end-last.ensures.behind c.loop-number.invariant.runs
