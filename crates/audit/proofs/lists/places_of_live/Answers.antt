use Rattle.std.proofs.Common.{◌≡◌, cond, List, Some, ap, ◌∙◌}
use Rattle.base.specs.Pages.{PageRun, covers}
use Rattle.base.specs.Transactions.{Live}
use Rattle.spans.specs.Spans.{value_at}
use Rattle.audit.proofs.ListPlaces.{live-placed}
use Rattle.audit.proofs.lists.places_of_live.Goals as goal

pub loop-place-preserved : goal.loop-place-preserved
loop-place-preserved c = λ n.
    let l = c.loop-place in
    let t = c.index-live-place.result in
    let runs : c.deref-in-loop-place.result.now ≡ t.ranges = cc (c.deref-in-loop-place.ensures.value, c.deref.ensures, ap (λ (x : Live). x.ranges) c.transaction.view_is) in
    live-placed c.args.live.now l.place n t (value_at l.places.spans n) (value_at c.put_all.new.self.spans n)
    c.requires c.loop-place-test.true c.index-live-place.is (l.invariant n)
    (c.in_ok-put_all.ensures.at n ∙ ap (λ (r : List PageRun). cond (covers r n) (Some l.place) (value_at l.places.spans n)) runs)
