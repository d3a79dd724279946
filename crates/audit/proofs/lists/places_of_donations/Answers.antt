use Rattle.std.proofs.Common.{◌≡◌, ◌+◌, ◌-◌, ◌<◌, ◌∙◌, ℕ, Bool, cond, drop, length, Some, ap, arith}
use Rattle.base.specs.Ledger.{donation_at}
use Rattle.base.specs.Pages.{in_run}
use Rattle.base.specs.Transactions.{Donation}
use Rattle.spans.specs.Spans.{value_at}
use Rattle.audit.proofs.ListPlaces.{donation-placed, covers-one}
use Rattle.audit.proofs.lists.places_of_donations.Goals as goal

pub loop-left-preserved : goal.loop-left-preserved
loop-left-preserved c =
    let l = c.loop-left in
    let ds = c.args.donations.now in
    let i : ℕ = l.left - 1 in
    let some = c.loop-left-test.true in
    let most = l.invariant.0 in
    let lt : i < length ds = omega (arith, some, most) in
    let at : i + 1 ≡ l.left = omega (arith, some) in (
      omega (arith, most),
      λ n.
          donation-placed ds i n c.index-donations-left.result (value_at l.places.spans n) (value_at c.put_all.new.self.spans n) lt c.index-donations-left.is
          (ap (λ (k : ℕ). donation_at (drop k ds) n) at ∙ l.invariant.1 n)
          (c.in_ok-put_all.ensures.at n ∙ ap (λ (b : Bool). cond b (Some i) (value_at l.places.spans n)) (covers-one _ n ∙ ap (λ (d : Donation). in_run d.run n) c.donation.view_is)),
    )
