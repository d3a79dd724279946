use Rattle.std.proofs.Common.{◌≡◌, ℕ, Bool, true, false, ◌||◌, cond, Option, Some, None, refl, ap, ◌∙◌}
use Rattle.base.specs.Ledger.{left_of}
use Rattle.base.specs.Manifest.{ManifestRows}
use Rattle.base.specs.Pages.{in_run}
use Rattle.base.specs.Transactions.{Gift}
use Rattle.spans.specs.Spans.{value_at}
use Rattle.ledger.specs.Gifts.{gift_of, left_by}
use Rattle.ledger.proofs.gift.map_of_grants.Goals as goal
use Rattle.ledger.proofs.gift.map_of_grants.Goals.{in-Some+in_ok-put_all, in_default}

-- a page of the run gets a number that says what the manifest says, and any other keeps what it has
one-more : (m : ManifestRows) (g : Gift) (k n : ℕ) (here : Bool) (old new : Option ℕ) → gift_of k ≡ g → (here ≡ true → left_of m g n ≡ None) → left_by m old n ≡ None → new ≡ cond (here || false) (Some k) old → left_by m new n ≡ None
one-more m g k n true old new spells none before at = ap (λ (v : Option ℕ). left_by m v n) at ∙ ap (λ (h : Gift). left_of m h n) spells ∙ none refl
one-more m g k n false old new spells none before at = ap (λ (v : Option ℕ). left_by m v n) at ∙ before

pub loop-region-preserved : goal.loop-region-preserved
loop-region-preserved c = λ n.
    let m = c.args.manifest.now in
    let l = c.loop-region in
    elim c.match-granted_from.branch [
      | in-Some+in_ok-put_all w ↦
          let granted = w.in-Some.granted in
          rw w.map-is
          (one-more m granted.gift w.number.result n (in_run granted.run n) (value_at l.map.spans n) (value_at w.put_all.new.self.spans n)
          w.number.ensures (c.granted_from.ensures granted w.in-Some.is n) (l.invariant n) (w.in_ok-put_all.ensures.at n))
      | in_default w ↦ rw w.map-is (l.invariant n)
    ]
