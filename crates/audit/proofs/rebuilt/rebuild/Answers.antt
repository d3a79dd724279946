use Rattle.std.proofs.Common.{ℕ, ◌≤◌, sym, subst}
use Rattle.std.proofs.lemmas.Result.{IfOk-weaker}
use Rattle.base.specs.Access.{View}
use Rattle.base.specs.Ledger.{view}
use Rattle.base.specs.Need.{need}
use Rattle.manifest.specs.Valid.{quota_of}
use Rattle.stage2.specs.Tables.{AllWalksAre}
use Rattle.audit.proofs.ReachedViews.{views-fit, all-apart, same-views}
use Rattle.audit.proofs.rebuilt.rebuild.Goals as goal

pub new-requires : goal.new-requires
new-requires g c = all-apart c.args.manifest.now c.args.donations.now c.args.live.now c.requires.reached

pub filled-requires : goal.filled-requires
filled-requires g c =
    let lists = c.in_ok-lists.lists in
    let so = c.in_ok-lists.ensures in
    let same = same-views lists.manifest.now c.args.manifest.now lists.donations.now c.args.donations.now lists.live.now c.args.live.now so.manifest so.donations so.live in
    record {
      fits = λ valid p. subst (λ (v : ℕ → ℕ → View). need (v p) ≤ quota_of c.args.manifest.now p) (sym same) (views-fit c.args.manifest.now c.args.donations.now c.args.live.now c.requires.reached p);
    }

pub returns-clause-agrees : goal.returns-clause-agrees
returns-clause-agrees g c =
    let lists = c.in_ok-lists.lists in
    let so = c.in_ok-lists.ensures in
    let same = same-views lists.manifest.now c.args.manifest.now lists.donations.now c.args.donations.now lists.live.now c.args.live.now so.manifest so.donations so.live in
    IfOk-weaker _ (λ t. AllWalksAre t.layout (view lists.manifest.now lists.donations.now lists.live.now) t.pool) (λ t. AllWalksAre t.layout (view c.args.manifest.now c.args.donations.now c.args.live.now) t.pool) (λ t agrees. subst (λ (v : ℕ → ℕ → View). AllWalksAre t.layout v t.pool) same agrees) c.filled.ensures.agrees
