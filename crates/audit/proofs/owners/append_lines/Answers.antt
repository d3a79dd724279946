use Rattle.std.proofs.Common.{◌≡◌, ◌++◌, ◌-◌, ℕ, List, length, Some, None, sym, ap, ap₂, subst, ◌∙◌, arith}
use Rattle.std.specs.List.{flat_map}
use Rattle.std.proofs.lemmas.Result.{IfOk-weaker}
use Rattle.base.specs.Pages.{PageRun}
use Rattle.base.specs.Runs.{maximal_runs, with_next}
use Rattle.audit.specs.Runs.{AreLined, OwnedRun, ownership, ownership_of, is_same_ownership}
use Rattle.audit.specs.Texts.{ownership_end, owners_line}
use Rattle.audit.proofs.RunLines.{lined-none}
use Rattle.audit.proofs.OwnedRuns.{owned-more}
use Rattle.audit.proofs.owners.append_lines.Goals as goal

pub loop-number-init : goal.loop-number-init
unfolding lined-none maximal_runs
loop-number-init c = record {
  lined = lined-none ownership_end c.args.text.now.items c.new-lines.result.count c.new-lines.result.last c.new-lines.ensures.count c.new-lines.ensures.last;
  few = omega (arith, c.new-lines.ensures.count);
  inside = omega arith;
}

pub push-requires : goal.push-requires
push-requires c = c.loop-number.invariant.few

pub finish-requires : goal.finish-requires
finish-requires c = c.loop-number.invariant.few

pub loop-number-preserved-in_ok-push : goal.loop-number-preserved-in_ok-push
loop-number-preserved-in_ok-push c =
    let so = c.loop-number.invariant in
    let f = ownership c.args.ledger.now.manifest c.args.ledger.now.donations in
    let number = c.loop-number.number in
    let owned = c.owned-owned in
    let value = c.in-Some.value in
    let all = owned-more f number c.new-page.result owned.result.end (Some value) c.new-page.ensures owned.ensures.behind (λ n le lt. ap₂ ownership_of (owned.ensures.owner n le lt) (owned.ensures.home n le lt) ∙ sym c.with_home.ensures ∙ c.in-Some.is) in
    let run = c.new-run.ensures ∙ ap (λ (first : ℕ). record { first = first; count = owned.result.end - number }) c.new-page.ensures in
    let runs = ap (λ (r : PageRun). with_next is_same_ownership (maximal_runs is_same_ownership f number) (record { run = r; value = value })) run ∙ all in
    record {
      lined = subst (λ (rs : List OwnedRun). AreLined ownership_end c.args.text.now.items c.push.new.text.items c.push.new.self.count c.push.new.self.last rs) runs (c.in_ok-push.ensures.lined c.args.text.now.items (maximal_runs is_same_ownership f number) so.lined);
      few = c.in_ok-push.ensures.few;
      inside = owned.ensures.in_range;
    }

pub loop-number-preserved : goal.loop-number-preserved
loop-number-preserved c =
    let so = c.loop-number.invariant in
    let f = ownership c.args.ledger.now.manifest c.args.ledger.now.donations in
    let owned = c.owned-owned in
    let runs = owned-more f c.loop-number.number c.new-page.result owned.result.end None c.new-page.ensures owned.ensures.behind (λ n le lt. ap₂ ownership_of (owned.ensures.owner n le lt) (owned.ensures.home n le lt) ∙ sym c.with_home.ensures ∙ c.in_default.is) in
    record {
      lined = subst (λ (rs : List OwnedRun). AreLined ownership_end c.args.text.now.items c.loop-number.text.items c.loop-number.lines.count c.loop-number.lines.last rs) runs so.lined;
      few = so.few;
      inside = owned.ensures.in_range;
    }

pub returns-clause-count : goal.returns-clause-count
returns-clause-count c =
    let so = c.loop-number.invariant in
    let all : c.loop-number.number ≡ 134217728 = omega (arith, so.inside, c.loop-number-test.false) in
    IfOk-weaker c.finish.result _ _ (λ count is. is c.args.text.now.items _ so.lined ∙ ap (λ n. length (maximal_runs is_same_ownership (ownership c.args.ledger.now.manifest c.args.ledger.now.donations) n)) all) c.finish.ensures.count

pub returns-clause-lines : goal.returns-clause-lines
returns-clause-lines c =
    let so = c.loop-number.invariant in
    let all : c.loop-number.number ≡ 134217728 = omega (arith, so.inside, c.loop-number-test.false) in
    IfOk-weaker c.finish.result _ _ (λ _ is. is c.args.text.now.items _ so.lined ∙ ap (λ n. c.args.text.now.items ++ flat_map owners_line (maximal_runs is_same_ownership (ownership c.args.ledger.now.manifest c.args.ledger.now.donations) n)) all) c.finish.ensures.lines
