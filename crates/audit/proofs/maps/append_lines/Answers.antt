use Rattle.std.proofs.Common.{◌++◌, List, [], length, ap, ap₂, ◌∙◌, arith}
use Rattle.std.specs.List.{flat_map}
use Rattle.std.proofs.lemmas.Result.{IfOk-weaker}
use Rattle.base.specs.Access.{Access, is_same}
use Rattle.base.specs.Pages.{PageRun}
use Rattle.base.specs.Runs.{with_next}
use Rattle.stage2.specs.Reading.{TableEntry}
use Rattle.stage2.specs.Readings.{Reading, entries_of}
use Rattle.stage2.specs.Tables.{view_of}
use Rattle.audit.specs.Runs.{ReachedRun, reached_runs}
use Rattle.audit.specs.Texts.{access_end, maps_line}
use Rattle.audit.proofs.RunLines.{lined-none}
use Rattle.audit.proofs.JoinedRuns.{entries-runs, leaf_run, next-run, no-more, with_all}
use Rattle.audit.proofs.maps.append_lines.Goals as goal

pub loop-pages-init : goal.loop-pages-init
unfolding lined-none
loop-pages-init g c =
    let t = c.args.tables.now in
    let left = c.alike-left.ensures ∙ ap (λ (r : Reading). entries_of r c.args.p) c.reader.ensures.reading in
    record {
      runs = [];
      lined = lined-none access_end c.args.text.now.items c.new-lines.result.count c.new-lines.result.last c.new-lines.ensures.count c.new-lines.ensures.last;
      whole = ap (λ (es : List TableEntry). with_all is_same [] (flat_map leaf_run es)) left ∙ entries-runs t c.args.p c.reader.ensures.canonical;
      few = omega (arith, c.new-lines.ensures.count);
    }

pub push-requires : goal.push-requires
push-requires g c = c.loop-pages.invariant.few

pub loop-pages-preserved : goal.loop-pages-preserved
loop-pages-preserved g c =
    let so = c.loop-pages.invariant in
    let run : ReachedRun = record { run = c.pages.result; value = c.access.result } in
    let next = ap₂ (λ (r : PageRun) (a : Access). record { run = r; value = a }) c.pages.ensures c.access.ensures in
    let rest = c.next.new.self in
    record {
      runs = with_next is_same so.runs run;
      lined = c.in_ok-push.ensures.lined c.args.text.now.items so.runs so.lined;
      whole = ap (λ (r : ReachedRun). with_all is_same (with_next is_same so.runs r) (flat_map leaf_run rest)) next ∙ next-run so.runs c.loop-pages.left rest c.in-Some.pages c.in-Some.ensures.steps ∙ so.whole;
      few = c.in_ok-push.ensures.few;
    }

pub finish-requires : goal.finish-requires
finish-requires g c = c.loop-pages.invariant.few

pub returns-clause-count : goal.returns-clause-count
returns-clause-count g c =
    let so = c.loop-pages.invariant in
    let all = no-more so.runs (reached_runs (view_of c.args.tables.now c.args.p)) c.loop-pages.left so.whole c.in_default.ensures.steps.0 in
    IfOk-weaker c.finish.result _ _ (λ count is. is c.args.text.now.items so.runs so.lined ∙ ap length all) c.finish.ensures.count

pub returns-clause-lines : goal.returns-clause-lines
returns-clause-lines g c =
    let so = c.loop-pages.invariant in
    let all = no-more so.runs (reached_runs (view_of c.args.tables.now c.args.p)) c.loop-pages.left so.whole c.in_default.ensures.steps.0 in
    IfOk-weaker c.finish.result _ _ (λ _ is. is c.args.text.now.items so.runs so.lined ∙ ap (λ (rs : List ReachedRun). c.args.text.now.items ++ flat_map maps_line rs) all) c.finish.ensures.lines
