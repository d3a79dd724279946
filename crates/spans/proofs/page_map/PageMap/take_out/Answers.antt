use Rattle.std.proofs.Common.{◌≡◌, ◌∙◌, cond, List, None, sym, ap, subst}
use Rattle.base.specs.Pages.{covers}
use Rattle.spans.specs.Spans.{Span, PageMapView, value_at, are_joined}
use Rattle.spans.specs.Blocks.{all_spans, AreTidy}
use Rattle.spans.specs.Taking.{has_number}
use Rattle.spans.proofs.Joined.{joined-others}
use Rattle.spans.proofs.Others.{at-others}
use Rattle.spans.proofs.page_map.PageMap.take_out.Goals as goal

pub invariant_of-self : goal.invariant_of-self
invariant_of-self c =
    let old = all_spans c.self.inside.blocks.list in
    let inv = c.self.invariant in
    record {
      tidy = subst AreTidy (sym c.trim.ensures.list) c.take_runs.ensures.tidy;
      joined = ap (λ l. are_joined (all_spans l)) c.trim.ensures.list ∙ ap are_joined c.take_runs.ensures.spans ∙ joined-others c.args.value 0 old inv.tidy.stacked.ascending inv.joined;
      spare = c.trim.ensures.spare;
    }

pub returns : goal.returns
returns c = λ n.
    let old = all_spans c.self.inside.blocks.list in
    let runs = c.args.runs.now in
    let same : old ≡ c.args.self.now.spans = ap (λ (v : PageMapView). v.spans) c.self.view_is in
    let are : has_number c.args.value old n ≡ covers runs n = ap (λ (l : List Span). has_number c.args.value l n) same ∙ c.requires n in
    ap (λ l. value_at (all_spans l) n) c.trim.ensures.list
    ∙ ap (λ (l : List Span). value_at l n) c.take_runs.ensures.spans
    ∙ at-others c.args.value 0 old n c.self.invariant.tidy.stacked.ascending
    ∙ ap (λ b. cond b None (value_at old n)) are
    ∙ ap (λ (l : List Span). cond (covers runs n) None (value_at l n)) same
