use Rattle.std.proofs.Common.{◌≡◌, ◌∙◌, not, eqb, ap, rules, arith}
use Rattle.std.proofs.lemmas.Fn.{filter_same}
use Rattle.spans.specs.Spans.{Span, ascend}
use Rattle.spans.specs.Search.{begins_at}
use Rattle.spans.specs.Taking.{others}
use Rattle.spans.proofs.Others.{ascend-others}
use Rattle.spans.proofs.block.Block.take_out.Goals as goal

left : (c : goal.After-self-1) → c.retain.new.self.items ≡ others c.args.value c.self.inside.spans.items
left c = filter_same _ (λ (s : Span). not (eqb s.value c.args.value)) _ (search rules) _ _ c.retain.ensures.filtered

pub invariant_of-self : goal.invariant_of-self
invariant_of-self c = record {
  begins = c.begin_of-self-inside.ensures.same ∙ ap begins_at c.deref.ensures.value;
  in_range = c.begin_of-self-inside.ensures.in_range;
  ascending = ap (ascend 0) (left c) ∙ ascend-others c.args.value 0 c.self.inside.spans.items c.self.invariant.ascending;
  short = omega (arith, c.retain.ensures.bound, c.self.invariant.short);
  places = omega (arith, c.retain.ensures.capacity, c.self.invariant.places);
}

pub returns : goal.returns
returns c = left c ∙ ap (others c.args.value) c.self.view_is
