use Rattle.std.proofs.Common.{◌≡◌, ◌≤◌, ◌<◌, ℕ, true, false, sym, ◌∙◌, inl, inr}
use Rattle.base.specs.State.{is_free_with}
use Rattle.spm.proofs.SegmentLemmas.{each_page-known, each_page-done, next-range}
use Rattle.spm.proofs.state.State.are_all_free_with.Goals as goal

pub returns-in-None-free_until : goal.returns-in-None-free_until
returns-in-None-free_until c =
    let f = is_free_with c.args.self.now c.args.owner.now.partition c.args.home in
    let end = c.end-then-first-end in
    let known = c.loop-run.invariant in
    let passed : (n : ℕ) → c.in-Some.run'.first ≤ n → n < c.past-first.result → f n ≡ true = λ n from to. elim (c.past-first.ensures.known n from to) [ inl a ↦ known.first n a.0 a.1 | inr b ↦ known.last n b.0 b.1 ] in
    let decided = each_page-known f c.in-Some.run' c.past-first.result end.result end.ensures.same c.past-first.ensures.behind c.past-first.ensures.inside passed in
    next-range f _ _ c.in-Some.run' false _ c.in-Some.ensures.steps (sym c.in-None-free_until.ensures.none ∙ decided) known.rest

pub loop-run-preserved-then-first-end : goal.loop-run-preserved-then-first-end
loop-run-preserved-then-first-end c =
    let f = is_free_with c.args.self.now c.args.owner.now.partition c.args.home in
    let end = c.end-then-first-end in
    let known = c.loop-run.invariant in
    let passed : (n : ℕ) → c.in-Some.run'.first ≤ n → n < c.past-first.result → f n ≡ true = λ n from to. elim (c.past-first.ensures.known n from to) [ inl a ↦ known.first n a.0 a.1 | inr b ↦ known.last n b.0 b.1 ] in
    let decided = each_page-known f c.in-Some.run' c.past-first.result end.result end.ensures.same c.past-first.ensures.behind c.past-first.ensures.inside passed in
    record {
      rest = next-range f _ _ c.in-Some.run' true _ c.in-Some.ensures.steps (sym c.in-Some-free_until.ensures.some ∙ decided) known.rest;
      first = known.first;
      last = c.in-Some-free_until.ensures.known;
    }

pub loop-run-preserved : goal.loop-run-preserved
loop-run-preserved c =
    let f = is_free_with c.args.self.now c.args.owner.now.partition c.args.home in
    let known = c.loop-run.invariant in
    let passed : (n : ℕ) → c.in-Some.run'.first ≤ n → n < c.past-first.result → f n ≡ true = λ n from to. elim (c.past-first.ensures.known n from to) [ inl a ↦ known.first n a.0 a.1 | inr b ↦ known.last n b.0 b.1 ] in
    let decided = each_page-known f c.in-Some.run' c.past-first.result c.end.result c.end.ensures.same c.past-first.ensures.behind c.past-first.ensures.inside passed in
    record {
      rest = next-range f _ _ c.in-Some.run' true _ c.in-Some.ensures.steps (sym (each_page-done f c.end.result c.past-first.result c.if-first-end.false) ∙ decided) known.rest;
      first = known.first;
      last = known.last;
    }
