use Rattle.stage2.proofs.Names.{nat_tests, runs_past, ◌≡◌, ◌≢◌, ◌+◌, ◌*◌, ◌/◌, ◌≤◌, inl, inr, ap, ◌∙◌, arith}
use Rattle.stage2.proofs.Runs.Between.{past-later}
use Rattle.stage2.proofs.Runs.Pieces.{apart-before}
use Rattle.stage2.proofs.parts.next_piece.Goals as goal

pub returns-then-pages-clause-none : goal.returns-then-pages-clause-none
returns-then-pages-clause-none c = λ _ x from small.
    let start : c.number-start.result ≡ 512 * (512 * c.args.gigabyte + c.args.index) = c.number-start.ensures.same ∙ c.first.ensures.same ∙ ap (λ k. 512 * k) c.chunk.ensures.same in
    apart-before c.args.gigabyte c.args.index c.number-start.result c.bounds-pages.result.first c.bounds-pages.result.end c.args.runs.now c.runs_past-rest.result start c.runs_past-rest.ensures c.bounds-pages.ensures.within x from (inr c.if-pages.true)

pub returns-then-not-has-clause-none : goal.returns-then-not-has-clause-none
returns-then-not-has-clause-none c = λ _ x from small.
    let start : c.number-start.result ≡ 512 * (512 * c.args.gigabyte + c.args.index) = c.number-start.ensures.same ∙ c.first.ensures.same ∙ ap (λ k. 512 * k) c.chunk.ensures.same in
    let chunk : c.of-chunk.result ≡ c.max.result / 512 = c.of-chunk.ensures ∙ ap (λ n. n / 512) c.new.ensures in
    let other : c.of-chunk.result / 512 ≢ c.args.gigabyte = grind (arith, nat_tests, c.has.ensures.same, c.if-not-has.true) in
    let before : 512 * (512 * c.args.gigabyte + x) + 512 ≤ c.bounds-pages.result.first = omega (arith, start, chunk, c.max.ensures, other, c.if-index-ge-TABLE_WORDS.false, from, small) in
    apart-before c.args.gigabyte c.args.index c.number-start.result c.bounds-pages.result.first c.bounds-pages.result.end c.args.runs.now c.runs_past-rest.result start c.runs_past-rest.ensures c.bounds-pages.ensures.within x from (inl before)

pub returns-clause-some : goal.returns-clause-some
returns-clause-some c =
    let start : c.number-start.result ≡ 512 * (512 * c.args.gigabyte + c.args.index) = c.number-start.ensures.same ∙ c.first.ensures.same ∙ ap (λ k. 512 * k) c.chunk.ensures.same in
    let chunk : c.of-chunk.result ≡ c.max.result / 512 = c.of-chunk.ensures ∙ ap (λ n. n / 512) c.new.ensures in
    let here : c.of-chunk.result / 512 ≡ c.args.gigabyte = grind (arith, nat_tests, c.has.ensures.same, c.if-not-has.false) in
    let index = c.index-first.ensures.same in
    let at : c.of-chunk.result ≡ 512 * c.args.gigabyte + c.index-first.result = omega (arith, here, index) in
    let page : c.number.result ≡ 512 * (512 * c.args.gigabyte + c.index-first.result) = c.number.ensures.same ∙ c.first-2.ensures.same ∙ ap (λ k. 512 * k) at in
    let from : c.args.index ≤ c.index-first.result = omega (arith, start, chunk, c.max.ensures, at) in
    record {
      from = from;
      small = omega (arith, index);
      most = c.first_unfilled.ensures.most;
      apart = λ x low lt. apart-before c.args.gigabyte c.args.index c.number-start.result c.bounds-pages.result.first c.bounds-pages.result.end c.args.runs.now c.runs_past-rest.result start c.runs_past-rest.ensures c.bounds-pages.ensures.within x low
          (inl (omega (arith, start, chunk, c.max.ensures, at, low, lt)));
      past = c.runs_on-rest.ensures ∙ ap (λ rs. runs_past c.number.result rs) c.runs_past-rest.ensures
          ∙ past-later c.number-start.result c.number.result c.args.runs.now (omega (arith, start, page, from)) ∙ ap (λ n. runs_past n c.args.runs.now) page;
      filled = c.first_unfilled.ensures.filled;
    }
