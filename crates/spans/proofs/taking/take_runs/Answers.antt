use Rattle.std.proofs.Common.{◌≡◌, ◌∙◌, ℕ, ◌+◌, ◌<◌, Bool, true, false, ltb, List, length, get_or, refl, sym, ap, arith}
use Rattle.std.proofs.lemmas.Bool.{ltb-true, ltb-false}
use Rattle.std.proofs.lemmas.List.{get_or_default}
use Rattle.base.specs.Pages.{PageRun}
use Rattle.spans.specs.Spans.{Span}
use Rattle.spans.specs.Blocks.{all_spans}
use Rattle.spans.specs.Taking.{has_number}
use Rattle.spans.proofs.Others.{BeginsRun, all_begin_runs, others_all, taken-rest, taken-all, taken-gone, taken-had}
use Rattle.spans.proofs.taking.take_runs.Goals.{then-page-from, else-page-from+else-end-page}
use Rattle.spans.proofs.taking.take_runs.Goals as goal

pub loop-run-init : goal.loop-run-init
loop-run-init c = record {
  stacked = c.requires.tidy.stacked;
  dense = c.requires.tidy.dense;
  rest = refl;
  begins = all_begin_runs c.args.value c.args.runs.now (all_spans c.args.blocks.now.list) c.requires.tidy.stacked.ascending c.requires.joined c.requires.pages;
  gone = λ i d lt. absurd (omega arith);
  zone = λ n from to. absurd (omega arith);
}

still : (was now : Bool) → (now ≡ true → was ≡ true) → was ≡ false → now ≡ false
still was true had gone = let h = had refl in absurd (cc)
still was false had gone = refl

-- of one run more
one_more : (value : ℕ) (ss : List Span) (runs : List PageRun) (k : ℕ) → k < length runs → ((i : ℕ) (d : PageRun) → i < k → has_number value ss (get_or runs i d).first ≡ false) → (run : PageRun) → run ≡ get_or runs k run → has_number value ss run.first ≡ false
    → (i : ℕ) (d : PageRun) → i < k + 1 → has_number value ss (get_or runs i d).first ≡ false
one_more value ss runs k inside before run is here i d lt = elim (ltb i k) as (λ b. ltb i k ≡ b → has_number value ss (get_or runs i d).first ≡ false) [
  | true ↦ λ t. before i d (ltb-true _ _ t)
  | false ↦ λ t.
      let ge = ltb-false _ _ t in
      let last : i ≡ k = omega arith in
      ap (λ (j : ℕ). has_number value ss (get_or runs j d).first) last ∙ ap (λ (r : PageRun). has_number value ss r.first) (get_or_default runs k d run inside ∙ sym is) ∙ here
] refl

pub loop-run-preserved : goal.loop-run-preserved
loop-run-preserved c =
    let inv = c.loop-run.invariant in
    let value = c.args.value in
    let runs = c.args.runs.now in
    let run = c.run-item.result in
    let old = all_spans c.loop-run.blocks.list in
    let page : c.number-page.result ≡ run.first = c.number-page.ensures.same ∙ c.first.ensures.same in
    let inside : c.loop-run.run-index < length runs = c.loop-run-test.true in
    elim c.if-page-from.branch [
      | then-page-from w ↦
          let e = w.take_at.ensures in
          let new = all_spans w.take_at.new.self.list in
          let t = e.taken in
          let had : (n : ℕ) → has_number value old n ≡ false → has_number value new n ≡ false = λ n. still (has_number value old n) (has_number value new n) (taken-had value w.take_at.result.0 w.take_at.result.1 old new t inv.stacked.ascending n) in
          let zone = taken-gone value w.take_at.result.0 w.take_at.result.1 old new t inv.stacked.ascending in
          rw (w.blocks-is, w.from-is, w.end-is) (record {
            stacked = e.tidy.stacked;
            dense = e.tidy.dense;
            rest = taken-rest value w.take_at.result.0 w.take_at.result.1 old new t ∙ inv.rest;
            begins = taken-all value w.take_at.result.0 w.take_at.result.1 old new t (BeginsRun value runs) inv.begins;
            gone = one_more value new runs c.loop-run.run-index inside (λ i d lt. had (get_or runs i d).first (inv.gone i d lt)) run c.run-item.is (ap (has_number value new) (sym page) ∙ e.gone);
            zone = zone;
          })
      | else-page-from+else-end-page w ↦
          rw (w.blocks-is, w.from-is, w.end-is) (record {
            stacked = inv.stacked;
            dense = inv.dense;
            rest = inv.rest;
            begins = inv.begins;
            gone = one_more value old runs c.loop-run.run-index inside inv.gone run c.run-item.is (inv.zone run.first (omega (arith, page, w.if-page-from.false)) (omega (arith, page, w.if-end-page.false)));
            zone = inv.zone;
          })
    ]

pub returns-clause-spans : goal.returns-clause-spans
returns-clause-spans c =
    let inv = c.loop-run.invariant in
    sym (others_all c.args.value 0 c.args.runs.now (all_spans c.loop-run.blocks.list) inv.stacked.ascending inv.begins (λ i d lt. inv.gone i d (omega (arith, c.loop-run-test.false, lt)))) ∙ inv.rest
