-- Maximal runs of pages that are reached alike, made stretch by stretch.
use Rattle.std.proofs.Common.{◌≡◌, ℕ, ◌+◌, ◌-◌, ◌*◌, ◌<◌, ◌≤◌, false, Some, None, sym, ap, ◌∙◌, arith}
use Rattle.base.specs.Access.{View, is_same}
use Rattle.base.specs.Need.{is_mixed, is_reached}
use Rattle.stage2.proofs.Counting.Needs.{equal-first}
use Rattle.stage2.proofs.Editing.Gigabyte.{not-reached}
use Rattle.std.specs.Option.{option_map_or}
use Rattle.base.specs.Runs.{valued, with_next, maximal_runs}
use Rattle.base.proofs.Accesses.{same_self}
use Rattle.base.proofs.MaximalRuns.{none-until, some-until}

module _ (view : ℕ → View) where
  -- pages that are all reached so
  pub stretch : (b e : ℕ) (o : View) → b < e → ((n : ℕ) → b ≤ n → n < e → view n ≡ o) → option_map_or (λ a. with_next is_same (maximal_runs is_same view b) (valued b (e - b) a)) o (maximal_runs is_same view b) ≡ maximal_runs is_same view e
  stretch b e None lt all = sym (none-until is_same view b e (omega (arith, lt)) all)
  stretch b e (Some a) lt all = sym (some-until is_same view b e a lt (same_self a) all)

  -- a gigabyte of which no page is reached
  pub gigabyte-none : (g : ℕ) → is_reached view g ≡ false → maximal_runs is_same view (262144 * g) ≡ maximal_runs is_same view (262144 * g + 262144)
  gigabyte-none g none =
      sym (none-until is_same view (262144 * g) (262144 * g + 262144) (omega arith)
      (λ n le lt. let at : 262144 * g + (n - 262144 * g) ≡ n = omega (arith, le) in
      ap view (sym at) ∙ not-reached view g (n - 262144 * g) none (omega (arith, le, lt))))

  -- a chunk that has no table
  pub chunk-alike : (c n : ℕ) → is_mixed view c ≡ false → 512 * c ≤ n → n < 512 * c + 512 → view n ≡ view (512 * c)
  chunk-alike c n unmixed le lt = equal-first view c n unmixed (omega (arith, le, lt))
