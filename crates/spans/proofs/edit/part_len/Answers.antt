use Rattle.std.proofs.Common.{◌≡◌, ℕ, zero, suc, ◌*◌, ◌-◌, ◌≤◌, ◌<◌, true, false, ltb, refl, ap, rules, arith}
use Rattle.std.proofs.lemmas.Bool.{ltb-true, ltb-false}
use Rattle.std.proofs.lemmas.Grind.{div_ceil_times}
use Rattle.spans.proofs.edit.part_len.Goals.{then-point-len, else-point-len+then-parts-eq2, else-point-len+else-parts-eq2}
use Rattle.spans.proofs.edit.part_len.Goals as goal

times-80 : (d n : ℕ) → d ≤ 80 → d * n ≤ 80 * n
times-80 zero n le = omega arith
times-80 d zero le = omega arith
times-80 d (suc n) le = let r = times-80 d n le in omega (arith, r, le)

-- one of three parts or more has two thirds of a block at least
two_thirds : (len parts d : ℕ) → 2 < parts → (parts - 1) * 128 < len → len ≤ d * parts → 80 < d
two_thirds len parts d some full enough = elim (ltb 80 d) as (λ b. ltb 80 d ≡ b → 80 < d) [
  | true ↦ λ t. ltb-true _ _ t
  | false ↦ λ t. let u = times-80 d parts (ltb-false _ _ t) in absurd (omega (arith, u, some, full, enough))
] refl

pub returns : goal.returns
returns c = record {
  some = search rules;
  short = search rules;
  inside = search rules;
  least = λ lt.
      elim c.if-point-len.branch [
        | then-point-len w ↦ omega (arith, c.max-2.ensures, c.min-2.ensures, w.wanted-is)
        | else-point-len+then-parts-eq2 w ↦ omega (arith, c.max-2.ensures, c.min-2.ensures, w.wanted-is, w.max.ensures, w.min.ensures, w.if-parts-eq2.true, c.requires.full)
        | else-point-len+else-parts-eq2 w ↦
            let e = div_ceil_times c.args.len c.args.parts (omega (arith, c.requires.some)) in
            let p = ap (λ (k : ℕ). k * c.args.parts) w.div_ceil.ensures in
            let t = two_thirds c.args.len c.args.parts w.div_ceil.result (omega (arith, lt, w.if-parts-eq2.false)) c.requires.full (omega (arith, e.0, p)) in
            omega (arith, c.max-2.ensures, c.min-2.ensures, w.wanted-is, t)
      ];
  many = λ lt.
      elim c.if-point-len.branch [
        | then-point-len w ↦ omega (arith, c.max-2.ensures, c.min-2.ensures, w.wanted-is)
        | else-point-len+then-parts-eq2 w ↦ absurd (omega (arith, lt, w.if-parts-eq2.true))
        | else-point-len+else-parts-eq2 w ↦
            let e = div_ceil_times c.args.len c.args.parts (omega (arith, c.requires.some)) in
            let p = ap (λ (k : ℕ). k * c.args.parts) w.div_ceil.ensures in
            let t = two_thirds c.args.len c.args.parts w.div_ceil.result lt c.requires.full (omega (arith, e.0, p)) in
            omega (arith, c.max-2.ensures, c.min-2.ensures, w.wanted-is, t)
      ];
  fits = search rules;
  full = search rules;
}
