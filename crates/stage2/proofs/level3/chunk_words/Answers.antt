use Rattle.stage2.proofs.Names.{nat_tests, View, step_for, IsWordFor, common_steps, ◌≡◌, ℕ, ◌+◌, ◌*◌, subst, ◌∙◌, arith}
use Rattle.stage2.proofs.Editing.Stretches.{stretch-small, word-some, word-further, word-zero}
use Rattle.stage2.proofs.level3.chunk_words.Goals as goal

steps : (n word : ℕ) (answer : View) → IsWordFor n answer word → word ≡ 0 → step_for answer ≡ 0
steps n word answer is same = grind (arith, common_steps, nat_tests, word-some)

pub returns : goal.returns
returns c =
    let at = c.first-first.ensures in
    let answer = c.args.answer.now in
    let word = c.word_of.result in
    let first : IsWordFor c.first-first.result answer word = record { entry = c.word_of.ensures.same; zero = c.word_of.ensures.zero } in
    rw c.step_of.ensures record {
      page = c.number.ensures;
      start = c.number-2.ensures.same ∙ at.same;
      below = omega (arith, c.number-2.ensures.same, at.same, at.in_range);
      small = stretch-small c.first-first.result word 512 answer (omega (arith, at.same, at.in_range)) (omega arith) c.word_of.ensures.same c.word_of.ensures.zero;
      each = λ x lt.
          let begins : c.first-first.result ≡ 512 * c.args.chunk + 0 = omega (arith, at.same) in
          let there : 512 * c.args.chunk + (0 + x) ≡ 512 * c.args.chunk + x = omega arith in
          subst (λ n. IsWordFor n answer (word + step_for answer * x)) there
          (grind (arith, common_steps, nat_tests, word-zero, word-further));
      valid = (grind (arith, common_steps, nat_tests, word-some));
      zeros = steps c.first-first.result word answer first;
    }
