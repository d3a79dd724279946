use Rattle.stage2.proofs.Names.{View, pages_of, count_below, edited, answers_of, grows_at, gigabyte_growth, Plan, ◌≡◌, ◌+◌, ◌*◌, None, sym, ap, subst, ◌∙◌}
use Rattle.stage2.proofs.Editing.Gigabyte.{touched-below, is-none}
use Rattle.stage2.proofs.Counting.Growth.{growth-mapped, growth-unmapped}
use Rattle.stage2.proofs.plan.plan_gigabyte.Goals as goal

pub returns-then-is_some-clause-tables : goal.returns-then-is_some-clause-tables
returns-then-is_some-clause-tables g c =
    ap (λ (p : Plan). p.tables) c.new-then-is_some.ensures ∙ ap (λ x. x + 1) c.plan_chunks-chunks.ensures.tables
    ∙ sym (growth-mapped c.requires.canonical (touched-below c.args.runs.now c.args.gigabyte c.requires.touched) c.args.edit.now.row c.args.edit.now.inside c.args.runs.now c.args.edit.now.access c.requires.touched (sym c.second_at-second.ensures ∙ c.in-None.is) (sym c.is_some.ensures ∙ c.if-is_some.true))

pub returns-else-is_some-clause-tables : goal.returns-else-is_some-clause-tables
returns-else-is_some-clause-tables g c =
    let m = pages_of (g.M.TableMem.state c.args.memory.now).memory in
    let v = answers_of c.args.edit.now.layout.now m.words c.args.edit.now.row in
    let none : c.args.edit.now.access ≡ None = is-none c.args.edit.now.access (sym c.is_some.ensures ∙ c.if-is_some.false) in
    ap (λ (p : Plan). p.tables) c.new-else-is_some.ensures ∙ c.plan_chunks-chunks.ensures.tables
    ∙ subst (λ (a : View). count_below (λ x. grows_at v (edited c.args.runs.now a v) (512 * c.args.gigabyte + x)) 512 ≡ gigabyte_growth v (edited c.args.runs.now a v) c.args.gigabyte) (sym none)
    (sym (growth-unmapped c.requires.canonical (touched-below c.args.runs.now c.args.gigabyte c.requires.touched) c.args.edit.now.row c.args.edit.now.inside c.args.runs.now (sym c.second_at-second.ensures ∙ c.in-None.is)))
