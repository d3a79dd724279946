use Rattle.std.proofs.Common.{◌≡◌, ◌%◌, true, false, not, ◌==◌, ap, ap₂, ◌∙◌, arith}
use Rattle.std.proofs.lemmas.Bool.Decides.{nat_tests}
use Rattle.base.specs.Need.{is_alike}
use Rattle.manifest.specs.Boundaries.{is_boundary}
use Rattle.manifest.proofs.Alike.{view-eq}
use Rattle.manifest.proofs.need.changes_inside_chunk.Goals as goal

pub returns-then-page-ne0 : goal.returns-then-page-ne0
unfolding is_boundary
returns-then-page-ne0 c =
    let here : (c.args.page % 512 == 0) ≡ false = grind (arith, nat_tests) in
    rw here (c.ne.ensures ∙ ap not (view-eq _ _ ∙ ap₂ is_alike (rw c.new.ensures at c.grant_at.ensures) (rw c.new-then-page-ne0.ensures at c.grant_at-then-page-ne0.ensures)))

pub returns-else-page-ne0 : goal.returns-else-page-ne0
unfolding is_boundary
returns-else-page-ne0 c = let here : (c.args.page % 512 == 0) ≡ true = grind (arith, nat_tests) in rw here
