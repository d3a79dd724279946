use Rattle.std.proofs.Common.{◌+◌, ◌<◌, sym, ap, ◌∙◌, arith}
use Rattle.std.specs.Option.{option_map}
use Rattle.base.specs.Pages.{PageRun}
use Rattle.manifest.proofs.Facts.{facts}
use Rattle.manifest.proofs.RegionPages.{in_run-before, found_has, region_at-same}
use Rattle.manifest.proofs.manifest.Manifest.region_until.Goals as goal

pub returns-in-Some-clause-behind : goal.returns-in-Some-clause-behind
returns-in-Some-clause-behind c =
    let r = c.in-Some.region.now in
    let m = c.args.self.now in
    let inside : c.args.page < r.pages.first + r.pages.count = in_run-before r.pages c.args.page (found_has m.regions c.args.page r (sym c.requires ∙ ap (λ x. option_map (λ d. d.now) x) c.in-Some.is)) in
    omega (arith, inside, ap (λ (run : PageRun). run.first + run.count) c.pages.ensures.same)

pub returns-in-Some-clause-same : goal.returns-in-Some-clause-same
returns-in-Some-clause-same c = λ n from to.
    let r = c.in-Some.region.now in
    let m = c.args.self.now in
    let inside : n < r.pages.first + r.pages.count = omega (arith, ap (λ (run : PageRun). run.first + run.count) c.pages.ensures.same) in
    region_at-same m.regions c.args.page n r (facts m c.regions-regions.ensures.valid).begin (sym c.requires ∙ ap (λ x. option_map (λ d. d.now) x) c.in-Some.is) from inside
