use Rattle.std.proofs.Common.{List, ◌==◌, sym, ap, ◌∙◌}
use Rattle.std.specs.List.{position}
use Rattle.base.specs.Manifest.{PartitionRow, ids_of}
use Rattle.ffaspm_c.proofs.Roots.{root_is, no_root}
use Rattle.ffaspm_c.proofs.tables.root_of.Goals as goal

pub returns-in-Some-clause-some : goal.returns-in-Some-clause-some
returns-in-Some-clause-some c =
    let p = c.args.p in
    let place = c.row_in.ensures ∙ ap (λ (rows : List PartitionRow). position (λ id. id == p) (ids_of rows)) c.partitions.ensures.same in
    root_is c.args.manifest.now p c.in-Some.row (sym place ∙ c.in-Some.is)

pub returns-in-None-clause-none : goal.returns-in-None-clause-none
returns-in-None-clause-none c =
    let p = c.args.p in
    let place = c.row_in.ensures ∙ ap (λ (rows : List PartitionRow). position (λ id. id == p) (ids_of rows)) c.partitions.ensures.same in
    no_root c.args.manifest.now p (sym place ∙ c.in-None.is)
