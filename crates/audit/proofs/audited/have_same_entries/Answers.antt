use Rattle.std.proofs.Common.{◌≡◌, ℕ, ◌<◌, List, length, get_or, refl, ap, subst, inl, arith}
use Rattle.base.specs.Manifest.{PartitionRow}
use Rattle.stage2.specs.Tables.{view_of}
use Rattle.stage2.specs.Listing.{entries}
use Rattle.manifest.proofs.EachPartition.{holds-more, holds-all}
use Rattle.audit.proofs.audited.have_same_entries.Goals as goal

pub loop-partition-preserved : goal.loop-partition-preserved
loop-partition-preserved g c =
    let m = c.args.manifest.now in
    let P : ℕ → Type 0 = λ p. entries (view_of c.args.tables.now p) ≡ entries (view_of c.args.others.now p) in
    let i = c.loop-partition.partition-index in
    let item = c.partition-item.result in
    let same = c.partitions-partition-items.ensures.same in
    let lt : i < length m.partitions = subst (λ (xs : List PartitionRow). i < length xs) same c.loop-partition-test.true in
    let is : item ≡ get_or m.partitions i item = subst (λ (xs : List PartitionRow). item ≡ get_or xs i item) same c.partition-item.is in
    let id : c.partition.inside.id ≡ item.id = ap (λ (x : PartitionRow). x.id) c.partition.view_is in
    holds-more m P i item lt is c.loop-partition.invariant (subst P id (c.has_same_entries.ensures.0 c.if-not-has_same_entries.false))

pub returns : goal.returns
returns g c =
    let m = c.args.manifest.now in
    let P : ℕ → Type 0 = λ p. entries (view_of c.args.tables.now p) ≡ entries (view_of c.args.others.now p) in
    let count = ap (λ (xs : List PartitionRow). length xs) c.partitions-partition-items.ensures.same in
    inl (refl, record { same = holds-all m P c.loop-partition.partition-index (omega (arith, c.loop-partition-test.false, count)) c.loop-partition.invariant })
