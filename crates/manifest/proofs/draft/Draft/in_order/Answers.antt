use Rattle.std.proofs.Common.{◌≡◌, rules, ap, subst, List, IsPermutation}
use Rattle.std.proofs.lemmas.List.Sorted.{IsNonDecreasingBy-from_sort_by_key}
use Rattle.base.specs.Manifest.{PartitionRow, RegionRow, ManifestRows}
use Rattle.manifest.proofs.draft.Draft.in_order.Goals as goal

pub returns : goal.returns
returns c =
    let partitions_are : c.self.inside.partitions.items ≡ c.args.self.partitions = ap (λ (m : ManifestRows). m.partitions) c.self.view_is in
    let regions_are : c.self.inside.regions.items ≡ c.args.self.regions = ap (λ (m : ManifestRows). m.regions) c.self.view_is in
    let P : List PartitionRow → Type 0 = λ rows. IsPermutation rows c.sort_unstable_by_key.new.self.items in
    let Q : List RegionRow → Type 0 = λ rows. IsPermutation rows c.sort_unstable_by_key-2.new.self.items in
    record {
      pool = ap (λ (m : ManifestRows). m.pool) c.self.view_is;
      partitions = subst P partitions_are c.sort_unstable_by_key.ensures.permutation;
      identifiers = IsNonDecreasingBy-from_sort_by_key (λ (row : PartitionRow). row.id) _ c.sort_unstable_by_key.ensures.sorted (λ a r q k. search rules);
      regions = subst Q regions_are c.sort_unstable_by_key-2.ensures.permutation;
      addresses = IsNonDecreasingBy-from_sort_by_key (λ (r : RegionRow). r.pages.first) _ c.sort_unstable_by_key-2.ensures.sorted (λ a r q k. search rules);
    }
