-- How large the words of blocks and pages are.
use Rattle.stage2.proofs.Names.{Access, Rights, MemoryKind, leaf_fields, leaf_word_of, IsLeafWord, nat_tests, common_steps, ℕ, ◌^◌, ◌<◌, Bool, arith}

fields-small : (block : Bool) (r : Rights) (x : Bool) (k : MemoryKind) → leaf_fields block (record { rights = r; exec = x; kind = k }) < 2 ^ 55
unfolding leaf_fields
fields-small block r x k = grind (arith, common_steps, nat_tests)

leaf-small : (block : Bool) (n : ℕ) (a : Access) → n < 2 ^ 27 → leaf_word_of block n a < 2 ^ 56
unfolding leaf_word_of
leaf-small block n a small = let fields = fields-small block a.rights a.exec a.kind in omega (arith, small, fields)

pub word-small : (level n word : ℕ) (a : Access) → n < 2 ^ 27 → IsLeafWord level word n a → word < 2 ^ 56
word-small level n word a small leaf = grind (arith, common_steps, nat_tests, leaf-small)
