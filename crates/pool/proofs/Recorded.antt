-- The words of a range, put and recorded one by one.
use Rattle.std.proofs.lemmas.List.{reverse-append}
use Rattle.pool.proofs.Names.{nat_tests, common_steps, held, IsPageFilled, AreMarked, Grows, Puts, RecordsAll, Op, Set, WordRange, ◌≡◌, ℕ, ◌+◌, ◌-◌, ◌*◌, ◌<◌, ◌≤◌, ◌++◌, ◌∷◌, [], Bool, List, length, slice_set, Vec, sym, ◌∙◌, refl, arith}
use Rattle.std.specs.declared.alloc.Global.{Global}
use Rattle.pool.specs.declared.cells.Cells.{Cells}
use Rattle.pool.proofs.Stretches.{first-words, first-writes, next-words, next-writes, next-differs}

-- at first none is
pub records-none : (r : WordRange) (list : Vec Op Global) → RecordsAll (record r { end = r.first }) list list
records-none r list = record { records = λ words inside differ. rw (first-writes r words) refl; grows = record { len = omega arith; capacity = refl } }

pub puts-none : (r : WordRange) (cells : Cells ℕ) → IsPageFilled cells.slots r.page → Puts (record r { end = r.first }) cells cells
puts-none r cells filled = record { place = refl; len = refl; filled = filled; words = sym (first-words r (held cells.slots)); marked = λ marks old. old }

-- and then one more
module _ (r : WordRange) (i word : ℕ) (from : r.first ≤ i) (is : word ≡ r.word + r.step * (i - r.first)) where
  pub records-next : (old before after : Vec Op Global) → i < 512 → after.items ≡ before.items ++ Set r.page i word ∷ [] → Grows 1 before after
      → RecordsAll (record r { end = i }) old before → RecordsAll (record r { end = i + 1 }) old after
  records-next old before after small pushed more made =
      record {
        records = λ words inside differ. grind (arith, common_steps, reverse-append, next-writes r i word from is words (next-differs r i word words from is small inside differ), made.records words inside (λ x lt. differ x (omega (arith, lt))));
        grows = record { len = omega (arith, from, made.grows.len, more.len); capacity = more.capacity ∙ made.grows.capacity };
      }

  pub puts-next : (old before after : Cells ℕ) → after.at ≡ before.at → length after.slots ≡ length before.slots → IsPageFilled after.slots r.page → held after.slots ≡ slice_set (held before.slots) (512 * r.page + i) word
      → ((marks : List Bool) → AreMarked marks before.slots → AreMarked marks after.slots)
      → Puts (record r { end = i }) old before → Puts (record r { end = i + 1 }) old after
  puts-next old before after place len filled words marked put = grind (arith, common_steps, nat_tests, next-words)
