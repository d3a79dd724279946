use Rattle.std.proofs.Math.ListN.{length-set}
use Rattle.pool.proofs.Names.{nat_tests, common_steps, HasFree, IsLowestFree, TablePool, IsFirstUnmarked, get_or_read, Ghosts, ◌≡◌, refl, ◌+◌, ℕ, ◌-◌, ◌<◌, ◌∙◌, arith, length, slice_index, get_or, ap, true}
use Rattle.pool.proofs.Words.{mark-set}
use Rattle.pool.proofs.Shares.{share_inside, used_by-take}
use Rattle.pool.proofs.Kept.{memory_in, pages_in, some-unmarked, found-lowest, row-within, counts-set, below-set}
use Rattle.pool.proofs.table_pool.TablePoolTableMem.take_page.Goals as goal

-- the page from which on is looked is that of the row
begins : {S : Type 0} {g : Ghosts S} (old : TablePool S g) (row start : ℕ) → HasFree (pages_in old) row → start ≡ get_or old.lowest.items row start → start ≡ slice_index old.lowest.items row
begins old row start free read = grind (arith, common_steps, nat_tests, row-within, get_or_read)

-- the page that is found is the lowest free one
found : {S : Type 0} {g : Ghosts S} (old : TablePool S g) (row start page : ℕ) → HasFree (pages_in old) row → start ≡ get_or old.lowest.items row start → IsFirstUnmarked old.taken start page → IsLowestFree (pages_in old) row page
found old row start page free read first = grind (arith, begins old row start free read, found-lowest (memory_in old) old.lowest.items row page old.none_free_below free)

pub next_unmarked-page-requires : goal.next_unmarked-page-requires
next_unmarked-page-requires g c = rw (begins c.args.self.now c.args.row c.index.result.now c.requires.free c.index.ensures) (some-unmarked (memory_in c.args.self.now) c.args.self.now.lowest.items c.args.row c.args.self.now.none_free_below c.args.self.now.taken_whole c.requires.free)

pub returns-clause-lowest : goal.returns-clause-lowest
returns-clause-lowest g c = found c.args.self.now c.args.row c.index.result.now c.next_unmarked-page.result c.requires.free c.index.ensures c.next_unmarked-page.ensures

pub invariant_of-self : goal.invariant_of-self
invariant_of-self g c =
    let old = c.args.self.now in
    let lowest = found old c.args.row c.index.result.now c.next_unmarked-page.result c.requires.free c.index.ensures c.next_unmarked-page.ensures in
    let page = c.next_unmarked-page.result in
    let inside : page < length old.taken = omega (arith, old.taken_whole, share_inside old.quotas.items c.args.row page lowest.inside) in
    let row = c.args.row in
    let within = row-within (pages_in old) row c.requires.free in
    let here : c.index_mut.result.now ≡ slice_index old.free.items row = get_or_read old.free.items _ _ (omega (arith, within, old.free_counted.rows)) c.index_mut.ensures.value 0 in
    let counted = old.free_counted.each row within in
    let some = c.requires.free in
    record {
      ids_whole = old.ids_whole;
      words_whole = ap length c.fill.ensures.words ∙ old.words_whole;
      taken_whole = rw c.mark.ensures (length-set old.taken _ _ ∙ old.taken_whole);
      free_counted = rw c.mark.ensures (counts-set (pages_in old) (c.index_mut.result.now - 1) true old.free_counted lowest.inside inside refl refl (omega (arith, here, counted, some, used_by-take (pages_in old) row page lowest.inside lowest.free)));
      none_free_below = rw c.mark.ensures (below-set (page + 1) true old.none_free_below lowest.inside inside (omega (arith, lowest.inside.from)) (λ q in_share under. grind (arith, nat_tests, lowest.lowest q in_share)));
      nonzero_counted = rw c.fill.ensures.words old.nonzero_counted;
      fits = old.fits;
      roots = rw c.mark.ensures (λ r below. grind (arith, nat_tests, mark-set old.taken page r true inside, old.roots r below));
      free_zero = rw (c.mark.ensures, c.fill.ensures.words) (λ q i free. grind (arith, nat_tests, mark-set old.taken page q true inside, old.free_zero q i));
      within = old.within;
      standing = rw c.mark.ensures (λ q held. grind (arith, nat_tests, mark-set old.taken page q true inside, c.fill.ensures.filled, c.fill.ensures.kept q, old.standing q));
    }
