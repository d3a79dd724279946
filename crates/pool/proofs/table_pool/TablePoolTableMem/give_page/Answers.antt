use Rattle.pool.proofs.Names.{nat_tests, get_or_read}
use Rattle.std.proofs.Common.{◌≡◌, refl, false, ◌+◌, ◌∙◌, ◌<◌, length, slice_index, arith, ap, min}
use Rattle.std.proofs.Math.ListN.{length-set}
use Rattle.pool.proofs.Words.{words_of-beyond, mark-set}
use Rattle.pool.proofs.Shares.{share_inside, used_by-give}
use Rattle.pool.proofs.Kept.{pages_in, counts-set, below-set}
use Rattle.pool.proofs.table_pool.TablePoolTableMem.give_page.Goals as goal

pub invariant_of-self : goal.invariant_of-self
invariant_of-self g c =
    let old = c.args.self.now in
    let page = c.args.page in
    let row = c.args.row in
    let share = c.requires.inside in
    let here : c.index_mut.result.now ≡ slice_index old.free.items row = get_or_read old.free.items _ _ (omega (arith, share.partition, old.free_counted.rows)) c.index_mut.ensures.value 0 in
    let inside : page < length old.taken = omega (arith, old.taken_whole, share_inside _ _ _ c.requires.inside) in
    let low : c.min.result ≡ min (slice_index old.lowest.items row) page =
    c.min.ensures ∙ ap (λ n. min n page) (get_or_read old.lowest.items _ _ (omega (arith, share.partition, old.none_free_below.rows)) c.index.ensures 0) in
    record {
      ids_whole = old.ids_whole;
      words_whole = old.words_whole;
      taken_whole = rw c.unmark.ensures (length-set old.taken _ _ ∙ old.taken_whole);
      free_counted = rw c.unmark.ensures (counts-set (pages_in old) (c.index_mut.result.now + 1) false old.free_counted share inside refl refl (omega (arith, here, old.free_counted.each row share.partition, used_by-give (pages_in old) row page share c.requires.taken)));
      none_free_below = rw c.unmark.ensures (below-set c.min.result false old.none_free_below share inside (omega (arith, low, old.none_free_below.from row share.partition, share.from)) (λ q in_share under. grind (arith, nat_tests, low, old.none_free_below.below row q in_share)));
      nonzero_counted = old.nonzero_counted;
      fits = old.fits;
      roots = rw c.unmark.ensures (λ r below. grind (arith, nat_tests, mark-set old.taken page r false inside, old.roots r below, share.from));
      free_zero = rw c.unmark.ensures (λ q i free. grind (arith, nat_tests, mark-set old.taken page q false inside, words_of-beyond (g.S.WordStore.words old.store) page c.requires.empty i, old.free_zero q i));
      within = old.within;
      standing = rw c.unmark.ensures (λ q held. grind (arith, nat_tests, mark-set old.taken page q false inside, old.standing q));
    }
