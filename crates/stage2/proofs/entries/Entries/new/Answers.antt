use Rattle.stage2.proofs.Names.{words_of}
use Rattle.stage2.proofs.Reading.Trees.{all-left}
use Rattle.stage2.proofs.entries.Entries.new.Goals as goal

pub invariant_of-result : goal.invariant_of-result
invariant_of-result g c =
    let pages = g.W.WordSource.pages c.args.words in
    let words = words_of (g.W.WordSource.words c.args.words) in
    record {
      pages_in = c.requires.pages;
      fits = c.requires.fits;
      at_root = c.opened-tree.ensures.is;
      at_second = (let second = c.ended.ensures pages words in second.0);
      at_third = (let third = c.ended-2.ensures pages words in third.0);
    }

pub returns : goal.returns
returns g c =
    let pages = g.W.WordSource.pages c.args.words in
    let words = words_of (g.W.WordSource.words c.args.words) in
    all-left c.args.base c.args.pages words c.opened-tree.result c.ended.result c.ended-2.result c.args.root (c.ended-2.ensures pages words).1 (c.ended.ensures pages words).1 c.opened-tree.ensures.entries
