use Rattle.stage2.proofs.Names.{PageRun, Invalidate, IsLogged, page_count, Pages, Pool, InShare, pages_of, words_of, with_mark, with_put, ◌≡◌, ◌≢◌, ◌*◌, ◌<◌, ◌∷◌, false, sym, ap, subst, ◌∙◌}
use Rattle.stage2.proofs.Walkers.ZeroedTables.{stays-after, stays-taken}
use Rattle.stage2.proofs.Walkers.RootWrites.{stays-unlinked}
use Rattle.pool.proofs.Shares.{share_inside, root-outside}
use Rattle.stage2.proofs.Tree.WalkFrame.{put-other}
use Rattle.stage2.proofs.Tree.TakenPages.{pages_of-give}
use Rattle.stage2.proofs.level1.unlink.Goals as goal

pub give_page-requires-clause-empty : goal.give_page-requires-clause-empty
give_page-requires-clause-empty g c = λ i lt.
    let m = pages_of (g.M.TableMem.state c.args.memory.now).memory in
    let differs : c.args.second ≢ c.args.row = λ e. root-outside m.quotas c.args.row c.args.row c.requires.can.root (subst (λ x. InShare m.quotas c.args.row x) e c.requires.can.inside) in
    ap (λ (s : Pool). (pages_of s.memory).words c.args.second i) c.invalidate.ensures.state
    ∙ ap (λ (x : Pages). x.words c.args.second i) (rw (c.root.ensures, c.index.ensures.same) at c.put_word.ensures.pages)
    ∙ put-other m.words c.args.row c.args.gigabyte 0 c.args.second i (λ e _. differs e) ∙ c.requires.can.empty i lt

pub returns-clause-pages : goal.returns-clause-pages
returns-clause-pages g c =
    let m = pages_of (g.M.TableMem.state c.args.memory.now).memory in
    let put : pages_of (g.M.TableMem.state c.invalidate.new.self).memory ≡ with_put c.args.row c.args.gigabyte 0 m = ap (λ (s : Pool). pages_of s.memory) c.invalidate.ensures.state ∙ (rw (c.root.ensures, c.index.ensures.same) at c.put_word.ensures.pages) in
    pages_of-give (g.M.TableMem.state c.invalidate.new.self) (g.M.TableMem.state c.give_page.new.memory) c.args.second (g.met.M.TableMem.whole c.invalidate.new.self)
    (subst (λ (x : Pages). c.args.second < page_count x.quotas) (sym put) (share_inside m.quotas c.args.row c.args.second c.requires.can.inside)) c.give_page.ensures.state
    ∙ ap (with_mark c.args.second false) put

pub returns-clause-in_step : goal.returns-clause-in_step
returns-clause-in_step g c = λ layout which answer forest partition is unmapped.
    let old = g.M.TableMem.state c.args.memory.now in
    let mid = g.M.TableMem.state c.put_word.new.memory in
    let cut = g.M.TableMem.state c.invalidate.new.self in
    let wrote = ap (λ (x : Pages). x.words) (rw (c.root.ensures, c.index.ensures.same) at c.put_word.ensures.pages) in
    let same : cut.memory ≡ mid.memory = ap (λ (s : Pool). s.memory) c.invalidate.ensures.state in
    let logged : IsLogged (Invalidate c.args.p (record { first = 262144 * c.args.gigabyte; count = 262144 })) mid cut = record {
      operations = ap (λ (s : Pool). s.operations) c.invalidate.ensures.state ∙ ap (λ (r : PageRun). Invalidate c.args.p r ∷ mid.operations) c.pages.ensures.same;
      made = ap (λ (s : Pool). s.made) c.invalidate.ensures.state;
    } in
    stays-after
    (stays-unlinked layout c.args.row c.args.p c.args.gigabyte which answer old mid cut forest partition is unmapped wrote (rw (c.root.ensures, c.index.ensures.same) at c.put_word.ensures.logged) same logged)
    (stays-taken (ap (λ (s : Pool). words_of s.memory.words) c.give_page.ensures.state) (ap (λ (s : Pool). s.operations) c.give_page.ensures.state) (ap (λ (s : Pool). s.made) c.give_page.ensures.state))
