-- `get` shows one value that the places lend.
use Rattle.pool.proofs.WalkNames.{◌≡◌, refl, ◌∙◌, ◌+◌, ◌*◌, List, [], ◌∷◌, ◌++◌, full_share, Fn, named, inst_fn, Val, vptr, never, id⊢, ftrue, fat, flft, WpFn, fact, tables, ‵, ◌⊛◌, at_ret, ◌$◌, ◌∵◌, !, qed, move, keep, drop, use1, split, join, rewrite, fsplit, fjoin, feq_i, feq_l, suffices, frame, done, whole, sub, stop, fld, of_opd, addr, first, blocks, exec, returns, enter, alloc_all, pass_all, free_all, look_at, get, get_in, through, sets, sets_last, env, yes, no, owns, layout, Ptr, in_a_block, ShrRef, RefOf, plain, nothing, says, Stays, stay_dropped, walk_of, ends_at, Goes-dropped, after, word, word-Good, length, get_or, flt_l, prop, regoal, proved_at, bin, size_lit, take_at, give_at, usize, None, El, R, args, ◌⊑◌, raw, heard}
use denote.Opens.{hide, unhide}
use Rattle.pool.proofs.CellMemory.{place_fits, Cr, Bs, sz, Place, word_had, filled_within, slot_seen}
use Rattle.pool.proofs.Names.{IsFilled, slot_lent, cells_lent}
use Rattle.pool.specs.contracts.cells.Cells.get.Key.{name as #self}
use Rattle.pool.specs.contracts.cells.Cells.get as F
use Rattle.pool.proofs.cells.Cells.get.Statement as stated
use Rattle.pool.proofs.cells.Cells.get.Code as code

pub get_spec : {M : Type 1} → stated.statement M
get_spec 𝓤 𝓛 𝓜 𝓡 wired X LX =
    let E : El = record { row = X; laws = LX } in
    let T = F.ended X in
    let Self = RefOf {n = 2} (0 ∷ []) tt (plain (λ _. Cr E)) (λ _. tt) in
    let hs : Stays T.signature.params T.kept = (stay_dropped Self yes, (stay_dropped (plain (λ _. Bs E)) no, (stay_dropped (plain (λ _. usize)) yes, tt))) in
    let c = F.clauses X 𝓛 𝓜.mem 𝓡.returns in let W = walk_of 𝓛 T hs c in
    let 𝓣 = tables 𝓤 𝓛.H 𝓜 𝓡 𝓡.env in let function : Fn = inst_fn (args E) code.function in
    proved_at 𝓛 T hs c 𝓜 𝓡 (Goes-dropped 𝓛 2 Self yes (λ κs x f. refl), (Goes-dropped 𝓛 2 (plain (λ _. Bs E)) no (λ κs x f. refl), (Goes-dropped 𝓛 2 (plain (λ _. usize)) yes (λ κs x f. refl), tt)))
    (#self (args E)) function (code.unfolded 𝓤 𝓛.H 𝓜 𝓡 wired (X, tt)) (λ z are.
    let κ = z.0.0.0 in let q = z.0.1.0 in let rb = z.0.3.0.ref_ptr.0 in let ro = z.0.3.0.ref_ptr.1 in let d = z.0.3.0.now in let base = z.0.3.1.0 in let index = z.0.3.1.1.0 in
    let asks = (base.ptr ≡ d.at) × IsFilled d.slots index in
    qed 𝓛 (((‵ (flft κ q) ⊛ ‵ (flft z.0.0.1.0 z.0.1.1.0) ⊛ ‵ ftrue) ⊛ ‵ (owns (ShrRef (named 0) κ (Cr E) ∷ Bs E ∷ usize ∷ []) z.0.3 z.0.4)) ∷ (raw (fact 𝓤 (z.0.0.1.0 ⊑ X.lives)) ⊛ raw (fact 𝓤 asks)) ∷ []) ∵
    move ! (1 ∷ []) $ split ! $ drop ! $ heard ! asks (λ asked.
    let x = asked.1.0 in let within = filled_within d.slots index x asked.1.1 in
    split ! $ split ! $ move ! (2 ∷ []) $ fsplit ! $ fsplit ! $ feq_l ! (λ e0. move ! (1 ∷ []) $ fsplit ! $ word_had ! base.ptr z.0.4.1.0 (λ e1. fsplit ! $ fsplit ! $ feq_l ! (λ e2. flt_l ! (λ fits_index. keep ! (1 ∷ 2 ∷ 3 ∷ []) $
    regoal ! (λ (us : List Val). prop (WpFn 𝓤 𝓛.H 𝓣.C 𝓣.Λ function us (W.post z))) (λ i. e0 i ++ (e1 i ++ (e2 i ++ []))) refl $
    enter ! _ _ _ _ _ $ alloc_all ! (λ l. pass_all ! refl ((tt, tt), (word-Good [] base.ptr, ((tt, record { fits = fits_index }), tt))) $
    unhide ! $ fsplit ! $ drop ! $ in_a_block ! d.at (λ p. cells_lent (R E) p d.slots κ) (id⊢ 𝓤 (never 𝓤)) (λ b o e. fsplit ! $ flt_l ! (λ small.
    let s = sz E in let fit = place_fits index (length d.slots) s within small in
    take_at ! 2 $ rewrite ! 0 (λ (p : Ptr). ‵ (fat full_share (layout (Bs E)) (l 2) 0 (word p))) (asked.0 ∙ e) refl $ give_at ! 2 $ first ! $ blocks ! $
    sets ! (bin ! (get ! refl) (size_lit ! (record { fits = fit.0 })) (record { fits = fit.1 })) refl (tt, record { fits = fit.1 }) $
    sets ! (bin ! (get_in ! (fld ! refl (stop !)) (sub ! 0 refl (whole !))) (get ! refl) tt) refl (tt, tt) $
    use1 𝓛 (‵ (slot_lent (R E) b (index * s + o) (get_or d.slots index None) κ)) (slot_seen E 𝓛 b κ o d.slots index within) $
    rewrite ! 0 (λ (c : Place E). ‵ (slot_lent (R E) b (index * s + o) c κ)) asked.1.1 refl $ hide ! $
    sets_last ! (addr ! (through ! refl (stop !))) refl (tt, tt) $ exec ! 𝓣.C 𝓣.Λ (env function.locals l) (after 1 function.body) (at_ret _ (W.post z)) $ sets ! (of_opd ! (get ! refl)) refl (tt, tt) $
    feq_i ! (List Val) (vptr b (index * s + o) ∷ []) (vptr b (index * s + o) ∷ []) refl $ fjoin ! $
    returns ! (look_at ! 0 refl) $ free_all ! refl $ keep ! (1 ∷ 2 ∷ 0 ∷ []) $
    suffices ! _ (ends_at 𝓛 T hs c z (vptr b (index * s + o)) (record { ref_ptr = (b, index * s + o); now = x }) (tt, (tt, (tt, tt))) (tt, (tt, (tt, tt)))) $ says ! asked.1.1 $
    join ! $ frame ! $ nothing ! $ nothing ! $ fjoin ! $ nothing ! $ fjoin ! $ nothing ! $ fjoin ! $ done !)))))))))
