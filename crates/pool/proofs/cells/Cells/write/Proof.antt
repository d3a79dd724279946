-- `write` fills an empty place.
use Rattle.pool.proofs.WalkNames.{◌≡◌, refl, sym, subst, ◌∙◌, ◌+◌, ◌*◌, ◌<◌, ◌^◌, List, [], ◌∷◌, ◌++◌, full_share, Fn, named, inst_fn, Val, vptr, vunit, never, id⊢, ftrue, fat, flft, WpFn, fact, tables, ‵, ◌⊛◌, at_ret, ◌$◌, ◌∵◌, !, qed, move, keep, use1, use2, split, join, rewrite, fsplit, fsplit3, fjoin, fjoin3, feq_i, feq_l, suffices, frame, done, whole, sub, init, stop, fld, unit_lit, of_opd, assigns_last, first, blocks, exec, returns, enter, alloc_all, pass_all, free_all, look_at, get, get_in, through, sets, env, yes, no, owns, layout, Ptr, in_a_block, MutRef, plain, nothing, opens, closes, says, Stays, stay_dropped, stay_ref, walk_of, ends_at, Goes-dropped, Goes-ref, after, word, word-Good, length, set, get_or, length-set, flt_l, flt_i, bin, size_lit, take_at, give_at, usize, Some, None, El, R, args, elτ, as_written, ◌⊑◌, raw, prop, regoal, drop, heard, proved_at}
use Rattle.pool.proofs.CellMemory.{place_fits, Cr, Bs, sz, Place, word_had, value_in, tells, Besides, slot_out, slot_in}
use Rattle.pool.proofs.Names.{slot, slots, cells_own}
use Rattle.pool.specs.contracts.cells.Cells.write.Key.{name as #self}
use Rattle.pool.specs.contracts.cells.Cells.write as F
use Rattle.pool.proofs.cells.Cells.write.Statement as stated
use Rattle.pool.proofs.cells.Cells.write.Code as code

pub write_spec : {M : Type 1} → stated.statement M
write_spec 𝓤 𝓛 𝓜 𝓡 wired X LX =
    let E : El = record { row = X; laws = LX } in
    let T = F.ended X in
    let hs : Stays T.signature.params T.kept = (stay_ref (0 ∷ []) tt (plain (λ _. Cr E)), (stay_dropped (plain (λ _. Bs E)) no, (stay_dropped (plain (λ _. usize)) yes, (stay_dropped (plain (λ _. R E)) no, tt)))) in
    let c = F.clauses X 𝓛 𝓜.mem 𝓡.returns in let W = walk_of 𝓛 T hs c in
    let 𝓣 = tables 𝓤 𝓛.H 𝓜 𝓡 𝓡.env in let function : Fn = inst_fn (args E) code.function in
    proved_at 𝓛 T hs c 𝓜 𝓡 (Goes-ref 𝓛 2 0 tt (plain (λ _. Cr E)), (Goes-dropped 𝓛 2 (plain (λ _. Bs E)) no (λ κs x f. refl), (Goes-dropped 𝓛 2 (plain (λ _. usize)) yes (λ κs x f. refl), (Goes-dropped 𝓛 2 (plain (λ _. R E)) no (λ κs x f. refl), tt))))
    (#self (args E)) function (code.unfolded 𝓤 𝓛.H 𝓜 𝓡 wired (X, tt)) (λ z are.
    let κ = z.0.0.0 in let q = z.0.1.0 in let rb = z.0.3.0.ref_ptr.0 in let ro = z.0.3.0.ref_ptr.1 in let d = z.0.3.0.now in let base = z.0.3.1.0 in let index = z.0.3.1.1.0 in let item = z.0.3.1.1.1.0 in
    let asks = (base.ptr ≡ d.at) × (index < length d.slots) × (get_or d.slots index None ≡ None) in
    qed 𝓛 (((‵ (flft κ q) ⊛ ‵ (flft z.0.0.1.0 z.0.1.1.0) ⊛ ‵ ftrue) ⊛ ‵ (owns (MutRef (named 0) κ (Cr E) ∷ Bs E ∷ usize ∷ R E ∷ []) z.0.3 z.0.4)) ∷ (raw (fact 𝓤 (z.0.0.1.0 ⊑ X.lives)) ⊛ raw (fact 𝓤 asks)) ∷ []) ∵
    move ! (1 ∷ []) $ split ! $ drop ! $ heard ! asks (λ asked.
    let within = asked.1 in
    let new : (Cr E).Denot = record { mark = d.mark; at = d.at; slots = set d.slots index (Some item) } in
    split ! $ split ! $ move ! (2 ∷ []) $ fsplit ! $ fsplit3 ! $ feq_l ! (λ e0. move ! (2 ∷ []) $ fsplit ! $ word_had ! base.ptr z.0.4.1.0 (λ e1. fsplit ! $ fsplit ! $ feq_l ! (λ e2. flt_l ! (λ fits_index.
    fsplit ! $ tells E.row E.laws ! item z.0.4.1.1.1.0 (λ v e3 good. keep ! (2 ∷ 3 ∷ 4 ∷ 5 ∷ 0 ∷ []) $
    regoal ! (λ (us : List Val). prop (WpFn 𝓤 𝓛.H 𝓣.C 𝓣.Λ function us (W.post z))) (λ i. e0 i ++ (e1 i ++ (e2 i ++ (e3 i ++ [])))) refl $
    enter ! _ _ _ _ _ $ alloc_all ! (λ l. pass_all ! refl ((tt, tt), (word-Good [] base.ptr, ((tt, record { fits = fits_index }), (good, tt)))) $
    opens ! tt (Cr E) {h = d} rb ro (λ vs. move ! (1 ∷ []) $ fsplit ! $ move ! (1 ∷ []) $
    in_a_block ! d.at (λ p. cells_own (R E) p d.slots) (id⊢ 𝓤 (never 𝓤)) (λ b o e. fsplit ! $ flt_l ! (λ small.
    let s = sz E in let fit = place_fits index (length d.slots) s within small in
    take_at ! 2 $ rewrite ! 0 (λ (p : Ptr). ‵ (fat full_share (layout (Bs E)) (l 2) 0 (word p))) (asked.0 ∙ e) refl $ give_at ! 2 $ first ! $ blocks ! $
    sets ! (bin ! (get ! refl) (size_lit ! (record { fits = fit.0 })) (record { fits = fit.1 })) refl (tt, record { fits = fit.1 }) $
    sets ! (bin ! (get_in ! (fld ! refl (stop !)) (sub ! 0 refl (whole !))) (get ! refl) tt) refl (tt, tt) $
    use1 𝓛 (‵ (slot (R E) b (index * s + o) (get_or d.slots index None)) ⊛ ‵ (Besides E 𝓛 b o d.slots index)) (slot_out E 𝓛 b o d.slots index within) $ split ! $ rewrite ! 0 (λ (c : Place E). ‵ (slot (R E) b (index * s + o) c)) asked.2 refl $ as_written ! (elτ E) b (index * s + o) $
    -- [the room; the other places; the mark; its cell; the open borrow; obs; auth; the other token; what the item owns]
    sets ! (of_opd ! (get ! refl)) refl good $ assigns_last ! (of_opd ! (get ! refl)) (through ! refl (stop !)) (init ! 0 refl good) $
    exec ! 𝓣.C 𝓣.Λ (env function.locals l) (after 1 function.body) (at_ret _ (W.post z)) $ sets ! (of_opd ! (unit_lit !)) refl (tt, tt) $
    move ! (0 ∷ 8 ∷ []) $ use2 𝓛 (‵ (slot (R E) b (index * s + o) (Some item))) (value_in 0 E.row E.laws 𝓛 item b (index * s + o) v) $
    use2 𝓛 (‵ (slots (R E) b o new.slots)) (slot_in E 𝓛 b o d.slots index within (Some item)) $
    flt_i ! (length new.slots * s) (2 ^ 63) (subst (λ k. k * s < 2 ^ 63) (sym (length-set d.slots index (Some item))) small) $ fjoin ! $
    rewrite ! 0 (λ (p : Ptr). ‵ (cells_own (R E) p new.slots)) (sym e) refl $ move ! (1 ∷ 0 ∷ []) $ fjoin ! $ move ! (1 ∷ 0 ∷ []) $ closes ! tt (Cr E) new vs rb ro $
    returns ! (look_at ! 0 refl) $ free_all ! refl $ keep ! (0 ∷ 1 ∷ 2 ∷ 3 ∷ []) $
    suffices ! _ (ends_at 𝓛 T hs c z vunit tt (new, (tt, (tt, (tt, tt)))) (tt, (tt, (tt, (tt, tt))))) $ says ! (refl, refl) $
    feq_i ! (List Val) (vunit ∷ []) (vunit ∷ []) refl $ move ! (3 ∷ 4 ∷ 1 ∷ 2 ∷ 0 ∷ []) $ join ! $ frame ! $ feq_i ! (List Val) z.0.4.0 (vptr rb ro ∷ []) e0 $ fjoin3 ! $ nothing ! $ nothing ! $ fjoin ! $ nothing ! $ fjoin ! $ nothing ! $ fjoin ! $ move ! (1 ∷ 0 ∷ []) $ fjoin ! $ done !)))))))))))
