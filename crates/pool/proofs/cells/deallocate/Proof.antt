-- `deallocate` makes the block of its empty places, and hands it back with the allocator's token.
use Rattle.pool.proofs.WalkNames.{◌≡◌, refl, sym, ap, subst, ◌∙◌, ℕ, ◌*◌, ◌<◌, ◌^◌, arith, List, [], ◌∷◌, ◌++◌, Fn, named, w64, inst_fn, Val, vint, vunit, never, id⊢, ftrue, froom, flft, WpFn, fact, tables, ‵, raw, ◌⊛◌, given, later, await, learn, at_ret, ◌$◌, ◌∵◌, !, qed, move, keep, use1, split, join, group, rewrite, fsplit, fsplit3, fjoin, feq_i, feq_l, suffices, done, whole, sub, stop, fld, unit_lit, of_opd, and_then, no_more, first, blocks, exec, returns, enter, alloc_all, pass_all, free_all, look_at, get, get_in, sets, is, env, yes, no, owns, Ptr, ptr_val, in_a_block, ShrRef, RefOf, plain, nothing, Stays, stay_dropped, walk_of, ends_at, Goes-dropped, Goes-blank, after, word-Good, flt_l, bin, usize, None, El, R, elτ, as_raw, Incl-trans, T, replicate, length-replicate, ty_unit, ty_array, has_ty, WT, align, capped, capped_fits, ◌⊑◌, size_word, align_word, lands_last, calls_at_last, Al, token, Gives, at_gives, Gives-goes, Gives-Gives, prop, regoal, drop, heard, framed, proved_at, uncapped, block_ty, block_size, block_align, P}
use Rattle.pool.proofs.Names.{cells_own}
use Rattle.pool.specs.CellOwnership.{deed_owns}
use Rattle.pool.proofs.CellMemory.{Cr, Bs, sz, Place, mark_had, word_had, to_room}
use Rattle.core.proofs.slots.Leases.{args}
use Rattle.pool.specs.contracts.cells.deallocate.Key.{name as #self}
use Rattle.pool.specs.contracts.cells.Deed as D-type
use Rattle.pool.specs.contracts.cells.deallocate as F
use Rattle.pool.proofs.cells.deallocate.Statement as stated
use Rattle.pool.proofs.cells.deallocate.Code as code

pub deallocate_spec : {M : Type 1} → stated.statement M
deallocate_spec 𝓤 𝓛 𝓜 𝓡 wired X W LX LW g d dd met md =
    let E : El = record { row = X; laws = LX } in
    let Z : Al = record { row = W; laws = LW; g = g; d = d; drops = dd } in
    let Dd = D-type.the_row (R E) (P E Z) g in
    let En = F.ended X W g d dd in
    let Self = RefOf {n = 3} (0 ∷ []) tt (plain (λ _. P E Z)) (λ _. tt) in
    let hs : Stays En.signature.params En.kept = (stay_dropped Self yes, (stay_dropped (plain (λ _. Bs E)) no, (stay_dropped (plain (λ _. usize)) yes, (stay_dropped (plain (λ _. Cr E)) no, (stay_dropped (plain (λ _. Dd)) no, tt))))) in
    let c = F.clauses X W g d dd 𝓛 𝓜.mem 𝓡.returns in let Wk = walk_of 𝓛 En hs c in
    let 𝓣 = tables 𝓤 𝓛.H 𝓜 𝓡 𝓡.env in let function : Fn = inst_fn (args E Z) code.function in
    let G = Gives Z 𝓛 𝓜.mem 𝓡.returns in
    proved_at 𝓛 En hs c 𝓜 𝓡 (Goes-dropped 𝓛 3 Self yes (λ κs x f. refl), (Goes-dropped 𝓛 3 (plain (λ _. Bs E)) no (λ κs x f. refl), (Goes-dropped 𝓛 3 (plain (λ _. usize)) yes (λ κs x f. refl), (Goes-blank 𝓛 3 (plain (λ _. Cr E)) no (λ κs x f. tt), (Goes-blank 𝓛 3 (plain (λ _. Dd)) no (λ κs x f. tt), tt)))))
    (#self (args E Z)) function (code.unfolded 𝓤 𝓛.H 𝓜 𝓡 wired (X, (W, tt)) d dd) (λ z are.
    let κ = z.0.0.0 in let q = z.0.1.0 in let rb = z.0.3.0.ref_ptr.0 in let ro = z.0.3.0.ref_ptr.1 in let a = z.0.3.0.now in let base = z.0.3.1.0 in let len = z.0.3.1.1.0 in let cells = z.0.3.1.1.1.0 in let deed = z.0.3.1.1.1.1.0 in
    let others = ‵ (flft z.0.0.1.0 z.0.1.1.0) ⊛ ‵ (flft z.0.0.1.1.0 z.0.1.1.1.0) ⊛ ‵ ftrue in
    let asks = (cells.at ≡ base.ptr) × (cells.slots ≡ replicate len None) × (deed.at ≡ base.ptr) × (deed.len ≡ len) × (deed.alloc ≡ a) in
    let lives = z.0.0.1.1.0 ⊑ W.lives in
    qed 𝓛 (((‵ (flft κ q) ⊛ others) ⊛ ‵ (owns (ShrRef (named 0) κ (P E Z) ∷ Bs E ∷ usize ∷ Cr E ∷ Dd ∷ []) z.0.3 z.0.4)) ∷ (raw (fact 𝓤 (z.0.0.1.0 ⊑ X.lives)) ⊛ raw (fact 𝓤 lives) ⊛ raw (fact 𝓤 asks)) ∷ []) ∵
    move ! (1 ∷ []) $ split ! $ drop ! $ split ! $ heard ! lives (λ within. heard ! asks (λ asked.
    split ! $ split ! $ move ! (2 ∷ []) $ fsplit3 ! $ fsplit ! $ feq_l ! (λ e0.
    move ! (1 ∷ []) $ word_had ! base.ptr z.0.4.1.0 (λ e1. move ! (1 ∷ []) $ fsplit3 ! $ fsplit ! $ feq_l ! (λ e2. flt_l ! (λ fits.
    fsplit ! $ mark_had ! E z.0.4.1.1.1.0 (λ e3. move ! (1 ∷ []) $ fsplit ! $ fsplit ! $ mark_had ! E z.0.4.1.1.1.1.0 (λ e4. keep ! (2 ∷ 0 ∷ 3 ∷ 4 ∷ 5 ∷ []) $
    regoal ! (λ (us : List Val). prop (WpFn 𝓤 𝓛.H 𝓣.C 𝓣.Λ function us (Wk.post z))) (λ i. e0 i ++ (e1 i ++ (e2 i ++ (e3 i ++ (e4 i ++ []))))) refl $
    enter ! _ _ _ _ _ $
    alloc_all ! (λ l. pass_all ! refl ((tt, tt), (word-Good [] base.ptr, ((tt, record { fits = fits }), ((tt, (tt, tt)), ((tt, (tt, tt)), tt))))) $
    let s = sz E in let al : ℕ = capped (align (elτ E)) in
    rewrite ! 0 (λ (c : Ptr × List (Place E)). ‵ (cells_own (R E) c.0 c.1)) (λ i. (asked.0 i, asked.1 i)) refl $
    in_a_block ! base.ptr (λ p. cells_own (R E) p (replicate len None)) (id⊢ 𝓤 (never 𝓤)) (λ b o e. fsplit ! $ flt_l ! (λ fit.
    let small : len * s < 2 ^ 63 = subst (λ k. k * s < 2 ^ 63) (length-replicate len None) fit in let bytes : len * s < 2 ^ 64 = omega arith in
    let y : G.Ghost = at_gives Z 𝓛 𝓜.mem 𝓡.returns κ q (rb, ro) a b o (len * s) al (block_ty E len) in
    rewrite ! 1 (λ (d : W.Denot × Ptr × ℕ). ‵ (deed_owns (R E) (token Z d.0) d.1 d.2)) (λ i. (asked.4 i, (asked.2 ∙ e) i, asked.3 i)) refl $
    use1 𝓛 (‵ (froom (ty_array (elτ E) len) b o)) (to_room E 𝓛 b len o) $ as_raw ! (ty_array (elτ E) len) b o $ first ! $ blocks ! $
    sets ! (is ! (of_opd ! (get_in ! (fld ! refl (stop !)) (sub ! 0 refl (whole !)))) (ap ptr_val e)) refl (tt, tt) $
    sets ! (is ! (bin ! (get ! refl) (size_word !) (record { fits = subst (λ (k : ℕ). k < 2 ^ 64) (sym (uncapped len s bytes)) bytes })) (ap (vint w64) (uncapped len s bytes))) refl (tt, record { fits = bytes }) $
    group ! 4 $ use1 𝓛 (raw (G.pre y)) (Gives-goes Z 𝓛 𝓜.mem 𝓡.returns κ q (rb, ro) a (Incl-trans z.0.2.0 within) b o (len * s) al (block_ty E len) (block_size E len bytes) (block_align E len) bytes (capped_fits (align (elτ E)))) $
    calls_at_last ! (framed 𝓤 𝓛.H 𝓜 𝓣) G (met.deallocate dd) y (and_then ! (get ! refl) (and_then ! (get ! refl) (and_then ! (get ! refl) (and_then ! (align_word !) (no_more !))))) (λ v.
    use1 𝓛 (later (given (v ≡ vunit) (‵ (flft κ q)))) (Gives-Gives Z 𝓛 𝓜.mem 𝓡.returns κ q (rb, ro) a b o (len * s) al (block_ty E len) v) $ await ! tt $ learn ! (λ done_with.
    lands_last ! refl (subst (λ (z : Val). T (has_ty ty_unit z) × WT z) (sym done_with) (tt, tt)) $ exec ! 𝓣.C 𝓣.Λ (env function.locals l) (after 1 function.body) (at_ret _ (Wk.post z)) $
    sets ! (of_opd ! (unit_lit !)) refl (tt, tt) $ returns ! (look_at ! 0 refl) $ free_all ! refl $ keep ! (0 ∷ 1 ∷ []) $
    suffices ! _ (ends_at 𝓛 En hs c z vunit tt (tt, (tt, (tt, (tt, (tt, tt))))) (tt, (tt, (tt, (tt, (tt, tt)))))) $
    join ! $ feq_i ! (List Val) (vunit ∷ []) (vunit ∷ []) refl $ nothing ! $ nothing ! $ fjoin ! $ nothing ! $ fjoin ! $ nothing ! $ fjoin ! $ nothing ! $ fjoin ! $ nothing ! $ fjoin ! $ join ! $
    move ! (1 ∷ 0 ∷ []) $ join ! $ nothing ! $ move ! (1 ∷ 0 ∷ []) $ done !))))))))))))))
