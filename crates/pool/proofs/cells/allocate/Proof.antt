-- `allocate` cuts the new block into empty places, and keeps the right to free it.
use Rattle.pool.proofs.WalkNames.{◌≡◌, refl, sym, ap, subst, ℕ, ◌*◌, ◌<◌, ◌^◌, arith, List, [], ◌∷◌, ◌++◌, lit<, Fn, Body, named, w64, inst_fn, Val, vint, vstruct, vcons, vnil, ftrue, flft, Env, WpFn, fact, tables, ‵, raw, ◌⊛◌, later, await, at_ret, ◌$◌, ◌∵◌, !, qed, move, keep, use0, use1, use2, use3, split, join, fsplit, fsplit3, fjoin, feq_l, suffices, frame, done, whole, agg, stop, fld, lit, of_opd, and_then, no_more, first, exec, returns, enter, alloc_all, pass_all, free_all, look_at, get, get_in, sets, sets_last, is, env, yes, RattleType, owns, layout, Ptr, block_ptr, ShrRef, RefOf, plain, nothing, says, Stays, stay_dropped, walk_of, ends_at, Goes-dropped, after, Good, word, word-Good, length, flt_l, flt_i, bin, usize, None, El, R, elτ, as_written, Incl-trans, replicate, length-replicate, ty_array, align, capped, capped_fits, Wp, after_seq, at_return, ◌⊑◌, any_q, size_word, align_word, switches_on, get_tag, lands_as, owned, calls_at, IfOk, Ok, Err, Al, Answer-typed, Takes, at_takes, Answered, Takes-goes, Takes-gives, answers, head, arm_body, first_Good, prop, regoal, drop, Sq, heard, framed, proved_at, Tuple, Post as After, Is, Struct, Struct-Makes, uncapped, block_ty, block_size, block_align, P}
use mathlib.Core.Bool.{true, false}
use Rattle.pool.proofs.Names.{slots}
use Rattle.pool.proofs.CellMemory.{Cr, Bs, Mark, sz, mark, mark_made, word_made, three_val, three_of, of_room}
use types.Match.{live, vrt, in_variant}
use Rattle.std.specs.Vec.Ownership.{FitsInBlock}
use Rattle.core.proofs.slots.Leases.{args}
use Rattle.std_alloc.proofs.ResultValues.{ok_of, err_of}
use Rattle.pool.specs.contracts.cells.allocate.Key.{name as #self}
use denote.Struct.Declared as Declared
use Rattle.core.specs.contracts.result.Result as RS
use Rattle.core.specs.contracts.alloc.AllocError as AE
use Rattle.pool.specs.contracts.cells.Deed as D-type
use Rattle.pool.specs.contracts.cells.allocate as F
use Rattle.pool.proofs.cells.allocate.Statement as stated
use Rattle.pool.proofs.cells.allocate.Code as code

pub allocate_spec : {M : Type 1} → stated.statement M
allocate_spec 𝓤 𝓛 𝓜 𝓡 wired X W LX LW g d dd met md =
    let E : El = record { row = X; laws = LX } in
    let Z : Al = record { row = W; laws = LW; g = g; d = d; drops = dd } in
    let Dd = D-type.the_row (R E) (P E Z) g in let Three = Tuple (Bs E ∷ Cr E ∷ Dd ∷ []) in let Out = RS.the_row Three AE.the_row in
    let En = F.ended X W g d dd in
    let Self = RefOf {n = 3} (0 ∷ []) tt (plain (λ _. P E Z)) (λ _. tt) in
    let hs : Stays En.signature.params En.kept = (stay_dropped Self yes, (stay_dropped (plain (λ _. usize)) yes, tt)) in
    let c = F.clauses X W g d dd 𝓛 𝓜.mem 𝓡.returns in let Wk = walk_of 𝓛 En hs c in
    let 𝓣 = tables 𝓤 𝓛.H 𝓜 𝓡 𝓡.env in let function : Fn = inst_fn (args E Z) code.function in
    let G = Takes Z 𝓛 𝓜.mem 𝓡.returns in
    proved_at 𝓛 En hs c 𝓜 𝓡 (Goes-dropped 𝓛 3 Self yes (λ κs x f. refl), (Goes-dropped 𝓛 3 (plain (λ _. usize)) yes (λ κs x f. refl), tt))
    (#self (args E Z)) function (code.unfolded 𝓤 𝓛.H 𝓜 𝓡 wired (X, (W, tt)) d dd) (λ z are.
    let κ = z.0.0.0 in let q = z.0.1.0 in let rb = z.0.3.0.ref_ptr.0 in let ro = z.0.3.0.ref_ptr.1 in let a = z.0.3.0.now in let len = z.0.3.1.0 in
    let others = ‵ (flft z.0.0.1.0 z.0.1.1.0) ⊛ ‵ (flft z.0.0.1.1.0 z.0.1.1.1.0) ⊛ ‵ ftrue in
    let lives = z.0.0.1.1.0 ⊑ W.lives in
    let out : (r : Out.Denot) (v : Val) → IfOk r (λ t. (t.1.at ≡ t.0.ptr) × (t.1.slots ≡ replicate len None) × (t.2.at ≡ t.0.ptr) × (t.2.len ≡ len) × (t.2.alloc ≡ a))
    → Sq 𝓛 (‵ (Out.own_val r (v ∷ [])) ∷ ‵ (flft κ q) ∷ others ∷ []) (prop (Wk.post z v)) = λ r v made.
    suffices ! _ (ends_at 𝓛 En hs c z v r (tt, (tt, tt)) (tt, (tt, tt))) $ says ! made $
    move ! (1 ∷ 2 ∷ []) $ join ! $ frame ! $ nothing ! $ nothing ! $ fjoin ! $ nothing ! $ fjoin ! $ done ! in
    qed 𝓛 (((‵ (flft κ q) ⊛ others) ⊛ ‵ (owns (ShrRef (named 0) κ (P E Z) ∷ usize ∷ []) z.0.3 z.0.4)) ∷ (raw (fact 𝓤 (z.0.0.1.0 ⊑ X.lives)) ⊛ raw (fact 𝓤 lives) ⊛ raw (fact 𝓤 (FitsInBlock (R E) len))) ∷ []) ∵
    move ! (1 ∷ []) $ split ! $ drop ! $ split ! $ heard ! lives (λ within. heard ! (FitsInBlock (R E) len) (λ asked.
    split ! $ split ! $ move ! (2 ∷ []) $ fsplit3 ! $ fsplit ! $ feq_l ! (λ e0. move ! (1 ∷ []) $ fsplit ! $ feq_l ! (λ e1. flt_l ! (λ fits. keep ! (0 ∷ 2 ∷ 3 ∷ []) $
    regoal ! (λ (us : List Val). prop (WpFn 𝓤 𝓛.H 𝓣.C 𝓣.Λ function us (Wk.post z))) (λ i. e0 i ++ (e1 i ++ [])) refl $
    let s = sz E in let small : len * s < 2 ^ 63 = asked.0 in let bytes : len * s < 2 ^ 64 = omega arith in
    enter ! _ _ _ _ _ $ alloc_all ! (λ l. pass_all ! refl ((tt, tt), ((tt, record { fits = fits }), tt)) $
    let Locals : Env 𝓤 𝓛.H = env function.locals l in
    let both : Body = head (after 2 function.body) in
    let Then : After 𝓤 𝓛.H = any_q (after_seq 𝓤 𝓛.H (Wp 𝓤 𝓛.H 𝓣.C 𝓣.Λ Locals (after 3 function.body) (at_return 𝓤 𝓛.H Locals (Wk.post z))) (at_return 𝓤 𝓛.H Locals (Wk.post z))) in
    let al : ℕ = capped (align (elτ E)) in
    let y : G.Ghost = at_takes Z 𝓛 𝓜.mem 𝓡.returns κ q (rb, ro) a (len * s) al (block_ty E len) in
    sets ! (is ! (bin ! (get ! refl) (size_word !) (record { fits = subst (λ (k : ℕ). k < 2 ^ 64) (sym (uncapped len s bytes)) bytes })) (ap (vint w64) (uncapped len s bytes))) refl (tt, record { fits = bytes }) $
    use2 𝓛 (raw (G.pre y)) (Takes-goes Z 𝓛 𝓜.mem 𝓡.returns κ q (rb, ro) a (Incl-trans z.0.2.0 within) (len * s) al (block_ty E len) (block_size E len bytes) (block_align E len) bytes (capped_fits (align (elτ E)))) $
    calls_at ! (framed 𝓤 𝓛.H 𝓜 𝓣) G (met.allocate dd) y (and_then ! (get ! refl) (and_then ! (get ! refl) (and_then ! (align_word !) (no_more !)))) (λ v.
    use1 𝓛 (later (raw (Answered Z 𝓛 𝓜.mem 𝓡.returns a (block_ty E len) v) ⊛ ‵ (flft κ q))) (Takes-gives Z 𝓛 𝓜.mem 𝓡.returns κ q (rb, ro) a (len * s) al (block_ty E len) v) $ await ! tt $ split ! $
    answers Z ! 𝓜.mem 𝓡.returns a (block_ty E len) v
    (λ b o e.
    let p : Ptr = block_ptr b o in
    let base : (Bs E).Denot = record { ptr = p } in
    let cells : (Cr E).Denot = record { mark = record {}; at = p; slots = replicate len None } in
    let deed : Dd.Denot = record { mark = record {}; at = p; len = len; alloc = a } in
    let made : Val = three_val (word p) mark mark in
    let typed : Good (layout Three) made = (tt, ((tt, tt), ((tt, tt), ((tt, tt), tt)))) in
    let ok = first_Good (layout Three) made typed in
    lands_as ! e refl (Answer-typed true b o) $ first ! $ switches_on ! (get_tag ! (vrt ! refl (fld ! refl (stop !))) (whole !)) $ exec ! 𝓣.C 𝓣.Λ Locals (arm_body 0 both) Then $
    sets ! (of_opd ! (get_in ! (vrt ! refl (fld ! refl (stop !))) (in_variant ! 0 0 refl refl (whole !)))) refl (tt, tt) $ sets ! (of_opd ! (get ! refl)) refl (tt, tt) $
    sets ! (agg ! (and_then ! (get ! refl) (no_more !))) refl (word-Good [] p) $
    sets ! (agg ! (no_more !)) refl (tt, tt) $ sets ! (agg ! (and_then ! (get ! refl) (no_more !))) refl (tt, (tt, tt)) $
    sets ! (agg ! (no_more !)) refl (tt, tt) $ sets ! (agg ! (and_then ! (get ! refl) (no_more !))) refl (tt, (tt, tt)) $
    sets ! (agg ! (and_then ! (get ! refl) (and_then ! (get ! refl) (and_then ! (get ! refl) (no_more !))))) refl typed $
    sets_last ! (agg ! (and_then ! (lit ! tt) (and_then ! (get ! refl) (no_more !)))) refl ok $
    exec ! 𝓣.C 𝓣.Λ Locals (after 3 function.body) (at_ret _ (Wk.post z)) $ sets ! (of_opd ! (get ! refl)) refl ok $
    move ! (1 ∷ []) $ use0 𝓛 (‵ ((Mark E).own_val (tt, tt) (mark ∷ []))) (mark_made E 𝓛) $ fjoin ! $ move ! (1 ∷ []) $
    as_written ! (ty_array (elτ E) len) b o $ use1 𝓛 (‵ (slots (R E) b o cells.slots)) (of_room E 𝓛 b len o) $
    flt_i ! (length cells.slots * s) (2 ^ 63) (subst (λ k. k * s < 2 ^ 63) (sym (length-replicate len None)) small) $ fjoin ! $
    use0 𝓛 (‵ ((Mark E).own_val (tt, tt) (mark ∷ []))) (mark_made E 𝓛) $ fjoin ! $ word_made ! p $
    use3 𝓛 (‵ (Three.own_val (base, cells, deed) (made ∷ []))) (three_of 𝓛 (Bs E) (Cr E) Dd base cells deed (word p) mark mark) $
    use1 𝓛 (‵ (Out.own_val (Ok (base, cells, deed)) (live 0 (vcons made vnil) ∷ []))) (ok_of 𝓛 Three AE.the_row (base, cells, deed) made) $
    returns ! (look_at ! 0 refl) $ free_all ! refl $ keep ! (0 ∷ 1 ∷ 2 ∷ []) $ out (Ok (base, cells, deed)) (live 0 (vcons made vnil)) (refl, refl, refl, refl, refl))
    (λ e.
    let Refusal : RattleType = Struct (Declared.shape AE.the_type) in
    let none : Val = live 1 (vcons (vstruct vnil) vnil) in
    lands_as ! e refl (Answer-typed false 0 0) $ first ! $ switches_on ! (get_tag ! (vrt ! refl (fld ! refl (stop !))) (whole !)) $ exec ! 𝓣.C 𝓣.Λ Locals (arm_body 1 both) Then $
    sets ! (of_opd ! (get_in ! (vrt ! refl (fld ! refl (stop !))) (in_variant ! 1 0 refl refl (whole !)))) refl (tt, tt) $
    sets_last ! (agg ! (and_then ! (lit ! tt) (and_then ! (get ! refl) (no_more !)))) refl (tt, (record { fits = lit< tt }, (tt, tt))) $
    exec ! 𝓣.C 𝓣.Λ Locals (after 3 function.body) (at_ret _ (Wk.post z)) $ sets ! (of_opd ! (get ! refl)) refl (tt, (record { fits = lit< tt }, (tt, tt))) $
    owned ! Refusal (Is Refusal) (Struct-Makes 𝓛 (Declared.shape AE.the_type) tt) tt (vstruct vnil ∷ []) (tt, (refl, tt)) $
    use1 𝓛 (‵ (Out.own_val (Err (record {})) (none ∷ []))) (err_of 𝓛 Three AE.the_row (record {}) (vstruct vnil)) $
    returns ! (look_at ! 0 refl) $ free_all ! refl $ keep ! (0 ∷ 1 ∷ 2 ∷ []) $ out (Err (record {})) none tt)))))))))
