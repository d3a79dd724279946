-- The names of the logic that the walks by hand use, in one place.
pub use mathlib.Core.Path.{◌≡◌, refl, ◌∙◌, sym, subst, ap}
pub use Prim.Native.Nat.{◌+◌, ◌*◌, ◌<◌, ◌^◌, ℕ, zero, suc, ◌≤◌}
pub use mathlib.Core.List.{List, [], ◌∷◌, ◌++◌}
pub use base.Fraction.{full_share}
pub use mir.Syntax.{Fn, named, Body, w64, ty_array, ty_unit, Ty}
pub use mir.MapTy.{inst_fn}
pub use mir.Val.{Val, vptr, vunit, vint, vstruct, vcons, vnil, has_ty, WT, of_list}
pub use base.Logic.{never, id⊢, SProp, ent, sep, emp, ex, guard, via, snd∗}
pub use base.Fml.{ftrue, fat, flft, froom, Incl-trans, Fml, Lft, fsep, Incl, ffalse}
pub use prog.Wp.{WpFn, Env, Wp, after_seq, at_return}
pub use contract.Monad.{fact, fact_i}
pub use contract.Running.{tables}
pub use types.Kit.{‵, ◌⊛◌, at_ret, ◌$◌, ◌∵◌, !, qed, move, keep, drop, use1, split, join, rewrite, fsplit, fjoin, feq_i, feq_l, suffices, frame, done, flt_l, prop, regoal, raw, some, given, pick, learn, use2, fsplit3, fjoin3, flt_i, later, await, use0, use3, any_q, Sq, group, Item, Goal, Seq, Step, step, by, check, show, fpick, fpack, Post}
pub use types.Part.{whole, sub, agg}
pub use types.Run.{stop, fld, of_opd, addr, first, blocks, exec, returns, enter, bin, size_lit, look, load, init, unit_lit, assigns_last, lit, and_then, no_more, size_word, align_word, switches_on}
pub use types.ByLocal.{alloc_all, pass_all, free_all, look_at, get, get_in, through, sets, sets_last, env, take_at, give_at, is, get_tag, lands_as, lands_last}
pub use denote.Exit.{yes, no}
pub use denote.RattleType.{owns, RattleType, Valss, RowLaws}
pub use denote.Param.{layout, param}
pub use denote.RawPtr.{Ptr, in_a_block, block_ptr, ptr_val, RawPtr, null_ptr}
pub use denote.Ref.{ShrRef, MutRef}
pub use denote.Builtin.{RefOf, usize}
pub use denote.Signature.{plain}
pub use denote.Steps.{nothing, heard, opens, closes, owned, peeks}
pub use denote.Triple.Walked.{says, Stays, stay_dropped, walk_of, ends_at, Goes-dropped, stay_ref, Goes-ref}
pub use Rattle.std_alloc.proofs.VecSteps.Shapes.{after, head, arm_body}
pub use Rattle.std_alloc.proofs.RcSteps.{word, word-Good, Good, first_Good}
pub use lib.ListN.{length, get_or, set, length-set, replicate, length-replicate}
pub use Rattle.std.proofs.raw_atomic.Walks.{proved_at}
pub use Rattle.std.specs.Prelude.{None, Some, IfOk, Ok, Err}
pub use Rattle.core.proofs.mem.Param.{El, R, args, elτ, el_x}
pub use contract.BorrowLft.{◌⊑◌, meet_⊑_left}
pub use Rattle.std_alloc.proofs.RawLayout.{as_raw, as_written}
pub use native.Mathlib.Omega.{arith}
pub use lib.Dec.{lit<, T}
pub use prog.Memory.{align, capped}
pub use prog.Capped.{capped_fits}
pub use denote.Triple.Call.{calls_at, calls_at_last}
pub use Rattle.core.proofs.alloc.Calls.{Al, Answer-typed, Takes, at_takes, Answered, Takes-goes, Takes-gives, answers, Goes-blank, token, Gives, at_gives, Gives-goes, Gives-Gives}
pub use denote.Triple.Table.{framed}
pub use seplogic.Ra.Ura.{Ura}
pub use types.Logic.{Logic, sem}
pub use denote.Laws.{Typed, Is, shows}
pub use denote.Param.Laws.{Laws, param_laws}
pub use denote.Struct.Struct.{Shape, Struct, within, Struct-Makes}
pub use denote.Struct.Tuple.{Tuple, tuple_type}
pub use denote.SharingLaws.{beside_shr_laws, nothing_shr_laws, said_shr_laws}
pub use denote.Struct.Lending.{Lends, Lends-both, Lends-nothing, Lends-said, Lends-false, of_Lends}
pub use Rattle.core.proofs.slots.Leases.{uncapped, block_ty, block_size, block_align, P}
pub use denote.Param.Shared.{copy_shared}
pub use denote.Struct.Laws.{field_copy}
