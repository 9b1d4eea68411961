-- The body does nothing: the borrow is opened, and closed at the longer list.
use Rattle.std.proofs.Common.{[], ◌∷◌, ◌++◌, refl}
use Rattle.std.proofs.raw_atomic.Walks.{proved}
use mir.Syntax.{a_type, dcons, dnil, named}
use mir.Val.{vunit, vptr}
use mir.MapTy.{inst_fn}
use base.Fml.{Fml, ftrue, fsep, flft}
use base.Logic.{id⊢}
use contract.Running.{tables}
use types.Kit.{‵, raw, ◌⊛◌, ◌$◌, ◌∵◌, !, qed, move, keep, use1, split, join, fsplit, fsplit3, feq_i, suffices, frame, group, done}
use types.Run.{unit_lit, of_opd, returns, enter}
use types.ByLocal.{alloc_all, pass_all, free_all, look_at, sets}
use denote.Builtin.{RefOf}
use denote.Exit.{yes}
use denote.Param.{param, bounded}
use denote.Ref.{mut_vals, mut_Tells, shr_vals, shr_Tells}
use denote.Signature.{plain, types_at}
use denote.RattleType.{RattleType, owns}
use denote.Steps.{nothing, opens, closes}
use denote.Triple.Walked.{Stays, walk_of, says, stay_ref, stay_dropped, Goes-ref, Goes-dropped, ends_at}
use Rattle.call_record.specs.declared.record.Record.{Record}
use Rattle.call_record.specs.contracts.record.Record as record_type
use Rattle.call_record.specs.contracts.record.Record.append as noting
use Rattle.call_record.proofs.record.Record.append.Statement.{statement}
use Rattle.call_record.proofs.record.Record.append.Code as code

pub append_spec : {M : Type 1} → statement M
append_spec 𝓤 𝓛 𝓜 𝓡 wired T E _ _ entry methods _ =
    let 𝓣 = tables 𝓤 𝓛.H 𝓜 𝓡 𝓡.env in
    let inst = bounded (a_type ∷ a_type ∷ []) (T, (E, tt)) (dcons methods dnil) in
    let fn = inst_fn inst code.function in
    let row : RattleType = record_type.the_row (param 0 T) in
    let noted : RattleType = param 1 E in
    let end = noting.ended T E entry methods in
    let stayed : Stays end.signature.params end.kept = (stay_ref (0 ∷ []) tt (plain (λ _. row)), (stay_dropped (RefOf (1 ∷ []) tt (plain (λ _. noted)) (λ _. tt)) yes, tt)) in
    let c = noting.clauses T E entry methods 𝓛 𝓜.mem 𝓡.returns in
    proved 𝓛 end stayed c 𝓜 𝓡
    (Goes-ref 𝓛 4 0 tt (plain (λ _. row)), (Goes-dropped 𝓛 4 (RefOf (1 ∷ []) tt (plain (λ _. noted)) (λ _. tt)) yes (λ κs x f. refl), tt))
    (noting.Key.name inst) fn (code.unfolded 𝓤 𝓛.H 𝓜 𝓡 wired (T, (E, tt)) methods)
    (λ κs. (mut_vals, (shr_vals, tt))) (λ κs. (mut_Tells (named 0) κs.0 row, (shr_Tells (named 1) κs.1.0 noted, tt))) (λ κs qs bounds a g are.
    let b = a.0.ref_ptr.0 in let o = a.0.ref_ptr.1 in let before = a.0.now in
    let after : Record T.Denot = record { marker = before.marker; noted = before.noted ++ entry.notes a.1.0.now } in
    let y : (walk_of 𝓛 end stayed c).Ghost = ((κs, qs, bounds, a, (mut_vals a.0, (shr_vals a.1.0, tt))), g) in
    let tokens : Fml = fsep (flft κs.0 qs.0) (fsep (flft κs.1.0 qs.1.0) (fsep (flft κs.1.1.0 qs.1.1.0) (fsep (flft κs.1.1.1.0 qs.1.1.1.0) ftrue))) in
    qed 𝓛 ((‵ tokens ⊛ ‵ (owns (types_at end.signature.params κs) a y.0.4)) ∷ raw ((c κs a).requires g) ∷ []) ∵
    split ! $ move ! (1 ∷ []) $ fsplit ! $ fsplit3 ! $ move ! (4 ∷ []) $ fsplit ! $ keep ! (3 ∷ 4 ∷ 0 ∷ 1 ∷ []) $
    -- [the list; the borrow; its token; the other tokens]
    enter ! _ _ _ _ _ $ alloc_all ! (λ l. pass_all ! refl ((tt, tt), ((tt, tt), tt)) $
    opens ! tt row {h = before} b o (λ vs.
    sets ! (of_opd ! (unit_lit !)) refl (tt, tt) $
    move ! (1 ∷ []) $ use1 𝓛 (‵ (row.own_val after vs)) (id⊢ 𝓤 _) $ move ! (1 ∷ 0 ∷ []) $ closes ! tt row after vs b o $
    returns ! (look_at ! 0 refl) $ free_all ! refl $
    suffices ! _ (ends_at 𝓛 end stayed c y vunit tt (after, (tt, tt)) (tt, (tt, tt))) $ says ! refl $
    feq_i ! _ (vptr b o ∷ []) _ refl $ group ! 3 $ nothing ! $ nothing ! $ join ! $ move ! (1 ∷ 0 ∷ []) $ join ! $
    move ! (1 ∷ 2 ∷ []) $ join ! $ frame ! $ frame ! $ feq_i ! _ (vunit ∷ []) _ refl $ done !)))
