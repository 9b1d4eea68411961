-- The value has no bytes: a marker alone. Its list begins empty.
use Rattle.std.proofs.Common.{[], ◌∷◌, refl}
use Rattle.std.proofs.raw_atomic.Walks.{proved}
use mir.Syntax.{a_type}
use mir.Val.{Val, vstruct, vcons, vnil}
use mir.MapTy.{inst_fn}
use base.Fml.{ftrue, flft}
use contract.Running.{tables}
use types.Kit.{‵, raw, ◌⊛◌, ◌$◌, ◌∵◌, !, qed, move, keep, split, join, suffices, done}
use types.Run.{no_more, and_then, returns, enter}
use types.Part.{agg}
use types.ByLocal.{alloc_all, pass_all, free_all, look_at, get, sets}
use denote.Param.{param, layouts}
use denote.RattleType.{RattleType}
use denote.Shadow.{pure_i}
use denote.Steps.{nothing}
use denote.Triple.Walked.{says, ends_at}
use Rattle.call_record.specs.contracts.record.Record as record_type
use Rattle.call_record.specs.contracts.record.Record.new as made
use Rattle.call_record.proofs.record.Record.new.Statement.{statement}
use Rattle.call_record.proofs.record.Record.new.Code as code

abbrev bits : Val
bits = vstruct (vcons (vstruct vnil) vnil)

pub new_spec : {M : Type 1} → statement M
new_spec 𝓤 𝓛 𝓜 𝓡 wired T _ =
    let 𝓣 = tables 𝓤 𝓛.H 𝓜 𝓡 𝓡.env in
    let inst = layouts (a_type ∷ []) (T, tt) in
    let fn = inst_fn inst code.function in
    let row : RattleType = record_type.the_row (param 0 T) in
    let c = made.clauses T 𝓛 𝓜.mem 𝓡.returns in
    proved 𝓛 (made.ended T) tt c 𝓜 𝓡 tt (made.Key.name inst) fn (code.unfolded 𝓤 𝓛.H 𝓜 𝓡 wired (T, tt))
    (λ κs. tt) (λ κs. tt) (λ κs qs bounds a g are.
    qed 𝓛 (((‵ (flft κs.0 qs.0) ⊛ ‵ ftrue) ⊛ ‵ ftrue) ∷ raw ((c κs a).requires g) ∷ []) ∵ split ! $ keep ! (0 ∷ []) $
    enter ! _ _ _ _ _ $ alloc_all ! (λ l. pass_all ! refl tt $
    sets ! (agg ! (no_more !)) refl (tt, tt) $
    sets ! (agg ! (and_then ! (get ! refl) (no_more !))) refl (tt, (tt, tt)) $
    returns ! (look_at ! 0 refl) $ free_all ! refl $
    pure_i ! (row.own_val (record { marker = record {}; noted = [] }) (bits ∷ []))
    ((λ vss. (tt, ((λ uss. (tt, tt)), tt))), tt) (((vstruct vnil ∷ [], tt), (refl, ((tt, (refl, tt)), tt))), tt) $
    suffices ! _ (ends_at 𝓛 (made.ended T) tt c ((κs, qs, bounds, a, tt), g) bits (record { marker = record {}; noted = [] }) tt tt) $ says ! refl $
    nothing ! $ join ! $ move ! (1 ∷ 0 ∷ []) $ done !))
