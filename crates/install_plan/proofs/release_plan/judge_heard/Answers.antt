use Rattle.std.proofs.Common.{◌∙◌, ap, inl, List, ℕ, map, Ok}
use Rattle.std.specs.Prelude.{slice_get}
use Rattle.store_state.specs.Tables.{table_shape}
use Rattle.install_plan.proofs.TableRoom.{by_place, by_tables, passed}
use Rattle.install_plan.proofs.Told.{base_is}
use Rattle.install_plan.proofs.release_plan.judge_heard.Goals as goal

pub returns-in-Err-clause-judged : goal.returns-in-Err-clause-judged
returns-in-Err-clause-judged c = λ url read joined is.
    by_place url (table_shape c.args.room c.args.state.now) c.args.d.now c.args.a.now c.in-Err.reply
    (c.in-Err.ensures.judged url
    (base_is url c.args.d.now c.args.target.now (Ok c.args.base.now) read joined) is)

pub returns-in-Err-provider_of-clause-judged : goal.returns-in-Err-provider_of-clause-judged
returns-in-Err-provider_of-clause-judged c = λ url read joined is.
    inl c.in-Err-provider_of.ensures.memory

pub returns-in-Err-judge_tables-clause-judged : goal.returns-in-Err-judge_tables-clause-judged
returns-in-Err-judge_tables-clause-judged c = λ url read joined is.
    let base = base_is url c.args.d.now c.args.target.now (Ok c.args.base.now) read joined in
    by_tables url (table_shape c.args.room c.args.state.now) c.args.d.now c.args.a.now
    c.args.target.now read c.args.base.now joined c.in-Ok-provider_of.provider
    c.in-Ok-provider_of.ensures.provided (c.in-Ok.ensures.judged url base is)
    c.in-Err-judge_tables.reply
    (c.in-Err-judge_tables.ensures
    (ap (λ (places : List ℕ). map (slice_get c.args.a.now.files) places) c.as_slice.ensures.value
    ∙ c.in-Ok.ensures.stand))

pub returns-in-Ok-judge_tables-clause-judged : goal.returns-in-Ok-judge_tables-clause-judged
returns-in-Ok-judge_tables-clause-judged c = λ url read joined is.
    let base = base_is url c.args.d.now c.args.target.now (Ok c.args.base.now) read joined in
    passed url (table_shape c.args.room c.args.state.now) c.args.d.now c.args.a.now
    c.args.target.now read c.args.base.now joined c.in-Ok-provider_of.provider
    c.in-Ok-provider_of.ensures.provided (c.in-Ok.ensures.judged url base is)
    (c.in-Ok-judge_tables.ensures
    (ap (λ (places : List ℕ). map (slice_get c.args.a.now.files) places) c.as_slice.ensures.value
    ∙ c.in-Ok.ensures.stand))
