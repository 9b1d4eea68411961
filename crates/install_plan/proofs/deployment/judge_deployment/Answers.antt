use Rattle.addresses.specs.Join.{app_target_of}
use Rattle.store_state.specs.Tables.{table_shape}
use Rattle.std.proofs.Common.{◌++◌}
use Rattle.install_plan.specs.Judges.{address_checks, count_checks, version_checks}
use Rattle.install_plan.proofs.Listed.{passes_both, refused_left, refused_right}
use Rattle.install_plan.proofs.deployment.judge_deployment.Goals as goal

pub returns-in-Err-clause-judged : goal.returns-in-Err-clause-judged
returns-in-Err-clause-judged c = λ room.
    let v = version_checks (table_shape room c.args.state.now) c.args.d.now in
    let k = count_checks (table_shape room c.args.state.now) c.args.d.now in
    let t = address_checks (app_target_of c.args.target.now c.args.d.now.codebase) in
    refused_left (v ++ k) t c.in-Err.reply (refused_left v k c.in-Err.reply (c.in-Err.ensures room))

pub returns-in-Err-judge_counts-clause-judged : goal.returns-in-Err-judge_counts-clause-judged
returns-in-Err-judge_counts-clause-judged c = λ room.
    let v = version_checks (table_shape room c.args.state.now) c.args.d.now in
    let k = count_checks (table_shape room c.args.state.now) c.args.d.now in
    let t = address_checks (app_target_of c.args.target.now c.args.d.now.codebase) in
    refused_left (v ++ k) t c.in-Err-judge_counts.reply (refused_right v k c.in-Err-judge_counts.reply (c.in_default.ensures room) (c.in-Err-judge_counts.ensures room))

pub returns-in-Err-application_address-clause-judged : goal.returns-in-Err-application_address-clause-judged
returns-in-Err-application_address-clause-judged c = λ room.
    let v = version_checks (table_shape room c.args.state.now) c.args.d.now in
    let k = count_checks (table_shape room c.args.state.now) c.args.d.now in
    let t = address_checks (app_target_of c.args.target.now c.args.d.now.codebase) in
    refused_right (v ++ k) t c.in-Err-application_address.reply (passes_both v k (c.in_default.ensures room) (c.in_default-judge_counts.ensures room)) c.in-Err-application_address.ensures.judged

pub returns-in-Ok-clause-judged : goal.returns-in-Ok-clause-judged
returns-in-Ok-clause-judged c = λ room.
    let v = version_checks (table_shape room c.args.state.now) c.args.d.now in
    let k = count_checks (table_shape room c.args.state.now) c.args.d.now in
    let t = address_checks (app_target_of c.args.target.now c.args.d.now.codebase) in
    passes_both (v ++ k) t (passes_both v k (c.in_default.ensures room) (c.in_default-judge_counts.ensures room)) c.in-Ok.ensures.judged
