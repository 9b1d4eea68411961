use Rattle.install_plan.specs.GroupReady.{weight_in}
use Rattle.install_plan.proofs.GroupSpace.{has_space, lacks_blocks, lacks_room}
use Rattle.install_plan.proofs.group.judge_space.Goals as goal

pub returns-in-Err : goal.returns-in-Err
returns-in-Err c =
    lacks_blocks c.args.room c.args.state.now c.args.view.now c.args.group.now c.args.files.now
    c.args.need c.requires.need c.in-Err.reply c.in-Err.ensures

pub returns-in-Some : goal.returns-in-Some
returns-in-Some c =
    let over = c.in-Some.ensures
    (weight_in c.args.room c.args.state.now c.args.view.now c.args.group.now)
    (c.weight_with_group-weight.ensures c.args.room c.requires.kept c.requires.files
    c.requires.places) in
    lacks_room c.args.room c.args.state.now c.args.view.now c.args.group.now c.args.files.now
    c.args.need c.requires.need c.in_default.ensures c.in-Some.reply over.0 over.1

pub returns-in-None : goal.returns-in-None
returns-in-None c =
    has_space c.args.room c.args.state.now c.args.view.now c.args.group.now c.args.files.now
    c.args.need c.requires.need c.in_default.ensures
    (c.in-None.ensures (weight_in c.args.room c.args.state.now c.args.view.now c.args.group.now)
    (c.weight_with_group-weight.ensures c.args.room c.requires.kept c.requires.files
    c.requires.places))
