use Rattle.store_state.specs.declared.view.View.{View}
use Rattle.store_state.proofs.Numbered.{no_number, number_at_place}
use Rattle.store_state.proofs.views.find_view.Goals as goal

pub returns-in-Ok : goal.returns-in-Ok
returns-in-Ok c =
    number_at_place (λ (view : View). view.number) c.args.views.now c.args.number c.requires
    c.in-Ok.place c.index-views-place.result c.in-Ok.ensures.range c.in-Ok.ensures.found
    c.index-views-place.is

pub returns-in-Err : goal.returns-in-Err
returns-in-Err c =
    no_number (λ (view : View). view.number) c.args.views.now c.args.number c.requires
    c.in-Err.field-0 c.in-Err.ensures.found
