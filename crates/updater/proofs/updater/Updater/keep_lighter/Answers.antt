use Rattle.std.proofs.Common.{subst, sym}
use Rattle.machine.specs.Weight.{IsLight}
use Rattle.store_state.specs.Change.{Fits, effect}
use Rattle.table_weight.specs.Laws.{BringsNothing}
use Rattle.table_weight.specs.Weight.{tables_weight}
use Rattle.updater.specs.Shown.{Updater}
use Rattle.updater.proofs.Brings.{nothing_short}
use Rattle.updater.proofs.KeptChange.{lighter_room}
use Rattle.updater.proofs.NoFiles.{nothing_brought, nothing_measured}
use Rattle.updater.proofs.updater.Updater.keep_lighter.Goals as goal

pub keep-requires-clause-may : goal.keep-requires-clause-may
keep-requires-clause-may g c =
    let inside = c.self.inside in
    let is = sym c.self.view_is in
    let fits = subst (λ (u : Updater). Fits u.state c.args.change) is c.requires.may.0 in
    let nothing = subst (λ (u : Updater). BringsNothing u.state c.args.change) is c.requires.lighter in
    record {
      fits = c.requires.may.0;
      has = c.requires.may.1;
      short = nothing_short inside.state c.args.change nothing;
      light = subst (λ (u : Updater). IsLight u.room (tables_weight (effect c.args.change u.state))) c.self.view_is
          (lighter_room c.changed_tables_weigh.ensures.others inside.log inside.room inside.state c.args.change c.self.invariant.0 c.are_tables.ensures fits nothing);
      measured = nothing_measured inside.state c.args.change nothing;
    }

pub keep-requires-clause-none : goal.keep-requires-clause-none
keep-requires-clause-none g c =
    nothing_brought c.self.inside.state c.args.change (subst (λ (u : Updater). BringsNothing u.state c.args.change) (sym c.self.view_is) c.requires.lighter)
