use Rattle.std.proofs.Common.{◌≡◌, ◌<◌, false, [], length, get_or, sym, subst, refl}
use Rattle.std.specs.Vec.{with_item}
use Rattle.jobs.specs.Jobs.{first_slot}
use Rattle.jobs.specs.Slots.{is_coming, slot_at}
use Rattle.jobs.specs.declared.table.Job.{Job}
use Rattle.jobs.specs.declared.table.JobTable.{JobTable}
use Rattle.jobs.proofs.Steps.{follow_none, passed_sound}
use Rattle.jobs.proofs.table.JobTable.pass.Goals as goal

pub returns-clause-sound : goal.returns-clause-sound
returns-clause-sound c = λ store kept sound.
    let table = c.args.self.now in
    let job = c.index_mut.result.now in
    let is : c.index_mut.result.now ≡ get_or table.jobs.items c.args.at c.index_mut.result.now = c.index_mut.ensures.value in
    let new : JobTable = record { jobs = with_item table.jobs c.args.at c.pass.new.self; next = table.next; slots = table.slots } in
    passed_sound kept table [] [] store sound c.args.at c.requires.open job is
    (subst (λ (j : Job). 0 < length j.left.items) (sym is) (c.requires.some job)) new [] [] c.pass.new.self c.pass.ensures.passed refl refl (follow_none table.slots.items)
    (subst (λ (j : Job). is_coming (slot_at table.slots.items (first_slot j)).held ≡ false) (sym is) (c.requires.here job))
    sound.balanced sound.settled
