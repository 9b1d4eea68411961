use Rattle.std.proofs.Common.{◌≡◌, ℕ, ◌+◌, List, [], ◌∷◌, ◌++◌, length, refl, sym, ◌∙◌, ap, subst}
use Rattle.jobs.specs.NewJobs.{AllSuit, Tell}
use Rattle.jobs.specs.declared.table.Job.{Job}
use Rattle.jobs.specs.declared.table.JobTable.{JobTable}
use Rattle.jobs.proofs.OpenedJobs.{begun_sound}
use Rattle.manifests.specs.declared.facts.FileEntry.{FileEntry}
use Rattle.jobs.proofs.table.JobTable.open_job.Goals as goal

pub take_slots-requires-clause-sound : goal.take_slots-requires-clause-sound
take_slots-requires-clause-sound c =
    (c.requires.sound.0, subst (λ (l : List FileEntry). Tell c.args.flags.now c.requires.sound.0 l) (sym c.deref.ensures.value) c.requires.sound.1, c.requires.sound.2)

pub returns-in-Ok-clause-opened : goal.returns-in-Ok-clause-opened
returns-in-Ok-clause-opened c =
    let job : Job = record { number = c.take_slots.new.self.next; entries = c.args.entries; needs = c.in-Ok.needs; left = c.args.left } in
    record {
      next = ap (λ (n : ℕ). n + 1) c.take_slots.ensures.next;
      job = (job, c.push_reserved.ensures.items ∙ ap (λ (l : List Job). l ++ job ∷ []) c.take_slots.ensures.jobs, c.take_slots.ensures.next, refl, refl);
    }

pub returns-in-Ok-clause-sound : goal.returns-in-Ok-clause-sound
returns-in-Ok-clause-sound c = λ kept tell sound.
    let job : Job = record { number = c.take_slots.new.self.next; entries = c.args.entries; needs = c.in-Ok.needs; left = c.args.left } in
    let entries : c.deref.result.now ≡ c.args.entries.items = c.deref.ensures.value in
    let tells : Tell c.args.flags.now kept c.deref.result.now = subst (λ (l : List FileEntry). Tell c.args.flags.now kept l) (sym entries) tell in
    let new : JobTable = record { jobs = c.push_reserved.new.self; next = c.take_slots.new.self.next + 1; slots = c.take_slots.new.self.slots } in
    begun_sound kept c.args.self.now c.args.store.now sound c.take_slots.new.self.slots.items c.in-Ok.needs.items c.in-Ok.ensures.taken new job c.take_slots.new.store
    (c.push_reserved.ensures.items ∙ ap (λ (l : List Job). l ++ job ∷ []) c.take_slots.ensures.jobs) (ap (λ (n : ℕ). n + 1) c.take_slots.ensures.next) refl refl c.take_slots.ensures.next
    c.requires.room c.requires.number (c.in-Ok.ensures.count ∙ ap length entries) c.requires.few
    (subst (λ (l : List FileEntry). AllSuit c.take_slots.new.self.slots.items c.in-Ok.needs.items l) entries c.in-Ok.ensures.suits) c.args.flags.now tell c.requires.wanted
    (c.in-Ok.ensures.balanced kept tells sound.balanced)

pub returns-in-Err-clause-sound : goal.returns-in-Err-clause-sound
returns-in-Err-clause-sound c = λ kept tell sound.
    c.in-Err.ensures.undone kept (subst (λ (l : List FileEntry). Tell c.args.flags.now kept l) (sym c.deref.ensures.value) tell) sound

pub returns-in-Ok-clause-fresh : goal.returns-in-Ok-clause-fresh
returns-in-Ok-clause-fresh c = c.in-Ok.ensures.taken.fresh
