use Rattle.std.proofs.Common.{◌≡◌, ◌<◌, ◌≤◌, ℕ, All, List, length, subst, Option, Result, Ok, Err, Some, None, IfErr, sym, ◌∙◌, ap}
use Rattle.manifests.specs.declared.facts.FileEntry.{FileEntry}
use Rattle.small_types.specs.declared.limits.TheConstants.{FILE_COUNT_LIMIT, FILE_SIZE_LIMIT}
use Rattle.jobs.specs.Jobs.{hindrance}
use Rattle.jobs.specs.declared.fault.JobFault.{JobFault}
use Rattle.jobs.proofs.Hindrances.{has_number, has_room, memory_alone, some_not}
use Rattle.jobs.proofs.table.JobTable.begin.Goals as goal

pub open_job-requires-clause-room : goal.open_job-requires-clause-room
open_job-requires-clause-room c =
    let table = c.args.self.now in
    let store = c.args.store.now in
    let none : None ≡ hindrance table c.args.entries.items c.args.left.items store =
    sym c.in-None.is ∙ c.hindrance.ensures ∙ ap (λ (l : List FileEntry). hindrance table l c.deref-2.result.now store) c.deref.ensures.value ∙ ap (λ (l : List ℕ). hindrance table c.args.entries.items l store) c.deref-2.ensures.value in
    has_room table c.args.entries.items c.args.left.items store none

pub open_job-requires-clause-number : goal.open_job-requires-clause-number
open_job-requires-clause-number c =
    let table = c.args.self.now in
    let store = c.args.store.now in
    let none : None ≡ hindrance table c.args.entries.items c.args.left.items store =
    sym c.in-None.is ∙ c.hindrance.ensures ∙ ap (λ (l : List FileEntry). hindrance table l c.deref-2.result.now store) c.deref.ensures.value ∙ ap (λ (l : List ℕ). hindrance table c.args.entries.items l store) c.deref-2.ensures.value in
    has_number table c.args.entries.items c.args.left.items store none

pub returns-in-Some-clause-hindered : goal.returns-in-Some-clause-hindered
returns-in-Some-clause-hindered c = λ fault is.
    let table = c.args.self.now in
    let store = c.args.store.now in
    let same : Some c.in-Some.fault ≡ Some fault =
    sym c.in-Some.is ∙ c.hindrance.ensures ∙ ap (λ (l : List FileEntry). hindrance table l c.deref-2.result.now store) c.deref.ensures.value ∙ ap (λ (l : List ℕ). hindrance table c.args.entries.items l store) c.deref-2.ensures.value ∙ is in
    cc

pub returns-in-Some-clause-only : goal.returns-in-Some-clause-only
returns-in-Some-clause-only c = λ other.
    let table = c.args.self.now in
    let store = c.args.store.now in
    sym (c.hindrance.ensures ∙ ap (λ (l : List FileEntry). hindrance table l c.deref-2.result.now store) c.deref.ensures.value ∙ ap (λ (l : List ℕ). hindrance table c.args.entries.items l store) c.deref-2.ensures.value) ∙ c.in-Some.is

pub returns-in-None-clause-hindered : goal.returns-in-None-clause-hindered
returns-in-None-clause-hindered c = λ fault is.
    let table = c.args.self.now in
    let store = c.args.store.now in
    some_not fault (hindrance table c.args.entries.items c.args.left.items store)
    (sym c.in-None.is ∙ c.hindrance.ensures ∙ ap (λ (l : List FileEntry). hindrance table l c.deref-2.result.now store) c.deref.ensures.value ∙ ap (λ (l : List ℕ). hindrance table c.args.entries.items l store) c.deref-2.ensures.value) is

pub returns-in-None-clause-only : goal.returns-in-None-clause-only
returns-in-None-clause-only c = memory_alone c.open_job.result _ c.open_job.ensures.memory

pub returns-in-None-clause-unchanged : goal.returns-in-None-clause-unchanged
returns-in-None-clause-unchanged c = memory_alone c.open_job.result _ c.open_job.ensures.memory

pub hindrance-requires-clause-within : goal.hindrance-requires-clause-within
hindrance-requires-clause-within c =
    subst (λ (l : List FileEntry). All (λ k. k < length l) c.deref-2.result.now) (sym c.deref.ensures.value)
    (subst (λ (l : List ℕ). All (λ k. k < length c.args.entries.items) l) (sym c.deref-2.ensures.value) c.requires.wanted.within)

pub hindrance-requires-clause-few : goal.hindrance-requires-clause-few
hindrance-requires-clause-few c = subst (λ (l : List ℕ). length l ≤ FILE_COUNT_LIMIT) (sym c.deref-2.ensures.value) c.requires.few_left

pub hindrance-requires-clause-sizes : goal.hindrance-requires-clause-sizes
hindrance-requires-clause-sizes c = subst (λ (l : List FileEntry). All (λ e. e.size ≤ FILE_SIZE_LIMIT) l) (sym c.deref.ensures.value) c.requires.sizes

pub returns-in-Some-clause-sound : goal.returns-in-Some-clause-sound
returns-in-Some-clause-sound c = λ kept tell sound. sound
