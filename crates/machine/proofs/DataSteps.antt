-- What lines and runs leave of data files.
use Rattle.std.proofs.Common.{◌≡◌, ◌≢◌, ◌∙◌, ◌⊎◌, ◌++◌, ◌<◌, inl, inr, refl, sym, ap, subst, ℕ, Bool, true, false, cond, eqb, List, [], ◌∷◌, length, Option, Some, None, arith}
use Rattle.std.specs.Prelude.{IsSome, option_and_then, option_map}
use Rattle.std.proofs.lemmas.Bool.{cases_eq, false≢true}
use Rattle.small_types.specs.declared.limit.Limit.{Limit}
use Rattle.machine.specs.declared.command.Command.{Command}
use Rattle.machine.specs.declared.command.Command.TheVariants.{At, Require, Install, Check, Skip, Rollback, Launch, Read, Local, Put, Remove, Group, Finish, Clean, Show}
use Rattle.machine.specs.declared.command.Command.TheVariants as asks
use Rattle.machine.specs.declared.event.Event.{Event}
use Rattle.machine.specs.declared.event.Event.TheVariants.{Boot, Line, Unread}
use Rattle.machine.specs.declared.event.Heard.{Heard}
use Rattle.machine.specs.declared.lease.Lease.{Lease}
use Rattle.machine.specs.declared.reply.Reply.{Reply}
use Rattle.machine.specs.declared.reply.Reply.TheVariants as says
use Rattle.machine.specs.CleanRow.{cleaned}
use Rattle.machine.specs.Current.{view_at}
use Rattle.machine.specs.DataFiles.{data_name, data_named, with_data, with_named, without_data, without_named}
use Rattle.machine.specs.DataLaws.{ChangesData, HasData, IsDataOf, IsOn, NoneChangesData, NoneTakesView, TakesView, data_at}
use Rattle.machine.specs.Grouped.{Grouped, with_group, with_view_at}
use Rattle.machine.specs.GroupRow.{GroupEffect}
use Rattle.machine.specs.Groups.{group_stands}
use Rattle.machine.specs.InstallRow.{InstallEffect}
use Rattle.machine.specs.Installed.{new_view}
use Rattle.machine.specs.InUse.{IsInUse, is_in_use}
use Rattle.machine.specs.Leases.{leased_view}
use Rattle.machine.specs.LocalRow.{LocalEffect, local_refusals}
use Rattle.machine.specs.Machine.{Answers, Run, Step, effect, moment_after, refusals}
use Rattle.machine.specs.PutRow.{PutEffect, put_refusals}
use Rattle.machine.specs.ReadRow.{part}
use Rattle.machine.specs.RemoveRow.{RemoveEffect, remove_refusals}
use Rattle.machine.specs.Rows.{PassesAll}
use Rattle.machine.specs.Shape.{Shape, shape_of}
use Rattle.machine.specs.Store.{Session, Store}
use Rattle.machine.specs.Valid.{Valid}
use Rattle.machine.specs.Views.{DataFile, View}
use Rattle.machine.proofs.FirstRefusal.{AllGive, given_reply}
use Rattle.machine.proofs.CleanedStores.{kept_used, used_at}
use Rattle.machine.proofs.DataViews.{redone, redone_leaves}
use Rattle.machine.proofs.FirstFound.{find-front, some_there, value_of}
use Rattle.machine.proofs.GroupKept.{grouped_at}
use Rattle.machine.proofs.GroupStands.{leased_number}
use Rattle.machine.proofs.Leased.{leased_by, view_in}
use Rattle.machine.proofs.NamedItems.{named-with_other, named-with_own, named-without_other, named-without_own}
use Rattle.machine.proofs.OneView.{changed_at, left_of, other_at, own_at}
use Rattle.machine.proofs.Refusals.{kept_or_effect}
use Rattle.machine.proofs.RowFacts.{Kept}
use Rattle.machine.proofs.ViewUse.{is_used, used_is}
use Rattle.machine.proofs.ViewSteps.{run_numbers, step_numbers, view_below}

-- ---- a view whose data files are others

module _ (lease number : ℕ) (g : List DataFile → List DataFile) (old : Store) (view : View)
    (leased : leased_view lease old ≡ Some view) (own : number ≡ view.number) where
  pub leased_then :
      leased_view lease (record old { views = with_view_at number (redone g) old.views })
      ≡ Some (record view { data_files = g view.data_files })
  leased_then =
      let by = leased_by lease old view leased in
      let known = view_in by.0.view old.views view by.2 in
      let same : number ≡ by.0.view = own ∙ known.1 in
      ap (λ (o : Option Lease). option_and_then
      (λ (l : Lease). view_at l.view (with_view_at number (redone g) old.views)) o) by.1
      ∙ ap (λ (n : ℕ). view_at n (with_view_at number (redone g) old.views)) (sym same)
      ∙ own_at number (redone g) old (redone_leaves g) view
      (ap (λ (n : ℕ). view_at n old.views) own ∙ leased_number lease old view leased)

-- the lease is on the view that it names
is_on : (lease : ℕ) (old : Store) (view : View) → leased_view lease old ≡ Some view
    → IsOn view.number lease old
is_on lease old view leased =
    let by = leased_by lease old view leased in
    let known = view_in by.0.view old.views view by.2 in
    ap (option_map (λ (l : Lease). l.view)) by.1 ∙ ap Some (sym known.1)

-- ---- answers that are no refusals

abbrev IsNoPut : Reply → Type 0
IsNoPut reply = ¬ (reply ≡ says.Put)

abbrev IsNoRemoval : Reply → Type 0
IsNoRemoval reply = ¬ (reply ≡ says.Removed)

abbrev IsNoRead : Reply → Type 0
IsNoRead reply = (shown : ℕ) (bytes : List ℕ) → ¬ (reply ≡ says.Read shown bytes)

memory_no_put : says.Memory ≡ says.Put → ⊥
memory_no_put e = cc

lease_no_put : says.NoLease ≡ says.Put → ⊥
lease_no_put e = cc

name_no_put : says.BadName ≡ says.Put → ⊥
name_no_put e = cc

many_no_put : (what : Limit) (limit : ℕ) → says.TooMany what limit ≡ says.Put → ⊥
many_no_put what limit e = cc

full_no_put : (need free : ℕ) → says.Full need free ≡ says.Put → ⊥
full_no_put need free e = cc

table_no_put : (weight room : ℕ) → says.TableFull weight room ≡ says.Put → ⊥
table_no_put weight room e = cc

memory_no_removal : says.Memory ≡ says.Removed → ⊥
memory_no_removal e = cc

lease_no_removal : says.NoLease ≡ says.Removed → ⊥
lease_no_removal e = cc

file_no_removal : says.NoFile ≡ says.Removed → ⊥
file_no_removal e = cc

module _ (shown : ℕ) (bytes : List ℕ) where
  memory_no_read : says.Memory ≡ says.Read shown bytes → ⊥
  memory_no_read e = cc

  lease_no_read : says.NoLease ≡ says.Read shown bytes → ⊥
  lease_no_read e = cc

  file_no_read : says.NoFile ≡ says.Read shown bytes → ⊥
  file_no_read e = cc

  read_size : (other : ℕ) (others : List ℕ) → says.Read shown bytes ≡ says.Read other others
      → shown ≡ other
  read_size other others e = cc

  read_bytes : (other : ℕ) (others : List ℕ) → says.Read shown bytes ≡ says.Read other others
      → bytes ≡ others
  read_bytes other others e = cc

no_put : (lease : ℕ) (name bytes : List ℕ) (shape : Shape)
    → AllGive IsNoPut (put_refusals lease name bytes shape)
no_put lease name bytes shape = (
  (λ r given e. lease_no_put (sym given.1 ∙ e)),
  (
    (λ r given e. name_no_put (sym given.1 ∙ e)),
    (
      (λ r given e. many_no_put _ _ (sym given.1 ∙ e)),
      (
        (λ r given e. full_no_put _ _ (sym given.2 ∙ e)),
        ((λ r given e. table_no_put _ _ (sym given.2 ∙ e)), tt),
      ),
    ),
  ),
)

no_removal : (lease : ℕ) (name : List ℕ) (shape : Shape)
    → AllGive IsNoRemoval (remove_refusals lease name shape)
no_removal lease name shape = (
  (λ r given e. lease_no_removal (sym given.1 ∙ e)),
  ((λ r given e. file_no_removal (sym given.1 ∙ e)), tt),
)

no_read : (lease : ℕ) (name : List ℕ) (shape : Shape)
    → AllGive IsNoRead (local_refusals lease name shape)
no_read lease name shape = (
  (λ r given shown bytes e. lease_no_read shown bytes (sym given.1 ∙ e)),
  ((λ r given shown bytes e. file_no_read shown bytes (sym given.1 ∙ e)), tt),
)

put_done : (now : ℕ) (heard : List (List ℕ)) (old : Session) (lease : ℕ) (name bytes : List ℕ)
    (new : Session) → Answers now heard old (Put lease name bytes) says.Put new
    → PutEffect lease name bytes old says.Put new
put_done now heard old lease name bytes new (inl (inl memory)) =
    absurd (memory_no_put (sym memory.0))
put_done now heard old lease name bytes new (inl (inr refused)) =
    absurd (given_reply IsNoPut (put_refusals lease name bytes (shape_of old)) old says.Put new
    (no_put lease name bytes (shape_of old)) refused.1 refl)
put_done now heard old lease name bytes new (inr done) = done.1

remove_done : (now : ℕ) (heard : List (List ℕ)) (old : Session) (lease : ℕ) (name : List ℕ)
    (new : Session) → Answers now heard old (Remove lease name) says.Removed new
    → RemoveEffect lease name old says.Removed new
remove_done now heard old lease name new (inl (inl memory)) =
    absurd (memory_no_removal (sym memory.0))
remove_done now heard old lease name new (inl (inr refused)) =
    absurd (given_reply IsNoRemoval (remove_refusals lease name (shape_of old)) old
    says.Removed new (no_removal lease name (shape_of old)) refused.1 refl)
remove_done now heard old lease name new (inr done) = done.1

local_done : (now : ℕ) (heard : List (List ℕ)) (old : Session) (lease : ℕ) (name : List ℕ)
    (from count shown : ℕ) (bytes : List ℕ) (new : Session)
    → Answers now heard old (Local lease name from count) (says.Read shown bytes) new
    → LocalEffect lease name from count old (says.Read shown bytes) new
local_done now heard old lease name from count shown bytes new (inl (inl memory)) =
    absurd (memory_no_read shown bytes (sym memory.0))
local_done now heard old lease name from count shown bytes new (inl (inr refused)) =
    absurd (given_reply IsNoRead (local_refusals lease name (shape_of old)) old
    (says.Read shown bytes) new (no_read lease name (shape_of old)) refused.1 shown bytes refl)
local_done now heard old lease name from count shown bytes new (inr done) = done.1

-- ---- one line

pub put_is_there : (now : ℕ) (heard : List (List ℕ)) (old : Session) (lease : ℕ)
    (name bytes : List ℕ) (new : Session)
    → Valid old.store → Answers now heard old (Put lease name bytes) says.Put new
    → HasData lease name (Some (record { name = name; bytes = bytes })) old.store new.store
put_is_there now heard old lease name bytes new valid answers =
    let done = put_done now heard old lease name bytes new answers in
    let file : DataFile = record { name = name; bytes = bytes } in
    let g : List DataFile → List DataFile = λ files. with_named data_name file files in
    subst (λ (s : Session). HasData lease name (Some (record { name = name; bytes = bytes }))
    old.store s.store) (sym done.is) (record {
      view = done.view;
      later = with_data file done.view;
      before = done.leased;
      after = leased_then lease done.view.number g old.store done.view done.leased refl;
      there = named-with_own data_name file done.view.data_files;
      others = λ other apart.
          named-with_other data_name file other (λ e. apart (sym e)) done.view.data_files;
      programs = refl;
      views = λ number apart. other_at done.view.number (redone g) old.store (redone_leaves g) number apart;
    })

pub removed_is_gone : (now : ℕ) (heard : List (List ℕ)) (old : Session) (lease : ℕ)
    (name : List ℕ) (new : Session)
    → Valid old.store → Answers now heard old (Remove lease name) says.Removed new
    → HasData lease name None old.store new.store
removed_is_gone now heard old lease name new valid answers =
    let done = remove_done now heard old lease name new answers in
    let g : List DataFile → List DataFile = λ files. without_named data_name name files in
    subst (λ (s : Session). HasData lease name None old.store s.store) (sym done.is) (record {
      view = done.view;
      later = without_data name done.view;
      before = done.leased;
      after = leased_then lease done.view.number g old.store done.view done.leased refl;
      there = named-without_own data_name name done.view.data_files;
      others = λ other apart. named-without_other data_name name other apart done.view.data_files;
      programs = refl;
      views = λ number apart. other_at done.view.number (redone g) old.store (redone_leaves g) number apart;
    })

pub data_is : (now : ℕ) (heard : List (List ℕ)) (old : Session) (lease : ℕ) (name : List ℕ)
    (from count shown : ℕ) (bytes : List ℕ) (new : Session)
    → Answers now heard old (Local lease name from count) (says.Read shown bytes) new
    → IsDataOf lease name from count shown bytes old.store
data_is now heard old lease name from count shown bytes new answers =
    let done = local_done now heard old lease name from count shown bytes new answers in
    record {
      view = done.view;
      leased = done.leased;
      file = done.file;
      found = done.found;
      size = read_size shown bytes (length done.file.bytes) (part from count done.file.bytes)
          done.replied;
      is_part = read_bytes shown bytes (length done.file.bytes) (part from count done.file.bytes)
          done.replied;
    }

-- ---- what a view has under a name

-- a view of that number is kept, with what it has under the name
abbrev KeepsData : ℕ → List ℕ → Store → Store → Type 0
KeepsData number name old new =
    (view : View) → view_at number old.views ≡ Some view
    → (later : View) × (view_at number new.views ≡ Some later)
    × (data_named name later.data_files ≡ data_named name view.data_files)

module _ (number : ℕ) (name : List ℕ) where
  same_views : (old new : Store) → new.views ≡ old.views → KeepsData number name old new
  same_views old new same =
      λ view is. (view, ap (λ (vs : List View). view_at number vs) same ∙ is, refl)

  chain : (a b c : Store) → KeepsData number name a b → KeepsData number name b c
      → KeepsData number name a c
  chain a b c first second =
      λ view is.
      let mid = first view is in
      let last = second mid.0 mid.1 in
      (last.0, last.1, last.2 ∙ mid.2)

  -- one view has other data files, of other names
  changed_keeps : (at : ℕ) (g : List DataFile → List DataFile) (old : Store)
      → (number ≡ at → (files : List DataFile) → data_named name (g files) ≡ data_named name files)
      → KeepsData number name old (record old {
        views = with_view_at at (λ (v : View). record v { data_files = g v.data_files }) old.views;
      })
  changed_keeps at g old same = by (cases_eq number at)
    where
      by : (number ≡ at) ⊎ (number ≢ at)
          → KeepsData number name old (record old {
            views = with_view_at at (λ (v : View). record v { data_files = g v.data_files })
                old.views;
          })
      by (inr apart) = λ view is. (view, other_at at (redone g) old (redone_leaves g) number apart ∙ is, refl)
      by (inl own) = λ view is. (
        cond (eqb view.number at) (record view { data_files = g view.data_files }) view,
        changed_at at (redone g) old (redone_leaves g) number view is,
        left (eqb view.number at) view,
      )
        where
          left : (b : Bool) (view : View)
              → data_named name (cond b (record view { data_files = g view.data_files }) view).data_files
              ≡ data_named name view.data_files
          left true view = same own view.data_files
          left false view = refl

  put_keeps : (lease : ℕ) (other bytes : List ℕ) (old : Session) (reply : Reply) (new : Session)
      → PutEffect lease other bytes old reply new
      → ((other ≡ name) × IsOn number lease old.store → ⊥)
      → KeepsData number name old.store new.store
  put_keeps lease other bytes old reply new done none =
      let file : DataFile = record { name = other; bytes = bytes } in
      subst (λ (s : Session). KeepsData number name old.store s.store) (sym done.is)
      (changed_keeps done.view.number (λ files. with_named data_name file files) old.store
      (λ own files. named-with_other data_name file name
      (λ e. none (
        e,
        subst (λ (n : ℕ). IsOn n lease old.store) (sym own)
            (is_on lease old.store done.view done.leased),
      )) files))

  remove_keeps : (lease : ℕ) (other : List ℕ) (old : Session) (reply : Reply) (new : Session)
      → RemoveEffect lease other old reply new
      → ((other ≡ name) × IsOn number lease old.store → ⊥)
      → KeepsData number name old.store new.store
  remove_keeps lease other old reply new done none =
      subst (λ (s : Session). KeepsData number name old.store s.store) (sym done.is)
      (changed_keeps done.view.number (λ files. without_named data_name other files) old.store
      (λ own files. named-without_other data_name other name
      (λ e. none (
        sym e,
        subst (λ (n : ℕ). IsOn n lease old.store) (sym own)
            (is_on lease old.store done.view done.leased),
      )) files))

  install_keeps : (url : List ℕ) (heard : List (List ℕ)) (now : ℕ) (old : Session) (reply : Reply)
      (new : Session) → InstallEffect url heard now old reply new
      → KeepsData number name old.store new.store
  install_keeps url heard now old reply new done =
      λ view is. (
        view,
        ap (λ (s : Session). view_at number s.store.views) done.is
            ∙ ap (λ (s : Store). view_at number s.views) done.installed.is
            ∙ find-front (λ (v : View). eqb v.number number) old.store.views
            (new_view old.store.next_view done.base done.deployment done.application done.files
            done.installed.data_files ∷ []) view is,
        refl,
      )

  group_keeps : (lease : ℕ) (group : List ℕ) (old : Session) (reply : Reply) (new : Session)
      → GroupEffect lease group old reply new → KeepsData number name old.store new.store
  group_keeps lease group old reply new done =
      subst (λ (s : Session). KeepsData number name old.store s.store) (sym done.is) (by done.comes)
    where
      by : ((group_stands group done.view.groups ≡ true) × (done.store ≡ old.store))
          ⊎ ((group_stands group done.view.groups ≡ false)
          × Grouped group done.view old.store done.store)
          → KeepsData number name old.store done.store
      by (inl same) =
          same_views old.store done.store (ap (λ (s : Store). s.views) same.1)
      by (inr comes) =
          let grown = comes.1 in
          subst (λ (s : Store). KeepsData number name old.store s) (sym grown.is) (λ view is. (
            cond (eqb view.number done.view.number)
                (record view { groups = view.groups ++ group ∷ []; program_files = grown.program_files })
                view,
            grouped_at done.view.number group grown.program_files old.store number view is,
            left_of done.view.number (with_group group grown.program_files) old.store
                (λ (v : View). data_named name v.data_files) (λ v. refl) view,
          ))

  clean_keeps : (old : Store) → IsInUse number old.apps old.leases
      → KeepsData number name old (cleaned old)
  clean_keeps old used = λ view found. (view, used_at old number used ∙ found, refl)

  -- the view is kept, or the event does not take it
  abbrev IsLeft : Store → Event → Option Reply → Store → Type 0
  IsLeft old event reply new =
      IsSome (view_at number new.views) ⊎ (TakesView number old event reply → ⊥)

  left_used : (at : ℕ) (given : Heard) (reply : Reply) (old : Store)
      → IsLeft old (Line Clean at given) (Some reply) (cleaned old)
      → IsInUse number old.apps old.leases
  left_used at given reply old (inl kept) = kept_used old number kept
  left_used at given reply old (inr takes) = by (is_in_use number old.apps old.leases) refl
    where
      by : (b : Bool) → is_in_use number old.apps old.leases ≡ b
          → IsInUse number old.apps old.leases
      by true is = used_is number old.apps old.leases is
      by false not_so = absurd (takes (λ is.
          false≢true (sym not_so ∙ is_used number old.apps old.leases is)))

  -- ---- each command

  effect_keeps : (now : ℕ) (heard : List (List ℕ)) (command : Command) (at : ℕ) (given : Heard)
      (old : Session) (reply : Reply) (new : Session) → effect now heard command old reply new
      → (ChangesData number name old.store (Line command at given) (Some reply) → ⊥)
      → IsLeft old.store (Line command at given) (Some reply) new.store
      → KeepsData number name old.store new.store
  effect_keeps now heard (At next) at given old reply new done none left =
      same_views old.store new.store (ap (λ (s : Session). s.store.views) done.1)
  effect_keeps now heard (Require key version) at given old reply new done none left =
      same_views old.store new.store (ap (λ (s : Session). s.store.views) done.1)
  effect_keeps now heard (Install url) at given old reply new done none left =
      install_keeps url heard now old reply new done
  effect_keeps now heard (Check key) at given old reply new done none left =
      same_views old.store new.store (ap (λ (s : Session). s.store.views) done.is)
  effect_keeps now heard (Skip key) at given old reply new done none left =
      same_views old.store new.store (ap (λ (s : Session). s.store.views) done.is)
  effect_keeps now heard (Rollback key) at given old reply new done none left =
      same_views old.store new.store (ap (λ (s : Session). s.store.views) done.is)
  effect_keeps now heard (Launch key) at given old reply new done none left =
      same_views old.store new.store (ap (λ (s : Session). s.store.views) done.is)
  effect_keeps now heard (Read lease file from count) at given old reply new done none left =
      same_views old.store new.store (ap (λ (s : Session). s.store.views) done.is)
  effect_keeps now heard (Local lease file from count) at given old reply new done none left =
      same_views old.store new.store (ap (λ (s : Session). s.store.views) done.is)
  effect_keeps now heard (Put lease file bytes) at given old reply new done none left =
      put_keeps lease file bytes old reply new done
      (subst (λ (r : Reply). ChangesData number name old.store
      (Line (Put lease file bytes) at given) (Some r) → ⊥) done.replied none)
  effect_keeps now heard (Remove lease file) at given old reply new done none left =
      remove_keeps lease file old reply new done
      (subst (λ (r : Reply). ChangesData number name old.store
      (Line (Remove lease file) at given) (Some r) → ⊥) done.replied none)
  effect_keeps now heard (Group lease group) at given old reply new done none left =
      group_keeps lease group old reply new done
  effect_keeps now heard (Finish lease) at given old reply new done none left =
      same_views old.store new.store (ap (λ (s : Session). s.store.views) done.1)
  effect_keeps now heard Clean at given old reply new done none left =
      subst (λ (s : Session). KeepsData number name old.store s.store) (sym done.1)
      (clean_keeps old.store (left_used at given reply old.store
      (subst (λ (s : Session). IsLeft old.store (Line Clean at given) (Some reply) s.store) done.1
      left)))
  effect_keeps now heard asks.List at given old reply new done none left =
      same_views old.store new.store (ap (λ (s : Session). s.store.views) done.1)
  effect_keeps now heard (Show key) at given old reply new done none left =
      same_views old.store new.store (ap (λ (s : Session). s.store.views) done.is)

  step_keeps : (now : ℕ) (old : Session) (event : Event) (reply : Option Reply) (new : Session)
      → Step now old event reply new → (ChangesData number name old.store event reply → ⊥)
      → IsLeft old.store event reply new.store → KeepsData number name old.store new.store
  step_keeps now old (Boot boot) reply new step none left =
      same_views old.store new.store (ap (λ (s : Session). s.store.views) step.1)
  step_keeps now old (Line command at heard) reply new step none left =
      by (kept_or_effect now heard.texts old command step.answer new step.answers)
    where
      by : Kept command old step.answer new
          ⊎ (PassesAll (refusals now heard.texts (shape_of old) command)
          × effect now heard.texts command old step.answer new)
          → KeepsData number name old.store new.store
      by (inl kept) = same_views old.store new.store kept.views
      by (inr done) =
          effect_keeps now heard.texts command at heard old step.answer new done.1
          (subst (λ (r : Option Reply). ChangesData number name old.store (Line command at heard) r
          → ⊥) step.replied none)
          (subst (λ (r : Option Reply). IsLeft old.store (Line command at heard) r new.store)
          step.replied left)
  step_keeps now old (Unread fault) reply new step none left =
      same_views old.store new.store (ap (λ (s : Session). s.store.views) step.1)

  -- ---- a run

  run_keeps : (now : ℕ) (old : Session) (events : List Event) (replies : List (Option Reply))
      (new : Session) (run : Run now old events replies new)
      → NoneChangesData number name now old events replies new run
      → NoneTakesView number now old events replies new run
      → KeepsData number name old.store new.store
  run_keeps now old [] [] new run none takes =
      same_views old.store new.store (ap (λ (s : Session). s.store.views) run)
  run_keeps now old [] (reply ∷ replies) new run none takes = absurd run
  run_keeps now old (event ∷ events) [] new run none takes = absurd run
  run_keeps now old (event ∷ events) (reply ∷ replies) new run none takes =
      chain old.store run.0.store new.store
      (step_keeps now old event reply run.0 run.1 none.0 (inr takes.0))
      (run_keeps (moment_after now reply) run.0 events replies new run.2 none.1 takes.1)

  -- where the view is kept after it, it is kept all along
  run_kept : (now : ℕ) (old : Session) (events : List Event) (replies : List (Option Reply))
      (new : Session) (run : Run now old events replies new) → number < old.store.next_view
      → IsSome (view_at number new.store.views)
      → NoneChangesData number name now old events replies new run
      → KeepsData number name old.store new.store
  run_kept now old [] [] new run given kept none =
      same_views old.store new.store (ap (λ (s : Session). s.store.views) run)
  run_kept now old [] (reply ∷ replies) new run given kept none = absurd run
  run_kept now old (event ∷ events) [] new run given kept none = absurd run
  run_kept now old (event ∷ events) (reply ∷ replies) new run given kept none =
      let numbers = step_numbers now old event reply run.0 run.1 in
      let later : number < run.0.store.next_view = omega (arith, given, numbers.next) in
      let last = value_of (view_at number new.store.views) kept in
      let mid = run_numbers (moment_after now reply) run.0 events replies new number last.0 run.2
      later last.1 in
      chain old.store run.0.store new.store
      (step_keeps now old event reply run.0 run.1 none.0
      (inl (some_there (view_at number run.0.store.views) mid.0 mid.1)))
      (run_kept (moment_after now reply) run.0 events replies new run.2 later kept none.1)

-- what a view that keeps it has under the name
same_data : (number : ℕ) (name : List ℕ) (old new : Store) → KeepsData number name old new
    → IsSome (view_at number old.views) → data_at number name new ≡ data_at number name old
same_data number name old new keeps is =
    let view = value_of (view_at number old.views) is in
    let kept = keeps view.0 view.1 in
    ap (λ (o : Option View). option_and_then (λ (v : View). data_named name v.data_files) o) kept.1
    ∙ kept.2
    ∙ sym (ap (λ (o : Option View). option_and_then (λ (v : View). data_named name v.data_files) o)
    view.1)

pub data_stays : (number : ℕ) (name : List ℕ) (now : ℕ) (old : Session) (events : List Event)
    (replies : List (Option Reply)) (new : Session) (run : Run now old events replies new)
    → IsSome (view_at number old.store.views)
    → NoneChangesData number name now old events replies new run
    → NoneTakesView number now old events replies new run
    → data_at number name new.store ≡ data_at number name old.store
data_stays number name now old events replies new run is none takes =
    same_data number name old.store new.store
    (run_keeps number name now old events replies new run none takes) is

pub kept_data_stays : (number : ℕ) (name : List ℕ) (now : ℕ) (old : Session)
    (events : List Event) (replies : List (Option Reply)) (new : Session)
    (run : Run now old events replies new)
    → Valid old.store → IsSome (view_at number old.store.views)
    → IsSome (view_at number new.store.views)
    → NoneChangesData number name now old events replies new run
    → data_at number name new.store ≡ data_at number name old.store
kept_data_stays number name now old events replies new run valid is kept none =
    same_data number name old.store new.store
    (run_kept number name now old events replies new run (view_below number old.store valid.ordered is)
    kept none) is
