-- A group that was answered stands from then on.
use Rattle.std.proofs.Common.{◌≡◌, ◌∙◌, ◌⊎◌, ◌++◌, ◌&&◌, inl, inr, refl, sym, ap, subst, ℕ, Bool, true, false, cond, not, List, [], ◌∷◌, length, map, Contains, Option, Some, None, bytes_eq}
use Rattle.std.specs.Prelude.{option_and_then}
use Rattle.std.specs.List.{list_any}
use Rattle.std.proofs.lemmas.Bool.{and_from, and_parts, eq-eqb, false≢true}
use Rattle.std.proofs.lemmas.Slice.Eq.{bytes_eq-Decides}
use Rattle.causes.specs.declared.cause.Cause.{Cause}
use Rattle.small_types.specs.declared.target.Target.{Target}
use Rattle.manifests.specs.declared.facts.Application.{Application}
use Rattle.manifests.specs.declared.facts.FileEntry.{FileEntry}
use Rattle.manifests.specs.FileLists.{NamesDiffer}
use Rattle.machine.specs.declared.command.Command.TheVariants.{Group}
use Rattle.machine.specs.declared.lease.Lease.{Lease}
use Rattle.machine.specs.declared.reply.Reply.{Reply}
use Rattle.machine.specs.declared.reply.Reply.TheVariants as says
use Rattle.machine.specs.Current.{view_at}
use Rattle.machine.specs.GroupLaws.{IsStanding}
use Rattle.machine.specs.GroupRow.{GroupEffect, group_refusals}
use Rattle.machine.specs.Grouped.{Grouped, grouped, with_group}
use Rattle.machine.specs.Groups.{group_files, group_stands, is_group, is_in}
use Rattle.machine.specs.Leases.{leased_view}
use Rattle.machine.specs.Machine.{Answers}
use Rattle.machine.specs.ReadRow.{file_named}
use Rattle.machine.specs.Shape.{Shape, shape_of}
use Rattle.machine.specs.Store.{Session, Store}
use Rattle.machine.specs.Valid.{IsView, Valid}
use Rattle.machine.specs.Views.{ListedFile, View, standing_entries, stands_by}
use Rattle.machine.proofs.FirstRefusal.{AllGive, given_reply}
use Rattle.machine.proofs.GroupKept.{grouped_at, only_named, standing_differ}
use Rattle.machine.proofs.Leased.{leased_by, leased_valid, view_in}
use Rattle.machine.proofs.Members.{In, filter_in, in_contains, in_filter, in_right, map_in}
use Rattle.machine.proofs.OwnContents.{in_passes}

-- ---- one reply

group_number : (a b : ℕ) → says.Group a ≡ says.Group b → a ≡ b
group_number a b e = cc

pub group_one : (lease : ℕ) (group : List ℕ) (old : Session) (a b : Reply) (x y : Session)
    → GroupEffect lease group old a x → GroupEffect lease group old b y → a ≡ b
group_one lease group old a b x y first second =
    first.replied
    ∙ ap (λ (v : View). says.Group (length (group_files group v.application)))
    (same_view first.view second.view (sym first.leased ∙ second.leased))
    ∙ sym second.replied
  where
    same_view : (v w : View) → ◌≡◌ {A = Option View} (Some v) (Some w) → v ≡ w
    same_view v w e = cc

-- ---- the view of a lease

-- it is the view of its own number
pub leased_number : (lease : ℕ) (store : Store) (view : View) → leased_view lease store ≡ Some view
    → view_at view.number store.views ≡ Some view
leased_number lease store view is =
    let by = leased_by lease store view is in
    let known = view_in by.0.view store.views view by.2 in
    ap (λ (n : ℕ). view_at n store.views) known.1 ∙ by.2

-- ---- the files of a group that stands

stands_of : (groups : List (List ℕ)) (group : List ℕ) (own : Option (List ℕ))
    → group_stands group groups ≡ true → is_group group own ≡ true → stands_by groups own ≡ true
stands_of groups group None stands is = absurd (false≢true is)
stands_of groups group (Some g) stands is =
    ap (λ (x : List ℕ). list_any (bytes_eq x) groups) ((bytes_eq-Decides g group).0 is) ∙ stands

pub stands_each : (groups : List (List ℕ)) (group : List ℕ) (a : Application)
    (program_files : List ListedFile) → group_stands group groups ≡ true
    → map (λ (file : ListedFile). file.entry) program_files ≡ standing_entries groups a
    → NamesDiffer a.files → (entry : FileEntry) → Contains (group_files group a) entry
    → (bytes : List ℕ)
    × (file_named entry.name program_files ≡ Some (record { entry = entry; bytes = bytes }))
stands_each groups group a program_files stands order differ entry there =
    let found = filter_in (is_in group) a.files entry
    (in_contains (group_files group a) entry there) in
    let parts = and_parts (not entry.local) (is_group group entry.group) found.0 in
    let standing = in_filter (λ (e : FileEntry). not e.local && stands_by groups e.group) a.files
    entry (and_from (not entry.local) (stands_by groups entry.group) parts.0
    (stands_of groups group entry.group stands parts.1)) found.1 in
    let from = map_in (λ (file : ListedFile). file.entry) program_files entry
    (subst (λ (es : List FileEntry). In entry es) (sym order) standing) in
    let named = only_named program_files (standing_entries groups a) order
    (standing_differ groups a.files differ) entry.name from.0 from.1
    ((bytes_eq-Decides from.0.entry.name entry.name).1 (ap (λ (e : FileEntry). e.name) from.2)) in (
      from.0.bytes,
      named ∙ ap (λ (e : FileEntry). Some (record { entry = e; bytes = from.0.bytes })) from.2,
    )

pub now_stands : (groups : List (List ℕ)) (group : List ℕ)
    → group_stands group (groups ++ group ∷ []) ≡ true
now_stands groups group =
    in_passes (bytes_eq group) (groups ++ group ∷ []) group
    (in_right groups (group ∷ []) group (inl refl)) ((bytes_eq-Decides group group).1 refl)

-- ---- an answer that is a number of files

abbrev IsNoGroup : Reply → Type 0
IsNoGroup reply = (files : ℕ) → ¬ (reply ≡ says.Group files)

module _ (files : ℕ) where
  memory_apart : says.Memory ≡ says.Group files → ⊥
  memory_apart e = cc

  no_lease_apart : says.NoLease ≡ says.Group files → ⊥
  no_lease_apart e = cc

  no_group_apart : says.NoGroup ≡ says.Group files → ⊥
  no_group_apart e = cc

  bad_url_apart : says.BadUrl ≡ says.Group files → ⊥
  bad_url_apart e = cc

  full_apart : (need free : ℕ) → says.Full need free ≡ says.Group files → ⊥
  full_apart need free e = cc

  table_full_apart : (weight room : ℕ) → says.TableFull weight room ≡ says.Group files → ⊥
  table_full_apart weight room e = cc

  links_apart : (target : Target) (causes : List Cause)
      → says.AllLinks target causes ≡ says.Group files → ⊥
  links_apart target causes e = cc

no_group : (lease : ℕ) (group : List ℕ) (shape : Shape)
    → AllGive IsNoGroup (group_refusals lease group shape)
no_group lease group shape = (
  (λ r given files e. no_lease_apart files (sym given.1 ∙ e)),
  (
    (λ r given files e. no_group_apart files (sym given.1 ∙ e)),
    (
      (λ r given files e. bad_url_apart files (sym given.1 ∙ e)),
      (
        (λ r given files e. full_apart files _ _ (sym given.2 ∙ e)),
        (
          (λ r given files e. table_full_apart files _ _ (sym given.2 ∙ e)),
          ((λ r given files e. links_apart files _ _ (sym given.3 ∙ e)), tt),
        ),
      ),
    ),
  ),
)

group_done : (now : ℕ) (heard : List (List ℕ)) (old : Session) (lease : ℕ) (group : List ℕ)
    (files : ℕ) (new : Session) → Answers now heard old (Group lease group) (says.Group files) new
    → GroupEffect lease group old (says.Group files) new
group_done now heard old lease group files new (inl (inl memory)) =
    absurd (memory_apart files (sym memory.0))
group_done now heard old lease group files new (inl (inr refused)) =
    absurd (given_reply IsNoGroup (group_refusals lease group (shape_of old)) old
    (says.Group files) new (no_group lease group (shape_of old)) refused.1 files refl)
group_done now heard old lease group files new (inr done) = done.1

-- ---- it stands

module _ (lease : ℕ) (group : List ℕ) (old : Store) (view : View)
    (leased : leased_view lease old ≡ Some view) (is : IsView view) where
  stands_still : group_stands group view.groups ≡ true
      → IsStanding lease group (length (group_files group view.application)) old
  stands_still stands = record {
    view = view;
    leased = leased;
    stands = stands;
    count = refl;
    each = stands_each view.groups group view.application view.program_files stands is.files
        is.application.facts.files.differ;
  }

  leased_then : (new : Store) (grown : Grouped group view old new)
      → leased_view lease new ≡ Some (with_group group grown.program_files view)
  leased_then new grown =
      let by = leased_by lease old view leased in
      let known = view_in by.0.view old.views view by.2 in
      ap (λ (s : Store). leased_view lease s) grown.is
      ∙ ap (λ (o : Option Lease). option_and_then
      (λ (l : Lease). view_at l.view (grouped view.number group grown.program_files old).views) o)
      by.1
      ∙ grouped_at view.number group grown.program_files old by.0.view view by.2
      ∙ ap (λ (b : Bool). Some (cond b (with_group group grown.program_files view) view))
      (eq-eqb view.number view.number refl)

  stands_new : (new : Store) → Grouped group view old new
      → IsStanding lease group (length (group_files group view.application)) new
  stands_new new grown = record {
    view = with_group group grown.program_files view;
    leased = leased_then new grown;
    stands = now_stands view.groups group;
    count = refl;
    each = stands_each (view.groups ++ group ∷ []) group view.application grown.program_files
        (now_stands view.groups group) grown.among.order is.application.facts.files.differ;
  }

pub group_answered : (now : ℕ) (heard : List (List ℕ)) (old : Session) (lease : ℕ)
    (group : List ℕ) (files : ℕ) (new : Session) → Valid old.store
    → Answers now heard old (Group lease group) (says.Group files) new
    → IsStanding lease group files new.store
group_answered now heard old lease group files new valid answers =
    let done = group_done now heard old lease group files new answers in
    let count = group_number files (length (group_files group done.view.application)) done.replied in
    let is = leased_valid lease old.store done.view valid.ordered done.leased in
    subst (λ (s : Session). IsStanding lease group files s.store) (sym done.is)
    (subst (λ (n : ℕ). IsStanding lease group n done.store) (sym count) (by done is done.comes))
  where
    by : (done : GroupEffect lease group old (says.Group files) new) → IsView done.view
        → ((group_stands group done.view.groups ≡ true) × (done.store ≡ old.store))
        ⊎ ((group_stands group done.view.groups ≡ false)
        × Grouped group done.view old.store done.store)
        → IsStanding lease group (length (group_files group done.view.application)) done.store
    by done is (inl same) =
        subst (λ (s : Store). IsStanding lease group
        (length (group_files group done.view.application)) s) (sym same.1)
        (stands_still lease group old.store done.view done.leased is same.0)
    by done is (inr comes) =
        stands_new lease group old.store done.view done.leased is done.store comes.1
