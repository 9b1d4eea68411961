-- What launches hand out, and what is read on a lease.
use Rattle.std.proofs.Common.{◌≡◌, ◌∙◌, ◌<◌, inl, inr, refl, sym, ap, subst, ℕ, Bool, List, length, Option, Some, None}
use Rattle.std.specs.Prelude.{IfSome, IsSome, IsSomeAnd, option_and_then}
use Rattle.std.specs.Ordering.{is_lt}
use Rattle.std.proofs.lemmas.Bool.{cond-true}
use Rattle.std.proofs.lemmas.Option.{none-some, same_Some}
use Rattle.small_types.specs.declared.limits.TheConstants.{LEASE_LIMIT, NUMBER_LIMIT}
use Rattle.identity.specs.declared.key.Key.{Key}
use Rattle.identity.specs.declared.version.Version.{Version}
use Rattle.identity.specs.Version.{IsBelow, version_cmp}
use Rattle.identity.proofs.VersionLemmas.{cmp_from_IsBelow}
use Rattle.machine.specs.declared.app.AppState.{AppState}
use Rattle.machine.specs.declared.command.Command.TheVariants.{Launch, Read}
use Rattle.machine.specs.declared.due.Due.TheVariants as found
use Rattle.machine.specs.declared.event.Event.{Event}
use Rattle.machine.specs.declared.lease.Lease.{Lease}
use Rattle.machine.specs.declared.reply.Reply.{Reply}
use Rattle.machine.specs.declared.reply.Reply.TheVariants as says
use Rattle.machine.specs.Current.{view_at}
use Rattle.machine.specs.Due.{check_due, due, due_of, first_due, offered_to, required_by}
use Rattle.machine.specs.Installed.{above}
use Rattle.machine.specs.LaunchRow.{LaunchEffect, launch_refusals}
use Rattle.machine.specs.LeaseLaws.{IsLaunched, IsLeaseOrMemory, IsReadOf, KeepsLeased}
use Rattle.machine.specs.Leases.{lease_of, leased_view}
use Rattle.machine.specs.Machine.{Answers, Run}
use Rattle.machine.specs.Minimums.{minimum_of}
use Rattle.machine.specs.ReadRow.{ReadEffect, file_named, part, read_refusals}
use Rattle.machine.specs.Shape.{Shape, shape_of}
use Rattle.machine.specs.Sound.{IsSoundView, IsWhole, Sound}
use Rattle.machine.specs.Store.{Session, Store}
use Rattle.machine.specs.Valid.{Ordered, Valid}
use Rattle.machine.specs.Views.{ListedFile, View, version_of}
use Rattle.machine.proofs.FirstRefusal.{AllGive, given_reply, none_refuses}
use Rattle.machine.proofs.LaunchFacts.{free_passes, launch_exact}
use Rattle.machine.proofs.Leased.{current_entry, current_number, due_shown, file_in, leased_kept, leased_lives, leased_sound}
use Rattle.machine.proofs.LeaseLists.{lease_new, lease_none}
use Rattle.machine.proofs.LeasesKept.{keeps_leased}
use Rattle.machine.proofs.Members.{all_in}
use Rattle.machine.proofs.RaisedMinimums.{Holds}
use Rattle.machine.proofs.HeldMinimums.{not_below_chain, run_holds}
use Rattle.machine.proofs.KeptSteps.{run_leases}

-- ---- an answer that is a lease

-- the reply is none
abbrev IsNoLease : Reply → Type 0
IsNoLease reply =
    (lease : ℕ) (version : Version) (check_due : Bool)
    → ¬ (reply ≡ says.Lease lease version check_due)

module _ (lease : ℕ) (version : Version) (check_due : Bool) where
  memory_apart : says.Memory ≡ says.Lease lease version check_due → ⊥
  memory_apart e = cc

  not_installed_apart : says.NotInstalled ≡ says.Lease lease version check_due → ⊥
  not_installed_apart e = cc

  required_apart : (minimum : Version) → says.Required minimum ≡ says.Lease lease version check_due
      → ⊥
  required_apart minimum e = cc

  check_first_apart : says.CheckFirst ≡ says.Lease lease version check_due → ⊥
  check_first_apart e = cc

  offered_apart : (other : Version) → says.Offered other ≡ says.Lease lease version check_due → ⊥
  offered_apart other e = cc

  full_apart : says.LeasesFull ≡ says.Lease lease version check_due → ⊥
  full_apart e = cc

  spent_apart : (next : ℕ) → says.Spent next ≡ says.Lease lease version check_due → ⊥
  spent_apart next e = cc

  module _ (other : ℕ) (other_version : Version) (other_due : Bool) where
    lease_number : says.Lease lease version check_due ≡ says.Lease other other_version other_due
        → lease ≡ other
    lease_number e = cc

    lease_version : says.Lease lease version check_due ≡ says.Lease other other_version other_due
        → version ≡ other_version
    lease_version e = cc

no_lease : (key : Key) (now : ℕ) (shape : Shape) → AllGive IsNoLease (launch_refusals key now shape)
no_lease key now shape = (
  (λ r given l v c e. not_installed_apart l v c (sym given.1 ∙ e)),
  (
    (λ r given l v c e. required_apart l v c given.0 (sym given.2 ∙ e)),
    (
      (λ r given l v c e. check_first_apart l v c (sym given.1 ∙ e)),
      (
        (λ r given l v c e. offered_apart l v c given.0 (sym given.2 ∙ e)),
        (
          (λ r given l v c e. full_apart l v c (sym given.1 ∙ e)),
          ((λ r given l v c e. spent_apart l v c shape.next_lease (sym given.1 ∙ e)), tt),
        ),
      ),
    ),
  ),
)

launch_done : (now : ℕ) (heard : List (List ℕ)) (old : Session) (key : Key) (lease : ℕ)
    (version : Version)
    (check_due : Bool) (new : Session)
    → Answers now heard old (Launch key) (says.Lease lease version check_due) new
    → LaunchEffect key now old (says.Lease lease version check_due) new
launch_done now heard old key lease version check_due new (inl (inl memory)) =
    absurd (memory_apart lease version check_due (sym memory.0))
launch_done now heard old key lease version check_due new (inl (inr refused)) =
    absurd (given_reply IsNoLease (launch_refusals key now (shape_of old)) old
    (says.Lease lease version check_due) new (no_lease key now (shape_of old)) refused.1
    lease version check_due refl)
launch_done now heard old key lease version check_due new (inr done) = done.1

-- ---- the version

first_clear : (required offer : Option Version) (first time c : Bool)
    → first_due required first offer time ≡ found.Clear c → required ≡ None
first_clear None offer first time c is = refl
first_clear (Some minimum) offer first time c is = absurd (apart minimum c is)
  where
    apart : (minimum : Version) (c : Bool) → found.Required minimum ≡ found.Clear c → ⊥
    apart minimum c e = cc

above_none : (version : Version) (minimum : Option Version) → above version minimum ≡ None
    → IfSome minimum (λ m. ¬ IsBelow version m)
above_none version None is = tt
above_none version (Some minimum) is = λ below. none-some minimum
    (sym is ∙ cond-true (is_lt (version_cmp version minimum)) (Some minimum) None
    (cmp_from_IsBelow version minimum below))

module _ (key : Key) (now : ℕ) (old : Session) (reply : Reply) (new : Session)
    (done : LaunchEffect key now old reply new) where
  -- it is not below the minimum of the application
  launch_minimum : IfSome (minimum_of key old.store.apps)
      (λ minimum. ¬ IsBelow (version_of done.view) minimum)
  launch_minimum =
      let app = current_entry key old.store done.view done.current in
      let clear : due_of (version_of done.view) done.view.deployment.rule app.0 now
      ≡ found.Clear done.check_due =
      same_Some (due_of (version_of done.view) done.view.deployment.rule app.0 now)
      (found.Clear done.check_due)
      (sym (due_shown key now old.store app.0 done.view app.1 done.current) ∙ done.clear) in
      let none = first_clear (required_by (version_of done.view) app.0)
      (offered_to (version_of done.view) app.0)
      _ _ done.check_due clear in
      subst (λ (o : Option AppState). IfSome (option_and_then (λ (a : AppState). a.minimum) o)
      (λ minimum. ¬ IsBelow (version_of done.view) minimum))
      (sym app.1) (above_none (version_of done.view) app.0.minimum none)

  -- the new lease is on the view
  launch_leased : Ordered old.store → leased_view old.store.next_lease new.store ≡ Some done.view
  launch_leased was =
      ap (λ (s : Session). leased_view old.store.next_lease s.store) done.is
      ∙ ap (λ (o : Option Lease). option_and_then (λ (l : Lease). view_at l.view old.store.views) o)
      (lease_new old.store.next_lease done.view.number old.store.leases was.lease_numbers.below)
      ∙ current_number key old.store done.view done.current

pub launch_is : (now : ℕ) (heard : List (List ℕ)) (old : Session) (key : Key) (lease : ℕ)
    (version : Version)
    (check_due : Bool) (new : Session)
    → Sound old.store → Answers now heard old (Launch key) (says.Lease lease version check_due) new
    → IsLaunched key lease version old.store new.store
launch_is now heard old key lease version check_due new sound answers =
    let reply = says.Lease lease version check_due in
    let done = launch_done now heard old key lease version check_due new answers in
    let was = sound.valid.ordered in
    let number = lease_number lease version check_due old.store.next_lease (version_of done.view)
    done.check_due done.replied in
    let same = lease_version lease version check_due old.store.next_lease (version_of done.view)
    done.check_due done.replied in
    record {
      view = done.view;
      current = done.current;
      sound = all_in IsSoundView old.store.views done.view sound.views
          (current_entry key old.store done.view done.current).3;
      shown = sym same;
      minimum = subst
          (λ (v : Version). IfSome (minimum_of key old.store.apps) (λ minimum. ¬ IsBelow v minimum))
          (sym same)
          (launch_minimum key now old reply new done);
      fresh = ap (λ (n : ℕ). lease_of n old.store.leases) number
          ∙ lease_none old.store.next_lease old.store.leases was.lease_numbers.below;
      leased = ap (λ (n : ℕ). leased_view n new.store) number
          ∙ launch_leased key now old reply new done was;
    }

-- nor below any that it had before
pub launch_reaches : (now : ℕ) (old : Session) (events : List Event) (replies : List (Option Reply))
    (mid : Session) (at : ℕ) (heard : List (List ℕ)) (key : Key) (minimum : Version) (lease : ℕ)
    (version : Version) (check_due : Bool) (new : Session)
    → Run now old events replies mid → minimum_of key old.store.apps ≡ Some minimum
    → Answers at heard mid (Launch key) (says.Lease lease version check_due) new
    → ¬ IsBelow version minimum
launch_reaches now old events replies mid at heard key minimum lease version check_due new run is
    answers =
    let reply = says.Lease lease version check_due in
    let done = launch_done at heard mid key lease version check_due new answers in
    let same = lease_version lease version check_due mid.store.next_lease (version_of done.view)
    done.check_due done.replied in
    subst (λ (v : Version). ¬ IsBelow v minimum) (sym same)
    (reached (version_of done.view) minimum (minimum_of key mid.store.apps)
    (run_holds now old events replies mid key minimum run is)
    (launch_minimum key at mid reply new done))
  where
    reached : (version minimum : Version) (later : Option Version) → Holds minimum later
        → IfSome later (λ m. ¬ IsBelow version m) → ¬ IsBelow version minimum
    reached version minimum None held other = absurd held
    reached version minimum (Some m) held other = not_below_chain minimum m version held other

-- ---- where a lease is free

pub launch_granted : (now : ℕ) (heard : List (List ℕ)) (old : Session) (key : Key)
    (check_due : Bool)
    (reply : Reply) (new : Session)
    → due key (shape_of old) now ≡ Some (found.Clear check_due)
    → length old.store.leases < LEASE_LIMIT → old.store.next_lease < NUMBER_LIMIT
    → Answers now heard old (Launch key) reply new → IsLeaseOrMemory reply
launch_granted now heard old key check_due reply new is few left (inl (inl memory)) = inr memory.0
launch_granted now heard old key check_due reply new is few left (inl (inr refused)) =
    absurd (none_refuses (launch_refusals key now (shape_of old)) old reply new
    (launch_exact key now (shape_of old))
    (free_passes key now (shape_of old) check_due is few left)
    refused.1)
launch_granted now heard old key check_due reply new is few left (inr done) =
    inl (old.store.next_lease, version_of done.1.view, done.1.check_due, done.1.replied)

-- ---- a leased view

pub lease_is_sound : (store : Store) (number : ℕ) → Sound store
    → IsSome (lease_of number store.leases)
    → IsSomeAnd (leased_view number store) IsSoundView
lease_is_sound store number sound lives =
    let kept = leased_kept number store sound.valid.ordered lives in
    subst (λ (o : Option View). IsSomeAnd o IsSoundView) (sym kept.1)
    (leased_sound number store kept.0 sound kept.1)

-- ---- an answer that is a part of a file

abbrev IsNoRead : Reply → Type 0
IsNoRead reply = (shown : ℕ) (bytes : List ℕ) → ¬ (reply ≡ says.Read shown bytes)

module _ (shown : ℕ) (bytes : List ℕ) where
  memory_unread : says.Memory ≡ says.Read shown bytes → ⊥
  memory_unread e = cc

  no_lease_unread : says.NoLease ≡ says.Read shown bytes → ⊥
  no_lease_unread e = cc

  no_file_unread : says.NoFile ≡ says.Read shown bytes → ⊥
  no_file_unread e = cc

  read_size : (other : ℕ) (others : List ℕ) → says.Read shown bytes ≡ says.Read other others
      → shown ≡ other
  read_size other others e = cc

  read_bytes : (other : ℕ) (others : List ℕ) → says.Read shown bytes ≡ says.Read other others
      → bytes ≡ others
  read_bytes other others e = cc

no_read : (lease : ℕ) (name : List ℕ) (shape : Shape)
    → AllGive IsNoRead (read_refusals lease name shape)
no_read lease name shape = (
  (λ r given shown bytes e. no_lease_unread shown bytes (sym given.1 ∙ e)),
  ((λ r given shown bytes e. no_file_unread shown bytes (sym given.1 ∙ e)), tt),
)

read_done : (now : ℕ) (heard : List (List ℕ)) (old : Session) (lease : ℕ) (name : List ℕ)
    (from count shown : ℕ)
    (bytes : List ℕ) (new : Session)
    → Answers now heard old (Read lease name from count) (says.Read shown bytes) new
    → ReadEffect lease name from count old (says.Read shown bytes) new
read_done now heard old lease name from count shown bytes new (inl (inl memory)) =
    absurd (memory_unread shown bytes (sym memory.0))
read_done now heard old lease name from count shown bytes new (inl (inr refused)) =
    absurd (given_reply IsNoRead (read_refusals lease name (shape_of old)) old
    (says.Read shown bytes) new
    (no_read lease name (shape_of old)) refused.1 shown bytes refl)
read_done now heard old lease name from count shown bytes new (inr done) = done.1

pub read_is : (now : ℕ) (heard : List (List ℕ)) (old : Session) (lease : ℕ) (name : List ℕ)
    (from count shown : ℕ)
    (bytes : List ℕ) (new : Session) → Sound old.store
    → Answers now heard old (Read lease name from count) (says.Read shown bytes) new
    → IsReadOf lease name from count shown bytes old.store
read_is now heard old lease name from count shown bytes new sound answers =
    let done = read_done now heard old lease name from count shown bytes new answers in
    let view = leased_sound lease old.store done.view sound done.leased in
    record {
      view = done.view;
      leased = done.leased;
      file = done.file;
      found = done.found;
      whole = all_in IsWhole done.view.program_files done.file view.whole
          (file_in name done.view.program_files done.file done.found).0;
      size = read_size shown bytes (length done.file.bytes) (part from count done.file.bytes)
          done.replied;
      is_part = read_bytes shown bytes (length done.file.bytes) (part from count done.file.bytes)
          done.replied;
    }

-- a file that is found in a leased view is found there later
file_stays : (lease : ℕ) (name : List ℕ) (old new : Store) (view later : View) (file : ListedFile)
    → KeepsLeased lease old new → leased_view lease old ≡ Some view
    → leased_view lease new ≡ Some later → file_named name view.program_files ≡ Some file
    → file_named name later.program_files ≡ Some file
file_stays lease name old new view later file kept before after found =
    let was : kept.view ≡ view = same_Some kept.view view (sym kept.before ∙ before) in
    let is : kept.later ≡ later = same_Some kept.later later (sym kept.after ∙ after) in
    ap (λ (v : View). file_named name v.program_files) (sym is)
    ∙ kept.files name file (ap (λ (v : View). file_named name v.program_files) was ∙ found)

-- two reads of one name on one lease are of one file
pub reads_agree : (now : ℕ) (old : Session) (events : List Event) (replies : List (Option Reply))
    (new : Session) (lease : ℕ) (name : List ℕ) (from count shown : ℕ) (bytes : List ℕ)
    (later_from later_count later_shown : ℕ) (later_bytes : List ℕ)
    (first : IsReadOf lease name from count shown bytes old.store)
    (later : IsReadOf lease name later_from later_count later_shown later_bytes new.store)
    → Valid old.store → Run now old events replies new → later.file ≡ first.file
reads_agree now old events replies new lease name from count shown bytes later_from later_count
    later_shown later_bytes first later valid run =
    let kept = keeps_leased lease old.store new.store valid.ordered
    (run_leases now old events replies new run)
    (leased_lives lease old.store first.view first.leased)
    (leased_lives lease new.store later.view later.leased) in
    let stays = file_stays lease name old.store new.store first.view later.view first.file kept
    first.leased later.leased first.found in
    same_Some later.file first.file (sym later.found ∙ stays)
