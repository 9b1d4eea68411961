-- A job over the store of the machine's example. Its application is a new one, and shares a program
-- file with kept views; its other files are empty. Between them the application of the example is
-- updated.
use Rattle.std.proofs.Common.{◌≡◌, ◌∙◌, ◌⊎◌, ◌||◌, ◌+◌, ◌<◌, ◌≤◌, inl, inr, refl, sym, ap, subst, ℕ, Bool, true, false, cond, not, List, [], ◌∷◌, length, map, sum_by, All, AllPairs, Contains, Option, Some, None, IsSome, arith}
use Rattle.std.specs.Prelude.{Any, count_by, filter, option_and_then, option_map}
use Rattle.std.specs.declared.cmp.Ordering.{Ordering}
use Rattle.std.specs.declared.cmp.Ordering.TheVariants.{Less, Equal}
use Rattle.std.proofs.lemmas.Cmp.{tied_itself}
use Rattle.std.proofs.lemmas.List.Kept.{AllPairs-cons}
use Rattle.std.proofs.lemmas.Option.{none-some, same_Some}
use Rattle.small_types.specs.declared.limits.TheConstants.{FILE_COUNT_LIMIT, LOCAL_COUNT_LIMIT}
use Rattle.identity.specs.declared.identity.Identity.{Identity}
use Rattle.identity.specs.declared.key.Key.{Key}
use Rattle.identity.specs.Key.{IsKey, IsPart, key_text, part_text}
use Rattle.digest_list.specs.Matches.{IsDigestOf}
use Rattle.manifests.specs.declared.facts.Application.{Application}
use Rattle.manifests.specs.declared.facts.Deployment.{Deployment}
use Rattle.manifests.specs.declared.facts.FileEntry.{FileEntry}
use Rattle.manifests.specs.Applications.{is_below_pre}
use Rattle.manifests.specs.Facts.{IsFile, IsIdentity}
use Rattle.machine.specs.declared.app.AppState.{AppState}
use Rattle.machine.specs.declared.reply.Reply.TheVariants as says
use Rattle.machine.specs.Blocks.{blocks_of, blocks_with, free_blocks, used_blocks}
use Rattle.machine.specs.Current.{bare_data_of, bare_listed_by, bare_view_at, current_bare, current_version, current_view, data_of, listed_by, view_at}
use Rattle.machine.specs.Entries.{entry_at, entry_of, key_cmp}
use Rattle.machine.specs.Fields.{HasEntry, HasIdentity, IsApplication, IsDeployment}
use Rattle.machine.specs.Installed.{AreFetched, installed_app, with_view}
use Rattle.machine.specs.InstallRow.{IsBelowMinimum, IsNotNewer, LacksEntry, files_after, locals_after}
use Rattle.machine.specs.Migrated.{Migrated, migrated_names}
use Rattle.machine.specs.Minimums.{minimum_of}
use Rattle.machine.specs.Rows.{PassesAll}
use Rattle.machine.specs.Shape.{BareData, BareView, Shape, bare_data, bare_view, shape_of}
use Rattle.machine.specs.Sound.{IsSoundView, IsWhole, Sound, program_files_of}
use Rattle.machine.specs.SoundSession.{IsSoundJob, SoundSession, program_files_in}
use Rattle.machine.specs.Store.{Job, Session, Store, session_over}
use Rattle.machine.specs.Views.{ContentKey, DataFile, ListedFile, View, content_key, is_required, same_content}
use Rattle.machine.specs.Wanted.{copied_need, wanted, wanted_beside}
use Rattle.machine.specs.Weight.{IsTooHeavy}
use Rattle.machine.proofs.BroughtFiles.{bare_data_current}
use Rattle.machine.proofs.Contents.{content_decides}
use Rattle.machine.proofs.EntryOrder.{order}
use Rattle.machine.proofs.Example as old
use Rattle.machine.proofs.FoundTexts.{ascii_text}
use Rattle.machine.proofs.ChangedLists.{flat_map_in}
use Rattle.machine.proofs.Members.{In, all_in, filter_in, in_all, in_either}
use Rattle.machine.proofs.OneMigration.{migration}
use Rattle.machine.proofs.Sessions.{begins_sound}
use Rattle.machine.proofs.Update.{made, updated_store}
use Rattle.job_machine.specs.declared.command.JobCommand.TheVariants as calls
use Rattle.job_machine.specs.declared.reply.JobReply.TheVariants as tells
use Rattle.job_machine.specs.BeginRow.{AreHeld, new_job, with_new_job}
use Rattle.job_machine.specs.CommitRow.{CommitEffect, IsWeightOf, commit_refusals}
use Rattle.job_machine.specs.FreeBytes.{Agree, IsFetched, program_files_held}
use Rattle.job_machine.specs.Interleaved.{JobsMayBeInterleaved}
use Rattle.job_machine.specs.Jobs.{BareJob, OfOpen, bare_job, bare_job_at, job_at, job_shape_of, with_job_at, without_job}
use Rattle.job_machine.specs.Needs.{begin_need, commit_need, install_need, uncounted_need}
use Rattle.job_machine.specs.Replies.{OfJob, OfMachine}
use Rattle.job_machine.specs.Sessions.{JobAnswers}
use Rattle.job_machine.specs.Settled.{SoundSessionWithJobs}
use Rattle.job_machine.specs.StepRow.{step_refusals, stepped}
use Rattle.job_machine.proofs.BeginSound.{opened_sound}
use Rattle.job_machine.proofs.BesideSound.{shared_beside}
use Rattle.job_machine.proofs.CommitSound.{left_sound}
use Rattle.job_machine.proofs.OpenJobs.{bare_found}
use Rattle.job_machine.proofs.Rooms.{blocks_more}
use Rattle.job_machine.proofs.SoundParts.{with_store}
use Rattle.job_machine.proofs.SoundSteps as steps
use Rattle.job_machine.proofs.StepSound.{stepped_sound}

-- ---- steps of any job

-- a job that has a file left is not refused
step_passes : (number : ℕ) (s : Session) (job : Job) → job_at number s.jobs ≡ Some job
    → (entry : FileEntry) (rest : List FileEntry) → job.left ≡ entry ∷ rest
    → PassesAll (step_refusals number (job_shape_of s))
step_passes number s job found entry rest first = (known, (open_left, (tt, tt)))
  where
    none : Some (bare_job job) ≡ None → ⊥
    none e = absurd cc

    empty : (left : List FileEntry) → left ≡ entry ∷ rest → left ≡ [] → ⊥
    empty left is e = clash (sym is ∙ e)
      where
        clash : entry ∷ rest ≡ [] → ⊥
        clash e = cc

    known : bare_job_at number (map bare_job s.jobs) ≡ None → ⊥
    known e = none (sym (bare_found number s.jobs job found) ∙ e)

    open_left : OfOpen number (job_shape_of s) (λ j. j.left ≡ []) → ⊥
    open_left open_job =
        let same = same_Some (bare_job job) open_job.0
        (sym (bare_found number s.jobs job found) ∙ open_job.1) in
        empty job.left first (ap (λ (j : BareJob). j.left) same ∙ open_job.2)

-- and is answered with a file that it has left
step_answers : (number : ℕ) (s : Session) (job : Job) → job_at number s.jobs ≡ Some job
    → (entry : FileEntry) (rest : List FileEntry) → job.left ≡ entry ∷ rest → (bytes : List ℕ)
    → IsFetched s (record { entry = entry; bytes = bytes })
    → JobAnswers 0 [] s (calls.Step number) (OfJob (tells.Step number (length rest)))
    (record s { jobs = with_job_at number (stepped entry bytes rest) s.jobs })
step_answers number s job found entry rest first bytes fetched =
    inr (
      (tt, step_passes number s job found entry rest first),
      record {
        job = job;
        found = found;
        entry = entry;
        rest = rest;
        first = first;
        bytes = bytes;
        fetched = fetched;
        is = refl;
        replied = refl;
      },
    )

-- ---- empty files

no_bytes : (bytes : List ℕ) → length bytes ≡ 0 → bytes ≡ []
no_bytes [] is = refl
no_bytes (b ∷ bytes) is = absurd (omega (arith, is))

-- each program file that a sound session holds is whole
held_whole : (s : Session) → SoundSession s → (file : ListedFile) → In file (program_files_held s)
    → IsWhole file
held_whole s sound file there =
    by (in_either (program_files_of s.store) (program_files_in s.jobs) file there)
  where
    by : In file (program_files_of s.store) ⊎ In file (program_files_in s.jobs) → IsWhole file
    by (inl stands) =
        let of = flat_map_in (λ (v : View). v.program_files) s.store.views file stands in
        all_in IsWhole of.0.program_files file
        (all_in IsSoundView s.store.views of.0 sound.store.views of.1).whole of.2
    by (inr has) =
        let of = flat_map_in (λ (j : Job). filter (λ (f : ListedFile). is_required f.entry) j.files)
        s.jobs file has in
        all_in IsWhole of.0.files file (all_in IsSoundJob s.jobs of.0 sound.jobs of.1).whole
        (filter_in (λ (f : ListedFile). is_required f.entry) of.0.files file of.2).1

-- so one of no bytes is like each that is held
empty_fetched : (s : Session) → SoundSession s → (entry : FileEntry) → entry.size ≡ 0
    → IsWhole (record { entry = entry; bytes = [] })
    → IsFetched s (record { entry = entry; bytes = [] })
empty_fetched s sound entry none whole = record {
  whole = whole;
  agrees = λ program. in_all
      (λ (other : ListedFile). content_key other.entry ≡ content_key entry → other.bytes ≡ [])
      (program_files_held s) (λ other there same. no_bytes other.bytes
      ((held_whole s sound other there).sized ∙ ap (λ (k : ContentKey). k.size) same ∙ none));
}

-- ---- the release of the job

abbrev key : Key
key = record old.key { name = old.named 103 }

part : (limit : ℕ) → 1 ≤ limit → IsPart limit (old.named 103)
part limit long = record { nonempty = omega arith; within = long; utf8 = ascii_text (old.named 103) refl }

is_key : IsKey key
is_key = record {
  name = part _ (omega arith);
  token = old.part _ (omega arith);
  language = old.part _ (omega arith);
  architecture = old.part _ (omega arith);
}

abbrev identity : Identity
identity = record { key = key; version = record { a = 1; b = 0; c = 0; d = 0 }; kind = [] }

is_identity : IsIdentity identity
is_identity = record {
  name = old.g_is_value _ (omega arith);
  token = old.a_is_value _ (omega arith);
  language = old.a_is_value _ (omega arith);
  architecture = old.a_is_value _ (omega arith);
  kind = (old.is_identity 1).kind;
}

has_identity : HasIdentity identity
has_identity = record {
  key = is_key;
  version = record { a = omega arith; b = omega arith; c = omega arith; d = omega arith };
  kind = ascii_text [] refl;
}

abbrev d : Deployment
d = record (old.deployment 1) { identity = identity }

is_deployment : IsDeployment d
is_deployment =
    let is = old.is_deployment 1 (omega arith) in
    record {
      facts = record {
        identity = is_identity;
        install = is.facts.install;
        minimum = tt;
        rule = tt;
        provider = tt;
        codebase = is.facts.codebase;
        app = is.facts.app;
        app_size = is.facts.app_size;
        app_list = is.facts.app_list;
      };
      identity = has_identity;
      minimum = tt;
      provider = tt;
      codebase = is.codebase;
      app = is.app;
      app_list = is.app_list;
    }

-- a program file and a data file without bytes
abbrev bare : FileEntry
bare = record {
  name = old.named 98;
  size = 0;
  list = old.digest_of [] ∷ [];
  group = None;
  local = false;
}

abbrev blank : FileEntry
blank = record {
  name = old.named 100;
  size = 0;
  list = old.digest_of [] ∷ [];
  group = None;
  local = true;
}

abbrev entries : List FileEntry
entries = old.program ∷ bare ∷ blank ∷ []

abbrev a : Application
a = record old.application { files = entries }

bare_is_file : IsFile bare
bare_is_file = record {
  above = old.b_is_above;
  short = λ local. omega arith;
  size = omega arith;
  list = old.list_is_sized [];
  group = tt;
  alone = λ local. refl;
}

blank_is_file : IsFile blank
blank_is_file = record {
  above = old.d_is_above;
  short = λ local. omega arith;
  size = omega arith;
  list = old.list_is_sized [];
  group = tt;
  alone = λ local. refl;
}

has_bare : HasEntry bare
has_bare = record {
  name = old.b_is_name;
  list = record { some = omega arith; within = omega arith };
  group = tt;
}

has_blank : HasEntry blank
has_blank = record {
  name = old.d_is_name;
  list = record { some = omega arith; within = omega arith };
  group = tt;
}

names_differ : AllPairs old.NamesApart entries
names_differ =
    AllPairs-cons old.NamesApart old.program (bare ∷ blank ∷ [])
    (old.two (old.NamesApart old.program) bare blank
    (old.numbers_apart 97 98 (λ e. omega (arith, e))) (old.numbers_apart 97 100 (λ e. omega (arith, e))))
    (old.pair old.NamesApart bare blank (old.numbers_apart 98 100 (λ e. omega (arith, e))))

is_application : IsApplication a
is_application =
    let is = old.is_application in
    record {
      facts = record {
        identity = is.facts.identity;
        entry = is.facts.entry;
        parameters = is.facts.parameters;
        files = record { few = omega arith; few_local = omega arith; differ = names_differ };
        each = old.three IsFile old.program bare blank old.program_is_file bare_is_file blank_is_file;
      };
      identity = is.identity;
      entry = is.entry;
      parameters = is.parameters;
      files = old.three HasEntry old.program bare blank old.has_program has_bare has_blank;
    }

abbrev bare_file : ListedFile
bare_file = record { entry = bare; bytes = [] }

abbrev blank_file : ListedFile
blank_file = record { entry = blank; bytes = [] }

bare_is_whole : IsWhole bare_file
bare_is_whole = record {
  sized = refl;
  some = λ none. absurd cc;
  digests = old.one (IsDigestOf []) (old.digest_of []) refl;
}

blank_is_whole : IsWhole blank_file
blank_is_whole = record {
  sized = refl;
  some = λ none. absurd cc;
  digests = old.one (IsDigestOf []) (old.digest_of []) refl;
}

-- ---- it begins

abbrev start : Session
start = session_over old.store

start_is_sound : SoundSessionWithJobs start
start_is_sound = steps.begins_sound start refl (begins_sound old.store old.store_is_sound)

-- the shared program file is held
shared : same_content old.program old.program ≡ true
shared = (content_decides old.program old.program).1 refl

abbrev had : List ListedFile
had = old.program_file ∷ []

had_are_held : AreHeld old.store a had
had_are_held = record {
  listed = sym (ap (λ (b : Bool). cond (b || (b || false)) (old.program ∷ []) []) shared);
  bytes = old.one
      (λ (file : ListedFile). Any
      (λ (held : ListedFile). (content_key held.entry ≡ content_key file.entry) × (held.bytes ≡ file.bytes))
      (program_files_of old.store)) old.program_file
      (0, old.program_file, omega arith, refl, (refl, refl));
}

wanted_is : wanted (shape_of start).views a ≡ bare ∷ blank ∷ []
wanted_is =
    ap
    (λ (b : Bool). cond (not (b || (b || false)))
    (old.program ∷ wanted_beside (old.program ∷ old.program ∷ old.program ∷ old.optional ∷ [])
    (bare ∷ blank ∷ []))
    (bare ∷ blank ∷ []))
    shared

-- it needs no block
needs_none : begin_need (shape_of start) a ≡ 0
needs_none =
    ap
    (λ (b : Bool). sum_by (λ (entry : FileEntry). blocks_of entry.size)
    (cond (not (b || (b || false))) (old.program ∷ bare ∷ []) (bare ∷ [])) + 0)
    shared

abbrev job : Job
job = new_job old.target old.target d a had start

abbrev begun : Session
begun = with_new_job (new_job old.target old.target d a had start) start

begun_is_sound : SoundSessionWithJobs begun
begun_is_sound =
    opened_sound start start_is_sound old.target old.target d a had old.is_target old.is_target
    is_deployment is_application refl refl had_are_held (omega arith) (omega arith)
    (let none = needs_none in omega (arith, none))

-- ---- its first file

abbrev one_left : Session
one_left = record begun { jobs = with_job_at 1 (stepped bare [] (blank ∷ [])) begun.jobs }

bare_fetched : IsFetched begun bare_file
bare_fetched = empty_fetched begun begun_is_sound.sound bare refl bare_is_whole

one_left_is_sound : SoundSessionWithJobs one_left
one_left_is_sound =
    stepped_sound 1 begun begun_is_sound job (inl refl) refl bare (blank ∷ []) wanted_is []
    bare_fetched

-- ---- the update

abbrev updated_data : FileEntry
updated_data = record {
  name = old.named 100;
  size = 2;
  list = old.digest_of (97 ∷ 97 ∷ []) ∷ [];
  group = None;
  local = true;
}

abbrev update_d : Deployment
update_d = old.deployment 3

abbrev update_a : Application
update_a = record old.application {
  files = old.program ∷ old.optional ∷ old.absent ∷ updated_data ∷ [];
}

abbrev original : ListedFile
original = record { entry = updated_data; bytes = 97 ∷ 97 ∷ [] }

abbrev later : Store
later = with_view old.target old.target update_d update_a had made.0 0 old.store

later_is_sound : Sound later
later_is_sound = updated_store.after

abbrev updated : Session
updated = record one_left { store = later }

original_is_whole : IsWhole original
original_is_whole = record {
  sized = refl;
  some = λ none. absurd cc;
  digests = old.one (IsDigestOf (97 ∷ 97 ∷ [])) (old.digest_of (97 ∷ 97 ∷ [])) refl;
}

optional_apart : old.AreShared old.optional_file old.program_file
optional_apart same = sym (old.others_apart (sym same))

update_fetched : AreFetched old.store update_a had (original ∷ [])
update_fetched = record {
  required = refl;
  deployed = refl;
  whole = old.one IsWhole old.program_file old.program_is_whole;
  whole_data = old.one IsWhole original original_is_whole;
  shared =
      AllPairs-cons old.AreShared old.program_file
      (old.program_file ∷ old.optional_file ∷ old.program_file ∷ [])
      (old.three (old.AreShared old.program_file) old.program_file old.optional_file
      old.program_file (λ same. refl) old.others_apart (λ same. refl))
      (AllPairs-cons old.AreShared old.program_file (old.optional_file ∷ old.program_file ∷ [])
      (old.two (old.AreShared old.program_file) old.optional_file old.program_file
      old.others_apart (λ same. refl))
      (old.pair old.AreShared old.optional_file old.program_file optional_apart));
}

-- it agrees with the files of the job
bare_apart : content_key bare ≡ content_key old.program → old.shared_bytes ≡ old.shared_bytes → ⊥
bare_apart same e = differ (ap (λ (k : ContentKey). k.size) same)
  where
    differ : ◌≡◌ {A = ℕ} 0 1 → ⊥
    differ e = omega (arith, e)

agree : All (Agree (program_files_in one_left.jobs)) had
agree =
    old.one (Agree (program_files_in one_left.jobs)) old.program_file
    (old.two
    (λ (other : ListedFile). content_key other.entry ≡ content_key old.program
    → other.bytes ≡ old.shared_bytes) old.program_file bare_file (λ same. refl)
    (λ same. absurd (bare_apart same refl)))

-- the tables of applications
found : entry_of old.key (old.app ∷ []) ≡ Some old.app
found = rw (tied_itself order (key_text old.key)) refl

abbrev updated_app : AppState
updated_app = installed_app 3 update_d old.target 0 old.app

apps_are : later.apps ≡ updated_app ∷ []
apps_are = rw (tied_itself order (key_text old.key)) refl

is_current : current_view old.key old.store ≡ Some old.second
is_current =
    ap
    (λ (e : Option AppState). option_and_then (λ (n : ℕ). view_at n old.views)
    (option_and_then (λ (app : AppState). app.current) e)) found

moved : Migrated (data_of (current_view old.key old.store))
    (listed_by (current_view old.key old.store)) update_a.files (original ∷ []) made.0
moved =
    subst
    (λ (view : Option View). Migrated (data_of view) (listed_by view) update_a.files (original ∷ [])
    made.0) (sym is_current) made.1

-- the job needs no block there either
needs_none_later : begin_need (shape_of (session_over later)) a ≡ 0
needs_none_later =
    ap
    (λ (b : Bool). sum_by (λ (entry : FileEntry). blocks_of entry.size)
    (cond (not (b || (b || (b || false)))) (old.program ∷ bare ∷ []) (bare ∷ [])) + 0)
    shared

later_room : blocks_with (map bare_view later.views) (a ∷ []) ≤ later.room.blocks
later_room =
    let more = blocks_more (shape_of (session_over later)) a in
    let used = later_is_sound.valid.room in
    let none = needs_none_later in
    let same : blocks_with (map bare_view later.views) [] ≡ used_blocks (map bare_view later.views)
    = refl in
    omega (arith, more, used, none, same)

updated_is_sound : SoundSessionWithJobs updated
updated_is_sound =
    with_store one_left later later_is_sound
    (shared_beside one_left one_left_is_sound.sound later had update_fetched.shared agree
    (λ file there. there))
    later_room one_left_is_sound

-- ---- its second file

abbrev one_more : Job
one_more = stepped bare [] (blank ∷ []) (new_job old.target old.target d a had start)

abbrev whole : Job
whole = stepped blank [] [] one_more

abbrev ready : Session
ready = record updated { jobs = with_job_at 1 (stepped blank [] []) updated.jobs }

blank_fetched : IsFetched updated blank_file
blank_fetched = empty_fetched updated updated_is_sound.sound blank refl blank_is_whole

ready_is_sound : SoundSessionWithJobs ready
ready_is_sound =
    stepped_sound 1 updated updated_is_sound one_more (inl refl) refl blank [] refl [] blank_fetched

-- ---- its application is a new one

less : key_cmp old.key key ≡ Less
unfolding key_text part_text
less = refl

known_none : entry_of key later.apps ≡ None
known_none =
    ap (λ (apps : List AppState). entry_of key apps) apps_are
    ∙ ap (λ (o : Ordering). entry_at o updated_app None) less

abbrev shape : Shape
shape = shape_of ready

bare_none : current_bare key shape ≡ None
bare_none =
    ap
    (λ (e : Option AppState). option_and_then (λ (n : ℕ). bare_view_at n shape.views)
    (option_and_then (λ (app : AppState). app.current) e)) known_none

version_none : current_version key shape ≡ None
version_none =
    ap (λ (v : Option BareView). option_map (λ (w : BareView). w.deployment.identity.version) v)
    bare_none

minimum_none : minimum_of key later.apps ≡ None
minimum_none =
    ap (λ (e : Option AppState). option_and_then (λ (app : AppState). app.minimum) e) known_none

view_none : current_view key later ≡ None
view_none =
    ap
    (λ (e : Option AppState). option_and_then (λ (n : ℕ). view_at n later.views)
    (option_and_then (λ (app : AppState). app.current) e)) known_none

one_local : locals_after shape d a ≡ 1
unfolding is_below_pre
one_local =
    ap
    (λ (v : Option BareView). count_by (λ (name : List ℕ). not (is_below_pre name))
    (migrated_names (map (λ (file : BareData). file.name) (bare_data_of v)) (bare_listed_by v) a.files))
    bare_none

copies_none : commit_need shape d ≡ 0
copies_none = ap (λ (v : Option BareView). copied_need (bare_data_of v)) bare_none

-- ---- it is committed

-- what holds of the open job holds of that one
as_whole : {P : BareJob → Type 0} → OfOpen 1 (job_shape_of ready) P → P (bare_job whole)
as_whole {P} x = subst P (sym (same_Some (bare_job whole) x.0 x.1)) x.2

some_none : Some (bare_job whole) ≡ None → ⊥
some_none e = cc

passes : PassesAll (commit_refusals 1 (job_shape_of ready))
passes = (
  (λ e. some_none e),
  (
    (λ left x. (
        let is = as_whole {P = λ j. (left ≡ length j.left) × (0 < left)} x in
        let same = is.0 in
        let some = is.1 in
        absurd (omega (arith, same, some)))),
    (
      (λ have x. (
          let is = as_whole {P = λ j. IsNotNewer shape j.deployment have} x in
          none-some have (sym version_none ∙ is.0))),
      (
        (λ minimum x. (
            let is = as_whole {P = λ j. IsBelowMinimum shape j.deployment minimum} x in
            none-some minimum (sym minimum_none ∙ is.0))),
        (
          (λ x. (
              let is = as_whole {P = λ j. LacksEntry shape j.deployment} x in
              let many = is.1 in
              let few = ap length apps_are in
              absurd (omega (arith, many, few)))),
          (
            (λ many. absurd (omega (arith, many))),
            (
              (λ x. (
                  let many = as_whole {P = λ j. FILE_COUNT_LIMIT < files_after shape j.application} x in
                  absurd (omega (arith, many)))),
              (
                (λ x. (
                    let many = as_whole
                    {P = λ j. LOCAL_COUNT_LIMIT < locals_after shape j.deployment j.application} x in
                    absurd (omega (arith, many, one_local)))),
                (
                  (λ e. absurd (omega (arith, e))),
                  (
                    (λ need x. (
                        let is = as_whole
                        {P = λ j. (need ≡ commit_need shape j.deployment)
                        × (free_blocks shape < need)} x in
                        let same = is.0 in
                        let fewer = is.1 in
                        absurd (omega (arith, same, fewer, copies_none)))),
                    (
                      (λ weight x. (
                          let is = as_whole
                          {P = λ j. IsWeightOf shape j weight × IsTooHeavy shape.room weight} x in
                          is.1.0 refl)),
                      tt,
                    ),
                  ),
                ),
              ),
            ),
          ),
        ),
      ),
    ),
  ),
)

made_new : (new : List DataFile) × Migrated [] [] a.files (blank_file ∷ []) new
made_new =
    migration [] [] a (blank_file ∷ []) (λ i j d lt within. absurd (omega arith))
    is_application.facts refl

abbrev committed_store : Store
committed_store =
    with_view old.target old.target d a (old.program_file ∷ bare_file ∷ []) made_new.0 0 later

abbrev committed : Session
committed = record ready { store = committed_store; jobs = without_job 1 ready.jobs }

effect : CommitEffect 1 0 ready
    (OfMachine (says.Installed key identity.version later.next_view)) committed
effect = record {
  job = whole;
  found = refl;
  files = old.program_file ∷ bare_file ∷ [];
  originals = blank_file ∷ [];
  of_job = record {
    required = refl;
    deployed = refl;
    had = old.two (Contains whole.files) old.program_file bare_file (0, omega arith, refl)
        (1, omega arith, refl);
    had_data = old.one (Contains whole.files) blank_file (2, omega arith, refl);
  };
  store = committed_store;
  installed = record {
    provider = old.target;
    provided = refl;
    data_files = made_new.0;
    migrated = subst
        (λ (view : Option View). Migrated (data_of view) (listed_by view) a.files (blank_file ∷ [])
        made_new.0) (sym view_none) made_new.1;
    is = refl;
  };
  is = refl;
  replied = refl;
}

-- ---- the room beside the job

nothing_new : uncounted_need (shape_of one_left) (filter is_required update_a.files) ≡ 0
nothing_new =
    ap
    (λ (b : Bool). sum_by (λ (entry : FileEntry). blocks_of entry.size)
    (cond (not (b || (b || (b || false)))) (old.program ∷ []) []))
    shared

copied : commit_need (shape_of one_left) update_d ≡ 1
unfolding is_below_pre
copied =
    ap copied_need (bare_data_current old.key old.store
    ∙ ap (λ (view : Option View). map bare_data (data_of view)) is_current)

fits_beside : install_need (shape_of one_left) update_d update_a ≤ free_blocks (shape_of one_left)
fits_beside =
    let more = blocks_more (shape_of start) a in
    let none = needs_none in
    let used : blocks_with (map bare_view old.views) [] ≡ used_blocks (map bare_view old.views) = refl
    in
    omega (arith, more, none, used, old.counted, nothing_new, copied)

equal_less : Less ≡ Equal → ⊥
equal_less e = cc

-- ---- all of it

pub interleaved : JobsMayBeInterleaved
interleaved = (
  start,
  begun,
  one_left,
  updated,
  ready,
  committed,
  record {
    before = start_is_sound;
    job = job;
    room = (let none = needs_none in omega (arith, none));
    begins = record { held = had_are_held; is = refl };
    shares = omega arith;
    first = step_answers 1 begun job refl bare (blank ∷ []) wanted_is [] bare_fetched;
    release = record {
      url = old.target;
      base = old.target;
      deployment = update_d;
      application = update_a;
      files = had;
      originals = original ∷ [];
    };
    other = λ e. equal_less (sym less ∙ e);
    current = subst
        (λ (e : Option AppState). IsSome (option_and_then (λ (app : AppState). app.current) e))
        (sym found) refl;
    beside = fits_beside;
    fetched = update_fetched;
    agree = agree;
    installed = record {
      provider = old.target;
      provided = refl;
      data_files = made.0;
      migrated = moved;
      is = refl;
    };
    is = refl;
    second = step_answers 1 updated one_more refl blank [] refl [] blank_fetched;
    commits = inr ((tt, passes), effect);
    after = left_sound 1 0 ready (OfMachine (says.Installed key identity.version later.next_view))
        committed ready_is_sound (omega arith) passes effect;
  },
)
