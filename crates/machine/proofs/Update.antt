-- An update of the store of the example: the program file is shared, the data file has new digests, and files of groups are
-- not fetched.
use Rattle.std.proofs.Common.{◌≡◌, ◌∙◌, ◌||◌, ◌≤◌, inl, inr, Bool, true, false, not, cond, ℕ, List, [], ◌∷◌, map, AllPairs, Contains, Option, Some, None, IsSome, refl, sym, ap, subst, arith}
use Rattle.std.specs.Prelude.{Any, option_and_then, sum_by}
use Rattle.std.proofs.lemmas.Cmp.{tied_itself}
use Rattle.std.proofs.lemmas.List.Elements.{All-cons}
use Rattle.std.proofs.lemmas.List.Kept.{AllPairs-cons}
use Rattle.identity.specs.Key.{key_text}
use Rattle.digest_list.specs.Matches.{IsDigestOf}
use Rattle.manifests.specs.declared.facts.Application.{Application}
use Rattle.manifests.specs.declared.facts.Deployment.{Deployment}
use Rattle.manifests.specs.declared.facts.FileEntry.{FileEntry}
use Rattle.manifests.specs.Applications.{is_below_pre}
use Rattle.manifests.specs.Facts.{IsFile}
use Rattle.machine.specs.declared.app.AppState.{AppState}
use Rattle.machine.specs.Blocks.{blocks_of, used_blocks}
use Rattle.machine.specs.Current.{bare_data_of, current_bare, current_view, data_of, listed_by, view_at}
use Rattle.machine.specs.Entries.{entry_of}
use Rattle.machine.specs.Fields.{HasEntry, IsApplication}
use Rattle.machine.specs.Installed.{AreFetched, installed_app, new_view, with_view}
use Rattle.machine.specs.InstallLaws.{IsUpdate}
use Rattle.machine.specs.Migrated.{Migrated, aside}
use Rattle.machine.specs.Shape.{bare_data, bare_view, shape_of}
use Rattle.machine.specs.Sound.{IsWhole, Sound}
use Rattle.machine.specs.Store.{Store, session_over}
use Rattle.machine.specs.Valid.{IsDataFile, Valid}
use Rattle.machine.specs.Views.{DataFile, ListedFile, View, same_content}
use Rattle.machine.specs.Wanted.{copied_need, program_need}
use Rattle.machine.specs.Weight.{weight_of}
use Rattle.machine.proofs.BroughtFiles.{bare_data_current, installed_sound, used_after}
use Rattle.machine.proofs.Contents.{content_decides}
use Rattle.machine.proofs.EntryOrder.{order}
use Rattle.machine.proofs.Example as old
use Rattle.machine.proofs.FoundTexts.{ascii_text}
use Rattle.machine.proofs.NewView.{Fitting, installed_ordered}
use Rattle.machine.proofs.Lightness.{no_halves}
use Rattle.machine.proofs.OneMigration.{migration}
use Rattle.machine.proofs.MovedFiles.{are_data, few_named}

-- ---- the release

abbrev letters : List ℕ
letters = 97 ∷ 97 ∷ []

abbrev new_data : FileEntry
new_data = record { name = old.named 100; size = 2; list = old.digest_of letters ∷ []; group = None; local = true }

abbrev entries : List FileEntry
entries = old.program ∷ old.optional ∷ old.absent ∷ new_data ∷ []

abbrev d : Deployment
d = old.deployment 3

abbrev a : Application
a = record old.application { files = entries }

data_is_file : IsFile new_data
data_is_file = record {
  above = old.d_is_above;
  short = λ local. omega arith;
  size = omega arith;
  list = old.list_is_sized letters;
  group = tt;
  alone = λ local. refl;
}

has_data : HasEntry new_data
has_data = record { name = old.d_is_name; list = record { some = omega arith; within = omega arith }; group = tt }

names_differ : AllPairs old.NamesApart entries
names_differ =
    AllPairs-cons old.NamesApart old.program (old.optional ∷ old.absent ∷ new_data ∷ [])
    (old.three (old.NamesApart old.program) old.optional old.absent new_data (old.numbers_apart 97 98 (λ e. omega (arith, e))) (old.numbers_apart 97 99 (λ e. omega (arith, e))) (old.numbers_apart 97 100 (λ e. omega (arith, e))))
    (AllPairs-cons old.NamesApart old.optional (old.absent ∷ new_data ∷ [])
    (old.two (old.NamesApart old.optional) old.absent new_data (old.numbers_apart 98 99 (λ e. omega (arith, e))) (old.numbers_apart 98 100 (λ e. omega (arith, e))))
    (old.pair old.NamesApart old.absent new_data (old.numbers_apart 99 100 (λ e. omega (arith, e)))))

is_application : IsApplication a
is_application = record {
  facts = record {
    identity = old.is_identity 1;
    entry = old.a_is_value _ (omega arith);
    parameters = record { some = omega arith; few = omega arith; allowed = refl };
    files = record { few = omega arith; few_local = omega arith; differ = names_differ };
    each = All-cons IsFile old.program (old.optional ∷ old.absent ∷ new_data ∷ []) old.program_is_file (old.three IsFile old.optional old.absent new_data old.optional_is_file old.absent_is_file data_is_file);
  };
  identity = old.has_identity 1 (omega arith);
  entry = old.a_is_utf8;
  parameters = ascii_text [] refl;
  files = All-cons HasEntry old.program (old.optional ∷ old.absent ∷ new_data ∷ []) old.has_program (old.three HasEntry old.optional old.absent new_data old.has_optional old.has_absent has_data);
}

-- ---- what is fetched

abbrev files : List ListedFile
files = old.program_file ∷ []

abbrev original : ListedFile
original = record { entry = new_data; bytes = letters }

abbrev originals : List ListedFile
originals = original ∷ []

original_is_whole : IsWhole original
original_is_whole = record { sized = refl; some = λ none. absurd cc; digests = old.one (IsDigestOf letters) (old.digest_of letters) refl }

optional_apart : old.AreShared old.optional_file old.program_file
optional_apart same = sym (old.others_apart (sym same))

fetched : AreFetched old.store a files originals
fetched = record {
  required = refl;
  deployed = refl;
  whole = old.one IsWhole old.program_file old.program_is_whole;
  whole_data = old.one IsWhole original original_is_whole;
  shared =
      AllPairs-cons old.AreShared old.program_file (old.program_file ∷ old.optional_file ∷ old.program_file ∷ [])
      (old.three (old.AreShared old.program_file) old.program_file old.optional_file old.program_file (λ same. refl) old.others_apart (λ same. refl))
      (AllPairs-cons old.AreShared old.program_file (old.optional_file ∷ old.program_file ∷ [])
      (old.two (old.AreShared old.program_file) old.optional_file old.program_file old.others_apart (λ same. refl))
      (old.pair old.AreShared old.optional_file old.program_file optional_apart));
}

-- ---- the data files

abbrev old_data : List DataFile
old_data = old.carried_file ∷ old.data_file ∷ []

pub made : (new : List DataFile) × Migrated old_data old.files a.files originals new
made = migration old_data old.files a originals (old.pair old.IsBefore old.carried_file old.data_file refl) is_application.facts refl

found : entry_of old.key (old.app ∷ []) ≡ Some old.app
found = rw (tied_itself order (key_text old.key)) refl

is_current : current_view old.key old.store ≡ Some old.second
is_current = ap (λ (e : Option AppState). option_and_then (λ (n : ℕ). view_at n old.views) (option_and_then (λ (app : AppState). app.current) e)) found

moved : Migrated (data_of (current_view old.key old.store)) (listed_by (current_view old.key old.store)) a.files originals made.0
moved = subst (λ (view : Option View). Migrated (data_of view) (listed_by view) a.files originals made.0) (sym is_current) made.1

-- ---- the new store

abbrev new : Store
new = with_view old.target old.target d a files made.0 0 old.store

fitting : Fitting old.target old.target d a files made.0 0 old.store
unfolding is_below_pre
fitting = record {
  deployment = old.is_deployment 3 (omega arith);
  application = is_application;
  has_provider = old.is_target;
  has_base = old.is_target;
  moment = omega arith;
  required = refl;
  data_order = made.1.order;
  are_data = are_data old_data old.files a.files originals made.0 made.1 refl is_application.facts.each is_application.files (old.two IsDataFile old.carried_file old.data_file old.carried_is_data old.data_is_data);
  few_data = (let few = few_named old_data old.files a.files originals made.0 made.1 refl in omega (arith, few));
  entry_room = λ full. (let many = full.1 in absurd (omega arith));
  view_room = omega arith;
  number_room = omega arith;
  file_room = omega arith;
}

held : same_content old.program old.program ≡ true
held = (content_decides old.program old.program).1 refl

nothing_new : program_need (map bare_view old.views) a ≡ 0
nothing_new = ap (λ (b : Bool). sum_by (λ (entry : FileEntry). blocks_of entry.size) (cond (not (b || (b || false))) (old.program ∷ []) [])) held

copied : copied_need (bare_data_of (current_bare old.key (shape_of (session_over old.store)))) ≡ 1
unfolding is_below_pre
copied = ap copied_need (bare_data_current old.key old.store ∙ ap (λ (view : Option View). map bare_data (data_of view)) is_current)

room : used_blocks (map bare_view new.views) ≤ new.room.blocks
room =
    let used = used_after old.target old.target d a files originals made.0 0 old.store fetched moved in
    omega (arith, used, old.counted, nothing_new, copied)

is_valid : Valid new
is_valid = record { ordered = installed_ordered old.target old.target d a files made.0 0 old.store fitting old.store_is_ordered; room = room; light = no_halves new.room (weight_of (map bare_view new.views) new.apps) refl }

is_sound : Sound new
is_sound = installed_sound old.target old.target d a files originals made.0 0 old.store fetched moved refl refl is_valid old.store_is_sound

-- ---- what it has

abbrev updated : AppState
updated = installed_app 3 d old.target 0 old.app

apps_are : new.apps ≡ updated ∷ []
apps_are = rw (tied_itself order (key_text old.key)) refl

abbrev kept_aside : DataFile
kept_aside = record { name = aside (old.named 100); bytes = old.shared_bytes }

aside_there : Contains made.0 kept_aside
aside_there = (made.1.files kept_aside).1 (inr (inl (record {
  from = old.data_file;
  there = (1, omega arith, refl);
  outside = old.d_is_above;
  other = refl;
  name = refl;
  bytes = refl;
})))

pub updated_store : IsUpdate old.store new
updated_store = record {
  url = old.target;
  base = old.target;
  deployment = d;
  application = a;
  files = files;
  originals = originals;
  now = 0;
  before = old.store_is_sound;
  fetched = fetched;
  installed = record {
    provider = old.target;
    provided = refl;
    data_files = made.0;
    migrated = moved;
    is = refl;
  };
  after = is_sound;
  previous = subst (λ (apps : List AppState). Any (λ (app : AppState). IsSome app.previous) apps) (sym apps_are) (0, updated, omega arith, refl, refl);
  aside = (2, new_view 3 old.target d a files made.0, omega arith, refl, (aside_there.0, kept_aside, aside_there.1, aside_there.2, refl));
  absent = omega arith;
}

pub update : (old_store new_store : Store) × IsUpdate old_store new_store
update = (old.store, new, updated_store)
