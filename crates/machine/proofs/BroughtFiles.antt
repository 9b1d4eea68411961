-- The files of a store with one more view: their room, and that they are whole.
use Rattle.std.proofs.Common.{◌≡◌, ◌∙◌, ◌++◌, ◌+◌, ◌≤◌, refl, sym, ap, subst, ℕ, Bool, true, false, cond, not, List, [], ◌∷◌, length, map, All, Option, Some, None, arith, eqb}
use Rattle.std.specs.Prelude.{filter, flat_map, option_and_then, option_map, sum_by}
use Rattle.std.proofs.lemmas.Grind.{flat_map-append}
use Rattle.std.proofs.lemmas.List.{append-nil, map-append}
use Rattle.std.proofs.lemmas.List.Elements.{All-push, All-weaker}
use Rattle.std.proofs.lemmas.List.Sums.{sum_by-append}
use Rattle.small_types.specs.declared.target.Target.{Target}
use Rattle.identity.specs.declared.key.Key.{Key}
use Rattle.manifests.specs.declared.facts.Application.{Application}
use Rattle.manifests.specs.declared.facts.Deployment.{Deployment}
use Rattle.manifests.specs.declared.facts.FileEntry.{FileEntry}
use Rattle.manifests.specs.Applications.{is_below_pre}
use Rattle.machine.specs.Blocks.{blocks_of, distinct, standing_files, used_blocks}
use Rattle.machine.specs.Current.{bare_data_of, bare_listed_by, bare_view_at, current_bare, current_of, current_view, data_of, listed_by, view_at}
use Rattle.machine.specs.Installed.{AreFetched, new_view, with_view}
use Rattle.machine.specs.Migrated.{Migrated}
use Rattle.machine.specs.Shape.{BareData, BareView, bare_data, bare_view, shape_of}
use Rattle.machine.specs.Sound.{IsSoundView, IsWhole, ShareBytes, Sound, program_files_of}
use Rattle.machine.specs.Store.{Store, session_over}
use Rattle.machine.specs.Valid.{Valid}
use Rattle.machine.specs.Views.{DataFile, ListedFile, View, is_required, standing_entries}
use Rattle.machine.specs.Wanted.{copied_need, deployed_need, install_need, program_need}
use Rattle.machine.proofs.NewView.{standing_required}
use Rattle.machine.proofs.Members.{filter_map_is, sum_agree, sum_map}
use Rattle.machine.proofs.MovedFiles.{data_weight, names_differ}
use Rattle.machine.proofs.OwnContents.{blocks_within}

-- ---- the current view, with its bytes and without

found_bare : (b : Bool) (view : View) (rest : Option View) → cond b (Some (bare_view view)) (option_map bare_view rest) ≡ option_map bare_view (cond b (Some view) rest)
found_bare true view rest = refl
found_bare false view rest = refl

bare_at : (number : ℕ) (views : List View) → bare_view_at number (map bare_view views) ≡ option_map bare_view (view_at number views)
bare_at number [] = refl
bare_at number (view ∷ views) =
    ap (λ (rest : Option BareView). cond (eqb view.number number) (Some (bare_view view)) rest) (bare_at number views)
    ∙ found_bare (eqb view.number number) view (view_at number views)

pub bare_then : (number : Option ℕ) (views : List View) → option_and_then (λ (n : ℕ). bare_view_at n (map bare_view views)) number ≡ option_map bare_view (option_and_then (λ (n : ℕ). view_at n views) number)
bare_then None views = refl
bare_then (Some number) views = bare_at number views

pub bare_current : (key : Key) (store : Store) → current_bare key (shape_of (session_over store)) ≡ option_map bare_view (current_view key store)
bare_current key store = bare_then (current_of key store.apps) store.views

data_bare : (view : Option View) → bare_data_of (option_map bare_view view) ≡ map bare_data (data_of view)
data_bare None = refl
data_bare (Some view) = refl

listed_bare : (view : Option View) → bare_listed_by (option_map bare_view view) ≡ listed_by view
listed_bare None = refl
listed_bare (Some view) = refl

pub bare_data_current : (key : Key) (store : Store) → bare_data_of (current_bare key (shape_of (session_over store))) ≡ map bare_data (data_of (current_view key store))
bare_data_current key store = ap bare_data_of (bare_current key store) ∙ data_bare (current_view key store)

pub bare_listed_current : (key : Key) (store : Store) → bare_listed_by (current_bare key (shape_of (session_over store))) ≡ listed_by (current_view key store)
bare_listed_current key store = ap bare_listed_by (bare_current key store) ∙ listed_bare (current_view key store)

-- ---- what copies and deployed data files need

copied_is : (old : List DataFile) → copied_need (map bare_data old) ≡ sum_by (λ (file : DataFile). blocks_of (length file.bytes)) (filter (λ (file : DataFile). not (is_below_pre file.name)) old)
copied_is old =
    ap (λ (files : List BareData). sum_by (λ (file : BareData). blocks_of file.length) files) (filter_map_is bare_data (λ (file : BareData). not (is_below_pre file.name)) old)
    ∙ sum_map bare_data (λ (file : BareData). blocks_of file.length) (filter (λ (file : DataFile). not (is_below_pre file.name)) old)

deployed_is : (a : Application) (originals : List ListedFile) → map (λ (file : ListedFile). file.entry) originals ≡ filter (λ (entry : FileEntry). entry.local) a.files → All IsWhole originals → deployed_need a ≡ sum_by (λ (file : ListedFile). blocks_of (length file.bytes)) originals
deployed_is a originals deployed whole =
    ap (λ (entries : List FileEntry). sum_by (λ (entry : FileEntry). blocks_of entry.size) entries) (sym deployed)
    ∙ sum_map (λ (file : ListedFile). file.entry) (λ (entry : FileEntry). blocks_of entry.size) originals
    ∙ sum_agree (λ (file : ListedFile). blocks_of file.entry.size) (λ (file : ListedFile). blocks_of (length file.bytes)) originals
    (All-weaker IsWhole (λ (file : ListedFile). blocks_of file.entry.size ≡ blocks_of (length file.bytes)) (λ file is. ap blocks_of (sym is.sized)) originals whole)

-- ---- the store

module _ (provider base : Target) (d : Deployment) (a : Application) (files originals : List ListedFile) (data_files : List DataFile) (now : ℕ) (old : Store) (fetched : AreFetched old a files originals) (migrated : Migrated (data_of (current_view d.identity.key old)) (listed_by (current_view d.identity.key old)) a.files originals data_files) where
  abbrev view : View
  view = new_view old.next_view base d a files data_files

  abbrev bares : List BareView
  bares = map bare_view old.views

  views_bare : map bare_view (old.views ++ view ∷ []) ≡ bares ++ bare_view view ∷ []
  views_bare = map-append bare_view old.views (view ∷ [])

  program_after : standing_files (map bare_view (old.views ++ view ∷ [])) ≡ standing_files bares ++ filter is_required a.files
  program_after =
      ap standing_files views_bare
      ∙ flat_map-append (λ (v : BareView). standing_entries v.groups v.application) bares (bare_view view ∷ [])
      ∙ ap (λ (entries : List FileEntry). standing_files bares ++ entries) (append-nil (standing_entries [] a) ∙ standing_required a)

  data_after : flat_map (λ (v : BareView). v.data_files) (map bare_view (old.views ++ view ∷ [])) ≡ flat_map (λ (v : BareView). v.data_files) bares ++ map bare_data data_files
  data_after =
      ap (λ (vs : List BareView). flat_map (λ (v : BareView). v.data_files) vs) views_bare
      ∙ flat_map-append (λ (v : BareView). v.data_files) bares (bare_view view ∷ [])
      ∙ ap (λ (datas : List BareData). flat_map (λ (v : BareView). v.data_files) bares ++ datas) (append-nil (map bare_data data_files))

  program_room : sum_by (λ (entry : FileEntry). blocks_of entry.size) (distinct (standing_files (map bare_view (old.views ++ view ∷ [])))) ≤ sum_by (λ (entry : FileEntry). blocks_of entry.size) (distinct (standing_files bares)) + program_need bares a
  program_room = subst (λ (entries : List FileEntry). sum_by (λ (entry : FileEntry). blocks_of entry.size) (distinct entries) ≤ sum_by (λ (entry : FileEntry). blocks_of entry.size) (distinct (standing_files bares)) + program_need bares a) (sym program_after) (blocks_within (standing_files bares) (filter is_required a.files))

  data_room : sum_by (λ (file : BareData). blocks_of file.length) (flat_map (λ (v : BareView). v.data_files) (map bare_view (old.views ++ view ∷ []))) ≤ sum_by (λ (file : BareData). blocks_of file.length) (flat_map (λ (v : BareView). v.data_files) bares) + (deployed_need a + copied_need (map bare_data (data_of (current_view d.identity.key old))))
  data_room =
      let heavy = data_weight (data_of (current_view d.identity.key old)) (listed_by (current_view d.identity.key old)) a.files originals data_files migrated in
      let weigh = λ (file : BareData). blocks_of file.length in
      let joined = ap (λ (datas : List BareData). sum_by weigh datas) data_after ∙ sum_by-append weigh (flat_map (λ (v : BareView). v.data_files) bares) (map bare_data data_files) in
      let new = sum_map bare_data weigh data_files in
      omega (arith, heavy, joined, new, copied_is (data_of (current_view d.identity.key old)), deployed_is a originals fetched.deployed fetched.whole_data)

  -- it takes what it needs at most
  pub used_after : used_blocks (map bare_view (old.views ++ view ∷ [])) ≤ used_blocks bares + install_need (shape_of (session_over old)) d a
  used_after =
      let copied = ap copied_need (bare_data_current d.identity.key old) in
      omega (arith, program_room, data_room, copied)

  -- ---- whole files

  files_after : program_files_of (with_view provider base d a files data_files now old) ≡ program_files_of old ++ files
  files_after =
      flat_map-append (λ (v : View). v.program_files) old.views (view ∷ [])
      ∙ ap (λ (fs : List ListedFile). program_files_of old ++ fs) (append-nil files)

  pub installed_sound : a.identity.key ≡ d.app.key → a.identity.version ≡ d.app.version → Valid (with_view provider base d a files data_files now old) → Sound old → Sound (with_view provider base d a files data_files now old)
  installed_sound key version valid sound = record {
    valid = valid;
    views = All-push IsSoundView old.views view sound.views (record {
      key = key;
      version = version;
      whole = fetched.whole;
      data_names = names_differ data_files migrated.order;
    });
    shared = subst ShareBytes (sym files_after) fetched.shared;
  }
