-- The files of a store with one more view, and the blocks that they take.
use Rattle.std.proofs.Common.{◌≡◌, ◌∙◌, ◌++◌, ◌+◌, ◌≤◌, sym, ap, ℕ, not, List, [], ◌∷◌, length, map, All, arith}
use Rattle.std.specs.Prelude.{filter, sum_by}
use Rattle.std.proofs.lemmas.Grind.{flat_map-append}
use Rattle.std.proofs.lemmas.List.{append-nil, map-append}
use Rattle.std.proofs.lemmas.List.Elements.{All-weaker}
use Rattle.std.proofs.lemmas.List.Sums.{sum_by-append}
use Rattle.small_types.specs.declared.target.Target.{Target}
use Rattle.manifests.specs.declared.facts.Application.{Application}
use Rattle.manifests.specs.declared.facts.Deployment.{Deployment}
use Rattle.manifests.specs.declared.facts.FileEntry.{FileEntry}
use Rattle.manifests.specs.Applications.{is_below_pre}
use Rattle.machine.specs.Blocks.{blocks_of, standing_files}
use Rattle.machine.specs.Current.{bare_data_of, current_bare, current_view, data_of, listed_by}
use Rattle.machine.specs.Installed.{AreFetched, new_view, with_view}
use Rattle.machine.specs.Migrated.{Migrated}
use Rattle.machine.specs.Shape.{BareData, BareView, bare_data, bare_view, shape_of}
use Rattle.machine.specs.Sound.{IsWhole, program_files_of}
use Rattle.machine.specs.Store.{Store, session_over}
use Rattle.machine.specs.Views.{DataFile, ListedFile, View, is_required, standing_entries}
use Rattle.machine.specs.Wanted.{copied_need, deployed_need}
use Rattle.machine.proofs.BroughtFiles.{bare_data_current}
use Rattle.machine.proofs.NewView.{standing_required}
use Rattle.machine.proofs.Members.{filter_map_is, sum_agree, sum_map}
use Rattle.machine.proofs.MovedFiles.{data_weight}
use Rattle.job_machine.proofs.Rooms.{data_blocks, data_of_views}

-- ---- what data files take

copied_is : (old : List DataFile) → copied_need (map bare_data old)
    ≡ sum_by (λ (file : DataFile). blocks_of (length file.bytes))
    (filter (λ (file : DataFile). not (is_below_pre file.name)) old)
copied_is old =
    ap (λ (files : List BareData). sum_by (λ (file : BareData). blocks_of file.length) files)
    (filter_map_is bare_data (λ (file : BareData). not (is_below_pre file.name)) old)
    ∙ sum_map bare_data (λ (file : BareData). blocks_of file.length)
    (filter (λ (file : DataFile). not (is_below_pre file.name)) old)

deployed_is : (a : Application) (originals : List ListedFile)
    → map (λ (file : ListedFile). file.entry) originals
    ≡ filter (λ (entry : FileEntry). entry.local) a.files
    → All IsWhole originals
    → deployed_need a
    ≡ sum_by (λ (file : ListedFile). blocks_of (length file.bytes)) originals
deployed_is a originals deployed whole =
    ap (λ (entries : List FileEntry). sum_by (λ (entry : FileEntry). blocks_of entry.size) entries)
    (sym deployed)
    ∙ sum_map (λ (file : ListedFile). file.entry) (λ (entry : FileEntry). blocks_of entry.size)
    originals
    ∙ sum_agree (λ (file : ListedFile). blocks_of file.entry.size)
    (λ (file : ListedFile). blocks_of (length file.bytes)) originals
    (All-weaker IsWhole
    (λ (file : ListedFile). blocks_of file.entry.size ≡ blocks_of (length file.bytes))
    (λ file is. ap blocks_of (sym is.sized)) originals whole)

-- ---- one more view

module _ (provider base : Target) (d : Deployment) (a : Application)
    (files originals : List ListedFile) (data_files : List DataFile) (now : ℕ) (old : Store)
    (fetched : AreFetched old a files originals)
    (migrated : Migrated (data_of (current_view d.identity.key old))
    (listed_by (current_view d.identity.key old)) a.files originals data_files) where
  abbrev pub later : Store
  later = with_view provider base d a files data_files now old

  abbrev view : View
  view = new_view old.next_view base d a files data_files

  abbrev bares : List BareView
  bares = map bare_view old.views

  views_bare : map bare_view (old.views ++ view ∷ []) ≡ bares ++ bare_view view ∷ []
  views_bare = map-append bare_view old.views (view ∷ [])

  -- the program files that stand are those that did, and the required ones
  pub standing_after : standing_files (map bare_view (old.views ++ view ∷ []))
      ≡ standing_files bares ++ filter is_required a.files
  standing_after =
      ap standing_files views_bare
      ∙ flat_map-append (λ (v : BareView). standing_entries v.groups v.application) bares
      (bare_view view ∷ [])
      ∙ ap (λ (entries : List FileEntry). standing_files bares ++ entries)
      (append-nil (standing_entries [] a) ∙ standing_required a)

  data_after : data_of_views (map bare_view (old.views ++ view ∷ []))
      ≡ data_of_views bares ++ map bare_data data_files
  data_after =
      ap data_of_views views_bare
      ∙ flat_map-append (λ (v : BareView). v.data_files) bares (bare_view view ∷ [])
      ∙ ap (λ (datas : List BareData). data_of_views bares ++ datas)
      (append-nil (map bare_data data_files))

  -- the data files take what is deployed and what is copied at most
  pub data_room : data_blocks (data_of_views (map bare_view (old.views ++ view ∷ [])))
      ≤ data_blocks (data_of_views bares)
      + (deployed_need a
      + copied_need (bare_data_of (current_bare d.identity.key (shape_of (session_over old)))))
  data_room =
      let heavy = data_weight (data_of (current_view d.identity.key old))
      (listed_by (current_view d.identity.key old)) a.files originals data_files migrated in
      let weigh = λ (file : BareData). blocks_of file.length in
      let joined = ap (λ (datas : List BareData). sum_by weigh datas) data_after
      ∙ sum_by-append weigh (data_of_views bares) (map bare_data data_files) in
      let new = sum_map bare_data weigh data_files in
      let copied = ap copied_need (bare_data_current d.identity.key old) in
      omega (
        arith,
        heavy,
        joined,
        new,
        copied,
        copied_is (data_of (current_view d.identity.key old)),
        deployed_is a originals fetched.deployed fetched.whole_data,
      )

  -- the program files are those that were, and the new ones
  pub files_after : program_files_of (with_view provider base d a files data_files now old)
      ≡ program_files_of old ++ files
  files_after =
      flat_map-append (λ (v : View). v.program_files) old.views (view ∷ [])
      ∙ ap (λ (fs : List ListedFile). program_files_of old ++ fs) (append-nil files)
