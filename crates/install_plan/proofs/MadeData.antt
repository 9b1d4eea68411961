-- The data files that plans make, by their names, their lengths and their bytes.
use Rattle.std.proofs.Common.{◌≡◌, ◌∙◌, ◌&&◌, ◌+◌, ◌++◌, ◌≤◌, refl, sym, ap, subst, ℕ, Bool, true, false, cond, not, List, [], ◌∷◌, length, map, replicate, All, AllPairs, IsSome, Option, Some, None, bytes_eq, arith}
use Rattle.std.specs.Prelude.{count_by, filter, find, sum_by}
use Rattle.std.specs.List.{AllZip}
use Rattle.std.specs.declared.cmp.Ordering.TheVariants.{Less}
use Rattle.std.proofs.lemmas.List.{length-map, length-replicate}
use Rattle.std.proofs.lemmas.List.Elements.{All-cons, All-head, All-nil, All-tail}
use Rattle.small_types.specs.declared.room.Room.{Room}
use Rattle.small_types.specs.declared.limits.TheConstants.{LOCAL_NAME_LIMIT}
use Rattle.small_types.specs.Blocks.{blocks_start, bytes_in}
use Rattle.small_types.specs.Name.{IsBelowPre, IsName}
use Rattle.small_types.proofs.BlockContents.{bytes_in-nil}
use Rattle.file_store.specs.Stores.{draft_blocks}
use Rattle.file_store.specs.declared.draft.Draft.{Draft}
use Rattle.identity.specs.Printed.{text_cmp}
use Rattle.manifests.specs.declared.facts.FileEntry.{FileEntry}
use Rattle.manifests.specs.Applications.{is_below_pre}
use Rattle.machine.specs.Migrated.{deployed}
use Rattle.machine.specs.Shape.{BareData, bare_data}
use Rattle.machine.specs.Views.{DataFile, ListedFile}
use Rattle.machine.proofs.Members.{In, all_in, in_all, in_map, map_in, pairs_map, sum_map}
use Rattle.store_state.specs.declared.view.Content.{Content}
use Rattle.store_state.specs.declared.view.LocalFile.{LocalFile}
use Rattle.store_state.specs.Change.{IsLocal}
use Rattle.store_state.specs.Locals.{local_named, outside_locals}
use Rattle.store_state.specs.Shows.{shown_data}
use Rattle.store_state.specs.Stored.{HasLocals, content_bytes}
use Rattle.store_state.specs.Stored.{data_bytes as local_bytes}
use Rattle.store_state.specs.Tables.{bare_local}
use Rattle.data_migration.specs.declared.plan.LocalPlan.{LocalPlan}
use Rattle.data_migration.specs.declared.plan.LocalPlan.TheVariants.{Copy, Fresh}
use Rattle.data_migration.specs.Migration.{applied, data_bytes, deployed_files, listed_bytes, listed_in, made}
use Rattle.data_migration.specs.Migration.{bytes_in as bytes_of}
use Rattle.data_migration.specs.Plans.{local_names, plan_name}
use Rattle.install_plan.specs.Carried.{Rise}
use Rattle.install_plan.specs.Changes.{AreMade, HaveMade, content_for, contents_for, data_part, length_in, local_part, made_bare, size_of}
use Rattle.install_plan.specs.Parts.{IsThere, copied_locals, found_before, fresh_local, made_locals}
use Rattle.install_plan.proofs.WantedPlaces.{somes}
use Rattle.install_plan.proofs.Keyed.{found, not_true, pairs_before}
use Rattle.install_plan.proofs.Planned.{names_of, one_outside}

-- ---- by their names

bare_names : (old : List LocalFile) (files : List FileEntry) (plans : List LocalPlan) → map (λ (b : BareData). b.name) (map (made_bare old files) plans) ≡ map plan_name plans
bare_names old files [] = refl
bare_names old files (plan ∷ plans) = ap (λ (ns : List (List ℕ)). plan_name plan ∷ ns) (bare_names old files plans)

module _ (old : List LocalFile) (files : List FileEntry) (plans : List LocalPlan) (locals : List LocalFile) (are : AreMade old files plans locals) where
  names_are : local_names locals ≡ map plan_name plans
  names_are = sym (names_of locals) ∙ ap (map (λ (b : BareData). b.name)) are ∙ bare_names old files plans

  -- they stand in order
  pub made_order : Rise plans → AllPairs (λ (f g : LocalFile). text_cmp f.name g.name ≡ Less) locals
  made_order rise =
      pairs_before (λ (f : LocalFile). f.name) (λ (a b : List ℕ). text_cmp a b ≡ Less) locals
      (subst (AllPairs (λ (a b : List ℕ). text_cmp a b ≡ Less)) (sym names_are)
      (pairs_map plan_name (λ (p q : LocalPlan). text_cmp (plan_name p) (plan_name q) ≡ Less) (λ (a b : List ℕ). text_cmp a b ≡ Less) plans (λ p q less. less) rise))

  -- as many are outside `.pre` as the plans say
  pub made_outside : outside_locals locals ≡ count_by (λ (p : LocalPlan). not (is_below_pre (plan_name p))) plans
  made_outside = sym (sum_map (λ (f : LocalFile). f.name) one_outside locals) ∙ ap (sum_by one_outside) names_are ∙ sum_map plan_name one_outside plans

  -- each has a name within its limit, where the plans have
  pub made_are : ((p : LocalPlan) → In p plans → IsName (plan_name p) × (¬ IsBelowPre (plan_name p) → length (plan_name p) ≤ LOCAL_NAME_LIMIT)) → All IsLocal locals
  made_are each = in_all IsLocal locals (λ file there.
      let is = named file.name (subst (λ (ns : List (List ℕ)). In file.name ns) names_are (in_map (λ (f : LocalFile). f.name) locals file there)) in
      record { name = is.0; short = is.1 })
    where
      named : (name : List ℕ) → In name (map plan_name plans) → IsName name × (¬ IsBelowPre name → length name ≤ LOCAL_NAME_LIMIT)
      named name there =
          let of = map_in plan_name plans name there in
          subst (λ (n : List ℕ). IsName n × (¬ IsBelowPre n → length n ≤ LOCAL_NAME_LIMIT)) of.2 (each of.0 of.1)

  pub made_long : length locals ≡ length plans
  made_long = sym (length-map locals bare_local) ∙ ap length are ∙ length-map plans (made_bare old files)

-- ---- by their lengths

module _ (name : List ℕ) where
  abbrev is_named : FileEntry → Bool
  is_named e = bytes_eq e.name name

  named_step : (l : Bool) (e : FileEntry) (kept : List FileEntry) (rest : Option FileEntry) → find is_named kept ≡ rest → find is_named (cond l (e ∷ kept) kept) ≡ cond (l && is_named e) (Some e) rest
  named_step true e kept rest more = ap (cond (is_named e) (Some e)) more
  named_step false e kept rest more = more

  pub deployed_named : (es : List FileEntry) → find is_named (filter (λ (e : FileEntry). e.local) es) ≡ deployed es name
  deployed_named [] = refl
  deployed_named (e ∷ es) = named_step e.local e (filter (λ (x : FileEntry). x.local) es) (deployed es name) (deployed_named es)

  size_at : (b : Bool) (file : LocalFile) (entry : FileEntry) (o : Option LocalFile) (p : Option FileEntry) → file.length ≡ entry.size → length_in o ≡ size_of p → length_in (cond b (Some file) o) ≡ size_of (cond b (Some entry) p)
  size_at true file entry o p same rest = same
  size_at false file entry o p same rest = rest

  size_step : (l : Bool) (entry : FileEntry) (content : Content) (rest : List LocalFile) (kept : List FileEntry) → content.size ≡ entry.size → length_in (local_named name rest) ≡ size_of (find is_named kept)
      → length_in (local_named name (cond l (record { name = entry.name; length = content.size; held = content.held } ∷ []) [] ++ rest)) ≡ size_of (find is_named (cond l (entry ∷ kept) kept))
  size_step true entry content rest kept same more =
      size_at (bytes_eq entry.name name) (record { name = entry.name; length = content.size; held = content.held }) entry (local_named name rest) (find is_named kept) same more
  size_step false entry content rest kept same more = more

  pub size_named : (entries : List FileEntry) (drafts : List Draft) → length entries ≤ length drafts
      → length_in (local_named name (local_part (somes entries) (contents_for (somes entries) drafts))) ≡ size_of (find is_named (filter (λ (e : FileEntry). e.local) entries))
  size_named [] drafts many = refl
  size_named (entry ∷ entries) [] many = absurd (omega (arith, many))
  size_named (entry ∷ entries) (draft ∷ drafts) many =
      size_step entry.local entry (content_for entry draft) (local_part (somes entries) (contents_for (somes entries) drafts)) (filter (λ (e : FileEntry). e.local) entries) refl
      (size_named entries drafts (omega (arith, many)))

bare_fresh : (name : List ℕ) (o : Option LocalFile) → bare_local (fresh_local name o) ≡ record { name = name; length = length_in o }
bare_fresh name None = refl
bare_fresh name (Some file) = refl

pub made_bares : (old fetched : List LocalFile) (files : List FileEntry) → ((name : List ℕ) → length_in (local_named name fetched) ≡ size_of (deployed files name)) → (copies : List Draft) (plans : List LocalPlan) → AreMade old files plans (made_locals old fetched copies plans)
made_bares old fetched files sized copies [] = refl
made_bares old fetched files sized copies (Fresh name ∷ plans) =
    ap (λ (b : BareData). b ∷ map bare_local (made_locals old fetched copies plans)) (bare_fresh name (local_named name fetched) ∙ ap (λ (n : ℕ). record { name = name; length = n }) (sized name))
    ∙ ap (λ (bs : List BareData). made_bare old files (Fresh name) ∷ bs) (made_bares old fetched files sized copies plans)
made_bares old fetched files sized [] (Copy from to ∷ plans) = ap (λ (bs : List BareData). made_bare old files (Copy from to) ∷ bs) (made_bares old fetched files sized [] plans)
made_bares old fetched files sized (draft ∷ copies) (Copy from to ∷ plans) = ap (λ (bs : List BareData). made_bare old files (Copy from to) ∷ bs) (made_bares old fetched files sized copies plans)

-- ---- by what they are held in

-- where something is so of all that was fetched and of the copies, by their blocks and lengths, it is of all that is made
module _ (Q : List ℕ → ℕ → Type 0) (old fetched : List LocalFile) (each : All (λ (f : LocalFile). Q f.held f.length) fetched) where
  abbrev IsSo : LocalFile → Type 0
  IsSo f = Q f.held f.length

  abbrev AreSo : List Draft → List LocalFile → Type 0
  AreSo copies files = AllZip (λ (draft : Draft) (file : LocalFile). Q (draft_blocks draft) file.length) copies files

  fresh_so : (name : List ℕ) → IsSome (local_named name fetched) → IsSo (fresh_local name (local_named name fetched))
  fresh_so name some =
      let one = found (λ (f : LocalFile). bytes_eq f.name name) fetched some in
      subst (λ (o : Option LocalFile). IsSo (fresh_local name o)) (sym one.is) (all_in IsSo fetched one.item each one.there)

  pub made_each : (copies : List Draft) (plans : List LocalPlan) → All (IsThere old fetched) plans → AreSo copies (copied_locals old plans) → All IsSo (made_locals old fetched copies plans)
  made_each copies [] there so = All-nil IsSo
  made_each copies (Fresh name ∷ plans) there so =
      All-cons IsSo (fresh_local name (local_named name fetched)) (made_locals old fetched copies plans) (fresh_so name (All-head (IsThere old fetched) (Fresh name) plans there))
      (made_each copies plans (All-tail (IsThere old fetched) (Fresh name) plans there) so)
  made_each [] (Copy from to ∷ plans) there so = absurd (none (local_named from old) (All-head (IsThere old fetched) (Copy from to) plans there) so)
    where
      none : (o : Option LocalFile) → IsSome o → AreSo [] (found_before o (copied_locals old plans)) → ⊥
      none None some nothing = not_true some
      none (Some file) some nothing = nothing
  made_each (draft ∷ copies) (Copy from to ∷ plans) there so =
      let both = split (local_named from old) (All-head (IsThere old fetched) (Copy from to) plans there) so in
      All-cons IsSo (record { name = to; length = length_in (local_named from old); held = draft_blocks draft }) (made_locals old fetched copies plans) both.0
      (made_each copies plans (All-tail (IsThere old fetched) (Copy from to) plans there) both.1)
    where
      split : (o : Option LocalFile) → IsSome o → AreSo (draft ∷ copies) (found_before o (copied_locals old plans)) → Q (draft_blocks draft) (length_in o) × AreSo copies (copied_locals old plans)
      split None some nothing = not_true some
      split (Some file) some both = both

-- ---- by their bytes

module _ (room : Room) (image : List ℕ) where
  abbrev start : ℕ
  start = blocks_start room.half

  abbrev bytes_at : Option LocalFile → List ℕ
  bytes_at None = []
  bytes_at (Some file) = local_bytes room image file

  fresh_at : (name : List ℕ) (o : Option LocalFile) → shown_data room image (fresh_local name o) ≡ record { name = name; bytes = bytes_at o }
  fresh_at name None = ap (λ (bs : List ℕ). record { name = name; bytes = bs }) (bytes_in-nil start 0 image)
  fresh_at name (Some file) = refl

  module _ (name : List ℕ) where
    listed_at : (b : Bool) (entry : FileEntry) (content : Content) (o : Option LocalFile) (p : Option ListedFile) → bytes_at o ≡ listed_in p
        → bytes_at (cond b (Some (record { name = entry.name; length = content.size; held = content.held })) o) ≡ listed_in (cond b (Some (record { entry = entry; bytes = content_bytes room image content })) p)
    listed_at true entry content o p rest = refl
    listed_at false entry content o p rest = rest

    listed_step : (l : Bool) (entry : FileEntry) (content : Content) (rest : List LocalFile) (more : List ListedFile) → bytes_at (local_named name rest) ≡ listed_bytes more name
        → bytes_at (local_named name (cond l (record { name = entry.name; length = content.size; held = content.held } ∷ []) [] ++ rest))
        ≡ listed_bytes (cond l (record { entry = entry; bytes = content_bytes room image content } ∷ []) [] ++ more) name
    listed_step true entry content rest more same =
        listed_at (bytes_eq entry.name name) entry content (local_named name rest) (find (λ (f : ListedFile). bytes_eq f.entry.name name) more) same
    listed_step false entry content rest more same = same

    fetched_bytes : (places : List (Option FileEntry)) (contents : List Content) → bytes_at (local_named name (local_part places contents)) ≡ listed_bytes (data_part room image places contents) name
    fetched_bytes [] contents = refl
    fetched_bytes (place ∷ places) [] = refl
    fetched_bytes (None ∷ places) (content ∷ contents) = fetched_bytes places contents
    fetched_bytes (Some entry ∷ places) (content ∷ contents) = listed_step entry.local entry content (local_part places contents) (data_part room image places contents) (fetched_bytes places contents)

    old_at : (b : Bool) (file : LocalFile) (o : Option LocalFile) (p : Option DataFile) → bytes_of p ≡ bytes_at o → bytes_of (cond b (Some (shown_data room image file)) p) ≡ bytes_at (cond b (Some file) o)
    old_at true file o p rest = refl
    old_at false file o p rest = rest

    old_bytes : (old : List LocalFile) → data_bytes (map (shown_data room image) old) name ≡ bytes_at (local_named name old)
    old_bytes [] = refl
    old_bytes (file ∷ old) = old_at (bytes_eq file.name name) file (local_named name old) (find (λ (f : DataFile). bytes_eq f.name name) (map (shown_data room image) old)) (old_bytes old)

  -- a copy has the bytes of the file
  abbrev IsCopy : Draft → LocalFile → Type 0
  IsCopy draft file = bytes_in start (draft_blocks draft) file.length image ≡ local_bytes room image file

  module _ (old : List LocalFile) (places : List (Option FileEntry)) (contents : List Content) where
    abbrev fetched : List LocalFile
    fetched = local_part places contents

    abbrev originals : List ListedFile
    originals = data_part room image places contents

    abbrev make : LocalPlan → DataFile
    make = made (map (shown_data room image) old) originals

    fresh_made : (name : List ℕ) → shown_data room image (fresh_local name (local_named name fetched)) ≡ make (Fresh name)
    fresh_made name = fresh_at name (local_named name fetched) ∙ ap (λ (bs : List ℕ). record { name = name; bytes = bs }) (fetched_bytes name places contents)

    pub have_made : (copies : List Draft) (plans : List LocalPlan) → All (IsThere old fetched) plans → AllZip IsCopy copies (copied_locals old plans) → HaveMade room image old originals plans (made_locals old fetched copies plans)
    have_made copies [] there so = refl
    have_made copies (Fresh name ∷ plans) there so =
        ap (λ (f : DataFile). f ∷ map (shown_data room image) (made_locals old fetched copies plans)) (fresh_made name)
        ∙ ap (λ (fs : List DataFile). make (Fresh name) ∷ fs) (have_made copies plans (All-tail (IsThere old fetched) (Fresh name) plans there) so)
    have_made [] (Copy from to ∷ plans) there so = absurd (none (local_named from old) (All-head (IsThere old fetched) (Copy from to) plans there) so)
      where
        none : (o : Option LocalFile) → IsSome o → AllZip IsCopy [] (found_before o (copied_locals old plans)) → ⊥
        none None some nothing = not_true some
        none (Some file) some nothing = nothing
    have_made (draft ∷ copies) (Copy from to ∷ plans) there so =
        let both = split (local_named from old) (All-head (IsThere old fetched) (Copy from to) plans there) so in
        ap (λ (bs : List ℕ). record { name = to; bytes = bs } ∷ map (shown_data room image) (made_locals old fetched copies plans)) (both.0 ∙ sym (old_bytes from old))
        ∙ ap (λ (fs : List DataFile). make (Copy from to) ∷ fs) (have_made copies plans (All-tail (IsThere old fetched) (Copy from to) plans there) both.1)
      where
        split : (o : Option LocalFile) → IsSome o → AllZip IsCopy (draft ∷ copies) (found_before o (copied_locals old plans))
            → (bytes_in start (draft_blocks draft) (length_in o) image ≡ bytes_at o) × AllZip IsCopy copies (copied_locals old plans)
        split None some nothing = not_true some
        split (Some file) some both = both

-- ---- lengths alone

-- files of zeros, of these names and lengths
abbrev pub zero_data : List LocalFile → List DataFile
zero_data files = map (λ (f : LocalFile). record { name = f.name; bytes = replicate f.length 0 }) files

abbrev pub zero_files : List FileEntry → List ListedFile
zero_files entries = map (λ (e : FileEntry). record { entry = e; bytes = replicate e.size 0 }) entries

pub zero_bare : (files : List LocalFile) → map bare_data (zero_data files) ≡ map bare_local files
zero_bare [] = refl
zero_bare (file ∷ files) =
    ap (λ (n : ℕ). record { name = file.name; length = n } ∷ map bare_data (zero_data files)) (length-replicate file.length 0)
    ∙ ap (λ (bs : List BareData). bare_local file ∷ bs) (zero_bare files)

pub zero_names : (files : List LocalFile) → map (λ (f : DataFile). f.name) (zero_data files) ≡ local_names files
zero_names [] = refl
zero_names (file ∷ files) = ap (λ (ns : List (List ℕ)). file.name ∷ ns) (zero_names files)

pub zero_entries : (entries : List FileEntry) → map (λ (f : ListedFile). f.entry) (zero_files entries) ≡ entries
zero_entries [] = refl
zero_entries (entry ∷ entries) = ap (λ (es : List FileEntry). entry ∷ es) (zero_entries entries)

pub zero_sized : (entries : List FileEntry) → All (λ (f : ListedFile). length f.bytes ≡ f.entry.size) (zero_files entries)
zero_sized [] = All-nil (λ (f : ListedFile). length f.bytes ≡ f.entry.size)
zero_sized (entry ∷ entries) = All-cons (λ (f : ListedFile). length f.bytes ≡ f.entry.size) (record { entry = entry; bytes = replicate entry.size 0 }) (zero_files entries) (length-replicate entry.size 0) (zero_sized entries)

module _ (name : List ℕ) where
  zero_at : (b : Bool) (file : LocalFile) (o : Option LocalFile) (p : Option DataFile) → length (bytes_of p) ≡ length_in o
      → length (bytes_of (cond b (Some (record { name = file.name; bytes = replicate file.length 0 })) p)) ≡ length_in (cond b (Some file) o)
  zero_at true file o p rest = length-replicate file.length 0
  zero_at false file o p rest = rest

  zero_old : (files : List LocalFile) → length (data_bytes (zero_data files) name) ≡ length_in (local_named name files)
  zero_old [] = refl
  zero_old (file ∷ files) = zero_at (bytes_eq file.name name) file (local_named name files) (find (λ (f : DataFile). bytes_eq f.name name) (zero_data files)) (zero_old files)

  zero_in : (b : Bool) (entry : FileEntry) (o : Option FileEntry) (p : Option ListedFile) → length (listed_in p) ≡ size_of o
      → length (listed_in (cond b (Some (record { entry = entry; bytes = replicate entry.size 0 })) p)) ≡ size_of (cond b (Some entry) o)
  zero_in true entry o p rest = length-replicate entry.size 0
  zero_in false entry o p rest = rest

  zero_new : (entries : List FileEntry) → length (listed_bytes (zero_files entries) name) ≡ size_of (find (is_named name) entries)
  zero_new [] = refl
  zero_new (entry ∷ entries) = zero_in (bytes_eq entry.name name) entry (find (is_named name) entries) (find (λ (f : ListedFile). bytes_eq f.entry.name name) (zero_files entries)) (zero_new entries)

pub zero_made : (old : List LocalFile) (files : List FileEntry) (plans : List LocalPlan) → map bare_data (applied (zero_data old) (zero_files (deployed_files files)) plans) ≡ map (made_bare old files) plans
zero_made old files [] = refl
zero_made old files (Copy from to ∷ plans) =
    ap (λ (n : ℕ). record { name = to; length = n } ∷ map bare_data (applied (zero_data old) (zero_files (deployed_files files)) plans)) (zero_old from old)
    ∙ ap (λ (bs : List BareData). made_bare old files (Copy from to) ∷ bs) (zero_made old files plans)
zero_made old files (Fresh name ∷ plans) =
    ap (λ (n : ℕ). record { name = name; length = n } ∷ map bare_data (applied (zero_data old) (zero_files (deployed_files files)) plans)) (zero_new name (deployed_files files) ∙ ap size_of (deployed_named name files))
    ∙ ap (λ (bs : List BareData). made_bare old files (Fresh name) ∷ bs) (zero_made old files plans)
