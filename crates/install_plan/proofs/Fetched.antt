-- What was fetched of the wanted files: the contents of program files, and the data files.
use Rattle.std.proofs.Common.{◌≡◌, ◌∙◌, ◌&&◌, ◌++◌, ◌≤◌, inl, inr, refl, sym, ap, subst, ℕ, Bool, true, false, cond, not, List, [], ◌∷◌, length, map, All, Option, Result, Ok, arith}
use Rattle.std.specs.Prelude.{filter, is_none}
use Rattle.small_types.specs.declared.room.Room.{Room}
use Rattle.small_types.specs.declared.target.Target.{Target}
use Rattle.addresses.specs.declared.fault.UrlFault.{UrlFault}
use Rattle.digest_list.specs.declared.digest.Digest.{Digest}
use Rattle.digest_list.specs.Matches.{Matches}
use Rattle.manifests.specs.declared.facts.Application.{Application}
use Rattle.manifests.specs.declared.facts.FileEntry.{FileEntry}
use Rattle.machine.specs.Blocks.{standing_files}
use Rattle.machine.specs.Shape.{BareView}
use Rattle.machine.specs.Sound.{IsWhole}
use Rattle.machine.specs.Views.{ContentKey, ListedFile, content_key, is_required}
use Rattle.machine.specs.Wanted.{is_held, wanted, wanted_beside}
use Rattle.machine.proofs.Members.{In, all_in, in_all}
use Rattle.store_state.specs.declared.view.Content.{Content}
use Rattle.store_state.specs.Contents.{held_key}
use Rattle.store_state.specs.Stored.{content_bytes}
use Rattle.links.specs.Links.{LinksState}
use Rattle.install_plan.specs.Brought.{AreContentsFor, IsContentFor}
use Rattle.install_plan.specs.Changes.{data_part, is_data, program_part}
use Rattle.install_plan.specs.Given.{IsFromLeft}
use Rattle.install_plan.proofs.WantedPlaces.{count_for, oks, rest_is, somes, whole_for}
use Rattle.install_plan.proofs.InstallContents.{IsWholeContent, wanted_required}

-- ---- program files

part_in : (b : Bool) (c content : Content) (rest contents : List Content) → In c (cond b rest (content ∷ rest)) → (In c rest → In c contents) → In c (content ∷ contents)
part_in true c content rest contents there more = inr (more there)
part_in false c content rest contents (inl is) more = inl is
part_in false c content rest contents (inr later) more = inr (more later)

pub program_in : (places : List (Option FileEntry)) (contents : List Content) (c : Content) → In c (program_part places contents) → In c contents
program_in [] contents c there = there
program_in (place ∷ places) [] c there = there
program_in (place ∷ places) (content ∷ contents) c there = part_in (is_data place) c content (program_part places contents) contents there (program_in places contents c)

part_few : (b : Bool) (content : Content) (rest contents : List Content) → length rest ≤ length contents → length (cond b rest (content ∷ rest)) ≤ length (content ∷ contents)
part_few true content rest contents few = omega arith
part_few false content rest contents few = omega arith

pub program_few : (places : List (Option FileEntry)) (contents : List Content) → length (program_part places contents) ≤ length contents
program_few [] contents = omega arith
program_few (place ∷ places) [] = omega arith
program_few (place ∷ places) (content ∷ contents) = part_few (is_data place) content (program_part places contents) contents (program_few places contents)

-- ---- the wanted files among those that are listed

abbrev kept : List FileEntry → List FileEntry
kept xs = filter (λ (x : FileEntry). x.local) xs

local_step : (b t : Bool) (e : FileEntry) (x y es : List FileEntry) → e.local ≡ b → kept x ≡ kept es → kept y ≡ kept es → kept (cond b (e ∷ x) (cond t (e ∷ y) x)) ≡ kept (e ∷ es)
local_step true t e x y es is same more = ap (λ (xs : List FileEntry). cond e.local (e ∷ xs) xs) same
local_step false true e x y es is same more = ap (λ (xs : List FileEntry). cond e.local (e ∷ xs) xs) more
local_step false false e x y es is same more = same ∙ sym (ap (λ (b : Bool). cond b (e ∷ kept es) (kept es)) is)

pub local_wanted : (es held : List FileEntry) → filter (λ (e : FileEntry). e.local) (wanted_beside held es) ≡ filter (λ (e : FileEntry). e.local) es
local_wanted [] held = refl
local_wanted (e ∷ es) held = local_step e.local (is_required e && not (is_held held e)) e (wanted_beside held es) (wanted_beside (e ∷ held) es) es refl (local_wanted es held) (local_wanted es (e ∷ held))

-- each is a data file, or a required program file
abbrev IsEither : FileEntry → Type 0
IsEither e = is_required e ≡ not e.local

pub each_either : (es held : List FileEntry) (e : FileEntry) → In e (wanted_beside held es) → IsEither e
each_either es held e there = by e.local refl
  where
    by : (b : Bool) → e.local ≡ b → is_required e ≡ not e.local
    by true is = ap (λ (b : Bool). not b && is_none e.group) is ∙ sym (ap not is)
    by false is = wanted_required es held e there is ∙ sym (ap not is)

-- ---- the parts

abbrev one_of : Room → List ℕ → FileEntry → Content → ListedFile
one_of room image entry content = record { entry = entry; bytes = content_bytes room image content }

abbrev entries_of : List ListedFile → List FileEntry
entries_of files = map (λ (file : ListedFile). file.entry) files

data_step : (room : Room) (image : List ℕ) (b : Bool) (entry : FileEntry) (content : Content) (rest : List ListedFile) (es : List FileEntry) → entries_of rest ≡ es → entries_of (cond b (one_of room image entry content ∷ []) [] ++ rest) ≡ cond b (entry ∷ es) es
data_step room image true entry content rest es more = ap (λ (xs : List FileEntry). entry ∷ xs) more
data_step room image false entry content rest es more = more

keys_step : (b : Bool) (entry : FileEntry) (content : Content) (rest : List Content) (es : List FileEntry) → held_key content ≡ content_key entry → map held_key rest ≡ map content_key es
    → map held_key (cond b rest (content ∷ rest)) ≡ map content_key (cond (not b) (entry ∷ es) es)
keys_step true entry content rest es key more = more
keys_step false entry content rest es key more = ap (λ (k : ContentKey). k ∷ map held_key rest) key ∙ ap (λ (ks : List ContentKey). content_key entry ∷ ks) more

head_of : {X : Type 0} (x y : X) (xs ys : List X) → x ∷ xs ≡ y ∷ ys → x ≡ y
head_of x y xs ys e = cc

-- the data files among as many contents as entries
pub data_listed : (room : Room) (image : List ℕ) (entries : List FileEntry) (contents : List Content) → length contents ≡ length entries
    → map (λ (file : ListedFile). file.entry) (data_part room image (somes entries) contents) ≡ filter (λ (e : FileEntry). e.local) entries
data_listed room image [] contents same = refl
data_listed room image (entry ∷ entries) [] same = absurd (omega (arith, same))
data_listed room image (entry ∷ entries) (content ∷ contents) same =
    data_step room image entry.local entry content (data_part room image (somes entries) contents) (filter (λ (e : FileEntry). e.local) entries) (data_listed room image entries contents (omega (arith, same)))

module _ (room : Room) (image : List ℕ) (a c : LinksState) where
  pub program_keys : (entries : List FileEntry) (targets : List Target) (contents : List Content) → AreContentsFor room image a c entries targets contents → ((e : FileEntry) → In e entries → IsEither e)
      → map held_key (program_part (somes entries) contents) ≡ map content_key (filter is_required entries)
  program_keys [] [] [] are each = refl
  program_keys [] [] (content ∷ contents) are each = absurd are
  program_keys [] (target ∷ targets) contents are each = absurd are
  program_keys (entry ∷ entries) [] contents are each = absurd are
  program_keys (entry ∷ entries) (target ∷ targets) [] are each = absurd are
  program_keys (entry ∷ entries) (target ∷ targets) (content ∷ contents) are each =
      keys_step entry.local entry content (program_part (somes entries) contents) (filter is_required entries)
      (ap (λ (n : ℕ). record (held_key content) { size = n }) are.0.size ∙ ap (λ (l : List Digest). record (content_key entry) { list = l }) are.0.list)
      (program_keys entries targets contents are.1 (λ e there. each e (inr there)))
      ∙ sym (ap (λ (b : Bool). map content_key (cond b (entry ∷ filter is_required entries) (filter is_required entries))) (each entry (inl refl)))

  -- a data file that was got at its address
  pub record IsOriginal (at : FileEntry → Result Target UrlFault) (entries : List FileEntry) (file : ListedFile) : Type 0 where
    pub there : In file.entry entries
    pub local : file.entry.local ≡ true
    pub target : Target
    pub named : at file.entry ≡ Ok target
    pub from : IsFromLeft (Matches file.entry.list file.entry.size) target a c file.bytes

  original_later : (at : FileEntry → Result Target UrlFault) (entry : FileEntry) (entries : List FileEntry) (file : ListedFile) → IsOriginal at entries file → IsOriginal at (entry ∷ entries) file
  original_later at entry entries file is = record {
    there = inr is.there;
    local = is.local;
    target = is.target;
    named = is.named;
    from = is.from;
  }

  original_step : (b : Bool) (at : FileEntry → Result Target UrlFault) (entry : FileEntry) (entries : List FileEntry) (target : Target) (content : Content) (rest : List ListedFile) (file : ListedFile)
      → entry.local ≡ b → at entry ≡ Ok target → IsContentFor room image a c entry target content → In file (cond b (one_of room image entry content ∷ []) [] ++ rest) → (In file rest → IsOriginal at entries file) → IsOriginal at (entry ∷ entries) file
  original_step true at entry entries target content rest file is named got (inl same) more = subst (IsOriginal at (entry ∷ entries)) same (record {
    there = inl refl;
    local = is;
    target = target;
    named = named;
    from = got.from;
  })
  original_step true at entry entries target content rest file is named got (inr behind) more = original_later at entry entries file (more behind)
  original_step false at entry entries target content rest file is named got behind more = original_later at entry entries file (more behind)

  pub original_for : (at : FileEntry → Result Target UrlFault) (entries : List FileEntry) (targets : List Target) (contents : List Content) → AreContentsFor room image a c entries targets contents → map at entries ≡ oks targets
      → (file : ListedFile) → In file (data_part room image (somes entries) contents) → IsOriginal at entries file
  original_for at [] [] [] are named file there = absurd there
  original_for at [] [] (content ∷ contents) are named file there = absurd are
  original_for at [] (target ∷ targets) contents are named file there = absurd are
  original_for at (entry ∷ entries) [] contents are named file there = absurd are
  original_for at (entry ∷ entries) (target ∷ targets) [] are named file there = absurd are
  original_for at (entry ∷ entries) (target ∷ targets) (content ∷ contents) are named file there =
      original_step entry.local at entry entries target content (data_part room image (somes entries) contents) file refl (head_of (at entry) (Ok target) (map at entries) (oks targets) named) are.0 there
      (original_for at entries targets contents are.1 (rest_is (at entry) (Ok target) (map at entries) (oks targets) named) file)

  -- ---- all that is known of them

  pub record ArePartsOf (at : FileEntry → Result Target UrlFault) (views : List BareView) (app : Application) (contents : List Content) (places : List (Option FileEntry)) : Type 0 where
    pub keys : map held_key (program_part places contents) ≡ map content_key (filter is_required (wanted views app))
    pub whole : All (IsWholeContent room image) (program_part places contents)
    pub few : length (program_part places contents) ≤ length contents
    pub within : (content : Content) → In content (program_part places contents) → In content contents
    pub deployed : map (λ (file : ListedFile). file.entry) (data_part room image places contents) ≡ filter (λ (e : FileEntry). e.local) app.files
    pub originals : (file : ListedFile) → In file (data_part room image places contents) → IsOriginal at (wanted views app) file

  pub parts_are : (at : FileEntry → Result Target UrlFault) (views : List BareView) (app : Application) (contents : List Content) (places : List (Option FileEntry)) (targets : List Target)
      → places ≡ somes (wanted views app) → AreContentsFor room image a c (wanted views app) targets contents → map at (wanted views app) ≡ oks targets → ArePartsOf at views app contents places
  parts_are at views app contents places targets same are named =
      let entries = wanted views app in
      let whole = whole_for room image a c entries targets contents are in
      subst (ArePartsOf at views app contents) (sym same) (record {
        keys = program_keys entries targets contents are (each_either app.files (standing_files views));
        whole = in_all (IsWholeContent room image) (program_part (somes entries) contents) (λ content there. all_in (IsWholeContent room image) contents content whole (program_in (somes entries) contents content there));
        few = program_few (somes entries) contents;
        within = program_in (somes entries) contents;
        deployed = data_listed room image entries contents (count_for room image a c entries targets contents are) ∙ local_wanted app.files (standing_files views);
        originals = original_for at entries targets contents are named;
      })

-- the data files are whole
pub whole_originals : (room : Room) (image : List ℕ) (a c : LinksState) (at : FileEntry → Result Target UrlFault) (entries : List FileEntry) (files : List ListedFile) → ((file : ListedFile) → In file files → IsOriginal room image a c at entries file) → All IsWhole files
whole_originals room image a c at entries files each = in_all IsWhole files (λ file there. (each file there).from.from.fits)
