-- A step keeps a session sound.
use Rattle.std.proofs.Common.{◌≡◌, ◌≢◌, ◌∙◌, ◌⊎◌, ◌++◌, ◌&&◌, ◌<◌, ◌≤◌, inl, inr, refl, sym, ap, subst, ℕ, Bool, true, false, cond, eqb, eqb-true, not, List, [], ◌∷◌, map, All, AllPairs, Contains, bytes_eq, arith}
use Rattle.std.specs.Prelude.{filter}
use Rattle.std.proofs.lemmas.Bool.{and_from, and_parts, cond-true, false≢true, or_left}
use Rattle.std.proofs.lemmas.List.{length-map, map-append}
use Rattle.std.proofs.lemmas.List.Elements.{All-append}
use Rattle.std.proofs.lemmas.List.Kept.{AllPairs-cons, AllPairs-filter}
use Rattle.std.proofs.lemmas.Slice.Eq.{bytes_eq-Decides}
use Rattle.digest_list.specs.Matches.{Matches}
use Rattle.manifests.specs.declared.facts.Application.{Application}
use Rattle.manifests.specs.declared.facts.FileEntry.{FileEntry}
use Rattle.machine.specs.Blocks.{blocks_with}
use Rattle.machine.specs.Shape.{bare_view}
use Rattle.machine.specs.Sound.{IsWhole, program_files_of}
use Rattle.machine.specs.SoundSession.{IsComing, IsSoundJob, entries_of, program_files_in, wanted_entries}
use Rattle.machine.specs.Store.{Job, Session}
use Rattle.machine.specs.Valid.{AreNumbers}
use Rattle.machine.specs.Views.{ContentKey, ListedFile, content_key, is_required, same_content}
use Rattle.machine.proofs.ChangedLists.{all_mapped, flat_map_in, one_of, pairs_unmap, same_parts}
use Rattle.machine.proofs.Members.{In, all_in, contains_in, filter_in, in_all, in_contains, in_either, in_filter, in_flat_map, in_left, in_right, map_in, pairs_head, pairs_tail, pairs_weaker}
use Rattle.machine.proofs.OwnContents.{is_same, same_is}
use Rattle.machine.proofs.Shared.{AreAlike, alike_each, each_alike}
use Rattle.machine.proofs.ViewUse.{any_in, in_any}
use Rattle.job_machine.specs.FreeBytes.{IsFetched, program_files_held}
use Rattle.job_machine.specs.Jobs.{with_job_at}
use Rattle.job_machine.specs.Settled.{HaveOtherContents, IsSettled, SoundSessionWithJobs}
use Rattle.job_machine.specs.StepRow.{brought, other_sharing, stepped}
use Rattle.job_machine.proofs.JobFiles.{NamesApart, entry_listed, is_wanted, one_entry, required_is_program, wanted_is}
use Rattle.job_machine.proofs.Pairs.{pairs_cross, pairs_joined, pairs_left, pairs_right}

flip : (e f : FileEntry) → NamesApart e f → NamesApart f e
flip e f apart same = apart (sym same)

-- the file of an entry
abbrev with_bytes : List ℕ → FileEntry → ListedFile
with_bytes bytes entry = record { entry = entry; bytes = bytes }

-- entries of files that are made of entries
entries_back : (bytes : List ℕ) (entries : List FileEntry)
    → map (λ (f : ListedFile). f.entry) (map (with_bytes bytes) entries) ≡ entries
entries_back bytes [] = refl
entries_back bytes (entry ∷ entries) =
    ap (λ (es : List FileEntry). entry ∷ es) (entries_back bytes entries)

-- ---- the files that a step brings

abbrev pub others_of : Application → FileEntry → List FileEntry
others_of a entry = cond entry.local [] (other_sharing entry a.files)

-- one of the others is listed and required, of the content of the file, and under another name
pub record IsOther (a : Application) (entry other : FileEntry) : Type 0 where
  pub listed : In other a.files
  pub required : is_required other ≡ true
  pub content : content_key entry ≡ content_key other
  pub name : NamesApart other entry
  pub program : entry.local ≡ false

module _ (a : Application) (entry : FileEntry) where
  test_of : (other : FileEntry) → In other (other_sharing entry a.files) → entry.local ≡ false
      → IsOther a entry other
  test_of other there program =
      let found = filter_in (λ (o : FileEntry). not (bytes_eq o.name entry.name) && is_required o
      && same_content entry o) a.files other there in
      let both = and_parts (not (bytes_eq other.name entry.name) && is_required other)
      (same_content entry other) found.0 in
      let first = and_parts (not (bytes_eq other.name entry.name)) (is_required other) both.0 in
      record {
        listed = found.1;
        required = first.1;
        content = same_is entry other both.1;
        name = λ same. clash (bytes_eq other.name entry.name)
            ((bytes_eq-Decides other.name entry.name).1 same) first.0;
        program = program;
      }
    where
      clash : (b : Bool) → b ≡ true → not b ≡ true → ⊥
      clash true is other = absurd cc
      clash false is other = absurd cc

  pub other_is : (other : FileEntry) → In other (others_of a entry) → IsOther a entry other
  other_is other there = by entry.local refl there
    where
      by : (b : Bool) → entry.local ≡ b → In other (cond b [] (other_sharing entry a.files))
          → IsOther a entry other
      by true local none = absurd none
      by false program found = test_of other found program

  -- each required file of the content under another name is one of them
  pub other_there : (other : FileEntry) → In other a.files → is_required other ≡ true
      → content_key entry ≡ content_key other → entry.local ≡ false
      → NamesApart other entry → In other (others_of a entry)
  other_there other listed required content program apart =
      subst (λ (b : Bool). In other (cond b [] (other_sharing entry a.files))) (sym program)
      (in_filter (λ (o : FileEntry). not (bytes_eq o.name entry.name) && is_required o
      && same_content entry o) a.files other
      (and_from (not (bytes_eq other.name entry.name) && is_required other)
      (same_content entry other)
      (and_from (not (bytes_eq other.name entry.name)) (is_required other)
      (other_name (bytes_eq other.name entry.name) refl) required)
      (is_same entry other content)) listed)
    where
      other_name : (b : Bool) → bytes_eq other.name entry.name ≡ b
          → not (bytes_eq other.name entry.name) ≡ true
      other_name true is = absurd (apart ((bytes_eq-Decides other.name entry.name).0 is))
      other_name false is = ap not is

  -- no two have one name
  pub others_apart : AllPairs NamesApart a.files → AllPairs NamesApart (others_of a entry)
  others_apart differ = by entry.local
    where
      by : (b : Bool) → AllPairs NamesApart (cond b [] (other_sharing entry a.files))
      by true = λ i j d lt within. absurd (omega arith)
      by false =
          AllPairs-filter NamesApart (λ (o : FileEntry). not (bytes_eq o.name entry.name)
          && is_required o && same_content entry o) a.files differ

  module _ (bytes : List ℕ) where
    pub brought_entries : map (λ (f : ListedFile). f.entry) (brought a entry bytes)
        ≡ entry ∷ others_of a entry
    brought_entries = entries_back bytes (entry ∷ others_of a entry)

    -- what is brought has the bytes
    pub brought_is : (file : ListedFile) → In file (brought a entry bytes)
        → (file.bytes ≡ bytes) × ((entry ≡ file.entry) ⊎ IsOther a entry file.entry)
    brought_is file there =
        let from = map_in (with_bytes bytes) (entry ∷ others_of a entry) file there in (
          ap (λ (f : ListedFile). f.bytes) (sym from.2),
          by from.0 from.1 (ap (λ (f : ListedFile). f.entry) from.2),
        )
      where
        by : (e : FileEntry) → In e (entry ∷ others_of a entry) → e ≡ file.entry
            → (entry ≡ file.entry) ⊎ IsOther a entry file.entry
        by e (inl is) same = inl (is ∙ same)
        by e (inr other) same = inr (subst (IsOther a entry) same (other_is e other))

    -- and the content; where it is required, so is the file
    pub brought_content : (file : ListedFile) → In file (brought a entry bytes)
        → content_key entry ≡ content_key file.entry
    brought_content file there = by (brought_is file there).1
      where
        by : (entry ≡ file.entry) ⊎ IsOther a entry file.entry
            → content_key entry ≡ content_key file.entry
        by (inl is) = ap content_key is
        by (inr other) = other.content

    pub brought_program : (file : ListedFile) → In file (brought a entry bytes)
        → is_required file.entry ≡ true → entry.local ≡ false
    brought_program file there required = by (brought_is file there).1
      where
        by : (entry ≡ file.entry) ⊎ IsOther a entry file.entry → entry.local ≡ false
        by (inl is) = required_is_program entry (ap is_required is ∙ required)
        by (inr other) = other.program

-- ---- the job

module _ (job : Job) (its : IsSoundJob job) (settled : IsSettled job) (entry : FileEntry)
    (rest : List FileEntry) (first : job.left ≡ entry ∷ rest) (bytes : List ℕ)
    (whole : IsWhole (record { entry = entry; bytes = bytes })) where
  abbrev a : Application
  a = job.application

  abbrev new : Job
  new = stepped entry bytes rest job

  abbrev had : List FileEntry
  had = map (λ (f : ListedFile). f.entry) job.files

  abbrev others : List FileEntry
  others = others_of job.application entry

  known_left : (e : FileEntry) → In e (entry ∷ rest) → In e (entries_of job)
  known_left e there =
      in_left job.left had e (subst (λ (es : List FileEntry). In e es) (sym first) there)

  known_had : (e : FileEntry) → In e had → In e (entries_of job)
  known_had e there = in_right job.left had e there

  known : (e : FileEntry) → In e (rest ++ had) → In e (entries_of job)
  known e there = by (in_either rest had e there)
    where
      by : In e rest ⊎ In e had → In e (entries_of job)
      by (inl later) = known_left e (inr later)
      by (inr have) = known_had e have

  listed : (e : FileEntry) → In e (entries_of job) → In e a.files
  listed e there = (wanted_is a e (entry_listed job its e there)).0

  entry_wanted : In entry (wanted_entries a)
  entry_wanted = entry_listed job its entry (known_left entry (inl refl))

  entry_required : entry.local ≡ false → is_required entry ≡ true
  entry_required program = by (wanted_is a entry entry_wanted).1
    where
      by : (is_required entry ≡ true) ⊎ (entry.local ≡ true) → is_required entry ≡ true
      by (inl is) = is
      by (inr local) = absurd (false≢true (sym program ∙ local))

  -- ---- its entries

  entries_new : entries_of new ≡ rest ++ (had ++ entry ∷ others)
  entries_new =
      ap (λ (es : List FileEntry). rest ++ es)
      (map-append (λ (f : ListedFile). f.entry) job.files (brought a entry bytes)
      ∙ ap (λ (es : List FileEntry). had ++ es) (brought_entries a entry bytes))

  new_in : (e : FileEntry) → In e (rest ++ (had ++ entry ∷ others)) → In e (entries_of new)
  new_in e there = subst (λ (es : List FileEntry). In e es) (sym entries_new) there

  new_rest : (e : FileEntry) → In e rest → In e (entries_of new)
  new_rest e there = new_in e (in_left rest (had ++ entry ∷ others) e there)

  new_had : (e : FileEntry) → In e had → In e (entries_of new)
  new_had e there =
      new_in e (in_right rest (had ++ entry ∷ others) e (in_left had (entry ∷ others) e there))

  new_came : (e : FileEntry) → In e (entry ∷ others) → In e (entries_of new)
  new_came e there =
      new_in e (in_right rest (had ++ entry ∷ others) e (in_right had (entry ∷ others) e there))

  -- ---- its contents

  settled_pairs : AllPairs HaveOtherContents (filter is_required (entry ∷ rest))
  settled_pairs =
      subst (λ (es : List FileEntry). AllPairs HaveOtherContents (filter is_required es)) first
      settled.once

  rest_pairs : AllPairs HaveOtherContents (filter is_required rest)
  rest_pairs = by (is_required entry) settled_pairs
    where
      by : (b : Bool)
          → AllPairs HaveOtherContents (cond b (entry ∷ filter is_required rest) (filter is_required rest))
          → AllPairs HaveOtherContents (filter is_required rest)
      by true pairs = pairs_tail HaveOtherContents entry (filter is_required rest) pairs
      by false pairs = pairs

  -- no other one that is left has the content of the file
  rest_other : (e : FileEntry) → In e rest → is_required e ≡ true → is_required entry ≡ true
      → HaveOtherContents entry e
  rest_other e there required own =
      all_in (HaveOtherContents entry) (filter is_required rest) e
      (pairs_head HaveOtherContents entry (filter is_required rest)
      (subst (AllPairs HaveOtherContents)
      (cond-true (is_required entry) (entry ∷ filter is_required rest) (filter is_required rest) own)
      settled_pairs))
      (in_filter is_required rest e required there)

  -- nor has one that is there
  had_other : (e : FileEntry) → In e (entry ∷ rest) → is_required e ≡ true
      → (file : ListedFile) → In file job.files → is_required file.entry ≡ true
      → HaveOtherContents e file.entry
  had_other e there required file has program =
      all_in (λ (f : ListedFile). HaveOtherContents e f.entry) (program_files_in (job ∷ [])) file
      (all_in
      (λ (x : FileEntry).
      All (λ (f : ListedFile). HaveOtherContents x f.entry) (program_files_in (job ∷ [])))
      (filter is_required job.left) e settled.new
      (in_filter is_required job.left e required
      (subst (λ (es : List FileEntry). In e es) (sym first) there)))
      (in_left (filter (λ (f : ListedFile). is_required f.entry) job.files) [] file
      (in_filter (λ (f : ListedFile). is_required f.entry) job.files file program has))

  -- ---- each file is coming

  coming : (e : FileEntry) → In e (wanted_entries a) → IsComing job e → IsComing new e
  coming e wanted (inl there) = by (in_either job.left had e (in_contains (entries_of job) e there))
    where
      left_by : In e (entry ∷ rest) → IsComing new e
      left_by (inl is) = inl (contains_in (entries_of new) e (new_came e (inl is)))
      left_by (inr later) = inl (contains_in (entries_of new) e (new_rest e later))

      by : In e job.left ⊎ In e had → IsComing new e
      by (inl left) = left_by (subst (λ (es : List FileEntry). In e es) first left)
      by (inr have) = inl (contains_in (entries_of new) e (new_had e have))
  coming e wanted (inr content) =
      let of = in_any
      (λ (o : FileEntry). (is_required o ≡ true) × (content_key o ≡ content_key e)) job.left content.1
      in
      by of.0 (subst (λ (es : List FileEntry). In of.0 es) first of.1) of.2.0 of.2.1
    where
      named : (b : Bool) → bytes_eq e.name entry.name ≡ b → content_key entry ≡ content_key e
          → entry.local ≡ false → In e (entry ∷ others)
      named true is same program =
          inl (one_entry a its.application entry e (listed entry (known_left entry (inl refl)))
          (wanted_is a e wanted).0 (sym ((bytes_eq-Decides e.name entry.name).0 is)))
      named false is same program =
          inr (other_there a entry e (wanted_is a e wanted).0 content.0 same program
          (λ names. absurd (false≢true (sym is ∙ (bytes_eq-Decides e.name entry.name).1 names))))

      by : (o : FileEntry) → In o (entry ∷ rest) → is_required o ≡ true
          → content_key o ≡ content_key e → IsComing new e
      by o (inl is) required same =
          inl (contains_in (entries_of new) e (new_came e (named (bytes_eq e.name entry.name) refl
          (ap content_key is ∙ same) (required_is_program entry (ap is_required is ∙ required)))))
      by o (inr later) required same =
          inr (
            content.0,
            any_in (λ (x : FileEntry). (is_required x ≡ true) × (content_key x ≡ content_key e)) rest o
                later (required, same),
          )

  -- ---- no file twice

  were_apart : AllPairs NamesApart (entry ∷ (rest ++ had))
  were_apart = subst (λ (es : List FileEntry). AllPairs NamesApart (es ++ had)) first its.once

  entry_apart : (e : FileEntry) → In e (rest ++ had) → NamesApart entry e
  entry_apart e there =
      all_in (NamesApart entry) (rest ++ had) e
      (pairs_head NamesApart entry (rest ++ had) were_apart) there

  still_apart : AllPairs NamesApart (rest ++ had)
  still_apart = pairs_tail NamesApart entry (rest ++ had) were_apart

  other_apart : (o : FileEntry) → In o others → (e : FileEntry) → In e (rest ++ had)
      → NamesApart e o
  other_apart o there e of names =
      let is = other_is a entry o there in
      let same = one_entry a its.application e o (listed e (known e of)) is.listed names in
      by is same (in_either rest had e of)
    where
      by : IsOther a entry o → e ≡ o → In e rest ⊎ In e had → ⊥
      by is same (inl later) =
          rest_other e later (ap is_required same ∙ is.required) (entry_required is.program)
          (is.content ∙ ap content_key (sym same))
      by is same (inr have) =
          let file = map_in (λ (f : ListedFile). f.entry) job.files e have in
          had_other entry (inl refl) (entry_required is.program) file.0 file.1
          (ap is_required (file.2 ∙ same) ∙ is.required)
          (is.content ∙ ap content_key (sym (file.2 ∙ same)))

  came_apart : AllPairs NamesApart (entry ∷ others)
  came_apart =
      AllPairs-cons NamesApart entry others
      (in_all (NamesApart entry) others (λ o there. flip o entry (other_is a entry o there).name))
      (others_apart a entry its.application.facts.files.differ)

  apart_from_came : (e f : FileEntry) → In e (rest ++ had) → In f (entry ∷ others) → NamesApart e f
  apart_from_came e f there (inl is) = subst (NamesApart e) is (flip entry e (entry_apart e there))
  apart_from_came e f there (inr other) = other_apart f other e there

  new_once : AllPairs NamesApart (entries_of new)
  new_once =
      subst (AllPairs NamesApart) (sym entries_new)
      (pairs_joined NamesApart rest (had ++ entry ∷ others)
      (pairs_left NamesApart rest had still_apart)
      (pairs_joined NamesApart had (entry ∷ others) (pairs_right NamesApart rest had still_apart)
      came_apart (λ e f x y. apart_from_came e f (in_right rest had e x) y))
      (λ e f x y. by e f x (in_either had (entry ∷ others) f y)))
    where
      by : (e f : FileEntry) → In e rest → In f had ⊎ In f (entry ∷ others) → NamesApart e f
      by e f there (inl have) = pairs_cross NamesApart rest had still_apart e f there have
      by e f there (inr came) = apart_from_came e f (in_left rest had e there) came

  -- ---- the new job

  came_whole : (file : ListedFile) → In file (brought a entry bytes) → IsWhole file
  came_whole file there =
      let same = (brought_is a entry bytes file there).0 in
      subst (λ (k : ContentKey). Matches k.list k.size file.bytes)
      (brought_content a entry bytes file there)
      (subst (λ (b : List ℕ). Matches entry.list entry.size b) (sym same) whole)

  came_wanted : (e : FileEntry) → In e (entry ∷ others) → In e (wanted_entries a)
  came_wanted e (inl is) = subst (λ (x : FileEntry). In x (wanted_entries a)) is entry_wanted
  came_wanted e (inr other) =
      let is = other_is a entry e other in
      is_wanted a e is.listed (or_left (is_required e) e.local is.required)

  new_only : (e : FileEntry) → In e (entries_of new) → In e (wanted_entries a)
  new_only e there =
      by (in_either rest (had ++ entry ∷ others) e
      (subst (λ (es : List FileEntry). In e es) entries_new there))
    where
      inner : In e had ⊎ In e (entry ∷ others) → In e (wanted_entries a)
      inner (inl have) = entry_listed job its e (known_had e have)
      inner (inr came) = came_wanted e came

      by : In e rest ⊎ In e (had ++ entry ∷ others) → In e (wanted_entries a)
      by (inl later) = entry_listed job its e (known_left e (inr later))
      by (inr behind) = inner (in_either had (entry ∷ others) e behind)

  pub new_sound : IsSoundJob new
  new_sound = record {
    url = its.url;
    base = its.base;
    deployment = its.deployment;
    application = its.application;
    key = its.key;
    version = its.version;
    each = in_all (IsComing new) (wanted_entries a)
        (λ e there. coming e there (all_in (IsComing job) (wanted_entries a) e its.each there));
    only = in_all (Contains (wanted_entries a)) (entries_of new)
        (λ e there. contains_in (wanted_entries a) e (new_only e there));
    once = new_once;
    whole = All-append IsWhole job.files (brought a entry bytes) its.whole
        (in_all IsWhole (brought a entry bytes) came_whole);
  }

  -- what is left has contents of its own
  left_other : (e : FileEntry) → In e (filter is_required rest) → (file : ListedFile)
      → In file (program_files_in (new ∷ [])) → HaveOtherContents e file.entry
  left_other e there file of =
      by (in_either (filter (λ (f : ListedFile). is_required f.entry) new.files) [] file of)
    where
      came : is_required file.entry ≡ true → In file (brought a entry bytes)
          → HaveOtherContents e file.entry
      came required has same =
          rest_other e (filter_in is_required rest e there).1
          (filter_in is_required rest e there).0
          (entry_required (brought_program a entry bytes file has required))
          (brought_content a entry bytes file has ∙ sym same)

      either : is_required file.entry ≡ true
          → In file job.files ⊎ In file (brought a entry bytes) → HaveOtherContents e file.entry
      either required (inl has) =
          had_other e (inr (filter_in is_required rest e there).1)
          (filter_in is_required rest e there).0 file has required
      either required (inr has) = came required has

      by : In file (filter (λ (f : ListedFile). is_required f.entry) new.files) ⊎ In file []
          → HaveOtherContents e file.entry
      by (inr none) = absurd none
      by (inl has) =
          let found = filter_in (λ (f : ListedFile). is_required f.entry) new.files file has in
          either found.0 (in_either job.files (brought a entry bytes) file found.1)

  pub new_settled : IsSettled new
  new_settled = record {
    once = rest_pairs;
    new = in_all
        (λ (e : FileEntry).
        All (λ (f : ListedFile). HaveOtherContents e f.entry) (program_files_in (new ∷ [])))
        (filter is_required rest)
        (λ e there. in_all (λ (f : ListedFile). HaveOtherContents e f.entry)
        (program_files_in (new ∷ [])) (left_other e there));
  }

-- ---- the session

module _ (number : ℕ) (old : Session) (was : SoundSessionWithJobs old) (job : Job)
    (there : In job old.jobs) (numbered : job.number ≡ number) (entry : FileEntry)
    (rest : List FileEntry) (first : job.left ≡ entry ∷ rest) (bytes : List ℕ)
    (fetched : IsFetched old (record { entry = entry; bytes = bytes })) where
  abbrev change : Job → Job
  change j = cond (eqb j.number number) (stepped entry bytes rest j) j

  abbrev jobs : List Job
  jobs = with_job_at number (stepped entry bytes rest) old.jobs

  its : IsSoundJob job
  its = all_in IsSoundJob old.jobs job was.sound.jobs there

  -- the job of the number is that one
  only_one : (j : Job) → In j old.jobs → eqb j.number number ≡ true → j ≡ job
  only_one j of same =
      one_of (λ (x : Job). x.number) old.jobs
      (pairs_weaker (λ (x y : Job). x.number < y.number) (λ (x y : Job). x.number ≢ y.number)
      old.jobs (λ x y less equal. (let e = equal in absurd (omega (arith, less, e))))
      (pairs_unmap (λ (x : Job). x.number) (λ (m n : ℕ). m < n) old.jobs was.sound.job_numbers.rising))
      j job of there (eqb-true j.number number same ∙ sym numbered)

  -- what holds of each job holds still, where it does of that one
  pub changed_all : (P : Job → Type 0) → (P job → P (stepped entry bytes rest job))
      → All P old.jobs → All P jobs
  changed_all P steps all =
      all_mapped change P P old.jobs (λ j of p. by j of (eqb j.number number) refl p) all
    where
      by : (j : Job) → In j old.jobs → (b : Bool) → eqb j.number number ≡ b → P j
          → P (cond b (stepped entry bytes rest j) j)
      by j of false other p = p
      by j of true same p =
          let is = only_one j of same in
          subst (λ (x : Job). P (stepped entry bytes rest x)) (sym is) (steps (subst P is p))

  -- a part of jobs that a step leaves
  part_left : {X : Type 0} (part : Job → X)
      → ((j : Job) → part (stepped entry bytes rest j) ≡ part j)
      → map part jobs ≡ map part old.jobs
  part_left part leaves = same_parts change part (λ j. by j (eqb j.number number)) old.jobs
    where
      by : (j : Job) (b : Bool) → part (cond b (stepped entry bytes rest j) j) ≡ part j
      by j true = leaves j
      by j false = refl

  -- a program file was held, or is brought
  abbrev Brought : ListedFile → Type 0
  Brought file =
      (is_required file.entry ≡ true) × In file (brought job.application entry bytes)

  held_or_brought : (file : ListedFile)
      → In file (program_files_of old.store ++ program_files_in jobs)
      → In file (program_files_held old) ⊎ Brought file
  held_or_brought file of =
      by (in_either (program_files_of old.store) (program_files_in jobs) file of)
    where
      of_jobs : In file (program_files_in old.jobs) → In file (program_files_held old)
      of_jobs has = in_right (program_files_of old.store) (program_files_in old.jobs) file has

      has_file : (j : Job) → In j old.jobs → is_required file.entry ≡ true → In file j.files
          → In file (program_files_held old)
      has_file j known required has =
          of_jobs (in_flat_map
          (λ (x : Job). filter (λ (f : ListedFile). is_required f.entry) x.files) old.jobs j file
          known (in_filter (λ (f : ListedFile). is_required f.entry) j.files file required has))

      either : (j : Job) → In j old.jobs → j ≡ job → is_required file.entry ≡ true
          → In file j.files ⊎ In file (brought j.application entry bytes)
          → In file (program_files_held old) ⊎ Brought file
      either j known is required (inl has) = inl (has_file j known required has)
      either j known is required (inr came) =
          inr (
            required,
            subst (λ (x : Job). In file (brought x.application entry bytes)) is came,
          )

      of_job : (j : Job) → In j old.jobs → (b : Bool) → eqb j.number number ≡ b
          → (is_required file.entry ≡ true) × In file (cond b (stepped entry bytes rest j) j).files
          → In file (program_files_held old) ⊎ Brought file
      of_job j known false other has = inl (has_file j known has.0 has.1)
      of_job j known true same has =
          either j known (only_one j known same) has.0
          (in_either j.files (brought j.application entry bytes) file has.1)

      by : In file (program_files_of old.store) ⊎ In file (program_files_in jobs)
          → In file (program_files_held old) ⊎ Brought file
      by (inl stands) =
          inl (in_left (program_files_of old.store) (program_files_in old.jobs) file stands)
      by (inr has) =
          let found = flat_map_in
          (λ (x : Job). filter (λ (f : ListedFile). is_required f.entry) x.files) jobs file has in
          let from = map_in change old.jobs found.0 found.1 in
          let own = filter_in (λ (f : ListedFile). is_required f.entry) (change from.0).files file
          (subst (λ (x : Job). In file (filter (λ (f : ListedFile). is_required f.entry) x.files))
          (sym from.2) found.2) in
          of_job from.0 from.1 (eqb from.0.number number) refl own

  -- what is brought has the bytes that are held
  agrees : (f g : ListedFile) → In f (program_files_held old) → Brought g
      → content_key f.entry ≡ content_key g.entry → f.bytes ≡ g.bytes
  agrees f g held came same =
      let content = brought_content job.application entry bytes g came.1 in
      all_in (λ (other : ListedFile). content_key other.entry ≡ content_key entry → other.bytes ≡ bytes)
      (program_files_held old) f
      (fetched.agrees (brought_program job.application entry bytes g came.1 came.0)) held
      (same ∙ sym content)
      ∙ sym (brought_is job.application entry bytes g came.1).0

  alike : (f g : ListedFile) → In f (program_files_held old) ⊎ Brought f
      → In g (program_files_held old) ⊎ Brought g → AreAlike f g
  alike f g (inl x) (inl y) = each_alike (program_files_held old) was.sound.shared f g x y
  alike f g (inl x) (inr y) = agrees f g x y
  alike f g (inr x) (inl y) = λ same. sym (agrees g f y x (sym same))
  alike f g (inr x) (inr y) = λ same.
      (brought_is job.application entry bytes f x.1).0
      ∙ sym (brought_is job.application entry bytes g y.1).0

  pub stepped_sound : SoundSessionWithJobs (record old { jobs = jobs })
  stepped_sound = record {
    sound = record {
      store = was.sound.store;
      job_numbers = subst (AreNumbers old.next_job) (sym (part_left (λ (j : Job). j.number) (λ j. refl)))
          was.sound.job_numbers;
      few_jobs = (let same = length-map old.jobs change in
          let few = was.sound.few_jobs in omega (arith, same, few));
      jobs = changed_all IsSoundJob (λ sound. new_sound job its (all_in IsSettled old.jobs job was.settled there)
          entry rest first bytes fetched.whole) was.sound.jobs;
      shared = alike_each (program_files_of old.store ++ program_files_in jobs)
          (λ f g x y. alike f g (held_or_brought f x) (held_or_brought g y));
      room = subst
          (λ (apps : List Application). blocks_with (map bare_view old.store.views) apps
          ≤ old.store.room.blocks)
          (sym (part_left (λ (j : Job). j.application) (λ j. refl))) was.sound.room;
    };
    settled = changed_all IsSettled (λ settled. new_settled job its settled entry rest first bytes
        fetched.whole) was.settled;
  }
