-- The two readings of a file, among all that a folder answered.
use Rattle.std.proofs.Common.{◌≡◌, ℕ, ◌+◌, ◌<◌, ◌≤◌, zero, suc, true, false, List, [], ◌∷◌, ◌++◌, All, length, get_or, take, append_assoc, Option, Ok, Err, IfOk, IfErr, OnOk, refl, sym, ap, subst, ◌∙◌, arith}
use Rattle.std.specs.Prelude.{not}
use Rattle.std.specs.List.{list_all}
use Rattle.std.proofs.lemmas.List.{take_all, take_more}
use Rattle.small_types.specs.declared.limits.TheConstants.{FILE_SIZE_LIMIT}
use Rattle.folders.specs.declared.answer.FolderAnswer.{FolderAnswer}
use Rattle.folders.specs.declared.answer.FolderAnswer.TheVariants.{Listed, Gave, Measured, Put}
use Rattle.folders.specs.Honesty.{AllLeave, Leaves}
use Rattle.folders.specs.Told.{told_put}
use Rattle.folders.proofs.PutFiles.{clash}
use Rattle.digest_list.specs.Difference.{difference_of}
use Rattle.manifests.specs.declared.facts.FileEntry.{FileEntry}
use Rattle.publish_plan.specs.declared.fault.PlanFault.{PlanFault}
use Rattle.publish_plan.specs.declared.fault.PlanFault.TheVariants as plan
use Rattle.publish_plan.specs.declared.options.PlannedFile.{PlannedFile}
use Rattle.publish_plan.specs.Places.{lies_below, within}
use Rattle.publisher.specs.declared.fault.PublishFault.{PublishFault}
use Rattle.publisher.specs.declared.fault.PublishFault.TheVariants.{ReadFault, WriteFault, FileTooLong, ManifestTooLong, Changed, Memory}
use Rattle.publisher.specs.Changes.{IsChangeOf, IsLate}
use Rattle.publisher.specs.Entries.{AreEntries}
use Rattle.publisher.specs.Faults.{IsManifestFault, IsReading, IsWriting, fault_of}
use Rattle.publisher.specs.Publication.{Outcome, entry_of}
use Rattle.publisher.specs.Puts.{is_apart}
use Rattle.publisher.specs.Readings.{AnswersMore, AreReadings, CopiesFile, IsFirstReading, IsSourced, ReadsChange, ReadsEach, ReadsEntry, ReadsFile, ReadsTwice, ShowsOther, given_bytes}
use Rattle.publisher.proofs.EntryReads.{entry_is, entry_small}
use Rattle.publisher.proofs.Outcomes.{err_then}
use Rattle.publisher.proofs.SecondReads.{all_at, left_so, not_so, right_so}

-- ---- one call

pub answers_more : (old new more : List FolderAnswer) → new ≡ old ++ more → AnswersMore old new
answers_more old new more told = record { more = more; told = told }

pub read_given : (name bytes : List ℕ) (given : Option (List ℕ)) (old new : List FolderAnswer) → new ≡ old ++ Gave name given ∷ [] → bytes ≡ given_bytes given → ReadsFile name bytes old new
read_given name bytes given old new told is = record { given = given; told = told; is = is }

-- the same bytes
pub reads_as : (name bytes other : List ℕ) (old new : List FolderAnswer) → other ≡ bytes → ReadsFile name bytes old new → ReadsFile name other old new
reads_as name bytes other old new same read = record { given = read.given; told = read.told; is = same ∙ read.is }

pub entry_read_so : (file : PlannedFile) (bytes other : List ℕ) (old new : List FolderAnswer) (r : Outcome FileEntry) → other ≡ bytes → ReadsFile file.source bytes old new → IfOk r (λ e. e ≡ entry_of file other)
    → IfOk r (λ e. ReadsEntry file e old new)
entry_read_so file bytes other old new (Ok e) same read is = record { given = read.given; told = read.told; is = is ∙ ap (entry_of file) (same ∙ read.is) }
entry_read_so file bytes other old new (Err e) same read is = tt

-- a reading, and then a writing
pub copied : (file : PlannedFile) (read put : List ℕ) (old mid new : List FolderAnswer) (r : Outcome (Unit {0})) → ReadsFile file.source read old mid → new ≡ mid ++ told_put file.target put r → OnOk r (CopiesFile file old new)
copied file read put old mid new (Ok done) gave told = record {
  given = gave.given;
  bytes = put;
  done = true;
  told = told ∙ ap (λ (xs : List FolderAnswer). xs ++ Put file.target put true ∷ []) gave.told ∙ append_assoc old (Gave file.source gave.given ∷ []) (Put file.target put true ∷ []);
}
copied file read put old mid new (Err e) gave told = tt

-- ---- faults that are no change

pub reading_first : (e : PublishFault) → IsReading e → IsFirstReading e
reading_first ReadFault fault = tt
reading_first Memory fault = tt
reading_first e fault = absurd fault

pub first_late : (e : PublishFault) → IsFirstReading e → IsLate e
first_late ReadFault fault = tt
first_late (FileTooLong file length) fault = tt
first_late Memory fault = tt
first_late e fault = absurd fault

module _ (file : PlannedFile) (entry : FileEntry) (old new : List FolderAnswer) where
  pub reading_other : (e : PublishFault) → IsReading e → ShowsOther file entry old new e
  reading_other ReadFault fault = tt
  reading_other Memory fault = tt
  reading_other e fault = absurd fault

  pub writing_other : (e : PublishFault) → IsWriting e → ShowsOther file entry old new e
  writing_other WriteFault fault = tt
  writing_other Memory fault = tt
  writing_other e fault = absurd fault

  pub never_other : (r : Outcome (Unit {0})) → IfErr r IsWriting → IfErr r (ShowsOther file entry old new)
  never_other r fault = err_then r IsWriting (ShowsOther file entry old new) writing_other fault

  -- the bytes that were compared are those that were given
  pub change_other : (bytes : List ℕ) (e : PublishFault) → ReadsFile file.source bytes old new → IsChangeOf entry bytes e → ShowsOther file entry old new e
  change_other bytes (Changed name difference) read change = record {
    named = change.0;
    again = read.given;
    told = read.told;
    is = ap (difference_of entry.list entry.size) (sym read.is) ∙ change.1;
  }
  change_other bytes Memory read change = tt
  change_other bytes e read change = absurd change

module _ (from : List ℕ) (old new : List FolderAnswer) where
  pub first_reads : (e : PublishFault) → IsFirstReading e → ReadsChange from old new e
  first_reads ReadFault fault = tt
  first_reads (FileTooLong file length) fault = tt
  first_reads Memory fault = tt
  first_reads e fault = absurd fault

  pub listing_reads : (e : PublishFault) → IsReading e → ReadsChange from old new e
  listing_reads e fault = first_reads e (reading_first e fault)

  pub writing_reads : (e : PublishFault) → IsWriting e → ReadsChange from old new e
  writing_reads WriteFault fault = tt
  writing_reads Memory fault = tt
  writing_reads e fault = absurd fault

  pub manifest_reads : (e : PublishFault) → IsManifestFault e → ReadsChange from old new e
  manifest_reads (ManifestTooLong length) fault = tt
  manifest_reads Memory fault = tt
  manifest_reads e fault = absurd fault

  pub plan_reads : (f : PlanFault) → ReadsChange from old new (fault_of f)
  plan_reads plan.Memory = tt
  plan_reads f = tt

-- ---- the first reading of each file

one_more : (files : List PlannedFile) (entries : List FileEntry) (answers : List FolderAnswer) (file : PlannedFile) (given : Option (List ℕ)) → AreReadings files entries answers
    → AreReadings (files ++ file ∷ []) (entries ++ entry_of file (given_bytes given) ∷ []) (answers ++ Gave file.source given ∷ [])
one_more [] [] [] file given are = (refl, refl, tt)
one_more (f ∷ fs) (e ∷ es) (Gave name other ∷ answers) file given are = (are.0, are.1, one_more fs es answers file given are.2)
one_more [] [] (a ∷ answers) file given are = absurd are
one_more [] (e ∷ es) answers file given are = absurd are
one_more (f ∷ fs) [] answers file given are = absurd are
one_more (f ∷ fs) (e ∷ es) [] file given are = absurd are
one_more (f ∷ fs) (e ∷ es) (Listed names ∷ answers) file given are = absurd are
one_more (f ∷ fs) (e ∷ es) (Measured name n ∷ answers) file given are = absurd are
one_more (f ∷ fs) (e ∷ es) (Put name bytes done ∷ answers) file given are = absurd are

pub reads_more : (files : List PlannedFile) (i : ℕ) (made : List FileEntry) (file : PlannedFile) (entry : FileEntry) (old mid new : List FolderAnswer) → i < length files → file ≡ get_or files i file
    → ReadsEach (take i files) made old mid → ReadsEntry file entry mid new → ReadsEach (take (i + 1) files) (made ++ entry ∷ []) old new
reads_more files i made file entry old mid new inside is so_far read =
    let next : AreReadings (take i files ++ file ∷ []) (made ++ entry_of file (given_bytes read.given) ∷ []) (so_far.more ++ Gave file.source read.given ∷ []) = one_more (take i files) made so_far.more file read.given so_far.each in
    let listed : AreReadings (take i files ++ file ∷ []) (made ++ entry ∷ []) (so_far.more ++ Gave file.source read.given ∷ []) =
    subst (λ (e : FileEntry). AreReadings (take i files ++ file ∷ []) (made ++ e ∷ []) (so_far.more ++ Gave file.source read.given ∷ [])) (sym read.is) next in
    let longer : take i files ++ file ∷ [] ≡ take (i + 1) files = ap (λ (f : PlannedFile). take i files ++ f ∷ []) is ∙ sym (take_more files i file inside) in
    record {
      more = so_far.more ++ Gave file.source read.given ∷ [];
      told = read.told ∙ ap (λ (xs : List FolderAnswer). xs ++ Gave file.source read.given ∷ []) so_far.told ∙ append_assoc old so_far.more (Gave file.source read.given ∷ []);
      each = subst (λ (fs : List PlannedFile). AreReadings fs (made ++ entry ∷ []) (so_far.more ++ Gave file.source read.given ∷ [])) longer listed;
    }

pub reads_all : (files : List PlannedFile) (i : ℕ) (made : List FileEntry) (old new : List FolderAnswer) → length files ≤ i → ReadsEach (take i files) made old new → ReadsEach files made old new
reads_all files i made old new all so_far = subst (λ (fs : List PlannedFile). ReadsEach fs made old new) (take_all i files all) so_far

-- where the reading of one file stands; nothing was put behind it
record ReadAt (file : PlannedFile) (entry : FileEntry) (answers : List FolderAnswer) : Type 0 where
  before : List FolderAnswer
  given : Option (List ℕ)
  after : List FolderAnswer
  told : answers ≡ before ++ Gave file.source given ∷ after
  left : (name : List ℕ) → AllLeave name after
  is : entry ≡ entry_of file (given_bytes given)

all_leave : (files : List PlannedFile) (entries : List FileEntry) (answers : List FolderAnswer) (name : List ℕ) → AreReadings files entries answers → AllLeave name answers
all_leave files entries [] name are = tt
all_leave (f ∷ fs) (e ∷ es) (Gave other given ∷ answers) name are = (tt, all_leave fs es answers name are.2)
all_leave [] [] (a ∷ answers) name are = absurd are
all_leave [] (e ∷ es) (a ∷ answers) name are = absurd are
all_leave (f ∷ fs) [] (a ∷ answers) name are = absurd are
all_leave (f ∷ fs) (e ∷ es) (Listed names ∷ answers) name are = absurd are
all_leave (f ∷ fs) (e ∷ es) (Measured other n ∷ answers) name are = absurd are
all_leave (f ∷ fs) (e ∷ es) (Put other bytes done ∷ answers) name are = absurd are

read_at : (files : List PlannedFile) (entries : List FileEntry) (answers : List FolderAnswer) (i : ℕ) (file : PlannedFile) (entry : FileEntry) → i < length files → file ≡ get_or files i file → entry ≡ get_or entries i entry
    → AreReadings files entries answers → ReadAt file entry answers
read_at [] entries answers i file entry inside file_is is are = absurd (omega arith)
read_at (f ∷ fs) (e ∷ es) (Gave name given ∷ answers) zero file entry inside file_is is are =
    let source : name ≡ file.source = are.0 ∙ ap (λ (g : PlannedFile). g.source) (sym file_is) in
    record {
      before = [];
      given = given;
      after = answers;
      told = ap (λ (n : List ℕ). Gave n given ∷ answers) source;
      left = λ other. all_leave fs es answers other are.2;
      is = is ∙ are.1 ∙ ap (λ (g : PlannedFile). entry_of g (given_bytes given)) (sym file_is);
    }
read_at (f ∷ fs) (e ∷ es) (Gave name given ∷ answers) (suc i) file entry inside file_is is are =
    let rest = read_at fs es answers i file entry (omega arith) file_is is are.2 in
    record {
      before = Gave name given ∷ rest.before;
      given = rest.given;
      after = rest.after;
      told = ap (λ (xs : List FolderAnswer). Gave name given ∷ xs) rest.told;
      left = rest.left;
      is = rest.is;
    }
read_at (f ∷ fs) [] answers i file entry inside file_is is are = absurd are
read_at (f ∷ fs) (e ∷ es) [] i file entry inside file_is is are = absurd are
read_at (f ∷ fs) (e ∷ es) (Listed names ∷ answers) i file entry inside file_is is are = absurd are
read_at (f ∷ fs) (e ∷ es) (Measured name n ∷ answers) i file entry inside file_is is are = absurd are
read_at (f ∷ fs) (e ∷ es) (Put name bytes done ∷ answers) i file entry inside file_is is are = absurd are

-- ---- the writing

-- bytes are put below the folder alone
abbrev IsBelow : List ℕ → FolderAnswer → Type 0
IsBelow folder (Listed names) = Unit {0}
IsBelow folder (Gave name given) = Unit {0}
IsBelow folder (Measured name n) = Unit {0}
IsBelow folder (Put name bytes done) = lies_below folder name ≡ true

abbrev pub AreBelow : List ℕ → List FolderAnswer → Type 0
AreBelow folder [] = Unit {0}
AreBelow folder (a ∷ answers) = IsBelow folder a × AreBelow folder answers

-- the answers that came put bytes there alone
pub record PutsBelow (folder : List ℕ) (old new : List FolderAnswer) : Type 0 where
  pub more : List FolderAnswer
  pub told : new ≡ old ++ more
  pub below : AreBelow folder more

both_below : (folder : List ℕ) (first second : List FolderAnswer) → AreBelow folder first → AreBelow folder second → AreBelow folder (first ++ second)
both_below folder [] second one other = other
both_below folder (a ∷ first) second one other = (one.0, both_below folder first second one.1 other)

pub puts_more : (folder : List ℕ) (files : List PlannedFile) (i : ℕ) (file : PlannedFile) (old mid new : List FolderAnswer) → i < length files → file ≡ get_or files i file → list_all (is_apart folder) files ≡ true
    → PutsBelow folder old mid → CopiesFile file mid new → PutsBelow folder old new
puts_more folder files i file old mid new inside is apart so_far copies =
    let last = Gave file.source copies.given ∷ Put file.target copies.bytes copies.done ∷ [] in
    let here : is_apart folder file ≡ true = all_at (is_apart folder) files i file inside is apart in
    let target : lies_below folder file.target ≡ true = left_so (lies_below folder file.target) (not (lies_below folder file.source)) here in
    record {
      more = so_far.more ++ last;
      told = copies.told ∙ ap (λ (xs : List FolderAnswer). xs ++ last) so_far.told ∙ append_assoc old so_far.more last;
      below = both_below folder so_far.more last so_far.below (tt, (target, tt));
    }

leaves_below : (folder name : List ℕ) (a : FolderAnswer) → lies_below folder name ≡ false → IsBelow folder a → Leaves name a
leaves_below folder name (Listed names) outside below = tt
leaves_below folder name (Gave other given) outside below = tt
leaves_below folder name (Measured other n) outside below = tt
leaves_below folder name (Put other bytes done) outside below = λ _ same. clash (lies_below folder name) (ap (lies_below folder) same ∙ below) outside

leave_below : (folder name : List ℕ) (answers : List FolderAnswer) → lies_below folder name ≡ false → AreBelow folder answers → AllLeave name answers
leave_below folder name [] outside below = tt
leave_below folder name (a ∷ answers) outside below = (leaves_below folder name a outside below.0, leave_below folder name answers outside below.1)

leave_both : (name : List ℕ) (first second : List FolderAnswer) → AllLeave name first → AllLeave name second → AllLeave name (first ++ second)
leave_both name [] second one other = other
leave_both name (a ∷ first) second one other = (one.0, leave_both name first second one.1 other)

-- ---- the second reading

joined : (front : List FolderAnswer) (given : FolderAnswer) (after more last : List FolderAnswer) → ((front ++ given ∷ after) ++ more) ++ last ≡ (front ++ given ∷ (after ++ more)) ++ last
joined front given after more last = ap (λ (xs : List FolderAnswer). xs ++ last) (append_assoc front (given ∷ after) more)

-- a change is that of a file which was listed by its first reading
pub shows_change : (from folder : List ℕ) (start first mid new : List FolderAnswer) (files : List PlannedFile) (entries : List FileEntry) (i : ℕ) (file : PlannedFile) (entry : FileEntry) (e : PublishFault)
    → i < length files → file ≡ get_or files i file → entry ≡ get_or entries i entry → list_all (is_apart folder) files ≡ true → All (IsSourced from) files → AreEntries files entries → ReadsEach files entries start first
    → PutsBelow folder first mid → ShowsOther file entry mid new e → ReadsChange from start new e
shows_change from folder start first mid new files entries i file entry (Changed name difference) inside file_is is apart sourced are read puts other =
    let at = read_at files entries read.more i file entry inside file_is is read.each in
    let here : is_apart folder file ≡ true = all_at (is_apart folder) files i file inside file_is apart in
    let outside : lies_below folder file.source ≡ false = not_so (lies_below folder file.source) (right_so (lies_below folder file.target) (not (lies_below folder file.source)) here) in
    let source : file.source ≡ within from file.file = subst (IsSourced from) (sym file_is) (sourced i file inside) in
    let named : file.file ≡ name = ap (λ (x : FileEntry). x.name) (sym at.is) ∙ sym other.named in
    let size : entry.size ≡ length (given_bytes at.given) = ap (λ (x : FileEntry). x.size) at.is in
    let small : entry.size ≤ FILE_SIZE_LIMIT = entry_small file entry (entry_is files entries i file entry are inside file_is is) in
    let again = Gave file.source other.again ∷ [] in
    let begun : first ≡ (start ++ at.before) ++ Gave file.source at.given ∷ at.after =
    read.told ∙ ap (λ (xs : List FolderAnswer). start ++ xs) at.told ∙ sym (append_assoc start at.before (Gave file.source at.given ∷ at.after)) in
    let twice : ReadsTwice file.source difference start new = record {
      before = at.before;
      first = at.given;
      between = at.after ++ puts.more;
      again = other.again;
      told = other.told ∙ ap (λ (xs : List FolderAnswer). xs ++ again) puts.told ∙ ap (λ (xs : List FolderAnswer). (xs ++ puts.more) ++ again) begun ∙ joined (start ++ at.before) (Gave file.source at.given) at.after puts.more again;
      left = leave_both file.source at.after puts.more (at.left file.source) (leave_below folder file.source puts.more outside puts.below);
      short = omega arith;
      is = ap (λ (x : FileEntry). difference_of x.list x.size (given_bytes other.again)) (sym at.is) ∙ other.is;
    } in
    subst (λ (n : List ℕ). ReadsTwice n difference start new) (source ∙ ap (within from) named) twice
shows_change from folder start first mid new files entries i file entry e inside file_is is apart sourced are read puts other = tt

-- answers before are passed over
pub reads_since : (from : List ℕ) (old mid new : List FolderAnswer) (e : PublishFault) → AnswersMore old mid → ReadsChange from mid new e → ReadsChange from old new e
reads_since from old mid new (Changed name difference) answers change = record {
  before = answers.more ++ change.before;
  first = change.first;
  between = change.between;
  again = change.again;
  told =
      let one = Gave (within from name) change.first ∷ change.between in
      let other = Gave (within from name) change.again ∷ [] in
      change.told ∙ ap (λ (xs : List FolderAnswer). ((xs ++ change.before) ++ one) ++ other) answers.told ∙ ap (λ (xs : List FolderAnswer). (xs ++ one) ++ other) (append_assoc old answers.more change.before);
  left = change.left;
  short = change.short;
  is = change.is;
}
reads_since from old mid new e answers change = tt
