-- What is known of the entries while the files are read one after another.
use Rattle.std.proofs.Common.{◌≡◌, ℕ, Option, Bool, true, false, zero, suc, ◌+◌, ◌<◌, ◌≤◌, List, [], ◌∷◌, ◌++◌, length, get_or, drop, map, drop-cons, add-one, append_assoc, Ok, Err, refl, sym, ap, subst, ◌∙◌, arith}
use Rattle.std.specs.Prelude.{nat_lt, if◌then◌else◌, unwrap_or}
use Rattle.std.proofs.lemmas.Grind.{common_steps}
use Rattle.std.proofs.lemmas.List.{append-nil, get_or-map}
use Rattle.std.proofs.lemmas.Bool.Decides.{nat_tests}
use Rattle.small_types.specs.declared.limits.TheConstants.{FILE_SIZE_LIMIT}
use Rattle.small_types.specs.Outcome.{◌>>=◌}
use Rattle.folders.specs.declared.folder.Found.{Found}
use Rattle.folders.specs.declared.folder.Found.TheVariants.{TooLong}
use Rattle.folders.specs.declared.folder.Held.{Held}
use Rattle.folders.specs.Files.{file_in}
use Rattle.folders.specs.Found.{Finds, HasLength, IsWithin}
use Rattle.manifests.specs.declared.facts.FileEntry.{FileEntry}
use Rattle.manifests.specs.Applications.{size_limit}
use Rattle.publish_plan.specs.declared.options.PlannedFile.{PlannedFile}
use Rattle.publisher.specs.declared.fault.PublishFault.{PublishFault}
use Rattle.publisher.specs.declared.fault.PublishFault.TheVariants.{FileTooLong}
use Rattle.publisher.specs.Entries.{AreEntries, IsEntry}
use Rattle.publisher.specs.Outcome.{Fails}
use Rattle.publisher.specs.Publication.{Outcome, read_entry, read_entries, entry_in, entry_of, bytes_in}
use Rattle.publisher.proofs.Outcomes.{fails_same, fails_then}

abbrev pick : Bool → PublishFault → FileEntry → Outcome FileEntry
pick b e x = if b then Err e else Ok x

-- with entries that were made before
abbrev pub behind : List FileEntry → List FileEntry → Outcome (List FileEntry)
behind made entries = Ok (made ++ entries)

-- the next file
next_file : (files : List PlannedFile) (i : ℕ) (file : PlannedFile) → i < length files → file ≡ get_or files i file → drop i files ≡ file ∷ drop (i + 1) files
next_file files i file within is =
    drop-cons files i file within ∙ ap (λ (f : PlannedFile). f ∷ drop (suc i) files) (sym is) ∙ ap (λ (n : ℕ). file ∷ drop n files) (sym (add-one i))

nothing_left : (files : List PlannedFile) (i : ℕ) → length files ≤ i → drop i files ≡ []
nothing_left files i all = grind (arith, common_steps)

one_more : (made : List FileEntry) (entry : FileEntry) (rest : Outcome (List FileEntry)) → ((rest >>= λ entries. Ok (entry ∷ entries)) >>= behind made) ≡ (rest >>= behind (made ++ entry ∷ []))
one_more made entry (Ok entries) = ap Ok (sym (append_assoc made (entry ∷ []) entries))
one_more made entry (Err e) = refl

pub entries_more : (held : List Held) (files : List PlannedFile) (i : ℕ) (made : List FileEntry) (file : PlannedFile) (entry : FileEntry) (whole : Outcome (List FileEntry)) → i < length files → file ≡ get_or files i file
    → read_entry held file ≡ Ok entry → whole ≡ (read_entries held (drop i files) >>= behind made) → whole ≡ (read_entries held (drop (i + 1) files) >>= behind (made ++ entry ∷ []))
entries_more held files i made file entry whole within is read so_far =
    so_far ∙ ap (λ (fs : List PlannedFile). read_entries held fs >>= behind made) (next_file files i file within is)
    ∙ ap (λ (o : Outcome FileEntry). (o >>= λ e. read_entries held (drop (i + 1) files) >>= λ entries. Ok (e ∷ entries)) >>= behind made) read
    ∙ one_more made entry (read_entries held (drop (i + 1) files))

pub entries_fail : (held : List Held) (files : List PlannedFile) (i : ℕ) (made : List FileEntry) (file : PlannedFile) (e : PublishFault) (whole : Outcome (List FileEntry)) → i < length files → file ≡ get_or files i file
    → Fails e (read_entry held file) → whole ≡ (read_entries held (drop i files) >>= behind made) → Fails e whole
entries_fail held files i made file e whole within is failed so_far =
    fails_same e ((read_entry held file >>= λ entry. read_entries held (drop (i + 1) files) >>= λ entries. Ok (entry ∷ entries)) >>= behind made) whole
    (so_far ∙ ap (λ (fs : List PlannedFile). read_entries held fs >>= behind made) (next_file files i file within is))
    (fails_then e (read_entry held file >>= λ entry. read_entries held (drop (i + 1) files) >>= λ entries. Ok (entry ∷ entries)) (behind made)
    (fails_then e (read_entry held file) (λ entry. read_entries held (drop (i + 1) files) >>= λ entries. Ok (entry ∷ entries)) failed))

pub entries_all : (held : List Held) (files : List PlannedFile) (i : ℕ) (made : List FileEntry) (whole : Outcome (List FileEntry)) → length files ≤ i
    → whole ≡ (read_entries held (drop i files) >>= behind made) → whole ≡ Ok made
entries_all held files i made whole all so_far =
    so_far ∙ ap (λ (fs : List PlannedFile). read_entries held fs >>= behind made) (nothing_left files i all) ∙ ap Ok (append-nil made)

-- the entries of these files follow
abbrev pub AreBehind : List PlannedFile → ℕ → List FileEntry → Type 0
AreBehind files i made = (entries : List FileEntry) → AreEntries (drop i files) entries → AreEntries files (made ++ entries)

pub behind_more : (files : List PlannedFile) (i : ℕ) (made : List FileEntry) (file : PlannedFile) (entry : FileEntry) → i < length files → file ≡ get_or files i file
    → IsEntry file entry → AreBehind files i made → AreBehind files (i + 1) (made ++ entry ∷ [])
behind_more files i made file entry within is fits so_far entries rest =
    let next : AreEntries (drop i files) (entry ∷ entries) = subst (λ (fs : List PlannedFile). AreEntries fs (entry ∷ entries)) (sym (next_file files i file within is)) (fits, rest) in
    subst (AreEntries files) (sym (append_assoc made (entry ∷ []) entries)) (so_far (entry ∷ entries) next)

pub behind_all : (files : List PlannedFile) (i : ℕ) (made : List FileEntry) → length files ≤ i → AreBehind files i made → AreEntries files made
behind_all files i made all so_far =
    let none : AreEntries (drop i files) [] = subst (λ (fs : List PlannedFile). AreEntries fs []) (sym (nothing_left files i all)) tt in
    subst (AreEntries files) (append-nil made) (so_far [] none)

picked : (b : Bool) (e : PublishFault) (x y : FileEntry) → pick b e x ≡ Ok y → y ≡ x
picked true e x y is = cc
picked false e x y is = cc

entry_read : (held : List Held) (file : PlannedFile) (entry : FileEntry) → read_entry held file ≡ Ok entry → entry ≡ entry_in held file
unfolding read_entry
entry_read held file entry read =
    picked (nat_lt (size_limit file.local) (length (bytes_in held file))) (FileTooLong file.file (length (bytes_in held file))) (entry_in held file) entry read

-- what two outcomes are, where both together are an entry before others
pair_read : (one : Outcome FileEntry) (rest : Outcome (List FileEntry)) (entries : List FileEntry) (is : FileEntry) (are : List FileEntry) → (one >>= λ entry. rest >>= λ others. Ok (entry ∷ others)) ≡ Ok entries
    → ((entry : FileEntry) → one ≡ Ok entry → entry ≡ is) → ((others : List FileEntry) → rest ≡ Ok others → others ≡ are) → entries ≡ is ∷ are
pair_read (Ok entry) (Ok others) entries is are read first rest =
    let made : entry ∷ others ≡ entries = cc in
    sym made ∙ ap (λ (e : FileEntry). e ∷ others) (first entry refl) ∙ ap (λ (es : List FileEntry). is ∷ es) (rest others refl)
pair_read (Ok entry) (Err e) entries is are read first rest = cc
pair_read (Err e) rest entries is are read first others = cc

-- entries that were read are those of the files
pub entries_are : (held : List Held) (files : List PlannedFile) (entries : List FileEntry) → read_entries held files ≡ Ok entries → entries ≡ map (entry_in held) files
entries_are held [] entries read = cc
entries_are held (file ∷ files) entries read =
    pair_read (read_entry held file) (read_entries held files) entries (entry_in held file) (map (entry_in held) files) read (entry_read held file) (entries_are held files)

-- as many entries as files
pub entries_long : (files : List PlannedFile) (entries : List FileEntry) → AreEntries files entries → length entries ≡ length files
entries_long [] [] are = refl
entries_long [] (e ∷ es) are = absurd are
entries_long (f ∷ fs) [] are = absurd are
entries_long (f ∷ fs) (e ∷ es) are = let rest = entries_long fs es are.1 in grind (arith, common_steps)

-- each is of the file at its place
pub entry_is : (files : List PlannedFile) (entries : List FileEntry) (i : ℕ) (file : PlannedFile) (entry : FileEntry) → AreEntries files entries → i < length files → file ≡ get_or files i file → entry ≡ get_or entries i entry
    → IsEntry file entry
entry_is [] entries i file entry are within file_is is = absurd (omega arith)
entry_is (f ∷ fs) [] i file entry are within file_is is = absurd are
entry_is (f ∷ fs) (e ∷ es) zero file entry are within file_is is =
    subst (λ (g : PlannedFile). IsEntry g entry) (sym file_is) (subst (IsEntry f) (sym is) are.0)
entry_is (f ∷ fs) (e ∷ es) (suc i) file entry are within file_is is =
    entry_is fs es i file entry are.1 (omega arith) file_is is

-- no file may be longer than one that is no data
at_most : (b : Bool) → size_limit b ≤ FILE_SIZE_LIMIT
at_most true = omega arith
at_most false = omega arith

pub entry_small : (file : PlannedFile) (entry : FileEntry) → IsEntry file entry → entry.size ≤ FILE_SIZE_LIMIT
entry_small file entry is =
    let size : entry.size ≡ length is.bytes = ap (λ (x : FileEntry). x.size) is.is in
    let within : length is.bytes ≤ size_limit file.local = is.within in
    omega (arith, at_most file.local)

-- each is of its file
pub entry_at : (held : List Held) (files : List PlannedFile) (entries : List FileEntry) (i : ℕ) (file : PlannedFile) (entry : FileEntry) → i < length files → file ≡ get_or files i file → entry ≡ get_or entries i entry
    → entries ≡ map (entry_in held) files → entry ≡ entry_in held file
entry_at held files entries i file entry within file_is entry_is are =
    entry_is ∙ ap (λ (es : List FileEntry). get_or es i entry) are ∙ get_or-map (entry_in held) files i file entry within ∙ ap (entry_in held) (sym file_is)

read_pick : (held : List Held) (file : PlannedFile) → read_entry held file ≡ pick (nat_lt (size_limit file.local) (length (bytes_in held file))) (FileTooLong file.file (length (bytes_in held file))) (entry_in held file)
unfolding read_entry
read_pick held file = refl

over : (a b : ℕ) → a < b → nat_lt a b ≡ true
over a b h = grind (arith, nat_tests)

not_over : (a b : ℕ) → b ≤ a → nat_lt a b ≡ false
not_over a b h = grind (arith, nat_tests)

pub read_long : (held : List Held) (file : PlannedFile) (bytes : List ℕ) → bytes ≡ bytes_in held file → size_limit file.local < length bytes → read_entry held file ≡ Err (FileTooLong file.file (length bytes))
read_long held file bytes is long =
    read_pick held file ∙ ap (λ (bs : List ℕ). pick (nat_lt (size_limit file.local) (length bs)) (FileTooLong file.file (length bs)) (entry_of file bs)) (sym is)
    ∙ ap (λ (b : Bool). pick b (FileTooLong file.file (length bytes)) (entry_of file bytes)) (over (size_limit file.local) (length bytes) long)

pub read_short : (held : List Held) (file : PlannedFile) (bytes : List ℕ) → bytes ≡ bytes_in held file → length bytes ≤ size_limit file.local → read_entry held file ≡ Ok (entry_of file bytes)
read_short held file bytes is short =
    read_pick held file ∙ ap (λ (bs : List ℕ). pick (nat_lt (size_limit file.local) (length bs)) (FileTooLong file.file (length bs)) (entry_of file bs)) (sym is)
    ∙ ap (λ (b : Bool). pick b (FileTooLong file.file (length bytes)) (entry_of file bytes)) (not_over (size_limit file.local) (length bytes) short)

long_told : (held : List Held) (file : PlannedFile) (n limit : ℕ) (name : List ℕ) → HasLength (file_in file.source held) n → limit ≡ size_limit file.local → limit < n → name ≡ file.file → read_entry held file ≡ Err (FileTooLong name n)
long_told held file n limit name has is long named =
    let bytes : has.bytes ≡ bytes_in held file = sym (ap (λ (given : Option (List ℕ)). unwrap_or given []) has.is) in
    let over : size_limit file.local < length has.bytes = subst (λ (m : ℕ). size_limit file.local < m) has.sized (subst (λ (m : ℕ). m < n) is long) in
    read_long held file has.bytes bytes over
    ∙ ap (λ (m : ℕ). Err (FileTooLong file.file m)) (sym has.sized)
    ∙ ap (λ (other : List ℕ). Err (FileTooLong other n)) (sym named)

-- a file that was found too long is refused with the length that was told
pub found_long : (held : List Held) (file : PlannedFile) (found : Found) (n limit : ℕ) (into name : List ℕ) → found ≡ TooLong n → limit ≡ size_limit file.local
    → Finds (file_in file.source held) into found → IsWithin limit into found → name ≡ file.file → read_entry held file ≡ Err (FileTooLong name n)
found_long held file found n limit into name is same finds within named =
    long_told held file n limit name (subst (Finds (file_in file.source held) into) is finds) same (subst (IsWithin limit into) is within) named
