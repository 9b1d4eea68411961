-- A store in use: an application with a current view and a previous one, both leased. The views share a program file. In
-- the current one a group stands, which another does not, and a data file was carried over.
use Rattle.std.proofs.Common.{◌≡◌, ◌≢◌, ◌<◌, ◌≤◌, ◌+◌, ◌*◌, ◌^◌, zero, suc, true, false, ℕ, List, [], ◌∷◌, length, map, sum_by, All, AllPairs, Contains, Option, Some, None, IsSome, IsUtf8, refl, sym, ap, subst, ◌∙◌, arith, codes, length-append}
use Rattle.std.specs.Prelude.{IsSomeAnd, slice_index, unwrap_or}
use Rattle.std.specs.Int.{w32, to_be_bytes}
use Rattle.std.specs.declared.cmp.Ordering.TheVariants.{Less}
use Rattle.std.proofs.lemmas.Cmp.{tied_itself}
use Rattle.std.proofs.lemmas.List.Elements.{All-nil, All-cons}
use Rattle.std.proofs.lemmas.List.Kept.{AllPairs-cons}
use Rattle.std.proofs.lemmas.Str.{is_utf8-from_IsUtf8}
use Rattle.sha1.specs.Sha1.{digest_bytes, sha1}
use Rattle.small_types.specs.declared.limits.TheConstants.{NAME_LIMIT}
use Rattle.small_types.specs.declared.target.Target.{Target}
use Rattle.small_types.specs.Name.{IsBelowPre, IsName, is_name}
use Rattle.identity.specs.declared.identity.Identity.{Identity}
use Rattle.identity.specs.declared.key.Key.{Key}
use Rattle.identity.specs.Key.{IsKey, IsPart, key_text}
use Rattle.identity.specs.Printed.{text_cmp}
use Rattle.digest_list.specs.declared.algorithm.Algorithm.TheVariants.{Sha1}
use Rattle.digest_list.specs.declared.digest.Digest.{Digest}
use Rattle.digest_list.specs.Digest.{IsSized}
use Rattle.digest_list.specs.Matches.{IsDigestOf, hash_of}
use Rattle.manifest_tree.specs.Lexis.{allowed}
use Rattle.manifests.specs.declared.facts.Application.{Application}
use Rattle.manifests.specs.declared.facts.Deployment.{Deployment}
use Rattle.manifests.specs.declared.facts.FileEntry.{FileEntry}
use Rattle.manifests.specs.declared.facts.Rule.TheVariants.{Never}
use Rattle.manifests.specs.Applications.{is_below_pre}
use Rattle.manifests.specs.Facts.{IsFile, IsIdentity, IsValue}
use Rattle.machine.specs.declared.app.AppState.{AppState}
use Rattle.machine.specs.declared.lease.Lease.{Lease}
use Rattle.machine.specs.Blocks.{blocks_of, distinct, used_blocks}
use Rattle.machine.specs.Entries.{entry_of}
use Rattle.machine.specs.Fields.{HasEntry, HasIdentity, IsApplication, IsDeployment, IsShort, IsTarget}
use Rattle.machine.specs.Laws.{IsUsed}
use Rattle.machine.specs.Shape.{bare_view}
use Rattle.machine.specs.Sound.{IsSoundView, IsWhole, ShareBytes, Sound, program_files_of}
use Rattle.machine.specs.Store.{Store}
use Rattle.machine.specs.Valid.{IsApp, IsDataFile, IsInstalled, IsView, Ordered, Valid}
use Rattle.machine.specs.Views.{ContentKey, DataFile, ListedFile, View, content_key, key_of, same_content}
use Rattle.machine.specs.Weight.{weight_of}
use Rattle.machine.proofs.Contents.{content_decides}
use Rattle.machine.proofs.EntryOrder.{order}
use Rattle.machine.proofs.FoundTexts.{ascii_text}
use Rattle.machine.proofs.Lightness.{no_halves}
use Rattle.machine.proofs.Shortness.{short_key}

-- ---- short lists

pub one : {X : Type 0} (P : X → Type 0) (x : X) → P x → All P (x ∷ [])
one P x p = All-cons P x [] p (All-nil P)

pub two : {X : Type 0} (P : X → Type 0) (x y : X) → P x → P y → All P (x ∷ y ∷ [])
two P x y p q = All-cons P x (y ∷ []) p (one P y q)

pub three : {X : Type 0} (P : X → Type 0) (x y z : X) → P x → P y → P z → All P (x ∷ y ∷ z ∷ [])
three P x y z p q r = All-cons P x (y ∷ z ∷ []) p (two P y z q r)

pub single : {X : Type 0} (R : X → X → Type 0) (x : X) → AllPairs R (x ∷ [])
single R x i j d lt within = absurd (omega arith)

pub pair : {X : Type 0} (R : X → X → Type 0) (x y : X) → R x y → AllPairs R (x ∷ y ∷ [])
pair R x y r = AllPairs-cons R x (y ∷ []) (one (R x) y r) (single R y)

pub numbers_apart : (a b : ℕ) → (a ≡ b → ⊥) → ¬ (a ∷ [] ≡ b ∷ [])
numbers_apart a b differ same = differ (ap (λ (xs : List ℕ). slice_index xs 0) same)

pub some_apart : (a b n : ℕ) → (a ≡ b → ⊥) → Some a ≡ Some n → Some b ≢ Some n
some_apart a b n differ first second = differ (ap (λ (o : Option ℕ). unwrap_or o 0) (first ∙ sym second))

-- ---- texts and digests

-- a name of one letter
abbrev pub named : ℕ → List ℕ
named letter = letter ∷ []

pub a_is_utf8 : IsUtf8 (named 97)
a_is_utf8 = ascii_text (named 97) refl

pub a_is_name : IsName (named 97)
unfolding is_name
a_is_name = is_utf8-from_IsUtf8 (named 97) a_is_utf8

pub b_is_name : IsName (named 98)
unfolding is_name
b_is_name = is_utf8-from_IsUtf8 (named 98) (ascii_text (named 98) refl)

pub c_is_name : IsName (named 99)
unfolding is_name
c_is_name = is_utf8-from_IsUtf8 (named 99) (ascii_text (named 99) refl)

pub d_is_name : IsName (named 100)
unfolding is_name
d_is_name = is_utf8-from_IsUtf8 (named 100) (ascii_text (named 100) refl)

-- where a data file is carried over to
abbrev pub carried : List ℕ
carried = codes ".pre/d"

pub carried_is_name : IsName carried
unfolding is_name
carried_is_name = is_utf8-from_IsUtf8 carried (ascii_text carried refl)

pub a_is_value : (most : ℕ) → 1 ≤ most → IsValue 1 most (named 97)
unfolding allowed
a_is_value most long = record { some = omega arith; few = long; allowed = refl }

pub g_is_value : (most : ℕ) → 1 ≤ most → IsValue 1 most (named 103)
unfolding allowed
g_is_value most long = record { some = omega arith; few = long; allowed = refl }

pub h_is_value : (most : ℕ) → 1 ≤ most → IsValue 1 most (named 104)
unfolding allowed
h_is_value most long = record { some = omega arith; few = long; allowed = refl }

pub digest_length : (h : List ℕ) (n : ℕ) → length (digest_bytes h n) ≡ 4 * n
unfolding digest_bytes
digest_length h zero = refl
digest_length h (suc n) = omega (arith, length-append (digest_bytes h n) (to_be_bytes w32 (slice_index h n)), digest_length h n)

pub sha1_length : (bytes : List ℕ) → length (sha1 bytes) ≡ 20
unfolding sha1
sha1_length bytes = digest_length _ 5

abbrev pub digest_of : List ℕ → Digest
digest_of bytes = record { algorithm = Sha1; value = hash_of Sha1 bytes }

pub list_is_sized : (bytes : List ℕ) → All IsSized (digest_of bytes ∷ [])
list_is_sized bytes = one IsSized (digest_of bytes) (sha1_length bytes)

-- ---- files

-- the bytes of the shared file, of that of the standing group, and of the other
abbrev pub shared_bytes : List ℕ
shared_bytes = 97 ∷ []

abbrev pub group_bytes : List ℕ
group_bytes = 98 ∷ 98 ∷ []

abbrev pub absent_bytes : List ℕ
absent_bytes = 99 ∷ 99 ∷ 99 ∷ []

abbrev pub program : FileEntry
program = record { name = named 97; size = 1; list = digest_of shared_bytes ∷ []; group = None; local = false }

abbrev pub optional : FileEntry
optional = record { name = named 98; size = 2; list = digest_of group_bytes ∷ []; group = Some (named 103); local = false }

abbrev pub absent : FileEntry
absent = record { name = named 99; size = 3; list = digest_of absent_bytes ∷ []; group = Some (named 104); local = false }

abbrev pub data_entry : FileEntry
data_entry = record { name = named 100; size = 1; list = digest_of shared_bytes ∷ []; group = None; local = true }

pub has_program : HasEntry program
has_program = record { name = a_is_name; list = record { some = omega arith; within = omega arith }; group = tt }

pub has_optional : HasEntry optional
has_optional = record { name = b_is_name; list = record { some = omega arith; within = omega arith }; group = ascii_text (named 103) refl }

pub has_absent : HasEntry absent
has_absent = record { name = c_is_name; list = record { some = omega arith; within = omega arith }; group = ascii_text (named 104) refl }

pub has_data : HasEntry data_entry
has_data = record { name = d_is_name; list = record { some = omega arith; within = omega arith }; group = tt }

pub not_local : {P : Type 0} → false ≡ true → P
not_local e = absurd cc

pub a_is_above : ¬ IsBelowPre (named 97)
a_is_above below = cc

pub b_is_above : ¬ IsBelowPre (named 98)
b_is_above below = cc

pub c_is_above : ¬ IsBelowPre (named 99)
c_is_above below = cc

pub d_is_above : ¬ IsBelowPre (named 100)
d_is_above below = cc

pub program_is_file : IsFile program
program_is_file = record { above = a_is_above; short = λ local. omega arith; size = omega arith; list = list_is_sized shared_bytes; group = tt; alone = λ local. refl }

pub optional_is_file : IsFile optional
optional_is_file = record { above = b_is_above; short = λ local. omega arith; size = omega arith; list = list_is_sized group_bytes; group = g_is_value _ (omega arith); alone = λ local. not_local local }

pub absent_is_file : IsFile absent
absent_is_file = record { above = c_is_above; short = λ local. omega arith; size = omega arith; list = list_is_sized absent_bytes; group = h_is_value _ (omega arith); alone = λ local. not_local local }

pub data_is_file : IsFile data_entry
data_is_file = record { above = d_is_above; short = λ local. omega arith; size = omega arith; list = list_is_sized shared_bytes; group = tt; alone = λ local. refl }

abbrev pub files : List FileEntry
files = program ∷ optional ∷ absent ∷ data_entry ∷ []

abbrev pub NamesApart : FileEntry → FileEntry → Type 0
NamesApart e f = ¬ (e.name ≡ f.name)

pub names_differ : AllPairs NamesApart files
names_differ =
    AllPairs-cons NamesApart program (optional ∷ absent ∷ data_entry ∷ [])
    (three (NamesApart program) optional absent data_entry (numbers_apart 97 98 (λ e. omega (arith, e))) (numbers_apart 97 99 (λ e. omega (arith, e))) (numbers_apart 97 100 (λ e. omega (arith, e))))
    (AllPairs-cons NamesApart optional (absent ∷ data_entry ∷ [])
    (two (NamesApart optional) absent data_entry (numbers_apart 98 99 (λ e. omega (arith, e))) (numbers_apart 98 100 (λ e. omega (arith, e))))
    (pair NamesApart absent data_entry (numbers_apart 99 100 (λ e. omega (arith, e)))))

-- ---- manifests

abbrev pub key : Key
key = record { name = named 97; token = named 97; language = named 97; architecture = named 97 }

abbrev pub identity : ℕ → Identity
identity number = record { key = key; version = record { a = number; b = 0; c = 0; d = 0 }; kind = [] }

abbrev pub deployment : ℕ → Deployment
deployment number = record {
  identity = identity number;
  install = true;
  minimum = None;
  mapped = true;
  rule = Never;
  provider = None;
  codebase = named 97;
  app = identity 1;
  app_size = 1;
  app_list = digest_of shared_bytes ∷ [];
}

abbrev pub application : Application
application = record { identity = identity 1; entry = named 97; parameters = []; files = files }

pub part : (limit : ℕ) → 1 ≤ limit → IsPart limit (named 97)
part limit long = record { nonempty = omega arith; within = long; utf8 = a_is_utf8 }

pub is_key : IsKey key
is_key = record { name = part _ (omega arith); token = part _ (omega arith); language = part _ (omega arith); architecture = part _ (omega arith) }

pub is_identity : (number : ℕ) → IsIdentity (identity number)
is_identity number = record {
  name = a_is_value _ (omega arith);
  token = a_is_value _ (omega arith);
  language = a_is_value _ (omega arith);
  architecture = a_is_value _ (omega arith);
  kind = record { some = omega arith; few = omega arith; allowed = refl };
}

pub has_identity : (number : ℕ) → number < 2 ^ 16 → HasIdentity (identity number)
has_identity number few = record {
  key = is_key;
  version = record { a = few; b = omega arith; c = omega arith; d = omega arith };
  kind = ascii_text [] refl;
}

pub is_deployment : (number : ℕ) → number < 2 ^ 16 → IsDeployment (deployment number)
is_deployment number few = record {
  facts = record {
    identity = is_identity number;
    install = refl;
    minimum = tt;
    rule = tt;
    provider = tt;
    codebase = a_is_value _ (omega arith);
    app = is_identity 1;
    app_size = omega arith;
    app_list = list_is_sized shared_bytes;
  };
  identity = has_identity number few;
  minimum = tt;
  provider = tt;
  codebase = a_is_utf8;
  app = has_identity 1 (omega arith);
  app_list = record { some = omega arith; within = omega arith };
}

pub is_application : IsApplication application
is_application = record {
  facts = record {
    identity = is_identity 1;
    entry = a_is_value _ (omega arith);
    parameters = record { some = omega arith; few = omega arith; allowed = refl };
    files = record { few = omega arith; few_local = omega arith; differ = names_differ };
    each = All-cons IsFile program (optional ∷ absent ∷ data_entry ∷ []) program_is_file (three IsFile optional absent data_entry optional_is_file absent_is_file data_is_file);
  };
  identity = has_identity 1 (omega arith);
  entry = a_is_utf8;
  parameters = ascii_text [] refl;
  files = All-cons HasEntry program (optional ∷ absent ∷ data_entry ∷ []) has_program (three HasEntry optional absent data_entry has_optional has_absent has_data);
}

-- ---- the store

abbrev pub target : Target
target = record { host = named 97; port = 80; path = codes "/" }

pub is_target : IsTarget target
is_target = record {
  host = record { within = omega arith; utf8 = a_is_utf8 };
  port = omega arith;
  path = record { within = omega arith; utf8 = ascii_text (codes "/") refl };
}

abbrev pub program_file : ListedFile
program_file = record { entry = program; bytes = shared_bytes }

abbrev pub optional_file : ListedFile
optional_file = record { entry = optional; bytes = group_bytes }

abbrev pub data_file : DataFile
data_file = record { name = named 100; bytes = shared_bytes }

abbrev pub carried_file : DataFile
carried_file = record { name = carried; bytes = group_bytes }

abbrev pub first : View
first = record {
  number = 1;
  deployment = deployment 1;
  application = application;
  base = target;
  groups = [];
  program_files = program_file ∷ [];
  data_files = data_file ∷ [];
}

abbrev pub second : View
second = record {
  number = 2;
  deployment = deployment 2;
  application = application;
  base = target;
  groups = named 103 ∷ [];
  program_files = program_file ∷ optional_file ∷ [];
  data_files = carried_file ∷ data_file ∷ [];
}

abbrev pub views : List View
views = first ∷ second ∷ []

abbrev pub app : AppState
app = record {
  key = key;
  provider = Some target;
  current = Some 2;
  previous = Some 1;
  minimum = None;
  offer = None;
  skipped = None;
  excluded = None;
  last_check = Some 0;
  checked = true;
}

abbrev pub first_lease : Lease
first_lease = record { number = 1; view = 1 }

abbrev pub second_lease : Lease
second_lease = record { number = 2; view = 2 }

abbrev pub store : Store
store = record {
  room = record { blocks = 7; half = 0 };
  boot = 0;
  next_view = 3;
  next_lease = 3;
  leases = first_lease ∷ second_lease ∷ [];
  views = views;
  apps = app ∷ [];
}

-- ---- it is valid

pub data_is_data : IsDataFile data_file
data_is_data = record { name = d_is_name; short = λ above. omega arith }

pub carried_is_data : IsDataFile carried_file
carried_is_data = record { name = carried_is_name; short = λ above. omega arith }

abbrev pub IsBefore : DataFile → DataFile → Type 0
IsBefore f g = text_cmp f.name g.name ≡ Less

pub first_is_view : IsView first
unfolding is_below_pre
first_is_view = record {
  deployment = is_deployment 1 (omega arith);
  application = is_application;
  base = is_target;
  groups = All-nil _;
  files = refl;
  data_order = single IsBefore data_file;
  data_files = one IsDataFile data_file data_is_data;
  few_data = omega arith;
}

pub second_is_view : IsView second
unfolding is_below_pre
second_is_view = record {
  deployment = is_deployment 2 (omega arith);
  application = is_application;
  base = is_target;
  groups = one (IsShort NAME_LIMIT) (named 103) (record { within = omega arith; utf8 = ascii_text (named 103) refl });
  files = refl;
  data_order = pair IsBefore carried_file data_file refl;
  data_files = two IsDataFile carried_file data_file carried_is_data data_is_data;
  few_data = omega arith;
}

pub is_app : IsApp views app
is_app = record {
  key = short_key is_key;
  provider = is_target;
  current = (1, second, omega arith, refl, (refl, refl));
  previous = (0, first, omega arith, refl, (refl, refl));
  minimum = tt;
  offer = tt;
  skipped = tt;
  excluded = tt;
  last_check = omega arith;
  beside = λ some. refl;
  other = λ number current previous. some_apart 2 1 number (λ e. omega (arith, e)) current previous;
  provided = λ some. refl;
}

pub is_installed : IsInstalled (app ∷ []) key
is_installed =
    let found : entry_of key (app ∷ []) ≡ Some app = rw (tied_itself order (key_text key)) refl in
    subst (λ (e : Option AppState). IsSomeAnd e (λ (a : AppState). IsSome a.current)) (sym found) refl

pub store_is_ordered : Ordered store
store_is_ordered = record {
  some_blocks = omega arith;
  few_blocks = omega arith;
  boot = omega arith;
  lease_numbers = record { rising = pair (λ (m n : ℕ). m < n) 1 2 (omega arith); below = two (λ n. n < 3) 1 2 (omega arith) (omega arith); limit = omega arith };
  few_leases = omega arith;
  leased = two (λ (lease : Lease). Contains (1 ∷ 2 ∷ []) lease.view) first_lease second_lease (0, omega arith, refl) (1, omega arith, refl);
  view_numbers = record { rising = pair (λ (m n : ℕ). m < n) 1 2 (omega arith); below = two (λ n. n < 3) 1 2 (omega arith) (omega arith); limit = omega arith };
  few_views = omega arith;
  few_files = omega arith;
  views = two IsView first second first_is_view second_is_view;
  installed = two (λ (v : View). IsInstalled (app ∷ []) (key_of v)) first second is_installed is_installed;
  order = (tt, tt);
  few_apps = omega arith;
  apps = one (IsApp views) app is_app;
}

-- of three program files two share their bytes
pub kept_two : (e f : FileEntry) → same_content e e ≡ true → same_content e f ≡ false → distinct (e ∷ e ∷ f ∷ []) ≡ e ∷ f ∷ []
kept_two e f same other = rw (same, other) refl

pub distinct_files : distinct (program ∷ program ∷ optional ∷ []) ≡ program ∷ optional ∷ []
distinct_files = kept_two program optional ((content_decides program program).1 refl) refl

pub counted : used_blocks (map bare_view views) ≡ 5
counted = ap (λ (es : List FileEntry). sum_by (λ entry. blocks_of entry.size) es + 3) distinct_files

pub store_is_valid : Valid store
store_is_valid = record { ordered = store_is_ordered; room = omega (arith, counted); light = no_halves store.room (weight_of (map bare_view store.views) store.apps) refl }

-- ---- it is sound

pub program_is_whole : IsWhole program_file
program_is_whole = record { sized = refl; some = λ none. absurd cc; digests = one (IsDigestOf shared_bytes) (digest_of shared_bytes) refl }

pub optional_is_whole : IsWhole optional_file
optional_is_whole = record { sized = refl; some = λ none. absurd cc; digests = one (IsDigestOf group_bytes) (digest_of group_bytes) refl }

abbrev pub DataApart : DataFile → DataFile → Type 0
DataApart f g = ◌≢◌ {A = List ℕ} f.name g.name

pub carried_apart : DataApart carried_file data_file
carried_apart same = apart (ap length same)
  where
    apart : ◌≡◌ {A = ℕ} 6 1 → ⊥
    apart e = omega (arith, e)

pub first_is_sound : IsSoundView first
first_is_sound = record { key = refl; version = refl; whole = one IsWhole program_file program_is_whole; data_names = single DataApart data_file }

pub second_is_sound : IsSoundView second
second_is_sound = record {
  key = refl;
  version = refl;
  whole = two IsWhole program_file optional_file program_is_whole optional_is_whole;
  data_names = pair DataApart carried_file data_file carried_apart;
}

abbrev pub AreShared : ListedFile → ListedFile → Type 0
AreShared f g = content_key f.entry ≡ content_key g.entry → f.bytes ≡ g.bytes

pub others_apart : AreShared program_file optional_file
others_apart same = absurd (apart (ap (λ (k : ContentKey). k.size) same))
  where
    apart : ◌≡◌ {A = ℕ} 1 2 → ⊥
    apart e = omega (arith, e)

pub all_shared : ShareBytes (program_files_of store)
all_shared =
    AllPairs-cons AreShared program_file (program_file ∷ optional_file ∷ []) (two (AreShared program_file) program_file optional_file (λ same. refl) others_apart)
    (pair AreShared program_file optional_file others_apart)

pub store_is_sound : Sound store
store_is_sound = record {
  valid = store_is_valid;
  views = two IsSoundView first second first_is_sound second_is_sound;
  shared = all_shared;
}

pub used : IsUsed store
used = record {
  sound = store_is_sound;
  leases = omega arith;
  previous = (0, app, omega arith, refl, refl);
  program_files = (0, program_file, omega arith, refl, omega arith);
  shared = omega (arith, ap length distinct_files);
  standing = (1, second, omega arith, refl, omega arith);
  absent = (0, first, omega arith, refl, omega arith);
  carried = (1, second, omega arith, refl, (0, carried_file, omega arith, refl, refl));
}
