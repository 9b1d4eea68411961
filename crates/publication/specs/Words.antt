-- What the words behind `publish` ask for.
use Rattle.std.specs.Prelude.{ℕ, ◌+◌, ◌-◌, ◌*◌, ◌==◌, ◌&&◌, Bool, not, nat_eq, nat_le, List, [], ◌∷◌, length, take, drop, codes, Option, Some, None, unwrap_or, Result, Ok, Err, is_ok, if◌then◌else◌}
use Rattle.std.specs.List.{list_all, starts_with}
use Rattle.std.specs.Str.{bytes_eq, is_utf8}
use Rattle.small_types.specs.declared.limits.TheConstants.{NAME_LIMIT}
use Rattle.small_types.specs.declared.name.NameFault.{NameFault}
use Rattle.small_types.specs.Decimal.{decimal_of}
use Rattle.small_types.specs.Name.{name_of}
use Rattle.identity.specs.declared.version.Version.{Version}
use Rattle.identity.specs.declared.version.VersionFault.{VersionFault}
use Rattle.identity.specs.Version.{version_of}
use Rattle.manifest_tree.specs.WrittenText.{is_content}
use Rattle.addresses.specs.Address.{target_of_text}
use Rattle.manifests.specs.Ages.{seconds_in}
use Rattle.manifests.specs.declared.ages.TheConstants.{AGE_DIGIT_LIMIT}
use Rattle.manifests.specs.declared.ages.AgeUnit.{AgeUnit}
use Rattle.manifests.specs.declared.ages.AgeUnit.TheVariants.{Hours, Days, Weeks}
use Rattle.manifests.specs.declared.facts.Rule.{Rule}
use Rattle.manifests.specs.declared.facts.Rule.TheVariants.{Never, Before, Age}
use Rattle.publish_plan.specs.declared.options.Mark.{Mark}
use Rattle.publish_plan.specs.declared.options.MarkKind.TheVariants.{Local, Group}
use Rattle.publish_plan.specs.declared.options.Options.{Options}
use Rattle.clap.specs.Words.{Row, all_of, first_of}
use Rattle.publication.specs.Command.{matches_in}

-- the first word that cannot be read leaves nothing
infixl 10 ◌>>=◌
abbrev pub ◌>>=◌ : {A B : Type 0} → Option A → (A → Option B) → Option B
None >>= f = None
(Some x) >>= f = f x

-- ---- values

-- the publisher: text of at most 240 bytes that a manifest may have
unfoldable pub publisher_of : List ℕ → Option (List ℕ)
publisher_of word =
    if is_utf8 word && (is_content word && nat_le (length word) NAME_LIMIT) then Some word else None

-- a group: 1 to 240 bytes of such text
unfoldable pub group_of : List ℕ → Option (List ℕ)
group_of text =
    if is_utf8 text
    && (is_content text && (nat_le 1 (length text) && nat_le (length text) NAME_LIMIT))
    then Some text else None

abbrev pub as_file : Result (List ℕ) NameFault → Option (List ℕ)
as_file (Ok name) = Some name
as_file (Err e) = None

-- a file name
abbrev pub file_of : List ℕ → Option (List ℕ)
file_of word = as_file (name_of word)

abbrev pub as_release : Result Version VersionFault → Option Version
as_release (Ok version) = Some version
as_release (Err e) = None

-- a version
abbrev pub release_of : List ℕ → Option Version
release_of word = as_release (version_of word)

-- `h`, `d` or `w`
unfoldable pub unit_of : List ℕ → Option AgeUnit
unit_of letter =
    if bytes_eq letter (codes "h") then Some Hours else
    if bytes_eq letter (codes "d") then Some Days else
    if bytes_eq letter (codes "w") then Some Weeks else None

-- one to nine digits
unfoldable pub number_of : List ℕ → Option ℕ
number_of digits = if nat_le (length digits) AGE_DIGIT_LIMIT then decimal_of digits else None

-- so many hours, days or weeks
unfoldable pub age_of : List ℕ → Option Rule
age_of word = do
  number ← number_of (take (length word - 1) word)
  unit ← unit_of (drop (length word - 1) word)
  Some (Age (number * seconds_in unit))

-- when a client looks for a new version
unfoldable pub check_of : List ℕ → Option Rule
check_of word =
    if bytes_eq word (codes "none") then Some Never else
    if bytes_eq word (codes "before") then Some Before else age_of word

-- the address that updates come from, of bytes that a manifest may have
unfoldable pub provider_of : List ℕ → Option (List ℕ)
provider_of word = if is_content word && is_ok (target_of_text word) then Some word else None

-- a value that may be left out
abbrev pub optional : {A : Type 0} → (List ℕ → Option A) → Option (List ℕ) → Option (Option A)
optional read None = Some None
optional read (Some word) = read word >>= λ value. Some (Some value)

-- ---- marks

-- where the last `:` stands, if the last one before this place stands there
abbrev pub last_colon_from : ℕ → Option ℕ → List ℕ → Option ℕ
last_colon_from place found [] = found
last_colon_from place found (c ∷ cs) =
    last_colon_from (place + 1) (if c == 58 then Some place else found) cs

abbrev pub last_colon : List ℕ → Option ℕ
last_colon = last_colon_from 0 None

-- `FILE`
unfoldable pub data_mark : List ℕ → Option Mark
data_mark text = file_of text >>= λ file. Some (record { kind = Local; file = file })

-- `GROUP:FILE`, cut at the last `:`
abbrev pub cut_mark : List ℕ → ℕ → Option Mark
cut_mark text place = do
  group ← group_of (take place text)
  file ← file_of (drop (place + 1) text)
  Some (record { kind = Group group; file = file })

unfoldable pub group_mark : List ℕ → Option Mark
group_mark text = last_colon text >>= cut_mark text

-- `data:FILE` or `group:GROUP:FILE`
unfoldable pub mark_of : List ℕ → Option Mark
mark_of word =
    if starts_with nat_eq word (codes "data:") then data_mark (drop 5 word) else
    if starts_with nat_eq word (codes "group:") then group_mark (drop 6 word) else None

unfoldable pub marks_of : List (List ℕ) → Option (List Mark)
marks_of [] = Some []
marks_of (word ∷ words) = mark_of word >>= λ mark. marks_of words >>= λ marks. Some (mark ∷ marks)

-- ---- the whole

-- a file name
abbrev pub file_in : List Row → List ℕ → Option (List ℕ)
file_in rows option = first_of option rows >>= file_of

abbrev pub release_in : List Row → Option Version
release_in rows = first_of (codes "release") rows >>= release_of

-- the publisher is the name, where none is given
abbrev pub publisher_in : List Row → List ℕ → Option (List ℕ)
publisher_in rows name = publisher_of (unwrap_or (first_of (codes "publisher") rows) name)

abbrev pub minimum_in : List Row → Option (Option Version)
minimum_in rows = optional release_of (first_of (codes "minimum") rows)

abbrev pub rule_in : List Row → Option Rule
rule_in rows = first_of (codes "check") rows >>= check_of

abbrev pub provider_in : List Row → Option (Option (List ℕ))
provider_in rows = optional provider_of (first_of (codes "provider") rows)

-- the files are written without `.deploy`
abbrev pub is_plain_in : List Row → Bool
is_plain_in rows = bytes_eq (unwrap_or (first_of (codes "plain") rows) []) (codes "true")

abbrev pub marks_in : List Row → Option (List Mark)
marks_in rows = marks_of (unwrap_or (all_of (codes "marks") rows) [])

-- with what the words give for each option, and for the marks
unfoldable pub options_in : List Row → Option Options
options_in rows = do
  name ← first_of (codes "name") rows
  version ← release_in rows
  entry ← file_in rows (codes "entry")
  source ← file_in rows (codes "from")
  target ← file_in rows (codes "to")
  publisher ← publisher_in rows name
  minimum ← minimum_in rows
  rule ← rule_in rows
  provider ← provider_in rows
  marks ← marks_in rows
  Some (record {
    name = name;
    version = version;
    entry = entry;
    from = source;
    to = target;
    publisher = publisher;
    minimum = minimum;
    rule = rule;
    provider = provider;
    mapped = not (is_plain_in rows);
    marks = marks;
  })

-- each word is text
abbrev pub are_texts : List (List ℕ) → Bool
are_texts = list_all is_utf8

-- the options that the words give
unfoldable pub options_of : List (List ℕ) → Option Options
options_of words = if are_texts words then options_in (matches_in words) else None
