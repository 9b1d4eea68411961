-- How lines are read, and how replies are written.
use Rattle.std.specs.Prelude.{◌≡◌, ◌≤◌, ◌*◌, ◌%◌, ℕ, Bool, true, false, ◌&&◌, List, [], ◌∷◌, ◌++◌, length, map, nat_le, nat_lt, if◌then◌else◌, codes, Option, Some, None, Result, Ok, Err}
use Rattle.std.specs.Fmt.{decimal}
use Rattle.std.specs.List.{join_with_byte, list_all}
use Rattle.std.specs.Str.{bytes_eq, is_utf8}
use Rattle.std.specs.Str.Lines.{lines}
use Rattle.identity.specs.declared.version.Version.{Version}
use Rattle.identity.specs.declared.version.VersionFault.{VersionFault}
use Rattle.identity.specs.declared.key.Key.{Key}
use Rattle.identity.specs.declared.key.KeyFault.{KeyFault}
use Rattle.identity.specs.Version.{version_of, version_text}
use Rattle.identity.specs.Key.{comma, key_of, key_text}
use Rattle.digest_list.specs.declared.difference.Difference.TheVariants.{Digest, Size}
use Rattle.digest_list.specs.Algorithm.{name_of}
use Rattle.hex.specs.declared.error.FromHexError.{FromHexError}
use Rattle.hex.specs.Hex.{decode_of, encode_lower}
use Rattle.percent_encoding.specs.Percent.{percent_decode}
use Rattle.causes.specs.declared.cause.Cause.{Cause}
use Rattle.causes.specs.declared.cause.Cause.TheVariants.{Differs, Down, Missing, TooLong}
use Rattle.addresses.specs.Join.{target_text}
use Rattle.manifests.specs.declared.releases.ReleaseFault.{ReleaseFault}
use Rattle.manifests.specs.declared.releases.ReleaseFault.TheVariants as unlike
use Rattle.manifest_text.specs.Lines.{refusal_text, two}
use Rattle.machine.specs.declared.command.Command.{Command}
use Rattle.machine.specs.declared.command.Command.TheVariants.{At, Require, Install, Check, Skip, Rollback, Launch, Read, Local, Put, Remove, Group, Finish, Clean, Show}
use Rattle.machine.specs.declared.command.Command.TheVariants as asks
use Rattle.machine.specs.declared.command.LineFault.{LineFault}
use Rattle.machine.specs.declared.command.LineFault.TheVariants.{LineTooLong, NoSuchCommand, WordCount, BadWord}
use Rattle.machine.specs.declared.command.LineFault.TheVariants as fault
use Rattle.machine.specs.declared.event.Event.{Event}
use Rattle.machine.specs.declared.event.Event.TheVariants.{Boot, Line, Unread}
use Rattle.small_types.specs.Cuts.{parts_between}
use Rattle.small_types.specs.Limit.{limit_text}
use Rattle.small_types.specs.declared.limits.TheConstants.{LEASE_LIMIT, LINE_LIMIT, NAME_LIMIT, PIECE_LIMIT, URL_LIMIT}
use Rattle.small_types.specs.declared.name.NameFault.{NameFault}
use Rattle.small_types.specs.declared.target.Target.{Target}
use Rattle.small_types.specs.Name as names
use Rattle.small_types.specs.Outcome.{◌>>=◌}
use Rattle.command_text.specs.declared.file_lines.Span.{Span}
use Rattle.command_text.specs.Applications.{list_text, optional_text, show_text}
use Rattle.command_text.specs.Numbers.{count_of, number_of}
use Rattle.machine.specs.declared.reply.Reply.{Reply}
use Rattle.machine.specs.declared.reply.Reply.TheVariants.{AllLinks, BadName, BadUrl, BelowMinimum, CheckFirst, Checked, Cleaned, Current, Finished, Full, Installed, Lease, LeasesFull, Listed, Manifest, Minimum, NoFile, NoGroup, NoLease, NoPrevious, NotHttp, NotInstalled, NotNewer, NothingOffered, Offered, Release, Removed, Required, Shown, Skipped, Spent, TableFull, TooMany}
use Rattle.machine.specs.declared.reply.Reply.TheVariants as reply

-- words are separated by one space each
abbrev pub words_of : List ℕ → List (List ℕ)
words_of line = parts_between 32 line

-- the words behind a first word: none where no space follows it
abbrev pub words_behind : Option (List ℕ) → List (List ℕ)
words_behind None = []
words_behind (Some rest) = words_of rest

-- what the first word that cannot be read makes of the two words of a `require`
abbrev pub require_of : Result Key KeyFault → Result Version VersionFault → Result Command LineFault
require_of (Err key) version = Err (BadWord 1)
require_of (Ok key) (Err version) = Err (BadWord 2)
require_of (Ok key) (Ok version) = Ok (Require key version)

-- the words after `require`
abbrev pub require_words : List (List ℕ) → Result Command LineFault
require_words [] = Err WordCount
require_words (key ∷ []) = Err WordCount
require_words (key ∷ version ∷ []) = require_of (key_of key) (version_of version)
require_words (key ∷ version ∷ more ∷ rest) = Err WordCount

-- what the word of an `at` is
abbrev pub at_of : Option ℕ → Result Command LineFault
at_of None = Err (BadWord 1)
at_of (Some now) = Ok (At now)

-- the words after `at`
abbrev pub at_words : List (List ℕ) → Result Command LineFault
at_words [] = Err WordCount
at_words (now ∷ []) = at_of (number_of now)
at_words (now ∷ more ∷ rest) = Err WordCount

-- an address is 1 to 2,048 bytes, each from 33 to 126
abbrev pub is_visible : ℕ → Bool
is_visible byte = nat_le 33 byte && nat_le byte 126

unfoldable pub is_url : List ℕ → Bool
is_url word =
    nat_le 1 (length word) && nat_le (length word) URL_LIMIT && list_all is_visible word

-- the words after `install`
abbrev pub install_words : List (List ℕ) → Result Command LineFault
install_words [] = Err WordCount
install_words (url ∷ []) = if is_url url then Ok (Install url) else Err (BadWord 1)
install_words (url ∷ more ∷ rest) = Err WordCount

-- what a word is that is read as a key
abbrev pub key_word : Result Key KeyFault → Result Key LineFault
key_word (Err fault) = Err (BadWord 1)
key_word (Ok key) = Ok key

-- the one word after `check`, `skip`, `rollback`, `launch` or `show`
abbrev pub key_words : List (List ℕ) → Result Key LineFault
key_words [] = Err WordCount
key_words (key ∷ []) = key_word (key_of key)
key_words (key ∷ more ∷ rest) = Err WordCount

-- the words after `check`
abbrev pub check_words : List (List ℕ) → Result Command LineFault
check_words args = do
  key ← key_words args
  Ok (Check key)

-- the words after `skip`
abbrev pub skip_words : List (List ℕ) → Result Command LineFault
skip_words args = do
  key ← key_words args
  Ok (Skip key)

-- the words after `rollback`
abbrev pub rollback_words : List (List ℕ) → Result Command LineFault
rollback_words args = do
  key ← key_words args
  Ok (Rollback key)

-- the words after `launch`
abbrev pub launch_words : List (List ℕ) → Result Command LineFault
launch_words args = do
  key ← key_words args
  Ok (Launch key)

-- the words after `show`
abbrev pub show_words : List (List ℕ) → Result Command LineFault
show_words args = do
  key ← key_words args
  Ok (Show key)

-- no word comes after `clean` or `list`
abbrev pub no_words : Command → List (List ℕ) → Result Command LineFault
no_words command [] = Ok command
no_words command (more ∷ rest) = Err WordCount

-- the words after `clean`
abbrev pub clean_words : List (List ℕ) → Result Command LineFault
clean_words args = no_words Clean args

-- the words after `list`
abbrev pub list_words : List (List ℕ) → Result Command LineFault
list_words args = no_words asks.List args

-- the file name of a word, with each escape read
abbrev pub file_of : List ℕ → Result (List ℕ) NameFault
file_of word = names.name_of (percent_decode word)

-- what the first word that cannot be read makes of the four words of a `read` or a `data`
abbrev pub span_of : Option ℕ → Result (List ℕ) NameFault → Option ℕ → Option ℕ
    → Result Span LineFault
span_of None name from count = Err (BadWord 1)
span_of (Some lease) (Err name) from count = Err (BadWord 2)
span_of (Some lease) (Ok name) None count = Err (BadWord 3)
span_of (Some lease) (Ok name) (Some from) None = Err (BadWord 4)
span_of (Some lease) (Ok name) (Some from) (Some count) =
    Ok (record { lease = lease; name = name; from = from; count = count })

-- the four words after `read` or `data`
abbrev pub span_words : List (List ℕ) → Result Span LineFault
span_words (lease ∷ name ∷ from ∷ count ∷ []) =
    span_of (number_of lease) (file_of name) (number_of from) (count_of count)
span_words _ = Err WordCount

-- the words after `read`
abbrev pub read_words : List (List ℕ) → Result Command LineFault
read_words args = do
  span ← span_words args
  Ok (Read span.lease span.name span.from span.count)

-- the words after `data`
abbrev pub data_words : List (List ℕ) → Result Command LineFault
data_words args = do
  span ← span_words args
  Ok (Local span.lease span.name span.from span.count)

-- it has two digits for each of 1 to 30,000 bytes
abbrev pub HasLength : List ℕ → Type 0
HasLength word =
    (1 ≤ length word) × (length word ≤ 2 * PIECE_LIMIT) × (length word % 2 ≡ 0)

-- decoded bytes, where there are 1 to 30,000
abbrev pub bytes_in : Result (List ℕ) FromHexError → Option (List ℕ)
bytes_in (Err fault) = None
bytes_in (Ok bytes) =
    if nat_le 1 (length bytes) && nat_le (length bytes) PIECE_LIMIT then Some bytes else None

-- the bytes that a word of hexadecimal digits in either case spells, two for each
unfoldable pub digit_bytes : List ℕ → Option (List ℕ)
digit_bytes word = bytes_in (decode_of word)

-- the bytes of a word: none for a dash
unfoldable pub bytes_word : List ℕ → Option (List ℕ)
bytes_word word = if bytes_eq word (codes "-") then Some [] else digit_bytes word

-- what the first word that cannot be read makes of the three words of a `put`
abbrev pub put_of : Option ℕ → Result (List ℕ) NameFault → Option (List ℕ)
    → Result Command LineFault
put_of None name bytes = Err (BadWord 1)
put_of (Some lease) (Err name) bytes = Err (BadWord 2)
put_of (Some lease) (Ok name) None = Err (BadWord 3)
put_of (Some lease) (Ok name) (Some bytes) = Ok (Put lease name bytes)

-- the words after `put`
abbrev pub put_words : List (List ℕ) → Result Command LineFault
put_words (lease ∷ name ∷ bytes ∷ []) =
    put_of (number_of lease) (file_of name) (bytes_word bytes)
put_words _ = Err WordCount

-- what the first word that cannot be read makes of the two words of a `remove`
abbrev pub remove_of : Option ℕ → Result (List ℕ) NameFault → Result Command LineFault
remove_of None name = Err (BadWord 1)
remove_of (Some lease) (Err name) = Err (BadWord 2)
remove_of (Some lease) (Ok name) = Ok (Remove lease name)

-- the words after `remove`
abbrev pub remove_words : List (List ℕ) → Result Command LineFault
remove_words (lease ∷ name ∷ []) = remove_of (number_of lease) (file_of name)
remove_words _ = Err WordCount

-- a group is UTF-8 of 1 to 240 bytes
unfoldable pub is_group : List ℕ → Bool
is_group text = nat_lt 0 (length text) && nat_le (length text) NAME_LIMIT && is_utf8 text

-- the bytes, where they are one
unfoldable pub group_in : List ℕ → Option (List ℕ)
group_in text = if is_group text then Some text else None

-- the group of a word, with each escape read
abbrev pub group_word : List ℕ → Option (List ℕ)
group_word word = group_in (percent_decode word)

-- what the first word that cannot be read makes of the two words of a `group`
abbrev pub group_of : Option ℕ → Option (List ℕ) → Result Command LineFault
group_of None group = Err (BadWord 1)
group_of (Some lease) None = Err (BadWord 2)
group_of (Some lease) (Some group) = Ok (Group lease group)

-- the words after `group`
abbrev pub group_words : List (List ℕ) → Result Command LineFault
group_words [] = Err WordCount
group_words (lease ∷ []) = Err WordCount
group_words (lease ∷ group ∷ []) = group_of (number_of lease) (group_word group)
group_words (lease ∷ group ∷ more ∷ rest) = Err WordCount

-- what the word of a `finish` is
abbrev pub finish_of : Option ℕ → Result Command LineFault
finish_of None = Err (BadWord 1)
finish_of (Some lease) = Ok (Finish lease)

-- the words after `finish`
abbrev pub finish_words : List (List ℕ) → Result Command LineFault
finish_words [] = Err WordCount
finish_words (lease ∷ []) = finish_of (number_of lease)
finish_words (lease ∷ more ∷ rest) = Err WordCount

-- the words of a command that names a lease
abbrev pub lease_words : List ℕ → List (List ℕ) → Result Command LineFault
lease_words name args =
    if bytes_eq name (codes "read") then read_words args
    else if bytes_eq name (codes "data") then data_words args
    else if bytes_eq name (codes "put") then put_words args
    else if bytes_eq name (codes "remove") then remove_words args
    else if bytes_eq name (codes "group") then group_words args
    else if bytes_eq name (codes "finish") then finish_words args
    else Err NoSuchCommand

-- the words of a command that names an application by its key alone, or a lease
abbrev pub named_words : List ℕ → List (List ℕ) → Result Command LineFault
named_words name args =
    if bytes_eq name (codes "check") then check_words args
    else if bytes_eq name (codes "skip") then skip_words args
    else if bytes_eq name (codes "rollback") then rollback_words args
    else if bytes_eq name (codes "launch") then launch_words args
    else if bytes_eq name (codes "show") then show_words args
    else lease_words name args

-- the first word names the command
abbrev pub command_words : List (List ℕ) → Result Command LineFault
command_words [] = Err NoSuchCommand
command_words (name ∷ args) =
    if bytes_eq name (codes "at") then at_words args
    else if bytes_eq name (codes "require") then require_words args
    else if bytes_eq name (codes "install") then install_words args
    else if bytes_eq name (codes "clean") then clean_words args
    else if bytes_eq name (codes "list") then list_words args
    else named_words name args

-- what a line asks for, or why it is no command
unfoldable pub command_of : List ℕ → Result Command LineFault
command_of line =
    if nat_le (length line) LINE_LIMIT then command_words (words_of line) else Err LineTooLong

-- an error of a call is that of the reading, unless memory ran out
abbrev pub Fails : {X : Type 0} → LineFault → Result X LineFault → Type 0
Fails fault.Memory read = Unit {0}
Fails e read = read ≡ Err e

-- a call gives what the reading gives, unless memory ran out
abbrev pub Gives : {X : Type 0} → Result X LineFault → Result X LineFault → Type 0
Gives (Ok x) read = read ≡ Ok x
Gives (Err e) read = Fails e read

-- Each line is an event: a command, or unread with its fault. Where reading it found no memory it
-- is unread for that. The moment of a command, and what it heard, are those of the run.
abbrev pub IsEvent : List ℕ → Event → Type 0
IsEvent line (Line command now heard) = command_of line ≡ Ok command
IsEvent line (Unread fault) = Fails fault (command_of line)
IsEvent line (Boot boot) = ⊥

-- one event for each line
abbrev pub AreEvents : List (List ℕ) → List Event → Type 0
AreEvents [] [] = Unit {0}
AreEvents [] (event ∷ events) = ⊥
AreEvents (line ∷ lines) [] = ⊥
AreEvents (line ∷ lines) (event ∷ events) = IsEvent line event × AreEvents lines events

abbrev pub fault_text : LineFault → List ℕ
fault_text LineTooLong = codes "no line too-long\n"
fault_text NoSuchCommand = codes "no line command\n"
fault_text WordCount = codes "no line words\n"
fault_text (BadWord place) = codes "no line word " ++ (decimal place ++ codes "\n")
fault_text fault.Memory = codes "no memory\n"

-- ---- replies

-- a key, a version and the number of a view
abbrev pub installed_text : Key → Version → ℕ → List ℕ
installed_text key version view =
    codes "ok installed " ++ (key_text key ++ (codes " " ++ (version_text version
    ++ (codes " " ++ (decimal view ++ codes "\n")))))

-- what is offered, and the minimum
abbrev pub checked_text : Option Version → Option Version → List ℕ
checked_text offer minimum =
    codes "ok checked " ++ (optional_text offer ++ (codes " " ++ (optional_text minimum
    ++ codes "\n")))

-- whether the time for the next check has come
abbrev pub note_text : Bool → List ℕ
note_text true = codes "check-due"
note_text false = codes "-"

-- a lease, the version that it is on, and the note
abbrev pub lease_text : ℕ → Version → Bool → List ℕ
lease_text lease version check_due =
    codes "ok lease " ++ (decimal lease ++ (codes " " ++ (version_text version
    ++ (codes " " ++ (note_text check_due ++ codes "\n")))))

-- bytes as a reply shows them
abbrev pub shown_text : List ℕ → List ℕ
shown_text [] = codes "-"
shown_text (byte ∷ bytes) = encode_lower (byte ∷ bytes)

-- the length of a file, and the bytes of it that were asked for
abbrev pub read_text : ℕ → List ℕ → List ℕ
read_text size bytes =
    codes "ok bytes " ++ (decimal size ++ (codes " " ++ (shown_text bytes ++ codes "\n")))

-- why one link did not serve
abbrev pub reason_text : Cause → List ℕ
reason_text Down = codes "down"
reason_text Missing = codes "missing"
reason_text (TooLong length limit) =
    codes "too-long:" ++ (decimal length ++ (codes ":" ++ decimal limit))
reason_text (Differs (Size listed found)) =
    codes "size:" ++ (decimal listed ++ (codes ":" ++ decimal found))
reason_text (Differs (Digest algorithm listed found)) =
    codes "differs:" ++ (name_of algorithm
    ++ (codes ":" ++ (encode_lower listed ++ (codes ":" ++ encode_lower found))))

-- those of all links, with commas between them
unfoldable pub reasons_text : List Cause → List ℕ
reasons_text causes = join_with_byte comma (map reason_text causes)

-- what no link gave, and why
abbrev pub lacking_text : Target → List ℕ
lacking_text target = codes "no links " ++ (target_text target ++ codes " ")

abbrev pub links_text : Target → List Cause → List ℕ
links_text target causes = lacking_text target ++ (reasons_text causes ++ codes "\n")

-- the listed one and the one that was found
abbrev pub identities_text : Key → Key → List ℕ
identities_text listed found =
    codes "no release identity " ++ (key_text listed
    ++ (codes " " ++ (key_text found ++ codes "\n")))

-- the key that was found in place of the one that was asked for
abbrev pub identity_text : Key → List ℕ
identity_text found = codes "no identity " ++ (key_text found ++ codes "\n")

-- no row answers the last two
abbrev pub release_text : ReleaseFault → List ℕ
release_text (unlike.IdentityDiffers listed found) = identities_text listed found
release_text (unlike.VersionDiffers listed found) =
    codes "no release version " ++ (two (version_text listed) (version_text found) ++ codes "\n")
release_text (unlike.Mismatch difference) = codes "no release mismatch\n"
release_text unlike.Memory = codes "no memory\n"

-- the bytes of a reply
unfoldable pub reply_text : Reply → List ℕ
reply_text (reply.At now) = codes "ok at " ++ (decimal now ++ codes "\n")
reply_text (Minimum version) = codes "ok minimum " ++ (version_text version ++ codes "\n")
reply_text (TooMany what limit) =
    codes "no too-many " ++ (limit_text what ++ (codes " " ++ (decimal limit ++ codes "\n")))
reply_text (Installed key version view) = installed_text key version view
reply_text (Checked offer minimum) = checked_text offer minimum
reply_text (Skipped version) = codes "ok skipped " ++ (version_text version ++ codes "\n")
reply_text (Current version) = codes "ok current " ++ (version_text version ++ codes "\n")
reply_text (Lease lease version check_due) = lease_text lease version check_due
reply_text (reply.Read size bytes) = read_text size bytes
reply_text reply.Put = codes "ok put\n"
reply_text Removed = codes "ok removed\n"
reply_text (reply.Group files) = codes "ok group " ++ (decimal files ++ codes "\n")
reply_text (Finished lease) = codes "ok finished " ++ (decimal lease ++ codes "\n")
reply_text (Cleaned views) = codes "ok cleaned " ++ (decimal views ++ codes "\n")
reply_text (Listed rows) = list_text rows
reply_text (Shown row) = show_text row
reply_text NotInstalled = codes "no not-installed\n"
reply_text NoLease = codes "no no-lease\n"
reply_text NoGroup = codes "no no-group\n"
reply_text NoPrevious = codes "no no-previous\n"
reply_text NothingOffered = codes "no nothing-offered\n"
reply_text NoFile = codes "no no-file\n"
reply_text BadName = codes "no bad-name\n"
reply_text CheckFirst = codes "no check-first\n"
reply_text (Required minimum) = codes "no required " ++ (version_text minimum ++ codes "\n")
reply_text (Offered version) = codes "no offered " ++ (version_text version ++ codes "\n")
reply_text LeasesFull = codes "no leases-full " ++ (decimal LEASE_LIMIT ++ codes "\n")
reply_text (NotNewer have) = codes "no not-newer " ++ (version_text have ++ codes "\n")
reply_text (BelowMinimum minimum) = codes "no below-minimum "
    ++ (version_text minimum ++ codes "\n")
reply_text (Spent next) = codes "no spent " ++ (decimal next ++ codes "\n")
reply_text (Full need free) =
    codes "no full " ++ (decimal need ++ (codes " " ++ (decimal free ++ codes "\n")))
reply_text (TableFull weight room) =
    codes "no table-full " ++ (decimal weight ++ (codes " " ++ (decimal room ++ codes "\n")))
reply_text (AllLinks target causes) = links_text target causes
reply_text (Manifest fault) = refusal_text fault
reply_text (Release fault) = release_text fault
reply_text (reply.IdentityDiffers found) = identity_text found
reply_text BadUrl = codes "no bad-url\n"
reply_text NotHttp = codes "no not-http\n"
reply_text (reply.Line fault) = fault_text fault
reply_text reply.Memory = codes "no memory\n"

-- those of all replies in order; a boot event has none
abbrev pub texts_of : List (Option Reply) → List ℕ
texts_of [] = []
texts_of (None ∷ replies) = texts_of replies
texts_of (Some reply ∷ replies) = reply_text reply ++ texts_of replies
