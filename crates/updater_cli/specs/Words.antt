-- What the words of the command line ask for.
use Rattle.std.specs.Prelude.{◌≡◌, ◌==◌, ℕ, ◌%◌, ◌≤◌, List, [], ◌∷◌, drop, Bool, true, false, ◌&&◌, nat_le, if◌then◌else◌, codes, Option, Some, None}
use Rattle.std.specs.Str.{bytes_eq}
use Rattle.small_types.specs.declared.limits.TheConstants.{BLOCK_LIMIT, HALF_LEAST, HALF_LIMIT, HALF_STEP, NUMBER_LIMIT}
use Rattle.small_types.specs.Room.{new_room}
use Rattle.command_text.specs.Numbers.{number_of}
use Rattle.journal.specs.Layout.{AreLimits}
use Rattle.inspection.specs.declared.manifest.Kind.TheVariants.{Deployment, Application}
use Rattle.publish_plan.specs.declared.options.Options.{Options}
use Rattle.publisher.specs.Options.{IsPublishable}
use Rattle.publication.specs.Command.{Takes}
use Rattle.publication.specs.Words.{options_of}
use Rattle.updater_cli.specs.declared.words.Request.{Request}
use Rattle.updater_cli.specs.declared.words.Request.TheVariants.{Demo, Format, Session, Inspect, Publish}

-- a number of blocks is 1 to 1,048,576
abbrev pub is_block_count : ℕ → Bool
is_block_count blocks = nat_le 1 blocks && nat_le blocks BLOCK_LIMIT

-- a half of the journal has 1,048,576 to 67,108,864 bytes, in steps of 4,096
abbrev pub is_half : ℕ → Bool
is_half half = nat_le HALF_LEAST half && nat_le half HALF_LIMIT && half % HALF_STEP == 0

-- where no length of a half is given, it is 16,777,216
abbrev pub format_of : Option ℕ → Option Request
format_of None = None
format_of (Some blocks) = if is_block_count blocks then Some (Format (new_room blocks)) else None

-- with halves of the length that is given
abbrev pub format_with : Option ℕ → Option ℕ → Option Request
format_with None half = None
format_with (Some blocks) None = None
format_with (Some blocks) (Some half) =
    if is_block_count blocks && is_half half
    then Some (Format (record { blocks = blocks; half = half })) else None

abbrev pub session_of : Option ℕ → Option ℕ → Option Request
session_of (Some boot) (Some now) = Some (Session boot now)
session_of (Some boot) None = None
session_of None now = None

-- which manifest is inspected
abbrev pub kind_of : List ℕ → Option Request
kind_of word =
    if bytes_eq word (codes "deployment") then Some (Inspect Deployment) else
    if bytes_eq word (codes "application") then Some (Inspect Application) else None

-- the number that a generated run is made from
abbrev pub demo_of : Option ℕ → Option Request
demo_of None = None
demo_of (Some seed) = Some (Demo seed)

-- `format --blocks N`, `format --blocks N --half N`, `session --boot N --now N`,
-- `inspect deployment`, `inspect application` and `demo SEED`, and nothing else
abbrev pub other_of : List (List ℕ) → Option Request
other_of [] = None
other_of (command ∷ []) = None
other_of (command ∷ option ∷ []) =
    if bytes_eq command (codes "inspect") then kind_of option else
    if bytes_eq command (codes "demo") then demo_of (number_of option) else None
other_of (command ∷ option ∷ blocks ∷ []) =
    if bytes_eq command (codes "format") && bytes_eq option (codes "--blocks")
    then format_of (number_of blocks) else None
other_of (command ∷ option ∷ boot ∷ second ∷ []) = None
other_of (command ∷ option ∷ boot ∷ second ∷ now ∷ []) =
    if bytes_eq command (codes "session")
    && (bytes_eq option (codes "--boot") && bytes_eq second (codes "--now"))
    then session_of (number_of boot) (number_of now) else
    if bytes_eq command (codes "format")
    && (bytes_eq option (codes "--blocks") && bytes_eq second (codes "--half"))
    then format_with (number_of boot) (number_of now) else None
other_of (command ∷ option ∷ boot ∷ second ∷ now ∷ more ∷ rest) = None

-- the first word is `publish`
abbrev pub is_publish : List (List ℕ) → Bool
is_publish [] = false
is_publish (command ∷ rest) = bytes_eq command (codes "publish")

abbrev pub publish_of : Option Options → Option Request
publish_of None = None
publish_of (Some options) = Some (Publish options)

-- `publish` and the words that it takes, or one of the others
abbrev pub request_of : List (List ℕ) → Option Request
request_of words =
    if is_publish words then publish_of (options_of (drop 1 words)) else other_of words

-- The first word is `publish`, and its options do not take the words behind it, as where one is
-- unknown, has no value or stands twice.
abbrev pub IsUntaken : List (List ℕ) → Type 0
IsUntaken words = (is_publish words ≡ true) × ¬ Takes (drop 1 words)

-- a publish is asked for
abbrev pub AsksToPublish : Option Request → Type 0
AsksToPublish (Some (Publish options)) = Unit {0}
AsksToPublish _ = ⊥

-- a session is
abbrev pub AsksForSession : Option Request → Type 0
AsksForSession (Some (Session boot now)) = Unit {0}
AsksForSession _ = ⊥

-- a generated run is
abbrev pub AsksForDemo : Option Request → Type 0
AsksForDemo (Some (Demo seed)) = Unit {0}
AsksForDemo _ = ⊥

-- the numbers of what is asked for are within their limits, and the options of a publish can be
-- written
abbrev pub IsRequest : Request → Type 0
IsRequest (Format room) = AreLimits room.blocks room.half
IsRequest (Session boot now) = (boot ≤ NUMBER_LIMIT) × (now ≤ NUMBER_LIMIT)
IsRequest (Inspect kind) = Unit {0}
IsRequest (Demo seed) = Unit {0}
IsRequest (Publish options) = IsPublishable options
