-- The lines that say what a manifest says, or why it is refused.
use Rattle.std.specs.Prelude.{ℕ, Bool, true, false, List, [], ◌∷◌, ◌++◌, codes, decimal, Option, Some, None, if◌then◌else◌}
use Rattle.std.specs.List.{flat_map}
use Rattle.small_types.specs.Limit.{limit_text}
use Rattle.identity.specs.declared.identity.Identity.{Identity}
use Rattle.identity.specs.declared.version.Version.{Version}
use Rattle.identity.specs.Key.{key_text, word_text}
use Rattle.identity.specs.Version.{version_text}
use Rattle.digest_list.specs.declared.digest.Digest.{Digest}
use Rattle.digest_list.specs.Algorithm.{name_of}
use Rattle.hex.specs.Hex.{encode_lower}
use Rattle.manifest_tree.specs.declared.fault.TreeKind.{TreeKind}
use Rattle.manifest_tree.specs.declared.fault.TreeKind.TheVariants as kind
use Rattle.manifest_parts.specs.declared.fault.ManifestFault.{ManifestFault}
use Rattle.manifest_parts.specs.declared.fault.ManifestFault.TheVariants as fault
use Rattle.manifests.specs.declared.facts.Rule.{Rule}
use Rattle.manifests.specs.declared.facts.Rule.TheVariants.{Never, Before, Age}
use Rattle.manifests.specs.declared.facts.FileEntry.{FileEntry}
use Rattle.manifests.specs.declared.facts.Deployment.{Deployment}
use Rattle.manifests.specs.declared.facts.Application.{Application}

-- a line: a word, a space, what is said, and a line feed
abbrev pub line : List ℕ → List ℕ → List ℕ
line word said = word ++ (32 ∷ (said ++ 10 ∷ []))

-- two words with a space between them
abbrev pub two : List ℕ → List ℕ → List ℕ
two first second = first ++ (32 ∷ second)

-- an absent value is `-`
abbrev pub version_or_none : Option Version → List ℕ
version_or_none None = codes "-"
version_or_none (Some version) = version_text version

abbrev pub word_or_none : Option (List ℕ) → List ℕ
word_or_none None = codes "-"
word_or_none (Some text) = word_text text

abbrev pub truth_text : Bool → List ℕ
truth_text true = codes "true"
truth_text false = codes "false"

abbrev pub rule_text : Rule → List ℕ
rule_text Never = codes "never"
rule_text Before = codes "before"
rule_text (Age seconds) = two (codes "age") (decimal seconds)

-- key and version
abbrev pub identity_text : Identity → List ℕ
identity_text identity = two (key_text identity.key) (version_text identity.version)

abbrev pub digest_line : Digest → List ℕ
digest_line digest =
    line (codes "digest") (two (name_of digest.algorithm) (encode_lower digest.value))

-- the lines of a deployment manifest
abbrev pub deployment_text : Deployment → List ℕ
deployment_text d =
    line (codes "deployment") (identity_text d.identity)
    ++ (line (codes "minimum") (version_or_none d.minimum)
    ++ (line (codes "install") (truth_text d.install)
    ++ (line (codes "map") (truth_text d.mapped)
    ++ (line (codes "rule") (rule_text d.rule)
    ++ (line (codes "provider") (word_or_none d.provider)
    ++ (line (codes "codebase") (word_text d.codebase)
    ++ (line (codes "application") (identity_text d.app)
    ++ (line (codes "size") (decimal d.app_size)
    ++ flat_map digest_line d.app_list))))))))

-- when a file is fetched
abbrev pub group_text : Option (List ℕ) → List ℕ
group_text None = codes "required"
group_text (Some group) = codes "group:" ++ word_text group

abbrev pub use_of : FileEntry → List ℕ
use_of e = if e.local then codes "local" else group_text e.group

-- a file: its name, its length and when it is fetched, and its digests
abbrev pub file_line : FileEntry → List ℕ
file_line e = line (codes "file") (two (word_text e.name) (two (decimal e.size) (use_of e)))

abbrev pub file_lines : FileEntry → List ℕ
file_lines e = file_line e ++ flat_map digest_line e.list

-- the lines of an application manifest
abbrev pub application_text : Application → List ℕ
application_text a =
    line (codes "application") (identity_text a.identity)
    ++ (line (codes "entry") (word_text a.entry)
    ++ (line (codes "parameters") (word_text a.parameters)
    ++ flat_map file_lines a.files))

-- ---- refusals

abbrev pub kind_text : TreeKind → List ℕ
kind_text kind.NotUtf8 = codes "not-utf8"
kind_text kind.Syntax = codes "syntax"
kind_text kind.Entity = codes "entity"
kind_text kind.TagMismatch = codes "tag"
kind_text kind.AttributeTwice = codes "attribute-twice"
kind_text kind.TooDeep = codes "too-deep"
kind_text kind.TooLong = codes "too-long"

-- want of memory is no refusal of a manifest; no program writes it so
abbrev pub cause_text : ManifestFault → List ℕ
cause_text (fault.Tree error) =
    two (codes "tree") (two (kind_text error.kind) (decimal error.place))
cause_text (fault.Missing what) = two (codes "missing") (word_text what)
cause_text (fault.Twice what) = two (codes "twice") (word_text what)
cause_text (fault.BadValue what) = two (codes "bad-value") (word_text what)
cause_text fault.Signed = codes "signed"
cause_text (fault.NoDigest file) = two (codes "no-digest") (word_text file)
cause_text (fault.BadName file) = two (codes "bad-name") (word_text file)
cause_text (fault.TwiceNamed file) = two (codes "twice-named") (word_text file)
cause_text (fault.MinimumAboveVersion minimum version) =
    two (codes "minimum-above") (two (version_text minimum) (version_text version))
cause_text fault.OnlineOnly = codes "online-only"
cause_text (fault.TooMany what) = two (codes "too-many") (limit_text what)
cause_text fault.Memory = codes "memory"

-- the line of a refusal
abbrev pub refusal_text : ManifestFault → List ℕ
refusal_text e = line (codes "no manifest") (cause_text e)
