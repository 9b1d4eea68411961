-- The line that says how a publish ended.
use Rattle.std.specs.Prelude.{ℕ, Bool, true, false, List, [], codes, decimal, Result, Ok, Err}
use Rattle.small_types.specs.Limit.{limit_text}
use Rattle.identity.specs.Key.{key_text, word_text}
use Rattle.identity.specs.Version.{version_text}
use Rattle.manifest_text.specs.Lines.{line, two}
use Rattle.publication.specs.declared.publication.PublishEnd.{PublishEnd}
use Rattle.publication.specs.declared.publication.PublishEnd.TheVariants as ends
use Rattle.publisher.specs.declared.published.Published.{Published}
use Rattle.publisher.specs.declared.fault.PublishFault.{PublishFault}
use Rattle.publisher.specs.declared.fault.PublishFault.TheVariants.{BadName, MinimumAbove, ReadFault, VersionExists, EmptyInput, BadInput, TooMany, NoEntryPoint, BadMark, FileTooLong, ManifestTooLong, WriteFault, Changed, Memory}

-- the key, the version and the number of input files
unfoldable pub published_line : Published → List ℕ
published_line p =
    line (codes "published")
    (two (key_text p.key) (two (version_text p.version) (decimal p.files)))

-- why a publish is refused; a failing folder and want of memory are no refusals
unfoldable pub cause_text : PublishFault → List ℕ
cause_text (BadName word) = two (codes "bad-name") (word_text word)
cause_text (MinimumAbove minimum) = two (codes "minimum-above") (version_text minimum)
cause_text (VersionExists file) = two (codes "version-exists") (word_text file)
cause_text EmptyInput = codes "empty-input"
cause_text (BadInput file) = two (codes "bad-input") (word_text file)
cause_text (TooMany what) = two (codes "too-many") (limit_text what)
cause_text NoEntryPoint = codes "no-entry-point"
cause_text (BadMark file) = two (codes "bad-mark") (word_text file)
cause_text (FileTooLong file length) =
    two (codes "file-too-long") (two (word_text file) (decimal length))
cause_text (ManifestTooLong length) = two (codes "manifest-too-long") (decimal length)
cause_text (Changed file difference) = two (codes "changed") (word_text file)
cause_text ReadFault = []
cause_text WriteFault = []
cause_text Memory = []

abbrev pub refusal_line : PublishFault → List ℕ
refusal_line fault = line (codes "no publish") (cause_text fault)

-- the line of what came of a publish, where it was done or is refused
abbrev pub line_of : Result Published PublishFault → List ℕ
line_of (Ok p) = published_line p
line_of (Err e) = refusal_line e

-- how the call ends after a fault: the folder failed, or memory ran out, and all else is a refusal
abbrev pub end_of_fault : PublishFault → PublishEnd
end_of_fault ReadFault = ends.ReadFault
end_of_fault WriteFault = ends.WriteFault
end_of_fault Memory = ends.Memory
end_of_fault e = ends.Refused

-- how it ends after a publish with this result, once its line is written, if it has one
abbrev pub end_of_publish : Result Published PublishFault → PublishEnd
end_of_publish (Ok p) = ends.Done
end_of_publish (Err e) = end_of_fault e

-- whether an end has a line
abbrev pub has_line : PublishEnd → Bool
has_line ends.Done = true
has_line ends.Refused = true
has_line end = false
