-- What inspecting a manifest writes, and how it ends.
use Rattle.std.specs.Prelude.{◌≡◌, ◌≢◌, ◌⊎◌, ℕ, List, Ok, Err, take}
use Rattle.outside.specs.Streams.{Appends, AppendsPart}
use Rattle.manifest_tree.specs.Tree.{Tree}
use Rattle.manifest_parts.specs.declared.fault.ManifestFault.{ManifestFault}
use Rattle.manifest_parts.specs.declared.fault.ManifestFault.TheVariants.{Memory}
use Rattle.manifest_parts.specs.Elements.{Read}
use Rattle.manifest_parts.specs.Parts.{Answers}
use Rattle.manifests.specs.Deployments.{deployment_of}
use Rattle.manifests.specs.Applications.{application_of}
use Rattle.manifest_text.specs.Lines.{deployment_text, application_text, refusal_text}
use Rattle.inspection.specs.declared.manifest.Kind.{Kind}
use Rattle.inspection.specs.declared.manifest.Kind.TheVariants.{Deployment, Application}
use Rattle.inspection.specs.declared.manifest.InspectionEnd.{InspectionEnd}
use Rattle.inspection.specs.declared.manifest.InspectionEnd.TheVariants as ends
use Rattle.inspection.specs.declared.manifest.TheConstants.{INSPECTED_LIMIT}

-- the exit status
abbrev pub exit_status : InspectionEnd → ℕ
exit_status ends.Done = 0
exit_status ends.Refused = 7
exit_status ends.SourceFault = 2
exit_status ends.SinkFault = 3
exit_status ends.Memory = 6

-- the lines are those of the facts of the bytes, and all is done
pub record SaysFacts {A : Type 0} (facts : Tree → Read A) (text : A
    → List ℕ) (bytes lines : List ℕ) (end : InspectionEnd) : Type 0 where
  pub value : A
  pub told : Answers facts bytes (Ok value)
  pub lines_are : lines ≡ text value
  pub end_is : end ≡ ends.Done

-- the line is that of the bytes' refusal
pub record SaysRefusal {A : Type 0} (facts : Tree → Read A) (bytes lines : List ℕ)
    (end : InspectionEnd) : Type 0 where
  pub refusal : ManifestFault
  pub told : Answers facts bytes (Err refusal)
  pub not_memory : refusal ≢ Memory
  pub line_is : lines ≡ refusal_text refusal
  pub end_is : end ≡ ends.Refused

abbrev pub SaysFor : {A : Type 0} → (Tree → Read A) → (A → List ℕ) → List ℕ → List ℕ → InspectionEnd
    → Type 0
SaysFor facts text bytes lines end =
    SaysFacts facts text bytes lines end ⊎ SaysRefusal facts bytes lines end

-- what is said of the bytes as a manifest of a kind, and how that ends
abbrev pub Says : Kind → List ℕ → List ℕ → InspectionEnd → Type 0
Says Deployment bytes lines end = SaysFor deployment_of deployment_text bytes lines end
Says Application bytes lines end = SaysFor application_of application_text bytes lines end

-- the lines for the input were written whole
pub record SaysAll (kind : Kind) (source_tells sink_tells : Type 0) (input old new : List ℕ)
    (end : InspectionEnd) : Type 0 where
  pub lines : List ℕ
  pub said : source_tells → Says kind (take INSPECTED_LIMIT input) lines end
  pub taken : sink_tells → Appends old new lines

-- a first part of them was, and not all
pub record SaysPart (kind : Kind) (source_tells sink_tells : Type 0) (input old new : List ℕ)
    : Type 0 where
  pub lines : List ℕ
  pub meant : InspectionEnd
  pub said : source_tells → Says kind (take INSPECTED_LIMIT input) lines meant
  pub taken : sink_tells → AppendsPart old new lines

-- What inspecting the input does. Where it is done the lines of its facts were written, and where
-- it is refused its refusal; where the sink failed, a first part of them.
pub record Inspects (kind : Kind) (source_tells sink_tells : Type 0) (input old new : List ℕ)
    (end : InspectionEnd) : Type 0 where
  pub whole : (end ≡ ends.Done) ⊎ (end ≡ ends.Refused)
      → SaysAll kind source_tells sink_tells input old new end
  pub part : end ≡ ends.SinkFault → SaysPart kind source_tells sink_tells input old new
