-- What a publish gives, against the definitions.
use Rattle.std.specs.Prelude.{◌≡◌, ◌≢◌, ℕ, List, Ok, Err, IsOk, IsSome}
use Rattle.folders.specs.declared.folder.Held.{Held}
use Rattle.folders.specs.Files.{file_in}
use Rattle.publisher.specs.declared.fault.PublishFault.{PublishFault}
use Rattle.publisher.specs.declared.fault.PublishFault.TheVariants.{ReadFault, WriteFault, Changed, Memory}
use Rattle.publisher.specs.Publication.{Outcome}
use Rattle.publisher.specs.Puts.{PutsAll, PutsFront, PutsInput}

-- an error of a call that writes nothing is the refusal, unless the folder failed or memory ran out
abbrev pub Fails : {A : Type 0} → PublishFault → Outcome A → Type 0
Fails ReadFault outcome = Unit {0}
Fails Memory outcome = Unit {0}
Fails WriteFault outcome = ⊥
Fails (Changed file difference) outcome = ⊥
Fails e outcome = outcome ≡ Err e

-- a call that writes nothing gives what the definitions say
abbrev pub Gives : {A B : Type 0} → (A → B) → Outcome A → Outcome B → Type 0
Gives view (Ok x) outcome = outcome ≡ Ok (view x)
Gives view (Err e) outcome = Fails e outcome

-- an error is the refusal, unless the folder failed or memory ran out; files are written only where
-- there is no refusal
abbrev pub Refuses : PublishFault → Outcome (List Held) → Type 0
Refuses ReadFault files = Unit {0}
Refuses Memory files = Unit {0}
Refuses WriteFault files = IsOk files
Refuses (Changed file difference) files = ⊥
Refuses e files = files ≡ Err e

-- what stands after an error: some first part of the files is put, and where they are refused
-- nothing is
abbrev pub Leaves : Outcome (List Held) → List Held → List Held → Type 0
Leaves (Ok files) old new = PutsFront files old new
Leaves (Err e) old new = new ≡ old

-- what stands after a failed reading: some first part of the input files is put and no manifest,
-- and where the files are refused nothing is
abbrev pub LeavesInput : Outcome (List Held) → List Held → List Held → Type 0
LeavesInput (Ok files) old new = PutsInput files old new
LeavesInput (Err e) old new = new ≡ old

-- there is no refusal, and all the files are put
abbrev pub Publishes : Outcome (List Held) → List Held → List Held → Type 0
Publishes (Ok files) old new = PutsAll files old new
Publishes (Err e) old new = ⊥

-- a file that stands keeps its bytes, unless it has this name
abbrev pub KeepsStanding : List ℕ → List Held → List Held → Type 0
KeepsStanding but old new =
    (name : List ℕ) → IsSome (file_in name old) → name ≢ but → file_in name new ≡ file_in name old
