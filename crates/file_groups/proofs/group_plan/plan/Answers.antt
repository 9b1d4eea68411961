use Rattle.std.proofs.Common.{◌≡◌, ◌≢◌, ◌↔◌, Bool, true, false, IsTrue, List, [], ◌∷◌, refl}
use Rattle.manifests.specs.declared.facts.FileEntry.{FileEntry}
use Rattle.machine.specs.Groups.{group_files}
use Rattle.file_groups.proofs.group_plan.plan.Goals as goal

-- a list that is not found to have a file has none
none_listed : (files : List FileEntry) (listed : Bool) → IsTrue listed ↔ files ≢ []
    → listed ≡ false → files ≡ []
none_listed [] listed is none = refl
none_listed (file ∷ files) listed is none =
    let some : file ∷ files ≢ [] = λ e. cc in
    let found : listed ≡ true = is.1 some in
    cc

pub returns-then-not-lists_group-clause-refused : goal.returns-then-not-lists_group-clause-refused
returns-then-not-lists_group-clause-refused c =
    none_listed (group_files c.args.group.now c.args.view.now.application) c.lists_group.result
    c.lists_group.ensures c.if-not-lists_group.true
