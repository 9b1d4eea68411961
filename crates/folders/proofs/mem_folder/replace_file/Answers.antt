use Rattle.std.proofs.Common.{◌≡◌, ◌∷◌, ◌++◌, [], List, not, subst, sym}
use Rattle.std.specs.Prelude.{filter, true}
use Rattle.folders.specs.declared.folder.Held.{Held}
use Rattle.folders.specs.Files.{is_named, distinct}
use Rattle.folders.proofs.PutFiles.{puts_new, distinct_new}
use Rattle.folders.proofs.mem_folder.replace_file.Goals as goal

pub returns-clause-put : goal.returns-clause-put
returns-clause-put c =
    let is : c.push_reserved.new.self.items ≡ filter (λ (f : Held). not (is_named c.args.file.name f)) c.args.files.now.items ++ c.args.file ∷ [] = cc in
    puts_new c.args.files.now.items c.push_reserved.new.self.items c.args.file is

pub returns-clause-differ : goal.returns-clause-differ
returns-clause-differ c = λ differ.
    let is : c.push_reserved.new.self.items ≡ filter (λ (f : Held). not (is_named c.args.file.name f)) c.args.files.now.items ++ c.args.file ∷ [] = cc in
    subst (λ (fs : List Held). distinct fs ≡ true) (sym is) (distinct_new c.args.files.now.items c.args.file differ)
