use Rattle.std.proofs.Common.{◌≡◌, take}
use Rattle.folders.specs.Files.{names_of}
use Rattle.folders.proofs.mem_folder.copied_names.Given as goal

abbrev pub invariant-loop-file : goal.invariant-loop-file
invariant-loop-file l = l.made.items ≡ names_of (take l.file-index l.files)
