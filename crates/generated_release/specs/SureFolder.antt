-- What stands in a folder that never fails.
use Rattle.std.specs.Prelude.{List}
use Rattle.folders.specs.declared.folder.Held.{Held}
use Rattle.folders.specs.MemFolder.{folder_held}
use Rattle.generated_release.specs.declared.sure_folder.SureFolder.{SureFolder}

abbrev pub sure_held : SureFolder → List Held
sure_held f = folder_held f.folder
