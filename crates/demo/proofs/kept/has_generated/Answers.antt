use Rattle.std.proofs.Common.{◌≡◌, List, map, subst}
use Rattle.manifests.specs.declared.facts.FileEntry.{FileEntry}
use Rattle.updater.specs.Updater.{tables_of}
use Rattle.generated_release.specs.Files.{generated_files}
use Rattle.demo.specs.Kept.{held_in, standing_of}
use Rattle.demo.proofs.Looks.{looks_so}
use Rattle.demo.proofs.kept.has_generated.Goals as goal

pub returns : goal.returns
returns g c =
    looks_so g.D.Disk c.args.updater.now _ _ c.args.disk.now c.are_generated.new.disk c.are_generated.result
    (λ room image each. subst (λ (files : List FileEntry). map (held_in room image (tables_of c.args.updater.now).contents) (standing_of c.args.view.now.groups files)
    ≡ generated_files c.args.seed c.args.view.now.deployment.identity.version.a) c.as_slice-files.ensures (each c.args.view.now.groups))
    c.are_generated.ensures
