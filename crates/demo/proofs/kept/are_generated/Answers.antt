use Rattle.std.proofs.Common.{rules, arith, ◌≡◌, ◌∙◌, ℕ, List, [], map, take, IsTrue, sym, ap}
use Rattle.std.proofs.lemmas.List.{take_all}
use Rattle.manifests.specs.declared.facts.FileEntry.{FileEntry}
use Rattle.updater.specs.Updater.{tables_of}
use Rattle.generated_release.specs.Files.{files_to}
use Rattle.generated_release.proofs.Repeats.{files_none}
use Rattle.demo.specs.Kept.{held_in, standing_of}
use Rattle.demo.proofs.Looks.{looks_fault, looks_no, looks_none, looks_nowhere, looks_so, looks_then}
use Rattle.demo.proofs.ShownViews.{one_more}
use Rattle.demo.proofs.kept.are_generated.Goals as goal

pub returns-then-files : goal.returns-then-files
returns-then-files g c = looks_nowhere g.D.Disk c.args.updater.now _ c.args.disk.now

pub loop-file-init : goal.loop-file-init
loop-file-init g c =
    looks_none g.D.Disk c.args.updater.now _ c.args.disk.now
    (λ room image groups. sym (files_none [] c.args.seed c.args.version))

pub loop-file-preserved : goal.loop-file-preserved
loop-file-preserved g c =
    let yes : IsTrue c.in-Ok-true.field-0 = search rules in
    looks_then g.D.Disk c.args.updater.now _ _ _ c.args.disk.now c.loop-file.disk c.is_generated.new.disk
    c.in-Ok-true.field-0 yes
    (λ room image before one.
    one_more room image (tables_of c.args.updater.now).contents c.args.seed c.args.version c.loop-file.file
    c.args.files.now c.index-files-file.result (omega arith) c.index-files-file.is one before)
    c.loop-file.invariant c.in-Ok-true.ensures

pub returns-in-Ok-false : goal.returns-in-Ok-false
returns-in-Ok-false g c =
    looks_no g.D.Disk c.args.updater.now _ _ _ c.args.disk.now c.loop-file.disk c.is_generated.new.disk _
    c.loop-file.invariant c.in-Ok-false.ensures

pub returns-in-Err : goal.returns-in-Err
returns-in-Err g c =
    looks_fault g.D.Disk c.args.updater.now _ _ _ c.args.disk.now c.loop-file.disk c.is_generated.new.disk c.in-Err.fault
    c.loop-file.invariant c.in-Err.ensures

pub returns : goal.returns
returns g c =
    looks_so g.D.Disk c.args.updater.now _ _ c.args.disk.now c.loop-file.disk _
    (λ room image looked groups.
    let all : take c.loop-file.file c.args.files.now ≡ c.args.files.now =
    take_all c.loop-file.file c.args.files.now (omega arith) in
    let end : c.loop-file.file ≡ 200 = omega arith in
    ap (λ (files : List FileEntry). map (held_in room image (tables_of c.args.updater.now).contents)
    (standing_of groups files))
    (sym all)
    ∙ looked groups
    ∙ ap (λ (n : ℕ). files_to [] c.args.seed c.args.version n) end)
    c.loop-file.invariant
