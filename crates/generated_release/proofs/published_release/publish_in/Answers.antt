use Rattle.std.proofs.Common.{◌≡◌, ◌∙◌, Result, Ok, Err, sym, subst}
use Rattle.identity.specs.declared.key.Key.{Key}
use Rattle.publish_plan.specs.declared.options.Options.{Options}
use Rattle.publisher.specs.Published.{PublishesFiles}
use Rattle.publisher.specs.Publication.{publish_of}
use Rattle.generated_release.specs.declared.fault.GenerationFault.{GenerationFault}
use Rattle.generated_release.specs.declared.fault.GenerationFault.TheVariants.{Refused}
use Rattle.generated_release.specs.Faults.{fault_of}
use Rattle.generated_release.specs.SureFolder.{sure_held}
use Rattle.generated_release.proofs.Refusals.{is_sure}
use Rattle.generated_release.proofs.Written.{is_refused, written}
use Rattle.generated_release.proofs.published_release.publish_in.Goals as goal

the_fault : (e : GenerationFault) → ◌≡◌ {A = Result Key GenerationFault} (Err e) (Err Refused) → e ≡ Refused
the_fault e is = cc

pub returns-in-Ok-clause-files : goal.returns-in-Ok-clause-files
returns-in-Ok-clause-files c =
    let old = sure_held c.args.folder.now in
    let new = sure_held c.publish.new.folder in
    let one = c.in-Ok.ensures.listed tt in
    written c.args.release old new one.names one.are c.in-Ok.published
    (subst (λ (o : Options). PublishesFiles o one.names old new (Ok c.in-Ok.published)) c.in_ok-options.ensures.options
    (c.in-Ok.ensures.told tt one.names one.are))

pub fault_of-requires : goal.fault_of-requires
fault_of-requires c =
    let old = sure_held c.args.folder.now in
    let one = c.in-Err.ensures.listed tt in
    let published = c.in-Err.ensures.told tt one.names one.are in
    is_sure c.in-Err.fault (publish_of c.in_ok-options.options one.names old) c.in-Err.ensures.counted.read c.in-Err.ensures.counted.write published.refused

pub returns-clause-refused : goal.returns-clause-refused
returns-clause-refused c = λ is.
    let old = sure_held c.args.folder.now in
    let new = sure_held c.publish.new.folder in
    let one = c.in-Err.ensures.listed tt in
    let published = c.in-Err.ensures.told tt one.names one.are in
    let refused : fault_of c.in-Err.fault ≡ Refused = sym c.fault_of.ensures ∙ the_fault c.fault_of.result is in
    let sure = is_sure c.in-Err.fault (publish_of c.in_ok-options.options one.names old) c.in-Err.ensures.counted.read c.in-Err.ensures.counted.write published.refused in
    is_refused c.args.release c.in_ok-options.options one.names old new c.in-Err.fault c.in_ok-options.ensures.options one.are published sure refused
