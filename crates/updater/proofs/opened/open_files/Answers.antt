use Rattle.std.proofs.Common.{◌∙◌, Err, ap, refl, subst, sym}
use Rattle.std.specs.Prelude.{IsErr}
use Rattle.std.proofs.lemmas.Bool.{both_ways, false≢true}
use Rattle.disks.proofs.Books.{spends_as}
use Rattle.updater.specs.declared.fault.RecoverFault.TheVariants.{DiskFault, Memory, NotAStore}
use Rattle.updater.specs.StandsFor.{ArePlaced}
use Rattle.install_plan.specs.Blocks.{UsesBlocks}
use Rattle.updater.proofs.FilesOpened.{refused, refused_before}
use Rattle.updater.proofs.opened.open_files.Goals as goal

pub returns-then-not-are_of_store : goal.returns-then-not-are_of_store
returns-then-not-are_of_store g c =
    refused_before g.D.Disk c.args.room c.args.state.now c.args.disk.now NotAStore (λ e. absurd (cc))
    (λ e is. both_ways c.are_of_store.result c.if-not-are_of_store.true (c.are_of_store.ensures.1 is.of_store))

pub returns-in-Err : goal.returns-in-Err
returns-in-Err g c =
    refused_before g.D.Disk c.args.room c.args.state.now c.args.disk.now c.in-Err.fault
    (λ e. c.held_apart.ensures.no_disk (c.in-Err.is ∙ ap Err e))
    (λ e is. c.held_apart.ensures.not_a_store (c.in-Err.is ∙ ap Err e) is.placed)

pub has_all-requires-clause-limits : goal.has_all-requires-clause-limits
has_all-requires-clause-limits g c = c.requires

pub has_all-requires-clause-store : goal.has_all-requires-clause-store
has_all-requires-clause-store g c = c.are_of_store.ensures.0 c.if-not-are_of_store.false

pub has_all-requires-clause-placed : goal.has_all-requires-clause-placed
has_all-requires-clause-placed g c = c.in-Ok.ensures.placed

pub returns-in-Ok-false : goal.returns-in-Ok-false
returns-in-Ok-false g c =
    refused g.D.Disk c.args.room c.args.state.now c.args.disk.now c.has_all.new.disk NotAStore _ c.has_all.ensures.still c.has_all.ensures.spends
    (λ failed. absurd (false≢true (subst IsErr c.in-Ok-false.is failed))) (λ e. absurd (cc))
    (λ told e whole. false≢true (sym c.in-Ok-false.field-0-test ∙ (c.in-Ok-false.ensures.has told).1 whole.files))

pub returns-in-Err-has_all : goal.returns-in-Err-has_all
returns-in-Err-has_all g c =
    refused g.D.Disk c.args.room c.args.state.now c.args.disk.now c.has_all.new.disk DiskFault _ c.has_all.ensures.still c.has_all.ensures.spends
    (λ failed. refl) (λ e. subst IsErr (sym c.in-Err-has_all.is) refl) (λ told e. absurd (cc))

pub free_blocks-requires-clause-limits : goal.free_blocks-requires-clause-limits
free_blocks-requires-clause-limits g c = c.requires

pub free_blocks-requires-clause-placed : goal.free_blocks-requires-clause-placed
free_blocks-requires-clause-placed g c = subst (ArePlaced c.args.room) (sym c.in-Ok.ensures.held) c.in-Ok.ensures.placed

pub returns-in-Err-free_blocks : goal.returns-in-Err-free_blocks
returns-in-Err-free_blocks g c =
    refused g.D.Disk c.args.room c.args.state.now c.args.disk.now c.has_all.new.disk c.in-Err-free_blocks.fault _ c.has_all.ensures.still c.has_all.ensures.spends
    (λ failed. absurd (false≢true (subst IsErr c.in-Ok-true.is failed))) (λ e. absurd (let m = c.in-Err-free_blocks.ensures.memory in cc))
    (λ told e. absurd (let m = c.in-Err-free_blocks.ensures.memory in cc))

pub returns-in-Ok-new : goal.returns-in-Ok-new
returns-in-Ok-new g c = record {
  of_store = c.are_of_store.ensures.0 c.if-not-are_of_store.false;
  whole = λ told. record {
    of_store = c.are_of_store.ensures.0 c.if-not-are_of_store.false;
    placed = c.in-Ok.ensures.placed;
    files = (c.in-Ok-true.ensures.has told).0 c.in-Ok-true.field-0-test;
  };
  files = subst (UsesBlocks c.in-Ok-free_blocks.files c.args.room) c.in-Ok.ensures.held c.in-Ok-free_blocks.ensures.uses;
  rooms = c.in-Ok-new.ensures;
  not_a_store = λ told e. absurd (cc);
  still = c.has_all.ensures.still;
  spends = spends_as g.D.Disk 0 0 c.args.disk.now c.has_all.new.disk _ _ (λ failed. absurd (false≢true (subst IsErr c.in-Ok-true.is failed)))
      (λ e. absurd (cc)) c.has_all.ensures.spends;
}

pub returns : goal.returns
returns g c =
    refused g.D.Disk c.args.room c.args.state.now c.args.disk.now c.has_all.new.disk Memory _ c.has_all.ensures.still c.has_all.ensures.spends
    (λ failed. absurd (false≢true (subst IsErr c.in-Ok-true.is failed))) (λ e. absurd (cc))
    (λ told e. absurd (cc))
