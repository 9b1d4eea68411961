use Rattle.std.proofs.Common.{[], ◌∷◌, true, refl}
use Rattle.plain_host.proofs.LastAnswer.{found_known, one_file}
use Rattle.plain_host.proofs.answer.prepare_file.Goals as goal

pub returns-in_ok-prepare_found-in-Ok-true-clause-told : goal.returns-in_ok-prepare_found-in-Ok-true-clause-told
returns-in_ok-prepare_found-in-Ok-true-clause-told g c = λ t.
    found_known (g.F.Folder.held c.args.folder.now) c.args.name.now c.get_into.new.into c.as_slice.result.now c.args.whole c.in-Ok-true.field-0 c.in_ok-prepare_found-in-Ok-true.field-0
    c.as_slice.ensures c.in-Ok-true.field-0-test (c.in-Ok-true.ensures.found t) c.in_ok-prepare_found-in-Ok-true.ensures

pub returns-in_ok-prepare_found-in-Ok-true-clause-some : goal.returns-in_ok-prepare_found-in-Ok-true-clause-some
returns-in_ok-prepare_found-in-Ok-true-clause-some g c = (
  (record { name = c.args.name.now; bytes = c.get_into.new.into } ∷ []),
  found_known (record { name = c.args.name.now; bytes = c.get_into.new.into } ∷ []) c.args.name.now c.get_into.new.into c.as_slice.result.now c.args.whole true
      c.in_ok-prepare_found-in-Ok-true.field-0 c.as_slice.ensures refl (one_file c.args.name.now c.get_into.new.into) c.in_ok-prepare_found-in-Ok-true.ensures,
)
