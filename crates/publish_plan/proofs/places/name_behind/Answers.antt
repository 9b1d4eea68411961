use Rattle.std.proofs.Common.{ℕ, List, length, sym, ap, subst, ◌∙◌}
use Rattle.small_types.specs.Name.{IsName}
use Rattle.publish_plan.specs.Places.{behind}
use Rattle.publish_plan.proofs.PathLemmas.{name_behind_front, to_end}
use Rattle.publish_plan.proofs.places.name_behind.Goals as goal

pub name_from-requires : goal.name_from-requires
name_from-requires c =
    let bytes = c.as_bytes-bytes.ensures in
    let name = name_behind_front c.args.front.now c.args.name.now c.requires.fits bytes.name c.requires.below in
    subst IsName (sym (to_end (length c.args.front.now) c.as_bytes-bytes.result.now ∙ ap (behind c.args.front.now) bytes.value)) name
