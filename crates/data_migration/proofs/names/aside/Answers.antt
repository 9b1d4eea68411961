use Rattle.std.proofs.Common.{◌∙◌, ap}
use Rattle.machine.specs.Migrated.{aside}
use Rattle.data_migration.proofs.AsideNames.{aside_is_read, read_aside}
use Rattle.data_migration.proofs.names.aside.Goals as goal

pub returns-in-Ok : goal.returns-in-Ok
returns-in-Ok c =
    read_aside c.args.name.now c.deref.result.now c.in-Ok.name c.as_bytes.ensures.name c.requires
    (c.deref.ensures.value ∙ c.in_ok-bytes.ensures ∙ ap aside c.as_bytes.ensures.value)
    c.in-Ok.ensures.exact

pub unreachable-requires : goal.unreachable-requires
unreachable-requires c =
    aside_is_read c.args.name.now c.deref.result.now c.in-Err-Bad.field-0 c.as_bytes.ensures.name c.requires
    (c.deref.ensures.value ∙ c.in_ok-bytes.ensures ∙ ap aside c.as_bytes.ensures.value)
    c.in-Err-Bad.ensures.exact c.in-Err-Bad.field-0-is
