use Rattle.std.proofs.Common.{◌≡◌, ℕ, List, Result, Ok, sym, ◌∙◌}
use Rattle.small_types.specs.declared.name.NameFault.{NameFault}
use Rattle.small_types.proofs.Spelled.{read_again}
use Rattle.publish_plan.proofs.PathLemmas.{never_bad}
use Rattle.publish_plan.proofs.places.name_from.Goals as goal

abbrev ok_at : List ℕ → Result (List ℕ) NameFault
ok_at name = Ok name

ok_same : (x y : List ℕ) → ok_at x ≡ ok_at y → x ≡ y
ok_same x y same = cc

pub returns-in-Ok-clause-made : goal.returns-in-Ok-clause-made
returns-in-Ok-clause-made c =
    ok_same c.in-Ok.name c.args.bytes.now (sym c.in-Ok.ensures.exact ∙ read_again c.args.bytes.now c.requires)

pub unreachable-requires : goal.unreachable-requires
unreachable-requires c = never_bad c.args.bytes.now c.in-Err-Bad.field-0 c.requires c.in-Err-Bad.ensures.exact c.in-Err-Bad.field-0-is
