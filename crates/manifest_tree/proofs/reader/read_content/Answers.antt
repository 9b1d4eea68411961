use Rattle.std.proofs.Common.{◌∙◌, ap, sym, Err, arith}
use Rattle.std.proofs.lemmas.Result.{err_from_is_err_and}
use Rattle.manifest_tree.specs.Spots.{here}
use Rattle.manifest_tree.specs.Pieces.{spot_of}
use Rattle.manifest_tree.proofs.Steps.{leads_err, reads_join, stops_by_after, to_spot}
use Rattle.manifest_tree.proofs.reader.read_content.Goals as goal

pub turns-init : goal.turns-init
turns-init c = record { reads = here; shorter = omega arith }

pub returns-in_err-next-in-Inside : goal.returns-in_err-next-in-Inside
returns-in_err-next-in-Inside c =
    let p = err_from_is_err_and c.from_residual.result c.from_residual.ensures.1 in
    leads_err _ _ _ _ c.in_err-next-in-Inside.field-0.0 (p.1 ∙ ap Err p.2) (stops_by_after c.in_err-next-in-Inside.field-0.0 (to_spot c.turns.invariant.reads (sym (ap spot_of c.in-Inside.is))) c.in_err-next-in-Inside.ensures.leads)

pub turns-preserved : goal.turns-preserved
turns-preserved c = record {
  reads = reads_join (to_spot c.turns.invariant.reads (sym (ap spot_of c.in-Inside.is))) c.in_ok-next-in-Inside.ensures.leads;
  shorter = omega (arith, c.turns.invariant.shorter, c.in_ok-next-in-Inside.ensures.shorter);
}
