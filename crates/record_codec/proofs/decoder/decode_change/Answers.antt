use Rattle.std.proofs.Common.{Result, ap, subst, ◌∙◌, arith}
use Rattle.store_state.specs.declared.change.Change.{Change}
use Rattle.record_fields.specs.declared.fault.CodecFault.{CodecFault}
use Rattle.record_fields.specs.Readers.{Gives}
use Rattle.record_codec.specs.Changes.{change_of}
use Rattle.record_codec.proofs.Changes.{found, all_again}
use Rattle.record_codec.proofs.decoder.decode_change.Goals as goal

pub returns-clause-found : goal.returns-clause-found
returns-clause-found c = found c.args.bytes.now c.read_all.result (λ i. omega (arith, c.type_inv.bytes i)) c.read_all.ensures.exact

pub returns-clause-only : goal.returns-clause-only
returns-clause-only c = λ change fits is. subst (λ (r : Result Change CodecFault). Gives c.read_all.result r) (ap change_of is ∙ all_again change fits) c.read_all.ensures.exact
