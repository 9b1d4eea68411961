use Rattle.std.proofs.Common.{◌∙◌, sym}
use Rattle.digest_list.specs.Algorithm.{size_of}
use Rattle.audit_list.proofs.ReadWords.{none_decoded, one_decoded, other_decoded}
use Rattle.audit_list.proofs.values.read_value.Goals as goal

pub returns-then-not-decode_here : goal.returns-then-not-decode_here
returns-then-not-decode_here c =
    sym (none_decoded (size_of c.args.algorithm) c.args.word.now (c.decode_here.ensures.err c.if-not-decode_here.true))

pub returns-then-not-is_written : goal.returns-then-not-is_written
returns-then-not-is_written c =
    sym (other_decoded (size_of c.args.algorithm) c.args.word.now c.decode_here.new.out (c.decode_here.ensures.ok c.if-not-decode_here.false) (sym c.is_written.ensures ∙ c.if-not-is_written.true))

pub returns : goal.returns
returns c =
    one_decoded (size_of c.args.algorithm) c.args.word.now c.decode_here.new.out c.in_ok-from_slice.field-0 (c.decode_here.ensures.ok c.if-not-decode_here.false)
    (sym c.is_written.ensures ∙ c.if-not-is_written.false) c.in_ok-from_slice.ensures
