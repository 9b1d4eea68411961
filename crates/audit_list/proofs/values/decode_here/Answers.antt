use Rattle.std.proofs.Common.{length}
use Rattle.digest_list.specs.Algorithm.{size_of}
use Rattle.audit_list.proofs.ReadWords.{decoded}
use Rattle.audit_list.proofs.values.decode_here.Goals as goal

pub returns-clause-ok : goal.returns-clause-ok
returns-clause-ok c =
    (decoded c.args.word.now c.decode_to_slice.new.out (length c.args.out.now) (size_of c.args._algorithm) c.decode_to_slice.result c.is_ok.result
    c.requires c.decode_to_slice.ensures.value c.is_ok.ensures.value).0

pub returns-clause-err : goal.returns-clause-err
returns-clause-err c =
    (decoded c.args.word.now c.decode_to_slice.new.out (length c.args.out.now) (size_of c.args._algorithm) c.decode_to_slice.result c.is_ok.result
    c.requires c.decode_to_slice.ensures.value c.is_ok.ensures.value).1
