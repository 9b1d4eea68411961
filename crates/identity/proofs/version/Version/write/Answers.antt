use Rattle.std.proofs.Common.{arith}
use Rattle.identity.proofs.VersionLemmas.{Written, written_text, written_length}
use Rattle.identity.proofs.version.Version.write.Goals as goal

abbrev written : (c : goal.After-slice_known-5-1) → Written c.args.self.now c.args.out.now c.write_number-end.new.out c.write_dotted-end.new.out c.write_dotted-end-2.new.out c.write_dotted.new.out c.write_number-end.result c.write_dotted-end.result c.write_dotted-end-2.result c.write_dotted.result
written c = record {
  first = c.write_number-end.ensures.text;
  second = c.write_dotted-end.ensures.text;
  third = c.write_dotted-end-2.ensures.text;
  fourth = c.write_dotted.ensures.text;
  rest₁ = c.write_number-end.ensures.rest;
  rest₂ = c.write_dotted-end.ensures.rest;
  rest₃ = c.write_dotted-end-2.ensures.rest;
  rest = c.write_dotted.ensures.rest;
  end₁_is = omega (arith, c.write_number-end.ensures.end);
  end₂_is = c.write_dotted-end.ensures.end;
  end₃_is = c.write_dotted-end-2.ensures.end;
  end_is = c.write_dotted.ensures.end;
}

pub returns-clause-length : goal.returns-clause-length
returns-clause-length c = written_length _ _ _ _ _ _ _ _ _ _ (written c)

pub returns-clause-text : goal.returns-clause-text
returns-clause-text c = written_text _ _ _ _ _ _ _ _ _ _ (written c)
