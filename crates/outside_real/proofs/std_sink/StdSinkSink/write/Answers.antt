use Rattle.outside_real.proofs.DiskTells.{sink_takes, sink_keeps}
use Rattle.outside_real.proofs.std_sink.StdSinkSink.write.Goals as goal

pub returns-clause-bytes : goal.returns-clause-bytes
returns-clause-bytes g c = λ told. sink_takes c.args.self.now.taken.noted c.note.new.self.noted c.args.bytes.now c.write_some-answer.result c.counted.result c.counted.ensures.result c.note.ensures

pub returns-clause-kept : goal.returns-clause-kept
returns-clause-kept g c = λ told. sink_keeps c.args.self.now.taken.noted c.note.new.self.noted c.args.bytes.now c.write_some-answer.result c.counted.result c.counted.ensures.result c.note.ensures
