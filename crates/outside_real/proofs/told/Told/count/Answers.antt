use Rattle.outside_real.proofs.DiskTells.{count_on, goes_on}
use Rattle.outside_real.proofs.told.Told.count.Goals as goal

pub invariant_of-self : goal.invariant_of-self
invariant_of-self c = record { numbered = count_on c.args.self.now.answers.noted c.args.self.now.calls c.count_call.new.calls (goes_on c.args.self.now.calls c.count_call.new.calls c.count_call.result (λ is. (c.count_call.ensures.counted is).0) (λ is. (c.count_call.ensures.full is).0)) c.args.self.now.numbered }
