use Rattle.demo.proofs.lines.answer_once.Goals as goal

pub returns : goal.returns
returns g c = c.answer-said.ensures
