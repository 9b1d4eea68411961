use Rattle.std.proofs.Common.{◌∙◌, map, ap, sym}
use Rattle.clap.specs.Words.{App, is_simple, is_simple_and_free, matches_of, takes}
use Rattle.clap.specs.Faults.{fault_of}
use Rattle.publication.specs.Command.{Takes, faults, matches_in}
use Rattle.publication.proofs.CommandFacts.{publish_free, publish_simple}
use Rattle.publication.proofs.command.match_words.Goals as goal

pub returns-in-Ok-clause-value : goal.returns-in-Ok-clause-value
unfolding matches_in
returns-in-Ok-clause-value c =
    (c.in-Ok.ensures.matches (ap is_simple c.in_ok-command.ensures ∙ publish_simple)).0
    ∙ ap (λ (a : App). matches_of a (map (λ s. s.now) c.args.words.now)) c.in_ok-command.ensures

pub returns-in-Ok-clause-faultless : goal.returns-in-Ok-clause-faultless
unfolding faults
returns-in-Ok-clause-faultless c =
    sym (ap (λ (a : App). fault_of a (map (λ s. s.now) c.args.words.now)) c.in_ok-command.ensures)
    ∙ c.in-Ok.ensures.kinds (ap is_simple_and_free c.in_ok-command.ensures ∙ publish_free)

pub returns-in-Err-clause-none : goal.returns-in-Err-clause-none
unfolding Takes
returns-in-Err-clause-none c = λ same taken.
    c.fault_of.ensures.refused same (c.kind.ensures ∙ c.in-Err.ensures.passes (ap (λ (a : App). takes a (map (λ s. s.now) c.args.words.now)) c.in_ok-command.ensures ∙ taken))
