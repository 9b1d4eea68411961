use Rattle.std.proofs.Common.{◌≡◌, ◌∙◌, true, ap}
use Rattle.std.proofs.lemmas.Result.{IfOk-weaker}
use Rattle.clap.specs.Words.{app_of}
use Rattle.clap.specs.Simple.{Shape, on_top}
use Rattle.publication.proofs.CommandFacts.{bare, helpless, is_whole, needed, then_rule, unnamed}
use Rattle.publication.proofs.command.publish_command.Goals as goal

pub returns : goal.returns
returns c =
    let start : app_of c.disable_help_flag-command.result ≡ bare =
    helpless c.no_binary_name.result c.disable_help_flag-command.result c.disable_help_flag-command.ensures
    ∙ ap (on_top (λ (s : Shape). record s { disable_help_flag = true }))
    (unnamed c.new.result c.no_binary_name.result c.no_binary_name.ensures ∙ ap (on_top (λ (s : Shape). record s { no_binary_name = true })) c.new.ensures.app) in
    let five : app_of c.in_ok-command-5.command ≡ needed =
    then_rule _ _ _ _ c.in_ok-command-5.ensures
    (then_rule _ _ _ _ c.in_ok-command-4.ensures
    (then_rule _ _ _ _ c.in_ok-command-3.ensures
    (then_rule _ _ _ _ c.in_ok-command-2.ensures
    (then_rule _ _ _ _ c.in_ok-command.ensures start)))) in
    IfOk-weaker c.with_marks.result _ _ (λ made is.
    then_rule _ _ _ _ is
    (then_rule _ _ _ _ c.in_ok-command-10.ensures
    (then_rule _ _ _ _ c.in_ok-command-9.ensures
    (then_rule _ _ _ _ c.in_ok-command-8.ensures
    (then_rule _ _ _ _ c.in_ok-command-7.ensures
    (then_rule _ _ _ _ c.in_ok-command-6.ensures five)))))
    ∙ is_whole) c.with_marks.ensures
