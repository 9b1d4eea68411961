-- The command, as it is built, and that its words alone give its matches.
use Rattle.std.proofs.Common.{◌≡◌, ◌∙◌, true, refl, ap, codes}
use Rattle.clap.specs.Words.{App, Rule, app_of, is_simple, is_simple_and_free, new_app, with_rule}
use Rattle.clap.specs.Simple.{Shape, app_of_fields, on_top}
use Rattle.clap.specs.declared.builder.command.Command.{Command}
use Rattle.clap.specs.declared.builder.command.Command.TheViews.{out-Command}
use Rattle.publication.specs.Command.{check_rule, marks_rule, option_rule, plain_rule, publish_app, required_rule}

pub publish_simple : is_simple publish_app ≡ true
unfolding publish_app
publish_simple = refl

pub publish_free : is_simple_and_free publish_app ≡ true
unfolding publish_app
publish_free = refl

-- ---- how it is built

pub unnamed : (old new : Command) → out-Command new ≡ record (out-Command old) { no_binary_name = true }
    → app_of new ≡ on_top (λ (s : Shape). record s { no_binary_name = true }) (app_of old)
unnamed old new is = ap app_of_fields is

pub helpless : (old new : Command) → out-Command new ≡ record (out-Command old) { disable_help_flag = true }
    → app_of new ≡ on_top (λ (s : Shape). record s { disable_help_flag = true }) (app_of old)
helpless old new is = ap app_of_fields is

-- one rule after another
pub then_rule : (old new : App) (rule : Rule) (before : App) → new ≡ with_rule old rule → old ≡ before → new ≡ with_rule before rule
then_rule old new rule before is was = is ∙ ap (λ (a : App). with_rule a rule) was

-- the command before its rules
abbrev pub bare : App
bare = on_top (λ (s : Shape). record s { disable_help_flag = true }) (on_top (λ (s : Shape). record s { no_binary_name = true }) (new_app (codes "publish")))

abbrev pub needed : App
needed =
    with_rule (with_rule (with_rule (with_rule (with_rule bare (required_rule (codes "name"))) (required_rule (codes "release"))) (required_rule (codes "entry"))) (required_rule (codes "from")))
    (required_rule (codes "to"))

abbrev pub whole : App
whole =
    with_rule (with_rule (with_rule (with_rule (with_rule (with_rule needed (option_rule (codes "publisher"))) (option_rule (codes "minimum"))) check_rule) (option_rule (codes "provider"))) plain_rule)
    marks_rule

pub is_whole : whole ≡ publish_app
unfolding publish_app
is_whole = refl
