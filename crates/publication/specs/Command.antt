-- The words behind `publish` as a command line.
use Rattle.std.specs.Prelude.{◌≡◌, true, List, [], ◌∷◌, Some, codes}
use Rattle.clap.specs.Words.{App, Row, Rule, Text, found_of, matches_of, rows_of, new_app, new_rule, takes}
use Rattle.clap.specs.Simple.{on_top}
use Rattle.clap.specs.declared.parser.matches.ArgMatches.{ArgMatches}
use Rattle.clap.specs.Faults.{fault_of}
use Rattle.clap.specs.Kinds.{Kinds}
use Rattle.clap.specs.declared.builder.action.ArgAction.TheVariants.{Append, SetTrue}

-- `--NAME VALUE`
abbrev pub option_rule : Text → Rule
option_rule name = record (new_rule name) { long = Some name }

-- the same, which has to be there
abbrev pub required_rule : Text → Rule
required_rule name = record (option_rule name) { required = true }

-- `--check VALUE`, which is `none` where it is left out
abbrev pub check_rule : Rule
check_rule = record (option_rule (codes "check")) { defaults = codes "none" ∷ [] }

-- `--plain`
abbrev pub plain_rule : Rule
plain_rule = record (option_rule (codes "plain")) { action = Some SetTrue }

-- any number of words that belong to no option
abbrev pub marks_rule : Rule
marks_rule = record (new_rule (codes "marks")) { action = Some Append }

abbrev pub publish_rules : List Rule
publish_rules =
    required_rule (codes "name") ∷ required_rule (codes "release") ∷ required_rule (codes "entry")
    ∷ required_rule (codes "from") ∷ required_rule (codes "to") ∷ option_rule (codes "publisher")
    ∷ option_rule (codes "minimum") ∷ check_rule ∷ option_rule (codes "provider") ∷ plain_rule
    ∷ marks_rule ∷ []

-- the command, with no options but these
unfoldable pub publish_app : App
publish_app = on_top (λ shape. record shape {
  rules = publish_rules;
  no_binary_name = true;
  disable_help_flag = true;
}) (new_app (codes "publish"))

-- what matches have for each option, and for the marks
abbrev pub rows_in : ArgMatches → List Row
rows_in m = rows_of (found_of m)

-- what the words give for each of them
unfoldable pub matches_in : List Text → List Row
matches_in words = matches_of publish_app words

-- the command takes the words, so that they are refused for want of memory alone
unfoldable pub Takes : List Text → Type 0
Takes words = takes publish_app words ≡ true

-- the kinds of fault for which the command may refuse the words
unfoldable pub faults : List Text → Kinds
faults words = fault_of publish_app words
