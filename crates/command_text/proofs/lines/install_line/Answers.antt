use Rattle.std.proofs.Common.{sym, subst}
use Rattle.machine.specs.Words.{IsUrl}
use Rattle.command_text.proofs.UrlWords.{url_form}
use Rattle.command_text.proofs.lines.install_line.Goals as goal

pub returns-in-Ok-clause-fits : goal.returns-in-Ok-clause-fits
returns-in-Ok-clause-fits c = subst IsUrl (sym c.in-Ok.ensures) (url_form c.in-Some-one_word.word.now (sym c.if-not-is_url.ensures))
