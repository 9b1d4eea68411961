use Rattle.command_text.specs.Lines.{reply_text}
use Rattle.command_text.proofs.replies.print_line.Goals as goal

pub returns-in-TooMany : goal.returns-in-TooMany
unfolding reply_text
returns-in-TooMany g c = rw c.in-TooMany.is c.print_pieces.ensures

pub returns-in-TableFull : goal.returns-in-TableFull
unfolding reply_text
returns-in-TableFull g c = rw c.in-TableFull.is c.print_pieces-in-TableFull.ensures

pub returns-in-BadUrl : goal.returns-in-BadUrl
unfolding reply_text
returns-in-BadUrl g c = rw c.in-BadUrl.is c.print_bytes-in-BadUrl.ensures

pub returns-in-NotHttp : goal.returns-in-NotHttp
unfolding reply_text
returns-in-NotHttp g c = rw c.in-NotHttp.is c.print_bytes-in-NotHttp.ensures
