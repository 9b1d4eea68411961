use Rattle.http_plain.proofs.Answered.{file_answer_gives}
use Rattle.http_plain.proofs.laws.files_are_read.Goals as goal

pub returns : goal.returns
returns c =
    λ name bytes small.
    let read = file_answer_gives name bytes small in
    record { gives = read.0; body = read.1 }
