-- What a line of a session answers: what lines of the machine do, or what lines of jobs alone do.
use Rattle.std.specs.Prelude.{◌≡◌, List, [], ◌∷◌}
use Rattle.machine.specs.declared.reply.Reply.{Reply}
use Rattle.machine.specs.Rows.{Refusal}
use Rattle.job_machine.specs.declared.reply.JobReply.{JobReply}

pub data SessionReply : Type 0 where
  OfMachine : Reply → SessionReply
  OfJob : JobReply → SessionReply

-- a refusal of the machine, as one of a line of jobs
abbrev pub as_answer : {S : Type 0} → Refusal Reply S → Refusal SessionReply S
as_answer refusal = record {
  gives = λ answer. (reply : Reply) × refusal.gives reply × (answer ≡ OfMachine reply);
  otherwise = refusal.otherwise;
  leaves = refusal.leaves;
}

abbrev pub as_answers : {S : Type 0} → List (Refusal Reply S) → List (Refusal SessionReply S)
as_answers [] = []
as_answers (refusal ∷ refusals) = as_answer refusal ∷ as_answers refusals
