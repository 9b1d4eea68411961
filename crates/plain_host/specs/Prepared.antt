-- An answer before it is sent.
use Rattle.std.specs.Prelude.{◌≡◌, ℕ, List, [], ◌++◌, codes, Some, None, if◌then◌else◌}
use Rattle.httparse.specs.Ascii.{crlf_bytes}
use Rattle.folders.specs.declared.folder.Held.{Held}
use Rattle.http_plain.specs.declared.demand.Demand.{Demand}
use Rattle.http_plain.specs.declared.status.TheConstants.{STATUS_OK}
use Rattle.http_plain.specs.Head.{IsEnough}
use Rattle.http_plain.specs.Served.{Answer, answer_of, AsksForFile, length_line, refusal_code, refused_answer, Serves}
use Rattle.plain_host.specs.declared.answer.Prepared.{Prepared}
use Rattle.plain_host.specs.declared.answer.Prepared.TheVariants.{Nothing, Refused, Found}
use Rattle.plain_host.specs.declared.fault.Served.{Served}
use Rattle.plain_host.specs.declared.fault.Served.TheVariants.{Answered, Silent}

-- a line with its end
abbrev pub ended : List ℕ → List ℕ
ended line = line ++ crlf_bytes

-- the last lines of a head, and its end
abbrev pub closing : ℕ → List ℕ
closing count = ended (length_line count) ++ ended (codes "Connection: close") ++ crlf_bytes

-- the answer that is prepared, with the file that was read
abbrev pub answer_in : Prepared → List ℕ → Answer
answer_in Nothing file = record { code = None; bytes = [] }
answer_in (Refused why) file = refused_answer why
answer_in (Found first follows) file =
    record { code = Some STATUS_OK; bytes = first ++ (if follows then file else []) }

-- how a connection is served by it
abbrev pub served_by : Prepared → Served
served_by Nothing = Silent
served_by (Refused why) = Answered (refusal_code why)
served_by (Found first follows) = Answered STATUS_OK

-- it is what a host of these files answers to what is asked
abbrev pub Answers : List Held → Demand → Prepared → List ℕ → Type 0
Answers files demand prepared file = answer_in prepared file ≡ answer_of files demand

-- it is the answer of a host of these files to each request that begins so
abbrev pub AnswersFront : List Held → List ℕ → Prepared → List ℕ → Type 0
AnswersFront files front prepared file =
    (left : List ℕ) → IsEnough front left → Serves files (front ++ left) (answer_in prepared file)

-- each request that begins so asks for a file
abbrev pub FrontAsksFile : List ℕ → Type 0
FrontAsksFile front = (left : List ℕ) → IsEnough front left → AsksForFile (front ++ left)
