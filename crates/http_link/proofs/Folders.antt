-- From what a host of files answers to what a link over HTTP gives.
use Rattle.std.proofs.Common.{◌≡◌, ℕ, List, length, take, Some, Ok, IfOk, ap, subst, ◌∙◌}
use Rattle.std.specs.Prelude.{Result}
use Rattle.std.proofs.Math.Seq.{take-length}
use Rattle.small_types.specs.declared.target.Target.{Target}
use Rattle.connections.specs.Wire.{Made}
use Rattle.folders.specs.declared.folder.Held.{Held}
use Rattle.http_plain.specs.declared.fault.ExchangeFault.{ExchangeFault}
use Rattle.http_plain.specs.Exchange.{Gives}
use Rattle.http_plain.specs.Head.{behind_head}
use Rattle.http_plain.specs.HostsAreFolders.{Fetches, IsPlain, ReadsAs}
use Rattle.http_plain.specs.Served.{Serves}
use Rattle.http_plain.specs.Sites.{file_named}
use Rattle.http_plain.proofs.Determined.{one_outcome}
use Rattle.http_plain.proofs.Requested.{fetches}
use Rattle.links.specs.declared.link.LinkFault.{LinkFault}
use Rattle.http_link.specs.WireAsks.{IsHeard, heard}
use Rattle.http_link.specs.Laws.{GivesBytes, GivesFile}

-- what the answer gives is what the link answers
pub is_heard : (target : Target) (rest : List ℕ) (result : Result ℕ LinkFault) (made : Made)
    (outcome : Result ℕ ExchangeFault)
    → IsHeard target rest result made → Gives made.answer outcome → result ≡ heard outcome
is_heard target rest result made outcome is gives =
    is.told ∙ ap heard (one_outcome made.answer is.outcome outcome is.gives gives)

gives_bytes : (target : Target) (rest : List ℕ) (result : Result ℕ LinkFault) (made : Made)
    (bytes : List ℕ)
    → IsHeard target rest result made → ReadsAs made.answer bytes → GivesBytes rest result bytes
gives_bytes target rest result made bytes is read =
    let sized : result ≡ Ok (length bytes) =
    is_heard target rest result made (Ok (length bytes)) is read.gives in
    let body : rest ≡ take (length bytes) (behind_head made.answer) =
    subst (λ (r : Result ℕ LinkFault). IfOk r (λ n. rest ≡ take n (behind_head made.answer)))
    sized is.body in
    record { sized = sized; same = body ∙ ap (take (length bytes)) read.body ∙ take-length bytes }

pub gives_file : (files : List Held) (target : Target) (rest : List ℕ) (result : Result ℕ LinkFault)
    (made : Made) → IsPlain target → IsHeard target rest result made
    → Serves files made.sent (record { code = Some 200; bytes = made.answer })
    → GivesFile files target rest result
gives_file files target rest result made plain is serves =
    let f : Fetches files target made.answer =
    fetches files target made.answer plain
    (subst (λ (sent : List ℕ). Serves files sent (record { code = Some 200; bytes = made.answer }))
    is.asked.sent serves) in
    record {
      bytes = f.bytes;
      there = ap (file_named files) f.named ∙ f.held;
      gives = λ small. gives_bytes target rest result made f.bytes is (f.read small);
    }
