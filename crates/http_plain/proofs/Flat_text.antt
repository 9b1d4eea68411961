-- The lines of a request, in one piece.
use Rattle.std.proofs.Common.{◌≡◌, ℕ, List, [], ◌∷◌, ◌++◌, append_assoc, codes}
use Rattle.std.proofs.lemmas.List.{append-nil}
use Rattle.httparse.specs.Ascii.{crlf_bytes}
use Rattle.small_types.specs.declared.target.Target.{Target}
use Rattle.http_plain.specs.Exchange.{host_value, request_text}
use Rattle.http_plain.specs.Served.{head_text}
use Rattle.http_plain.specs.Flat.{flat_request}

joined_lines : (get path version name host end third fourth : List ℕ)
    → get ++ path ++ (version ++ (end ++ name)) ++ host ++ (end ++ (third ++ (end ++ (fourth ++ (end ++ end)))))
    ≡ ((get ++ path ++ version) ++ end ++ ((name ++ host) ++ end ++ ((third ++ end) ++ ((fourth ++ end) ++ [])))) ++ end
joined_lines get path version name host end third fourth = simp (append_assoc, append-nil)

flat_lines : (path host : List ℕ) → flat_request path host
    ≡ head_text (
    (codes "GET " ++ path ++ codes " HTTP/1.1")
    ∷ (codes "Host: " ++ host)
    ∷ codes "Accept-Encoding: identity"
    ∷ codes "Connection: close"
    ∷ [])
flat_lines path host =
    joined_lines (codes "GET ") path (codes " HTTP/1.1") (codes "Host: ") host crlf_bytes (codes "Accept-Encoding: identity") (codes "Connection: close")

pub flat_is : (target : Target) → flat_request target.path (host_value target) ≡ request_text target
unfolding request_text
flat_is target = flat_lines target.path (host_value target)
