-- The text of each refusal.
use Rattle.std.proofs.Common.{◌≡◌, ℕ, List, [], ◌∷◌, ◌++◌, codes, refl, ap, ◌∙◌, sym, arith}
use Rattle.std.specs.Fmt.{decimal}
use Rattle.std.proofs.lemmas.Fmt.{decimal-digits_value}
use Rattle.small_types.proofs.DecimalLemmas.{own}
use Rattle.http_plain.specs.declared.refusals.Refusal.TheVariants.{BadRequest, NotFound, MethodNotAllowed, FieldsTooLarge}
use Rattle.http_plain.specs.Served.{answer_head, head_text, refusal}

decimal_0 : decimal 0 ≡ codes "0"
decimal_0 = decimal-digits_value own (codes "0") refl (omega arith) (λ e. cc) (omega arith)

decimal_400 : decimal 400 ≡ codes "400"
decimal_400 = decimal-digits_value own (codes "400") refl (omega arith) (λ e. cc) (omega arith)

decimal_404 : decimal 404 ≡ codes "404"
decimal_404 = decimal-digits_value own (codes "404") refl (omega arith) (λ e. cc) (omega arith)

decimal_405 : decimal 405 ≡ codes "405"
decimal_405 = decimal-digits_value own (codes "405") refl (omega arith) (λ e. cc) (omega arith)

decimal_431 : decimal 431 ≡ codes "431"
decimal_431 = decimal-digits_value own (codes "431") refl (omega arith) (λ e. cc) (omega arith)

-- a head by its digits
abbrev written : List ℕ → List ℕ → List (List ℕ) → List ℕ → List ℕ
written digits reason own count =
    head_text (((codes "HTTP/1.1 " ++ digits ++ codes " " ++ reason) ∷ []) ++ own ++ (codes "Content-Length: " ++ count) ∷ codes "Connection: close" ∷ [])

head_is : (code : ℕ) (digits reason : List ℕ) (own : List (List ℕ)) → decimal code ≡ digits → written digits reason own (codes "0") ≡ answer_head code reason own 0
unfolding answer_head
head_is code digits reason own is =
    sym (ap (λ d. written d reason own (decimal 0)) is ∙ ap (λ n. written digits reason own n) decimal_0)

pub text_400 : codes "HTTP/1.1 400 Bad Request\r\nContent-Length: 0\r\nConnection: close\r\n\r\n" ≡ refusal BadRequest
text_400 = head_is 400 (codes "400") (codes "Bad Request") [] decimal_400

pub text_404 : codes "HTTP/1.1 404 Not Found\r\nContent-Length: 0\r\nConnection: close\r\n\r\n" ≡ refusal NotFound
text_404 = head_is 404 (codes "404") (codes "Not Found") [] decimal_404

pub text_405 : codes "HTTP/1.1 405 Method Not Allowed\r\nAllow: GET, HEAD\r\nContent-Length: 0\r\nConnection: close\r\n\r\n" ≡ refusal MethodNotAllowed
text_405 = head_is 405 (codes "405") (codes "Method Not Allowed") (codes "Allow: GET, HEAD" ∷ []) decimal_405

pub text_431 : codes "HTTP/1.1 431 Request Header Fields Too Large\r\nContent-Length: 0\r\nConnection: close\r\n\r\n" ≡ refusal FieldsTooLarge
text_431 = head_is 431 (codes "431") (codes "Request Header Fields Too Large") [] decimal_431
