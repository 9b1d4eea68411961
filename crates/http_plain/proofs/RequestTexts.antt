-- What the parts of a request head are.
use Rattle.std.proofs.Common.{◌≡◌, ◌<◌, ℕ, List, true, Some, Result, Err, IsUtf8, sym, ap, subst, arith}
use Rattle.std.specs.Prelude.{◌↔◌}
use Rattle.std.proofs.lemmas.Bool.Decides.{nat_tests}
use Rattle.std.proofs.lemmas.List.Elements.{All-weaker}
use Rattle.std.proofs.lemmas.Str.{IsUtf8-from_ascii}
use Rattle.std.proofs.lemmas.Str.Ascii.{IsAscii-from_all}
use Rattle.httparse.specs.Grammar.{is_token_byte, RequestHead}
use Rattle.http_plain.specs.declared.request.Asked.{Asked}
use Rattle.http_plain.specs.declared.request.RequestFault.{RequestFault}
use Rattle.http_plain.specs.declared.request.RequestFault.TheVariants.{Malformed}
use Rattle.http_plain.specs.Asked.{AsksBy, IsNoRequest}

token_is_ascii : (b : ℕ) → is_token_byte b ≡ true → b < 128
unfolding is_token_byte
token_is_ascii b token = grind (arith, nat_tests)

pub method_is_text : (bytes : List ℕ) (asked : Asked) → AsksBy bytes (Some asked) → IsUtf8 asked.method
method_is_text bytes asked asks =
    let h : RequestHead = asks.0 in
    let tokens = asks.1.reads.0.method.1 in
    let text : IsUtf8 h.method =
    IsUtf8-from_ascii h.method (IsAscii-from_all h.method (All-weaker (λ b. is_token_byte b ≡ true) (λ b. b < 128) token_is_ascii h.method tokens)) in
    subst IsUtf8 (sym (ap (λ (a : Asked). a.method) asks.2)) text

pub target_is_text : (bytes : List ℕ) (asked : Asked) → AsksBy bytes (Some asked) → IsUtf8 asked.target
target_is_text bytes asked asks = subst IsUtf8 (sym (ap (λ (a : Asked). a.target) asks.2)) asks.1.reads.0.target_text

-- a request is not malformed
pub is_well_formed : {T : Type 0} (bytes : List ℕ) (asked : Asked) → AsksBy bytes (Some asked) → (r : Result T RequestFault) → (r ≡ Err Malformed → ⊥)
    → (r ≡ Err Malformed) ↔ IsNoRequest bytes
is_well_formed bytes asked asks r other = (λ is. absurd (other is), λ none. absurd (none asks.0 asks.1))
