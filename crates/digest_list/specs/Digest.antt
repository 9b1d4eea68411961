-- A digest and its text, which is base64 (RFC 4648, section 4) with white space anywhere.
use Rattle.std.specs.Prelude.{◌≡◌, ℕ, Bool, true, false, List, length, filter, not, ◌==◌, ◌||◌, if◌then◌else◌, Result, Ok, Err}
use Rattle.base64.specs.declared.decode.DecodeError.{DecodeError}
use Rattle.base64.specs.Engines.{standard}
use Rattle.base64.specs.GeneralPurpose.{decode_of}
use Rattle.small_types.specs.Outcome.{GivesBut}
use Rattle.digest_list.specs.declared.algorithm.Algorithm.{Algorithm}
use Rattle.digest_list.specs.declared.digest.Digest.{Digest}
use Rattle.digest_list.specs.declared.digest.DigestFault.{DigestFault}
use Rattle.digest_list.specs.declared.digest.DigestFault.TheVariants.{Bad, Memory}
use Rattle.digest_list.specs.Algorithm.{size_of}

-- a space, a tab, a line feed or a carriage return
abbrev pub is_space : ℕ → Bool
is_space b = b == 32 || b == 9 || b == 10 || b == 13

abbrev pub without_space : List ℕ → List ℕ
without_space text = filter (λ b. not (is_space b)) text

-- its value has the algorithm's length
abbrev pub IsSized : Digest → Type 0
IsSized digest = length digest.value ≡ size_of digest.algorithm

-- the digest of that value, where its length is right
abbrev pub digest_of_value : Algorithm → Result (List ℕ) DecodeError → Result Digest DigestFault
digest_of_value algorithm (Ok value) =
    if length value == size_of algorithm then Ok (record { algorithm = algorithm; value = value })
    else Err Bad
digest_of_value algorithm (Err _) = Err Bad

-- what reading the text gives
unfoldable pub digest_of : Algorithm → List ℕ → Result Digest DigestFault
digest_of algorithm text = digest_of_value algorithm (decode_of standard (without_space text))

-- want of memory is no fault of the text
abbrev pub is_memory : DigestFault → Bool
is_memory Memory = true
is_memory Bad = false

-- a call gives what the reading gives, unless memory ran out
abbrev pub Gives : Result Digest DigestFault → Result Digest DigestFault → Type 0
Gives result read = GivesBut is_memory (λ (digest : Digest). digest) result read
