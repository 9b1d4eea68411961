-- The file that a target names.
use Rattle.std.specs.Prelude.{ℕ, ◌==◌, List, [], ◌∷◌, Option, Some, None, if◌then◌else◌}
use Rattle.std.specs.List.{before_first}
use Rattle.std.specs.Result.{result_ok}
use Rattle.percent_encoding.specs.Percent.{percent_decode}
use Rattle.small_types.specs.Name.{name_of}

-- the bytes up to the first `?`
abbrev pub without_query : List ℕ → List ℕ
without_query target = before_first (λ b. b == 63) target

-- the target begins with `/`; what follows it, up to a `?`, percent-decoded, is a file name
unfoldable pub name_in_path : List ℕ → Option (List ℕ)
name_in_path [] = None
name_in_path (b ∷ rest) =
    if b == 47 then result_ok (name_of (percent_decode (without_query rest))) else None
