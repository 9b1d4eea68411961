-- File names: parts of UTF-8 text with slashes between them.
use Rattle.std.specs.Prelude.{ℕ, Bool, true, false, List, length, map, slice_get, Some, Result, Ok, Err, not, ◌≡◌, ◌==◌, ◌&&◌, nat_le, nat_lt, codes, if◌then◌else◌}
use Rattle.std.specs.Bool.{IsTrue}
use Rattle.std.specs.List.{list_all, slice_split}
use Rattle.std.specs.Str.{bytes_eq, is_utf8}
use Rattle.small_types.specs.Outcome.{GivesBut}
use Rattle.small_types.specs.declared.limits.TheConstants.{NAME_LIMIT}
use Rattle.small_types.specs.declared.name.NameFault.{NameFault}
use Rattle.small_types.specs.declared.name.NameFault.TheVariants.{Bad, Memory}

-- a backslash is read as a slash
abbrev pub name_text : List ℕ → List ℕ
name_text bytes = map (λ b. if b == 92 then 47 else b) bytes

-- the parts between the slashes
abbrev pub name_parts : List ℕ → List (List ℕ)
name_parts text = slice_split (λ b. b == 47) text

-- no control byte, no `:` and no backslash
abbrev pub is_name_byte : ℕ → Bool
is_name_byte b = nat_le 32 b && not (b == 127) && not (b == 58) && not (b == 92)

-- a part has a byte or more, and is neither `.` nor `..`
abbrev pub is_name_part : List ℕ → Bool
is_name_part part =
    not (length part == 0) && not (bytes_eq part (codes ".")) && not (bytes_eq part (codes ".."))

-- a name as it stands after reading
unfoldable pub is_name : List ℕ → Bool
is_name text =
    nat_lt 0 (length text) && nat_le (length text) NAME_LIMIT
    && list_all is_name_byte text && list_all is_name_part (name_parts text) && is_utf8 text

abbrev pub IsName : List ℕ → Type 0
IsName text = IsTrue (is_name text)

-- what reading the bytes gives
unfoldable pub name_of : List ℕ → Result (List ℕ) NameFault
name_of bytes = if is_name (name_text bytes) then Ok (name_text bytes) else Err Bad

-- the first part is `.pre`
abbrev pub IsBelowPre : List ℕ → Type 0
IsBelowPre text = slice_get (name_parts text) 0 ≡ Some (codes ".pre")

-- want of memory may come at any time
abbrev pub is_memory : NameFault → Bool
is_memory Memory = true
is_memory Bad = false

-- a call gives what the reading gives, unless memory ran out
abbrev pub Gives : Result (List ℕ) NameFault → Result (List ℕ) NameFault → Type 0
Gives result read = GivesBut is_memory (λ text. text) result read
