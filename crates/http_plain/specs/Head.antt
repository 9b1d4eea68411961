-- Where the head of a message ends.
use Rattle.std.specs.Prelude.{◌≡◌, ◌<◌, ◌≤◌, ◌+◌, ◌⊎◌, ℕ, IsSome, IfSome, List, [], ◌∷◌, length, take, drop, nat_eq, nat_lt, Option, Some, None, option_map, if◌then◌else◌}
use Rattle.std.specs.List.{starts_with}
use Rattle.http_plain.specs.declared.head.TheConstants.{HEAD_LIMIT}

-- CR LF CR LF
abbrev pub head_mark : List ℕ
head_mark = 13 ∷ 10 ∷ 13 ∷ 10 ∷ []

-- the place behind the first CR LF CR LF
unfoldable pub head_end : List ℕ → Option ℕ
head_end [] = None
head_end (b ∷ rest) =
    if starts_with nat_eq (b ∷ rest) head_mark then Some 4
    else option_map (λ n. n + 1) (head_end rest)

-- what the first bytes of a message say of its head: it is whole, up to and including its end;
-- there is no end within the limit; or the message is shorter than the limit and has none
pub data Front : Type 0 where
  Whole : List ℕ → Front
  TooLong Short : Front

abbrev pub front_at : List ℕ → Option ℕ → Front
front_at bytes None = if nat_lt (length bytes) HEAD_LIMIT then Short else TooLong
front_at bytes (Some end) = Whole (take end bytes)

unfoldable pub front_of : List ℕ → Front
front_of bytes = front_at bytes (head_end (take HEAD_LIMIT bytes))

-- the front bytes of a message and what is left of it: the message ends there, or they reach the
-- limit, or they hold the end of the head
abbrev pub IsEnough : List ℕ → List ℕ → Type 0
IsEnough front left =
    (left ≡ [])
    ⊎ ((length front ≡ HEAD_LIMIT) ⊎ ((length front ≤ HEAD_LIMIT) × IsSome (head_end front)))

-- where the front bytes hold the end of the head, fewer than so many stand behind it: no piece of
-- at most so many came once the end had come
abbrev pub IsNear : ℕ → List ℕ → Type 0
IsNear piece front = IfSome (head_end front) (λ end. length front < end + piece)

-- what stands behind the head
abbrev pub behind : List ℕ → Option ℕ → List ℕ
behind bytes None = []
behind bytes (Some end) = drop end bytes

unfoldable pub behind_head : List ℕ → List ℕ
behind_head bytes = behind bytes (head_end bytes)
