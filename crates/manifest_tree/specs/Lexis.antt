-- The small parts of a text. Each takes the bytes from a place on and gives what stands behind the
-- part, or the part's fault: its kind, and how many bytes stand from its place on.
use Rattle.std.specs.Prelude.{ℕ, zero, suc, ◌+◌, ◌-◌, ◌*◌, Bool, true, false, ◌&&◌, ◌||◌, not, ◌==◌, nat_eq, nat_le, List, [], ◌∷◌, length, drop, Option, Some, None, Result, Ok, Err, if◌then◌else◌, option_and_then, encode_utf8}
use lib.Utf8.{scalar}
use Rattle.std.specs.List.{list_any, starts_with}
use Rattle.std.specs.Str.{bytes_eq}
use Rattle.manifest_tree.specs.declared.fault.TreeKind.{TreeKind}
use Rattle.manifest_tree.specs.declared.fault.TreeKind.TheVariants.{Syntax, Entity, TagMismatch, AttributeTwice}

-- a kind, and how many bytes stand from the place on
abbrev pub Fault : Type 0
Fault = TreeKind × ℕ

abbrev pub Read : Type 0 → Type 0
Read A = Result A Fault

infixl 10 ◌>>=◌
abbrev pub ◌>>=◌ : {A B : Type 0} → Result A Fault → (A → Result B Fault) → Result B Fault
(Ok x) >>= f = f x
(Err e) >>= f = Err e

-- ---- bytes

-- space, tab, line feed and carriage return
unfoldable pub white : ℕ → Bool
white c = c == 32 || c == 9 || c == 10 || c == 13

-- what a text may hold: no byte below 32 but tab, line feed and carriage return
unfoldable pub allowed : ℕ → Bool
allowed c = nat_le 32 c || c == 9 || c == 10 || c == 13

-- letters, `_`, `:` and bytes of 128 and more
unfoldable pub name_first : ℕ → Bool
name_first c =
    nat_le 128 c || c == 95 || c == 58 || (nat_le 97 c && nat_le c 122) ||
    (nat_le 65 c && nat_le c 90)

-- those, digits, `-` and `.`
unfoldable pub name_byte : ℕ → Bool
name_byte c = name_first c || (nat_le 48 c && nat_le c 57) || c == 45 || c == 46

-- ---- runs

-- the bytes of a class at the front, as long as they go
abbrev pub front : (ℕ → Bool) → List ℕ → List ℕ
front p [] = []
front p (c ∷ cs) = if p c then c ∷ front p cs else []

-- what stands behind them
abbrev pub past : (ℕ → Bool) → List ℕ → List ℕ
past p [] = []
past p (c ∷ cs) = if p c then past p cs else c ∷ cs

-- a name begins here
abbrev pub has_name : List ℕ → Bool
has_name [] = false
has_name (c ∷ cs) = name_first c

-- the name that begins here, as long as it goes
abbrev pub name_at : List ℕ → List ℕ
name_at = front name_byte

-- ---- fixed spellings and marks

-- Behind a fixed spelling. The fault is the first byte that is another, or the end.
abbrev pub expect : List ℕ → List ℕ → Read (List ℕ)
expect [] bytes = Ok bytes
expect (m ∷ ms) [] = Err (Syntax, 0)
expect (m ∷ ms) (c ∷ cs) = if c == m then expect ms cs else Err (Syntax, length (c ∷ cs))

-- Behind the first mark, and anything before it. The fault is a byte that no text may hold, or the
-- end.
abbrev pub upto : List ℕ → List ℕ → Read (List ℕ)
upto mark [] = Err (Syntax, 0)
upto mark (c ∷ cs) =
    if starts_with nat_eq (c ∷ cs) mark then Ok (drop (length mark) (c ∷ cs)) else
    if allowed c then upto mark cs else Err (Syntax, length (c ∷ cs))

-- ---- comments, instructions, and what begins a text

-- a comment behind its `<`: `!--`, then anything up to the first `-->`
unfoldable pub comment : List ℕ → Read (List ℕ)
comment bytes = expect (33 ∷ 45 ∷ 45 ∷ []) bytes >>= upto (45 ∷ 45 ∷ 62 ∷ [])

-- a name other than `xml`, taken as long as it goes
unfoldable pub target : List ℕ → Read (List ℕ)
target bytes =
    if has_name bytes then
    (if bytes_eq (name_at bytes) (120 ∷ 109 ∷ 108
    ∷ []) then Err (Syntax, length (past name_byte bytes)) else Ok (past name_byte bytes))
    else Err (Syntax, length bytes)

-- an instruction behind its `<`: `?`, its target, then anything up to the first `?>`
unfoldable pub instruction : List ℕ → Read (List ℕ)
instruction bytes = expect (63 ∷ []) bytes >>= λ rest. target rest >>= upto (63 ∷ 62 ∷ [])

-- a comment or an instruction behind its `<`, or none where neither begins
abbrev pub aside : List ℕ → Read (Option (List ℕ))
aside [] = Ok None
aside (c ∷ cs) =
    if c == 33 then comment (c ∷ cs) >>= (λ rest. Ok (Some rest)) else
    if c == 63 then instruction (c ∷ cs) >>= (λ rest. Ok (Some rest)) else Ok None

-- behind the byte order mark EF BB BF, where one begins
abbrev pub past_mark : List ℕ → Read (List ℕ)
past_mark [] = Ok []
past_mark (c ∷ cs) = if c == 239 then expect (187 ∷ 191 ∷ []) cs else Ok (c ∷ cs)

-- behind the white space that `<?xml` is followed by and all up to the first `?>`, if white space
-- follows
abbrev pub past_white_mark : List ℕ → List ℕ → Read (List ℕ)
past_white_mark bytes [] = Ok bytes
past_white_mark bytes (c ∷ cs) = if white c then upto (63 ∷ 62 ∷ []) cs else Ok bytes

-- behind the declaration, where one stands: `<?xml`, white space, then anything up to the first
-- `?>`
unfoldable pub past_declaration : List ℕ → Read (List ℕ)
past_declaration bytes =
    if starts_with nat_eq bytes (60 ∷ 63 ∷ 120 ∷ 109 ∷ 108 ∷ []) then past_white_mark bytes
    (drop 5 bytes) else Ok bytes

-- behind what a text may begin with: a byte order mark, then a declaration
unfoldable pub begin : List ℕ → Read (List ℕ)
begin bytes = past_mark bytes >>= past_declaration

-- ---- references

-- what a digit stands for, in hexadecimal or in decimal
unfoldable pub digit_of : Bool → ℕ → Option ℕ
digit_of hexadecimal c =
    if nat_le 48 c && nat_le c 57 then Some (c - 48) else
    if hexadecimal && nat_le 97 c && nat_le c 102 then Some (c - 87) else
    if hexadecimal && nat_le 65 c && nat_le c 70 then Some (c - 55) else None

abbrev pub base_of : Bool → ℕ
base_of hexadecimal = if hexadecimal then 16 else 10

-- at most so many digits more and then a `;`, behind digits that stand for n: what all stand for,
-- and what follows
abbrev pub digits_on : Bool → ℕ → ℕ → List ℕ → Option (ℕ × List ℕ)
digits_on hexadecimal zero n [] = None
digits_on hexadecimal zero n (c ∷ cs) = if c == 59 then Some (n, cs) else None
digits_on hexadecimal (suc more) n [] = None
digits_on hexadecimal (suc more) n (c ∷ cs) =
    if c == 59 then Some (n, cs) else option_and_then
    (λ d. digits_on hexadecimal more (n * base_of hexadecimal + d) cs) (digit_of hexadecimal c)

-- one to eight digits and then a `;`
abbrev pub number_at : Bool → List ℕ → Option (ℕ × List ℕ)
number_at hexadecimal [] = None
number_at hexadecimal (c ∷ cs) =
    option_and_then (λ d. digits_on hexadecimal 7 d cs) (digit_of hexadecimal c)

-- a character that a text may hold: tab, line feed, carriage return, or one of at least 32
unfoldable pub is_character : ℕ → Bool
is_character n = allowed n && scalar n

abbrev pub character_of : ℕ → Option ℕ
character_of n = if is_character n then Some n else None

-- one to eight digits and a `;`, where they stand for a character that a text may hold
unfoldable pub numbered_at : Bool → List ℕ → Option (ℕ × List ℕ)
numbered_at hexadecimal bytes =
    option_and_then (λ found. option_and_then (λ c. Some (c, found.1)) (character_of found.0))
    (number_at hexadecimal bytes)

-- the five characters that have names
unfoldable pub named_at : List ℕ → Option (ℕ × List ℕ)
named_at bytes =
    if starts_with nat_eq bytes (108 ∷ 116 ∷ 59 ∷ []) then Some (60, drop 3 bytes) else
    if starts_with nat_eq bytes (103 ∷ 116 ∷ 59 ∷ []) then Some (62, drop 3 bytes) else
    if starts_with nat_eq bytes (97 ∷ 109 ∷ 112 ∷ 59 ∷ []) then Some (38, drop 4 bytes) else
    if starts_with nat_eq bytes (113 ∷ 117 ∷ 111 ∷ 116 ∷ 59 ∷ []) then Some (34, drop 5 bytes) else
    if starts_with nat_eq bytes (97 ∷ 112 ∷ 111 ∷ 115 ∷ 59 ∷ []) then Some (39, drop 5 bytes) else
    None

-- the reference behind its `&`: the character that it names, and what follows it
unfoldable pub reference_at : List ℕ → Option (ℕ × List ℕ)
reference_at bytes =
    if starts_with nat_eq bytes (35 ∷ 120 ∷ []) then numbered_at true (drop 2 bytes) else
    if starts_with nat_eq bytes (35 ∷ []) then numbered_at false (drop 1 bytes) else
    named_at bytes

-- ---- character data and values, unit by unit

-- in a value a tab or a line feed is read as a space
unfoldable pub plain : Bool → ℕ → ℕ
plain quoted c = if quoted && (c == 9 || c == 10) then 32 else c

abbrev pub past_line_feed : List ℕ → List ℕ
past_line_feed [] = []
past_line_feed (c ∷ cs) = if c == 10 then cs else c ∷ cs

-- what a reference stands for, or the fault at its `&`, from which on so many bytes stand
abbrev pub referred : ℕ → Option (ℕ × List ℕ) → Read (List ℕ × List ℕ)
referred left None = Err (Entity, left)
referred left (Some found) = Ok (encode_utf8 found.0, found.1)

-- One byte, line end or reference at the front: what it stands for, and what follows it. A carriage
-- return, with a line feed behind it or without, is a line feed. `<` is never a unit, and an `&`
-- that begins no reference is a fault.
abbrev pub unit_at : Bool → List ℕ → Read (List ℕ × List ℕ)
unit_at quoted [] = Err (Syntax, 0)
unit_at quoted (c ∷ cs) =
    if c == 38 then referred (length (c ∷ cs)) (reference_at cs) else
    if c == 13 then Ok (plain quoted 10 ∷ [], past_line_feed cs) else
    if c == 60 || not (allowed c) then Err (Syntax, length (c ∷ cs)) else Ok
    (plain quoted c ∷ [], cs)

-- ---- tags

abbrev pub quote_in : List ℕ → Read (ℕ × List ℕ)
quote_in [] = Err (Syntax, 0)
quote_in (c ∷ cs) = if c == 34 || c == 39 then Ok (c, cs) else Err (Syntax, length (c ∷ cs))

-- behind an attribute's name: `=` and a quote, white space before each being optional. It gives the
-- quote, and what follows.
unfoldable pub quote_at : List ℕ → Read (ℕ × List ℕ)
quote_at bytes = expect (61 ∷ []) (past white bytes) >>= λ rest. quote_in (past white rest)

-- what comes next in a start tag: an attribute, with its name and its quote, or one of the two ends
pub data TagTurn : Type 0 where
  attribute : (name : List ℕ) (quote : ℕ) → TagTurn
  opens : TagTurn
  closes : TagTurn

-- one of the names is this one
abbrev pub is_among : List (List ℕ) → List ℕ → Bool
is_among names name = list_any (λ other. bytes_eq other name) names

-- an attribute behind white space, in a tag with these names so far
unfoldable pub attribute_at : List (List ℕ) → List ℕ → Read (TagTurn × List ℕ)
attribute_at names bytes =
    if has_name bytes then
    (if is_among names (name_at bytes) then Err (AttributeTwice, length bytes) else
    quote_at (past name_byte bytes) >>= λ found. Ok (attribute (name_at bytes) found.0, found.1))
    else Err (Syntax, length bytes)

-- what comes next behind optional white space; an attribute wants some
abbrev pub turn_at : List (List ℕ) → Bool → List ℕ → Read (TagTurn × List ℕ)
turn_at names bare [] = Err (Syntax, 0)
turn_at names bare (c ∷ cs) =
    if c == 62 then Ok (opens, cs) else
    if c == 47 then expect (62 ∷ []) cs >>= (λ rest. Ok (closes, rest)) else
    if bare then Err (Syntax, length (c ∷ cs)) else attribute_at names (c ∷ cs)

abbrev pub tag_turn : List (List ℕ) → List ℕ → Read (TagTurn × List ℕ)
tag_turn names bytes = turn_at names (length (past white bytes) == length bytes) (past white bytes)

-- behind the end tag of an element of this name, whose own name begins here; so many bytes stand
-- from the tag's `<` on
unfoldable pub end_at : List ℕ → ℕ → List ℕ → Read (List ℕ)
end_at name left bytes =
    if has_name bytes then
    (if bytes_eq (name_at bytes) name then expect (62
    ∷ []) (past white (past name_byte bytes)) else Err (TagMismatch, left))
    else Err (Syntax, length bytes)
