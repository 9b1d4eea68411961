-- Causes with commas between them, hexadecimal digits, keys and addresses before other text, and what is shown of
-- applications.
use Rattle.std.proofs.Common.{◌≡◌, ◌∙◌, ◌<◌, ◌+◌, ℕ, List, [], ◌∷◌, ◌++◌, drop, get_or, length, map, decimal, codes, refl, suc, sym, ap, append_assoc, arith}
use Rattle.std.specs.List.{join_with_byte}
use Rattle.std.proofs.Math.Numerals.{add-one}
use Rattle.std.proofs.Math.Seq.{drop-cons}
use Rattle.std.proofs.lemmas.List.{append-nil}
use Rattle.small_types.specs.declared.target.Target.{Target}
use Rattle.addresses.specs.Join.{target_text}
use Rattle.causes.specs.declared.cause.Cause.{Cause}
use Rattle.hex.specs.Hex.{encode_lower, encode_with}
use Rattle.identity.specs.declared.key.Key.{Key}
use Rattle.identity.specs.Key.{comma, key_text, part_text}
use Rattle.machine.specs.declared.rows.ListRow.{ListRow}
use Rattle.machine.specs.declared.rows.ShowRow.{ShowRow}
use Rattle.manifest_text.specs.Lines.{two}
use Rattle.command_text.specs.Applications.{list_text, optional_target, row_text, rows_text, show_text, state_text, versions_text}
use Rattle.command_text.specs.Lines.{reason_text, reasons_text, shown_text}

-- ---- causes

-- the causes that are left, with those bytes before the first one, and a comma before each other
pub rest_text : List ℕ → List Cause → List ℕ
rest_text before [] = []
rest_text before (cause ∷ causes) = (before ++ reason_text cause) ++ rest_text (comma ∷ []) causes

pub none_left : (before : List ℕ) → rest_text before [] ≡ []
unfolding rest_text
none_left before = refl

one_left : (before : List ℕ) (causes : List Cause) (i : ℕ) (d : Cause) → i < length causes → rest_text before (drop i causes) ≡ (before ++ reason_text (get_or causes i d)) ++ rest_text (comma ∷ []) (drop (i + 1) causes)
unfolding rest_text
one_left before causes i d within = rw (add-one, drop-cons causes i d within) refl

-- the next one, as a loop has it
pub one_item : (before : List ℕ) (causes : List Cause) (i : ℕ) (cause : Cause) → i < length causes → cause ≡ get_or causes i cause → rest_text before (drop i causes) ≡ (before ++ reason_text cause) ++ rest_text (comma ∷ []) (drop (i + 1) causes)
one_item before causes i cause within is =
    one_left before causes i cause within ∙ ap (λ (c : Cause). (before ++ reason_text c) ++ rest_text (comma ∷ []) (drop (i + 1) causes)) (sym is)

-- with no bytes before the first they are joined by commas
joined : (cause : Cause) (causes : List Cause) → join_with_byte comma (map reason_text (cause ∷ causes)) ≡ reason_text cause ++ rest_text (comma ∷ []) causes
unfolding rest_text
joined cause [] = sym (append-nil (reason_text cause))
joined cause (next ∷ causes) = ap (λ (t : List ℕ). reason_text cause ++ (comma ∷ t)) (joined next causes)

pub all_left : (causes : List Cause) → reasons_text causes ≡ rest_text [] causes
unfolding reasons_text rest_text
all_left [] = refl
all_left (cause ∷ causes) = joined cause causes

-- ---- hexadecimal digits

-- those of two texts, one behind the other
pub hex_append : (a b : List ℕ) → encode_lower (a ++ b) ≡ encode_lower a ++ encode_lower b
unfolding encode_with
hex_append [] b = refl
hex_append (byte ∷ a) b = rw (hex_append a b) refl

pub hex_over : (rest : List ℕ) → length rest ≡ 0 → encode_lower rest ≡ []
unfolding encode_with
hex_over [] none = refl
hex_over (byte ∷ rest) none = absurd (omega arith)

-- where bytes are left they are shown
pub hex_shown : (bytes : List ℕ) → 0 < length bytes → encode_lower bytes ≡ shown_text bytes
hex_shown [] some = absurd (omega arith)
hex_shown (byte ∷ bytes) some = refl

-- ---- before other text

key_then : (key : Key) (more : List ℕ) → key_text key ++ more ≡ part_text key.name ++ (44 ∷ (part_text key.token ++ (44 ∷ (part_text key.language ++ (44 ∷ (part_text key.architecture ++ more))))))
unfolding key_text
key_then key more = simp append_assoc

-- its parts, where these are they
pub parts_then : (key : Key) (more a b c d : List ℕ) → a ≡ key.name → b ≡ key.token → c ≡ key.language → d ≡ key.architecture → part_text a ++ (44 ∷ (part_text b ++ (44 ∷ (part_text c ++ (44 ∷ (part_text d ++ more)))))) ≡ key_text key ++ more
parts_then key more a b c d p q r s = let whole = key_then key more in cc

target_then : (target : Target) (more : List ℕ) → target_text target ++ more ≡ codes "http://" ++ (target.host ++ (58 ∷ (decimal target.port ++ (target.path ++ more))))
unfolding target_text
target_then target more = simp append_assoc

pub address_then : (target : Target) (more host path : List ℕ) → host ≡ target.host → path ≡ target.path → codes "http://" ++ (host ++ (58 ∷ (decimal target.port ++ (path ++ more)))) ≡ target_text target ++ more
address_then target more host path p q = let whole = target_then target more in cc

-- two words and the end of a line
pub two_then : (front a b : List ℕ) → front ++ (a ++ (32 ∷ (b ++ 10 ∷ []))) ≡ front ++ (two a b ++ 10 ∷ [])
two_then front a b = ap (λ (text : List ℕ). front ++ text) (sym (append_assoc a (32 ∷ b) (10 ∷ [])))

-- ---- applications

-- the next row, as a loop has it
pub one_row : (rows : List ListRow) (i : ℕ) (row : ListRow) → i < length rows → row ≡ get_or rows i row → rows_text (drop i rows) ≡ row_text row ++ rows_text (drop (i + 1) rows)
one_row rows i row within is =
    rw (add-one, drop-cons rows i row within) (ap (λ (r : ListRow). row_text r ++ rows_text (drop (suc i) rows)) (sym is))

-- how many rows there are, before them
pub list_parts : (rows : List ListRow) → list_text rows ≡ (codes "ok list " ++ (decimal (length rows) ++ 10 ∷ [])) ++ rows_text rows
list_parts rows = simp append_assoc

-- what is shown, in the parts that are written one after the other
pub show_parts : (row : ShowRow) → show_text row ≡ (codes "ok show " ++ (key_text row.key ++ 32 ∷ [])) ++ (versions_text row ++ (state_text row ++ (optional_target row.provider ++ 10 ∷ [])))
show_parts row = simp append_assoc
