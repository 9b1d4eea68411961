-- How a text that is known by its front compares with another.
use Rattle.std.specs.Prelude.{◌≡◌, ℕ, List, ◌++◌, Result, Ok, Err}
use Rattle.std.specs.Borrow.{Bor}
use Rattle.std.specs.Cmp.Lexicographic.{slice_cmp}
use Rattle.std.specs.declared.cmp.Ordering.{Ordering}
use Rattle.std.specs.Ordering.{nat_cmp}

-- the order of texts by their bytes
abbrev pub text_cmp : List ℕ → List ℕ → Ordering
text_cmp = slice_cmp nat_cmp

-- the text begins with the front and goes on with the rest; or each text that begins with the front
-- compares so with it
abbrev pub Follows : List ℕ → List ℕ → Result (Bor (List ℕ)) Ordering → Type 0
Follows front text (Ok rest) = text ≡ front ++ rest.now
Follows front text (Err order) = (more : List ℕ) → text_cmp (front ++ more) text ≡ order
