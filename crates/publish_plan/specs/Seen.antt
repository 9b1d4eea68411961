-- What is kept of each file while marks are read.
use Rattle.std.specs.Prelude.{◌≡◌, ℕ, Bool, true, false, ◌||◌, not, List, Option, Some, None, option_map, if◌then◌else◌}
use Rattle.std.specs.BTreeMap.{BTreeMap, get}
use Rattle.std.specs.Cmp.Lexicographic.{slice_cmp}
use Rattle.std.specs.Ordering.{nat_cmp}
use Rattle.std.specs.Str.{bytes_eq}
use Rattle.publish_plan.specs.declared.marked.Seen.{Seen}
use Rattle.publish_plan.specs.declared.options.Mark.{Mark}
use Rattle.publish_plan.specs.Marks.{is_marked, is_data, is_local, group_in, group_of, is_among}

-- what these marks say of a file
abbrev pub seen_of : List Mark → List ℕ → Seen
seen_of marks file = record {
  named = is_marked marks file;
  local = is_data marks file;
  group = group_of marks file;
}

-- a file that no mark names
abbrev pub unmarked : Seen
unmarked = record { named = false; local = false; group = None }

-- with one more that names the file; its group counts where no earlier one named the file
abbrev pub more : Seen → Mark → Seen
more seen mark = record {
  named = true;
  local = seen.local || is_local mark.kind;
  group = if seen.named then seen.group else group_in mark.kind;
}

-- no mark named the file, which is kept
abbrev pub is_fresh : Option Seen → Bool
is_fresh None = false
is_fresh (Some seen) = not seen.named

abbrev pub row : BTreeMap (List ℕ) Seen → List ℕ → Option Seen
row table file = get (slice_cmp nat_cmp) table file

-- the rows of these files are what these marks say of them, and there are no others
abbrev pub Knows : BTreeMap (List ℕ) Seen → List (List ℕ) → List Mark → Type 0
Knows table files marks =
    (q : List ℕ) → row table q ≡ (if is_among files q then Some (seen_of marks q) else None)

-- one mark more
abbrev pub Adds : BTreeMap (List ℕ) Seen → BTreeMap (List ℕ) Seen → Mark → Type 0
Adds old new mark =
    (q : List ℕ) → row new q
    ≡ (if bytes_eq mark.file q then option_map (λ (s : Seen). more s mark) (row old q)
    else row old q)
