-- What marks say of files.
use Rattle.std.specs.Prelude.{ℕ, Bool, true, false, List, [], ◌∷◌, ◌++◌, ◌&&◌, not, find, Option, Some, None, if◌then◌else◌}
use Rattle.std.specs.List.{list_any}
use Rattle.std.specs.Str.{bytes_eq}
use Rattle.publish_plan.specs.declared.options.Mark.{Mark}
use Rattle.publish_plan.specs.declared.options.MarkKind.{MarkKind}
use Rattle.publish_plan.specs.declared.options.MarkKind.TheVariants.{Local, Group}

-- the mark names the file
abbrev pub names_file : List ℕ → Mark → Bool
names_file file mark = bytes_eq mark.file file

-- some mark names the file
abbrev pub is_marked : List Mark → List ℕ → Bool
is_marked marks file = list_any (names_file file) marks

abbrev pub is_local : MarkKind → Bool
is_local Local = true
is_local (Group group) = false

-- some mark makes the file a data file
abbrev pub is_data : List Mark → List ℕ → Bool
is_data marks file = list_any (λ (m : Mark). names_file file m && is_local m.kind) marks

abbrev pub group_in : MarkKind → Option (List ℕ)
group_in Local = None
group_in (Group group) = Some group

abbrev pub group_at : Option Mark → Option (List ℕ)
group_at None = None
group_at (Some mark) = group_in mark.kind

-- the group that the mark that names the file gives it, if it gives one
abbrev pub group_of : List Mark → List ℕ → Option (List ℕ)
group_of marks file = group_at (find (names_file file) marks)

-- the file is one of them
abbrev pub is_among : List (List ℕ) → List ℕ → Bool
is_among files file = list_any (λ (f : List ℕ). bytes_eq f file) files

-- a mark names a file that no earlier mark named
abbrev pub is_good : List (List ℕ) → List Mark → Mark → Bool
is_good files before mark = is_among files mark.file && not (is_marked before mark.file)

-- the file of the first mark, behind these, that does not
abbrev pub bad_mark : List (List ℕ) → List Mark → List Mark → Option (List ℕ)
bad_mark files before [] = None
bad_mark files before (mark ∷ marks) =
    if is_good files before mark then bad_mark files (before ++ mark ∷ []) marks
    else Some mark.file
