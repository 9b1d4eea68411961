-- Data files by their names, in views and in views without the bytes of their files.
use Rattle.std.specs.Prelude.{ℕ, not, List, [], ◌∷◌, bytes_eq, filter, find, Option}
use Rattle.std.specs.declared.cmp.Ordering.{Ordering}
use Rattle.std.specs.declared.cmp.Ordering.TheVariants.{Less, Equal, Greater}
use Rattle.identity.specs.Printed.{text_cmp}
use Rattle.machine.specs.Grouped.{with_view_at}
use Rattle.machine.specs.Shape.{BareData}
use Rattle.machine.specs.Store.{Store}
use Rattle.machine.specs.Views.{DataFile, View}

-- ---- items by their names

-- the item of that name
abbrev pub named : {A : Type 0} → (A → List ℕ) → List ℕ → List A → Option A
named name_of name items = find (λ item. bytes_eq (name_of item) name) items

abbrev pub with_named_at :
    {A : Type 0} → Ordering → A → A → List A → List A → List A
with_named_at Less item other others rest = other ∷ rest
with_named_at Equal item other others rest = item ∷ others
with_named_at Greater item other others rest = item ∷ other ∷ others

-- The items once that one is among them, in the order of their names. It takes the place of one of
-- its name.
abbrev pub with_named : {A : Type 0} → (A → List ℕ) → A → List A → List A
with_named name_of item [] = item ∷ []
with_named name_of item (other ∷ others) =
    with_named_at (text_cmp (name_of other) (name_of item)) item other others
    (with_named name_of item others)

-- the items but that of the name
abbrev pub without_named : {A : Type 0} → (A → List ℕ) → List ℕ → List A → List A
without_named name_of name items = filter (λ item. not (bytes_eq (name_of item) name)) items

-- ---- data files

abbrev pub data_name : DataFile → List ℕ
data_name file = file.name

abbrev pub bare_name : BareData → List ℕ
bare_name file = file.name

abbrev pub data_named : List ℕ → List DataFile → Option DataFile
data_named name files = named data_name name files

abbrev pub bare_data_named : List ℕ → List BareData → Option BareData
bare_data_named name files = named bare_name name files

-- ---- a store with other data files in one view

-- a view with that data file
abbrev pub with_data : DataFile → View → View
with_data file view = record view { data_files = with_named data_name file view.data_files }

-- a view without the data file of that name
abbrev pub without_data : List ℕ → View → View
without_data name view = record view { data_files = without_named data_name name view.data_files }

-- the store once the data file is in the view of that number
abbrev pub put_in : ℕ → DataFile → Store → Store
put_in number file old = record old { views = with_view_at number (with_data file) old.views }

-- the store once the view of that number has no data file of the name
abbrev pub removed_in : ℕ → List ℕ → Store → Store
removed_in number name old = record old {
  views = with_view_at number (without_data name) old.views;
}
