-- Texts that are names where they are not too long.
use Rattle.std.specs.Prelude.{◌≡◌, ℕ, Bool, List, ◌&&◌}
use Rattle.std.specs.Bool.{IsTrue}
use Rattle.std.specs.List.{list_all}
use Rattle.std.specs.Str.{is_utf8}
use Rattle.small_types.specs.Name.{name_parts, is_name_byte, is_name_part}
use Rattle.publish_plan.specs.Places.{front_of}

-- all that a name has, but for its length
unfoldable pub is_path : List ℕ → Bool
is_path text = list_all is_name_byte text && list_all is_name_part (name_parts text) && is_utf8 text

abbrev pub IsPath : List ℕ → Type 0
IsPath text = IsTrue (is_path text)

-- the name of a folder, with a slash behind it
pub record CanFollow (front : List ℕ) : Type 0 where
  pub folder : List ℕ
  pub is_folder : IsPath folder
  pub is : front ≡ front_of folder
