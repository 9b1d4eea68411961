-- What a reading of at most so many bytes finds.
use Rattle.std.specs.Prelude.{◌≡◌, ◌⊎◌, ◌<◌, ◌≤◌, ℕ, List, [], length, Option, Some, None}
use Rattle.folders.specs.declared.folder.Found.{Found}
use Rattle.folders.specs.declared.folder.Found.TheVariants.{Nothing, Whole, TooLong}

-- the file has so many bytes
pub record HasLength (file : Option (List ℕ)) (n : ℕ) : Type 0 where
  pub bytes : List ℕ
  pub is : file ≡ Some bytes
  pub sized : n ≡ length bytes

-- what was found is what the file is; where it was read, its bytes are in the buffer
abbrev pub Finds : Option (List ℕ) → List ℕ → Found → Type 0
Finds file into Nothing = file ≡ None
Finds file into Whole = file ≡ Some into
Finds file into (TooLong n) = HasLength file n

-- no more bytes than the limit were read, and no file within it was left unread
abbrev pub IsWithin : ℕ → List ℕ → Found → Type 0
IsWithin limit into Nothing = Unit {0}
IsWithin limit into Whole = length into ≤ limit
IsWithin limit into (TooLong n) = limit < n

-- the buffer has nothing of a file that was not read: it is as it was, or empty
abbrev pub IsUnread : List ℕ → List ℕ → Found → Type 0
IsUnread before after Nothing = (after ≡ before) ⊎ (after ≡ [])
IsUnread before after Whole = Unit {0}
IsUnread before after (TooLong n) = (after ≡ before) ⊎ (after ≡ [])
