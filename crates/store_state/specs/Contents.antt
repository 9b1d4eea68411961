-- Contents: the bytes that program files of equal content keys share.
use Rattle.std.specs.Prelude.{◌≡◌, Bool, true, false, List, ◌++◌, All, AllPairs, Any, IsSome, Option, find}
use Rattle.manifests.specs.declared.facts.FileEntry.{FileEntry}
use Rattle.machine.specs.Views.{ContentKey, content_key, same_key}
use Rattle.store_state.specs.declared.view.Content.{Content}
use Rattle.store_state.specs.Stored.{IsHeldFor}

-- what it is known by
abbrev pub held_key : Content → ContentKey
held_key content = record { size = content.size; list = content.list }

-- the content is that of the file
abbrev pub is_content_of : FileEntry → Content → Bool
is_content_of entry content = same_key (content_key entry) (held_key content)

-- two contents have equal content keys
abbrev pub is_same : Content → Content → Bool
is_same a b = same_key (held_key a) (held_key b)

-- the content of the file, where there is one
abbrev pub content_of : List Content → FileEntry → Option Content
content_of contents entry = find (is_content_of entry) contents

-- each file has its content, each content is that of a file, and no two are the same
pub record AreContentsOf (entries : List FileEntry) (contents : List Content) : Type 0 where
  pub each : All (λ entry. IsSome (content_of contents entry)) entries
  pub only : All (λ content. Any (λ entry. is_content_of entry content ≡ true) entries) contents
  pub once : AllPairs (λ (a b : Content). is_same a b ≡ false) contents

-- it has as many blocks as its size needs
abbrev pub IsMeasured : Content → Type 0
IsMeasured content = IsHeldFor content.size content.held

-- The new contents are exactly those that files lack, each once.
pub record Brings (old : List Content) (entries : List FileEntry) (new : List Content)
    : Type 0 where
  pub each : All (λ entry. IsSome (content_of (old ++ new) entry)) entries
  pub only : All (λ content. Any (λ entry. is_content_of entry content ≡ true) entries) new
  pub lacking : All (λ content. All (λ other. is_same other content ≡ false) old) new
  pub once : AllPairs (λ (a b : Content). is_same a b ≡ false) new
