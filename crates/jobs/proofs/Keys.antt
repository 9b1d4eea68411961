-- Content keys that are the same.
use Rattle.std.proofs.Common.{◌≡◌, ◌∙◌, false, true, [], None, sym}
use Rattle.std.specs.Ordering.{is_eq}
use Rattle.std.proofs.lemmas.Cmp.{eq_by_cmp_equiv}
use Rattle.manifests.specs.declared.facts.FileEntry.{FileEntry}
use Rattle.machine.specs.Views.{ContentKey, same_key}
use Rattle.machine.proofs.Contents.{content_decides}
use Rattle.store_state.specs.ContentKeys.{content_key_cmp}
use Rattle.store_state.proofs.KeyOrder.{content_key_total, key_ties}

-- a file of that content
abbrev file_of : ContentKey → FileEntry
file_of key = record { name = []; size = key.size; list = key.list; group = None; local = false }

pub one_key : (a b : ContentKey) → same_key a b ≡ true → a ≡ b
one_key a b is = (content_decides (file_of a) (file_of b)).0 is

pub key_one : (a b : ContentKey) → a ≡ b → same_key a b ≡ true
key_one a b is = (content_decides (file_of a) (file_of b)).1 is

-- keys that compare as equal are the same
pub same_by_order : (a b : ContentKey) → is_eq (content_key_cmp b a) ≡ same_key a b
same_by_order a b = (eq_by_cmp_equiv content_key_total).symm b a ∙ sym (key_ties a b)
