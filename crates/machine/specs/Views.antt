-- Kept views: releases as they are installed, with the whole bytes of their files.
use Rattle.std.specs.Prelude.{ℕ, Bool, true, not, ◌==◌, ◌&&◌, List, filter, Option, Some, None, is_none, bytes_eq}
use Rattle.std.specs.List.{list_any}
use lib.Pointwise.{pointwise}
use Rattle.small_types.specs.declared.target.Target.{Target}
use Rattle.identity.specs.declared.key.Key.{Key}
use Rattle.identity.specs.declared.version.Version.{Version}
use Rattle.digest_list.specs.declared.digest.Digest.{Digest}
use Rattle.digest_list.specs.Algorithm.{name_of}
use Rattle.manifests.specs.declared.facts.Application.{Application}
use Rattle.manifests.specs.declared.facts.Deployment.{Deployment}
use Rattle.manifests.specs.declared.facts.FileEntry.{FileEntry}

-- a file that a manifest lists: what is said of it, and its bytes
pub record ListedFile : Type 0 where
  pub entry : FileEntry
  pub bytes : List ℕ

-- a data file, which each view has for itself
pub record DataFile : Type 0 where
  pub name : List ℕ
  pub bytes : List ℕ

-- A view: its manifests, the address of its application manifest, the groups that stand in the
-- order in which they came, the program files that stand in the manifest's order, and the data
-- files in order of their names.
pub record View : Type 0 where
  pub number : ℕ
  pub deployment : Deployment
  pub application : Application
  pub base : Target
  pub groups : List (List ℕ)
  pub program_files : List ListedFile
  pub data_files : List DataFile

-- the application that it is a version of
abbrev pub key_of : View → Key
key_of view = view.deployment.identity.key

-- the version that it is
abbrev pub version_of : View → Version
version_of view = view.deployment.identity.version

-- ---- which program files stand

-- a file is required where it is no data file and in no group
abbrev pub is_required : FileEntry → Bool
is_required entry = not entry.local && is_none entry.group

-- a file in no group always stands, any other with its group
abbrev pub stands_by : List (List ℕ) → Option (List ℕ) → Bool
stands_by groups None = true
stands_by groups (Some group) = list_any (bytes_eq group) groups

-- the program files of an application that stand where these groups do, in the manifest's order
abbrev pub standing_entries : List (List ℕ) → Application → List FileEntry
standing_entries groups application =
    filter (λ entry. not entry.local && stands_by groups entry.group) application.files

-- ---- which files share their bytes

-- what the bytes of a file are known by
pub record ContentKey : Type 0 where
  pub size : ℕ
  pub list : List Digest

abbrev pub content_key : FileEntry → ContentKey
content_key entry = record { size = entry.size; list = entry.list }

abbrev pub same_digest : Digest → Digest → Bool
same_digest a b = bytes_eq (name_of a.algorithm) (name_of b.algorithm) && bytes_eq a.value b.value

-- two content keys are equal
abbrev pub same_key : ContentKey → ContentKey → Bool
same_key a b = a.size == b.size && pointwise same_digest a.list b.list

-- two files have equal content keys
abbrev pub same_content : FileEntry → FileEntry → Bool
same_content a b = same_key (content_key a) (content_key b)
