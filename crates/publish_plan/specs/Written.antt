-- What is known of written names while a plan is made.
use Rattle.std.specs.Prelude.{◌≡◌, ℕ, Bool, List, length, string_bytes, ◌&&◌, ◌||◌, nat_lt}
use Rattle.std.specs.Str.{bytes_eq}
use Rattle.small_types.specs.declared.limits.TheConstants.{NAME_LIMIT, LOCAL_NAME_LIMIT}
use Rattle.manifests.specs.Applications.{is_below_pre}
use Rattle.publish_plan.specs.declared.options.Options.{Options}
use Rattle.publish_plan.specs.declared.written.Written.{Written}
use Rattle.publish_plan.specs.Paths.{IsPath}
use Rattle.publish_plan.specs.Places.{front_of, version_folder, manifest_name}

pub record AreWritten (o : Options) (w : Written) : Type 0 where
  pub front : string_bytes w.front ≡ front_of o.from
  pub folder : string_bytes w.folder ≡ version_folder o
  pub manifest : string_bytes w.manifest ≡ manifest_name o
  pub from_is_path : IsPath o.from
  pub folder_is_path : IsPath (version_folder o)

-- a file of this name and this written name can't be written
abbrev pub is_unfit : List ℕ → Bool → List ℕ → List ℕ → Bool
is_unfit manifest is_local file target =
    is_below_pre file
    || (nat_lt NAME_LIMIT (length target) || (is_local && nat_lt LOCAL_NAME_LIMIT (length file)))
    || bytes_eq target manifest
