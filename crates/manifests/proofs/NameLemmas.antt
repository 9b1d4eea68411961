-- Whether a file of a name may be installed.
use Rattle.std.proofs.Common.{◌≡◌, ℕ, Bool, true, false, List, Option, Some, None, Ok, Err, refl, sym, ap, ◌∙◌}
use Rattle.std.specs.Prelude.{◌↔◌, ◌&&◌, ◌||◌, not, nat_le, length, codes, slice_get, if◌then◌else◌}
use Rattle.std.specs.Bool.{IsTrue}
use Rattle.std.proofs.lemmas.Slice.Eq.{bytes_eq-Decides}
use Rattle.small_types.specs.declared.limits.TheConstants.{LOCAL_NAME_LIMIT}
use Rattle.small_types.specs.declared.name.NameFault.{NameFault}
use Rattle.small_types.specs.Name.{name_of, name_parts, IsBelowPre}
use Rattle.manifest_parts.specs.declared.fault.ManifestFault.TheVariants.{BadName, TwiceNamed}
use Rattle.manifest_parts.specs.Elements.{Read}
use Rattle.manifests.specs.declared.facts.FileEntry.{FileEntry}
use Rattle.manifests.specs.Applications.{is_pre, is_below_pre, is_listed_name, is_taken, fit_name, listed_name, new_name}

same_bool : (a b : Bool) → (a ≡ true → b ≡ true) → (b ≡ true → a ≡ true) → a ≡ b
same_bool true b there back = sym (there refl)
same_bool false true there back = back refl
same_bool false false there back = refl

pre_is : (first : Option (List ℕ)) → is_pre first ≡ true → first ≡ Some (codes ".pre")
pre_is None h = absurd cc
pre_is (Some part) h = ap (λ (p : List ℕ). Some p) ((bytes_eq-Decides part (codes ".pre")).0 h)

pub below_is : (b : Bool) (name : List ℕ) → IsTrue b ↔ IsBelowPre name → b ≡ is_below_pre name
unfolding is_below_pre
below_is b name h = same_bool b (is_pre (slice_get (name_parts name) 0)) (λ t. ap is_pre (h.0 t)) (λ t. h.1 (pre_is (slice_get (name_parts name) 0) t))

-- what is no name, and a name that may or may not be installed
pub name_bad : (is_local : Bool) (value : List ℕ) (e : NameFault) → name_of value ≡ Err e → listed_name is_local value ≡ Err (BadName value)
name_bad is_local value e is = ap (fit_name is_local value) is

module _ (is_local : Bool) (value name : List ℕ) (is : name_of value ≡ Ok name) where
  abbrev choice : Bool → Read (List ℕ)
  choice b = if b then Ok name else Err (BadName value)

  pub name_listed : is_listed_name is_local name ≡ true → listed_name is_local value ≡ Ok name
  name_listed h = ap (fit_name is_local value) is ∙ ap choice h

  pub name_kept_out : is_listed_name is_local name ≡ false → listed_name is_local value ≡ Err (BadName value)
  name_kept_out h = ap (fit_name is_local value) is ∙ ap choice h

-- ---- a name that an earlier file has, or none

module _ (before : List FileEntry) (name : List ℕ) where
  abbrev if_taken : Bool → Read (List ℕ)
  if_taken b = if b then Err (TwiceNamed name) else Ok name

  pub name_taken : is_taken before name ≡ true → new_name before name ≡ Err (TwiceNamed name)
  name_taken h = ap if_taken h

  pub name_new : is_taken before name ≡ false → new_name before name ≡ Ok name
  name_new h = ap if_taken h

-- ---- the test of a name

abbrev fits : Bool → Bool → List ℕ → Bool
fits below is_local name = not below && (not is_local || nat_le (length name) LOCAL_NAME_LIMIT)

module _ (below is_local : Bool) (name : List ℕ) (h : IsTrue below ↔ IsBelowPre name) where
  listed_is : fits below is_local name ≡ is_listed_name is_local name
  listed_is = ap (λ (b : Bool). fits b is_local name) (below_is below name h)

  pub below_is_not_listed : below ≡ true → false ≡ is_listed_name is_local name
  below_is_not_listed is = ap (λ (b : Bool). fits b is_local name) (sym is) ∙ listed_is

  pub program_is_listed : below ≡ false → is_local ≡ false → true ≡ is_listed_name is_local name
  program_is_listed is program = sym (ap (λ (b : Bool). fits b is_local name) is ∙ ap (λ (l : Bool). fits false l name) program) ∙ listed_is

  pub data_is_listed : below ≡ false → is_local ≡ true → nat_le (length name) LOCAL_NAME_LIMIT ≡ is_listed_name is_local name
  data_is_listed is data_file = sym (ap (λ (b : Bool). fits b is_local name) is ∙ ap (λ (l : Bool). fits false l name) data_file) ∙ listed_is
