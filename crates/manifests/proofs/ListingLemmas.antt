-- What a child of the root lists.
use Rattle.std.proofs.Common.{◌≡◌, Bool, true, false, Option, Some, None, Ok, sym, ap, ◌∙◌}
use Rattle.std.specs.Prelude.{codes, if◌then◌else◌}
use Rattle.manifest_tree.specs.Tree.{Tree}
use Rattle.manifest_parts.specs.declared.fault.ManifestFault.{ManifestFault}
use Rattle.manifest_parts.specs.Elements.{Read, called}
use Rattle.small_types.specs.Outcome.{◌>>=◌}
use Rattle.manifest_parts.specs.Outcome.{Fails}
use Rattle.manifest_parts.proofs.Readings.{fails_then, fails_same}
use Rattle.manifests.specs.Types.{installed_type}
use Rattle.manifests.specs.Applications.{Listing, file_listing, assembly_listing, dependency_listing, first_assembly, listing_of}

abbrev pub some_read : Listing → Read (Option Listing)
some_read l = Ok (Some l)

-- ---- a dependency

module _ (t assembly : Tree) (is : Some assembly ≡ first_assembly t) where
  abbrev wanted_listing : Bool → Read (Option Listing)
  wanted_listing wanted = Ok (if wanted then Some (assembly_listing t assembly) else None)

  whole : (installed_type assembly >>= wanted_listing) ≡ dependency_listing t (first_assembly t)
  whole = ap (dependency_listing t) is

  pub type_refused : (e : ManifestFault) → Fails e (installed_type assembly) → Fails e (dependency_listing t (first_assembly t))
  type_refused e h = fails_same e (installed_type assembly >>= wanted_listing) _ (sym whole) (fails_then e (installed_type assembly) wanted_listing h)

  pub installed_lists : installed_type assembly ≡ Ok true → dependency_listing t (first_assembly t) ≡ some_read (assembly_listing t assembly)
  installed_lists h = sym whole ∙ ap (λ (r : Read Bool). r >>= wanted_listing) h

  pub other_lists_none : installed_type assembly ≡ Ok false → dependency_listing t (first_assembly t) ≡ Ok None
  other_lists_none h = sym whole ∙ ap (λ (r : Read Bool). r >>= wanted_listing) h

-- ---- a child

module _ (t : Tree) where
  abbrev choice : Bool → Bool → Read (Option Listing)
  choice is_file is_dependency =
      if is_file then Ok (Some (file_listing t)) else
      if is_dependency then dependency_listing t (first_assembly t) else Ok None

  pub file_lists : called (codes "file") t ≡ true → listing_of t ≡ some_read (file_listing t)
  unfolding listing_of
  file_lists h = ap (λ (b : Bool). choice b (called (codes "dependency") t)) h

  pub dependency_lists : called (codes "file") t ≡ false → called (codes "dependency") t ≡ true → listing_of t ≡ dependency_listing t (first_assembly t)
  unfolding listing_of
  dependency_lists not_file h = ap (λ (b : Bool). choice b (called (codes "dependency") t)) not_file ∙ ap (choice false) h

  pub other_lists : called (codes "file") t ≡ false → called (codes "dependency") t ≡ false → listing_of t ≡ Ok None
  unfolding listing_of
  other_lists not_file h = ap (λ (b : Bool). choice b (called (codes "dependency") t)) not_file ∙ ap (choice false) h
