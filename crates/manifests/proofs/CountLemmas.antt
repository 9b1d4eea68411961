-- How many files there may be.
use Rattle.std.proofs.Common.{◌≡◌, ℕ, ◌<◌, ◌≤◌, Bool, true, false, List, length, Ok, Err, ap, ◌∙◌, arith}
use Rattle.std.specs.Prelude.{◌&&◌, nat_le, if◌then◌else◌}
use Rattle.std.proofs.lemmas.Bool.Decides.{nat_tests}
use Rattle.small_types.specs.declared.limit.Limit.TheVariants.{Files, Locals}
use Rattle.small_types.specs.declared.limits.TheConstants.{FILE_COUNT_LIMIT, LOCAL_COUNT_LIMIT}
use Rattle.manifest_parts.specs.declared.fault.ManifestFault.TheVariants.{TooMany}
use Rattle.manifest_parts.specs.Elements.{Read}
use Rattle.manifests.specs.declared.facts.FileEntry.{FileEntry}
use Rattle.manifests.specs.Applications.{locals, counted}

le_true : (a b : ℕ) → a ≤ b → nat_le a b ≡ true
le_true a b h = grind (arith, nat_tests)

le_false : (a b : ℕ) → b < a → nat_le a b ≡ false
le_false a b h = grind (arith, nat_tests)

module _ (before : List FileEntry) (entry : FileEntry) where
  abbrev choice : Bool → Bool → Read FileEntry
  choice files data_files = if files then Err (TooMany Files) else if data_files then Err (TooMany Locals) else Ok entry

  abbrev over : Bool
  over = entry.local && nat_le LOCAL_COUNT_LIMIT (locals before)

  pub too_many : FILE_COUNT_LIMIT ≤ length before → counted before entry ≡ Err (TooMany Files)
  unfolding counted
  too_many h = ap (λ (b : Bool). choice b over) (le_true FILE_COUNT_LIMIT (length before) h)

  few : length before < FILE_COUNT_LIMIT → counted before entry ≡ choice false over
  unfolding counted
  few h = ap (λ (b : Bool). choice b over) (le_false FILE_COUNT_LIMIT (length before) h)

  pub too_many_data : length before < FILE_COUNT_LIMIT → entry.local ≡ true → LOCAL_COUNT_LIMIT ≤ locals before → counted before entry ≡ Err (TooMany Locals)
  too_many_data h is most = few h ∙ ap (choice false) (ap (λ (b : Bool). b && nat_le LOCAL_COUNT_LIMIT (locals before)) is ∙ le_true LOCAL_COUNT_LIMIT (locals before) most)

  pub program_fits : length before < FILE_COUNT_LIMIT → entry.local ≡ false → counted before entry ≡ Ok entry
  program_fits h is = few h ∙ ap (choice false) (ap (λ (b : Bool). b && nat_le LOCAL_COUNT_LIMIT (locals before)) is)

  pub data_fits : length before < FILE_COUNT_LIMIT → entry.local ≡ true → locals before < LOCAL_COUNT_LIMIT → counted before entry ≡ Ok entry
  data_fits h is most = few h ∙ ap (choice false) (ap (λ (b : Bool). b && nat_le LOCAL_COUNT_LIMIT (locals before)) is ∙ le_false LOCAL_COUNT_LIMIT (locals before) most)
