-- The names of the manifests, as the options make them.
use Rattle.std.proofs.Common.{◌≡◌, ◌+◌, ◌<◌, ◌++◌, ℕ, List, ◌∷◌, refl, ap, arith}
use Rattle.std.specs.Prelude.{codes}
use Rattle.std.proofs.lemmas.Fmt.{decimal_digit}
use Rattle.publish_plan.specs.Places.{deployment_name, manifest_end, manifest_name, release_word, version_folder, version_word, within}
use Rattle.generated_release.specs.declared.release.GeneratedRelease.{GeneratedRelease}
use Rattle.generated_release.specs.declared.release.GeneratedRelease.TheVariants.{One, Two, Three}
use Rattle.generated_release.specs.Options.{application_at, deployment_at, folder_of, name_text, options_of, version_of}

pub deployment_named : (release : GeneratedRelease)
    → deployment_name (options_of release) ≡ deployment_at release
unfolding deployment_name
deployment_named One = refl
deployment_named Two = refl
deployment_named Three = refl

-- the word of a version whose first number has one digit, and whose others are zero
version_named : (n : ℕ) → n < 10
    → version_word (record { a = n; b = 0; c = 0; d = 0 }) ≡ (48 + n) ∷ codes "_0_0_0"
unfolding version_word
version_named n few =
    let first = decimal_digit n few in
    let zero = decimal_digit 0 (omega arith) in
    rw (first, zero) refl

named_by : (release : GeneratedRelease) (word : List ℕ) → version_word (version_of release) ≡ word
    → manifest_name (options_of release)
    ≡ within (within (folder_of release) (within (codes "Application Files")
    (name_text ++ 95 ∷ word))) (codes "f000.txt" ++ manifest_end)
unfolding manifest_name version_folder release_word
named_by release word is =
    ap (λ (w : List ℕ). within (within (folder_of release) (within (codes "Application Files")
    (name_text ++ 95 ∷ w))) (codes "f000.txt" ++ manifest_end)) is

pub application_named : (release : GeneratedRelease)
    → manifest_name (options_of release) ≡ application_at release
application_named One = named_by One (49 ∷ codes "_0_0_0") (version_named 1 (omega arith))
application_named Two = named_by Two (50 ∷ codes "_0_0_0") (version_named 2 (omega arith))
application_named Three = named_by Three (51 ∷ codes "_0_0_0") (version_named 3 (omega arith))
