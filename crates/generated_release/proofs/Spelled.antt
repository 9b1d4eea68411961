-- The names of the generated files and of the manifests are names.
use Rattle.std.proofs.Common.{◌≡◌, ◌+◌, ◌/◌, ◌%◌, ◌<◌, ◌++◌, ℕ, true, List, [], ◌∷◌, codes, refl, arith, lit<, lit≤}
use Rattle.std.specs.List.{list_all}
use Rattle.std.proofs.lemmas.Bool.{and_from, le-leb, lt-ltb, ne_eqb}
use Rattle.std.proofs.lemmas.Str.{IsUtf8-from_ascii, is_utf8-from_IsUtf8}
use Rattle.std.proofs.lemmas.Str.Ascii.{IsAscii-cons, IsAscii-nil}
use Rattle.small_types.specs.Name.{IsName}
use Rattle.publish_plan.specs.Paths.{IsPath}
use Rattle.publish_plan.specs.Places.{within}
use Rattle.publish_plan.proofs.PathLemmas.{IsPlain, is_plain, path_from, path_is_name, path_within, plain_path}
use Rattle.generated_release.specs.declared.release.GeneratedRelease.{GeneratedRelease}
use Rattle.generated_release.specs.declared.release.GeneratedRelease.TheVariants.{One, Two, Three}
use Rattle.generated_release.specs.Files.{file_name}
use Rattle.generated_release.specs.Options.{application_at, deployment_at, folder_of}

digit_plain : (d : ℕ) → d < 10 → is_plain (48 + d) ≡ true
digit_plain d few =
    rw (le-leb 32 (48 + d) (omega arith), ne_eqb (48 + d) 127 (λ e. omega arith), ne_eqb (48 + d) 58 (λ e. omega arith), ne_eqb (48 + d) 92 (λ e. omega arith), ne_eqb (48 + d) 47 (λ e. omega arith), lt-ltb (48 + d) 128 (omega arith)) refl

file_plain : (n : ℕ) → n < 1000 → IsPlain (file_name n)
file_plain n few =
    let end = codes ".txt" in
    let third = and_from (is_plain (48 + n % 10)) (list_all is_plain end) (digit_plain (n % 10) (omega arith)) refl in
    let second = and_from (is_plain (48 + n / 10 % 10)) (list_all is_plain ((48 + n % 10) ∷ end)) (digit_plain (n / 10 % 10) (omega arith)) third in
    let first = and_from (is_plain (48 + n / 100)) (list_all is_plain ((48 + n / 10 % 10) ∷ (48 + n % 10) ∷ end)) (digit_plain (n / 100) (omega arith)) second in
    record { each = first }

in_path : IsPath (codes "in")
in_path = path_from (codes "in") (record {
  bytes = refl;
  parts = refl;
  utf8 = is_utf8-from_IsUtf8 (codes "in") (IsUtf8-from_ascii (codes "in") (IsAscii-cons 105 (codes "n") (lit< tt) (IsAscii-cons 110 [] (lit< tt) IsAscii-nil)));
})

-- ---- names

pub in_named : IsName (codes "in")
in_named = path_is_name (codes "in") in_path (lit< tt) (lit≤ tt)

-- an input file
pub input_named : (n : ℕ) → n < 1000 → IsName (codes "in/" ++ file_name n)
input_named n few =
    path_is_name (codes "in/" ++ file_name n)
    (path_within (codes "in") (file_name n) in_path (plain_path (file_name n) (file_plain n few) (lit< tt)))
    (lit< tt) (lit≤ tt)

pub entry_named : IsName (codes "f000.txt")
entry_named = path_is_name (codes "f000.txt") (plain_path (codes "f000.txt") (record { each = refl }) (lit< tt)) (lit< tt) (lit≤ tt)

folder_path : (release : GeneratedRelease) → IsPath (folder_of release)
folder_path One = plain_path (codes "one") (record { each = refl }) (lit< tt)
folder_path Two = plain_path (codes "two") (record { each = refl }) (lit< tt)
folder_path Three = plain_path (codes "three") (record { each = refl }) (lit< tt)

pub folder_named : (release : GeneratedRelease) → IsName (folder_of release)
folder_named One = path_is_name (codes "one") (folder_path One) (lit< tt) (lit≤ tt)
folder_named Two = path_is_name (codes "two") (folder_path Two) (lit< tt) (lit≤ tt)
folder_named Three = path_is_name (codes "three") (folder_path Three) (lit< tt) (lit≤ tt)

deployment_path : (release : GeneratedRelease) → IsPath (within (folder_of release) (codes "demo.application"))
deployment_path release =
    path_within (folder_of release) (codes "demo.application") (folder_path release)
    (plain_path (codes "demo.application") (record { each = refl }) (lit< tt))

-- the deployment manifest
pub deployment_spelled : (release : GeneratedRelease) → IsName (deployment_at release)
deployment_spelled One = path_is_name (deployment_at One) (deployment_path One) (lit< tt) (lit≤ tt)
deployment_spelled Two = path_is_name (deployment_at Two) (deployment_path Two) (lit< tt) (lit≤ tt)
deployment_spelled Three = path_is_name (deployment_at Three) (deployment_path Three) (lit< tt) (lit≤ tt)

application_path : (release : GeneratedRelease) (word : List ℕ) → IsPath word
    → IsPath (within (folder_of release) (within (codes "Application Files") (within word (codes "f000.txt.manifest"))))
application_path release word is =
    path_within (folder_of release) (within (codes "Application Files") (within word (codes "f000.txt.manifest"))) (folder_path release)
    (path_within (codes "Application Files") (within word (codes "f000.txt.manifest"))
    (plain_path (codes "Application Files") (record { each = refl }) (lit< tt))
    (path_within word (codes "f000.txt.manifest") is (plain_path (codes "f000.txt.manifest") (record { each = refl }) (lit< tt))))

-- the application manifest
pub application_spelled : (release : GeneratedRelease) → IsName (application_at release)
application_spelled One =
    path_is_name (application_at One) (application_path One (codes "demo_1_0_0_0") (plain_path (codes "demo_1_0_0_0") (record { each = refl }) (lit< tt))) (lit< tt) (lit≤ tt)
application_spelled Two =
    path_is_name (application_at Two) (application_path Two (codes "demo_2_0_0_0") (plain_path (codes "demo_2_0_0_0") (record { each = refl }) (lit< tt))) (lit< tt) (lit≤ tt)
application_spelled Three =
    path_is_name (application_at Three) (application_path Three (codes "demo_3_0_0_0") (plain_path (codes "demo_3_0_0_0") (record { each = refl }) (lit< tt))) (lit< tt) (lit≤ tt)
