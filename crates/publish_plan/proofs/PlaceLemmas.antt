-- Written names are names where they are not too long.
use Rattle.std.proofs.Common.{◌≡◌, ℕ, ◌+◌, ◌<◌, ◌≤◌, ◌^◌, Bool, true, false, cond, not, ◌==◌, ◌&&◌, ◌||◌, nat_lt, nat_le, List, [], ◌∷◌, ◌++◌, length, codes, decimal, refl, sym, ap, subst, ◌∙◌, inl, inr, arith, lit<, append_assoc, length-append}
use Rattle.std.proofs.lemmas.List.{append-nil}
use Rattle.std.specs.Char.{is_ascii_digit}
use Rattle.std.specs.List.{list_all}
use Rattle.std.proofs.lemmas.Bool.{and_parts, and_from, or_left, or_right, ltb-true, leb-true, cases_Bool}
use Rattle.std.proofs.lemmas.Bool.Decides.{nat_tests}
use Rattle.std.proofs.lemmas.Fmt.{digits_decimal}
use Rattle.identity.specs.declared.version.Version.{Version}
use Rattle.identity.specs.Version.{IsVersion}
use Rattle.small_types.proofs.DecimalLemmas.{own}
use Rattle.small_types.specs.Name.{is_name_byte, IsName}
use Rattle.publish_plan.specs.declared.options.Options.{Options}
use Rattle.publish_plan.specs.Paths.{IsPath}
use Rattle.publish_plan.specs.Places.{is_plain_byte, is_plain_name, within, version_word, release_word, version_folder, manifest_end, manifest_name, deploy_end, target_name, deployment_name}
use Rattle.publish_plan.proofs.PathLemmas.{is_plain, IsPlain, plain_joined, plain_path, path_within, path_ended, name_is_path}

word_byte_plain : (b : ℕ) → is_plain_byte b ≡ true → is_plain b ≡ true
word_byte_plain b is = grind (arith, nat_tests)

digit_plain : (b : ℕ) → is_ascii_digit b ≡ true → is_plain b ≡ true
digit_plain b is = grind (arith, nat_tests)

each_also : (p q : ℕ → Bool) → ((b : ℕ) → p b ≡ true → q b ≡ true) → (xs : List ℕ) → list_all p xs ≡ true → list_all q xs ≡ true
each_also p q also [] all = refl
each_also p q also (x ∷ xs) all = let both = and_parts (p x) (list_all p xs) all in and_from _ _ (also x both.0) (each_also p q also xs both.1)

pub word_plain : (word : List ℕ) → is_plain_name word ≡ true → IsPlain word × (0 < length word)
unfolding is_plain_name
word_plain word is =
    let outer = and_parts (nat_lt 0 (length word) && nat_le (length word) 100) (list_all is_plain_byte word) is in
    let lengths = and_parts (nat_lt 0 (length word)) (nat_le (length word) 100) outer.0 in
    (record { each = each_also is_plain_byte is_plain word_byte_plain word outer.1 }, ltb-true 0 (length word) lengths.0)

number_plain : (n : ℕ) → n < 2 ^ 16 → IsPlain (decimal n)
number_plain n small = record { each = each_also is_ascii_digit is_plain digit_plain (decimal n) (digits_decimal own n (omega arith)) }

plain_after : (b : ℕ) (t : List ℕ) → is_plain b ≡ true → IsPlain t → IsPlain (b ∷ t)
plain_after b t is plain = record { each = and_from _ _ is plain.each }

pub version_plain : (v : Version) → IsVersion v → IsPlain (version_word v) × (2 < length (version_word v))
unfolding version_word
version_plain v fits =
    let a = number_plain v.a fits.a in
    let b = number_plain v.b fits.b in
    let c = number_plain v.c fits.c in
    let d = number_plain v.d fits.d in (
      plain_joined _ _ a (plain_after 95 _ refl (plain_joined _ _ b (plain_after 95 _ refl (plain_joined _ _ c (plain_after 95 _ refl d))))),
      simp length-append (omega arith),
    )

pub release_plain : (o : Options) → is_plain_name o.name ≡ true → IsVersion o.version → IsPlain (release_word o) × (2 < length (release_word o))
unfolding release_word
release_plain o word fits =
    let name = word_plain o.name word in
    let version = version_plain o.version fits in
    (plain_joined o.name (95 ∷ version_word o.version) name.0 (plain_after 95 _ refl version.0), omega (arith, length-append o.name (95 ∷ version_word o.version)))

files_path : IsPath (codes "Application Files")
files_path = plain_path (codes "Application Files") (record { each = refl }) (lit< tt)

pub folder_path : (o : Options) → IsName o.to → is_plain_name o.name ≡ true → IsVersion o.version → IsPath (version_folder o)
unfolding version_folder
folder_path o to word fits =
    let release = release_plain o word fits in
    path_within o.to (within (codes "Application Files") (release_word o)) (name_is_path o.to to)
    (path_within (codes "Application Files") (release_word o) files_path (plain_path (release_word o) release.0 release.1))

pub manifest_path : (o : Options) → IsPath (version_folder o) → is_plain_name o.entry ≡ true → IsPath (manifest_name o)
unfolding manifest_name
manifest_path o folder word =
    let end : IsPlain manifest_end = record { each = refl } in
    let plain = plain_joined o.entry manifest_end (word_plain o.entry word).0 end in
    path_within (version_folder o) (o.entry ++ manifest_end) folder
    (plain_path (o.entry ++ manifest_end) plain (omega (arith, length-append o.entry manifest_end)))

pub deployment_path : (o : Options) → IsName o.to → is_plain_name o.name ≡ true → IsPath (deployment_name o)
unfolding deployment_name
deployment_path o to word =
    let end : IsPlain (codes ".application") = record { each = refl } in
    let plain = plain_joined o.name (codes ".application") (word_plain o.name word).0 end in
    path_within o.to (o.name ++ codes ".application") (name_is_path o.to to)
    (plain_path (o.name ++ codes ".application") plain (omega (arith, length-append o.name (codes ".application"))))

-- the end of a written file's name
ended : (mapped : Bool) (file : List ℕ) → IsPath file → IsPath (file ++ deploy_end mapped)
ended true file is = path_ended file (codes ".deploy") is (record { each = refl }) (lit< tt)
ended false file is = subst IsPath (sym (simp append-nil)) is

pub target_path : (o : Options) (file : List ℕ) → IsPath (version_folder o) → IsPath file → IsPath (target_name o file)
unfolding target_name
target_path o file folder is = path_within (version_folder o) (file ++ deploy_end o.mapped) folder (ended o.mapped file is)

-- a written name has bytes
pub within_some : (folder name : List ℕ) → 0 < length (within folder name)
within_some folder name = omega (arith, length-append folder (47 ∷ name))

pub deployment_short : (o : Options) → length (deployment_name o) ≤ length (manifest_name o)
unfolding deployment_name manifest_name version_folder release_word
deployment_short o = simp length-append (omega arith)

pub manifest_is : (o : Options) (folder text : List ℕ) → folder ≡ version_folder o → text ≡ within folder (o.entry ++ manifest_end) → text ≡ manifest_name o
unfolding manifest_name
manifest_is o folder text at_folder is = is ∙ ap (λ (f : List ℕ). within f (o.entry ++ manifest_end)) at_folder

pub folder_is : (o : Options) (release inner text : List ℕ) → release ≡ release_word o → inner ≡ within (codes "Application Files") release → text ≡ within o.to inner → text ≡ version_folder o
unfolding version_folder
folder_is o release inner text at_release at_inner is = is ∙ ap (within o.to) (at_inner ∙ ap (within (codes "Application Files")) at_release)

pub manifest_some : (o : Options) → 0 < length (manifest_name o)
unfolding manifest_name
manifest_some o = within_some (version_folder o) (o.entry ++ manifest_end)

pub deployment_some : (o : Options) → 0 < length (deployment_name o)
unfolding deployment_name
deployment_some o = within_some o.to (o.name ++ codes ".application")
