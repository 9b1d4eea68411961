-- From other addresses the way leads elsewhere.
use Rattle.std.proofs.Common.{◌≡◌, ℕ, true, cond, not, ◌&&◌, ◌==◌, inl, inr, List, [], ◌∷◌, ◌++◌, length, get_or, drop, drop_at, Option, Some, All, refl, sym, ap, subst, ◌∙◌, append_assoc, arith}
use Rattle.std.specs.Prelude.{codes, unwrap_or}
use Rattle.std.specs.List.{list_all}
use Rattle.std.proofs.lemmas.Bool.{and_from}
use Rattle.std.proofs.lemmas.Bool.Decides.{nat_tests}
use Rattle.std.proofs.lemmas.List.{length-append}
use Rattle.std.proofs.lemmas.List.Elements.{All-head, All-tail}
use Rattle.percent_encoding.specs.Percent.{percent_encode, percent_decode}
use Rattle.url.specs.declared.sets.TheConstants.{PATH}
use Rattle.url.specs.declared.scheme.SchemeType.TheVariants.{SpecialNotFile}
use Rattle.url.specs.Input.{rsplit_once}
use Rattle.url.specs.Path.{parse_path}
use Rattle.url.specs.Parts.{Parts}
use Rattle.url.proofs.InputLemmas.{IsNot, rsplit_once_at}
use Rattle.small_types.specs.declared.target.Target.{Target}
use Rattle.small_types.specs.Name.{name_text}
use Rattle.addresses.specs.Address.{query_text}
use Rattle.http_plain.specs.Path.{name_in_path, without_query}
use Rattle.publish_plan.specs.declared.options.Options.{Options}
use Rattle.publish_plan.specs.Places.{codebase, deployment_name, manifest_end, manifest_name, release_word, version_folder}
use Rattle.published_paths.specs.Reached.{IsPublishable, OthersMiss, ends_whole, last_part}
use Rattle.published_paths.proofs.PathEscapes.{named_back, query_cut}
use Rattle.published_paths.proofs.Beside.{IsAddressOf, IsJoined, app_joined, text_target}
use Rattle.published_paths.proofs.References.{codebase_reference, folder_bytes, manifest_bytes, release_bytes}
use Rattle.published_paths.proofs.Names.{begins, codebase_path, cut_at_last, decoded_name, deployment_bytes, folder, path_no_query, same_fronts, target_path, version_path, word_named, words_no_slash}

-- what an address is read as is what its path spells
spelled_back : (target : Target) (url : Parts) (rest name : List ℕ) → IsAddressOf target url → url.path ≡ 47 ∷ rest → name_in_path target.path ≡ Some name → name_text (percent_decode rest) ≡ name
spelled_back target url rest name of path named =
    let none = All-tail (IsNot 63) 47 rest (subst (All (IsNot 63)) path (path_no_query url.path of.sound.path)) in
    (named_back rest name url.query none (ap name_in_path (sym (target_path target url of ∙ ap (λ (p : List ℕ). p ++ query_text url.query) path)) ∙ named)).0

-- a text without slashes has no separators
no_separator : (bytes : List ℕ) → All (IsNot 47) (name_text bytes) → list_all (λ b. not (b == 47) && not (b == 92)) bytes ≡ true
no_separator [] none = refl
no_separator (b ∷ bytes) none =
    let first = All-head (IsNot 47) (cond (b == 92) 47 b) (name_text bytes) none in
    and_from _ _ (grind (arith, nat_tests)) (no_separator bytes (All-tail (IsNot 47) (cond (b == 92) 47 b) (name_text bytes) none))

-- the name of the application manifest, without its folder
abbrev behind : Options → List ℕ
behind o = folder ++ 47 ∷ release_word o

-- two folders in which the manifest has one name are one
same_folders : (o : Options) (other : List ℕ) → IsPublishable o → ((other ++ 47 ∷ folder) ++ 47 ∷ release_word o) ++ 47 ∷ (o.entry ++ manifest_end) ≡ manifest_name o → other ≡ o.to
unfolding manifest_name version_folder
same_folders o other is same =
    let last = words_no_slash (o.entry ++ manifest_end) (manifest_bytes o is) in
    let release = words_no_slash (release_word o) (release_bytes o is) in
    let inner = words_no_slash folder folder_bytes in
    let first = same_fronts ((other ++ 47 ∷ folder) ++ 47 ∷ release_word o) (o.entry ++ manifest_end) (o.to ++ 47 ∷ behind o) (o.entry ++ manifest_end) last last same in
    let second = same_fronts (other ++ 47 ∷ folder) (release_word o) (o.to ++ 47 ∷ folder) (release_word o) release release (first ∙ sym (append_assoc o.to (47 ∷ folder) (47 ∷ release_word o))) in
    same_fronts other folder o.to folder inner inner second

-- and it has that name in no folder at all
no_folder : (o : Options) → IsPublishable o → ¬ ((folder ++ 47 ∷ release_word o) ++ 47 ∷ (o.entry ++ manifest_end) ≡ manifest_name o)
unfolding manifest_name version_folder
no_folder o is same =
    let longer = length-append o.to (47 ∷ behind o) in
    let last = words_no_slash (o.entry ++ manifest_end) (manifest_bytes o is) in
    let first = ap length (same_fronts (folder ++ 47 ∷ release_word o) (o.entry ++ manifest_end) (o.to ++ 47 ∷ behind o) (o.entry ++ manifest_end) last last same) in
    omega (arith, first, longer)

folder_named : (o : Options) → IsPublishable o → name_text (percent_decode ((percent_encode PATH folder ++ 47 ∷ percent_encode PATH (release_word o)) ++ 47 ∷ percent_encode PATH (o.entry ++ manifest_end))) ≡ (folder ++ 47 ∷ release_word o) ++ 47 ∷ (o.entry ++ manifest_end)
folder_named o is =
    decoded_name (percent_encode PATH folder ++ 47 ∷ percent_encode PATH (release_word o)) (percent_encode PATH (o.entry ++ manifest_end))
    ∙ (λ i. decoded_name (percent_encode PATH folder) (percent_encode PATH (release_word o)) i ++ 47 ∷ word_named (o.entry ++ manifest_end) (manifest_bytes o is) i)
    ∙ (λ i. (word_named folder folder_bytes i ++ 47 ∷ word_named (release_word o) (release_bytes o is) i) ++ 47 ∷ (o.entry ++ manifest_end))

front_named : (o : Options) (front : List ℕ) → IsPublishable o → name_text (percent_decode (version_path o front ++ 47 ∷ percent_encode PATH (o.entry ++ manifest_end))) ≡ ((name_text (percent_decode front) ++ 47 ∷ folder) ++ 47 ∷ release_word o) ++ 47 ∷ (o.entry ++ manifest_end)
front_named o front is =
    decoded_name (version_path o front) (percent_encode PATH (o.entry ++ manifest_end))
    ∙ (λ i. decoded_name (front ++ 47 ∷ percent_encode PATH folder) (percent_encode PATH (release_word o)) i ++ 47 ∷ word_named (o.entry ++ manifest_end) (manifest_bytes o is) i)
    ∙ (λ i. (decoded_name front (percent_encode PATH folder) i ++ 47 ∷ word_named (release_word o) (release_bytes o is) i) ++ 47 ∷ (o.entry ++ manifest_end))
    ∙ (λ i. ((name_text (percent_decode front) ++ 47 ∷ word_named folder folder_bytes i) ++ 47 ∷ release_word o) ++ 47 ∷ (o.entry ++ manifest_end))

-- the part behind the last slash of an address
abbrev Ends : List ℕ → Type 0
Ends back = list_all (λ b. not (b == 47) && not (b == 92)) (percent_decode back) ≡ true

back_ends : (o : Options) (rest front back last : List ℕ) → rest ≡ front ++ 47 ∷ back → name_text (percent_decode front) ≡ o.to → name_text (percent_decode rest) ≡ o.to ++ 47 ∷ last → All (IsNot 47) last → Ends back
back_ends o rest front back last joined there named none =
    let whole : o.to ++ 47 ∷ name_text (percent_decode back) ≡ o.to ++ 47 ∷ last = sym (decoded_name front back ∙ ap (λ (t : List ℕ). t ++ 47 ∷ name_text (percent_decode back)) there) ∙ ap (λ (t : List ℕ). name_text (percent_decode t)) (sym joined) ∙ named in
    let same : 47 ∷ name_text (percent_decode back) ≡ 47 ∷ last = sym (drop_at o.to (47 ∷ name_text (percent_decode back)) _ refl) ∙ ap (drop (length o.to)) whole ∙ drop_at o.to (47 ∷ last) _ refl in
    no_separator (percent_decode back) (subst (All (IsNot 47)) (ap (drop 1) (sym same)) none)

ends_by : (o : Options) (path rest front back last : List ℕ) (base : Target) (url : Parts) → IsPublishable o → path ≡ 47 ∷ rest → path ≡ front ++ 47 ∷ back → name_text (percent_decode rest) ≡ o.to ++ 47 ∷ last → All (IsNot 47) last
    → IsAddressOf base url → url.path ≡ version_path o front ++ 47 ∷ percent_encode PATH (o.entry ++ manifest_end) → name_in_path base.path ≡ Some (manifest_name o) → Ends back
ends_by o path rest [] back last base url is begins joined named none of there missed =
    absurd (no_folder o is (sym (folder_named o is) ∙ spelled_back base url ((percent_encode PATH folder ++ 47 ∷ percent_encode PATH (release_word o)) ++ 47 ∷ percent_encode PATH (o.entry ++ manifest_end)) (manifest_name o) of there missed))
ends_by o path rest (x ∷ front) back last base url is begins joined named none of there missed =
    let slash : x ≡ 47 = ap (λ (t : List ℕ). get_or t 0 0) (sym joined ∙ begins) in
    let path_is = there ∙ ap (λ (v : ℕ). v ∷ (version_path o front ++ 47 ∷ percent_encode PATH (o.entry ++ manifest_end))) slash in
    let found = sym (front_named o front is) ∙ spelled_back base url (version_path o front ++ 47 ∷ percent_encode PATH (o.entry ++ manifest_end)) (manifest_name o) of path_is missed in
    back_ends o rest front back last (ap (drop 1) (sym begins ∙ joined)) (same_folders o (name_text (percent_decode front)) is found) named none

joined_path : (o : Options) (front back : List ℕ) (path : List ℕ) (base : Target) → IsPublishable o → path ≡ front ++ 47 ∷ back → All (IsNot 47) back → (joined : IsJoined base path (codebase o)) → joined.url.path ≡ version_path o front ++ 47 ∷ percent_encode PATH (o.entry ++ manifest_end)
joined_path o front back path base is split none joined =
    joined.path ∙ ap (λ (p : List ℕ). parse_path SpecialNotFile p (codebase o)) (ap (λ (p : List ℕ). unwrap_or (rsplit_once 47 p).0 []) split ∙ ap (λ (r : Option (List ℕ) × List ℕ). unwrap_or r.0 []) (rsplit_once_at 47 front back none)) ∙ codebase_path o front is

given_ends : (o : Options) (given base : Target) (url : Parts) → IsPublishable o → IsAddressOf given url → name_in_path given.path ≡ Some (deployment_name o) → IsJoined base url.path (codebase o) → name_in_path base.path ≡ Some (manifest_name o) → ends_whole given.path ≡ true
unfolding deployment_name
given_ends o given base url is of named joined missed =
    let first = begins url.path of.sound.path in
    let none = path_no_query url.path of.sound.path in
    let last = words_no_slash (o.name ++ codes ".application") (deployment_bytes o is) in
    elim (cut_at_last url.path) [
      | inl no_slash ↦ absurd (All-head (IsNot 47) 47 first.0 (subst (All (IsNot 47)) first.1 no_slash) refl)
      | inr cut ↦
          let part : last_part given.path ≡ cut.back = ap (λ (p : List ℕ). (rsplit_once 47 (without_query p)).1) (target_path given url of) ∙ ap (λ (p : List ℕ). (rsplit_once 47 p).1) (query_cut url.path url.query none ∙ cut.joined) ∙ ap (λ (r : Option (List ℕ) × List ℕ). r.1) (rsplit_once_at 47 cut.front cut.back cut.last) in
          let spelled = spelled_back given url first.0 (o.to ++ 47 ∷ (o.name ++ codes ".application")) of first.1 named in
          ap (λ (p : List ℕ). list_all (λ b. not (b == 47) && not (b == 92)) (percent_decode p)) part
          ∙ ends_by o url.path first.0 cut.front cut.back (o.name ++ codes ".application") base joined.url is first.1 cut.joined spelled last joined.at (joined_path o cut.front cut.back url.path base is cut.joined cut.last joined) missed
    ]

pub others_miss : OthersMiss
others_miss o text given base is read named joined missed =
    let known = text_target text given read in
    given_ends o given base known.0 is known.1 named (app_joined given base known.0 (codebase o) known.1 (codebase_reference o is) joined) missed
