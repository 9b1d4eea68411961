-- The names that the paths of a release are read as.
use Rattle.std.proofs.Common.{◌≡◌, ◌≢◌, ℕ, ◌<◌, eqb-true, drop, true, false, cond, not, ◌&&◌, ◌==◌, ◌⊎◌, inl, inr, List, [], ◌∷◌, ◌++◌, length, get_or, Option, Some, All, refl, sym, ap, subst, ◌∙◌, append_assoc, arith}
use Rattle.std.specs.Prelude.{codes, unwrap_or}
use Rattle.std.specs.List.{list_all, onto_first}
use Rattle.std.specs.Str.{is_utf8}
use Rattle.std.proofs.lemmas.Bool.{cond-false, cases_Bool, both_ways, and_parts, ne_eqb, eq-eqb}
use Rattle.std.proofs.lemmas.Bool.Decides.{nat_tests}
use Rattle.std.proofs.lemmas.List.Elements.{All-nil, All-cons, All-head, All-tail, All-weaker}
use Rattle.std.proofs.lemmas.List.Folds.{list_all-append}
use Rattle.std.proofs.lemmas.List.Splits.{slice_split_none, length-slice_split}
use Rattle.std.proofs.lemmas.Str.{IsUtf8-from_is_utf8}
use Rattle.percent_encoding.specs.Percent.{IsKept, percent_encode, percent_decode}
use Rattle.percent_encoding.proofs.PercentLemmas.{IsByte, EscapesPercent, percent_decode-percent_encode}
use Rattle.url.specs.declared.sets.TheConstants.{PATH}
use Rattle.url.specs.declared.scheme.SchemeType.TheVariants.{SpecialNotFile}
use Rattle.url.specs.Input.{rsplit_once}
use Rattle.url.specs.Path.{without_last_segment, parse_path}
use Rattle.url.specs.Parts.{Parts}
use Rattle.url.proofs.InputLemmas.{IsNot, Passes, rsplit_once_at, All_from_list_all, map_fixed}
use Rattle.url.proofs.SetLemmas.{All_kept_differs}
use Rattle.url.proofs.ValidLemmas.{segment_list_kept}
use Rattle.url.specs.Scheme.{is_slash}
use Rattle.url.proofs.PathLemmas.{IsNoSlash, encoded_no_slash, rooted}
use Rattle.small_types.specs.declared.target.Target.{Target}
use Rattle.small_types.specs.Name.{IsName, is_name, is_name_byte, is_name_part, name_parts, name_text}
use Rattle.identity.specs.Key.{word_text}
use Rattle.identity.proofs.KeyLemmas.{bytes_of_text, word_again}
use Rattle.addresses.specs.Address.{address, query_text}
use Rattle.http_plain.specs.Path.{name_in_path, without_query}
use Rattle.publish_plan.specs.declared.options.Options.{Options}
use Rattle.publish_plan.specs.Places.{is_plain_byte, codebase, deploy_end, deployment_name, manifest_end, manifest_name, release_word, target_name, version_folder}
use Rattle.published_paths.specs.Reached.{IsPublishable, Reaches, FilesAreReached, PublishedIsReached, last_part}
use Rattle.published_paths.proofs.Sound.{IsPath}
use Rattle.published_paths.proofs.PathEscapes.{decode_joined, name_joined, named_back, path_named, query_cut}
use Rattle.published_paths.proofs.Paths.{IsFree, name_parsed, three_parsed}
use Rattle.published_paths.proofs.Beside.{IsAddressOf, IsJoined, app_joined, file_joined, text_target}
use Rattle.published_paths.proofs.References.{IsPlainByte, codebase_reference, ending_bytes, file_word, folder_bytes, manifest_bytes, release_bytes, word_byte, word_bytes, word_free, word_reference}

-- ---- the parts of a name

onto_more : (b : ℕ) (parts others : List (List ℕ)) → 0 < length parts → onto_first b (parts ++ others) ≡ onto_first b parts ++ others
onto_more b [] others some = absurd (omega arith)
onto_more b (part ∷ parts) others some = refl

parts_joined : (xs ys : List ℕ) → name_parts (xs ++ 47 ∷ ys) ≡ name_parts xs ++ name_parts ys
parts_joined [] ys = refl
parts_joined (x ∷ xs) ys =
    let rest = parts_joined xs ys in
    let count = length-slice_split (λ b. b == 47) xs in
    elim (cases_Bool (x == 47)) [
      | inl slash ↦ rw (slash, rest) refl
      | inr other ↦ rw (other, rest) (onto_more x (name_parts xs) (name_parts ys) (omega arith))
    ]

-- the parts on both sides of a slash are those of a name
parts_both : (xs ys : List ℕ) → list_all is_name_part (name_parts (xs ++ 47 ∷ ys)) ≡ true → (list_all is_name_part (name_parts xs) ≡ true) × (list_all is_name_part (name_parts ys) ≡ true)
parts_both xs ys are =
    and_parts _ _ (sym (list_all-append is_name_part (name_parts xs) (name_parts ys)) ∙ ap (list_all is_name_part) (sym (parts_joined xs ys)) ∙ are)

part_alone : (part : List ℕ) → All (IsNot 47) part → list_all is_name_part (name_parts part) ≡ true → is_name_part part ≡ true
part_alone part none are =
    let one = slice_split_none (λ b. b == 47) part (All-weaker (IsNot 47) (λ b. (b == 47) ≡ false) (λ b other. ne_eqb b 47 other) part none) in
    (and_parts (is_name_part part) true (ap (list_all is_name_part) (sym one) ∙ are)).0

-- what a name has
pub record HasName (name : List ℕ) : Type 0 where
  pub bytes : All IsByte name
  pub fit : All (Passes is_name_byte) name
  pub parts : list_all is_name_part (name_parts name) ≡ true

pub name_has : (name : List ℕ) → IsName name → HasName name
unfolding is_name
name_has name is =
    let all = and_parts _ (is_utf8 name) is in
    let parts = and_parts _ (list_all is_name_part (name_parts name)) all.0 in
    let bytes = and_parts _ (list_all is_name_byte name) parts.0 in
    record {
      bytes = bytes_of_text name (IsUtf8-from_is_utf8 name all.1);
      fit = All_from_list_all is_name_byte name bytes.1;
      parts = parts.1;
    }

-- no byte of a name is a backslash
pub fit_plain : (name : List ℕ) → All (Passes is_name_byte) name → name_text name ≡ name
fit_plain name fit = map_fixed _ name (All-weaker (Passes is_name_byte) (λ b. cond (b == 92) 47 b ≡ b) (λ b passes. grind (arith, nat_tests)) name fit)

pub all_behind : (P : ℕ → Type 0) (xs ys : List ℕ) → All P (xs ++ ys) → All P ys
all_behind P [] ys all = all
all_behind P (x ∷ xs) ys all = all_behind P xs ys (All-tail P x (xs ++ ys) all)

-- ---- the last slash

after_slash : (xs ys : List ℕ) → ¬ (All (IsNot 47) (xs ++ 47 ∷ ys))
after_slash [] ys all = All-head (IsNot 47) 47 ys all refl
after_slash (x ∷ xs) ys all = after_slash xs ys (All-tail (IsNot 47) x (xs ++ 47 ∷ ys) all)

-- what stands before and behind the last slash
pub record Cut (path : List ℕ) : Type 0 where
  pub front : List ℕ
  pub back : List ℕ
  pub joined : path ≡ front ++ 47 ∷ back
  pub last : All (IsNot 47) back

pub cut_at_last : (path : List ℕ) → All (IsNot 47) path ⊎ Cut path
cut_at_last [] = inl (All-nil (IsNot 47))
cut_at_last (b ∷ path) =
    elim (cut_at_last path) [
      | inr cut ↦ inr (record { front = b ∷ cut.front; back = cut.back; joined = ap (λ (t : List ℕ). b ∷ t) cut.joined; last = cut.last })
      | inl none ↦ elim (cases_Bool (b == 47)) [
        | inl slash ↦ inr (record { front = []; back = path; joined = ap (λ (x : ℕ). x ∷ path) (eqb-true b 47 slash); last = none })
        | inr other ↦ inl (All-cons (IsNot 47) b path (λ same. both_ways _ other (eq-eqb b 47 same)) none)
      ]
    ]

-- two texts with one last slash have one front
pub same_fronts : (a b c d : List ℕ) → All (IsNot 47) b → All (IsNot 47) d → a ++ 47 ∷ b ≡ c ++ 47 ∷ d → a ≡ c
same_fronts a b c d none other same =
    ap (λ (r : Option (List ℕ) × List ℕ). unwrap_or r.0 []) (sym (rsplit_once_at 47 a b none) ∙ ap (rsplit_once 47) same ∙ rsplit_once_at 47 c d other)

-- ---- the folder of a path

-- the part of the path before its last slash is read as this folder
pub record LiesIn (path folder : List ℕ) : Type 0 where
  pub front : List ℕ
  pub short : without_last_segment path ≡ 47 ∷ front
  pub named : name_text (percent_decode front) ≡ folder

lies : (front back folder : List ℕ) → All (IsNot 47) back → name_text (percent_decode front) ≡ folder → LiesIn ((47 ∷ front) ++ 47 ∷ back) folder
lies front back folder none named = record {
  front = front;
  short = ap (λ (r : Option (List ℕ) × List ℕ). unwrap_or r.0 []) (rsplit_once_at 47 (47 ∷ front) back none);
  named = named;
}

no_separators : (bytes : List ℕ) → list_all (λ b. not (b == 47) && not (b == 92)) bytes ≡ true → All (IsNot 47) (name_text bytes)
no_separators [] are = All-nil (IsNot 47)
no_separators (b ∷ bytes) are =
    let known = and_parts (not (b == 47) && not (b == 92)) _ are in
    let first = known.0 in
    All-cons (IsNot 47) (cond (b == 92) 47 b) (name_text bytes) (λ same. grind (arith, nat_tests)) (no_separators bytes known.1)

pub decoded_name : (front back : List ℕ) → name_text (percent_decode (front ++ 47 ∷ back)) ≡ name_text (percent_decode front) ++ 47 ∷ name_text (percent_decode back)
decoded_name front back = ap name_text (decode_joined front back) ∙ name_joined (percent_decode front) (percent_decode back)

-- a path that is read so, and whose last part has no other slash
cut_lies : (path rest front back folder last : List ℕ) → path ≡ 47 ∷ rest → path ≡ front ++ 47 ∷ back → All (IsNot 47) back → All (IsNot 47) (name_text (percent_decode back)) → All (IsNot 47) last → name_text (percent_decode rest) ≡ folder ++ 47 ∷ last → LiesIn path folder
cut_lies path rest [] back folder last begins joined none whole other named =
    let same : rest ≡ back = ap (drop 1) (sym begins ∙ joined) in
    absurd (after_slash folder last (subst (All (IsNot 47)) (ap (λ (t : List ℕ). name_text (percent_decode t)) (sym same) ∙ named) whole))
cut_lies path rest (x ∷ front) back folder last begins joined none whole other named =
    let slash : x ≡ 47 = ap (λ (t : List ℕ). get_or t 0 0) (sym joined ∙ begins) in
    let same : rest ≡ front ++ 47 ∷ back = ap (drop 1) (sym begins ∙ joined) in
    let split : name_text (percent_decode front) ++ 47 ∷ name_text (percent_decode back) ≡ folder ++ 47 ∷ last = sym (decoded_name front back) ∙ ap (λ (t : List ℕ). name_text (percent_decode t)) (sym same) ∙ named in
    let fronts = same_fronts (name_text (percent_decode front)) (name_text (percent_decode back)) folder last whole other split in
    subst (λ (p : List ℕ). LiesIn p folder) (sym (joined ∙ ap (λ (v : ℕ). v ∷ (front ++ 47 ∷ back)) slash)) (lies front back folder none fronts)

-- ---- an address and its name

pub path_no_query : (path : List ℕ) → IsPath path → All (IsNot 63) path
path_no_query path is = All_kept_differs PATH 63 refl path (segment_list_kept SpecialNotFile path is.0)

-- a path begins with a slash
begins_of : (path : List ℕ) → (path ≡ []) ⊎ (get_or path 0 0 ≡ 47) → 0 < length path → (rest : List ℕ) × (path ≡ 47 ∷ rest)
begins_of [] root some = absurd (omega arith)
begins_of (x ∷ xs) (inl none) some = absurd cc
begins_of (x ∷ xs) (inr slash) some = (xs, ap (λ (v : ℕ). v ∷ xs) slash)

pub begins : (path : List ℕ) → IsPath path → (rest : List ℕ) × (path ≡ 47 ∷ rest)
begins path is = begins_of path (rooted SpecialNotFile path is.0) is.1

pub target_path : (target : Target) (url : Parts) → IsAddressOf target url → target.path ≡ url.path ++ query_text url.query
unfolding address
target_path target url of = ap (λ (t : Target). t.path) of.is

-- an address whose path spells the name
pub address_named : (target : Target) (url : Parts) (rest name : List ℕ) → IsAddressOf target url → url.path ≡ 47 ∷ rest → name_text (percent_decode rest) ≡ name → IsName name → name_in_path target.path ≡ Some name
address_named target url rest name of begins spelled is =
    let none = All-tail (IsNot 63) 47 rest (subst (All (IsNot 63)) begins (path_no_query url.path of.sound.path)) in
    ap name_in_path (target_path target url of ∙ ap (λ (p : List ℕ). p ++ query_text url.query) begins) ∙ path_named rest name url.query none spelled is

-- an address that reaches a name lies in its folder
pub reached_lies : (target : Target) (url : Parts) (folder last : List ℕ) → IsAddressOf target url → All (IsNot 47) last → Reaches target (folder ++ 47 ∷ last) → LiesIn url.path folder
reached_lies target url folder last of other reaches =
    let first = begins url.path of.sound.path in
    let none = path_no_query url.path of.sound.path in
    let path = target_path target url of in
    let spelled = ap (λ (p : List ℕ). p ++ query_text url.query) first.1 in
    let named = (named_back first.0 (folder ++ 47 ∷ last) url.query (All-tail (IsNot 63) 47 first.0 (subst (All (IsNot 63)) first.1 none)) (ap name_in_path (sym (path ∙ spelled)) ∙ reaches.named)).0 in
    elim (cut_at_last url.path) [
      | inl no_slash ↦ absurd (All-head (IsNot 47) 47 first.0 (subst (All (IsNot 47)) first.1 no_slash) refl)
      | inr cut ↦
          let part : last_part target.path ≡ cut.back = ap (λ (p : List ℕ). (rsplit_once 47 (without_query p)).1) path ∙ ap (λ (p : List ℕ). (rsplit_once 47 p).1) (query_cut url.path url.query none ∙ cut.joined) ∙ ap (λ (r : Option (List ℕ) × List ℕ). r.1) (rsplit_once_at 47 cut.front cut.back cut.last) in
          let whole = no_separators (percent_decode cut.back) (ap (λ (p : List ℕ). list_all (λ b. not (b == 47) && not (b == 92)) (percent_decode p)) (sym part) ∙ reaches.whole) in
          cut_lies url.path first.0 cut.front cut.back folder last first.1 cut.joined cut.last whole other named
    ]

-- ---- the words of a release

word_not : (mark : ℕ) → is_plain_byte mark ≡ false → (b : ℕ) → IsPlainByte b → b ≢ mark
word_not mark never b is same = both_ways _ never (rw same at is)

pub words_free : (word : List ℕ) → All IsPlainByte word → All IsFree word
words_free word = All-weaker IsPlainByte IsFree word_free word

pub words_no_slash : (word : List ℕ) → All IsPlainByte word → All (IsNot 47) word
words_no_slash word = All-weaker IsPlainByte (IsNot 47) (word_not 47 refl) word

word_decoded : (word : List ℕ) → All IsPlainByte word → percent_decode (percent_encode PATH word) ≡ word
word_decoded word are =
    percent_decode-percent_encode PATH word (All-weaker IsPlainByte IsByte word_byte word are)
    (All-weaker IsPlainByte (EscapesPercent PATH) (λ b is percent. absurd (word_not 37 refl b is percent)) word are)

pub word_named : (word : List ℕ) → All IsPlainByte word → name_text (percent_decode (percent_encode PATH word)) ≡ word
word_named word are =
    ap name_text (word_decoded word are) ∙ map_fixed _ word (All-weaker IsPlainByte (λ b. cond (b == 92) 47 b ≡ b) (λ b is. cond-false _ _ _ (ne_eqb b 92 (word_not 92 refl b is))) word are)

-- what is escaped for a path has no slash that was none
pub encoded_whole : (word : List ℕ) → All IsPlainByte word → All (IsNot 47) (percent_encode PATH word)
encoded_whole word are =
    All-weaker (IsNoSlash SpecialNotFile) (IsNot 47) (λ b none same. both_ways (is_slash SpecialNotFile 47) (ap (is_slash SpecialNotFile) (sym same) ∙ none) refl)
    (percent_encode PATH word) (encoded_no_slash SpecialNotFile PATH word (All-weaker IsFree (λ b. IsKept PATH b → IsNoSlash SpecialNotFile b) (λ b free kept. free.1) word (words_free word are)))

-- ---- the application manifest

abbrev pub folder : List ℕ
folder = codes "Application Files"

-- what is known of the last parts of the written names
pub record HasParts (o : Options) : Type 0 where
  pub release : is_name_part (release_word o) ≡ true
  pub manifest : is_name_part (o.entry ++ manifest_end) ≡ true

pub parts_of : (o : Options) → IsPublishable o → HasParts o
unfolding manifest_name version_folder
parts_of o is =
    let all = (name_has (manifest_name o) is.manifest).parts in
    let last = parts_both (version_folder o) (o.entry ++ manifest_end) all in
    let inner = parts_both o.to (folder ++ 47 ∷ release_word o) last.0 in
    let release = parts_both folder (release_word o) inner.1 in
    record {
      release = part_alone (release_word o) (words_no_slash (release_word o) (release_bytes o is)) release.1;
      manifest = part_alone (o.entry ++ manifest_end) (words_no_slash (o.entry ++ manifest_end) (manifest_bytes o is)) last.1;
    }

-- the folder of the version, escaped, behind this path
abbrev pub version_path : Options → List ℕ → List ℕ
version_path o front = (front ++ 47 ∷ percent_encode PATH folder) ++ 47 ∷ percent_encode PATH (release_word o)

pub codebase_path : (o : Options) (front : List ℕ) → IsPublishable o → parse_path SpecialNotFile front (codebase o) ≡ version_path o front ++ 47 ∷ percent_encode PATH (o.entry ++ manifest_end)
unfolding codebase
codebase_path o front is =
    let parts = parts_of o is in
    three_parsed front folder (release_word o) (o.entry ++ manifest_end) (words_free folder folder_bytes) (words_free (release_word o) (release_bytes o is)) (words_free (o.entry ++ manifest_end) (manifest_bytes o is)) refl parts.release parts.manifest

version_named : (o : Options) (front : List ℕ) → IsPublishable o → name_text (percent_decode front) ≡ o.to → name_text (percent_decode (version_path o front)) ≡ version_folder o
unfolding version_folder
version_named o front is named =
    decoded_name (front ++ 47 ∷ percent_encode PATH folder) (percent_encode PATH (release_word o))
    ∙ (λ i. (decoded_name front (percent_encode PATH folder) i) ++ 47 ∷ (word_named (release_word o) (release_bytes o is) i))
    ∙ (λ i. (named i ++ 47 ∷ (word_named folder folder_bytes i)) ++ 47 ∷ release_word o)
    ∙ append_assoc o.to (47 ∷ folder) (47 ∷ release_word o)

manifest_named : (o : Options) (front : List ℕ) → IsPublishable o → name_text (percent_decode front) ≡ o.to → name_text (percent_decode (version_path o front ++ 47 ∷ percent_encode PATH (o.entry ++ manifest_end))) ≡ manifest_name o
unfolding manifest_name
manifest_named o front is named =
    decoded_name (version_path o front) (percent_encode PATH (o.entry ++ manifest_end))
    ∙ (λ i. (version_named o front is named i) ++ 47 ∷ (word_named (o.entry ++ manifest_end) (manifest_bytes o is) i))

-- the address of the application manifest
record IsBase (o : Options) (base : Target) : Type 0 where
  url : Parts
  at : IsAddressOf base url
  lies : LiesIn url.path (version_folder o)
  named : name_in_path base.path ≡ Some (manifest_name o)

base_of_joined : (o : Options) (base : Target) (from : List ℕ) → IsPublishable o → LiesIn from o.to → IsJoined base from (codebase o) → IsBase o base
base_of_joined o base from is there joined =
    let path = joined.path ∙ ap (λ (p : List ℕ). parse_path SpecialNotFile p (codebase o)) there.short ∙ codebase_path o (47 ∷ there.front) is in
    let folder = lies (version_path o there.front) (percent_encode PATH (o.entry ++ manifest_end)) (version_folder o) (encoded_whole (o.entry ++ manifest_end) (manifest_bytes o is)) (version_named o there.front is there.named) in
    record {
      url = joined.url;
      at = joined.at;
      lies = subst (λ (p : List ℕ). LiesIn p (version_folder o)) (sym path) folder;
      named = address_named base joined.url (version_path o there.front ++ 47 ∷ percent_encode PATH (o.entry ++ manifest_end)) (manifest_name o) joined.at path (manifest_named o there.front is there.named) is.manifest;
    }

-- ---- the files

file_reached : (o : Options) (base : Target) → IsBase o base → FilesAreReached o base
unfolding target_name
file_reached o base is file target name read =
    let written = file ++ deploy_end o.mapped in
    let known = name_has (version_folder o ++ 47 ∷ written) name in
    let parts = (parts_both (version_folder o) written known.parts).1 in
    let bytes = all_behind IsByte (47 ∷ []) written (all_behind IsByte (version_folder o) (47 ∷ written) known.bytes) in
    let fit = all_behind (Passes is_name_byte) (47 ∷ []) written (all_behind (Passes is_name_byte) (version_folder o) (47 ∷ written) known.fit) in
    let joined = file_joined base target is.url o.mapped file (word_text written) is.at (file_word o.mapped file) (word_reference written parts) read in
    let path = joined.path ∙ ap (λ (p : List ℕ). parse_path SpecialNotFile p (word_text written)) is.lies.short ∙ name_parsed (47 ∷ is.lies.front) written bytes parts in
    let spelled = decoded_name is.lies.front (word_text written) ∙ (λ i. is.lies.named i ++ 47 ∷ name_text (word_again written bytes i)) ∙ ap (λ (t : List ℕ). version_folder o ++ 47 ∷ t) (fit_plain written fit) in
    address_named target joined.url (is.lies.front ++ 47 ∷ word_text written) (version_folder o ++ 47 ∷ written) joined.at path spelled name

-- ---- the whole

pub deployment_bytes : (o : Options) → IsPublishable o → All IsPlainByte (o.name ++ codes ".application")
deployment_bytes o is = ending_bytes (codes ".application") refl o.name (word_bytes o.name is.name)

given_lies : (o : Options) (given : Target) (url : Parts) → IsPublishable o → IsAddressOf given url → Reaches given (deployment_name o) → LiesIn url.path o.to
unfolding deployment_name
given_lies o given url is of reaches =
    reached_lies given url o.to (o.name ++ codes ".application") of (words_no_slash (o.name ++ codes ".application") (deployment_bytes o is)) reaches

pub reached : PublishedIsReached
reached o text given base is read reaches joined =
    let known = text_target text given read in
    let there = given_lies o given known.0 is known.1 reaches in
    let at = base_of_joined o base known.0.path is there (app_joined given base known.0 (codebase o) known.1 (codebase_reference o is) joined) in
    (at.named, file_reached o base at)
