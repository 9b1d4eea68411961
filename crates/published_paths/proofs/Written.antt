-- An address that is written from a name reaches it.
use Rattle.std.proofs.Common.{◌≡◌, ℕ, Bool, true, not, ◌&&◌, ◌==◌, inl, inr, List, [], ◌∷◌, Option, None, IfOk, All, refl, sym, ap, subst, ◌∙◌, append_assoc, append-nil, arith}
use Rattle.std.specs.List.{list_all}
use Rattle.std.proofs.lemmas.Bool.{both_ways}
use Rattle.percent_encoding.specs.declared.ascii_set.AsciiSet.{AsciiSet}
use Rattle.percent_encoding.specs.AsciiSet.{contains}
use Rattle.url.specs.Scheme.{is_slash}
use Rattle.url.proofs.SetLemmas.{kept_differs}
use Rattle.url.proofs.TextLemmas.{is_query_byte}
use Rattle.published_paths.proofs.References.{word_reference}
use Rattle.std.proofs.lemmas.Bool.Decides.{nat_tests}
use Rattle.std.proofs.lemmas.List.Elements.{All-nil, All-weaker}
use Rattle.percent_encoding.specs.Percent.{IsKept, percent_encode, percent_decode}
use Rattle.percent_encoding.proofs.PercentLemmas.{IsByte}
use Rattle.url.specs.declared.scheme.SchemeType.TheVariants.{SpecialNotFile}
use Rattle.url.specs.Input.{rsplit_once}
use Rattle.url.specs.Parts.{Parts}
use Rattle.url.specs.Parser.{parse_url}
use Rattle.url.proofs.InputLemmas.{IsNot, Passes, rsplit_once_at, list_all_from_All, All_from_list_all}
use Rattle.url.proofs.PathLemmas.{IsNoSlash, encoded_no_slash, no_segments}
use Rattle.small_types.specs.declared.target.Target.{Target}
use Rattle.small_types.specs.Name.{is_name_byte, name_text}
use Rattle.identity.specs.Key.{word_text}
use Rattle.identity.proofs.KeyLemmas.{word_again, word_encoded}
use Rattle.http_plain.specs.Path.{without_query}
use Rattle.published_paths.specs.Reached.{is_host_byte, WrittenReach, ends_whole, last_part, written_address}
use Rattle.published_paths.proofs.Sound.{IsPath, path_sound}
use Rattle.published_paths.proofs.PathEscapes.{query_cut}
use Rattle.published_paths.proofs.Paths.{name_parsed, word_joined}
use Rattle.published_paths.proofs.Again.{SoundAt, path_again, written}
use Rattle.published_paths.proofs.Beside.{IsAddressOf, text_at}
use Rattle.published_paths.proofs.Names.{HasName, address_named, all_behind, cut_at_last, fit_plain, name_has, path_no_query, target_path}

-- the path of a name, escaped
abbrev pub path_of : List ℕ → List ℕ
path_of name = 47 ∷ word_text name

path_is : (name : List ℕ) → HasName name → IsPath (path_of name)
path_is name has =
    subst IsPath (name_parsed [] name has.bytes has.parts) (path_sound [] (word_text name) (word_reference name has.parts).bytes (no_segments SpecialNotFile))

encoded_not : (set : AsciiSet) (part : List ℕ) → contains set 92 ≡ true → All (IsNot 47) part → All (IsNot 47) (percent_encode set part)
encoded_not set part escapes none =
    All-weaker (IsNoSlash SpecialNotFile) (IsNot 47) (λ b whole same. both_ways (is_slash SpecialNotFile 47) (ap (is_slash SpecialNotFile) (sym same) ∙ whole) refl) (percent_encode set part)
    (encoded_no_slash SpecialNotFile set part (All-weaker (IsNot 47) (λ b. IsKept set b → IsNoSlash SpecialNotFile b) (λ b other kept. let mark = kept_differs set 92 escapes b kept in grind (arith, nat_tests)) part none))

word_no_slash : (part : List ℕ) → All (IsNot 47) part → All (IsNot 47) (word_text part)
word_no_slash part none = subst (All (IsNot 47)) (word_encoded part) (encoded_not _ part refl none)

-- the last part of the path is that of the name
last_word : (name : List ℕ) → (part : List ℕ) × ((rsplit_once 47 (path_of name)).1 ≡ word_text part) × All (IsNot 47) part × ((P : ℕ → Type 0) → All P name → All P part)
last_word name = elim (cut_at_last name) [
  | inl none ↦ (name, ap (λ (r : Option (List ℕ) × List ℕ). r.1) (rsplit_once_at 47 [] (word_text name) (word_no_slash name none)), none, λ P all. all)
  | inr cut ↦ (
    cut.back,
    ap (λ (t : List ℕ). (rsplit_once 47 (47 ∷ t)).1) (ap word_text cut.joined ∙ word_joined cut.front cut.back) ∙ ap (λ (r : Option (List ℕ) × List ℕ). r.1) (rsplit_once_at 47 (47 ∷ word_text cut.front) (word_text cut.back) (word_no_slash cut.back cut.last)),
    cut.last,
    λ P all. all_behind P (47 ∷ []) cut.back (all_behind P cut.front (47 ∷ cut.back) (subst (All P) cut.joined all)),
  )
]

-- a part of a name has no separator
part_whole : (part : List ℕ) → All (IsNot 47) part → All (Passes is_name_byte) part → list_all (λ b. not (b == 47) && not (b == 92)) part ≡ true
part_whole part none fit =
    list_all_from_All (λ b. not (b == 47) && not (b == 92)) part (λ k d inside. let other = none k d inside in let passes = fit k d inside in grind (arith, nat_tests))

written_ends : (name : List ℕ) (target : Target) (url : Parts) → HasName name → IsAddressOf target url → url.path ≡ path_of name → ends_whole target.path ≡ true
written_ends name target url has of path =
    let last = last_word name in
    let none = path_no_query url.path of.sound.path in
    let part : last_part target.path ≡ word_text last.0 = ap (λ (p : List ℕ). (rsplit_once 47 (without_query p)).1) (target_path target url of) ∙ ap (λ (p : List ℕ). (rsplit_once 47 p).1) (query_cut url.path url.query none ∙ path) ∙ last.1 in
    let test : ℕ → Bool = λ b. not (b == 47) && not (b == 92) in
    ap (λ (p : List ℕ). list_all test (percent_decode p)) part
    ∙ ap (list_all test) (word_again last.0 (last.3 IsByte has.bytes))
    ∙ part_whole last.0 last.2 (last.3 (Passes is_name_byte) has.fit)

pub written_reach : WrittenReach
written_reach host name given some fits is read =
    let has = name_has name is in
    let again = path_again host (path_of name) None some (All_from_list_all is_host_byte host fits) (path_is name has) (All-nil (Passes is_query_byte)) in
    let text : written_address host name ≡ written host (path_of name) None = simp (append_assoc, append-nil) in
    let known = text_at (written_address host name) (path_of name) given (subst (λ (t : List ℕ). IfOk (parse_url None t) (SoundAt (path_of name))) (sym text) again) read in
    record {
      named = address_named given known.0 (word_text name) name known.1 known.2 (ap name_text (word_again name has.bytes) ∙ fit_plain name has.fit) is;
      whole = written_ends name given known.0 has known.1 known.2;
    }
