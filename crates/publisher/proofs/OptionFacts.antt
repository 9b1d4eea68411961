-- What options that are not refused say can be said by manifests.
use Rattle.std.proofs.Common.{◌≡◌, ℕ, ◌<◌, ◌≤◌, ◌^◌, Bool, true, false, ◌&&◌, nat_lt, nat_le, List, [], ◌∷◌, ◌++◌, length, codes, decimal, All, IfSome, Option, Some, None, refl, sym, subst, ◌∙◌, arith, lit≤, length-append}
use Rattle.std.specs.Prelude.{if◌then◌else◌}
use Rattle.std.specs.Char.{is_ascii_digit}
use Rattle.std.specs.List.{list_all}
use Rattle.std.specs.Ordering.{is_lt}
use Rattle.std.proofs.lemmas.Bool.{and_parts, and_from, ltb-true, leb-true}
use Rattle.std.proofs.lemmas.Bool.Decides.{nat_tests}
use Rattle.std.proofs.lemmas.Fmt.{digits_decimal}
use Rattle.std.proofs.lemmas.List.Folds.{list_all-append}
use Rattle.small_types.specs.declared.limits.TheConstants.{MANIFEST_LIMIT}
use Rattle.identity.specs.declared.version.Version.{Version}
use Rattle.identity.specs.Version.{IsVersion, version_cmp}
use Rattle.small_types.proofs.DecimalLemmas.{own}
use Rattle.digest_list.specs.Digest.{IsSized}
use Rattle.manifest_tree.specs.Lexis.{allowed}
use Rattle.manifest_tree.specs.WrittenText.{is_content}
use Rattle.manifests.specs.declared.facts.Deployment.{Deployment}
use Rattle.manifests.specs.declared.facts.FileEntry.{FileEntry}
use Rattle.manifests.specs.FileLists.{AreFiles}
use Rattle.manifests.specs.Facts.{AreApplicationFacts, AreDeploymentFacts, IsFile, IsIdentity, IsMinimum, IsValue}
use Rattle.publish_plan.specs.declared.fault.PlanFault.TheVariants.{MinimumAbove}
use Rattle.publish_plan.specs.declared.options.Options.{Options}
use Rattle.publish_plan.specs.Early.{above, early_of}
use Rattle.publish_plan.specs.Places.{is_plain_name, is_plain_byte, manifest_name, codebase, release_word, version_folder, version_word}
use Rattle.publish_plan.proofs.EarlyLemmas.{AreFit, options_fit}
use Rattle.publisher.specs.Options.{IsPublishable}
use Rattle.publisher.specs.Publication.{application_identity, application_of, deployment_identity, deployment_of}

each_also : (p q : ℕ → Bool) → ((b : ℕ) → p b ≡ true → q b ≡ true) → (xs : List ℕ) → list_all p xs ≡ true → list_all q xs ≡ true
each_also p q also [] all = refl
each_also p q also (x ∷ xs) all = let both = and_parts (p x) (list_all p xs) all in and_from _ _ (also x both.0) (each_also p q also xs both.1)

-- no byte of a word, and no digit, is one that a manifest may not hold
word_allowed : (b : ℕ) → is_plain_byte b ≡ true → allowed b ≡ true
unfolding allowed
word_allowed b is = grind (arith, nat_tests)

digit_allowed : (b : ℕ) → is_ascii_digit b ≡ true → allowed b ≡ true
unfolding allowed
digit_allowed b is = grind (arith, nat_tests)

-- 1 to 100 bytes that a manifest may hold
pub record IsFitWord (word : List ℕ) : Type 0 where
  pub some : 0 < length word
  pub few : length word ≤ 100
  pub content : is_content word ≡ true

pub word_fits : (word : List ℕ) → is_plain_name word ≡ true → IsFitWord word
unfolding is_plain_name
word_fits word is =
    let outer = and_parts (nat_lt 0 (length word) && nat_le (length word) 100) (list_all is_plain_byte word) is in
    let lengths = and_parts (nat_lt 0 (length word)) (nat_le (length word) 100) outer.0 in
    record {
      some = ltb-true 0 (length word) lengths.0;
      few = leb-true (length word) 100 lengths.1;
      content = each_also is_plain_byte allowed word_allowed word outer.1;
    }

joined : (a b : List ℕ) → is_content a ≡ true → is_content b ≡ true → is_content (a ++ b) ≡ true
joined a b first second = list_all-append allowed a b ∙ and_from _ _ first second

literal_content : (is_content (codes "0000000000000000") ≡ true) × (is_content (codes "neutral") ≡ true) × (is_content (codes "msil") ≡ true) × (is_content (codes "win32") ≡ true) × (is_content (codes ".application") ≡ true) × (is_content (codes "Application Files") ≡ true) × (is_content (codes ".manifest") ≡ true) × (allowed 92 ≡ true) × (allowed 95 ≡ true)
unfolding allowed
literal_content = (refl, refl, refl, refl, refl, refl, refl, refl, refl)

number_content : (n : ℕ) → n < 2 ^ 16 → is_content (decimal n) ≡ true
number_content n small = each_also is_ascii_digit allowed digit_allowed (decimal n) (digits_decimal own n (omega arith))

-- bytes behind one
behind_one : (b : ℕ) (rest : List ℕ) → allowed b ≡ true → is_content rest ≡ true → is_content (b ∷ rest) ≡ true
behind_one b rest first others = and_from _ _ first others

version_content : (v : Version) → IsVersion v → is_content (version_word v) ≡ true
unfolding version_word
version_content v fits =
    let line = literal_content.8 in
    let a = number_content v.a fits.a in
    let b = number_content v.b fits.b in
    let c = number_content v.c fits.c in
    let d = number_content v.d fits.d in
    joined _ _ a (behind_one 95 _ line (joined _ _ b (behind_one 95 _ line (joined _ _ c (behind_one 95 _ line d)))))

release_content : (o : Options) → IsFitWord o.name → IsVersion o.version → is_content (release_word o) ≡ true
unfolding release_word
release_content o name fits = joined o.name (95 ∷ version_word o.version) name.content (behind_one 95 (version_word o.version) literal_content.8 (version_content o.version fits))

codebase_content : (o : Options) → IsFitWord o.name → IsFitWord o.entry → IsVersion o.version → is_content (codebase o) ≡ true
unfolding codebase
codebase_content o name entry fits =
    let slash = literal_content.7 in
    joined (codes "Application Files") (92 ∷ (release_word o ++ 92 ∷ (o.entry ++ codes ".manifest"))) literal_content.5
    (behind_one 92 (release_word o ++ 92 ∷ (o.entry ++ codes ".manifest")) slash
    (joined (release_word o) (92 ∷ (o.entry ++ codes ".manifest")) (release_content o name fits) (behind_one 92 (o.entry ++ codes ".manifest") slash (joined o.entry (codes ".manifest") entry.content literal_content.6))))

codebase_short : (o : Options) → length (codebase o) ≤ length (manifest_name o)
unfolding codebase manifest_name version_folder
codebase_short o = simp length-append (omega arith)

codebase_some : (o : Options) → 1 ≤ length (codebase o)
unfolding codebase
codebase_some o = simp length-append (omega arith)

codebase_fits : (o : Options) → AreFit o → IsVersion o.version → IsValue 1 2048 (codebase o)
codebase_fits o fit version =
    let short = codebase_short o in
    let limit : length (manifest_name o) ≤ 240 = fit.short in
    record {
      some = codebase_some o;
      few = omega arith;
      allowed = codebase_content o (word_fits o.name fit.name) (word_fits o.entry fit.entry) version;
    }

default_identity : (name kind : List ℕ) (v : Version) → IsValue 1 240 name → IsValue 0 64 kind
    → IsIdentity (record { key = record { name = name; token = codes "0000000000000000"; language = codes "neutral"; architecture = codes "msil" }; version = v; kind = kind })
default_identity name kind v name_fits kind_fits = record {
  name = name_fits;
  token = record { some = lit≤ tt; few = lit≤ tt; allowed = literal_content.0 };
  language = record { some = lit≤ tt; few = lit≤ tt; allowed = literal_content.1 };
  architecture = record { some = lit≤ tt; few = lit≤ tt; allowed = literal_content.2 };
  kind = kind_fits;
}

deployment_identity_fits : (o : Options) → AreFit o → IsIdentity (deployment_identity o)
deployment_identity_fits o fit =
    let name = word_fits o.name fit.name in
    let some : 0 < length o.name = name.some in
    let few : length o.name ≤ 100 = name.few in
    default_identity (o.name ++ codes ".application") [] o.version
    (record { some = simp length-append (omega arith); few = simp length-append (omega arith); allowed = joined o.name (codes ".application") name.content literal_content.4 })
    (record { some = lit≤ tt; few = lit≤ tt; allowed = refl })

application_identity_fits : (o : Options) → AreFit o → IsIdentity (application_identity o)
application_identity_fits o fit =
    let entry = word_fits o.entry fit.entry in
    let some : 0 < length o.entry = entry.some in
    let few : length o.entry ≤ 100 = entry.few in
    default_identity o.entry (codes "win32") o.version
    (record { some = omega arith; few = omega arith; allowed = entry.content })
    (record { some = lit≤ tt; few = lit≤ tt; allowed = literal_content.3 })

no_fault : (b : Bool) (minimum : Version) → (if b then Some (MinimumAbove minimum) else None) ≡ None → b ≡ false
no_fault true minimum is = absurd cc
no_fault false minimum is = refl

minimum_fits : (version : Version) (minimum : Option Version) → above version minimum ≡ None → IfSome minimum (IsMinimum version)
minimum_fits version None is = tt
minimum_fits version (Some minimum) is = no_fault (is_lt (version_cmp version minimum)) minimum is

-- the product is the name
pub name_content : (o : Options) → early_of o ≡ None → is_content o.name ≡ true
name_content o fit = let name = word_fits o.name (options_fit o fit).name in name.content

-- what the deployment manifest says
pub deployment_fits : (o : Options) (text : List ℕ) (d : Deployment) → IsPublishable o → early_of o ≡ None → IsVersion o.version → length text ≤ MANIFEST_LIMIT → d ≡ deployment_of o text → All IsSized d.app_list → AreDeploymentFacts d
deployment_fits o text d publishable early version short is sized =
    let fit = options_fit o early in
    let facts : All IsSized (deployment_of o text).app_list → AreDeploymentFacts (deployment_of o text) = λ list. record {
      identity = deployment_identity_fits o fit;
      install = refl;
      minimum = minimum_fits o.version o.minimum fit.minimum;
      rule = publishable.rule;
      provider = publishable.provider;
      codebase = codebase_fits o fit version;
      app = application_identity_fits o fit;
      app_size = short;
      app_list = list;
    } in
    subst AreDeploymentFacts (sym is) (facts (subst (λ (e : Deployment). All IsSized e.app_list) is sized))

-- what the application manifest says
pub application_fits : (o : Options) (entries : List FileEntry) → early_of o ≡ None → AreFiles entries → All IsFile entries → AreApplicationFacts (application_of o entries)
application_fits o entries early files each =
    let fit = options_fit o early in
    let entry = word_fits o.entry fit.entry in
    let some : 0 < length o.entry = entry.some in
    let few : length o.entry ≤ 100 = entry.few in
    record {
      identity = application_identity_fits o fit;
      entry = record { some = omega arith; few = omega arith; allowed = entry.content };
      parameters = record { some = lit≤ tt; few = lit≤ tt; allowed = refl };
      files = files;
      each = each;
    }
