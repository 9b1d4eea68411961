-- What a deployment manifest says is what one can say.
use Rattle.std.proofs.Common.{◌≡◌, ℕ, suc, ◌*◌, ◌/◌, ◌%◌, ◌≤◌, Bool, true, false, List, [], ◌∷◌, Option, Some, None, Result, Ok, Err, refl, sym, ap, ◌∙◌, ◌⊎◌, inl, inr, arith}
use Rattle.std.specs.Prelude.{◌==◌, All, IfSome, IfOk, codes, is_some, if◌then◌else◌}
use Rattle.std.specs.Ordering.{is_lt}
use Rattle.std.specs.Str.{bytes_eq}
use Rattle.std.proofs.lemmas.Bool.{eqb-true, eq-eqb}
use Rattle.std.proofs.lemmas.List.Elements.{All-nil, All-cons}
use Rattle.small_types.specs.declared.limits.TheConstants.{MANIFEST_LIMIT, URL_LIMIT}
use Rattle.small_types.specs.declared.target.Target.{Target}
use Rattle.addresses.specs.declared.fault.UrlFault.{UrlFault}
use Rattle.addresses.specs.Address.{target_of_text}
use Rattle.identity.specs.declared.version.Version.{Version}
use Rattle.identity.specs.Version.{version_cmp}
use Rattle.digest_list.specs.Digest.{IsSized}
use Rattle.manifest_tree.specs.Tree.{Tree}
use Rattle.manifest_parts.specs.declared.fault.ManifestFault.TheVariants.{BadValue}
use Rattle.manifest_parts.specs.Elements.{Read, attribute, children_called, first_called, once}
use Rattle.manifest_parts.specs.Values.{needed, filled, truth, number_of, size_of, version_value}
use Rattle.manifest_parts.specs.Parts.{identity_in, digests_of}
use Rattle.manifests.specs.declared.ages.AgeUnit.{AgeUnit}
use Rattle.manifests.specs.declared.ages.AgeUnit.TheVariants.{Hours, Days, Weeks}
use Rattle.manifests.specs.declared.facts.Rule.{Rule}
use Rattle.manifests.specs.declared.facts.Rule.TheVariants.{Before}
use Rattle.manifests.specs.declared.deployment_terms.Terms.{Terms}
use Rattle.manifests.specs.declared.deployment_entry.Entry.{Entry}
use Rattle.manifests.specs.Ages.{seconds_in, largest_unit}
use Rattle.manifests.specs.Types.{installed_type}
use Rattle.manifests.specs.Deployments.{minimum_of, not_above, unit_of, age_of, expiring, update_rule, subscription_rule, rule_of, kept_address, address_of, named_provider, installed, just_one, assemblies_of, assembly_of, installed_only, terms_of, entry_of, deployment_facts, deployment_of}
use Rattle.manifests.specs.Facts.{IsValue, IsIdentity, IsMinimum, IsAge, IsRule, IsProvider, AreDeploymentFacts, ReadDeploymentsAreFacts}
use Rattle.manifests.proofs.FoundValues.{IsContent, IsHeld, then_ok, other_ok, attribute_held, called_held, first_held, once_held, all_inside, needed_held, filled_is}
use Rattle.manifests.proofs.SaidParts.{IsAny, anything, read_is, identity_in_is, digests_sized, number_is, size_is}

-- ---- the minimum

minimum_is : (version : Version) (o : Option (List ℕ)) → IfOk (minimum_of version o) (λ minimum. IfSome minimum (IsMinimum version))
minimum_is version None = tt
minimum_is version (Some text) =
    let P : Option Version → Type 0 = λ minimum. IfSome minimum (IsMinimum version) in
    let what = codes "minimumRequiredVersion" in
    then_ok IsAny P (version_value what text) (not_above version) (anything (version_value what text)) (λ minimum any.
    other_ok P (is_lt (version_cmp version minimum)) _ _ (λ is. is))

-- ---- the rule

-- a unit of an age
abbrev IsUnit : ℕ → Type 0
IsUnit seconds = (seconds ≡ 3600) ⊎ (seconds ≡ 86400) ⊎ (seconds ≡ 604800)

unit_is : (text : List ℕ) → IfOk (unit_of text) IsUnit
unit_is text = by_tests (bytes_eq text (codes "hours")) (bytes_eq text (codes "days")) (bytes_eq text (codes "weeks"))
  where
    by_tests : (hours days weeks : Bool) → IfOk (if hours then Ok 3600 else if days then Ok 86400 else if weeks then Ok 604800 else Err (BadValue (codes "unit"))) IsUnit
    by_tests true days weeks = inl refl
    by_tests false true weeks = inr (inl refl)
    by_tests false false true = inr (inr refl)
    by_tests false false false = tt

abbrev unit_by : Bool → Bool → Bool → AgeUnit
unit_by nothing weeks days = if nothing then Days else if weeks then Weeks else if days then Days else Hours

hours_few : (age seconds : ℕ) (nothing weeks days : Bool) → seconds ≡ age * 3600 → seconds / seconds_in (unit_by nothing weeks days) ≤ age
hours_few age seconds true weeks days is = omega arith
hours_few age seconds false true days is = omega arith
hours_few age seconds false false true is = omega arith
hours_few age seconds false false false is = omega arith

days_few : (age seconds : ℕ) (nothing weeks days : Bool) → (seconds % 86400 == 0) ≡ days → seconds ≡ age * 86400 → seconds / seconds_in (unit_by nothing weeks days) ≤ age
days_few age seconds true weeks days test is = omega arith
days_few age seconds false true days test is = omega arith
days_few age seconds false false true test is = omega arith
days_few age seconds false false false test is =
    let whole : seconds % 86400 ≡ 0 = omega arith in
    let clash : true ≡ false = sym (eq-eqb (seconds % 86400) 0 whole) ∙ test in
    absurd cc

weeks_few : (age seconds : ℕ) (nothing weeks days : Bool) → (seconds == 0) ≡ nothing → (seconds % 604800 == 0) ≡ weeks → seconds ≡ age * 604800
    → seconds / seconds_in (unit_by nothing weeks days) ≤ age
weeks_few age seconds true weeks days test tested is = let none : seconds ≡ 0 = eqb-true seconds 0 test in omega arith
weeks_few age seconds false true days test tested is = omega arith
weeks_few age seconds false false days test tested is =
    let whole : seconds % 604800 ≡ 0 = omega arith in
    let clash : true ≡ false = sym (eq-eqb (seconds % 604800) 0 whole) ∙ tested in
    absurd cc

age_is : (age unit : ℕ) → age ≤ 999999999 → IsUnit unit → IsAge (age * unit)
unfolding largest_unit
age_is age unit few (inl is) =
    let seconds = age * unit in
    let same : seconds ≡ age * 3600 = ap (λ (n : ℕ). age * n) is in
    let most = hours_few age seconds (seconds == 0) (seconds % 604800 == 0) (seconds % 86400 == 0) same in
    record { whole = omega arith; few = omega arith }
age_is age unit few (inr (inl is)) =
    let seconds = age * unit in
    let same : seconds ≡ age * 86400 = ap (λ (n : ℕ). age * n) is in
    let most = days_few age seconds (seconds == 0) (seconds % 604800 == 0) (seconds % 86400 == 0) refl same in
    record { whole = omega arith; few = omega arith }
age_is age unit few (inr (inr is)) =
    let seconds = age * unit in
    let same : seconds ≡ age * 604800 = ap (λ (n : ℕ). age * n) is in
    let most = weeks_few age seconds (seconds == 0) (seconds % 604800 == 0) (seconds % 86400 == 0) refl refl same in
    record { whole = omega arith; few = omega arith }

age_read : (expiration : Tree) → IfOk (age_of expiration) IsRule
unfolding age_of
age_read expiration =
    let digits_in = needed (codes "maximumAge") (attribute (codes "maximumAge") expiration) in
    let unit_in = needed (codes "unit") (attribute (codes "unit") expiration) in
    then_ok IsAny IsRule digits_in _ (anything digits_in) (λ digits any.
    then_ok (λ (age : ℕ). age ≤ 999999999) IsRule (number_of 9 999999999 (codes "maximumAge") digits) _ (number_is 9 999999999 (codes "maximumAge") digits) (λ age few.
    then_ok IsAny IsRule unit_in _ (anything unit_in) (λ text any₁.
    then_ok IsUnit IsRule (unit_of text) _ (unit_is text) (λ unit is. age_is age unit few is))))

none_age : IsAge 0
unfolding largest_unit
none_age = record { whole = refl; few = omega arith }

expiring_is : (o : Option Tree) → IfOk (expiring o) IsRule
expiring_is None = none_age
expiring_is (Some expiration) = age_read expiration

before_or : (b : Bool) (r : Read Rule) → IfOk r IsRule → IfOk (if b then Ok Before else r) IsRule
before_or true r h = tt
before_or false r h = h

update_is : (o : Option Tree) → IfOk (update_rule o) IsRule
update_is None = tt
update_is (Some update) =
    before_or (is_some (first_called (codes "beforeApplicationStartup") update)) (expiring (first_called (codes "expiration") update)) (expiring_is (first_called (codes "expiration") update))

subscription_is : (o : Option Tree) → IfOk (subscription_rule o) IsRule
subscription_is None = tt
subscription_is (Some subscription) = update_is (first_called (codes "update") subscription)

-- ---- the provider

kept_is : (text : List ℕ) (r : Result Target UrlFault) → target_of_text text ≡ r → IsContent text → IfSome (kept_address text r) IsProvider
kept_is text (Ok target) is c = record { allowed = c; target = target; address = is }
kept_is text (Err e) is c = tt

address_is : (o : Option (List ℕ)) → IfSome o IsContent → IfSome (address_of o) IsProvider
address_is None h = tt
address_is (Some text) h = kept_is text (target_of_text text) refl h

named_is : (o : Option Tree) → IfSome o IsHeld → IfSome (named_provider o) IsProvider
named_is None h = tt
named_is (Some provider) h = address_is (attribute (codes "codebase") provider) (attribute_held (codes "codebase") provider h)

-- ---- the terms

record AreTerms (version : Version) (terms : Terms) : Type 0 where
  minimum : IfSome terms.minimum (IsMinimum version)
  rule : IsRule terms.rule
  provider : IfSome terms.provider IsProvider

terms_are : (version : Version) (t : Tree) → IsHeld t → IfOk (terms_of version t) (AreTerms version)
unfolding terms_of
terms_are version t h =
    let P = AreTerms version in
    then_ok IsHeld P (once (codes "deployment") t) _ (once_held (codes "deployment") t h) (λ deployment d.
    then_ok IsAny P (truth (codes "install") true (attribute (codes "install") deployment)) _ (anything (truth (codes "install") true (attribute (codes "install") deployment))) (λ install any.
    then_ok IsAny P (installed_only install) _ (anything (installed_only install)) (λ offline any₁.
    then_ok IsAny P (truth (codes "mapFileExtensions") false (attribute (codes "mapFileExtensions") deployment)) _ (anything (truth (codes "mapFileExtensions") false (attribute (codes "mapFileExtensions") deployment))) (λ mapped any₂.
    then_ok (λ (minimum : Option Version). IfSome minimum (IsMinimum version)) P (minimum_of version (attribute (codes "minimumRequiredVersion") deployment)) _
    (minimum_is version (attribute (codes "minimumRequiredVersion") deployment)) (λ minimum m.
    then_ok IsRule P (rule_of deployment) _ (subscription_is (first_called (codes "subscription") deployment)) (λ rule r.
    record { minimum = m; rule = r; provider = named_is (first_called (codes "deploymentProvider") deployment) (first_held (codes "deploymentProvider") deployment d) }))))))

-- ---- the dependency

with_wanted : (wanted : Bool) (assembly : Tree) (found : List Tree) → IsHeld assembly → All IsHeld found → All IsHeld (if wanted then assembly ∷ found else found)
with_wanted true assembly found h are = All-cons IsHeld assembly found h are
with_wanted false assembly found h are = are

installed_held : (ts : List Tree) → All IsHeld ts → IfOk (installed ts) (All IsHeld)
installed_held [] h = All-nil IsHeld
installed_held (assembly ∷ others) h =
    then_ok IsAny (All IsHeld) (installed_type assembly) _ (anything (installed_type assembly)) (λ wanted any.
    then_ok (All IsHeld) (All IsHeld) (installed others) _ (installed_held others (λ k d lt. h (suc k) d (omega arith))) (λ found are.
    with_wanted wanted assembly found (h 0 assembly (omega arith)) are))

just_held : (ts : List Tree) → All IsHeld ts → IfOk (just_one ts) IsHeld
just_held [] h = tt
just_held (assembly ∷ []) h = h 0 assembly (omega arith)
just_held (assembly ∷ other ∷ others) h = tt

assembly_held : (t : Tree) → IsHeld t → IfOk (assembly_of t) IsHeld
unfolding assembly_of
assembly_held t h =
    let are = all_inside (children_called (codes "dependentAssembly")) (called_held (codes "dependentAssembly")) (children_called (codes "dependency") t) (called_held (codes "dependency") t h) in
    then_ok (All IsHeld) IsHeld (installed (assemblies_of t)) just_one (installed_held (assemblies_of t) are) just_held

record IsEntry (entry : Entry) : Type 0 where
  codebase : IsValue 1 URL_LIMIT entry.codebase
  app : IsIdentity entry.app
  size : entry.size ≤ MANIFEST_LIMIT
  digests : All IsSized entry.digests

entry_is : (t : Tree) → IsHeld t → IfOk (entry_of t) IsEntry
unfolding entry_of
entry_is t h =
    then_ok IsHeld IsEntry (assembly_of t) _ (assembly_held t h) (λ assembly a.
    then_ok IsContent IsEntry (needed (codes "codebase") (attribute (codes "codebase") assembly)) _
    (needed_held (codes "codebase") (attribute (codes "codebase") assembly) (attribute_held (codes "codebase") assembly a)) (λ given g.
    then_ok (IsValue 1 URL_LIMIT) IsEntry (filled URL_LIMIT (codes "codebase") given) _ (filled_is URL_LIMIT (codes "codebase") given g) (λ codebase c.
    then_ok (λ (n : ℕ). n ≤ MANIFEST_LIMIT) IsEntry (size_of MANIFEST_LIMIT (attribute (codes "size") assembly)) _ (size_is MANIFEST_LIMIT (attribute (codes "size") assembly)) (λ size s.
    then_ok IsIdentity IsEntry (identity_in assembly) _ (identity_in_is assembly a) (λ app i.
    then_ok (All IsSized) IsEntry (digests_of codebase assembly) _ (digests_sized codebase assembly) (λ digests d.
    record { codebase = c; app = i; size = s; digests = d }))))))

-- ---- the whole

facts_are : (t : Tree) → IsHeld t → IfOk (deployment_facts t) AreDeploymentFacts
unfolding deployment_facts
facts_are t h =
    then_ok IsIdentity AreDeploymentFacts (identity_in t) _ (identity_in_is t h) (λ identity i.
    then_ok (AreTerms identity.version) AreDeploymentFacts (terms_of identity.version t) _ (terms_are identity.version t h) (λ terms m.
    then_ok IsEntry AreDeploymentFacts (entry_of t) _ (entry_is t h) (λ entry e.
    record {
      identity = i;
      install = refl;
      minimum = m.minimum;
      rule = m.rule;
      provider = m.provider;
      codebase = e.codebase;
      app = e.app;
      app_size = e.size;
      app_list = e.digests;
    })))

pub read_are_facts : ReadDeploymentsAreFacts
unfolding deployment_of
read_are_facts bytes d h = read_is deployment_facts AreDeploymentFacts facts_are bytes h.tree d h.spelled h.facts_are
