-- The releases of the session can be written.
use Rattle.std.proofs.Common.{◌≡◌, ◌<◌, ◌≤◌, ◌+◌, ◌*◌, ◌^◌, ℕ, true, List, [], ◌∷◌, ◌++◌, length, All, AllPairs, Option, refl, ap, arith, decimal}
use Rattle.std.specs.Prelude.{codes, nat_lt, slice_index, unwrap_or}
use Rattle.std.specs.List.{list_all}
use Rattle.std.specs.Str.{IsUtf8}
use Rattle.std.proofs.lemmas.Fmt.{length-decimal-le}
use Rattle.std.proofs.lemmas.List.{length-append, length-replicate}
use Rattle.std.proofs.lemmas.List.Elements.{All-cons, All-nil}
use Rattle.std.proofs.lemmas.Str.{is_utf8-from_IsUtf8}
use Rattle.sha2.specs.Sha256.{sha256}
use Rattle.small_types.specs.Name.{IsBelowPre, IsName, is_name}
use Rattle.identity.specs.Key.{IsKey, IsPart}
use Rattle.identity.specs.Version.{IsVersion, version_text}
use Rattle.digest_list.specs.declared.digest.Digest.{Digest}
use Rattle.digest_list.specs.Algorithm.{uri_of}
use Rattle.digest_list.specs.Digest.{IsSized}
use Rattle.digest_list.specs.Matches.{IsDigestOf, Matches}
use Rattle.manifest_tree.specs.Lexis.{allowed}
use Rattle.manifest_tree.specs.Tree.{Tree, trees}
use Rattle.manifest_tree.proofs.Written.{ascii_utf8, length-written}
use Rattle.manifests.specs.declared.facts.FileEntry.{FileEntry}
use Rattle.manifests.specs.Facts.{AreApplicationFacts, IsFile, IsIdentity}
use Rattle.manifest_writer.specs.Applications.{application_text, application_tree, backslashed, entry_tree, file_tree}
use Rattle.manifest_writer.specs.Deployments.{dependency_tree, deployment_text, deployment_tree, description_tree, terms_tree}
use Rattle.manifest_writer.specs.Elements.{hash_tree, identity_tree, root_tree}
use Rattle.manifest_writer.specs.Held.{IsHeldDigest}
use Rattle.machine.specs.Fields.{HasEntry, HasIdentity, IsApplication, IsDeployment}
use Rattle.machine.specs.Sound.{IsWhole}
use Rattle.machine.specs.Views.{ListedFile}
use Rattle.written_releases.specs.TwoReleases.{application, content, demo_key, deployment, digest_of, identity, program, release, version}
use Rattle.written_releases.specs.Written.{IsContent, IsWrittenApplication, IsWrittenDeployment, IsWrittenRelease}
use Rattle.written_releases.proofs.Digests.{base64_long, sha_bytes, sha_long}
use Rattle.written_releases.proofs.LongTrees.{element_long, size, sizes}

pub one : {X : Type 0} (P : X → Type 0) (x : X) → P x → All P (x ∷ [])
one P x p = All-cons P x [] p (All-nil P)

pub single : {X : Type 0} (R : X → X → Type 0) (x : X) → AllPairs R (x ∷ [])
single R x i j d lt within = absurd (omega arith)

word : (text : List ℕ) → list_all (λ b. nat_lt b 128) text ≡ true → IsUtf8 text
word text is = ascii_utf8 text is

-- ---- digests

not_none : (d : Digest) → ◌≡◌ {A = List Digest} (d ∷ []) [] → ⊥
not_none d e = cc

module _ (bytes : List ℕ) where
  sized : All IsSized (digest_of bytes ∷ [])
  sized = one IsSized (digest_of bytes) (sha_long bytes)

  held : All IsHeldDigest (digest_of bytes ∷ [])
  held = one IsHeldDigest (digest_of bytes) (sha_bytes bytes)

  pub matches : (size_is : ℕ) → length bytes ≡ size_is → Matches (digest_of bytes ∷ []) size_is bytes
  matches size_is same = record { sized = same; some = not_none (digest_of bytes); digests = one (IsDigestOf bytes) (digest_of bytes) refl }

-- ---- identities

part : (limit : ℕ) (text : List ℕ) → 0 < length text → length text ≤ limit → list_all (λ b. nat_lt b 128) text ≡ true → IsPart limit text
part limit text some few ascii = record { nonempty = some; within = few; utf8 = word text ascii }

pub is_key : IsKey demo_key
is_key = record {
  name = part _ (codes "demo") (omega arith) (omega arith) refl;
  token = part _ (codes "0000000000000000") (omega arith) (omega arith) refl;
  language = part _ (codes "neutral") (omega arith) (omega arith) refl;
  architecture = part _ (codes "msil") (omega arith) (omega arith) refl;
}

module _ (number : ℕ) (few : number < 2 ^ 16) where
  is_version : IsVersion (version number)
  is_version = record { a = few; b = omega arith; c = omega arith; d = omega arith }

  is_identity : IsIdentity (identity number)
  unfolding allowed
  is_identity = record {
    name = record { some = omega arith; few = omega arith; allowed = refl };
    token = record { some = omega arith; few = omega arith; allowed = refl };
    language = record { some = omega arith; few = omega arith; allowed = refl };
    architecture = record { some = omega arith; few = omega arith; allowed = refl };
    kind = record { some = omega arith; few = omega arith; allowed = refl };
  }

  has_identity : HasIdentity (identity number)
  has_identity = record { key = is_key; version = is_version; kind = word [] refl }

-- ---- the file

name_is : IsName (codes "demo.exe")
unfolding is_name
name_is = is_utf8-from_IsUtf8 (codes "demo.exe") (word (codes "demo.exe") refl)

above_pre : ¬ IsBelowPre (codes "demo.exe")
above_pre below = differ (ap (λ (o : Option (List ℕ)). slice_index (unwrap_or o []) 0) below)
  where
    differ : ◌≡◌ {A = ℕ} 100 46 → ⊥
    differ e = omega (arith, e)

module _ (number : ℕ) (few : number < 2 ^ 16) where
  program_is : IsFile (program number)
  program_is = record {
    above = above_pre;
    short = λ local. omega arith;
    size = omega (arith, few);
    list = sized (content number);
    group = tt;
    alone = λ local. refl;
  }

  program_has : HasEntry (program number)
  program_has = record { name = name_is; list = record { some = omega arith; within = omega arith }; group = tt }

-- the file as it is installed
abbrev pub file_of : ℕ → ListedFile
file_of number = record { entry = program number; bytes = content number }

pub whole : (number : ℕ) → IsWhole (file_of number)
whole number = matches (content number) number (length-replicate {A = ℕ} number 97)

-- ---- the application

module _ (number : ℕ) (few : number < 2 ^ 16) where
  pub application_facts : AreApplicationFacts (application number)
  unfolding allowed
  application_facts = record {
    identity = is_identity number few;
    entry = record { some = omega arith; few = omega arith; allowed = refl };
    parameters = record { some = omega arith; few = omega arith; allowed = refl };
    files = record { few = omega arith; few_local = omega arith; differ = single (λ (e f : FileEntry). ¬ (e.name ≡ f.name)) (program number) };
    each = one IsFile (program number) (program_is number few);
  }

  application_is : IsApplication (application number)
  application_is = record {
    facts = application_facts;
    identity = has_identity number few;
    entry = word (codes "demo.exe") refl;
    parameters = word [] refl;
    files = one HasEntry (program number) (program_has number few);
  }

-- ---- the lengths of the texts

joined_long : (xs ys : List ℕ) (m n : ℕ) → length xs ≤ m → length ys ≤ n → length (xs ++ (46 ∷ ys)) ≤ m + n + 1
joined_long xs ys m n first second = omega (arith, first, second, length-append xs (46 ∷ ys))

version_long : (number : ℕ) → number < 2 ^ 16 → length (version_text (version number)) ≤ 23
unfolding version_text
version_long number few =
    let a = length-decimal-le 5 number (omega arith) (omega (arith, few)) (omega (arith, few)) in
    let z = length-decimal-le 5 0 (omega arith) (omega arith) (omega arith) in
    joined_long (decimal number) _ 5 17 a (joined_long (decimal 0) _ 5 11 z (joined_long (decimal 0) (decimal 0) 5 5 z z))

identity_size : (name : List ℕ) (number : ℕ) → number < 2 ^ 16 → size (identity_tree name (identity number)) ≤ 2 * length name + 1000
unfolding identity_tree
identity_size name number few = let v = version_long number few in omega (arith, v)

hash_size : (bytes : List ℕ) → size (hash_tree (digest_of bytes)) ≤ 3000
unfolding hash_tree uri_of
hash_size bytes =
    let text = base64_long (sha256 bytes) in
    let long = sha_long bytes in
    omega (arith, text, long)

entry_size : (number : ℕ) → size (entry_tree (application number)) ≤ 1000
unfolding entry_tree
entry_size number = omega arith

file_size : (number : ℕ) → number < 2 ^ 16 → size (file_tree (program number)) ≤ 5000
unfolding file_tree backslashed
file_size number few =
    let hash = hash_size (content number) in
    let n = length-decimal-le 5 number (omega arith) (omega (arith, few)) (omega (arith, few)) in
    omega (arith, hash, n)

root_size : (children : List Tree) → size (root_tree children) ≤ 3000 + sizes (trees children)
unfolding root_tree
root_size children = omega arith

application_size : (number : ℕ) → number < 2 ^ 16 → size (application_tree (application number)) ≤ 20000
unfolding application_tree
application_size number few =
    let own = identity_size (codes "asmv1:assemblyIdentity") number few in
    let entry = entry_size number in
    let file = file_size number few in
    let root = root_size (identity_tree (codes "asmv1:assemblyIdentity") (identity number) ∷ entry_tree (application number) ∷ file_tree (program number) ∷ []) in
    omega (arith, own, entry, file, root)

pub application_short : (number : ℕ) → number < 2 ^ 16 → length (application_text (application number)) ≤ 30000
application_short number few =
    let t = application_tree (application number) in
    let long = element_long t in
    let most = application_size number few in
    omega (arith, length-written t, long, most)

description_size : size (description_tree (codes "demo") (codes "demo")) ≤ 1000
description_size = omega arith

terms_size : (number : ℕ) → size (terms_tree (deployment number)) ≤ 1000
unfolding terms_tree
terms_size number = omega arith

dependency_size : (number : ℕ) → number < 2 ^ 16 → size (dependency_tree (deployment number)) ≤ 8000
unfolding dependency_tree
dependency_size number few =
    let own = identity_size (codes "assemblyIdentity") number few in
    let hash = hash_size (application_text (application number)) in
    let short = application_short number few in
    let count = length-decimal-le 5 (length (application_text (application number))) (omega arith) (omega (arith, short)) (omega (arith, short)) in
    omega (arith, own, hash, count)

deployment_size : (number : ℕ) → number < 2 ^ 16 → size (deployment_tree (deployment number) (codes "demo") (codes "demo")) ≤ 20000
unfolding deployment_tree
deployment_size number few =
    let own = identity_size (codes "asmv1:assemblyIdentity") number few in
    let dependency = dependency_size number few in
    let terms = terms_size number in
    let root = root_size (identity_tree (codes "asmv1:assemblyIdentity") (identity number) ∷ description_tree (codes "demo") (codes "demo") ∷ terms_tree (deployment number) ∷ dependency_tree (deployment number) ∷ []) in
    omega (arith, own, dependency, terms, description_size, root)

deployment_short : (number : ℕ) → number < 2 ^ 16 → length (deployment_text (deployment number) (codes "demo") (codes "demo")) ≤ 30000
deployment_short number few =
    let t = deployment_tree (deployment number) (codes "demo") (codes "demo") in
    let long = element_long t in
    let most = deployment_size number few in
    omega (arith, length-written t, long, most)

-- ---- the release

demo_is : IsContent (codes "demo")
unfolding allowed
demo_is = record { allowed = refl; utf8 = word (codes "demo") refl }

module _ (number : ℕ) (few : number < 2 ^ 16) where
  deployment_is : IsDeployment (deployment number)
  unfolding allowed
  deployment_is = record {
    facts = record {
      identity = is_identity number few;
      install = refl;
      minimum = tt;
      rule = tt;
      provider = tt;
      codebase = record { some = omega arith; few = omega arith; allowed = refl };
      app = is_identity number few;
      app_size = (let short = application_short number few in omega (arith, short));
      app_list = sized (application_text (application number));
    };
    identity = has_identity number few;
    minimum = tt;
    provider = tt;
    codebase = word (codes "demo.manifest") refl;
    app = has_identity number few;
    app_list = record { some = omega arith; within = omega arith };
  }

  pub written_deployment : IsWrittenDeployment (deployment number) (codes "demo") (codes "demo")
  written_deployment = record {
    may_be_held = deployment_is;
    digests = held (application_text (application number));
    publisher_is = demo_is;
    product_is = demo_is;
    short = (let short = deployment_short number few in omega (arith, short));
  }

  written_application : IsWrittenApplication (application number)
  written_application = record {
    may_be_held = application_is number few;
    digests = one (λ (entry : FileEntry). All IsHeldDigest entry.list) (program number) (held (content number));
    short = (let short = application_short number few in omega (arith, short));
  }

  pub written_release : IsWrittenRelease (release number)
  written_release = record {
    deployment_is = written_deployment;
    application_is = written_application;
    listed = matches (application_text (application number)) (length (application_text (application number))) refl;
    key = refl;
    version = refl;
  }
