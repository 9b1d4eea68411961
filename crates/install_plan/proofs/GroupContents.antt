-- The contents of the wanted files of a group are exactly those that it has to bring.
use Rattle.std.proofs.Common.{◌≡◌, ◌≢◌, ◌∙◌, ◌⊎◌, ◌++◌, inl, inr, refl, sym, subst, ℕ, Bool, true, false, List, map, All, AllPairs, Contains, IsSome}
use Rattle.std.specs.Prelude.{Any}
use Rattle.manifests.specs.declared.facts.Application.{Application}
use Rattle.manifests.specs.declared.facts.FileEntry.{FileEntry}
use Rattle.machine.specs.Blocks.{standing_files}
use Rattle.machine.specs.GroupLaws.{AreMissing}
use Rattle.machine.specs.Groups.{group_files, group_wanted}
use Rattle.machine.specs.Shape.{BareView}
use Rattle.machine.specs.Views.{ContentKey, content_key, same_content}
use Rattle.machine.specs.Wanted.{is_held}
use Rattle.machine.proofs.Members.{In, all_in, contains_in, in_all, in_contains, in_left, in_map, in_right, map_in, pairs_map, pairs_weaker}
use Rattle.machine.proofs.MissingFiles.{are_missing}
use Rattle.machine.proofs.OwnContents.{in_passes, is_same, passes_in, same_is}
use Rattle.store_state.specs.declared.view.Content.{Content}
use Rattle.store_state.specs.Contents.{AreContentsOf, Brings, content_of, held_key, is_content_of}
use Rattle.store_state.specs.Contents.{is_same as same_contents}
use Rattle.store_state.proofs.Keyed.{key_of, of_key, same_key}
use Rattle.install_plan.proofs.Keyed.{both, found, pairs_before, some_found}
use Rattle.install_plan.proofs.Wants.{in_any}

module _ (views : List BareView) (group : List ℕ) (a : Application) (contents new : List Content)
    (are : AreContentsOf (standing_files views) contents)
    (keys : map held_key new ≡ map content_key (group_wanted views group a)) where
  abbrev held : List FileEntry
  held = standing_files views

  abbrev entries : List FileEntry
  entries = group_files group a

  abbrev wants : List FileEntry
  wants = group_wanted views group a

  abbrev missing : AreMissing views group a
  missing = are_missing views group a

  -- the content that was brought for a wanted file
  brought : (entry : FileEntry) → In entry wants
      → (content : Content) × In content new × (held_key content ≡ content_key entry)
  brought entry there =
      map_in held_key new (content_key entry)
      (subst (λ (ks : List ContentKey). In (content_key entry) ks) (sym keys)
      (in_map content_key wants entry there))

  -- the wanted file that a content was brought for
  brought_for : (content : Content) → In content new
      → (entry : FileEntry) × In entry wants × (content_key entry ≡ held_key content)
  brought_for content there =
      map_in content_key wants (held_key content)
      (subst (λ (ks : List ContentKey). In (held_key content) ks) keys
      (in_map held_key new content there))

  has_content : (entry : FileEntry) → In entry entries → IsSome (content_of (contents ++ new) entry)
  has_content entry there = by (missing.each entry (contains_in entries entry there))
    where
      held_by : (file : FileEntry) → In file held → content_key entry ≡ content_key file
          → IsSome (content_of (contents ++ new) entry)
      held_by file of same =
          let first = found (is_content_of file) contents
          (all_in (λ (e : FileEntry). IsSome (content_of contents e)) held file are.each of) in
          some_found (is_content_of entry) (contents ++ new) first.item
          (in_left contents new first.item first.there)
          (key_of entry first.item (same ∙ of_key file first.item first.passes))

      brought_by : (file : FileEntry) → In file wants → content_key entry ≡ content_key file
          → IsSome (content_of (contents ++ new) entry)
      brought_by file of same =
          let from = brought file of in
          some_found (is_content_of entry) (contents ++ new) from.0
          (in_right contents new from.0 from.1) (key_of entry from.0 (same ∙ sym from.2))

      by : (is_held held entry ≡ true) ⊎ (is_held wants entry ≡ true)
          → IsSome (content_of (contents ++ new) entry)
      by (inl old) =
          let file = passes_in (same_content entry) held old in
          held_by file.0 file.1 (same_is entry file.0 file.2)
      by (inr fresh) =
          let file = passes_in (same_content entry) wants fresh in
          brought_by file.0 file.1 (same_is entry file.0 file.2)

  of_entry : (content : Content) → In content new
      → Any (λ (entry : FileEntry). is_content_of entry content ≡ true) entries
  of_entry content there =
      let from = brought_for content there in
      let within : In from.0 entries =
      in_contains entries from.0
      (all_in (Contains entries) wants from.0 missing.among from.1) in
      in_any (λ (entry : FileEntry). is_content_of entry content ≡ true) entries from.0 within
      (key_of from.0 content from.2)

  is_lacking : (content other : Content) → In content new → In other contents
      → same_contents other content ≡ false
  is_lacking content other there kept = by (same_contents other content) refl
    where
      by : (b : Bool) → same_contents other content ≡ b → same_contents other content ≡ false
      by true e =
          let from = brought_for content there in
          let of = all_in
          (λ (c : Content). Any (λ (entry : FileEntry). is_content_of entry c ≡ true) held)
          contents other are.only kept in
          let file : In of.1 held = in_contains held of.1 (of.0, of.2, of.3) in
          let same : content_key from.0 ≡ content_key of.1 =
          from.2 ∙ sym (same_key other content e) ∙ sym (of_key of.1 other of.4) in
          let fresh = all_in (λ (entry : FileEntry). is_held held entry ≡ false) wants from.0
          missing.new from.1 in
          both (is_held held from.0)
          (in_passes (same_content from.0) held of.1 file (is_same from.0 of.1 same)) fresh
      by false e = e

  are_once : AllPairs (λ (x y : Content). same_contents x y ≡ false) new
  are_once =
      let apart = pairs_map content_key
      (λ (x y : FileEntry). ◌≢◌ {A = ContentKey} (content_key x) (content_key y))
      (λ (x y : ContentKey). x ≢ y) wants (λ x y differ. differ) missing.once in
      let kept = pairs_before held_key (λ (x y : ContentKey). x ≢ y) new
      (subst (AllPairs (λ (x y : ContentKey). x ≢ y)) (sym keys) apart) in
      pairs_weaker (λ (x y : Content). ◌≢◌ {A = ContentKey} (held_key x) (held_key y))
      (λ (x y : Content). same_contents x y ≡ false) new
      (λ x y differ. other x y differ (same_contents x y) refl) kept
    where
      other : (x y : Content) → ◌≢◌ {A = ContentKey} (held_key x) (held_key y) → (b : Bool)
          → same_contents x y ≡ b → same_contents x y ≡ false
      other x y differ true e = absurd (differ (same_key x y e))
      other x y differ false e = e

  pub brings_group : Brings contents (group_files group a) new
  brings_group = record {
    each = in_all (λ (entry : FileEntry). IsSome (content_of (contents ++ new) entry)) entries
        has_content;
    only = in_all
        (λ (content : Content). Any (λ (entry : FileEntry). is_content_of entry content ≡ true)
        entries) new of_entry;
    lacking = in_all
        (λ (content : Content). All (λ (other : Content). same_contents other content ≡ false)
        contents) new
        (λ content there. in_all
        (λ (other : Content). same_contents other content ≡ false) contents
        (λ other kept. is_lacking content other there kept));
    once = are_once;
  }
