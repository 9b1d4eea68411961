-- The contents of the wanted files are exactly those that an install has to bring.
use Rattle.std.proofs.Common.{◌≡◌, ◌≢◌, ◌∙◌, ◌⊎◌, ◌&&◌, ◌++◌, inl, inr, refl, sym, ap, subst, ℕ, Bool, true, false, not, cond, List, [], ◌∷◌, map, All, AllPairs, IsSome}
use Rattle.std.specs.Prelude.{Any, filter}
use Rattle.std.proofs.lemmas.Bool.{and_parts}
use Rattle.small_types.specs.declared.room.Room.{Room}
use Rattle.digest_list.specs.Matches.{Matches}
use Rattle.manifests.specs.declared.facts.Application.{Application}
use Rattle.manifests.specs.declared.facts.FileEntry.{FileEntry}
use Rattle.machine.specs.Blocks.{standing_files}
use Rattle.machine.specs.InstallLaws.{AreWanted}
use Rattle.machine.specs.Shape.{BareView}
use Rattle.machine.specs.Views.{ContentKey, content_key, is_required, same_content, standing_entries}
use Rattle.machine.specs.Wanted.{is_held, wanted, wanted_beside}
use Rattle.machine.proofs.NewView.{standing_required}
use Rattle.machine.proofs.Members.{In, all_in, contains_in, filter_in, in_all, in_contains, in_filter, in_left, in_map, in_right, map_in, pairs_map, pairs_weaker}
use Rattle.machine.proofs.OwnContents.{in_passes, is_same, passes_in, same_is}
use Rattle.machine.proofs.WantedFiles.{are_wanted}
use Rattle.store_state.specs.declared.view.Content.{Content}
use Rattle.store_state.specs.Contents.{AreContentsOf, Brings, content_of, held_key, is_content_of}
use Rattle.store_state.specs.Contents.{is_same as same_contents}
use Rattle.store_state.specs.Stored.{content_bytes}
use Rattle.store_state.proofs.Keyed.{key_of, of_key, same_key}
use Rattle.install_plan.proofs.Keyed.{both, found, pairs_before, some_found}

-- ---- wanted files

any_of : {X : Type 0} (P : X → Type 0) (xs : List X) (x : X) → In x xs → P x → Any P xs
any_of P xs x there holds = let at = contains_in xs x there in (at.0, x, at.1, at.2, holds)

-- they are of the files
pub wanted_within : (es held : List FileEntry) (x : FileEntry) → In x (wanted_beside held es) → In x es
wanted_within [] held x there = absurd there
wanted_within (e ∷ es) held x there = by e.local (is_required e && not (is_held held e)) there (wanted_within es held x) (wanted_within es (e ∷ held) x)
  where
    by : (b t : Bool) → In x (cond b (e ∷ wanted_beside held es) (cond t (e ∷ wanted_beside (e ∷ held) es) (wanted_beside held es))) → (In x (wanted_beside held es) → In x es) → (In x (wanted_beside (e ∷ held) es) → In x es) → In x (e ∷ es)
    by true t (inl is) same more = inl is
    by true t (inr later) same more = inr (same later)
    by false true (inl is) same more = inl is
    by false true (inr later) same more = inr (more later)
    by false false later same more = inr (same later)

-- and those that are no data files are required
pub wanted_required : (es held : List FileEntry) (x : FileEntry) → In x (wanted_beside held es) → x.local ≡ false → is_required x ≡ true
wanted_required [] held x there program = absurd there
wanted_required (e ∷ es) held x there program = by e.local (is_required e && not (is_held held e)) refl refl there (λ later. wanted_required es held x later program) (λ later. wanted_required es (e ∷ held) x later program)
  where
    by : (b t : Bool) → e.local ≡ b → (is_required e && not (is_held held e)) ≡ t → In x (cond b (e ∷ wanted_beside held es) (cond t (e ∷ wanted_beside (e ∷ held) es) (wanted_beside held es))) → (In x (wanted_beside held es) → is_required x ≡ true) → (In x (wanted_beside (e ∷ held) es) → is_required x ≡ true) → is_required x ≡ true
    by true t local takes (inl is) same more = both e.local local (ap (λ (y : FileEntry). y.local) is ∙ program)
    by true t local takes (inr later) same more = same later
    by false true local takes (inl is) same more = sym (ap is_required is) ∙ (and_parts (is_required e) (not (is_held held e)) takes).0
    by false true local takes (inr later) same more = more later
    by false false local takes later same more = same later

-- ---- the contents of the wanted files

-- the bytes that an image has of a content match what is said of it
abbrev pub IsWholeContent : Room → List ℕ → Content → Type 0
IsWholeContent room image content = Matches content.list content.size (content_bytes room image content)

module _ (views : List BareView) (a : Application) (contents new : List Content) (are : AreContentsOf (standing_files views) contents) (keys : map held_key new ≡ map content_key (filter is_required (wanted views a))) where
  abbrev held : List FileEntry
  held = standing_files views

  abbrev entries : List FileEntry
  entries = filter is_required a.files

  abbrev suffices : AreWanted views a
  suffices = are_wanted views a

  abbrev programs : List FileEntry
  programs = filter is_required (wanted views a)

  -- the content that was brought for a wanted file
  brought : (entry : FileEntry) → In entry programs → (content : Content) × In content new × (held_key content ≡ content_key entry)
  brought entry there = map_in held_key new (content_key entry) (subst (λ (ks : List ContentKey). In (content_key entry) ks) (sym keys) (in_map content_key programs entry there))

  -- the wanted file that a content was brought for
  pub brought_for : (content : Content) → In content new → (entry : FileEntry) × In entry programs × (content_key entry ≡ held_key content)
  brought_for content there = map_in content_key programs (held_key content) (subst (λ (ks : List ContentKey). In (held_key content) ks) keys (in_map held_key new content there))

  has_content : (entry : FileEntry) → In entry entries → IsSome (content_of (contents ++ new) entry)
  has_content entry there =
      let of = filter_in is_required a.files entry there in
      by (suffices.each entry of.0 (contains_in a.files entry of.1))
    where
      held_by : (file : FileEntry) → In file held → content_key entry ≡ content_key file → IsSome (content_of (contents ++ new) entry)
      held_by file there same =
          let first = found (is_content_of file) contents (all_in (λ (e : FileEntry). IsSome (content_of contents e)) held file are.each there) in
          some_found (is_content_of entry) (contents ++ new) first.item (in_left contents new first.item first.there) (key_of entry first.item (same ∙ of_key file first.item first.passes))

      brought_by : (file : FileEntry) → In file programs → content_key entry ≡ content_key file → IsSome (content_of (contents ++ new) entry)
      brought_by file there same =
          let from = brought file there in
          some_found (is_content_of entry) (contents ++ new) from.0 (in_right contents new from.0 from.1) (key_of entry from.0 (same ∙ sym from.2))

      by : (is_held held entry ≡ true) ⊎ (is_held (filter is_required (wanted views a)) entry ≡ true) → IsSome (content_of (contents ++ new) entry)
      by (inl old) = let file = passes_in (same_content entry) held old in held_by file.0 file.1 (same_is entry file.0 file.2)
      by (inr fresh) =
          let file = passes_in (same_content entry) (filter is_required (wanted views a)) fresh in
          brought_by file.0 file.1 (same_is entry file.0 file.2)

  of_entry : (content : Content) → In content new → Any (λ entry. is_content_of entry content ≡ true) entries
  of_entry content there =
      let from = brought_for content there in
      let of = filter_in is_required (wanted views a) from.0 from.1 in
      let within = wanted_within a.files (standing_files views) from.0 of.1 in
      any_of (λ entry. is_content_of entry content ≡ true) entries from.0 (in_filter is_required a.files from.0 of.0 within) (key_of from.0 content from.2)

  is_lacking : (content other : Content) → In content new → In other contents → same_contents other content ≡ false
  is_lacking content other there kept = by (same_contents other content) refl
    where
      by : (b : Bool) → same_contents other content ≡ b → same_contents other content ≡ false
      by true e =
          let from = brought_for content there in
          let of = all_in (λ (c : Content). Any (λ entry. is_content_of entry c ≡ true) held) contents other are.only kept in
          let file : In of.1 held = in_contains held of.1 (of.0, of.2, of.3) in
          let same : content_key from.0 ≡ content_key of.1 = from.2 ∙ sym (same_key other content e) ∙ sym (of_key of.1 other of.4) in
          let fresh = all_in (λ (entry : FileEntry). is_held held entry ≡ false) (filter is_required (wanted views a)) from.0 suffices.new from.1 in
          both (is_held held from.0) (in_passes (same_content from.0) held of.1 file (is_same from.0 of.1 same)) fresh
      by false e = e

  are_once : AllPairs (λ (x y : Content). same_contents x y ≡ false) new
  are_once =
      let apart = pairs_map content_key (λ (x y : FileEntry). ◌≢◌ {A = ContentKey} (content_key x) (content_key y)) (λ (x y : ContentKey). x ≢ y) programs (λ x y differ. differ) suffices.once in
      let kept = pairs_before held_key (λ (x y : ContentKey). x ≢ y) new (subst (AllPairs (λ (x y : ContentKey). x ≢ y)) (sym keys) apart) in
      pairs_weaker (λ (x y : Content). ◌≢◌ {A = ContentKey} (held_key x) (held_key y)) (λ (x y : Content). same_contents x y ≡ false) new (λ x y differ. other x y differ (same_contents x y) refl) kept
    where
      other : (x y : Content) → ◌≢◌ {A = ContentKey} (held_key x) (held_key y) → (b : Bool) → same_contents x y ≡ b → same_contents x y ≡ false
      other x y differ true e = absurd (differ (same_key x y e))
      other x y differ false e = e

  pub brings : Brings contents (standing_entries [] a) new
  brings = subst (λ (es : List FileEntry). Brings contents es new) (sym (standing_required a)) (record {
    each = in_all (λ (entry : FileEntry). IsSome (content_of (contents ++ new) entry)) entries has_content;
    only = in_all (λ (content : Content). Any (λ entry. is_content_of entry content ≡ true) entries) new of_entry;
    lacking = in_all (λ (content : Content). All (λ other. same_contents other content ≡ false) contents) new (λ content there. in_all (λ (other : Content). same_contents other content ≡ false) contents (λ other kept. is_lacking content other there kept));
    once = are_once;
  })
