-- What a manifest's text tells is one thing.
use Rattle.std.proofs.Common.{◌≡◌, ◌≢◌, ◌∙◌, ◌⊎◌, inl, inr, refl, sym, ap, ℕ, List, Option, Some, Ok, Err}
use Rattle.manifest_tree.specs.declared.fault.TreeFault.{TreeFault}
use Rattle.manifest_tree.specs.declared.fault.TreeKind.{TreeKind}
use Rattle.manifest_tree.specs.Refusals.{IsRefusal}
use Rattle.manifest_tree.specs.Tree.{Tree}
use Rattle.manifest_tree.proofs.Flat.{one_tree_read, spelled_read}
use Rattle.manifest_tree.proofs.Refused.{one_refusal_lem, spelled_unrefused}
use Rattle.manifest_parts.specs.declared.fault.ManifestFault.{ManifestFault}
use Rattle.manifest_parts.specs.declared.fault.ManifestFault.TheVariants as fault
use Rattle.manifest_parts.specs.Elements.{Read}
use Rattle.manifest_parts.specs.Parts.{RefusesBytes, Tells}

pub same_text : (found : Option (List ℕ)) (a b : List ℕ) → found ≡ Some a → found ≡ Some b → a ≡ b
same_text found a b first second = some_is a b (sym first ∙ second)
  where
    some_is : (x y : List ℕ) → ◌≡◌ {A = Option (List ℕ)} (Some x) (Some y) → x ≡ y
    some_is x y e = cc

module _ {A : Type 0} (facts : Tree → Read A) (bytes : List ℕ) where
  pub tells_one : (r s : Read A) → Tells facts bytes r → Tells facts bytes s → r ≡ s
  tells_one r s first second =
      let same = one_tree_read bytes first.tree second.tree (spelled_read bytes first.tree first.spelled) (spelled_read bytes second.tree second.spelled) in
      sym first.facts_are ∙ ap facts same ∙ second.facts_are

  ok_is : (a b : A) → ◌≡◌ {A = Read A} (Ok a) (Ok b) → a ≡ b
  ok_is a b e = cc

  err_is : (x y : ManifestFault) → ◌≡◌ {A = Read A} (Err x) (Err y) → x ≡ y
  err_is x y e = cc

  pub told_one : (a b : A) → Tells facts bytes (Ok a) → Tells facts bytes (Ok b) → a ≡ b
  told_one a b first second = ok_is a b (tells_one (Ok a) (Ok b) first second)

  -- of the text, or of what it tells
  Kind : ManifestFault → Type 0
  Kind x = ((e : TreeFault) × (x ≡ fault.Tree e) × IsRefusal bytes e.kind e.place) ⊎ Tells facts bytes (Err x)

  kind_of : (x : ManifestFault) → RefusesBytes facts bytes x → x ≢ fault.Memory → Kind x
  unfolding Kind
  kind_of fault.Memory refuses other = absurd (other refl)
  kind_of (fault.Tree e) refuses other = inl (e, refl, refuses)
  kind_of (fault.Missing what) refuses other = inr refuses
  kind_of (fault.Twice what) refuses other = inr refuses
  kind_of (fault.BadValue what) refuses other = inr refuses
  kind_of fault.Signed refuses other = inr refuses
  kind_of (fault.NoDigest file) refuses other = inr refuses
  kind_of (fault.BadName file) refuses other = inr refuses
  kind_of (fault.TwiceNamed file) refuses other = inr refuses
  kind_of (fault.MinimumAboveVersion minimum version) refuses other = inr refuses
  kind_of fault.OnlineOnly refuses other = inr refuses
  kind_of (fault.TooMany what) refuses other = inr refuses

  one_error : (e f : TreeFault) → e.kind ≡ f.kind → e.place ≡ f.place → e ≡ f
  one_error e f kind place = ap (λ (k : TreeKind). record e { kind = k }) kind ∙ ap (λ (n : ℕ). record f { place = n }) place

  one_kind : (x y : ManifestFault) → Kind x → Kind y → x ≡ y
  unfolding Kind
  one_kind x y (inl a) (inl b) =
      let same = one_refusal_lem bytes a.0.kind b.0.kind a.0.place b.0.place a.2 b.2 in
      a.1 ∙ ap (λ (e : TreeFault). fault.Tree e) (one_error a.0 b.0 same.0 same.1) ∙ sym b.1
  one_kind x y (inl a) (inr b) = absurd (spelled_unrefused bytes b.tree a.0.kind a.0.place b.spelled a.2)
  one_kind x y (inr a) (inl b) = absurd (spelled_unrefused bytes a.tree b.0.kind b.0.place a.spelled b.2)
  one_kind x y (inr a) (inr b) = err_is x y (tells_one (Err x) (Err y) a b)

  pub refused_one : (x y : ManifestFault) → RefusesBytes facts bytes x → x ≢ fault.Memory → RefusesBytes facts bytes y → y ≢ fault.Memory → x ≡ y
  refused_one x y first other second another = one_kind x y (kind_of x first other) (kind_of y second another)
