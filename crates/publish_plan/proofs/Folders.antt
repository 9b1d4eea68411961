-- Names in folders.
use Rattle.std.proofs.Common.{◌≡◌, ◌⊎◌, ℕ, ◌+◌, Bool, true, false, ◌&&◌, ◌||◌, List, [], ◌∷◌, ◌++◌, length, take, drop, codes, refl, sym, ap, ap₂, subst, ◌∙◌, inl, inr, append_assoc}
use Rattle.std.specs.List.{list_all}
use Rattle.std.specs.Str.{bytes_eq}
use Rattle.std.proofs.lemmas.Bool.{and_parts, or_left, or_right, both_ways, false_from_ne_true}
use Rattle.std.proofs.lemmas.List.{take_at, append_cancel_left, append_cancel_right}
use Rattle.std.proofs.lemmas.List.Folds.{list_all-append}
use Rattle.std.proofs.lemmas.Slice.Eq.{bytes_eq-Decides}
use Rattle.publish_plan.specs.declared.options.Options.{Options}
use Rattle.publish_plan.specs.Early.{overlap}
use Rattle.publish_plan.specs.Places.{within, front_of, has_front, behind, lies_below, is_plain_name, release_word, version_folder, deploy_end, target_name, manifest_end, manifest_name, deployment_name}
use Rattle.publish_plan.proofs.PathLemmas.{is_plain, IsPlain, plain_joined, behind_rest}
use Rattle.publish_plan.proofs.PlaceLemmas.{word_plain}

pub below_within : (folder name : List ℕ) → lies_below folder (within folder name) ≡ true
below_within folder name =
    let front = front_of folder in
    let same : within folder name ≡ front ++ name = sym (append_assoc folder (47 ∷ []) name) in
    (bytes_eq-Decides front (take (length front) (within folder name))).1 (sym (ap (take (length front)) same ∙ take_at front name (length front) refl))

heads : (x y : ℕ) (xs ys : List ℕ) → x ∷ xs ≡ y ∷ ys → x ≡ y
heads x y xs ys same = cc

tails : (x y : ℕ) (xs ys : List ℕ) → x ∷ xs ≡ y ∷ ys → xs ≡ ys
tails x y xs ys same = cc

-- two folders that one name lies in
pub record Inside (outer inner : List ℕ) : Type 0 where
  pub rest : List ℕ
  pub is : inner ≡ within outer rest

nested : (xs ys a b : List ℕ) → xs ++ 47 ∷ a ≡ ys ++ 47 ∷ b → (xs ≡ ys) ⊎ (Inside xs ys ⊎ Inside ys xs)
nested [] [] a b same = inl refl
nested [] (y ∷ ys) a b same = inr (inl (record { rest = ys; is = ap (λ (c : ℕ). c ∷ ys) (sym (heads 47 y a (ys ++ 47 ∷ b) same)) }))
nested (x ∷ xs) [] a b same = inr (inr (record { rest = xs; is = ap (λ (c : ℕ). c ∷ xs) (heads x 47 (xs ++ 47 ∷ a) b same) }))
nested (x ∷ xs) (y ∷ ys) a b same =
    let one = heads x y (xs ++ 47 ∷ a) (ys ++ 47 ∷ b) same in
    elim (nested xs ys a b (tails x y (xs ++ 47 ∷ a) (ys ++ 47 ∷ b) same)) [
      | inl equal ↦ inl (ap₂ (λ (c : ℕ) (cs : List ℕ). c ∷ cs) one equal)
      | inr apart ↦ elim apart [
        | inl inner ↦ inr (inl (record { rest = inner.rest; is = ap₂ (λ (c : ℕ) (cs : List ℕ). c ∷ cs) (sym one) inner.is }))
        | inr outer ↦ inr (inr (record { rest = outer.rest; is = ap₂ (λ (c : ℕ) (cs : List ℕ). c ∷ cs) one outer.is }))
      ]
    ]

overlapping : (from to : List ℕ) → (from ≡ to) ⊎ (Inside from to ⊎ Inside to from) → overlap from to ≡ true
overlapping from to (inl equal) = or_left (bytes_eq from to || lies_below from to) (lies_below to from) (or_left (bytes_eq from to) (lies_below from to) ((bytes_eq-Decides from to).1 equal))
overlapping from to (inr (inl inner)) =
    or_left (bytes_eq from to || lies_below from to) (lies_below to from) (or_right (bytes_eq from to) (lies_below from to) (ap (lies_below from) inner.is ∙ below_within from inner.rest))
overlapping from to (inr (inr outer)) = or_right (bytes_eq from to || lies_below from to) (lies_below to from) (ap (lies_below to) outer.is ∙ below_within to outer.rest)

-- a name in the folder of the version lies below the folder that is written to
in_version : (o : Options) (name : List ℕ) → lies_below (version_folder o) name ≡ true
    → within o.to (within (codes "Application Files") (within (release_word o) (behind (front_of (version_folder o)) name))) ≡ name
unfolding version_folder
in_version o name below =
    let rest = behind (front_of (version_folder o)) name in
    sym (append_assoc o.to (47 ∷ within (codes "Application Files") (release_word o)) (47 ∷ rest)) ∙ behind_rest (version_folder o) name below

-- what is read does not stand in the folder of the version
pub source_outside : (o : Options) (file : List ℕ) → overlap o.from o.to ≡ false → lies_below (version_folder o) (within o.from file) ≡ false
source_outside o file apart = false_from_ne_true (lies_below (version_folder o) (within o.from file)) (λ below.
    both_ways (overlap o.from o.to) apart (overlapping o.from o.to (nested o.from o.to file _ (sym (in_version o (within o.from file) below)))))

deployment_plain : (o : Options) → is_plain_name o.name ≡ true → IsPlain (o.name ++ codes ".application")
deployment_plain o word = plain_joined o.name (codes ".application") (word_plain o.name word).0 (record { each = refl })

no_slash_inside : (front rest : List ℕ) → list_all is_plain (within front rest) ≡ true → ⊥
no_slash_inside front rest plain =
    let parts = and_parts (list_all is_plain front) (list_all is_plain (47 ∷ rest)) (sym (list_all-append is_plain front (47 ∷ rest)) ∙ plain) in
    both_ways (list_all is_plain (47 ∷ rest)) refl parts.1

-- nor does the deployment manifest
pub deployment_outside : (o : Options) → is_plain_name o.name ≡ true → lies_below (version_folder o) (deployment_name o) ≡ false
unfolding deployment_name
deployment_outside o word = false_from_ne_true (lies_below (version_folder o) (within o.to (o.name ++ codes ".application"))) (λ below.
    let name = o.name ++ codes ".application" in
    let inner = within (codes "Application Files") (within (release_word o) (behind (front_of (version_folder o)) (within o.to name))) in
    let same : within o.to inner ≡ within o.to name = in_version o (within o.to name) below in
    let end : inner ≡ name = tails 47 47 inner name (append_cancel_left o.to (47 ∷ inner) (47 ∷ name) same) in
    no_slash_inside (codes "Application Files") (within (release_word o) (behind (front_of (version_folder o)) (within o.to name))) (ap (list_all is_plain) end ∙ (deployment_plain o word).each))

pub target_inside : (o : Options) (file : List ℕ) → lies_below (version_folder o) (target_name o file) ≡ true
unfolding target_name
target_inside o file = below_within (version_folder o) (file ++ deploy_end o.mapped)

pub manifest_inside : (o : Options) → lies_below (version_folder o) (manifest_name o) ≡ true
unfolding manifest_name
manifest_inside o = below_within (version_folder o) (o.entry ++ manifest_end)

-- two files are not written under one name
pub target_one : (o : Options) (x y : List ℕ) → target_name o x ≡ target_name o y → x ≡ y
unfolding target_name
target_one o x y same =
    append_cancel_right x y (deploy_end o.mapped) (tails 47 47 (x ++ deploy_end o.mapped) (y ++ deploy_end o.mapped) (append_cancel_left (version_folder o) (47 ∷ (x ++ deploy_end o.mapped)) (47 ∷ (y ++ deploy_end o.mapped)) same))

-- a name in the folder is none outside
pub inside_outside : (folder x y : List ℕ) → lies_below folder x ≡ true → lies_below folder y ≡ false → x ≡ y → ⊥
inside_outside folder x y inside outside same = both_ways (lies_below folder x) (ap (lies_below folder) same ∙ outside) inside
