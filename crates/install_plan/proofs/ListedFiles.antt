-- What is listed for the files that a plan wants.
use Rattle.std.proofs.Common.{◌≡◌, ◌∙◌, inl, inr, refl, sym, ap, subst, ℕ, List, [], ◌∷◌, map, Option, Some, Result, Ok}
use Rattle.std.specs.Prelude.{IsSomeAnd, slice_get}
use Rattle.small_types.specs.declared.target.Target.{Target}
use Rattle.addresses.specs.declared.fault.UrlFault.{UrlFault}
use Rattle.digest_list.specs.declared.digest.Digest.{Digest}
use Rattle.manifests.specs.declared.facts.FileEntry.{FileEntry}
use Rattle.machine.proofs.Members.{In}
use Rattle.install_plan.specs.declared.plan.WantedFile.{WantedFile}
use Rattle.install_plan.specs.FetchedFiles.{IsEntryAt, IsListedIn, addresses}

first_same : {X : Type 0} (x y : X) (xs ys : List X) → ◌≡◌ {A = List X} (x ∷ xs) (y ∷ ys) → x ≡ y
first_same x y xs ys e = cc

rest_same : {X : Type 0} (x y : X) (xs ys : List X) → ◌≡◌ {A = List X} (x ∷ xs) (y ∷ ys) → xs ≡ ys
rest_same x y xs ys e = cc

none_longer : {X : Type 0} (x : X) (xs : List X) → ◌≡◌ {A = List X} (x ∷ xs) [] → ⊥
none_longer x xs e = cc

-- it is one of the wanted entries, at its address
pub listed_among : (files : List FileEntry) (place_of : FileEntry → Result Target UrlFault)
    (entries : List FileEntry) (wanted : List WantedFile)
    → map (λ (f : WantedFile). slice_get files f.place) wanted ≡ map Some entries
    → map place_of entries ≡ map Ok (addresses wanted) → (t : Target) (l : List Digest) (s : ℕ)
    → IsListedIn files wanted t l s
    → (entry : FileEntry) × In entry entries × (place_of entry ≡ Ok t) × (l ≡ entry.list) × (s ≡ entry.size)
listed_among files place_of entries [] places targets t l s is = absurd is
listed_among files place_of [] (file ∷ wanted) places targets t l s is =
    absurd (none_longer (slice_get files file.place) (map (λ (f : WantedFile). slice_get files f.place) wanted) places)
listed_among files place_of (entry ∷ entries) (file ∷ wanted) places targets t l s (inl here) =
    let at : slice_get files file.place ≡ Some entry =
    first_same (slice_get files file.place) (Some entry) (map (λ (f : WantedFile). slice_get files f.place) wanted) (map Some entries) places in
    let is : IsEntryAt entry file.target t l s =
    subst (λ (o : Option FileEntry). IsSomeAnd o (λ e. IsEntryAt e file.target t l s)) at here in
    let there : place_of entry ≡ Ok file.target =
    first_same (place_of entry) (Ok file.target) (map place_of entries) (map Ok (addresses wanted)) targets in
    (entry, inl refl, there ∙ ap Ok (sym is.0), is.1, is.2)
listed_among files place_of (entry ∷ entries) (file ∷ wanted) places targets t l s (inr there) =
    let rest = listed_among files place_of entries wanted
    (rest_same (slice_get files file.place) (Some entry) (map (λ (f : WantedFile). slice_get files f.place) wanted) (map Some entries) places)
    (rest_same (place_of entry) (Ok file.target) (map place_of entries) (map Ok (addresses wanted)) targets) t l s there in
    (rest.0, inr rest.1, rest.2, rest.3, rest.4)
