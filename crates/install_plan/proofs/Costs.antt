-- What was asked for, of wanted files, by what the application says of them.
use Rattle.std.proofs.Common.{◌≡◌, ◌∙◌, ◌+◌, ◌++◌, refl, sym, ap, subst, ℕ, List, [], ◌∷◌, map, Some, Result, Ok}
use Rattle.std.specs.Prelude.{slice_get, sum_by}
use Rattle.std.proofs.lemmas.List.Sums.{sum_by-cons}
use Rattle.small_types.specs.declared.target.Target.{Target}
use Rattle.addresses.specs.declared.fault.UrlFault.{UrlFault}
use Rattle.manifests.specs.declared.facts.FileEntry.{FileEntry}
use Rattle.links.specs.Links.{LinksState}
use Rattle.install_plan.specs.declared.plan.WantedFile.{WantedFile}
use Rattle.install_plan.specs.FetchedFiles.{WritesAsked, addresses, size_in}
use Rattle.install_plan.proofs.WantedPlaces.{at_places, oks, rest_is, somes}

-- the files that the first of the wanted ones are
pub record AreFirst (files : List FileEntry) (at : FileEntry → Result Target UrlFault)
    (entries : List FileEntry) (asked : List WantedFile) : Type 0 where
  pub earlier : List FileEntry
  pub later : List FileEntry
  pub split : entries ≡ earlier ++ later
  pub named : map at earlier ≡ oks (addresses asked)
  pub sum : sum_by (λ file. size_in (slice_get files file.place)) asked
      ≡ sum_by (λ entry. entry.size) earlier

no_first : {X : Type 0} {P : Type 0} (x : X) (xs : List X) → x ∷ xs ≡ [] → P
no_first x xs e = absurd cc

first_is : {X : Type 0} (x y : X) (xs ys : List X) → x ∷ xs ≡ y ∷ ys → x ≡ y
first_is x y xs ys e = cc

pub are_first : (files : List FileEntry) (at : FileEntry → Result Target UrlFault)
    (entries : List FileEntry) (asked others : List WantedFile)
    → at_places files (asked ++ others) ≡ somes entries
    → map at entries ≡ oks (addresses (asked ++ others))
    → AreFirst files at entries asked
are_first files at entries [] others places targets =
    record { earlier = []; later = entries; split = refl; named = refl; sum = refl }
are_first files at [] (file ∷ asked) others places targets =
    no_first (slice_get files file.place) (at_places files (asked ++ others)) places
are_first files at (entry ∷ entries) (file ∷ asked) others places targets =
    let place = first_is (slice_get files file.place) (Some entry)
    (at_places files (asked ++ others)) (somes entries) places in
    let target = first_is (at entry) (Ok file.target) (map at entries)
    (oks (addresses (asked ++ others))) targets in
    let rest = are_first files at entries asked others
    (rest_is (slice_get files file.place) (Some entry) (at_places files (asked ++ others))
    (somes entries) places)
    (rest_is (at entry) (Ok file.target) (map at entries) (oks (addresses (asked ++ others)))
    targets) in
    record {
      earlier = entry ∷ rest.earlier;
      later = rest.later;
      split = ap (λ (es : List FileEntry). entry ∷ es) rest.split;
      named = ap (λ (r : Result Target UrlFault). r ∷ map at rest.earlier) target
          ∙ ap (λ (rs : List (Result Target UrlFault)). Ok file.target ∷ rs) rest.named;
      sum =
          sum_by-cons (λ (f : WantedFile). size_in (slice_get files f.place)) file asked
          ∙ ap (λ (n : ℕ).
          n + sum_by (λ (f : WantedFile). size_in (slice_get files f.place)) asked)
          (ap size_in place)
          ∙ ap (λ (n : ℕ). entry.size + n) rest.sum
          ∙ sym (sum_by-cons (λ (e : FileEntry). e.size) entry rest.earlier);
    }

-- those of the files that were asked for
pub asked_first : (files : List FileEntry) (at : FileEntry → Result Target UrlFault)
    (entries : List FileEntry) (wanted : List WantedFile) (a c : LinksState) (most : ℕ)
    (writes : WritesAsked files wanted a c most) → at_places files wanted ≡ somes entries
    → map at entries ≡ oks (addresses wanted) → AreFirst files at entries writes.first.asked
asked_first files at entries wanted a c most writes places targets =
    are_first files at entries writes.first.asked writes.first.others
    (subst (λ (ws : List WantedFile). at_places files ws ≡ somes entries) writes.first.wants places)
    (subst (λ (ws : List WantedFile). map at entries ≡ oks (addresses ws)) writes.first.wants
    targets)
