-- What the bytes of one link were found to be.
use Rattle.std.proofs.Common.{◌≡◌, ◌≢◌, ℕ, List, [], ◌∷◌, ◌++◌, length, take, Ok, Option, Some, None, find, refl, sym, ap, ◌∙◌, arith}
use Rattle.std.specs.Prelude.{option_map, replicate}
use Rattle.std.proofs.lemmas.List.{length-replicate, take_all}
use Rattle.small_types.specs.declared.target.Target.{Target}
use Rattle.digest_list.specs.declared.checker.Checker.{Checker}
use Rattle.digest_list.specs.declared.difference.Difference.{Difference}
use Rattle.digest_list.specs.declared.difference.Difference.TheVariants.{Size}
use Rattle.digest_list.specs.declared.digest.Digest.{Digest}
use Rattle.digest_list.specs.Checker.{IsFed}
use Rattle.digest_list.specs.Difference.{AreDistinct, difference_of, is_other, other_digest}
use Rattle.digest_list.specs.Matches.{Matches}
use Rattle.digest_list.proofs.DifferenceLemmas.{difference_of-found, difference_of-none, difference_of-size}
use Rattle.links.specs.declared.history.LinkCall.TheVariants.{Asked}
use Rattle.links.specs.Asked.{Calls}
use Rattle.links.specs.Link.{LinkState, KeepsSite, Opens}
use Rattle.fetcher.specs.Causes.{IsOther}
use Rattle.fetcher.specs.Stopped.{IsFileOf, Pours}
use Rattle.fetcher.proofs.Histories.{served_pieces}

-- the whole of the rest
whole : (n : ℕ) (rest bytes : List ℕ) → n ≡ length rest → bytes ≡ take n rest → rest ≡ bytes
whole n rest bytes sized taken = sym (taken ∙ take_all n rest (omega arith))

-- a link that answers another length
pub size_differs : (list : List Digest) (size n : ℕ) (target : Target) (a b : LinkState) → (a.tells → Opens target a b n) → n ≢ size → IsOther list size target a b (Size size n)
size_differs list size n target a b opens other =
    let zeros : List ℕ = replicate n 0 in
    let long : length zeros ≡ n = length-replicate n 0 in
    record {
      bytes = zeros;
      differ = difference_of-size list size zeros (λ same. other (sym long ∙ same)) ∙ ap (λ (k : ℕ). Some (Size size k)) long;
      distinct = λ same. other (sym same);
      untaken = λ listed found is t. (opens t).found;
      told = λ t.
          ap (option_map (difference_of list size)) (opens t).found
          ∙ ap (λ (d : Option Difference). Some d) (difference_of-size list size b.rest (λ same. other ((opens t).sized ∙ same)) ∙ ap (λ (k : ℕ). Some (Size size k)) (sym (opens t).sized));
    }

-- what was poured is the site's bytes
site_poured : (size n : ℕ) (target : Target) (a b : LinkState) (bytes : List ℕ) → (a.tells → Opens target a b n) → n ≡ size → KeepsSite a b → (b.tells → bytes ≡ take size b.rest) → a.tells → a.site target ≡ Some bytes
site_poured size n target a b bytes opens same site taken t =
    (opens t).found ∙ ap (λ (l : List ℕ). Some l) (whole size b.rest bytes (sym same ∙ (opens t).sized) (taken (site.tells.0 t)))

pub file_given : (list : List Digest) (size n : ℕ) (target : Target) (a b c : LinkState) (old new : Checker) (tells : Type 0) (before after : List ℕ)
    → (a.tells → Opens target a b n) → n ≡ size → KeepsSite a b → Pours size b c old new tells before after → (tells → before ≡ []) → IsFed old list size []
    → ((bytes : List ℕ) → IsFed new list size bytes → Matches list size bytes) → c.count ≡ a.count → Calls a b (Asked target (Ok n) ∷ [])
    → IsFileOf list size target a c tells after
file_given list size n target a b c old new tells before after opens same site pours empty fresh fits sound asks = record {
  served = served_pieces (λ k. k ≡ size) n target a b c pours.bytes asks same pours.took;
  sound = sound;
  bytes = pours.bytes;
  taken = λ t. pours.taken t ∙ ap (λ (l : List ℕ). l ++ pours.bytes) (empty t);
  matches = fits pours.bytes (pours.fed list size [] fresh);
  told = site_poured size n target a b pours.bytes opens same site pours.told;
}

-- bytes of the listed size do not differ by their size
sized_alike : (list : List Digest) (size : ℕ) (m : List ℕ) (listed found : ℕ) → length m ≡ size → difference_of list size m ≡ Some (Size listed found) → ⊥
sized_alike list size m listed found sized is = by (find (is_other m) list) refl
  where
    by : (o : Option Digest) → find (is_other m) list ≡ o → ⊥
    by None e = let none : difference_of list size m ≡ None = difference_of-none list size m sized e in cc
    by (Some d) e =
        let other : difference_of list size m ≡ Some (other_digest m d) = difference_of-found list size m d sized e in
        cc

pub other_given : (list : List Digest) (size n : ℕ) (target : Target) (a b c : LinkState) (old new : Checker) (tells : Type 0) (before after : List ℕ) (d : Difference)
    → (a.tells → Opens target a b n) → n ≡ size → KeepsSite a b → Pours size b c old new tells before after → IsFed old list size []
    → ((bytes : List ℕ) → IsFed new list size bytes → Some d ≡ difference_of list size bytes) → AreDistinct d → IsOther list size target a c d
other_given list size n target a b c old new tells before after d opens same site pours fresh exact distinct =
    let differ : difference_of list size pours.bytes ≡ Some d = sym (exact pours.bytes (pours.fed list size [] fresh)) in
    record {
      bytes = pours.bytes;
      differ = differ;
      distinct = distinct;
      told = λ t. ap (option_map (difference_of list size)) (site_poured size n target a b pours.bytes opens same site pours.told t) ∙ ap (λ (o : Option Difference). Some o) differ;
      untaken = λ listed found is t.
          let all : b.rest ≡ pours.bytes = whole size b.rest pours.bytes (sym same ∙ (opens t).sized) (pours.told (site.tells.0 t)) in
          let sized : length pours.bytes ≡ size = sym (ap length all) ∙ sym (opens t).sized ∙ same in
          absurd (sized_alike list size pours.bytes listed found sized (differ ∙ ap (λ (e : Difference). Some e) is));
    }
