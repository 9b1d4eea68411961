-- Several fetches, one after another.
use Rattle.std.proofs.Common.{◌≡◌, ℕ, ◌<◌, ◌≤◌, Bool, true, List, [], ◌++◌, length, Option, Some, None, inl, inr, refl, sym, ap, subst, ◌∙◌, append_assoc, arith}
use Rattle.std.specs.Prelude.{IfSome}
use Rattle.std.proofs.lemmas.List.{append-nil}
use Rattle.outside.specs.Streams.{Rose}
use Rattle.outside.proofs.Counts.{rose_within}
use Rattle.small_types.specs.declared.target.Target.{Target}
use Rattle.links.specs.Links.{LinksState, Remain, counted, failures_of, is_there, link_at, number_at, sources_of}
use Rattle.links.proofs.Counted.{counted_later, counted_rose}
use Rattle.links.proofs.Numbers.{known_there, there_at}
use Rattle.fetcher.specs.Fetched.{AllTell, AreQuiet, Kept, KeptAll}
use Rattle.fetcher.specs.Given.{Given, IsOfSite}
use Rattle.fetcher.proofs.KeptLinks.{keeps_same, keeps_then}

pub kept_same : (a : LinksState) → Kept a a
kept_same a = record {
  all = refl;
  left = λ n is. is;
  more = [];
  grown = sym (append-nil a.asked);
  sites = λ n less. keeps_same (a.link n);
  later = λ n less. omega arith;
}

pub all_same : (a : LinksState) → KeptAll a a
all_same a = record { kept = kept_same a; remain = record { there = refl; sources = refl } }

-- a number of all links is one afterwards
known_after : (a b : LinksState) (n : ℕ) → Kept a b → n < length a.there → n < length b.there
known_after a b n kept less = omega (arith, less, kept.all)

pub kept_then : (a b c : LinksState) → Kept a b → Kept b c → Kept a c
kept_then a b c one two = record {
  all = two.all ∙ one.all;
  left = λ n is. one.left n (two.left n is);
  more = one.more ++ two.more;
  grown = two.grown ∙ ap (λ (ts : List Target). ts ++ two.more) one.grown ∙ append_assoc a.asked one.more two.more;
  sites = λ n less. keeps_then (a.link n) (b.link n) (c.link n) (one.sites n less) (two.sites n (known_after a b n one less));
  later = λ n less. omega (arith, one.later n less, two.later n (known_after a b n one less));
}

-- links that tell go on telling
pub tell_after : (a b : LinksState) → Kept a b → AllTell a → AllTell b
tell_after a b kept tell = λ n is.
    let was : is_there a.there n ≡ true = kept.left n is in
    (kept.sites n (known_there a.there n was)).tells.0 (tell n was)

-- where no count rose over both, none rose over either
pub quiet_first : (a b c : LinksState) → Kept a b → Kept b c → AreQuiet a c → AreQuiet a b
quiet_first a b c one two quiet = record {
  tell = quiet.tell;
  quiet = λ n is rose.
      let less : n < length a.there = known_there a.there n is in
      quiet.quiet n is
      (rose_within (a.link n).count (a.link n).count (b.link n).count (c.link n).count (omega arith) (one.later n less) rose (two.later n (known_after a b n one less)));
}

pub quiet_second : (a b c : LinksState) → Kept a b → Kept b c → AreQuiet a c → AreQuiet b c
quiet_second a b c one two quiet = record {
  tell = tell_after a b one quiet.tell;
  quiet = λ n is rose.
      let was : is_there a.there n ≡ true = one.left n is in
      let less : n < length a.there = known_there a.there n was in
      quiet.quiet n was (rose_within (a.link n).count (b.link n).count (c.link n).count (c.link n).count (one.later n less) (two.later n (known_after a b n one less)) rose (omega arith));
}

-- ---- where the same links are left

module _ (a b : LinksState) (target : Target) (kept : Kept a b) (remain : Remain a b) (tell : AllTell a) where
  -- the link at a place has its number still, and what its site had
  same_site : (k : ℕ) → k < sources_of a → (link_at b k).site target ≡ (link_at a k).site target
  same_site k less =
      let n : ℕ = number_at a.there k in
      let is : is_there a.there n ≡ true = there_at a.there k less in
      let same : (b.link n).site target ≡ (a.link n).site target =
      (kept.sites n (known_there a.there n is)).same (tell n is) target in
      subst (λ (t : List Bool). (b.link (number_at t k)).site target ≡ (link_at a k).site target) (sym remain.there) same

  -- what they give, they gave before
  pub given_before : (Fits : List ℕ → Type 0) (given : Option (List ℕ)) → Given Fits b target given → Given Fits a target given
  given_before Fits None none = λ k less.
      let P : Option (List ℕ) → Type 0 = λ found. IfSome found (λ bytes. ¬ Fits bytes) in
      subst P (same_site k less) (none k (omega (arith, less, remain.sources)))
  given_before Fits (Some bytes) first =
      let P : Option (List ℕ) → Type 0 = λ found. IfSome found (λ bytes. ¬ Fits bytes) in
      let within : first.place < sources_of a = omega (arith, first.within, remain.sources) in
      record {
        place = first.place;
        within = within;
        there = sym (same_site first.place within) ∙ first.there;
        fits = first.fits;
        first = λ k less. subst P (same_site k (omega (arith, less, within))) (first.first k less);
      }

  -- and go on giving
  pub given_after : (Fits : List ℕ → Type 0) (given : Option (List ℕ)) → Given Fits a target given → Given Fits b target given
  given_after Fits None none = λ k less.
      let P : Option (List ℕ) → Type 0 = λ found. IfSome found (λ bytes. ¬ Fits bytes) in
      let there : k < sources_of a = omega (arith, less, remain.sources) in
      subst P (sym (same_site k there)) (none k there)
  given_after Fits (Some bytes) first =
      let P : Option (List ℕ) → Type 0 = λ found. IfSome found (λ bytes. ¬ Fits bytes) in
      record {
        place = first.place;
        within = omega (arith, first.within, remain.sources);
        there = same_site first.place first.within ∙ first.there;
        fits = first.fits;
        first = λ k less. subst P (sym (same_site k (omega (arith, less, first.within)))) (first.first k less);
      }

-- bytes of a site that is left were those of one before
pub site_before : (a b : LinksState) (target : Target) (bytes : List ℕ) → Kept a b → AllTell a → IsOfSite b target bytes → IsOfSite a target bytes
site_before a b target bytes kept tell is =
    let was : is_there a.there is.number ≡ true = kept.left is.number is.left in
    record {
      number = is.number;
      left = was;
      there = sym ((kept.sites is.number (known_there a.there is.number was)).same (tell is.number was) target) ∙ is.there;
    }

-- ---- failures

-- they never fall
pub failures_later : (a b : LinksState) → Kept a b → failures_of a ≤ failures_of b
failures_later a b kept =
    subst (λ (n : ℕ). failures_of a ≤ n) (sym (ap (counted b.link) kept.all))
    (counted_later a.link b.link (length a.there) kept.later)

-- they rose where the count of one link did
pub failures_rose : (a b : LinksState) (n : ℕ) → Kept a b → n < length a.there → Rose (a.link n).count (b.link n).count → Rose (failures_of a) (failures_of b)
failures_rose a b n kept less rose =
    subst (λ (m : ℕ). Rose (failures_of a) m) (sym (ap (counted b.link) kept.all))
    (counted_rose a.link b.link (length a.there) n kept.later less rose)

-- where they stay below the greatest number of their type, no count rose
pub failures_still : (a b : LinksState) → Kept a b → AllTell a → failures_of b ≡ failures_of a → failures_of a < 0xffff_ffff_ffff_ffff → AreQuiet a b
failures_still a b kept tell same low = record {
  tell = tell;
  quiet = λ n is rose. still (failures_of a) (failures_of b) same low (failures_rose a b n kept (known_there a.there n is) rose);
}
  where
    still : (m n : ℕ) → n ≡ m → m < 0xffff_ffff_ffff_ffff → Rose m n → ⊥
    still m n is below (inl more) = omega arith
    still m n is below (inr full) = omega arith
