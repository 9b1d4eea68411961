-- What links gave, seen over more of the line.
use Rattle.std.proofs.Common.{◌≡◌, ◌∙◌, ◌+◌, ◌<◌, ◌≤◌, ℕ, Bool, true, List, length, Option, Some, None, [], refl, sym, subst, arith}
use Rattle.std.specs.Prelude.{IfSome}
use Rattle.std.proofs.lemmas.List.{append-nil}
use Rattle.outside.specs.Streams.{Rose}
use Rattle.outside.proofs.Counts.{rose_within}
use Rattle.small_types.specs.declared.target.Target.{Target}
use Rattle.causes.specs.declared.cause.Cause.{Cause}
use Rattle.links.specs.Link.{LinkState}
use Rattle.links.specs.Links.{LinksState, Remain, is_there, link_at, number_at, sources_of}
use Rattle.links.proofs.Numbers.{known_at}
use Rattle.fetcher.specs.Fetched.{AreQuietTo, Kept, NoneGave, became}
use Rattle.fetcher.specs.Given.{IsFirst}
use Rattle.fetcher.proofs.KeptLinks.{keeps_same}
use Rattle.fetcher.proofs.Sequence.{given_before, kept_then, quiet_first, quiet_second, site_before, tell_after}
use Rattle.install_plan.specs.Given.{IsFrom, IsFromLeft, IsUngiven, narrowed}
use Rattle.install_plan.proofs.Causes.{Follows, causes_from}

-- ---- the links up to a place

module _ (a b c : LinksState) (one : Kept a b) (two : Kept b c) (place : ℕ) (less : place < sources_of a) (quiet : AreQuietTo place a c) where
  known : (k : ℕ) → k ≤ place → number_at a.there k < length a.there
  known k up = known_at a.there k (omega (arith, up, less))

  known_next : (k : ℕ) → k ≤ place → number_at a.there k < length b.there
  known_next k up = omega (arith, known k up, one.all)

  -- where no count of them rose over both, none rose over either
  pub quiet_to_first : AreQuietTo place a b
  quiet_to_first = record {
    tell = quiet.tell;
    quiet = λ k up rose.
        quiet.quiet k up (rose_within (link_at a k).count (link_at a k).count (became a b k).count (became a c k).count (omega arith)
        (one.later (number_at a.there k) (known k up)) rose (two.later (number_at a.there k) (known_next k up)));
  }

  -- Those that were left first are left still.
  module _ (remain : Remain a b) where
    tell_then : (k : ℕ) → k ≤ place → (became a b k).tells
    tell_then k up = (one.sites (number_at a.there k) (known k up)).tells.0 (quiet.tell k up)

    quiet_then : (k : ℕ) → k ≤ place → ¬ (Rose (became a b k).count (became a c k).count)
    quiet_then k up = λ rose.
        quiet.quiet k up (rose_within (link_at a k).count (became a b k).count (became a c k).count (became a c k).count
        (one.later (number_at a.there k) (known k up)) (two.later (number_at a.there k) (known_next k up)) rose (omega arith))

    pub quiet_to_second : AreQuietTo place b c
    quiet_to_second = record {
      tell = λ k up. subst (λ (t : List Bool). (b.link (number_at t k)).tells) (sym remain.there) (tell_then k up);
      quiet = λ k up. subst (λ (t : List Bool). ¬ (Rose (b.link (number_at t k)).count (c.link (number_at t k)).count))
          (sym remain.there) (quiet_then k up);
    }

-- the first of them that has bytes that fit is so later
module _ (Fits : List ℕ → Type 0) (a b c : LinksState) (target : Target) (bytes : List ℕ) (kept : Kept a b) (remain : Remain a b)
    (first : IsFirst Fits a target bytes) (quiet : AreQuietTo first.place a c) where
  same_there : (k : ℕ) → k < first.place + 1 → (link_at b k).site target ≡ (link_at a k).site target
  same_there k up =
      let same : (became a b k).site target ≡ (link_at a k).site target =
      (kept.sites (number_at a.there k) (known_at a.there k (omega (arith, up, first.within)))).same (quiet.tell k (omega (arith, up))) target in
      subst (λ (t : List Bool). (b.link (number_at t k)).site target ≡ (link_at a k).site target) (sym remain.there) same

  abbrev first_later : IsFirst Fits b target bytes
  first_later =
      let P : Option (List ℕ) → Type 0 = λ found. IfSome found (λ other. ¬ Fits other) in
      record {
        place = first.place;
        within = omega (arith, first.within, remain.sources);
        there = same_there first.place (omega arith) ∙ first.there;
        fits = first.fits;
        first = λ k less. subst P (sym (same_there k (omega (arith, less)))) (first.first k less);
      }

-- ---- what was got

module _ (a b c : LinksState) (one : Kept a b) (two : Kept b c) where
  -- it is got in the line that began at a, where no link went until b
  pub got_from : Remain a b → (Fits : List ℕ → Type 0) (target : Target) (bytes : List ℕ) → IsFrom Fits target b c bytes → IsFrom Fits target a c bytes
  got_from remain Fits target bytes got = record {
    fits = got.fits;
    enough = λ given first quiet.
        got.enough given (first_later Fits a b c target given one remain first quiet)
        (quiet_to_second a b c one two first.place first.within quiet remain);
    site = λ tell. site_before a b target bytes one tell (got.site (tell_after a b one tell));
    given = λ quiet. given_before a b target one remain quiet.tell Fits (Some bytes) (got.given (quiet_second a b c one two quiet));
  }

  -- and it stays so until c
  pub from_on : (Fits : List ℕ → Type 0) (target : Target) (bytes : List ℕ) → IsFrom Fits target a b bytes → IsFrom Fits target a c bytes
  from_on Fits target bytes from = record {
    fits = from.fits;
    enough = λ given first quiet. from.enough given first (quiet_to_first a b c one two first.place first.within quiet);
    site = from.site;
    given = λ quiet. from.given (quiet_first a b c one two quiet);
  }

-- ---- what was got of links that are left

-- those that are left later are among those from before
pub narrowed_first : (a : LinksState) (left : List Bool) → length left ≡ length a.there
    → ((n : ℕ) → is_there left n ≡ true → is_there a.there n ≡ true) → Kept a (narrowed a left)
narrowed_first a left all those = record {
  all = all;
  left = those;
  more = [];
  grown = sym (append-nil a.asked);
  sites = λ n less. keeps_same (a.link n);
  later = λ n less. omega arith;
}

-- and go on from there
narrowed_then : (a b : LinksState) (left : List Bool) → Kept a b → length left ≡ length a.there
    → Kept (narrowed a left) (narrowed b left)
narrowed_then a b left kept all = record {
  all = refl;
  left = λ n is. is;
  more = kept.more;
  grown = kept.grown;
  sites = λ n less. kept.sites n (omega (arith, less, all));
  later = λ n less. kept.later n (omega (arith, less, all));
}

same_left : (a b : LinksState) (left : List Bool) → Remain (narrowed a left) (narrowed b left)
same_left a b left = record { there = refl; sources = refl }

module _ (a b : LinksState) (kept : Kept a b) where
  -- a file was got of the links that were left
  pub got_here : (Fits : List ℕ → Type 0) (target : Target) (bytes : List ℕ) → IsFrom Fits target a b bytes → IsFromLeft Fits target a b bytes
  got_here Fits target bytes got = record {
    left = a.there;
    earlier = narrowed_first a a.there refl (λ n is. is);
    later = kept;
    from = got;
  }

module _ (a b c : LinksState) (one : Kept a b) (two : Kept b c) (Fits : List ℕ → Type 0) (target : Target) (bytes : List ℕ) where
  pub left_from : IsFromLeft Fits target b c bytes → IsFromLeft Fits target a c bytes
  left_from is =
      let all : length is.left ≡ length a.there = is.earlier.all ∙ one.all in
      let then_on : Kept (narrowed a is.left) (narrowed b is.left) = narrowed_then a b is.left one all in
      record {
        left = is.left;
        earlier = narrowed_first a is.left all (λ n there. one.left n (is.earlier.left n there));
        later = kept_then (narrowed a is.left) (narrowed b is.left) c then_on is.later;
        from = got_from (narrowed a is.left) (narrowed b is.left) c then_on is.later (same_left a b is.left) Fits target bytes is.from;
      }

  pub left_on : IsFromLeft Fits target a b bytes → IsFromLeft Fits target a c bytes
  left_on is = record {
    left = is.left;
    earlier = is.earlier;
    later = kept_then (narrowed a is.left) b c is.later two;
    from = from_on (narrowed a is.left) b c is.later two Fits target bytes is.from;
  }

-- ---- what was not

module _ (a b c : LinksState) (one : Kept a b) (two : Kept b c) (IsCause : LinkState → LinkState → Cause → Type 0)
    (Fits : List ℕ → Type 0) (target named : Target) (reasons : List Cause) where
  -- of the links at the line's beginning
  pub ungiven_from : Remain a b → Follows IsCause → NoneGave IsCause Fits target b c named reasons → IsUngiven IsCause Fits target a c a reasons
  ungiven_from remain follows none = record {
    causes = causes_from IsCause a b c reasons follows one two none.causes;
    none = λ quiet. given_before a b target one remain quiet.tell Fits None (none.none (quiet_second a b c one two quiet));
  }
