-- Causes, by what the link was before and after, and what they say of its site.
use Rattle.std.proofs.Common.{◌≡◌, ℕ, ◌<◌, ⊎_elim, inl, inr, length, List, Option, Some, None, sym, ap, subst, ◌∙◌, arith}
use Rattle.std.specs.Prelude.{IfSome, option_map}
use Rattle.outside.specs.Streams.{Rose}
use Rattle.small_types.specs.declared.target.Target.{Target}
use Rattle.digest_list.specs.declared.difference.Difference.{Difference}
use Rattle.digest_list.specs.declared.digest.Digest.{Digest}
use Rattle.digest_list.specs.Difference.{difference_of}
use Rattle.digest_list.specs.Matches.{Matches}
use Rattle.digest_list.proofs.DifferenceLemmas.{difference_of-none}
use Rattle.digest_list.proofs.MatchLemmas.{none-Matches}
use Rattle.links.specs.Link.{LinkState, Lacks, Stays}
use Rattle.causes.specs.declared.cause.Cause.{Cause}
use Rattle.causes.specs.declared.cause.Cause.TheVariants.{Down, Missing, TooLong, Differs}
use Rattle.fetcher.specs.Causes.{IsFileCause, IsOther, IsTextCause, IsTooLong}
use Rattle.fetcher.specs.Given.{FitsText}

-- why a link did not serve, by what it was before and after
abbrev pub CauseOf : Type 1
CauseOf = LinkState → LinkState → Cause → Type 0

-- what holds of each kind of cause
pub record IsKind (IsCause : CauseOf) (Fits : List ℕ → Type 0) (target : Target) : Type 1 where
  -- it is one also by what the link was before, and will be, as long as nothing changes
  pub stays : (a b c d : LinkState) (cause : Cause) → Stays a b → Stays c d → IsCause b c cause
      → IsCause a d cause
  -- a link that tells and whose count did not rise has no bytes that fit
  pub unfit : (a c : LinkState) (cause : Cause) → IsCause a c cause → a.tells
      → ¬ (Rose a.count c.count) → IfSome (a.site target) (λ bytes. ¬ Fits bytes)

-- ---- by the link as it was before and is after

module _ (a b c d : LinkState) (before : Stays a b) (after : Stays c d) (target : Target) where
  rose_on : Rose b.count c.count → Rose a.count d.count
  rose_on rose = subst (λ (n : ℕ). Rose a.count n) (sym after.count)
      (subst (λ (n : ℕ). Rose n c.count) before.count rose)

  lacks_on : Lacks target b c → Lacks target a d
  lacks_on lacks = record {
    lacks = λ told. sym (before.site.same told target) ∙ lacks.lacks (before.site.tells.0 told);
    shown = ⊎_elim (λ t. inl (before.site.tells.1 t)) (λ rose. inr (rose_on rose)) lacks.shown;
  }

  untaken_on : a.tells → b.site target ≡ Some c.rest → a.site target ≡ Some d.rest
  untaken_on told is = sym (before.site.same told target) ∙ is ∙ ap (λ (l : List ℕ). Some l) (sym after.rest)

  long_on : (limit shown most : ℕ) → IsTooLong limit target b c shown most → IsTooLong limit target a d shown most
  long_on limit shown most is = record {
    limited = is.limited;
    above = is.above;
    told = λ told. ap (option_map length) (sym (before.site.same told target)) ∙ is.told (before.site.tells.0 told);
    untaken = λ told. untaken_on told (is.untaken (before.site.tells.0 told));
  }

  other_on : (list : List Digest) (size : ℕ) (e : Difference) → IsOther list size target b c e
      → IsOther list size target a d e
  other_on list size e is = record {
    bytes = is.bytes;
    differ = is.differ;
    distinct = is.distinct;
    told = λ told. ap (option_map (difference_of list size)) (sym (before.site.same told target))
        ∙ is.told (before.site.tells.0 told);
    untaken = λ listed found same told. untaken_on told (is.untaken listed found same (before.site.tells.0 told));
  }

  text_on : (limit : ℕ) (cause : Cause) → IsTextCause limit target b c cause → IsTextCause limit target a d cause
  text_on limit Down is = rose_on is
  text_on limit Missing is = lacks_on is
  text_on limit (TooLong shown most) is = long_on limit shown most is
  text_on limit (Differs e) is = absurd is

  file_on : (list : List Digest) (size : ℕ) (cause : Cause) → IsFileCause list size target b c cause
      → IsFileCause list size target a d cause
  file_on list size Down is = rose_on is
  file_on list size Missing is = lacks_on is
  file_on list size (TooLong shown most) is = absurd is
  file_on list size (Differs e) is = other_on list size e is

-- ---- what they say of the site of a link that tells and whose count did not rise

none_fits : (Fits : List ℕ → Type 0) (found : Option (List ℕ)) → found ≡ None
    → IfSome found (λ bytes. ¬ Fits bytes)
none_fits Fits found is = subst (λ (o : Option (List ℕ)). IfSome o (λ bytes. ¬ Fits bytes)) (sym is) tt

-- a text that is too long
long_fits : (limit shown : ℕ) (found : Option (List ℕ)) → limit < shown
    → option_map length found ≡ Some shown → IfSome found (λ bytes. ¬ (FitsText limit bytes))
long_fits limit shown None above is = tt
long_fits limit shown (Some bytes) above is =
    let sized : length bytes ≡ shown = cc in
    λ within. omega arith

-- bytes that differ do not match
pub differ_no_match : (list : List Digest) (size : ℕ) (bytes : List ℕ) (d : Difference)
    → difference_of list size bytes ≡ Some d → ¬ (Matches list size bytes)
differ_no_match list size bytes d differ matches =
    let none : difference_of list size bytes ≡ None =
    difference_of-none list size bytes matches.sized (none-Matches list size bytes matches) in
    cc

pub other_fits : (list : List Digest) (size : ℕ) (found : Option (List ℕ)) (d : Difference)
    → option_map (difference_of list size) found ≡ Some (Some d)
    → IfSome found (λ bytes. ¬ (Matches list size bytes))
other_fits list size None d differ = tt
other_fits list size (Some bytes) d differ =
    let is : difference_of list size bytes ≡ Some d = cc in
    differ_no_match list size bytes d is

text_unfit : (limit : ℕ) (target : Target) (a c : LinkState) (cause : Cause)
    → IsTextCause limit target a c cause → a.tells → ¬ (Rose a.count c.count)
    → IfSome (a.site target) (λ bytes. ¬ (FitsText limit bytes))
text_unfit limit target a c Down is told quiet = absurd (quiet is)
text_unfit limit target a c Missing is told quiet = none_fits (FitsText limit) (a.site target) (is.lacks told)
text_unfit limit target a c (TooLong shown most) is told quiet =
    long_fits limit shown (a.site target) is.above (is.told told)
text_unfit limit target a c (Differs d) is told quiet = absurd is

file_unfit : (list : List Digest) (size : ℕ) (target : Target) (a c : LinkState) (cause : Cause)
    → IsFileCause list size target a c cause → a.tells → ¬ (Rose a.count c.count)
    → IfSome (a.site target) (λ bytes. ¬ (Matches list size bytes))
file_unfit list size target a c Down is told quiet = absurd (quiet is)
file_unfit list size target a c Missing is told quiet = none_fits (Matches list size) (a.site target) (is.lacks told)
file_unfit list size target a c (TooLong shown most) is told quiet = absurd is
file_unfit list size target a c (Differs d) is told quiet = other_fits list size (a.site target) d (is.told told)

-- ---- the two kinds

pub text_kind : (limit : ℕ) (target : Target) → IsKind (IsTextCause limit target) (FitsText limit) target
text_kind limit target = record {
  stays = λ a b c d cause before after is. text_on a b c d before after target limit cause is;
  unfit = λ a c cause is told quiet. text_unfit limit target a c cause is told quiet;
}

pub file_kind : (list : List Digest) (size : ℕ) (target : Target)
    → IsKind (IsFileCause list size target) (Matches list size) target
file_kind list size target = record {
  stays = λ a b c d cause before after is. file_on a b c d before after target list size cause is;
  unfit = λ a c cause is told quiet. file_unfit list size target a c cause is told quiet;
}
