-- Why links did not serve, by what they were before earlier fetches of the line.
use Rattle.std.proofs.Common.{◌<◌, ◌≤◌, ℕ, ⊎_elim, inl, inr, List, sym, ap, ◌∙◌, Option, Some, None, arith}
use Rattle.std.specs.Prelude.{IfSome, length, option_map, slice_get}
use Rattle.outside.specs.Streams.{Rose}
use Rattle.outside.proofs.Counts.{rose_within}
use Rattle.small_types.specs.declared.target.Target.{Target}
use Rattle.digest_list.specs.declared.difference.Difference.{Difference}
use Rattle.digest_list.specs.declared.digest.Digest.{Digest}
use Rattle.digest_list.specs.Difference.{difference_of}
use Rattle.links.specs.Link.{KeepsSite, Lacks, LinkState}
use Rattle.links.specs.Links.{LinksState, number_at}
use Rattle.links.proofs.Numbers.{known_at}
use Rattle.causes.specs.declared.cause.Cause.{Cause}
use Rattle.causes.specs.declared.cause.Cause.TheVariants.{Down, Missing, TooLong, Differs}
use Rattle.fetcher.specs.Causes.{AreCauses, IsFileCause, IsOther, IsTextCause, IsTooLong}
use Rattle.fetcher.specs.Fetched.{Kept}

-- ---- of one link

module _ (a b c : LinkState) (keeps : KeepsSite a b) (later : a.count ≤ b.count)
    (last : b.count ≤ c.count) (target : Target) where
  rose_from : Rose b.count c.count → Rose a.count c.count
  rose_from rose = rose_within a.count b.count c.count c.count later last rose (omega arith)

  lacks_from : Lacks target b c → Lacks target a c
  lacks_from lacks = record {
    lacks = λ told. sym (keeps.same told target) ∙ lacks.lacks (keeps.tells.0 told);
    shown = ⊎_elim (λ t. inl (keeps.tells.1 t)) (λ rose. inr (rose_from rose)) lacks.shown;
  }

  other_from : (list : List Digest) (size : ℕ) (d : Difference) → IsOther list size target b c d → IsOther list size target a c d
  other_from list size d is = record {
    bytes = is.bytes;
    differ = is.differ;
    distinct = is.distinct;
    told = λ told. ap (option_map (difference_of list size)) (sym (keeps.same told target)) ∙ is.told (keeps.tells.0 told);
    untaken = λ listed found e told. sym (keeps.same told target) ∙ is.untaken listed found e (keeps.tells.0 told);
  }

  long_from : (limit shown most : ℕ) → IsTooLong limit target b c shown most → IsTooLong limit target a c shown most
  long_from limit shown most is = record {
    limited = is.limited;
    above = is.above;
    told = λ told. ap (option_map length) (sym (keeps.same told target)) ∙ is.told (keeps.tells.0 told);
    untaken = λ told. sym (keeps.same told target) ∙ is.untaken (keeps.tells.0 told);
  }

  pub text_cause_from : (limit : ℕ) (cause : Cause) → IsTextCause limit target b c cause → IsTextCause limit target a c cause
  text_cause_from limit Down is = rose_from is
  text_cause_from limit Missing is = lacks_from is
  text_cause_from limit (TooLong shown most) is = long_from limit shown most is
  text_cause_from limit (Differs d) is = absurd is

  pub file_cause_from : (list : List Digest) (size : ℕ) (cause : Cause) → IsFileCause list size target b c cause → IsFileCause list size target a c cause
  file_cause_from list size Down is = rose_from is
  file_cause_from list size Missing is = lacks_from is
  file_cause_from list size (TooLong shown most) is = absurd is
  file_cause_from list size (Differs d) is = other_from list size d is

-- ---- of all links

-- a cause is one also by what the link was before
abbrev pub Follows : (LinkState → LinkState → Cause → Type 0) → Type 1
Follows IsCause = (a b c : LinkState) → KeepsSite a b → a.count ≤ b.count → b.count ≤ c.count → (cause : Cause)
    → IsCause b c cause → IsCause a c cause

pub text_follows : (limit : ℕ) (target : Target) → Follows (IsTextCause limit target)
text_follows limit target a b c keeps later last cause is = text_cause_from a b c keeps later last target limit cause is

pub file_follows : (list : List Digest) (size : ℕ) (target : Target) → Follows (IsFileCause list size target)
file_follows list size target a b c keeps later last cause is = file_cause_from a b c keeps later last target list size cause is

if_some_map : {X : Type 0} (P Q : X → Type 0) (found : Option X) → ((x : X) → P x → Q x) → IfSome found P → IfSome found Q
if_some_map P Q None each is = tt
if_some_map P Q (Some x) each is = each x is

pub causes_from : (IsCause : LinkState → LinkState → Cause → Type 0) (a b c : LinksState) (reasons : List Cause) → Follows IsCause → Kept a b → Kept b c → AreCauses IsCause b c reasons → AreCauses IsCause a c reasons
causes_from IsCause a b c reasons follows kept two are = record {
  count = are.count;
  each = λ k less.
      let n : ℕ = number_at c.there k in
      let known : n < length b.there = omega (arith, known_at c.there k less, two.all) in
      let first : n < length a.there = omega (arith, known, kept.all) in
      if_some_map (IsCause (b.link n) (c.link n)) (IsCause (a.link n) (c.link n)) (slice_get reasons k)
      (λ cause is. follows (a.link n) (b.link n) (c.link n) (kept.sites n first) (kept.later n first) (two.later n known) cause is)
      (are.each k less);
}
