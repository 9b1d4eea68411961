-- What links showed of themselves, by their histories.
use Rattle.std.proofs.Common.{◌≡◌, ◌≢◌, ℕ, ◌+◌, ◌<◌, ⊎_elim, Bool, true, false, List, [], ◌∷◌, Ok, Option, Some, None, inl, inr, refl, sym, ap, subst, ◌∙◌, arith}
use Rattle.std.specs.Prelude.{IfSome, slice_get}
use Rattle.std.proofs.lemmas.Bool.{false≢true}
use Rattle.small_types.specs.declared.target.Target.{Target}
use Rattle.digest_list.specs.declared.checker.Checker.{Checker}
use Rattle.digest_list.specs.declared.difference.Difference.{Difference}
use Rattle.digest_list.specs.declared.difference.Difference.TheVariants.{Size}
use Rattle.digest_list.specs.declared.digest.Digest.{Digest}
use Rattle.digest_list.specs.Checker.{IsFed}
use Rattle.digest_list.specs.Difference.{difference_of}
use Rattle.links.specs.declared.history.LinkCall.TheVariants.{Asked}
use Rattle.links.specs.declared.link.LinkFault.{LinkFault}
use Rattle.links.specs.declared.link.LinkFault.TheVariants.{Missing as IsMissing, Down as IsDown, Memory as NoMemory}
use Rattle.links.specs.Asked.{Calls, bytes_given}
use Rattle.links.specs.Link.{LinkState, Stays}
use Rattle.links.specs.Links.{LinksState, is_there, link_at, sources_of}
use Rattle.causes.specs.declared.cause.Cause.{Cause}
use Rattle.causes.specs.declared.cause.Cause.TheVariants.{Down, Missing, TooLong, Differs}
use Rattle.fetcher.specs.declared.fault.FetchFault.{FetchFault}
use Rattle.fetcher.specs.declared.fault.FetchFault.TheVariants.{AllLinks, BasketFault, Memory as OutOfMemory}
use Rattle.fetcher.specs.declared.stopped.Stopped.{Stopped}
use Rattle.fetcher.specs.declared.stopped.Stopped.TheVariants.{By, Basket, Memory}
use Rattle.fetcher.specs.Fetched.{IsOfLink, became, without_liars, stays_for}
use Rattle.fetcher.specs.Once.{CausesAreShown, OnlyShownLiarsWent, ShowsFileCause, ShowsLie, ShowsLong, ShowsOther, ShowsTextCause}
use Rattle.fetcher.specs.Stopped.{AddsCause, DropsLiars, IsPourStop, Moves, Pours, ShowsStop, TellsCauses, end_of_fetch, stop_of}
use Rattle.fetcher.proofs.Histories.{behind_ask, once_along}
use Rattle.fetcher.proofs.InOrder.{Refused, none_gave, refused_more, remain_on, served_causes, served_next}
use Rattle.fetcher.proofs.Liars.{went_by}
use Rattle.fetcher.proofs.Reasons.{CauseOf, IsKind, differ_no_match}

-- ---- one link

-- it answered another length
pub shown_size : (list : List Digest) (size n : ℕ) (target : Target) (a b : LinkState)
    → Calls a b (Asked target (Ok n) ∷ []) → n ≢ size → b.count ≡ a.count
    → ShowsOther list size target a b (Size size n)
shown_size list size n target a b calls other sound = record {
  answered = n;
  pieces = [];
  once = record { only = refl; calls = calls };
  sound = sound;
  differs = inl (other, refl);
}

-- or gave other bytes
pub shown_bytes : (list : List Digest) (size n : ℕ) (target : Target) (a b c : LinkState)
    (old new : Checker) (tells : Type 0) (before after : List ℕ) (d : Difference)
    → Calls a b (Asked target (Ok n) ∷ []) → n ≡ size → Pours size b c old new tells before after
    → IsFed old list size []
    → ((bytes : List ℕ) → IsFed new list size bytes → Some d ≡ difference_of list size bytes)
    → c.count ≡ a.count → ShowsOther list size target a c d
shown_bytes list size n target a b c old new tells before after d calls same pours fresh exact sound =
    let differ : difference_of list size pours.bytes ≡ Some d =
    sym (exact pours.bytes (pours.fed list size [] fresh)) in
    record {
      answered = n;
      pieces = pours.took.pieces;
      once = behind_ask target (Ok n) a b c pours.took.pieces calls pours.took.only pours.took.calls;
      sound = sound;
      differs = inr (same, pours.all, ap (difference_of list size) pours.took.given ∙ differ);
    }

-- what stops a fetch for another reason
pub file_fault : (list : List Digest) (size : ℕ) (target : Target) (a b : LinkState)
    (fault : LinkFault) (stop : Stopped) → stop ≡ stop_of fault
    → ShowsStop (ShowsFileCause list size target) a b stop
file_fault list size target a b IsMissing stop is =
    subst (ShowsStop (ShowsFileCause list size target) a b) (sym is) tt
file_fault list size target a b IsDown stop is =
    subst (ShowsStop (ShowsFileCause list size target) a b) (sym is) tt
file_fault list size target a b NoMemory stop is =
    subst (ShowsStop (ShowsFileCause list size target) a b) (sym is) tt

pub text_fault : (target : Target) (a b : LinkState) (fault : LinkFault) (stop : Stopped)
    → stop ≡ stop_of fault → ShowsStop (ShowsTextCause target) a b stop
text_fault target a b IsMissing stop is = subst (ShowsStop (ShowsTextCause target) a b) (sym is) tt
text_fault target a b IsDown stop is = subst (ShowsStop (ShowsTextCause target) a b) (sym is) tt
text_fault target a b NoMemory stop is = subst (ShowsStop (ShowsTextCause target) a b) (sym is) tt

pub shown_long : (target : Target) (n : ℕ) (a b : LinkState) → Calls a b (Asked target (Ok n) ∷ [])
    → b.count ≡ a.count → ShowsLong target a b n
shown_long target n a b calls sound = record {
  once = record { only = refl; calls = calls };
  sound = sound;
}

never : (d : Difference) → Differs d ≡ Down → ⊥
never d e = cc

pub shown_pour : (list : List Digest) (size before after : ℕ) (target : Target)
    (a b c : LinkState) (stop : Stopped) → IsPourStop b c before after stop
    → ShowsStop (ShowsFileCause list size target) a c stop
shown_pour list size before after target a b c (By Down) is = tt
shown_pour list size before after target a b c (By Missing) is = tt
shown_pour list size before after target a b c (By (TooLong shown most)) is = tt
shown_pour list size before after target a b c (By (Differs d)) is = absurd (never d is.0)
shown_pour list size before after target a b c Basket is = tt
shown_pour list size before after target a b c Memory is = tt

-- ---- the kind of such causes

file_along : (list : List Digest) (size : ℕ) (target : Target) (a b c d : LinkState) (cause : Cause)
    → Stays a b → Stays c d → ShowsFileCause list size target b c cause
    → ShowsFileCause list size target a d cause
file_along list size target a b c d Down before after is = tt
file_along list size target a b c d Missing before after is = tt
file_along list size target a b c d (TooLong shown most) before after is = tt
file_along list size target a b c d (Differs e) before after is = record {
  answered = is.answered;
  pieces = is.pieces;
  once = once_along a b c d before.history after.history target (Ok is.answered) is.pieces is.once;
  sound = after.count ∙ is.sound ∙ before.count;
  differs = is.differs;
}

none_is : (found : Option (List ℕ)) → IfSome found (λ bytes. ¬ ⊥)
none_is None = tt
none_is (Some bytes) = λ no. no

pub file_kind : (list : List Digest) (size : ℕ) (target : Target)
    → IsKind (ShowsFileCause list size target) (λ bytes. ⊥) target
file_kind list size target = record {
  stays = λ a b c d cause before after is. file_along list size target a b c d cause before after is;
  unfit = λ a c cause is told quiet. none_is (a.site target);
}

text_along : (target : Target) (a b c d : LinkState) (cause : Cause) → Stays a b → Stays c d
    → ShowsTextCause target b c cause → ShowsTextCause target a d cause
text_along target a b c d Down before after is = tt
text_along target a b c d Missing before after is = tt
text_along target a b c d (Differs e) before after is = tt
text_along target a b c d (TooLong shown most) before after is = record {
  once = once_along a b c d before.history after.history target (Ok shown) [] is.once;
  sound = after.count ∙ is.sound ∙ before.count;
}

pub text_kind : (target : Target) → IsKind (ShowsTextCause target) (λ bytes. ⊥) target
text_kind target = record {
  stays = λ a b c d cause before after is. text_along target a b c d cause before after is;
  unfit = λ a c cause is told quiet. none_is (a.site target);
}

-- ---- the links in their order

module _ (Shows : CauseOf) (target : Target) (kind : IsKind Shows (λ bytes. ⊥) target) where
  -- one link more
  pub shown_more : (place : ℕ) (a b c : LinksState) (old : List Cause)
      → Refused Shows target place a b old → Moves place b c → place < sources_of a
      → (stop : Stopped) (new : List Cause) → ShowsStop Shows (link_at b place) (link_at c place) stop
      → AddsCause stop old new → Refused Shows target (place + 1) a c new
  shown_more place a b c old so moves less (By cause) new is added =
      refused_more Shows (λ bytes. ⊥) target kind place a b c old so moves less cause new is added
  shown_more place a b c old so moves less Basket new is added = absurd added
  shown_more place a b c old so moves less Memory new is added = absurd added

  -- the fetch stopped at one of them
  pub shown_stop : (a c : LinksState) (stop : Stopped) (fault : FetchFault)
      → fault ≡ end_of_fetch stop → CausesAreShown Shows a c fault
  shown_stop a c (By cause) fault is = subst (CausesAreShown Shows a c) (sym is) tt
  shown_stop a c Basket fault is = subst (CausesAreShown Shows a c) (sym is) tt
  shown_stop a c Memory fault is = subst (CausesAreShown Shows a c) (sym is) tt

  -- none served
  pub shown_all : (place : ℕ) (a c : LinksState) (causes : List Cause) → place ≡ sources_of a
      → Refused Shows target place a c causes → (fault : FetchFault)
      → TellsCauses target causes fault → CausesAreShown Shows a c fault
  shown_all place a c causes all so (AllLinks named reasons) tells =
      (none_gave Shows (λ bytes. ⊥) target kind place a c causes so all named reasons tells.0 tells.1).causes
  shown_all place a c causes all so BasketFault tells = tt
  shown_all place a c causes all so OutOfMemory tells = tt

-- ---- those that went

module _ (list : List Digest) (size : ℕ) (target : Target) where
  shows_lie : (a c : LinkState) (cause : Cause) → stays_for cause ≡ false
      → ShowsFileCause list size target a c cause → ShowsLie list size target a c
  shows_lie a c Down lied is = absurd (false≢true (sym lied))
  shows_lie a c Missing lied is = absurd (false≢true (sym lied))
  shows_lie a c (TooLong shown most) lied is = absurd (false≢true (sym lied))
  shows_lie a c (Differs d) lied is = record {
    answered = is.answered;
    pieces = is.pieces;
    once = is.once;
    sound = is.sound;
    other = ⊎_elim (λ long. inl long.0)
        (λ same. inr (same.1, differ_no_match list size (bytes_given is.pieces) d same.2)) is.differs;
  }

  -- none went
  pub none_shown : (a b : LinksState) → b.there ≡ a.there → OnlyShownLiarsWent list size target a b
  none_shown a b same = λ n is gone.
      absurd (gone (subst (λ (t : List Bool). is_there t n ≡ true) (sym same) is))

  only_shown : (a d : LinksState) (bytes : List ℕ)
      (served : IsOfLink (ShowsFileCause list size target) target a d bytes)
      → d.there ≡ without_liars served.causes a.there → OnlyShownLiarsWent list size target a d
  only_shown a d bytes served left = λ n is gone.
      let went = went_by served.causes a.there n is
      (λ still. gone (subst (λ (t : List Bool). is_there t n ≡ true) (sym left) still)) in
      let why : IfSome (slice_get served.causes went.place) (ShowsFileCause list size target (link_at a went.place) (became a d went.place)) =
      served.before went.place (omega (arith, went.below, served.count)) in
      let its : ShowsFileCause list size target (link_at a went.place) (became a d went.place) went.cause =
      subst (λ (o : Option Cause). IfSome o (ShowsFileCause list size target (link_at a went.place) (became a d went.place))) went.found why in
      let here : ShowsFileCause list size target (a.link n) (d.link n) went.cause =
      subst (λ (m : ℕ). ShowsFileCause list size target (a.link m) (d.link m) went.cause) went.is its in
      shows_lie (a.link n) (d.link n) went.cause went.lied here

  -- one served, and then those before it went that gave other bytes
  module _ (place : ℕ) (a b c : LinksState) (old : List Cause)
      (so : Refused (ShowsFileCause list size target) target place a b old) (moves : Moves place b c)
      (less : place < sources_of a) where
    module _ (bytes : List ℕ)
        (told : (link_at b place).tells → (link_at b place).site target ≡ Some bytes)
        (sound : (link_at c place).count ≡ (link_at b place).count) (d : LinksState)
        (drops : DropsLiars old c d) where
      its_link : IsOfLink (ShowsFileCause list size target) target a d bytes
      its_link = served_next (ShowsFileCause list size target) (λ bytes. ⊥) target (file_kind list size target)
          place a b c old so moves less d drops.links bytes told sound

      same_causes : its_link.causes ≡ old
      unfolding its_link
      same_causes = served_causes (ShowsFileCause list size target) (λ bytes. ⊥) target (file_kind list size target)
          place a b c old so moves less d drops.links bytes told sound

      those_left : d.there ≡ without_liars its_link.causes a.there
      those_left =
          drops.there
          ∙ ap (without_liars old)
          (remain_on (ShowsFileCause list size target) (λ bytes. ⊥) target (file_kind list size target) place a b c old so moves less).there
          ∙ ap (λ (cs : List Cause). without_liars cs a.there) (sym same_causes)

      pub shown_went : OnlyShownLiarsWent list size target a d
      shown_went = only_shown a d bytes its_link those_left
