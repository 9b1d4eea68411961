-- How a fetch that asks the links in order goes on and ends.
use Rattle.std.proofs.Common.{◌≡◌, ℕ, ◌+◌, ◌<◌, ◌≤◌, inr, List, Err, refl, sym, ap, subst, ◌∙◌}
use Rattle.std.specs.Prelude.{Result}
use Rattle.small_types.specs.declared.target.Target.{Target}
use Rattle.digest_list.specs.declared.digest.Digest.{Digest}
use Rattle.digest_list.specs.Matches.{Matches}
use Rattle.links.specs.Links.{LinksState, Remain, link_at, sources_of}
use Rattle.causes.specs.declared.cause.Cause.{Cause}
use Rattle.fetcher.specs.declared.fault.FetchFault.{FetchFault}
use Rattle.fetcher.specs.declared.fault.FetchFault.TheVariants.{AllLinks, BasketFault, Memory}
use Rattle.fetcher.specs.declared.stopped.Stopped.{Stopped}
use Rattle.fetcher.specs.declared.stopped.Stopped.TheVariants.{By, Basket, Memory as NoMemory}
use Rattle.fetcher.specs.Causes.{IsFileCause, IsTextCause}
use Rattle.fetcher.specs.Fetched.{WasAsked, IsFile, IsFileFault, IsOfLink, IsText, IsTextFault, IsThis, KeptAll, KeptBut, without_liars}
use Rattle.fetcher.specs.Given.{FitsText}
use Rattle.fetcher.specs.Once.{AskedUpTo, AskedUpToFile, AskedUpToText}
use Rattle.fetcher.specs.Stopped.{AddsCause, DropsLiars, IsFileOf, IsFileStop, IsTextOf, IsTextStop, KeepsBasket, Moves, TellsCauses}
use Rattle.fetcher.proofs.InOrder.{Refused, asked_on, kept_on, none_gave, refused_more, remain_on, served_causes, served_enough, served_given, served_next, served_place, served_site}
use Rattle.fetcher.proofs.Liars.{drops_keep, none_went, only_liars}
use Rattle.fetcher.proofs.KeptLinks.{stays_same}
use Rattle.fetcher.proofs.Reasons.{CauseOf, IsKind, file_kind, text_kind}
use Rattle.fetcher.proofs.Sequence.{kept_then}

-- ---- one link more

module _ (place : ℕ) (a b c : LinksState) (old : List Cause) (target : Target)
    (moves : Moves place b c) (less : place < sources_of a) where
  pub text_more : (limit : ℕ) → Refused (IsTextCause limit target) target place a b old
      → (stop : Stopped) (new : List Cause)
      → IsTextStop limit target (link_at b place) (link_at c place) stop → AddsCause stop old new
      → Refused (IsTextCause limit target) target (place + 1) a c new
  text_more limit so (By cause) new is added =
      refused_more (IsTextCause limit target) (FitsText limit) target (text_kind limit target)
      place a b c old so moves less cause new is added
  text_more limit so Basket new is added = absurd added
  text_more limit so NoMemory new is added = absurd added

  pub file_more : (list : List Digest) (size before after : ℕ)
      → Refused (IsFileCause list size target) target place a b old
      → (stop : Stopped) (new : List Cause)
      → IsFileStop list size target (link_at b place) (link_at c place) before after stop
      → AddsCause stop old new
      → Refused (IsFileCause list size target) target (place + 1) a c new
  file_more list size before after so (By cause) new is added =
      refused_more (IsFileCause list size target) (Matches list size) target
      (file_kind list size target) place a b c old so moves less cause new is added
  file_more list size before after so Basket new is added = absurd added
  file_more list size before after so NoMemory new is added = absurd added

  -- ---- it served

  module _ (limit : ℕ) (so : Refused (IsTextCause limit target) target place a b old) (bytes : List ℕ)
      (of : IsTextOf limit target (link_at b place) (link_at c place) bytes) where
    text_link : IsOfLink (IsTextCause limit target) target a c bytes
    text_link = served_next (IsTextCause limit target) (FitsText limit) target (text_kind limit target)
        place a b c old so moves less c (λ n below. stays_same (c.link n)) bytes of.told of.sound

    text_place : text_link.place ≡ place
    unfolding text_link
    text_place = served_place (IsTextCause limit target) (FitsText limit) target (text_kind limit target)
        place a b c old so moves less c (λ n below. stays_same (c.link n)) bytes of.told of.sound

    pub text_served : IsText limit target a c bytes
    text_served =
        let kind = text_kind limit target in
        record {
          asked = asked_on (IsTextCause limit target) (FitsText limit) target kind place a b c old so moves less;
          within = of.within;
          served = text_link;
          enough = served_enough (IsTextCause limit target) (FitsText limit) target kind a c bytes text_link of.within;
          site = served_site (IsTextCause limit target) (FitsText limit) target kind a c bytes text_link of.within;
          given = served_given (IsTextCause limit target) (FitsText limit) target kind a c bytes text_link of.within;
        }

    same_text : text_served.served.place ≡ place
    unfolding text_served
    same_text = text_place

    -- the link that served was asked last
    pub text_once : AskedUpTo (λ n. n ≤ limit) limit target a c place bytes
        → AskedUpToText limit target a c bytes
    text_once up_to = record {
      text = text_served;
      up_to = subst (λ (k : ℕ). AskedUpTo (λ n. n ≤ limit) limit target a c k bytes) (sym same_text) up_to;
    }

  -- those that gave other bytes are gone then
  module _ (list : List Digest) (size : ℕ) (tells : Type 0) (held : List ℕ)
      (so : Refused (IsFileCause list size target) target place a b old)
      (of : IsFileOf list size target (link_at b place) (link_at c place) tells held)
      (d : LinksState) (drops : DropsLiars old c d) where
    its_link : IsOfLink (IsFileCause list size target) target a d of.bytes
    its_link = served_next (IsFileCause list size target) (Matches list size) target (file_kind list size target)
        place a b c old so moves less d drops.links of.bytes of.told of.sound

    asked_once : WasAsked target a d
    asked_once = drops.asked
        ∙ asked_on (IsFileCause list size target) (Matches list size) target (file_kind list size target) place a b c old so moves less

    same_causes : its_link.causes ≡ old
    unfolding its_link
    same_causes = served_causes (IsFileCause list size target) (Matches list size) target (file_kind list size target)
        place a b c old so moves less d drops.links of.bytes of.told of.sound

    those_left : d.there ≡ without_liars its_link.causes a.there
    those_left =
        drops.there
        ∙ ap (without_liars old)
        (remain_on (IsFileCause list size target) (Matches list size) target (file_kind list size target) place a b c old so moves less).there
        ∙ ap (λ (cs : List Cause). without_liars cs a.there) (sym same_causes)

    pub file_served : IsFile list size target a d tells held
    file_served =
        let kind = file_kind list size target in
        record {
          asked = asked_once;
          bytes = of.bytes;
          taken = of.taken;
          matches = of.matches;
          served = its_link;
          left = those_left;
          enough = served_enough (IsFileCause list size target) (Matches list size)
              target kind a d of.bytes its_link of.matches;
          site = served_site (IsFileCause list size target) (Matches list size)
              target kind a d of.bytes its_link of.matches;
          given = served_given (IsFileCause list size target) (Matches list size)
              target kind a d of.bytes its_link of.matches;
        }

    its_place : its_link.place ≡ place
    unfolding its_link
    its_place = served_place (IsFileCause list size target) (Matches list size) target (file_kind list size target)
        place a b c old so moves less d drops.links of.bytes of.told of.sound

    same_file : file_served.served.place ≡ place
    unfolding file_served
    same_file = its_place

    same_bytes : file_served.bytes ≡ of.bytes
    unfolding file_served
    same_bytes = refl

    -- the link that served was asked last
    pub file_once : AskedUpTo (λ n. n ≡ size) size target a d place of.bytes
        → AskedUpToFile list size target a d tells held
    file_once up_to = record {
      file = file_served;
      up_to =
          subst (λ (k : ℕ). AskedUpTo (λ n. n ≡ size) size target a d k file_served.bytes) (sym same_file)
          (subst (λ (l : List ℕ). AskedUpTo (λ n. n ≡ size) size target a d place l) (sym same_bytes) up_to);
    }

    pub file_kept : KeptBut (IsThis target list size) a d
    file_kept = record {
      kept = kept_then a c d
          (kept_on (IsFileCause list size target) (Matches list size) target (file_kind list size target) place a b c old so moves less)
          (drops_keep old c d drops);
      went = only_liars list size target a d of.bytes its_link those_left asked_once;
    }

-- ---- none served

module _ (place : ℕ) (a c : LinksState) (causes : List Cause) (target : Target) (all : place ≡ sources_of a) where
  pub text_refused : (limit : ℕ) → Refused (IsTextCause limit target) target place a c causes
      → (fault : FetchFault) → TellsCauses target causes fault → IsTextFault limit target a c fault
  text_refused limit so (AllLinks named reasons) tells =
      none_gave (IsTextCause limit target) (FitsText limit) target (text_kind limit target)
      place a c causes so all named reasons tells.0 tells.1
  text_refused limit so BasketFault tells = absurd tells
  text_refused limit so Memory tells = inr so.asked

  pub file_refused : (list : List Digest) (size before after : ℕ)
      → Refused (IsFileCause list size target) target place a c causes → (fault : FetchFault)
      → TellsCauses target causes fault → IsFileFault list size target a c before after fault
  file_refused list size before after so (AllLinks named reasons) tells =
      none_gave (IsFileCause list size target) (Matches list size) target
      (file_kind list size target) place a c causes so all named reasons tells.0 tells.1
  file_refused list size before after so BasketFault tells = absurd tells
  file_refused list size before after so Memory tells = inr so.asked

-- ---- what is kept of the links

module _ (IsCause : CauseOf) (target : Target) (place : ℕ) (a c : LinksState) (causes : List Cause)
    (so : Refused IsCause target place a c causes) where
  pub all_refused : KeptAll a c
  all_refused = record { kept = so.kept; remain = so.remain }

  pub kept_refused : (IsListed : Target → List Digest → ℕ → Type 0) → KeptBut IsListed a c
  kept_refused IsListed = record { kept = so.kept; went = none_went IsListed a c so.remain.there }

  -- one link more was asked, whatever came of it
  module _ (Fits : List ℕ → Type 0) (kind : IsKind IsCause Fits target) (d : LinksState)
      (moves : Moves place c d) (less : place < sources_of a) where
    pub remain_asked : Remain a d
    remain_asked = remain_on IsCause Fits target kind place a c d causes so moves less

    pub all_asked : KeptAll a d
    all_asked = record {
      kept = kept_on IsCause Fits target kind place a c d causes so moves less;
      remain = remain_asked;
    }

    pub kept_asked : (IsListed : Target → List Digest → ℕ → Type 0) → KeptBut IsListed a d
    kept_asked IsListed = record {
      kept = kept_on IsCause Fits target kind place a c d causes so moves less;
      went = none_went IsListed a d remain_asked.there;
    }

-- ---- the count of the basket is as it was where the fetch goes on

pub count_stays : {T : Type 0} (before after : ℕ) (stop : Stopped) (result : Result T Stopped)
    (old new : List Cause) → result ≡ Err stop → KeepsBasket before after result
    → AddsCause stop old new → after ≡ before
count_stays before after (By cause) result old new is keeps added = keeps.quiet (λ e. cc)
count_stays before after Basket result old new is keeps added = absurd added
count_stays before after NoMemory result old new is keeps added = keeps.quiet (λ e. cc)
