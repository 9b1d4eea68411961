-- Links that are asked in order.
use Rattle.std.proofs.Common.{◌≡◌, ◌≢◌, ℕ, zero, suc, ◌+◌, ◌<◌, ◌≤◌, ⊎_elim, Bool, true, List, [], ◌∷◌, ◌++◌, length, Option, Some, refl, sym, ap, subst, ◌∙◌, arith}
use Rattle.std.proofs.lemmas.Bool.{cases_eq, cases_order}
use Rattle.std.proofs.lemmas.List.{append-nil, length-append}
use Rattle.std.proofs.lemmas.Option.{IfSome_then}
use Rattle.std.specs.Prelude.{IfSome, slice_get}
use Rattle.outside.specs.Streams.{Rose}
use Rattle.small_types.specs.declared.target.Target.{Target}
use Rattle.links.specs.Link.{KeepsSite, Stays}
use Rattle.links.specs.Links.{LinksState, Remain, count_there, is_there, link_at, number_at, sources_of}
use Rattle.links.proofs.Numbers.{known_at, numbers_apart, there_at}
use Rattle.causes.specs.declared.cause.Cause.{Cause}
use Rattle.fetcher.specs.Causes.{AreCauses}
use Rattle.fetcher.specs.Fetched.{AllTell, AreGiven, AreQuiet, WasAsked, IsOfLink, Kept, KeptAll, NoneGave, became}
use Rattle.fetcher.specs.Given.{Given, IsOfSite}
use Rattle.fetcher.specs.Stopped.{Moves}
use Rattle.fetcher.proofs.KeptLinks.{Wanted, remain_then, stays_same, stays_then}
use Rattle.fetcher.proofs.Reasons.{CauseOf, IsKind}
use Rattle.fetcher.proofs.Sequence.{kept_then}

-- ---- lists of causes

-- what holds of each, and of one more, holds of each of those together
each_more : {X : Type 0} (P : ℕ → X → Type 0) (xs : List X) (x : X)
    → ((k : ℕ) → k < length xs → IfSome (slice_get xs k) (P k)) → P (length xs) x → (k : ℕ)
    → k < length xs + 1 → IfSome (slice_get (xs ++ x ∷ []) k) (P k)
each_more P [] x each here zero less = here
each_more P [] x each here (suc k) less = absurd (omega arith)
each_more P (y ∷ ys) x each here zero less = each 0 (omega arith)
each_more P (y ∷ ys) x each here (suc k) less =
    each_more (λ n. P (suc n)) ys x (λ n below. each (suc n) (omega arith)) here k (omega arith)

-- the one at a place of the list
found_there : {X : Type 0} (P : X → Type 0) (xs : List X) (k : ℕ) → k < length xs
    → IfSome (slice_get xs k) P → (x : X) × P x
found_there P [] k less is = absurd (omega arith)
found_there P (x ∷ xs) zero less is = (x, is)
found_there P (x ∷ xs) (suc k) less is = found_there P xs k (omega arith) is

one_longer : {X : Type 0} (xs : List X) (x : X) (n : ℕ) → length xs ≡ n → length (xs ++ x ∷ []) ≡ n + 1
one_longer xs x n long = omega (arith, length-append xs (x ∷ []), long)

-- bytes that fit are not among those of which none fits
unfit_not : (Fits : List ℕ → Type 0) (found : Option (List ℕ)) (bytes : List ℕ) → found ≡ Some bytes
    → Fits bytes → IfSome found (λ other. ¬ Fits other) → ⊥
unfit_not Fits found bytes is fits none =
    (subst (λ (o : Option (List ℕ)). IfSome o (λ other. ¬ Fits other)) is none) fits

-- ---- what is done with one link keeps the others

module _ (place : ℕ) (b c : LinksState) (moves : Moves place b c) where
  -- it has its number still
  same_number : number_at c.there place ≡ number_at b.there place
  same_number = ap (λ (t : List Bool). number_at t place) moves.only.remain.there

  site_here : KeepsSite (link_at b place) (became b c place)
  site_here = subst (λ (n : ℕ). KeepsSite (link_at b place) (c.link n)) same_number moves.site

  later_here : (link_at b place).count ≤ (became b c place).count
  later_here = subst (λ (n : ℕ). (link_at b place).count ≤ (c.link n).count) same_number moves.later

  pub moves_keep : Kept b c
  moves_keep = record {
    all = ap length moves.only.remain.there;
    left = λ n is. subst (λ (t : List Bool). is_there t n ≡ true) moves.only.remain.there is;
    more = [];
    grown = moves.only.asked ∙ sym (append-nil b.asked);
    sites = λ n less.
        ⊎_elim (λ e. subst (λ (m : ℕ). KeepsSite (b.link m) (c.link m)) (sym e) site_here)
        (λ other. (moves.only.others n less other).site) (cases_eq n (number_at b.there place));
    later = λ n less.
        ⊎_elim (λ e. subst (λ (m : ℕ). (b.link m).count ≤ (c.link m).count) (sym e) later_here)
        (λ other. omega (arith, (moves.only.others n less other).count))
        (cases_eq n (number_at b.there place));
  }

-- ---- where nothing was done but to note a target

pub kept_stays : (a b : LinksState) (more : List Target) → b.asked ≡ a.asked ++ more → Remain a b
    → ((n : ℕ) → n < length a.there → Stays (a.link n) (b.link n)) → Kept a b
kept_stays a b more grown remain links = record {
  all = ap length remain.there;
  left = λ n is. subst (λ (t : List Bool). is_there t n ≡ true) remain.there is;
  more = more;
  grown = grown;
  sites = λ n less. (links n less).site;
  later = λ n less. omega (arith, (links n less).count);
}

pub all_stay : (a b : LinksState) → b.asked ≡ a.asked → Remain a b
    → ((n : ℕ) → n < length a.there → Stays (a.link n) (b.link n)) → KeptAll a b
all_stay a b same remain links = record {
  kept = kept_stays a b [] (same ∙ sym (append-nil a.asked)) remain links;
  remain = remain;
}

-- ---- the links below a place did not serve

-- each of them has its cause, and those from the place on are as they were
pub record Refused (IsCause : CauseOf) (target : Target) (place : ℕ) (old now : LinksState)
    (causes : List Cause) : Type 0 where
  pub asked : WasAsked target old now
  pub remain : Remain old now
  pub kept : Kept old now
  pub count : length causes ≡ place
  pub each : (k : ℕ) → k < place
      → IfSome (slice_get causes k) (IsCause (link_at old k) (became old now k))
  pub left : (k : ℕ) → place ≤ k → k < sources_of old → Stays (link_at old k) (became old now k)

pub refused_none : (IsCause : CauseOf) (target : Target) (a b : LinksState) → Wanted target a b
    → Refused IsCause target 0 a b []
refused_none IsCause target a b wanted = record {
  asked = wanted.asked;
  remain = wanted.remain;
  kept = kept_stays a b (target ∷ []) wanted.asked wanted.remain wanted.links;
  count = refl;
  each = λ k less. absurd (omega arith);
  left = λ k from less. wanted.links (number_at a.there k) (known_at a.there k less);
}

module _ (IsCause : CauseOf) (Fits : List ℕ → Type 0) (target : Target)
    (kind : IsKind IsCause Fits target) where
  module _ (place : ℕ) (a b c : LinksState) (causes : List Cause)
      (so : Refused IsCause target place a b causes) (moves : Moves place b c)
      (less : place < sources_of a) where
    -- the links have their numbers still
    number_then : number_at b.there place ≡ number_at a.there place
    number_then = ap (λ (t : List Bool). number_at t place) so.remain.there

    number_now : number_at c.there place ≡ number_at a.there place
    number_now = same_number place b c moves ∙ number_then

    others_stay : (k : ℕ) → k < sources_of a → k ≢ place → Stays (became a b k) (became a c k)
    others_stay k below other =
        moves.only.others (number_at a.there k)
        (subst (λ (t : List Bool). number_at a.there k < length t) (sym so.remain.there) (known_at a.there k below))
        (subst (λ (n : ℕ). number_at a.there k ≢ n) (sym number_then) (numbers_apart a.there k place below less other))

    -- their causes are still theirs
    still : (k : ℕ) → k < place → IfSome (slice_get causes k) (IsCause (link_at a k) (became a c k))
    still k below =
        IfSome_then (slice_get causes k) (so.each k below)
        (λ cause is. kind.stays (link_at a k) (link_at a k) (became a b k) (became a c k) cause
        (stays_same (link_at a k)) (others_stay k (omega arith) (λ e. omega arith)) is)

    behind_still : (k : ℕ) → place < k → k < sources_of a → Stays (link_at a k) (became a c k)
    behind_still k above below =
        stays_then (link_at a k) (became a b k) (became a c k) (so.left k (omega arith) below)
        (others_stay k below (λ e. omega arith))

    pub asked_on : WasAsked target a c
    asked_on = moves.only.asked ∙ so.asked

    pub remain_on : Remain a c
    remain_on = remain_then a b c so.remain moves.only.remain

    pub kept_on : Kept a c
    kept_on = kept_then a b c so.kept (moves_keep place b c moves)

    -- the next one did not serve either
    pub refused_more : (cause : Cause) (later : List Cause)
        → IsCause (link_at b place) (link_at c place) cause → later ≡ causes ++ cause ∷ []
        → Refused IsCause target (place + 1) a c later
    refused_more cause later is added =
        let P : ℕ → Cause → Type 0 = λ k. IsCause (link_at a k) (became a c k) in
        let was : IsCause (became a b place) (link_at c place) cause =
        subst (λ (n : ℕ). IsCause (b.link n) (link_at c place) cause) number_then is in
        let now : IsCause (became a b place) (became a c place) cause =
        subst (λ (n : ℕ). IsCause (became a b place) (c.link n) cause) number_now was in
        let here : P place cause =
        kind.stays (link_at a place) (became a b place) (became a c place) (became a c place) cause
        (so.left place (omega arith) less) (stays_same (became a c place)) now in
        let at_end : P (length causes) cause = subst (λ (n : ℕ). P n cause) (sym so.count) here in
        record {
          asked = asked_on;
          remain = remain_on;
          kept = kept_on;
          count = ap length added ∙ one_longer causes cause place so.count;
          each = λ k below.
              subst (λ (cs : List Cause). IfSome (slice_get cs k) (P k)) (sym added)
              (each_more P causes cause (λ n under. still n (omega (arith, under, so.count)))
              at_end k (omega (arith, below, so.count)));
          left = λ k from below. behind_still k (omega arith) below;
        }

    -- The next one served. What else comes to pass then changes no link.
    module _ (d : LinksState) (rest : (n : ℕ) → n < length c.there → Stays (c.link n) (d.link n)) where
      at_rest : (k : ℕ) → k < sources_of a → Stays (became a c k) (became a d k)
      at_rest k below =
          rest (number_at a.there k)
          (subst (λ (t : List Bool). number_at a.there k < length t) (sym remain_on.there) (known_at a.there k below))

      pub served_next : (bytes : List ℕ)
          → ((link_at b place).tells → (link_at b place).site target ≡ Some bytes)
          → (link_at c place).count ≡ (link_at b place).count
          → IsOfLink IsCause target a d bytes
      served_next bytes told sound =
          let here : Stays (link_at a place) (became a b place) = so.left place (omega arith) less in
          let tells : (became a b place).tells → (became a b place).site target ≡ Some bytes =
          subst (λ (n : ℕ). (b.link n).tells → (b.link n).site target ≡ Some bytes) number_then told in
          let was : (link_at c place).count ≡ (became a b place).count =
          subst (λ (n : ℕ). (link_at c place).count ≡ (b.link n).count) number_then sound in
          let now : (became a c place).count ≡ (became a b place).count =
          subst (λ (n : ℕ). (c.link n).count ≡ (became a b place).count) number_now was in
          record {
            place = place;
            within = less;
            told = λ t. sym (here.site.same t target) ∙ tells (here.site.tells.0 t);
            sound = (at_rest place less).count ∙ now ∙ here.count;
            causes = causes;
            count = so.count;
            before = λ k below.
                IfSome_then (slice_get causes k) (still k below)
                (λ cause is. kind.stays (link_at a k) (link_at a k) (became a c k) (became a d k) cause
                (stays_same (link_at a k)) (at_rest k (omega arith)) is);
            behind = λ k above below.
                stays_then (link_at a k) (became a c k) (became a d k) (behind_still k above below)
                (at_rest k below);
          }

      -- the causes are those that were found
      pub served_causes : (bytes : List ℕ)
          (told : (link_at b place).tells → (link_at b place).site target ≡ Some bytes)
          (sound : (link_at c place).count ≡ (link_at b place).count)
          → (served_next bytes told sound).causes ≡ causes
      unfolding served_next
      served_causes bytes told sound = refl

      -- and the link is the one that was asked
      pub served_place : (bytes : List ℕ)
          (told : (link_at b place).tells → (link_at b place).site target ≡ Some bytes)
          (sound : (link_at c place).count ≡ (link_at b place).count)
          → (served_next bytes told sound).place ≡ place
      unfolding served_next
      served_place bytes told sound = refl

  -- ---- what follows where one served

  module _ (a c : LinksState) (bytes : List ℕ) (served : IsOfLink IsCause target a c bytes) (fits : Fits bytes) where
    before_unfit : (k : ℕ) → k < served.place → (link_at a k).tells
        → ¬ (Rose (link_at a k).count (became a c k).count)
        → IfSome ((link_at a k).site target) (λ other. ¬ Fits other)
    before_unfit k below tells quiet =
        let why = found_there (IsCause (link_at a k) (became a c k)) served.causes k
        (omega (arith, below, served.count)) (served.before k below) in
        kind.unfit (link_at a k) (became a c k) why.0 why.1 tells quiet

    pub served_site : AllTell a → IsOfSite a target bytes
    served_site tell =
        let left = there_at a.there served.place served.within in
        record {
          number = number_at a.there served.place;
          left = left;
          there = served.told (tell (number_at a.there served.place) left);
        }

    pub served_given : AreQuiet a c → Given Fits a target (Some bytes)
    served_given quiet = record {
      place = served.place;
      within = served.within;
      there = served.told (quiet.tell (number_at a.there served.place) (there_at a.there served.place served.within));
      fits = fits;
      first = λ k below.
          let left = there_at a.there k (omega (arith, below, served.within)) in
          before_unfit k below (quiet.tell (number_at a.there k) left) (quiet.quiet (number_at a.there k) left);
    }

    pub served_enough : AreGiven Fits target a c bytes
    served_enough given first quiet =
        ⊎_elim (λ e. same e)
        (λ apart. ⊎_elim (λ below. absurd (sooner below)) (λ above. absurd (later above)) apart)
        (cases_order first.place served.place)
      where
        sooner : first.place < served.place → ⊥
        sooner below =
            unfit_not Fits ((link_at a first.place).site target) given first.there first.fits
            (before_unfit first.place below (quiet.tell first.place (omega arith))
            (quiet.quiet first.place (omega arith)))

        later : served.place < first.place → ⊥
        later above =
            unfit_not Fits ((link_at a served.place).site target) bytes
            (served.told (quiet.tell served.place (omega arith))) fits
            (first.first served.place above)

        same : first.place ≡ served.place → bytes ≡ given
        same e =
            let mine : (link_at a served.place).site target ≡ Some bytes =
            served.told (quiet.tell served.place (omega arith)) in
            let its : (link_at a served.place).site target ≡ Some given =
            subst (λ (n : ℕ). (link_at a n).site target ≡ Some given) e first.there in
            cc

  -- ---- what follows where none did

  module _ (place : ℕ) (a c : LinksState) (causes : List Cause)
      (so : Refused IsCause target place a c causes) (all : place ≡ sources_of a) where
    none_fits : (k : ℕ) → k < sources_of a → (link_at a k).tells
        → ¬ (Rose (link_at a k).count (became a c k).count)
        → IfSome ((link_at a k).site target) (λ other. ¬ Fits other)
    none_fits k below tells quiet =
        let why = found_there (IsCause (link_at a k) (became a c k)) causes k
        (omega (arith, below, all, so.count)) (so.each k (omega (arith, below, all))) in
        kind.unfit (link_at a k) (became a c k) why.0 why.1 tells quiet

    -- by the places that they have, which are those that they had
    abbrev EachAt : List Bool → Type 0
    EachAt there = (length causes ≡ count_there there) × ((k : ℕ) → k < count_there there
        → IfSome (slice_get causes k) (IsCause (a.link (number_at there k)) (c.link (number_at there k))))

    all_causes : AreCauses IsCause a c causes
    all_causes =
        let each : EachAt c.there =
        subst EachAt (sym so.remain.there)
        (so.count ∙ all, λ k below. so.each k (omega (arith, below, all))) in
        record { count = each.0; each = each.1 }

    pub none_gave : (named : Target) (reasons : List Cause) → named ≡ target → reasons ≡ causes
        → NoneGave IsCause Fits target a c named reasons
    none_gave named reasons shown told = record {
      asked = so.asked;
      shown = shown;
      remain = so.remain;
      causes = subst (AreCauses IsCause a c) (sym told) all_causes;
      enough = λ given first quiet.
          unfit_not Fits ((link_at a first.place).site target) given first.there first.fits
          (none_fits first.place first.within (quiet.tell first.place (omega arith))
          (quiet.quiet first.place (omega arith)));
      none = λ quiet k below.
          let left = there_at a.there k below in
          none_fits k below (quiet.tell (number_at a.there k) left) (quiet.quiet (number_at a.there k) left);
    }
