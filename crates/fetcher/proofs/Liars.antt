-- Links that gave other bytes than are listed, and those that are left without them.
use Rattle.std.proofs.Common.{◌≡◌, ℕ, zero, suc, ◌+◌, ◌<◌, ◌≤◌, Bool, true, false, List, [], ◌∷◌, ◌++◌, length, drop, get_or, set, Option, Some, None, refl, sym, ap, subst, ◌∙◌, append_assoc, drop-cons, arith}
use Rattle.std.specs.Prelude.{IfSome, option_map, slice_get}
use Rattle.std.proofs.lemmas.Bool.{false≢true}
use Rattle.std.proofs.lemmas.List.{append-nil, length-set}
use Rattle.small_types.specs.declared.limits.TheConstants.{LINK_LIMIT}
use Rattle.small_types.specs.declared.target.Target.{Target}
use Rattle.digest_list.specs.declared.digest.Digest.{Digest}
use Rattle.digest_list.specs.declared.difference.Difference.{Difference}
use Rattle.digest_list.specs.Difference.{difference_of}
use Rattle.digest_list.specs.Matches.{Matches}
use Rattle.links.specs.Link.{LinkState, Stays}
use Rattle.links.specs.Links.{IsLeft, LinksState, Retires, count_there, is_there, link_at, number_at, sources_of}
use Rattle.links.proofs.Numbers.{known_there, one_fewer}
use Rattle.causes.specs.declared.cause.Cause.{Cause}
use Rattle.causes.specs.declared.cause.Cause.TheVariants.{Down, Missing, TooLong, Differs}
use Rattle.fetcher.specs.Causes.{IsFileCause}
use Rattle.fetcher.specs.Fetched.{WasAsked, HasLied, IsAskedSince, IsOfLink, IsThis, Kept, KeptAll, KeptBut, OnlyLiarsWent, became, stays_for, without_liars}
use Rattle.fetcher.specs.Stopped.{DropsLiar, DropsLiars, StaysAll, next_place}
use Rattle.fetcher.proofs.KeptLinks.{stays_same, stays_then}
use Rattle.fetcher.proofs.Reasons.{other_fits}
use Rattle.fetcher.proofs.Sequence.{kept_then}

-- ---- those that are left

-- were left before
pub left_before : (causes : List Cause) (there : List Bool) (n : ℕ)
    → is_there (without_liars causes there) n ≡ true → is_there there n ≡ true
left_before [] there n is = is
left_before (cause ∷ causes) [] n is = is
left_before (cause ∷ causes) (true ∷ there) zero is = refl
left_before (cause ∷ causes) (true ∷ there) (suc n) is = left_before causes there n is
left_before (cause ∷ causes) (false ∷ there) zero is = is
left_before (cause ∷ causes) (false ∷ there) (suc n) is = left_before (cause ∷ causes) there n is

pub without_length : (causes : List Cause) (there : List Bool)
    → length (without_liars causes there) ≡ length there
without_length [] there = refl
without_length (cause ∷ causes) [] = refl
without_length (cause ∷ causes) (true ∷ there) = ap suc (without_length causes there)
without_length (cause ∷ causes) (false ∷ there) = ap suc (without_length (cause ∷ causes) there)

-- one that went had its place, and its cause there
pub record Went (causes : List Cause) (there : List Bool) (n : ℕ) : Type 0 where
  pub place : ℕ
  pub below : place < length causes
  pub within : place < count_there there
  pub is : number_at there place ≡ n
  pub cause : Cause
  pub found : slice_get causes place ≡ Some cause
  pub lied : stays_for cause ≡ false

went_on : (first : Cause) (causes : List Cause) (there : List Bool) (n : ℕ) → Went causes there n
    → Went (first ∷ causes) (true ∷ there) (suc n)
went_on first causes there n went = record {
  place = suc went.place;
  below = omega (arith, went.below);
  within = omega (arith, went.within);
  is = ap suc went.is;
  cause = went.cause;
  found = went.found;
  lied = went.lied;
}

went_past : (causes : List Cause) (there : List Bool) (n : ℕ) → Went causes there n
    → Went causes (false ∷ there) (suc n)
went_past causes there n went = record {
  place = went.place;
  below = went.below;
  within = went.within;
  is = ap suc went.is;
  cause = went.cause;
  found = went.found;
  lied = went.lied;
}

went_first : (cause : Cause) (causes : List Cause) (there : List Bool) (stays : Bool)
    → stays_for cause ≡ stays → ¬ (stays ≡ true) → Went (cause ∷ causes) (true ∷ there) 0
went_first cause causes there true is gone = absurd (gone refl)
went_first cause causes there false is gone = record {
  place = 0;
  below = omega arith;
  within = omega arith;
  is = refl;
  cause = cause;
  found = refl;
  lied = is;
}

pub went_by : (causes : List Cause) (there : List Bool) (n : ℕ) → is_there there n ≡ true
    → ¬ (is_there (without_liars causes there) n ≡ true) → Went causes there n
went_by [] there n is gone = absurd (gone is)
went_by (cause ∷ causes) [] n is gone = absurd (gone is)
went_by (cause ∷ causes) (true ∷ there) zero is gone =
    went_first cause causes there (stays_for cause) refl gone
went_by (cause ∷ causes) (true ∷ there) (suc n) is gone =
    went_on cause causes there n (went_by causes there n is gone)
went_by (cause ∷ causes) (false ∷ there) zero is gone = absurd (gone is)
went_by (cause ∷ causes) (false ∷ there) (suc n) is gone =
    went_past (cause ∷ causes) there n (went_by (cause ∷ causes) there n is gone)

-- ---- dropped one after another

-- those that are left where the ones from a place on did not serve for these causes
abbrev pub without_from : ℕ → List Cause → List Bool → List Bool
without_from zero causes there = without_liars causes there
without_from (suc place) causes [] = []
without_from (suc place) causes (true ∷ there) = true ∷ without_from place causes there
without_from (suc place) causes (false ∷ there) = false ∷ without_from (suc place) causes there

without_end : (place : ℕ) (there : List Bool) → without_from place [] there ≡ there
without_end zero there = refl
without_end (suc place) [] = refl
without_end (suc place) (true ∷ there) = ap (λ (t : List Bool). true ∷ t) (without_end place there)
without_end (suc place) (false ∷ there) = ap (λ (t : List Bool). false ∷ t) (without_end (suc place) there)

without_gone : (causes : List Cause) (there : List Bool)
    → without_liars causes (false ∷ there) ≡ false ∷ without_liars causes there
without_gone [] there = refl
without_gone (cause ∷ causes) there = refl

-- the one at the place stays
step_stays : (place : ℕ) (cause : Cause) (causes : List Cause) (there : List Bool)
    → stays_for cause ≡ true → place < count_there there
    → without_from (suc place) causes there ≡ without_from place (cause ∷ causes) there
step_stays zero cause causes [] stays less = absurd (omega arith)
step_stays zero cause causes (true ∷ there) stays less =
    ap (λ (b : Bool). b ∷ without_liars causes there) (sym stays)
step_stays zero cause causes (false ∷ there) stays less =
    ap (λ (t : List Bool). false ∷ t) (step_stays zero cause causes there stays less)
step_stays (suc place) cause causes [] stays less = absurd (omega arith)
step_stays (suc place) cause causes (true ∷ there) stays less =
    ap (λ (t : List Bool). true ∷ t) (step_stays place cause causes there stays (omega arith))
step_stays (suc place) cause causes (false ∷ there) stays less =
    ap (λ (t : List Bool). false ∷ t) (step_stays (suc place) cause causes there stays less)

-- or goes
step_goes : (place : ℕ) (cause : Cause) (causes : List Cause) (there : List Bool)
    → stays_for cause ≡ false → place < count_there there
    → without_from place causes (set there (number_at there place) false)
    ≡ without_from place (cause ∷ causes) there
step_goes zero cause causes [] goes less = absurd (omega arith)
step_goes zero cause causes (true ∷ there) goes less =
    without_gone causes there ∙ ap (λ (b : Bool). b ∷ without_liars causes there) (sym goes)
step_goes zero cause causes (false ∷ there) goes less =
    without_gone causes (set there (number_at there 0) false)
    ∙ ap (λ (t : List Bool). false ∷ t) (step_goes zero cause causes there goes less)
step_goes (suc place) cause causes [] goes less = absurd (omega arith)
step_goes (suc place) cause causes (true ∷ there) goes less =
    ap (λ (t : List Bool). true ∷ t) (step_goes place cause causes there goes (omega arith))
step_goes (suc place) cause causes (false ∷ there) goes less =
    ap (λ (t : List Bool). false ∷ t) (step_goes (suc place) cause causes there goes less)

-- so far: the place of the next link, and the causes that are left
pub record Dropping (all causes : List Cause) (place : ℕ) (old now : LinksState) : Type 0 where
  pub behind : place + length causes < sources_of now
  pub few : sources_of now ≤ LINK_LIMIT
  pub same : without_from place causes now.there ≡ without_liars all old.there
  pub long : length now.there ≡ length old.there
  pub asked : now.asked ≡ old.asked
  pub links : (n : ℕ) → n < length old.there → Stays (old.link n) (now.link n)

pub dropping_start : (all : List Cause) (old : LinksState) → length all < sources_of old
    → sources_of old ≤ LINK_LIMIT → Dropping all all 0 old old
dropping_start all old behind few = record {
  behind = omega (arith, behind);
  few = few;
  same = refl;
  long = refl;
  asked = refl;
  links = λ n less. stays_same (old.link n);
}

pub dropping_end : (all : List Cause) (place : ℕ) (old now : LinksState)
    → Dropping all [] place old now → DropsLiars all old now
dropping_end all place old now so = record {
  there = sym (without_end place now.there) ∙ so.same;
  asked = so.asked;
  links = so.links;
}

module _ (all causes : List Cause) (place : ℕ) (old now next : LinksState) where
  links_on : ((n : ℕ) → n < length old.there → Stays (old.link n) (now.link n))
      → length now.there ≡ length old.there
      → ((n : ℕ) → n < length now.there → Stays (now.link n) (next.link n))
      → (n : ℕ) → n < length old.there → Stays (old.link n) (next.link n)
  links_on first long behind n less =
      stays_then (old.link n) (now.link n) (next.link n) (first n less) (behind n (omega (arith, less, long)))

  dropping_goes : (cause : Cause) → stays_for cause ≡ false → Dropping all (cause ∷ causes) place old now
      → Retires place now next → Dropping all causes place old next
  dropping_goes cause goes so retires =
      let less : place < count_there now.there = omega (arith, so.behind) in
      let fewer : sources_of next + 1 ≡ sources_of now =
      ap (λ (t : List Bool). count_there t + 1) retires.there ∙ one_fewer now.there place less in
      record {
        behind = omega (arith, fewer, so.behind);
        few = omega (arith, fewer, so.few);
        same = ap (without_from place causes) retires.there ∙ step_goes place cause causes now.there goes less ∙ so.same;
        long = ap length retires.there ∙ length-set now.there (number_at now.there place) false ∙ so.long;
        asked = retires.asked ∙ so.asked;
        links = links_on so.links so.long retires.links;
      }

  dropping_stays : (cause : Cause) → stays_for cause ≡ true → Dropping all (cause ∷ causes) place old now
      → StaysAll now next → Dropping all causes (place + 1) old next
  dropping_stays cause stays so same =
      let less : place < count_there now.there = omega (arith, so.behind) in
      let many : sources_of next ≡ sources_of now = ap count_there same.there in
      let one : place + 1 ≡ suc place = omega arith in
      record {
        behind = omega (arith, many, so.behind);
        few = omega (arith, many, so.few);
        same = ap (without_from (place + 1) causes) same.there
            ∙ ap (λ (p : ℕ). without_from p causes now.there) one
            ∙ step_stays place cause causes now.there stays less ∙ so.same;
        long = ap length same.there ∙ so.long;
        asked = same.asked ∙ so.asked;
        links = links_on so.links so.long same.links;
      }

  dropping_more : (cause : Cause) → Dropping all (cause ∷ causes) place old now
      → DropsLiar cause place now next → Dropping all causes (next_place cause place) old next
  dropping_more Down so drops = dropping_stays Down refl so drops
  dropping_more Missing so drops = dropping_stays Missing refl so drops
  dropping_more (TooLong shown most) so drops = dropping_stays (TooLong shown most) refl so drops
  dropping_more (Differs d) so drops = dropping_goes (Differs d) refl so drops

-- ---- the loop over the causes

-- none is left behind the last one
pub drop_all : {X : Type 0} (n : ℕ) (xs : List X) → length xs ≤ n → drop n xs ≡ []
drop_all zero [] all = refl
drop_all zero (x ∷ xs) all = absurd (omega arith)
drop_all (suc n) [] all = refl
drop_all (suc n) (x ∷ xs) all = drop_all n xs (omega arith)

module _ {X : Type 0} (xs : List X) (i : ℕ) (x : X) (lt : i < length xs) (is : x ≡ get_or xs i x) where
  drop_here : drop i xs ≡ x ∷ drop (i + 1) xs
  drop_here =
      let one : suc i ≡ i + 1 = omega arith in
      drop-cons xs i x lt ∙ ap (λ (y : X). y ∷ drop (suc i) xs) (sym is)
      ∙ ap (λ (n : ℕ). x ∷ drop n xs) one

module _ (all : List Cause) (i place : ℕ) (cause : Cause) (old now : LinksState) (lt : i < length all)
    (is : cause ≡ get_or all i cause) (so : Dropping all (drop i all) place old now) where
  pub dropping_at : Dropping all (cause ∷ drop (i + 1) all) place old now
  dropping_at = subst (λ (cs : List Cause). Dropping all cs place old now) (drop_here all i cause lt is) so

  pub one_behind : place + 1 < sources_of now
  one_behind = omega (arith, dropping_at.behind)

  pub dropping_next : (next : LinksState) (answer : ℕ) → DropsLiar cause place now next
      → answer ≡ next_place cause place → Dropping all (drop (i + 1) all) answer old next
  dropping_next next answer drops same =
      subst (λ (p : ℕ). Dropping all (drop (i + 1) all) p old next) (sym same)
      (dropping_more all (drop (i + 1) all) place old now next cause dropping_at drops)

-- ---- what is said of the fetch

-- the links are those that were left, without some
pub drops_keep : (causes : List Cause) (c d : LinksState) → DropsLiars causes c d → Kept c d
drops_keep causes c d drops = record {
  all = ap length drops.there ∙ without_length causes c.there;
  left = λ n is. left_before causes c.there n (subst (λ (t : List Bool). is_there t n ≡ true) drops.there is);
  more = [];
  grown = drops.asked ∙ sym (append-nil c.asked);
  sites = λ n less. (drops.links n less).site;
  later = λ n less. omega (arith, (drops.links n less).count);
}

never : (d : Difference) → ◌≡◌ {A = Option (Option Difference)} None (Some (Some d)) → ⊥
never d e = cc

site_bytes : (list : List Digest) (size : ℕ) (o : Option (List ℕ)) (d : Difference)
    → option_map (difference_of list size) o ≡ Some (Some d)
    → (bytes : List ℕ) × (o ≡ Some bytes) × ¬ (Matches list size bytes)
site_bytes list size None d same = absurd (never d same)
site_bytes list size (Some bytes) d same = (bytes, refl, other_fits list size (Some bytes) d same)

-- one that gave other bytes has a cause that says so
lied_by : (list : List Digest) (size : ℕ) (target : Target) (a c : LinkState) (cause : Cause)
    → stays_for cause ≡ false → IsFileCause list size target a c cause → a.tells
    → (bytes : List ℕ) × (a.site target ≡ Some bytes) × ¬ (Matches list size bytes)
lied_by list size target a c Down lied is tells = absurd (false≢true (sym lied))
lied_by list size target a c Missing lied is tells = absurd (false≢true (sym lied))
lied_by list size target a c (TooLong shown most) lied is tells = absurd is
lied_by list size target a c (Differs d) lied is tells = site_bytes list size (a.site target) d (is.told tells)

-- so only those went of the links that tell
pub only_liars : (list : List Digest) (size : ℕ) (target : Target) (a d : LinksState)
    (bytes : List ℕ) (served : IsOfLink (IsFileCause list size target) target a d bytes)
    → d.there ≡ without_liars served.causes a.there → WasAsked target a d
    → OnlyLiarsWent (IsThis target list size) a d
only_liars list size target a d bytes served left asked = λ n is gone tells.
    let went = went_by served.causes a.there n is
    (λ still. gone (subst (λ (t : List Bool). is_there t n ≡ true) (sym left) still)) in
    let why : IfSome (slice_get served.causes went.place) (IsFileCause list size target (link_at a went.place) (became a d went.place)) =
    served.before went.place (omega (arith, went.below, served.count)) in
    let its : IsFileCause list size target (link_at a went.place) (became a d went.place) went.cause =
    subst (λ (o : Option Cause). IfSome o (IsFileCause list size target (link_at a went.place) (became a d went.place))) went.found why in
    let here : IsFileCause list size target (a.link n) (became a d went.place) went.cause =
    subst (λ (m : ℕ). IsFileCause list size target (a.link m) (became a d went.place) went.cause) went.is its in
    let lie = lied_by list size target (a.link n) (became a d went.place) went.cause went.lied here tells in
    record {
      target = target;
      asked = record { earlier = []; later = []; is = asked };
      list = list;
      size = size;
      listed = (refl, refl, refl);
      bytes = lie.0;
      there = lie.1;
      other = lie.2;
    }

-- and where the same links are left, none did
pub none_went : (IsListed : Target → List Digest → ℕ → Type 0) (a b : LinksState)
    → b.there ≡ a.there → OnlyLiarsWent IsListed a b
none_went IsListed a b same = λ n is gone tells.
    absurd (gone (subst (λ (t : List Bool). is_there t n ≡ true) (sym same) is))

-- ---- over several fetches

module _ (IsListed : Target → List Digest → ℕ → Type 0) (a b c : LinksState) (one : Kept a b) (two : Kept b c) where
  since_first : (target : Target) → IsAskedSince target a b → IsAskedSince target a c
  since_first target since = record {
    earlier = since.earlier;
    later = since.later ++ two.more;
    is = two.grown ∙ ap (λ (ts : List Target). ts ++ two.more) since.is
        ∙ append_assoc a.asked (since.earlier ++ target ∷ since.later) two.more
        ∙ ap (λ (ts : List Target). a.asked ++ ts) (append_assoc since.earlier (target ∷ since.later) two.more);
  }

  since_second : (target : Target) → IsAskedSince target b c → IsAskedSince target a c
  since_second target since = record {
    earlier = one.more ++ since.earlier;
    later = since.later;
    is = since.is ∙ ap (λ (ts : List Target). ts ++ (since.earlier ++ target ∷ since.later)) one.grown
        ∙ append_assoc a.asked one.more (since.earlier ++ target ∷ since.later)
        ∙ ap (λ (ts : List Target). a.asked ++ ts) (sym (append_assoc one.more since.earlier (target ∷ since.later)));
  }

  lied_first : (n : ℕ) → HasLied IsListed a b (a.link n) → HasLied IsListed a c (a.link n)
  lied_first n lied = record {
    target = lied.target;
    asked = since_first lied.target lied.asked;
    list = lied.list;
    size = lied.size;
    listed = lied.listed;
    bytes = lied.bytes;
    there = lied.there;
    other = lied.other;
  }

  lied_second : (n : ℕ) → n < length a.there → (a.link n).tells → HasLied IsListed b c (b.link n)
      → HasLied IsListed a c (a.link n)
  lied_second n less tells lied = record {
    target = lied.target;
    asked = since_second lied.target lied.asked;
    list = lied.list;
    size = lied.size;
    listed = lied.listed;
    bytes = lied.bytes;
    there = sym ((one.sites n less).same tells lied.target) ∙ lied.there;
    other = lied.other;
  }

  -- a link that is gone went in the one or in the other
  went_in : (n : ℕ) (still : Bool) → is_there b.there n ≡ still → OnlyLiarsWent IsListed a b
      → OnlyLiarsWent IsListed b c → IsLeft a n → ¬ (IsLeft c n) → (a.link n).tells
      → HasLied IsListed a c (a.link n)
  went_in n true mid first second is gone tells =
      let less : n < length a.there = known_there a.there n is in
      lied_second n less tells (second n mid gone ((one.sites n less).tells.0 tells))
  went_in n false mid first second is gone tells =
      lied_first n (first n is (λ there. false≢true (sym mid ∙ there)) tells)

  pub went_then : OnlyLiarsWent IsListed a b → OnlyLiarsWent IsListed b c → OnlyLiarsWent IsListed a c
  went_then first second = λ n is gone tells. went_in n (is_there b.there n) refl first second is gone tells

pub but_then : (IsListed : Target → List Digest → ℕ → Type 0) (a b c : LinksState)
    → KeptBut IsListed a b → KeptBut IsListed b c → KeptBut IsListed a c
but_then IsListed a b c one two = record {
  kept = kept_then a b c one.kept two.kept;
  went = went_then IsListed a b c one.kept two.kept one.went two.went;
}

-- where none is gone
pub but_all : (IsListed : Target → List Digest → ℕ → Type 0) (a b : LinksState) → KeptAll a b
    → KeptBut IsListed a b
but_all IsListed a b all = record { kept = all.kept; went = none_went IsListed a b all.remain.there }

went_weaker : (P Q : Target → List Digest → ℕ → Type 0) (a b : LinksState)
    → ((target : Target) (list : List Digest) (size : ℕ) → P target list size → Q target list size)
    → OnlyLiarsWent P a b → OnlyLiarsWent Q a b
went_weaker P Q a b each went = λ n is gone tells.
    let lied = went n is gone tells in
    record {
      target = lied.target;
      asked = lied.asked;
      list = lied.list;
      size = lied.size;
      listed = each lied.target lied.list lied.size lied.listed;
      bytes = lied.bytes;
      there = lied.there;
      other = lied.other;
    }

pub but_weaker : (P Q : Target → List Digest → ℕ → Type 0) (a b : LinksState)
    → ((target : Target) (list : List Digest) (size : ℕ) → P target list size → Q target list size)
    → KeptBut P a b → KeptBut Q a b
but_weaker P Q a b each but = record { kept = but.kept; went = went_weaker P Q a b each but.went }
