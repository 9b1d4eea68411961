-- Which links were asked, one after another.
use Rattle.std.proofs.Common.{◌≡◌, ◌≢◌, ℕ, ◌+◌, ◌<◌, ⊎_elim, Bool, List, length, refl, sym, ap, subst, ◌∙◌, arith}
use Rattle.std.proofs.lemmas.Bool.{cases_eq}
use Rattle.small_types.specs.declared.target.Target.{Target}
use Rattle.links.specs.Link.{Stays}
use Rattle.links.specs.Links.{LinksState, Remain, link_at, number_at, sources_of}
use Rattle.links.proofs.Numbers.{known_at, numbers_apart}
use Rattle.causes.specs.declared.cause.Cause.{Cause}
use Rattle.fetcher.specs.declared.fault.FetchFault.{FetchFault}
use Rattle.fetcher.specs.declared.fault.FetchFault.TheVariants.{AllLinks, BasketFault, Memory}
use Rattle.fetcher.specs.Fetched.{became}
use Rattle.fetcher.specs.Once.{AskedFirst, AskedInVain, AskedUpTo, HasServed, IsAsked}
use Rattle.fetcher.specs.declared.stopped.Stopped.{Stopped}
use Rattle.fetcher.specs.declared.stopped.Stopped.TheVariants.{By, Basket, Memory as NoMemory}
use Rattle.fetcher.specs.Stopped.{Moves, TellsCauses, end_of_fetch}
use Rattle.fetcher.proofs.Histories.{asked_along, served_along}

module _ (Serves : ℕ → Type 0) (most : ℕ) (target : Target) where
  -- none was asked yet
  pub first_none : (a b : LinksState) → ((n : ℕ) → n < length a.there → Stays (a.link n) (b.link n))
      → AskedFirst Serves most target a b 0
  first_none a b links = record {
    within = omega arith;
    each = λ k less. absurd (omega arith);
    behind = λ k from less. (links (number_at a.there k) (known_at a.there k less)).history;
  }

  -- what comes to pass without a call
  pub first_after : (a c d : LinksState) (many : ℕ) → Remain a c
      → ((n : ℕ) → n < length c.there → Stays (c.link n) (d.link n))
      → AskedFirst Serves most target a c many → AskedFirst Serves most target a d many
  first_after a c d many remain rest so =
      let at_rest : (k : ℕ) → k < sources_of a → (became a d k).history ≡ (became a c k).history =
      λ k below. (rest (number_at a.there k)
      (subst (λ (t : List Bool). number_at a.there k < length t) (sym remain.there) (known_at a.there k below))).history in
      record {
        within = so.within;
        each = λ k less.
            asked_along (link_at a k) (link_at a k) (became a c k) (became a d k) refl
            (at_rest k (omega (arith, less, so.within))) Serves most target (so.each k less);
        behind = λ k from less. at_rest k less ∙ so.behind k from less;
      }

  -- the next one was asked
  module _ (place : ℕ) (a b c : LinksState) (remain : Remain a b)
      (so : AskedFirst Serves most target a b place) (moves : Moves place b c)
      (less : place < sources_of a) where
    number_then : number_at b.there place ≡ number_at a.there place
    number_then = ap (λ (t : List Bool). number_at t place) remain.there

    number_now : number_at c.there place ≡ number_at a.there place
    number_now = ap (λ (t : List Bool). number_at t place) (moves.only.remain.there ∙ remain.there)

    others_stay : (k : ℕ) → k < sources_of a → k ≢ place → (became a c k).history ≡ (became a b k).history
    others_stay k below other =
        (moves.only.others (number_at a.there k)
        (subst (λ (t : List Bool). number_at a.there k < length t) (sym remain.there) (known_at a.there k below))
        (subst (λ (n : ℕ). number_at a.there k ≢ n) (sym number_then) (numbers_apart a.there k place below less other))).history

    before_here : (link_at b place).history ≡ (link_at a place).history
    before_here =
        ap (λ (n : ℕ). (b.link n).history) number_then ∙ so.behind place (omega arith) less

    after_here : (became a c place).history ≡ (link_at c place).history
    after_here = sym (ap (λ (n : ℕ). (c.link n).history) number_now)

    pub first_next : IsAsked Serves most target (link_at b place) (link_at c place)
        → AskedFirst Serves most target a c (place + 1)
    first_next is = record {
      within = omega arith;
      each = λ k below.
          ⊎_elim
          (λ e. subst (λ (n : ℕ). IsAsked Serves most target (link_at a n) (became a c n)) (sym e)
          (asked_along (link_at a place) (link_at b place) (link_at c place) (became a c place)
          before_here after_here Serves most target is))
          (λ other. asked_along (link_at a k) (link_at a k) (became a b k) (became a c k) refl
          (others_stay k (omega (arith, below, less)) other) Serves most target
          (so.each k (omega (arith, below, other))))
          (cases_eq k place);
      behind = λ k from below.
          others_stay k below (λ e. omega (arith, e, from)) ∙ so.behind k (omega (arith, from)) below;
    }

    -- and served, and then no link is asked any more
    pub up_to : (bytes : List ℕ) → IsAsked Serves most target (link_at b place) (link_at c place)
        → HasServed Serves target (link_at b place) (link_at c place) bytes → (d : LinksState)
        → ((n : ℕ) → n < length c.there → Stays (c.link n) (d.link n))
        → AskedUpTo Serves most target a d place bytes
    up_to bytes is served d rest =
        let all : Remain a c = record {
          there = moves.only.remain.there ∙ remain.there;
          sources = moves.only.remain.sources ∙ remain.sources;
        } in
        let known : number_at a.there place < length c.there =
        subst (λ (t : List Bool). number_at a.there place < length t) (sym all.there) (known_at a.there place less) in
        record {
          first = first_after a c d (place + 1) all rest (first_next is);
          served = served_along (link_at a place) (link_at b place) (link_at c place) (became a d place)
              before_here ((rest (number_at a.there place) known).history ∙ after_here) Serves target bytes served;
        }

  -- ---- none served

  -- the fetch stopped at one of them
  pub vain_stop : (a c : LinksState) (many : ℕ) → AskedFirst Serves most target a c many
      → (stop : Stopped) (fault : FetchFault) → fault ≡ end_of_fetch stop
      → AskedInVain Serves most target a c fault
  vain_stop a c many so (By cause) fault is =
      subst (AskedInVain Serves most target a c) (sym is) (many, so)
  vain_stop a c many so Basket fault is =
      subst (AskedInVain Serves most target a c) (sym is) (many, so)
  vain_stop a c many so NoMemory fault is =
      subst (AskedInVain Serves most target a c) (sym is) (many, so)

  pub vain_all : (a c : LinksState) (many : ℕ) → many ≡ sources_of a
      → AskedFirst Serves most target a c many → (causes : List Cause) (fault : FetchFault)
      → TellsCauses target causes fault → AskedInVain Serves most target a c fault
  vain_all a c many all so causes (AllLinks shown told) tells =
      subst (AskedFirst Serves most target a c) all so
  vain_all a c many all so causes BasketFault tells = absurd tells
  vain_all a c many all so causes Memory tells = (many, so)
