-- What stays of links over several calls.
use Rattle.std.proofs.Common.{◌≡◌, ◌≢◌, ℕ, ◌<◌, Bool, List, [], ◌∷◌, ◌++◌, length, refl, sym, subst, ◌∙◌, arith}
use Rattle.small_types.specs.declared.target.Target.{Target}
use Rattle.links.specs.Link.{LinkState, KeepsSite, Stays}
use Rattle.links.specs.Links.{LinksState, Remain, link_at, number_at}
use Rattle.fetcher.specs.Stopped.{Moves}

pub keeps_same : (s : LinkState) → KeepsSite s s
keeps_same s = record { tells = (λ t. t, λ t. t); same = λ told target. refl }

pub keeps_then : (a b c : LinkState) → KeepsSite a b → KeepsSite b c → KeepsSite a c
keeps_then a b c one two = record {
  tells = (λ t. two.tells.0 (one.tells.0 t), λ t. one.tells.1 (two.tells.1 t));
  same = λ told target. two.same (one.tells.0 told) target ∙ one.same told target;
}

pub stays_same : (s : LinkState) → Stays s s
stays_same s = record { site = keeps_same s; rest = refl; count = refl; history = refl }

pub stays_then : (a b c : LinkState) → Stays a b → Stays b c → Stays a c
stays_then a b c one two = record {
  site = keeps_then a b c one.site two.site;
  rest = two.rest ∙ one.rest;
  count = two.count ∙ one.count;
  history = two.history ∙ one.history;
}

pub remain_then : (a b c : LinksState) → Remain a b → Remain b c → Remain a c
remain_then a b c one two = record {
  there = two.there ∙ one.there;
  sources = two.sources ∙ one.sources;
}

pub moves_then : (place : ℕ) (a b c : LinksState) → Moves place a b → Moves place b c → Moves place a c
moves_then place a b c one two = record {
  only = record {
    remain = remain_then a b c one.only.remain two.only.remain;
    asked = two.only.asked ∙ one.only.asked;
    others = λ n less other. stays_then (a.link n) (b.link n) (c.link n) (one.only.others n less other)
        (two.only.others n
        (subst (λ (t : List Bool). n < length t) (sym one.only.remain.there) less)
        (subst (λ (t : List Bool). n ≢ number_at t place) (sym one.only.remain.there) other));
  };
  site = keeps_then (link_at a place) (link_at b place) (link_at c place) one.site two.site;
  later = omega (arith, one.later, two.later);
}

-- the target was added, and nothing else changed
pub record Wanted (target : Target) (a b : LinksState) : Type 0 where
  pub asked : b.asked ≡ a.asked ++ target ∷ []
  pub remain : Remain a b
  pub links : (n : ℕ) → n < length a.there → Stays (a.link n) (b.link n)
