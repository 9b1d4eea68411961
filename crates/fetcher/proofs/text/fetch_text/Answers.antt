use Rattle.std.proofs.Common.{◌≡◌, ℕ, ◌+◌, ◌<◌, ◌≤◌, sym, subst, arith}
use Rattle.std.proofs.lemmas.Result.{err_from_is_err_and}
use Rattle.links.specs.Links.{LinksState, sources_of}
use Rattle.fetcher.specs.Causes.{IsTextCause}
use Rattle.fetcher.proofs.FetchEnds.{text_more, text_once, text_refused, text_served}
use Rattle.fetcher.proofs.InOrder.{Refused, refused_none}
use Rattle.fetcher.proofs.InTurn.{first_next, first_none, up_to, vain_all, vain_stop}
use Rattle.fetcher.proofs.KeptLinks.{stays_same}
use Rattle.fetcher.specs.Once.{ShowsTextCause}
use Rattle.fetcher.proofs.Shown.{shown_all, shown_more, shown_stop, text_kind}
use Rattle.fetcher.proofs.text.fetch_text.Goals as goal

pub returns-in-Ok-clause-text : goal.returns-in-Ok-clause-text
returns-in-Ok-clause-text g c =
    let a : LinksState = g.L.Links.links c.args.links.now in
    let b : LinksState = g.L.Links.links c.loop-place.links in
    let left : LinksState = g.L.Links.links c.text_of.new.links in
    let count = c.sources-place-end.ensures.count in
    let less : c.loop-place.place < sources_of a = omega (arith, count, c.in_ok-want.ensures.remain.sources) in
    text_served c.loop-place.place a b left c.loop-place.causes.items c.args.target.now
    c.in-Ok.ensures.moves less c.args.limit c.loop-place.invariant.refused
    c.in-Ok.bytes c.in-Ok.ensures.text

pub loop-place-preserved : goal.loop-place-preserved
loop-place-preserved g c =
    let a : LinksState = g.L.Links.links c.args.links.now in
    let b : LinksState = g.L.Links.links c.loop-place.links in
    let left : LinksState = g.L.Links.links c.text_of.new.links in
    let count = c.sources-place-end.ensures.count in
    let less : c.loop-place.place < sources_of a = omega (arith, count, c.in_ok-want.ensures.remain.sources) in
    record {
      refused = text_more c.loop-place.place a b left c.loop-place.causes.items c.args.target.now
          c.in-Err.ensures.moves less c.args.limit c.loop-place.invariant.refused c.in-Err.stop
          c.add_cause.new.causes.items c.in-Err.ensures.stop c.in_default.ensures.added;
      shown = shown_more (ShowsTextCause c.args.target.now) c.args.target.now (text_kind c.args.target.now)
          c.loop-place.place a b left c.loop-place.causes.items c.loop-place.invariant.shown c.in-Err.ensures.moves less
          c.in-Err.stop c.add_cause.new.causes.items c.in-Err.ensures.shown c.in_default.ensures.added;
      once = first_next (λ (n : ℕ). n ≤ c.args.limit) c.args.limit c.args.target.now c.loop-place.place a b left
          c.loop-place.invariant.refused.remain c.loop-place.invariant.once c.in-Err.ensures.moves less c.in-Err.ensures.once;
    }

pub returns-clause-fault : goal.returns-clause-fault
returns-clause-fault g c =
    let a : LinksState = g.L.Links.links c.args.links.now in
    let left : LinksState = g.L.Links.links c.loop-place.links in
    let count = c.sources-place-end.ensures.count in
    let all : c.loop-place.place ≡ sources_of a = omega (arith, count, c.in_ok-want.ensures.remain.sources) in
    text_refused c.loop-place.place a left c.loop-place.causes.items c.args.target.now all
    c.args.limit c.loop-place.invariant.refused c.all_links.result c.all_links.ensures

pub loop-place-init : goal.loop-place-init
loop-place-init g c =
    let a : LinksState = g.L.Links.links c.args.links.now in
    let b : LinksState = g.L.Links.links c.want.new.self in
    record {
      refused = subst (Refused (IsTextCause c.args.limit c.args.target.now) c.args.target.now 0 a b)
          (sym c.new-causes.ensures.items)
          (refused_none (IsTextCause c.args.limit c.args.target.now) c.args.target.now a b
          (record { asked = c.in_ok-want.ensures.ok; remain = c.in_ok-want.ensures.remain; links = c.in_ok-want.ensures.links }));
      shown = subst (Refused (ShowsTextCause c.args.target.now) c.args.target.now 0 a b)
          (sym c.new-causes.ensures.items)
          (refused_none (ShowsTextCause c.args.target.now) c.args.target.now a b
          (record { asked = c.in_ok-want.ensures.ok; remain = c.in_ok-want.ensures.remain; links = c.in_ok-want.ensures.links }));
      once = first_none (λ (n : ℕ). n ≤ c.args.limit) c.args.limit c.args.target.now a b c.in_ok-want.ensures.links;
    }

pub returns-in_err-want-clause-once : goal.returns-in_err-want-clause-once
returns-in_err-want-clause-once g c =
    let p = err_from_is_err_and c.from_residual.result c.from_residual.ensures.1 in
    rw (p.1, p.2) (
      0,
      first_none (λ (n : ℕ). n ≤ c.args.limit) c.args.limit c.args.target.now (g.L.Links.links c.args.links.now)
          (g.L.Links.links c.want.new.self) c.in_err-want.ensures.links,
    )

pub returns-in-Ok-clause-once : goal.returns-in-Ok-clause-once
returns-in-Ok-clause-once g c =
    let a : LinksState = g.L.Links.links c.args.links.now in
    let b : LinksState = g.L.Links.links c.loop-place.links in
    let left : LinksState = g.L.Links.links c.text_of.new.links in
    let count = c.sources-place-end.ensures.count in
    let less : c.loop-place.place < sources_of a = omega (arith, count, c.in_ok-want.ensures.remain.sources) in
    text_once c.loop-place.place a b left c.loop-place.causes.items c.args.target.now
    c.in-Ok.ensures.moves less c.args.limit c.loop-place.invariant.refused c.in-Ok.bytes c.in-Ok.ensures.text
    (up_to (λ (n : ℕ). n ≤ c.args.limit) c.args.limit c.args.target.now c.loop-place.place a b left
    c.loop-place.invariant.refused.remain c.loop-place.invariant.once c.in-Ok.ensures.moves less c.in-Ok.bytes
    c.in-Ok.ensures.once c.in-Ok.ensures.served left (λ n below. stays_same (left.link n)))

pub returns-in-Err-add_cause-clause-once : goal.returns-in-Err-add_cause-clause-once
returns-in-Err-add_cause-clause-once g c =
    let a : LinksState = g.L.Links.links c.args.links.now in
    let b : LinksState = g.L.Links.links c.loop-place.links in
    let left : LinksState = g.L.Links.links c.text_of.new.links in
    let count = c.sources-place-end.ensures.count in
    let less : c.loop-place.place < sources_of a = omega (arith, count, c.in_ok-want.ensures.remain.sources) in
    vain_stop (λ (n : ℕ). n ≤ c.args.limit) c.args.limit c.args.target.now a left (c.loop-place.place + 1)
    (first_next (λ (n : ℕ). n ≤ c.args.limit) c.args.limit c.args.target.now c.loop-place.place a b left
    c.loop-place.invariant.refused.remain c.loop-place.invariant.once c.in-Err.ensures.moves less c.in-Err.ensures.once)
    c.in-Err.stop c.in-Err-add_cause.fault c.in-Err-add_cause.ensures.ends

pub returns-clause-once : goal.returns-clause-once
returns-clause-once g c =
    let a : LinksState = g.L.Links.links c.args.links.now in
    let left : LinksState = g.L.Links.links c.loop-place.links in
    let count = c.sources-place-end.ensures.count in
    let all : c.loop-place.place ≡ sources_of a = omega (arith, count, c.in_ok-want.ensures.remain.sources) in
    vain_all (λ (n : ℕ). n ≤ c.args.limit) c.args.limit c.args.target.now a left c.loop-place.place all
    c.loop-place.invariant.once c.loop-place.causes.items c.all_links.result c.all_links.ensures

pub returns-in_err-want-clause-shown : goal.returns-in_err-want-clause-shown
returns-in_err-want-clause-shown g c =
    let p = err_from_is_err_and c.from_residual.result c.from_residual.ensures.1 in
    rw (p.1, p.2) tt

pub returns-in-Err-add_cause-clause-shown : goal.returns-in-Err-add_cause-clause-shown
returns-in-Err-add_cause-clause-shown g c =
    shown_stop (ShowsTextCause c.args.target.now) c.args.target.now (text_kind c.args.target.now)
    (g.L.Links.links c.args.links.now) (g.L.Links.links c.text_of.new.links) c.in-Err.stop c.in-Err-add_cause.fault
    c.in-Err-add_cause.ensures.ends

pub returns-clause-shown : goal.returns-clause-shown
returns-clause-shown g c =
    let a : LinksState = g.L.Links.links c.args.links.now in
    let left : LinksState = g.L.Links.links c.loop-place.links in
    let count = c.sources-place-end.ensures.count in
    let all : c.loop-place.place ≡ sources_of a = omega (arith, count, c.in_ok-want.ensures.remain.sources) in
    shown_all (ShowsTextCause c.args.target.now) c.args.target.now (text_kind c.args.target.now) c.loop-place.place a left
    c.loop-place.causes.items all c.loop-place.invariant.shown c.all_links.result c.all_links.ensures
