use Rattle.std.proofs.Common.{◌≡◌, ℕ, ◌+◌, ◌*◌, ◌<◌, ◌∙◌, List, refl, sym, subst, arith}
use Rattle.std.proofs.lemmas.Result.{err_from_is_err_and}
use Rattle.links.specs.Links.{LinksState, sources_of}
use Rattle.causes.specs.declared.cause.Cause.{Cause}
use Rattle.fetcher.specs.Causes.{IsFileCause}
use Rattle.fetcher.specs.Fetched.{IsThis}
use Rattle.fetcher.specs.Stopped.{DropsLiars}
use Rattle.fetcher.proofs.FetchEnds.{count_stays, file_kept, file_more, file_once, file_refused, file_served}
use Rattle.fetcher.proofs.HandedBytes.{handed_all, handed_last, handed_next, handed_none, not_same}
use Rattle.fetcher.proofs.InOrder.{Refused, all_stay, refused_none}
use Rattle.fetcher.proofs.InTurn.{first_next, first_none, up_to, vain_all, vain_stop}
use Rattle.fetcher.proofs.Liars.{but_all}
use Rattle.fetcher.specs.Once.{ShowsFileCause}
use Rattle.fetcher.proofs.Shown.{file_kind, none_shown, shown_all, shown_more, shown_stop, shown_went}
use Rattle.fetcher.proofs.file.fetch_file.Goals as goal

pub returns-in-Ok-clause-file : goal.returns-in-Ok-clause-file
returns-in-Ok-clause-file g c =
    let a : LinksState = g.L.Links.links c.args.links.now in
    let b : LinksState = g.L.Links.links c.loop-place.links in
    let left : LinksState = g.L.Links.links c.file_of.new.links in
    let d : LinksState = g.L.Links.links c.retire_liars.new.links in
    let count = c.sources-place-end.ensures.count in
    let less : c.loop-place.place < sources_of a = omega (arith, count, c.in_ok-want.ensures.remain.sources) in
    file_served c.loop-place.place a b left c.loop-place.causes.items c.args.target.now
    c.in-Ok.ensures.moves less c.args.list.now c.args.size
    g.B.Basket.tells (g.B.Basket.taken c.file_of.new.basket)
    c.loop-place.invariant.refused c.in-Ok.ensures.file d
    (subst (λ (cs : List Cause). DropsLiars cs left d) c.deref.ensures.value c.retire_liars.ensures)

pub returns-in-Ok-clause-kept : goal.returns-in-Ok-clause-kept
returns-in-Ok-clause-kept g c =
    let a : LinksState = g.L.Links.links c.args.links.now in
    let b : LinksState = g.L.Links.links c.loop-place.links in
    let left : LinksState = g.L.Links.links c.file_of.new.links in
    let d : LinksState = g.L.Links.links c.retire_liars.new.links in
    let count = c.sources-place-end.ensures.count in
    let less : c.loop-place.place < sources_of a = omega (arith, count, c.in_ok-want.ensures.remain.sources) in
    file_kept c.loop-place.place a b left c.loop-place.causes.items c.args.target.now
    c.in-Ok.ensures.moves less c.args.list.now c.args.size
    g.B.Basket.tells (g.B.Basket.taken c.file_of.new.basket)
    c.loop-place.invariant.refused c.in-Ok.ensures.file d
    (subst (λ (cs : List Cause). DropsLiars cs left d) c.deref.ensures.value c.retire_liars.ensures)

pub loop-place-preserved : goal.loop-place-preserved
loop-place-preserved g c =
    let a : LinksState = g.L.Links.links c.args.links.now in
    let b : LinksState = g.L.Links.links c.loop-place.links in
    let left : LinksState = g.L.Links.links c.file_of.new.links in
    let count = c.sources-place-end.ensures.count in
    let less : c.loop-place.place < sources_of a = omega (arith, count, c.in_ok-want.ensures.remain.sources) in
    let before = g.B.Basket.count c.loop-place.basket in
    let after = g.B.Basket.count c.file_of.new.basket in
    let added = c.in_default.ensures.added in
    record {
      refused = file_more c.loop-place.place a b left c.loop-place.causes.items c.args.target.now
          c.in-Err.ensures.moves less c.args.list.now c.args.size before after
          c.loop-place.invariant.refused c.in-Err.stop c.add_cause.new.causes.items
          c.in-Err.ensures.stop added;
      shown = shown_more (ShowsFileCause c.args.list.now c.args.size c.args.target.now) c.args.target.now
          (file_kind c.args.list.now c.args.size c.args.target.now) c.loop-place.place a b left c.loop-place.causes.items
          c.loop-place.invariant.shown c.in-Err.ensures.moves less c.in-Err.stop c.add_cause.new.causes.items
          c.in-Err.ensures.shown added;
      once = first_next (λ (n : ℕ). n ≡ c.args.size) c.args.size c.args.target.now c.loop-place.place a b left
          c.loop-place.invariant.refused.remain c.loop-place.invariant.once c.in-Err.ensures.moves less c.in-Err.ensures.once;
      basket = count_stays before after c.in-Err.stop c.file_of.result c.loop-place.causes.items
          c.add_cause.new.causes.items c.in-Err.is c.file_of.ensures.basket added
          ∙ c.loop-place.invariant.basket;
      turned = handed_next g.B.Basket.turns_to g.met.B.Basket.turns_on c.args.size c.loop-place.place _ _ _ c.loop-place.invariant.turned c.in-Err.ensures.turned;
    }

pub returns-clause-fault : goal.returns-clause-fault
returns-clause-fault g c =
    let a : LinksState = g.L.Links.links c.args.links.now in
    let left : LinksState = g.L.Links.links c.loop-place.links in
    let count = c.sources-place-end.ensures.count in
    let all : c.loop-place.place ≡ sources_of a = omega (arith, count, c.in_ok-want.ensures.remain.sources) in
    file_refused c.loop-place.place a left c.loop-place.causes.items c.args.target.now all
    c.args.list.now c.args.size (g.B.Basket.count c.args.basket.now)
    (g.B.Basket.count c.loop-place.basket) c.loop-place.invariant.refused
    c.all_links.result c.all_links.ensures

pub returns-in_err-want-clause-kept : goal.returns-in_err-want-clause-kept
returns-in_err-want-clause-kept g c =
    let a : LinksState = g.L.Links.links c.args.links.now in
    let b : LinksState = g.L.Links.links c.want.new.self in
    but_all (IsThis c.args.target.now c.args.list.now c.args.size) a b
    (all_stay a b c.in_err-want.ensures.err c.in_err-want.ensures.remain c.in_err-want.ensures.links)

pub loop-place-init : goal.loop-place-init
loop-place-init g c =
    let a : LinksState = g.L.Links.links c.args.links.now in
    let b : LinksState = g.L.Links.links c.want.new.self in
    record {
      refused = subst (Refused (IsFileCause c.args.list.now c.args.size c.args.target.now) c.args.target.now 0 a b)
          (sym c.new-causes.ensures.items)
          (refused_none (IsFileCause c.args.list.now c.args.size c.args.target.now) c.args.target.now a b
          (record { asked = c.in_ok-want.ensures.ok; remain = c.in_ok-want.ensures.remain; links = c.in_ok-want.ensures.links }));
      shown = subst (Refused (ShowsFileCause c.args.list.now c.args.size c.args.target.now) c.args.target.now 0 a b)
          (sym c.new-causes.ensures.items)
          (refused_none (ShowsFileCause c.args.list.now c.args.size c.args.target.now) c.args.target.now a b
          (record { asked = c.in_ok-want.ensures.ok; remain = c.in_ok-want.ensures.remain; links = c.in_ok-want.ensures.links }));
      once = first_none (λ (n : ℕ). n ≡ c.args.size) c.args.size c.args.target.now a b c.in_ok-want.ensures.links;
      basket = refl;
      turned = handed_none g.B.Basket.turns_to g.met.B.Basket.turns_same (c.args.size * 0) _;
    }

pub returns-in_err-want-clause-turned : goal.returns-in_err-want-clause-turned
returns-in_err-want-clause-turned g c =
    handed_none g.B.Basket.turns_to g.met.B.Basket.turns_same (c.args.size * sources_of (g.L.Links.links c.args.links.now)) _

pub returns-in-Ok-clause-turned : goal.returns-in-Ok-clause-turned
returns-in-Ok-clause-turned g c =
    let a : LinksState = g.L.Links.links c.args.links.now in
    let count = c.sources-place-end.ensures.count in
    let less : c.loop-place.place < sources_of a = omega (arith, count, c.in_ok-want.ensures.remain.sources) in
    handed_last g.B.Basket.turns_to g.met.B.Basket.turns_on c.args.size c.loop-place.place (sources_of a) _ _ _ less
    c.loop-place.invariant.turned c.in-Ok.ensures.turned

pub returns-in-Err-add_cause-clause-turned : goal.returns-in-Err-add_cause-clause-turned
returns-in-Err-add_cause-clause-turned g c =
    let a : LinksState = g.L.Links.links c.args.links.now in
    let count = c.sources-place-end.ensures.count in
    let less : c.loop-place.place < sources_of a = omega (arith, count, c.in_ok-want.ensures.remain.sources) in
    handed_last g.B.Basket.turns_to g.met.B.Basket.turns_on c.args.size c.loop-place.place (sources_of a) _ _ _ less
    c.loop-place.invariant.turned c.in-Err.ensures.turned

pub returns-clause-turned : goal.returns-clause-turned
returns-clause-turned g c =
    let a : LinksState = g.L.Links.links c.args.links.now in
    let count = c.sources-place-end.ensures.count in
    let all : c.loop-place.place ≡ sources_of a = omega (arith, count, c.in_ok-want.ensures.remain.sources) in
    handed_all g.B.Basket.turns_to c.args.size c.loop-place.place (sources_of a) _ _ (omega arith)
    c.loop-place.invariant.turned

pub returns-in_err-want-clause-idle : goal.returns-in_err-want-clause-idle
returns-in_err-want-clause-idle g c = λ same. handed_none g.B.Basket.turns_to g.met.B.Basket.turns_same 0 _

pub returns-in-Ok-clause-idle : goal.returns-in-Ok-clause-idle
returns-in-Ok-clause-idle g c = λ same.
    let a : LinksState = g.L.Links.links c.args.links.now in
    let b : LinksState = g.L.Links.links c.loop-place.links in
    let left : LinksState = g.L.Links.links c.file_of.new.links in
    let d : LinksState = g.L.Links.links c.retire_liars.new.links in
    let count = c.sources-place-end.ensures.count in
    let less : c.loop-place.place < sources_of a = omega (arith, count, c.in_ok-want.ensures.remain.sources) in
    let file = file_served c.loop-place.place a b left c.loop-place.causes.items c.args.target.now
    c.in-Ok.ensures.moves less c.args.list.now c.args.size
    g.B.Basket.tells (g.B.Basket.taken c.file_of.new.basket)
    c.loop-place.invariant.refused c.in-Ok.ensures.file d
    (subst (λ (cs : List Cause). DropsLiars cs left d) c.deref.ensures.value c.retire_liars.ensures) in
    absurd (not_same c.args.target.now a.asked d.asked file.asked same)

pub returns-in-Err-add_cause-clause-idle : goal.returns-in-Err-add_cause-clause-idle
returns-in-Err-add_cause-clause-idle g c = λ same.
    let a : LinksState = g.L.Links.links c.args.links.now in
    let left : LinksState = g.L.Links.links c.file_of.new.links in
    absurd (not_same c.args.target.now a.asked left.asked
    (c.in-Err.ensures.moves.only.asked ∙ c.loop-place.invariant.refused.asked) same)

pub returns-clause-idle : goal.returns-clause-idle
returns-clause-idle g c = λ same.
    let a : LinksState = g.L.Links.links c.args.links.now in
    let left : LinksState = g.L.Links.links c.loop-place.links in
    absurd (not_same c.args.target.now a.asked left.asked c.loop-place.invariant.refused.asked same)

pub returns-in_err-want-clause-once : goal.returns-in_err-want-clause-once
returns-in_err-want-clause-once g c =
    let p = err_from_is_err_and c.from_residual.result c.from_residual.ensures.1 in
    rw (p.1, p.2) (
      0,
      first_none (λ (n : ℕ). n ≡ c.args.size) c.args.size c.args.target.now (g.L.Links.links c.args.links.now)
          (g.L.Links.links c.want.new.self) c.in_err-want.ensures.links,
    )

pub returns-in-Ok-clause-once : goal.returns-in-Ok-clause-once
returns-in-Ok-clause-once g c =
    let a : LinksState = g.L.Links.links c.args.links.now in
    let b : LinksState = g.L.Links.links c.loop-place.links in
    let left : LinksState = g.L.Links.links c.file_of.new.links in
    let count = c.sources-place-end.ensures.count in
    let less : c.loop-place.place < sources_of a = omega (arith, count, c.in_ok-want.ensures.remain.sources) in
    let d : LinksState = g.L.Links.links c.retire_liars.new.links in
    let of = c.in-Ok.ensures.file in
    let drops : DropsLiars c.loop-place.causes.items left d =
    subst (λ (cs : List Cause). DropsLiars cs left d) c.deref.ensures.value c.retire_liars.ensures in
    file_once c.loop-place.place a b left c.loop-place.causes.items c.args.target.now
    c.in-Ok.ensures.moves less c.args.list.now c.args.size
    g.B.Basket.tells (g.B.Basket.taken c.file_of.new.basket) c.loop-place.invariant.refused of d drops
    (up_to (λ (n : ℕ). n ≡ c.args.size) c.args.size c.args.target.now c.loop-place.place a b left
    c.loop-place.invariant.refused.remain c.loop-place.invariant.once c.in-Ok.ensures.moves less of.bytes
    c.in-Ok.ensures.once of.served d drops.links)

pub returns-in-Err-add_cause-clause-once : goal.returns-in-Err-add_cause-clause-once
returns-in-Err-add_cause-clause-once g c =
    let a : LinksState = g.L.Links.links c.args.links.now in
    let b : LinksState = g.L.Links.links c.loop-place.links in
    let left : LinksState = g.L.Links.links c.file_of.new.links in
    let count = c.sources-place-end.ensures.count in
    let less : c.loop-place.place < sources_of a = omega (arith, count, c.in_ok-want.ensures.remain.sources) in
    vain_stop (λ (n : ℕ). n ≡ c.args.size) c.args.size c.args.target.now a left (c.loop-place.place + 1)
    (first_next (λ (n : ℕ). n ≡ c.args.size) c.args.size c.args.target.now c.loop-place.place a b left
    c.loop-place.invariant.refused.remain c.loop-place.invariant.once c.in-Err.ensures.moves less c.in-Err.ensures.once)
    c.in-Err.stop c.in-Err-add_cause.fault c.in-Err-add_cause.ensures.ends

pub returns-clause-once : goal.returns-clause-once
returns-clause-once g c =
    let a : LinksState = g.L.Links.links c.args.links.now in
    let left : LinksState = g.L.Links.links c.loop-place.links in
    let count = c.sources-place-end.ensures.count in
    let all : c.loop-place.place ≡ sources_of a = omega (arith, count, c.in_ok-want.ensures.remain.sources) in
    vain_all (λ (n : ℕ). n ≡ c.args.size) c.args.size c.args.target.now a left c.loop-place.place all
    c.loop-place.invariant.once c.loop-place.causes.items c.all_links.result c.all_links.ensures

pub returns-in_err-want-clause-gone : goal.returns-in_err-want-clause-gone
returns-in_err-want-clause-gone g c =
    none_shown c.args.list.now c.args.size c.args.target.now (g.L.Links.links c.args.links.now)
    (g.L.Links.links c.want.new.self) c.in_err-want.ensures.remain.there

pub returns-in-Ok-clause-gone : goal.returns-in-Ok-clause-gone
returns-in-Ok-clause-gone g c =
    let a : LinksState = g.L.Links.links c.args.links.now in
    let b : LinksState = g.L.Links.links c.loop-place.links in
    let left : LinksState = g.L.Links.links c.file_of.new.links in
    let d : LinksState = g.L.Links.links c.retire_liars.new.links in
    let count = c.sources-place-end.ensures.count in
    let less : c.loop-place.place < sources_of a = omega (arith, count, c.in_ok-want.ensures.remain.sources) in
    let of = c.in-Ok.ensures.file in
    shown_went c.args.list.now c.args.size c.args.target.now c.loop-place.place a b left c.loop-place.causes.items
    c.loop-place.invariant.shown c.in-Ok.ensures.moves less of.bytes of.told of.sound d
    (subst (λ (cs : List Cause). DropsLiars cs left d) c.deref.ensures.value c.retire_liars.ensures)

pub returns-in-Err-add_cause-clause-gone : goal.returns-in-Err-add_cause-clause-gone
returns-in-Err-add_cause-clause-gone g c =
    none_shown c.args.list.now c.args.size c.args.target.now (g.L.Links.links c.args.links.now)
    (g.L.Links.links c.file_of.new.links)
    (c.in-Err.ensures.moves.only.remain.there ∙ c.loop-place.invariant.refused.remain.there)

pub returns-clause-gone : goal.returns-clause-gone
returns-clause-gone g c =
    none_shown c.args.list.now c.args.size c.args.target.now (g.L.Links.links c.args.links.now)
    (g.L.Links.links c.loop-place.links) c.loop-place.invariant.refused.remain.there

pub returns-in_err-want-clause-shown : goal.returns-in_err-want-clause-shown
returns-in_err-want-clause-shown g c =
    let p = err_from_is_err_and c.from_residual.result c.from_residual.ensures.1 in
    rw (p.1, p.2) tt

pub returns-in-Err-add_cause-clause-shown : goal.returns-in-Err-add_cause-clause-shown
returns-in-Err-add_cause-clause-shown g c =
    shown_stop (ShowsFileCause c.args.list.now c.args.size c.args.target.now) c.args.target.now
    (file_kind c.args.list.now c.args.size c.args.target.now) (g.L.Links.links c.args.links.now)
    (g.L.Links.links c.file_of.new.links) c.in-Err.stop c.in-Err-add_cause.fault c.in-Err-add_cause.ensures.ends

pub returns-clause-shown : goal.returns-clause-shown
returns-clause-shown g c =
    let a : LinksState = g.L.Links.links c.args.links.now in
    let left : LinksState = g.L.Links.links c.loop-place.links in
    let count = c.sources-place-end.ensures.count in
    let all : c.loop-place.place ≡ sources_of a = omega (arith, count, c.in_ok-want.ensures.remain.sources) in
    shown_all (ShowsFileCause c.args.list.now c.args.size c.args.target.now) c.args.target.now
    (file_kind c.args.list.now c.args.size c.args.target.now) c.loop-place.place a left c.loop-place.causes.items all
    c.loop-place.invariant.shown c.all_links.result c.all_links.ensures
