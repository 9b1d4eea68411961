use Rattle.std.proofs.Common.{◌≡◌, ℕ, Ok, Err, refl, ◌∙◌, arith}
use Rattle.links.specs.Link.{LinkState}
use Rattle.links.specs.Links.{link_at}
use Rattle.fetcher.proofs.Checked.{file_given, other_given, size_differs}
use Rattle.fetcher.proofs.HandedBytes.{handed_behind, handed_none}
use Rattle.fetcher.proofs.Histories.{asked_alone, asked_pieces}
use Rattle.fetcher.proofs.Shown.{file_fault, shown_bytes, shown_pour, shown_size}
use Rattle.fetcher.proofs.file.file_of.Goals as goal

pub returns-then-length-size-clause-stop : goal.returns-then-length-size-clause-stop
returns-then-length-size-clause-stop g c =
    let first : LinkState = link_at (g.L.Links.links c.args.links.now) c.args.place in
    let asked : LinkState = link_at (g.L.Links.links c.ask.new.self) c.args.place in
    size_differs c.args.list.now c.args.size c.in-Ok.length c.args.target.now first asked c.in-Ok.ensures.asks.opens c.if-length-size.true

pub returns-in-None-clause-file : goal.returns-in-None-clause-file
returns-in-None-clause-file g c =
    let first : LinkState = link_at (g.L.Links.links c.args.links.now) c.args.place in
    let asked : LinkState = link_at (g.L.Links.links c.ask.new.self) c.args.place in
    let left : LinkState = link_at (g.L.Links.links c.pour.new.links) c.args.place in
    let same : c.in-Ok.length ≡ c.args.size = omega arith in
    file_given c.args.list.now c.args.size c.in-Ok.length c.args.target.now first asked left c.in-Ok-new.checker c.pour.new.checker
    g.B.Basket.tells (g.B.Basket.taken c.restart.new.self) (g.B.Basket.taken c.pour.new.basket)
    c.in-Ok.ensures.asks.opens same c.in-Ok.ensures.asks.site c.in_default.ensures.poured c.restart.ensures.empty c.in-Ok-new.ensures.fresh
    (λ bytes fed. (c.in-None.ensures.matches c.args.list.now c.args.size bytes fed).0 refl)
    (c.in_default.ensures.quiet ∙ c.in-Ok.ensures.asks.counts.quiet) c.in-Ok.ensures.noted

pub returns-in-Some-clause-stop : goal.returns-in-Some-clause-stop
returns-in-Some-clause-stop g c =
    let first : LinkState = link_at (g.L.Links.links c.args.links.now) c.args.place in
    let asked : LinkState = link_at (g.L.Links.links c.ask.new.self) c.args.place in
    let left : LinkState = link_at (g.L.Links.links c.pour.new.links) c.args.place in
    let same : c.in-Ok.length ≡ c.args.size = omega arith in
    other_given c.args.list.now c.args.size c.in-Ok.length c.args.target.now first asked left c.in-Ok-new.checker c.pour.new.checker
    g.B.Basket.tells (g.B.Basket.taken c.restart.new.self) (g.B.Basket.taken c.pour.new.basket) c.in-Some.difference
    c.in-Ok.ensures.asks.opens same c.in-Ok.ensures.asks.site c.in_default.ensures.poured c.in-Ok-new.ensures.fresh
    (λ bytes fed. c.in-Some.ensures.exact c.args.list.now c.args.size bytes fed)
    c.in-Some.ensures.shown

pub returns-in-Err-clause-turned : goal.returns-in-Err-clause-turned
returns-in-Err-clause-turned g c = handed_none g.B.Basket.turns_to g.met.B.Basket.turns_same c.args.size _

pub returns-then-length-size-clause-turned : goal.returns-then-length-size-clause-turned
returns-then-length-size-clause-turned g c = handed_none g.B.Basket.turns_to g.met.B.Basket.turns_same c.args.size _

pub returns-in-Err-Memory-clause-turned : goal.returns-in-Err-Memory-clause-turned
returns-in-Err-Memory-clause-turned g c = handed_none g.B.Basket.turns_to g.met.B.Basket.turns_same c.args.size _

pub returns-in-Err-pour-clause-turned : goal.returns-in-Err-pour-clause-turned
returns-in-Err-pour-clause-turned g c =
    handed_behind g.B.Basket.turns_to g.met.B.Basket.turns_on c.args.size _ _ _ c.restart.ensures.turned c.in-Err-pour.ensures.turned

pub returns-in-None-clause-turned : goal.returns-in-None-clause-turned
returns-in-None-clause-turned g c =
    handed_behind g.B.Basket.turns_to g.met.B.Basket.turns_on c.args.size _ _ _ c.restart.ensures.turned c.in_default.ensures.turned

pub returns-in-Some-clause-turned : goal.returns-in-Some-clause-turned
returns-in-Some-clause-turned g c =
    handed_behind g.B.Basket.turns_to g.met.B.Basket.turns_on c.args.size _ _ _ c.restart.ensures.turned c.in_default.ensures.turned

pub returns-in-Err-clause-once : goal.returns-in-Err-clause-once
returns-in-Err-clause-once g c =
    asked_alone (λ (k : ℕ). k ≡ c.args.size) c.args.size c.args.target.now
    (link_at (g.L.Links.links c.args.links.now) c.args.place) (link_at (g.L.Links.links c.ask.new.self) c.args.place)
    (Err c.in-Err.fault) c.in-Err.ensures.noted

pub returns-then-length-size-clause-once : goal.returns-then-length-size-clause-once
returns-then-length-size-clause-once g c =
    asked_alone (λ (k : ℕ). k ≡ c.args.size) c.args.size c.args.target.now
    (link_at (g.L.Links.links c.args.links.now) c.args.place) (link_at (g.L.Links.links c.ask.new.self) c.args.place)
    (Ok c.in-Ok.length) c.in-Ok.ensures.noted

pub returns-in-Err-Memory-clause-once : goal.returns-in-Err-Memory-clause-once
returns-in-Err-Memory-clause-once g c =
    asked_alone (λ (k : ℕ). k ≡ c.args.size) c.args.size c.args.target.now
    (link_at (g.L.Links.links c.args.links.now) c.args.place) (link_at (g.L.Links.links c.ask.new.self) c.args.place)
    (Ok c.in-Ok.length) c.in-Ok.ensures.noted

pub returns-in-Err-pour-clause-once : goal.returns-in-Err-pour-clause-once
returns-in-Err-pour-clause-once g c =
    asked_pieces (λ (k : ℕ). k ≡ c.args.size) c.args.size c.in-Ok.length c.args.target.now
    (link_at (g.L.Links.links c.args.links.now) c.args.place) (link_at (g.L.Links.links c.ask.new.self) c.args.place)
    (link_at (g.L.Links.links c.pour.new.links) c.args.place) c.in-Ok.ensures.noted (omega arith) c.in-Err-pour.ensures.took

pub returns-in-None-clause-once : goal.returns-in-None-clause-once
returns-in-None-clause-once g c =
    asked_pieces (λ (k : ℕ). k ≡ c.args.size) c.args.size c.in-Ok.length c.args.target.now
    (link_at (g.L.Links.links c.args.links.now) c.args.place) (link_at (g.L.Links.links c.ask.new.self) c.args.place)
    (link_at (g.L.Links.links c.pour.new.links) c.args.place) c.in-Ok.ensures.noted (omega arith) c.in_default.ensures.took

pub returns-in-Some-clause-once : goal.returns-in-Some-clause-once
returns-in-Some-clause-once g c =
    asked_pieces (λ (k : ℕ). k ≡ c.args.size) c.args.size c.in-Ok.length c.args.target.now
    (link_at (g.L.Links.links c.args.links.now) c.args.place) (link_at (g.L.Links.links c.ask.new.self) c.args.place)
    (link_at (g.L.Links.links c.pour.new.links) c.args.place) c.in-Ok.ensures.noted (omega arith) c.in_default.ensures.took

pub returns-in-Err-clause-shown : goal.returns-in-Err-clause-shown
returns-in-Err-clause-shown g c =
    file_fault c.args.list.now c.args.size c.args.target.now
    (link_at (g.L.Links.links c.args.links.now) c.args.place) (link_at (g.L.Links.links c.ask.new.self) c.args.place)
    c.in-Err.fault c.stopped_by.result c.stopped_by.ensures

pub returns-then-length-size-clause-shown : goal.returns-then-length-size-clause-shown
returns-then-length-size-clause-shown g c =
    shown_size c.args.list.now c.args.size c.in-Ok.length c.args.target.now
    (link_at (g.L.Links.links c.args.links.now) c.args.place) (link_at (g.L.Links.links c.ask.new.self) c.args.place)
    c.in-Ok.ensures.noted c.if-length-size.true c.in-Ok.ensures.asks.counts.quiet

pub returns-in-Err-pour-clause-shown : goal.returns-in-Err-pour-clause-shown
returns-in-Err-pour-clause-shown g c =
    shown_pour c.args.list.now c.args.size _ _ c.args.target.now
    (link_at (g.L.Links.links c.args.links.now) c.args.place) (link_at (g.L.Links.links c.ask.new.self) c.args.place)
    (link_at (g.L.Links.links c.pour.new.links) c.args.place) c.in-Err-pour.stop c.in-Err-pour.ensures.stop

pub returns-in-Some-clause-shown : goal.returns-in-Some-clause-shown
returns-in-Some-clause-shown g c =
    let first : LinkState = link_at (g.L.Links.links c.args.links.now) c.args.place in
    let asked : LinkState = link_at (g.L.Links.links c.ask.new.self) c.args.place in
    let left : LinkState = link_at (g.L.Links.links c.pour.new.links) c.args.place in
    let same : c.in-Ok.length ≡ c.args.size = omega arith in
    shown_bytes c.args.list.now c.args.size c.in-Ok.length c.args.target.now first asked left c.in-Ok-new.checker c.pour.new.checker
    g.B.Basket.tells (g.B.Basket.taken c.restart.new.self) (g.B.Basket.taken c.pour.new.basket) c.in-Some.difference
    c.in-Ok.ensures.noted same c.in_default.ensures.poured c.in-Ok-new.ensures.fresh
    (λ bytes fed. c.in-Some.ensures.exact c.args.list.now c.args.size bytes fed)
    (c.in_default.ensures.quiet ∙ c.in-Ok.ensures.asks.counts.quiet)
