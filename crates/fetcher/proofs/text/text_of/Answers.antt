use Rattle.std.proofs.Common.{ℕ, ◌≤◌, List, Ok, Err, sym, subst, arith}
use Rattle.links.specs.Link.{LinkState}
use Rattle.links.specs.Links.{link_at}
use Rattle.fetcher.specs.Once.{HasServed}
use Rattle.fetcher.proofs.Histories.{asked_alone, asked_pieces, most_within, served_pieces}
use Rattle.fetcher.proofs.Shown.{shown_long, text_fault}
use Rattle.fetcher.proofs.text.text_of.Goals as goal

pub returns-in-Err-clause-once : goal.returns-in-Err-clause-once
returns-in-Err-clause-once g c =
    asked_alone (λ (k : ℕ). k ≤ c.args.limit) c.args.limit c.args.target.now
    (link_at (g.L.Links.links c.args.links.now) c.args.place) (link_at (g.L.Links.links c.ask.new.self) c.args.place)
    (Err c.in-Err.fault) c.in-Err.ensures.noted

pub returns-then-length-limit-clause-once : goal.returns-then-length-limit-clause-once
returns-then-length-limit-clause-once g c =
    asked_alone (λ (k : ℕ). k ≤ c.args.limit) c.args.limit c.args.target.now
    (link_at (g.L.Links.links c.args.links.now) c.args.place) (link_at (g.L.Links.links c.ask.new.self) c.args.place)
    (Ok c.in-Ok.length) c.in-Ok.ensures.noted

pub returns-in-Ok-read_rest-clause-once : goal.returns-in-Ok-read_rest-clause-once
returns-in-Ok-read_rest-clause-once g c =
    let asked = link_at (g.L.Links.links c.ask.new.self) c.args.place in
    let left = link_at (g.L.Links.links c.read_rest.new.links) c.args.place in
    asked_pieces (λ (k : ℕ). k ≤ c.args.limit) c.args.limit c.in-Ok.length c.args.target.now
    (link_at (g.L.Links.links c.args.links.now) c.args.place) asked left c.in-Ok.ensures.noted (omega arith)
    (most_within c.in-Ok.length c.args.limit asked left c.in-Ok-read_rest.ensures.most (omega arith))

pub returns-in-Err-read_rest-clause-once : goal.returns-in-Err-read_rest-clause-once
returns-in-Err-read_rest-clause-once g c =
    let asked = link_at (g.L.Links.links c.ask.new.self) c.args.place in
    let left = link_at (g.L.Links.links c.read_rest.new.links) c.args.place in
    asked_pieces (λ (k : ℕ). k ≤ c.args.limit) c.args.limit c.in-Ok.length c.args.target.now
    (link_at (g.L.Links.links c.args.links.now) c.args.place) asked left c.in-Ok.ensures.noted (omega arith)
    (most_within c.in-Ok.length c.args.limit asked left c.in-Err-read_rest.ensures.most (omega arith))

pub returns-in-Ok-read_rest-clause-served : goal.returns-in-Ok-read_rest-clause-served
returns-in-Ok-read_rest-clause-served g c =
    let first : LinkState = link_at (g.L.Links.links c.args.links.now) c.args.place in
    let left : LinkState = link_at (g.L.Links.links c.read_rest.new.links) c.args.place in
    subst (λ (l : List ℕ). HasServed (λ k. k ≤ c.args.limit) c.args.target.now first left l) (sym c.from_vec.ensures)
    (served_pieces (λ (k : ℕ). k ≤ c.args.limit) c.in-Ok.length c.args.target.now
    first (link_at (g.L.Links.links c.ask.new.self) c.args.place) left
    c.in-Ok-read_rest.bytes.items c.in-Ok.ensures.noted (omega arith) c.in-Ok-read_rest.ensures.took)

pub returns-in-Err-clause-shown : goal.returns-in-Err-clause-shown
returns-in-Err-clause-shown g c =
    text_fault c.args.target.now (link_at (g.L.Links.links c.args.links.now) c.args.place)
    (link_at (g.L.Links.links c.ask.new.self) c.args.place) c.in-Err.fault c.stopped_by.result c.stopped_by.ensures

pub returns-then-length-limit-clause-shown : goal.returns-then-length-limit-clause-shown
returns-then-length-limit-clause-shown g c =
    shown_long c.args.target.now c.in-Ok.length (link_at (g.L.Links.links c.args.links.now) c.args.place)
    (link_at (g.L.Links.links c.ask.new.self) c.args.place) c.in-Ok.ensures.noted c.in-Ok.ensures.asks.counts.quiet

pub returns-in-Err-read_rest-clause-shown : goal.returns-in-Err-read_rest-clause-shown
returns-in-Err-read_rest-clause-shown g c =
    text_fault c.args.target.now (link_at (g.L.Links.links c.args.links.now) c.args.place)
    (link_at (g.L.Links.links c.read_rest.new.links) c.args.place) c.in-Err-read_rest.fault c.stopped_by-in-Err-read_rest.result
    c.stopped_by-in-Err-read_rest.ensures
