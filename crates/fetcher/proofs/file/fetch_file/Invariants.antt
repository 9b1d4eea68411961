use Rattle.std.proofs.Common.{◌≡◌, ◌*◌}
use Rattle.links.specs.Basket.{Turns}
use Rattle.fetcher.specs.Causes.{IsFileCause}
use Rattle.fetcher.specs.Once.{AskedFirst, ShowsFileCause}
use Rattle.fetcher.proofs.InOrder.{Refused}
use Rattle.fetcher.proofs.file.fetch_file.Given as goal

abbrev pub invariant-loop-place : goal.invariant-loop-place
invariant-loop-place g l = record {
  refused : Refused (IsFileCause l.list l.size l.target) l.target l.place
      (g.L.Links.links l.fn.links) (g.L.Links.links l.links) l.causes.items;
  shown : Refused (ShowsFileCause l.list l.size l.target) l.target l.place
      (g.L.Links.links l.fn.links) (g.L.Links.links l.links) l.causes.items;
  once : AskedFirst (λ n. n ≡ l.size) l.size l.target (g.L.Links.links l.fn.links) (g.L.Links.links l.links) l.place;
  basket : g.B.Basket.count l.basket ≡ g.B.Basket.count l.fn.basket;
  turned : Turns g.B.Basket.turns_to (l.size * l.place) l.fn.basket l.basket;
}
