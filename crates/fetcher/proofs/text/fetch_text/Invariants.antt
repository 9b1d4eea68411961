use Rattle.std.proofs.Common.{◌≤◌}
use Rattle.fetcher.specs.Causes.{IsTextCause}
use Rattle.fetcher.specs.Once.{AskedFirst, ShowsTextCause}
use Rattle.fetcher.proofs.InOrder.{Refused}
use Rattle.fetcher.proofs.text.fetch_text.Given as goal

abbrev pub invariant-loop-place : goal.invariant-loop-place
invariant-loop-place g l = record {
  refused : Refused (IsTextCause l.limit l.target) l.target l.place (g.L.Links.links l.fn.links)
      (g.L.Links.links l.links) l.causes.items;
  shown : Refused (ShowsTextCause l.target) l.target l.place (g.L.Links.links l.fn.links)
      (g.L.Links.links l.links) l.causes.items;
  once : AskedFirst (λ n. n ≤ l.limit) l.limit l.target (g.L.Links.links l.fn.links) (g.L.Links.links l.links) l.place;
}
