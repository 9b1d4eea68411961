use Rattle.std.specs.Prelude.{◌≡◌, ◌≤◌, ◌++◌, ◌-◌, length}
use Rattle.links.specs.Links.{link_at}
use Rattle.fetcher.specs.Once.{Took}
use Rattle.fetcher.specs.Stopped.{Moves}
use Rattle.fetcher.proofs.Histories.{AllGave}
use Rattle.fetcher.proofs.text.read_rest.Given as goal

abbrev pub invariant-loop-piece : goal.invariant-loop-piece
invariant-loop-piece g l = record {
  given : (link_at (g.L.Links.links l.initial.links) l.place).tells
      → (link_at (g.L.Links.links l.initial.links) l.place).rest ≡ l.bytes.items ++ (link_at (g.L.Links.links l.links) l.place).rest;
  took : Took AllGave (link_at (g.L.Links.links l.initial.links) l.place) (link_at (g.L.Links.links l.links) l.place) l.bytes.items;
  within : length l.bytes.items ≤ l.most;
  count : (link_at (g.L.Links.links l.links) l.place).count ≡ (link_at (g.L.Links.links l.initial.links) l.place).count;
  moves : Moves l.place (g.L.Links.links l.initial.links) (g.L.Links.links l.links);
}

abbrev pub decreases-loop-piece : goal.decreases-loop-piece
decreases-loop-piece g l = l.most - length l.bytes.items
