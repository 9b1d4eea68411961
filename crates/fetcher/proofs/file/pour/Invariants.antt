use Rattle.std.specs.Prelude.{◌≡◌, ◌≤◌, ◌+◌, ◌-◌}
use Rattle.digest_list.specs.Checker.{count_of}
use Rattle.links.specs.Basket.{Turns}
use Rattle.links.specs.Links.{link_at}
use Rattle.fetcher.specs.Stopped.{Moves}
use Rattle.fetcher.proofs.Histories.{AllGave}
use Rattle.fetcher.proofs.Poured.{Poured}
use Rattle.fetcher.proofs.file.pour.Given as goal

abbrev pub invariant-loop-done : goal.invariant-loop-done
invariant-loop-done g l = record {
  poured : Poured AllGave l.done (link_at (g.L.Links.links l.initial.links) l.place) (link_at (g.L.Links.links l.links) l.place) l.initial.checker l.checker
      g.B.Basket.tells (g.B.Basket.taken l.initial.basket) (g.B.Basket.taken l.basket);
  within : l.done ≤ l.size;
  counted : count_of l.checker ≡ count_of l.initial.checker + l.done;
  moves : Moves l.place (g.L.Links.links l.initial.links) (g.L.Links.links l.links);
  link : (link_at (g.L.Links.links l.links) l.place).count ≡ (link_at (g.L.Links.links l.initial.links) l.place).count;
  basket : g.B.Basket.count l.basket ≡ g.B.Basket.count l.initial.basket;
  turned : Turns g.B.Basket.turns_to l.done l.initial.basket l.basket;
}

abbrev pub decreases-loop-done : goal.decreases-loop-done
decreases-loop-done g l = l.size - l.done
