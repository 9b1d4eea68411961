use Rattle.std.proofs.Common.{◌≡◌, ◌+◌, List, length, subst, arith, ◌∙◌}
use Rattle.folders.specs.declared.folder.Held.{Held}
use Rattle.host_cli.specs.Run.{HostsOne}
use Rattle.host_cli.proofs.AllBut.{hosts_on, hosts_last, hosts_still, one_longer, missed_then}
use Rattle.host_cli.proofs.run.host_many.Goals as goal

pub returns-in-Err-clause-served : goal.returns-in-Err-clause-served
returns-in-Err-clause-served g c = λ t u gs fs other.
    hosts_still (g.F.Folder.held c.args.folder.now) (g.G.Door.accepted c.args.door.now) (g.G.Door.accepted c.loop-made.door) (g.G.Door.accepted c.host_one.new.door)
    (g.G.Door.count c.args.door.now) (g.G.Door.count c.loop-made.door) (g.G.Door.count c.host_one.new.door) (g.F.Folder.count c.args.folder.now) (g.F.Folder.count c.loop-made.folder) (g.F.Folder.count c.host_one.new.folder)
    c.loop-made.invariant.door_later c.in-Err.ensures.counts.door_later c.loop-made.invariant.folder_later c.in-Err.ensures.counts.folder_later gs fs
    (c.loop-made.invariant.served t u (omega (arith, c.in-Err.ensures.counts.door_later)) (omega (arith, c.in-Err.ensures.counts.folder_later)))
    (c.in-Err.ensures.none t (missed_then c.in-Err.fault other))

pub returns-in-Err-clause-memory : goal.returns-in-Err-clause-memory
returns-in-Err-clause-memory g c = λ t u gs fs memory.
    hosts_last (g.F.Folder.held c.args.folder.now) (g.G.Door.accepted c.args.door.now) (g.G.Door.accepted c.loop-made.door) (g.G.Door.accepted c.host_one.new.door)
    (g.G.Door.count c.args.door.now) (g.G.Door.count c.loop-made.door) (g.G.Door.count c.host_one.new.door) (g.F.Folder.count c.args.folder.now) (g.F.Folder.count c.loop-made.folder) (g.F.Folder.count c.host_one.new.folder)
    c.loop-made.invariant.door_later c.in-Err.ensures.counts.door_later c.loop-made.invariant.folder_later c.in-Err.ensures.counts.folder_later gs fs
    (c.loop-made.invariant.served t u (omega (arith, c.in-Err.ensures.counts.door_later)) (omega (arith, c.in-Err.ensures.counts.folder_later)))
    (c.in-Err.ensures.memory t memory)

pub loop-made-preserved : goal.loop-made-preserved
loop-made-preserved g c = record {
  length = λ t.
      let before : length (g.G.Door.accepted c.loop-made.door) ≡ length (g.G.Door.accepted c.args.door.now) + c.loop-made._made = c.loop-made.invariant.length t in
      let one : length (g.G.Door.accepted c.host_one.new.door) ≡ length (g.G.Door.accepted c.loop-made.door) + 1 = one_longer (g.G.Door.accepted c.loop-made.door) (g.G.Door.accepted c.host_one.new.door) (c.in_default.ensures.one t) in
      omega arith;
  served = λ t u gs fs.
      hosts_on (g.F.Folder.held c.args.folder.now) (g.G.Door.accepted c.args.door.now) (g.G.Door.accepted c.loop-made.door) (g.G.Door.accepted c.host_one.new.door)
      (g.G.Door.count c.args.door.now) (g.G.Door.count c.loop-made.door) (g.G.Door.count c.host_one.new.door) (g.F.Folder.count c.args.folder.now) (g.F.Folder.count c.loop-made.folder) (g.F.Folder.count c.host_one.new.folder)
      c.loop-made.invariant.door_later c.in_default.ensures.counts.door_later c.loop-made.invariant.folder_later c.in_default.ensures.counts.folder_later gs fs
      (c.loop-made.invariant.served t u (omega (arith, c.in_default.ensures.counts.door_later)) (omega (arith, c.in_default.ensures.counts.folder_later)))
      (subst (λ (fs : List Held). HostsOne fs (g.G.Door.accepted c.loop-made.door) (g.G.Door.accepted c.host_one.new.door) (g.G.Door.count c.loop-made.door) (g.G.Door.count c.host_one.new.door) (g.F.Folder.count c.loop-made.folder) (g.F.Folder.count c.host_one.new.folder)) (c.loop-made.invariant.held u) (c.in_default.ensures.fate t u));
  door_still = λ none. absurd (omega arith);
  folder_still = λ none. absurd (omega arith);
  door_later = omega (arith, c.loop-made.invariant.door_later, c.in_default.ensures.counts.door_later);
  folder_later = omega (arith, c.loop-made.invariant.folder_later, c.in_default.ensures.counts.folder_later);
  misses_later = omega (arith, c.loop-made.invariant.misses_later, c.in_default.ensures.counts.misses_later);
  quiet_misses = c.in_default.ensures.counts.quiet (λ same. cc) ∙ c.loop-made.invariant.quiet_misses;
  held = λ u. c.in_default.ensures.held u ∙ c.loop-made.invariant.held u;
}
