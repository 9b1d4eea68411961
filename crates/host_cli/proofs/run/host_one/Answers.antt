use Rattle.std.proofs.Common.{Err, ap, inl, inr, subst}
use Rattle.outside.specs.Streams.{Rose}
use Rattle.host_cli.proofs.Outcomes.{accepts_asking, hosts_served, hosts_part, hosts_nothing, read_other, folder_other}
use Rattle.host_cli.proofs.run.host_one.Goals as goal

pub returns-in-Ok-serve_in_room-clause-fate : goal.returns-in-Ok-serve_in_room-clause-fate
returns-in-Ok-serve_in_room-clause-fate g c = λ t u.
    hosts_served (g.F.Folder.held c.args.folder.now) (g.G.Door.accepted c.args.door.now) (g.G.Door.accepted c.accept.new.self) (g.G.Door.accepted c.serve_in_room.new.door)
    (g.G.Door.count c.args.door.now) (g.G.Door.count c.serve_in_room.new.door) (g.F.Folder.count c.args.folder.now) (g.F.Folder.count c.serve_in_room.new.folder)
    (c.in-Ok.ensures.made t) _ (c.in-Ok-serve_in_room.ensures.served t u)

pub returns-in-Err-ReadFault-clause-fate : goal.returns-in-Err-ReadFault-clause-fate
returns-in-Err-ReadFault-clause-fate g c = λ t u.
    hosts_nothing (g.F.Folder.held c.args.folder.now) (g.G.Door.accepted c.args.door.now) (g.G.Door.accepted c.accept.new.self) (g.G.Door.accepted c.serve_in_room.new.door)
    (g.G.Door.count c.args.door.now) (g.G.Door.count c.serve_in_room.new.door) (g.F.Folder.count c.args.folder.now) (g.F.Folder.count c.serve_in_room.new.folder)
    (c.in-Ok.ensures.made t)
    (inl (subst (λ n. Rose n (g.G.Door.count c.serve_in_room.new.door)) c.in-Ok.ensures.count_kept (c.in-Err-ReadFault.ensures.counts.read (ap Err c.in-Err-ReadFault.field-0-is))))
    (c.in-Err-ReadFault.ensures.nothing t (read_other _ c.in-Err-ReadFault.field-0-is))

pub returns-in-Err-WriteFault-clause-fate : goal.returns-in-Err-WriteFault-clause-fate
returns-in-Err-WriteFault-clause-fate g c = λ t u.
    hosts_part (g.F.Folder.held c.args.folder.now) (g.G.Door.accepted c.args.door.now) (g.G.Door.accepted c.accept.new.self) (g.G.Door.accepted c.serve_in_room.new.door)
    (g.G.Door.count c.args.door.now) (g.G.Door.count c.serve_in_room.new.door) (g.F.Folder.count c.args.folder.now) (g.F.Folder.count c.serve_in_room.new.folder)
    (c.in-Ok.ensures.made t)
    (subst (λ n. Rose n (g.G.Door.count c.serve_in_room.new.door)) c.in-Ok.ensures.count_kept (c.in-Err-WriteFault.ensures.counts.write (ap Err c.in-Err-WriteFault.field-0-is)))
    (c.in-Err-WriteFault.ensures.part t u (ap Err c.in-Err-WriteFault.field-0-is))

pub returns-in-Err-FolderFault-clause-fate : goal.returns-in-Err-FolderFault-clause-fate
returns-in-Err-FolderFault-clause-fate g c = λ t u.
    hosts_nothing (g.F.Folder.held c.args.folder.now) (g.G.Door.accepted c.args.door.now) (g.G.Door.accepted c.accept.new.self) (g.G.Door.accepted c.serve_in_room.new.door)
    (g.G.Door.count c.args.door.now) (g.G.Door.count c.serve_in_room.new.door) (g.F.Folder.count c.args.folder.now) (g.F.Folder.count c.serve_in_room.new.folder)
    (c.in-Ok.ensures.made t)
    (inr (c.in-Err-FolderFault.ensures.counts.folder (ap Err c.in-Err-FolderFault.field-0-is)))
    (c.in-Err-FolderFault.ensures.nothing t (folder_other _ c.in-Err-FolderFault.field-0-is))

pub returns-in-Err-Memory-clause-memory : goal.returns-in-Err-Memory-clause-memory
returns-in-Err-Memory-clause-memory g c = λ t _.
    accepts_asking (g.G.Door.accepted c.args.door.now) (g.G.Door.accepted c.accept.new.self) (g.G.Door.accepted c.serve_in_room.new.door)
    (c.in-Ok.ensures.made t) (c.in-Err-Memory.ensures.memory t (ap Err c.in-Err-Memory.field-0-is))
