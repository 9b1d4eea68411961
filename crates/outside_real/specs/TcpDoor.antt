-- The counts of a real door.
use Rattle.std.specs.Prelude.{ℕ}
use Rattle.outside_real.specs.declared.tcp_door.TcpDoor.{TcpDoor}

abbrev pub tcp_door_faults : {R Stream Listener : Type 0} → TcpDoor R Stream Listener → ℕ
tcp_door_faults d = d.faults

abbrev pub tcp_door_missed : {R Stream Listener : Type 0} → TcpDoor R Stream Listener → ℕ
tcp_door_missed d = d.missed
