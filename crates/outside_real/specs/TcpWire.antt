-- The counts of a real wire.
use Rattle.std.specs.Prelude.{ℕ}
use Rattle.outside_real.specs.declared.tcp_wire.TcpWire.{TcpWire}

abbrev pub tcp_wire_faults : {R Stream Listener : Type 0} → TcpWire R Stream Listener → ℕ
tcp_wire_faults w = w.faults
