use Rattle.std.proofs.Common.{inl, ◌+◌, ◌-◌, ◌≤◌, length, drop, take, arith, ap, ℕ}
use Rattle.disks.proofs.MomentLemmas.{started}
use Rattle.journal.specs.Layout.{half_head}
use Rattle.journal.specs.Log.{entry_in}
use Rattle.journal.proofs.Entries.{tail_is, tail_long, end_is, entry_small}
use Rattle.journal.proofs.Turns.{journal}
use Rattle.journal.proofs.Course.{append_any, append_ok}
use Rattle.journal.proofs.log.Log.append.Goals as goal

pub returns-then-room-need-clause-any_moment : goal.returns-then-room-need-clause-any_moment
returns-then-room-need-clause-any_moment g c = λ blocks tables changes is_open.
    started g.D.Disk c.args.disk.now _ (λ bytes left. inl (journal _ _ _ blocks _ tables changes bytes (is_open.each bytes left)))

pub returns-in_err-open_gate-clause-any_moment : goal.returns-in_err-open_gate-clause-any_moment
returns-in_err-open_gate-clause-any_moment g c = λ blocks tables changes is_open.
    let piece = c.args.piece.now in
    let log = c.args.self.now in
    let long : 7 ≤ length piece = omega (arith, c.requires) in
    let short : length piece ≤ log.half - log.gate = omega (arith, c.requires, c.if-room-need.false) in
    let small = entry_small piece long (omega (arith, short, log.limit)) in
    let tail = tail_is piece c.frame.new.piece long c.frame.ensures.tail in
    let size = tail_long piece c.frame.new.piece long c.frame.ensures.tail in
    let fits : log.gate + 1 + length (take (length c.frame.new.piece - 1) (drop 1 c.frame.new.piece)) ≤ log.half = omega (arith, size, short, log.within) in
    append_any g.D.Disk c.args.disk.now log.side log.serial log.both blocks log.half tables changes is_open.each
    (entry_in piece) _ log.gate (c.start.result + log.gate) is_open.at (ap (λ (n : ℕ). n + log.gate) c.start.ensures) small tail fits c.open_gate.new.disk c.open_gate.ensures.any_moment

pub returns-clause-any_moment : goal.returns-clause-any_moment
returns-clause-any_moment g c = λ blocks tables changes is_open.
    let piece = c.args.piece.now in
    let log = c.args.self.now in
    let long : 7 ≤ length piece = omega (arith, c.requires) in
    let short : length piece ≤ log.half - log.gate = omega (arith, c.requires, c.if-room-need.false) in
    let small = entry_small piece long (omega (arith, short, log.limit)) in
    let tail = tail_is piece c.frame.new.piece long c.frame.ensures.tail in
    let size = tail_long piece c.frame.new.piece long c.frame.ensures.tail in
    let fits : log.gate + 1 + length (take (length c.frame.new.piece - 1) (drop 1 c.frame.new.piece)) ≤ log.half = omega (arith, size, short, log.within) in
    append_any g.D.Disk c.args.disk.now log.side log.serial log.both blocks log.half tables changes is_open.each
    (entry_in piece) _ log.gate (c.start.result + log.gate) is_open.at (ap (λ (n : ℕ). n + log.gate) c.start.ensures) small tail fits c.open_gate.new.disk c.open_gate.ensures.any_moment

pub returns-clause-ok : goal.returns-clause-ok
returns-clause-ok g c = λ blocks tables changes is_open.
    let piece = c.args.piece.now in
    let log = c.args.self.now in
    let long : 7 ≤ length piece = omega (arith, c.requires) in
    let short : length piece ≤ log.half - log.gate = omega (arith, c.requires, c.if-room-need.false) in
    let small = entry_small piece long (omega (arith, short, log.limit)) in
    let tail = tail_is piece c.frame.new.piece long c.frame.ensures.tail in
    let size = tail_long piece c.frame.new.piece long c.frame.ensures.tail in
    let fits : log.gate + 1 + length (take (length c.frame.new.piece - 1) (drop 1 c.frame.new.piece)) ≤ log.half = omega (arith, size, short, log.within) in
    record {
      at = end_is piece c.frame.new.piece log.gate (half_head log.serial tables) changes long c.frame.ensures.tail is_open.at;
      each = append_ok g.D.Disk c.args.disk.now log.side log.serial log.both blocks log.half tables changes is_open.each
          (entry_in piece) _ log.gate (c.start.result + log.gate) is_open.at (ap (λ (n : ℕ). n + log.gate) c.start.ensures) small tail fits c.open_gate.new.disk c.in_ok-open_gate.ensures.ok;
    }
