use Rattle.std.proofs.Common.{inl, ◌≡◌, ◌+◌, ◌-◌, ◌≤◌, length, drop, take, arith, ap, refl, ◌∙◌}
use Rattle.disks.proofs.MomentLemmas.{started}
use Rattle.journal.specs.declared.side.Side.{Side}
use Rattle.journal.specs.Layout.{start_of}
use Rattle.journal.specs.Log.{tables_in, other_half_start}
use Rattle.journal.proofs.Ranges.{outside_first, outside_both, reads_first, reads_both}
use Rattle.journal.proofs.Tables.{tables_tail, tables_long, new_end}
use Rattle.journal.proofs.Turns.{journal}
use Rattle.journal.proofs.Course.{checkpoint_shut, checkpoint_any, checkpoint_ok}
use Rattle.journal.proofs.log.Log.checkpoint.Goals as goal

pub returns-then-self-need-clause-any_moment : goal.returns-then-self-need-clause-any_moment
returns-then-self-need-clause-any_moment g c = λ blocks tables changes is_open.
    started g.D.Disk c.args.disk.now _ (λ bytes left. inl (journal _ _ _ blocks _ tables changes bytes (is_open.each bytes left)))

pub returns-in_err-shut_gate-clause-any_moment : goal.returns-in_err-shut_gate-clause-any_moment
returns-in_err-shut_gate-clause-any_moment g c = λ blocks tables changes is_open.
    let log = c.args.self.now in
    checkpoint_shut g.D.Disk g.met.D.Disk.seen_left c.args.disk.now c.shut_gate.new.disk log.side log.serial log.both blocks log.half tables changes
    (tables_in c.args.piece.now) is_open.each c.turned-side.result c.turned-side.ensures c.start-place.result c.start-place.ensures c.shut_gate.ensures.none c.shut_gate.ensures.any_moment

pub returns-in_err-open_gate-clause-any_moment : goal.returns-in_err-open_gate-clause-any_moment
returns-in_err-open_gate-clause-any_moment g c = λ blocks tables changes is_open.
    let piece = c.args.piece.now in
    let log = c.args.self.now in
    let long : 11 ≤ length piece = c.requires in
    let tail = tables_tail piece c.frame_tables.new.piece c.next_serial-serial.result long c.frame_tables.ensures.tail in
    let size = tables_long piece c.frame_tables.new.piece c.next_serial-serial.result long c.frame_tables.ensures.tail in
    let fits : 1 + length (take (length c.frame_tables.new.piece - 1) (drop 1 c.frame_tables.new.piece)) ≤ log.half = omega (arith, size, long, c.if-self-need.false) in
    checkpoint_any g.D.Disk g.met.D.Disk.seen_left c.args.disk.now c.shut_gate.new.disk log.side log.serial log.both blocks log.half tables changes
    (tables_in c.args.piece.now) is_open.each c.turned-side.result c.turned-side.ensures c.start-place.result c.start-place.ensures c.shut_gate.ensures.none c.shut_gate.ensures.any_moment
    c.in_ok-shut_gate.ensures.ok c.next_serial-serial.result c.next_serial-serial.ensures _ tail fits c.open_gate.new.disk c.open_gate.ensures.any_moment

pub returns-clause-any_moment : goal.returns-clause-any_moment
returns-clause-any_moment g c = λ blocks tables changes is_open.
    let piece = c.args.piece.now in
    let log = c.args.self.now in
    let long : 11 ≤ length piece = c.requires in
    let tail = tables_tail piece c.frame_tables.new.piece c.next_serial-serial.result long c.frame_tables.ensures.tail in
    let size = tables_long piece c.frame_tables.new.piece c.next_serial-serial.result long c.frame_tables.ensures.tail in
    let fits : 1 + length (take (length c.frame_tables.new.piece - 1) (drop 1 c.frame_tables.new.piece)) ≤ log.half = omega (arith, size, long, c.if-self-need.false) in
    checkpoint_any g.D.Disk g.met.D.Disk.seen_left c.args.disk.now c.shut_gate.new.disk log.side log.serial log.both blocks log.half tables changes
    (tables_in c.args.piece.now) is_open.each c.turned-side.result c.turned-side.ensures c.start-place.result c.start-place.ensures c.shut_gate.ensures.none c.shut_gate.ensures.any_moment
    c.in_ok-shut_gate.ensures.ok c.next_serial-serial.result c.next_serial-serial.ensures _ tail fits c.open_gate.new.disk c.open_gate.ensures.any_moment

pub returns-clause-ok : goal.returns-clause-ok
returns-clause-ok g c = λ blocks tables changes is_open.
    let piece = c.args.piece.now in
    let log = c.args.self.now in
    let long : 11 ≤ length piece = c.requires in
    let tail = tables_tail piece c.frame_tables.new.piece c.next_serial-serial.result long c.frame_tables.ensures.tail in
    let size = tables_long piece c.frame_tables.new.piece c.next_serial-serial.result long c.frame_tables.ensures.tail in
    let fits : 1 + length (take (length c.frame_tables.new.piece - 1) (drop 1 c.frame_tables.new.piece)) ≤ log.half = omega (arith, size, long, c.if-self-need.false) in
    record {
      at = new_end c.next_serial-serial.result piece long;
      each = checkpoint_ok g.D.Disk g.met.D.Disk.seen_left c.args.disk.now c.shut_gate.new.disk log.side log.serial log.both blocks log.half tables changes
          (tables_in c.args.piece.now) is_open.each c.turned-side.result c.turned-side.ensures c.start-place.result c.start-place.ensures c.shut_gate.ensures.none c.shut_gate.ensures.any_moment
          c.in_ok-shut_gate.ensures.ok c.next_serial-serial.result c.next_serial-serial.ensures _ tail fits c.open_gate.new.disk c.in_ok-open_gate.ensures.ok;
    }

pub returns-in_err-shut_gate-clause-outside : goal.returns-in_err-shut_gate-clause-outside
returns-in_err-shut_gate-clause-outside g c =
    let piece = c.args.piece.now in
    let log = c.args.self.now in
    let long : 11 ≤ length piece = c.requires in
    let place = c.start-place.ensures ∙ ap (λ (s : Side). start_of s log.half) c.turned-side.ensures in
    let some : 1 ≤ length piece = omega (arith, long) in
    outside_first c.start-place.result (other_half_start log) (length piece) (length piece) place refl some g.D.Disk c.args.disk.now c.shut_gate.new.disk c.shut_gate.ensures.any_moment

pub returns-in_err-shut_gate-clause-reads_outside : goal.returns-in_err-shut_gate-clause-reads_outside
returns-in_err-shut_gate-clause-reads_outside g c =
    let piece = c.args.piece.now in
    let log = c.args.self.now in
    let long : 11 ≤ length piece = c.requires in
    let place = c.start-place.ensures ∙ ap (λ (s : Side). start_of s log.half) c.turned-side.ensures in
    let some : 1 ≤ length piece = omega (arith, long) in
    reads_first c.start-place.result (other_half_start log) (length piece) (length piece) place refl some _ _ c.shut_gate.ensures.reads_outside

pub returns-in_err-open_gate-clause-outside : goal.returns-in_err-open_gate-clause-outside
returns-in_err-open_gate-clause-outside g c =
    let piece = c.args.piece.now in
    let log = c.args.self.now in
    let long : 11 ≤ length piece = c.requires in
    let place = c.start-place.ensures ∙ ap (λ (s : Side). start_of s log.half) c.turned-side.ensures in
    let some : 1 ≤ length piece = omega (arith, long) in
    let size : length (take (length c.frame_tables.new.piece - 1) (drop 1 c.frame_tables.new.piece)) + 1 ≡ length piece = omega (arith, long, tables_long piece c.frame_tables.new.piece c.next_serial-serial.result long c.frame_tables.ensures.tail) in
    outside_both c.start-place.result (other_half_start log) _ (length piece) place size some g.D.Disk c.args.disk.now c.shut_gate.new.disk c.open_gate.new.disk c.shut_gate.ensures.any_moment c.open_gate.ensures.outside

pub returns-in_err-open_gate-clause-reads_outside : goal.returns-in_err-open_gate-clause-reads_outside
returns-in_err-open_gate-clause-reads_outside g c =
    let piece = c.args.piece.now in
    let log = c.args.self.now in
    let long : 11 ≤ length piece = c.requires in
    let place = c.start-place.ensures ∙ ap (λ (s : Side). start_of s log.half) c.turned-side.ensures in
    let some : 1 ≤ length piece = omega (arith, long) in
    let size : length (take (length c.frame_tables.new.piece - 1) (drop 1 c.frame_tables.new.piece)) + 1 ≡ length piece = omega (arith, long, tables_long piece c.frame_tables.new.piece c.next_serial-serial.result long c.frame_tables.ensures.tail) in
    reads_both c.start-place.result (other_half_start log) _ (length piece) place size some _ _ _ c.shut_gate.ensures.reads_outside c.open_gate.ensures.reads_outside

pub returns-clause-outside : goal.returns-clause-outside
returns-clause-outside g c =
    let piece = c.args.piece.now in
    let log = c.args.self.now in
    let long : 11 ≤ length piece = c.requires in
    let place = c.start-place.ensures ∙ ap (λ (s : Side). start_of s log.half) c.turned-side.ensures in
    let some : 1 ≤ length piece = omega (arith, long) in
    let size : length (take (length c.frame_tables.new.piece - 1) (drop 1 c.frame_tables.new.piece)) + 1 ≡ length piece = omega (arith, long, tables_long piece c.frame_tables.new.piece c.next_serial-serial.result long c.frame_tables.ensures.tail) in
    outside_both c.start-place.result (other_half_start log) _ (length piece) place size some g.D.Disk c.args.disk.now c.shut_gate.new.disk c.open_gate.new.disk c.shut_gate.ensures.any_moment c.open_gate.ensures.outside

pub returns-clause-reads_outside : goal.returns-clause-reads_outside
returns-clause-reads_outside g c =
    let piece = c.args.piece.now in
    let log = c.args.self.now in
    let long : 11 ≤ length piece = c.requires in
    let place = c.start-place.ensures ∙ ap (λ (s : Side). start_of s log.half) c.turned-side.ensures in
    let some : 1 ≤ length piece = omega (arith, long) in
    let size : length (take (length c.frame_tables.new.piece - 1) (drop 1 c.frame_tables.new.piece)) + 1 ≡ length piece = omega (arith, long, tables_long piece c.frame_tables.new.piece c.next_serial-serial.result long c.frame_tables.ensures.tail) in
    reads_both c.start-place.result (other_half_start log) _ (length piece) place size some _ _ _ c.shut_gate.ensures.reads_outside c.open_gate.ensures.reads_outside
