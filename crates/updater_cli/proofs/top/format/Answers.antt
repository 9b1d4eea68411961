use Rattle.std.proofs.Common.{rules, inl, inr, refl, arith}
use Rattle.disks.proofs.Books.{spends_as}
use Rattle.updater_cli.proofs.NewStore.{renews, stands_new}
use Rattle.updater_cli.proofs.top.format.Goals as goal

pub returns-in-Ok-clause-makes : goal.returns-in-Ok-clause-makes
returns-in-Ok-clause-makes g c =
    let stands = stands_new c.args.room c.requires in
    record {
      done = λ e. record {
        images = λ image left. stands image (c.in-Ok.ensures.ok image left);
        reads = stands _ c.in-Ok.ensures.seen;
      };
      spends = spends_as g.D.Disk _ _ c.args.disk.now c.format.new.disk _ _ (λ is. cc (is, c.in-Ok.is)) (λ e. absurd (omega (arith, e))) c.format.ensures.spends;
      stop = renews c.args.room c.requires g.D.Disk c.args.disk.now c.format.new.disk c.format.ensures.any_moment;
      memory = λ e. absurd (omega (arith, e));
      statuses = inl refl;
    }

pub returns-in-Err : goal.returns-in-Err
returns-in-Err g c = record {
  makes = record {
    done = λ e. absurd (omega (arith, e));
    spends = spends_as g.D.Disk _ _ c.args.disk.now c.format.new.disk _ _ (λ _. refl) (λ _. search rules) c.format.ensures.spends;
    stop = renews c.args.room c.requires g.D.Disk c.args.disk.now c.format.new.disk c.format.ensures.any_moment;
    memory = λ e. absurd (omega (arith, e));
    statuses = inr (inl refl);
  };
  asks = search rules;
}

pub returns-in-Err-Memory-clause-makes : goal.returns-in-Err-Memory-clause-makes
returns-in-Err-Memory-clause-makes g c = record {
  done = λ e. absurd (omega (arith, e));
  spends = spends_as g.D.Disk _ _ c.args.disk.now c.format.new.disk _ _ (λ is. cc (is, c.in-Err-Memory.is, c.in-Err-Memory.field-0-is)) (λ e. absurd (omega (arith, e))) c.format.ensures.spends;
  stop = renews c.args.room c.requires g.D.Disk c.args.disk.now c.format.new.disk c.format.ensures.any_moment;
  memory = λ _. c.in-Err-Memory.ensures.unwritten (λ is. cc (is, c.in-Err-Memory.field-0-is));
  statuses = inr (inr refl);
}
