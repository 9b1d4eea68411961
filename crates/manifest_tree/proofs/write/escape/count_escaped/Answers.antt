use Rattle.std.proofs.Common.{◌+◌, ◌≤◌, ap, length, subst, sym, ◌∙◌, ℕ}
use Rattle.manifest_tree.specs.WrittenText.{counted, escape, escaped}
use Rattle.manifest_tree.proofs.Pushes.{count_end, count_item, counted_fits, greatest}
use Rattle.manifest_tree.proofs.write.escape.count_escaped.Goals as goal

pub loop-byte-preserved : goal.loop-byte-preserved
loop-byte-preserved c = record {
  sum =
      count_item escape c.args.bytes.now c.loop-byte.byte-index 0 c.loop-byte.count c.saturating_add-count.result (counted (c.args.total + length (escaped c.args.bytes.now))) c.loop-byte-test.true
      (c.saturating_add-count.ensures ∙ ap (λ (n : ℕ). counted (c.loop-byte.count + n)) c.escape_length.ensures) c.loop-byte.invariant.sum;
  fits = subst (λ (n : ℕ). n ≤ greatest) (sym c.saturating_add-count.ensures) (counted_fits (c.loop-byte.count + c.escape_length.result));
}

pub returns : goal.returns
returns c =
    count_end escape c.args.bytes.now c.loop-byte.byte-index c.loop-byte.count (counted (c.args.total + length (escaped c.args.bytes.now))) c.loop-byte-test.false
    c.loop-byte.invariant.fits c.loop-byte.invariant.sum
