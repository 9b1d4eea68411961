use Rattle.std.proofs.Common.{◌≡◌, true, false, sym, ◌∙◌, refl}
use Rattle.store_state.proofs.TestLoops.{all_ended, all_more}
use Rattle.table_soundness.specs.Soundness.{IsOneRelease}
use Rattle.table_soundness.proofs.releases.first_other_release.Goals as goal

pub returns-then-not-is_one_release : goal.returns-then-not-is_one_release
returns-then-not-is_one_release c = record {
  none = tt;
  first = record {
    place = c.loop-view.view-index;
    view = c.view-item.result;
    within = c.loop-view-test.true;
    stands = c.view-item.is;
    before = c.loop-view.invariant;
    other = λ is. absurd (let no : true ≡ false = sym (c.is_one_release.ensures.1 is) ∙ c.if-not-is_one_release.true in cc);
    is = refl;
  };
}

pub loop-view-preserved : goal.loop-view-preserved
loop-view-preserved c =
    all_more IsOneRelease c.args.views.now c.loop-view.view-index c.view-item.result c.view-item.is c.loop-view-test.true
    (c.is_one_release.ensures.0 c.if-not-is_one_release.false) c.loop-view.invariant

pub returns : goal.returns
returns c = record {
  none = all_ended IsOneRelease c.args.views.now c.loop-view.view-index c.loop-view-test.false c.loop-view.invariant;
  first = tt;
}
