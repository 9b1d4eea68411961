use Rattle.std.proofs.Common.{arith}
use Rattle.store_state.proofs.FromParts.{all_judged, no_leases, no_views, too_many}
use Rattle.store_state.proofs.table_parts.are_tables.Goals as goal
use Rattle.store_state.proofs.table_parts.are_tables.Goals.{then-apps-gt-APPLICATION_LIMIT-via-then-apps-gt-APPLICATION_LIMIT, then-apps-gt-APPLICATION_LIMIT-via-else-apps-gt-APPLICATION_LIMIT+then-not-have_views}

pub returns-then-not-have_leases : goal.returns-then-not-have_leases
returns-then-not-have_leases c = (
  λ no. absurd cc,
  λ are. absurd
      (no_leases _ c.args.parts.now c.parts.view_is c.as_slice.result.now c.as_slice.ensures
      c.have_leases.result c.have_leases.ensures c.if-not-have_leases.true are),
)

pub returns-then-apps-gt-APPLICATION_LIMIT : goal.returns-then-apps-gt-APPLICATION_LIMIT
returns-then-apps-gt-APPLICATION_LIMIT c = (
  λ no. absurd cc,
  λ are. absurd (elim c.then-apps-gt-APPLICATION_LIMIT.branch [
    | then-apps-gt-APPLICATION_LIMIT-via-then-apps-gt-APPLICATION_LIMIT w ↦
        too_many _ c.args.parts.now c.parts.view_is c.as_slice-apps.result.now
        c.as_slice-apps.ensures w.if-apps-gt-APPLICATION_LIMIT.true are
    | then-apps-gt-APPLICATION_LIMIT-via-else-apps-gt-APPLICATION_LIMIT+then-not-have_views w ↦
        no_views _ c.args.parts.now c.parts.view_is c.as_slice-views.result.now
        c.as_slice-views.ensures w.have_views.result w.have_views.ensures
        w.if-not-have_views.true are
  ]),
)

pub returns : goal.returns
returns c =
    all_judged _ c.args.parts.now c.parts.view_is c.as_slice.result.now c.as_slice.ensures
    c.as_slice-apps.result.now c.as_slice-apps.ensures c.as_slice-views.result.now
    c.as_slice-views.ensures c.as_slice-2.result.now c.as_slice-2.ensures c.have_leases.result
    c.have_leases.ensures c.have_views.result c.have_views.ensures c.in_ok-ordered.ordered
    c.in_ok-rows.rows c.in_ok-held.held c.in_ok-ordered.ensures c.in_ok-rows.ensures
    c.in_ok-held.ensures c.are_three.result c.are_three.ensures c.if-not-have_leases.false
    (omega arith) c.if-not-have_views.false
