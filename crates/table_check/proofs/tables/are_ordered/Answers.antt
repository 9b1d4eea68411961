use Rattle.table_check.proofs.tables.are_ordered.Goals as goal

pub returns-then-has_views : goal.returns-then-has_views
returns-then-has_views c = (
  λ yes. record {
    boot = c.has_boot.ensures.0 c.if-not-has_boot.false;
    leased = c.has_leases.ensures.0 c.if-not-has_leases.false;
    views = c.has_views.ensures.0 c.if-has_views.true;
    apps = c.has_apps.ensures.0 yes;
  },
  λ ordered. c.has_apps.ensures.1 ordered.apps,
)
