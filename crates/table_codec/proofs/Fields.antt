-- Tables that have an encoding have their fields.
use Rattle.std.proofs.lemmas.List.Elements.{All-weaker}
use Rattle.store_state.specs.declared.view.View.{View}
use Rattle.record_codec.specs.declared.numbers.TheConstants.{COUNT_LIMIT}
use Rattle.record_codec.specs.Values.{IsEncodableView}
use Rattle.std.proofs.Common.{ℕ}
use Rattle.table_codec.specs.Laws.{HadFields}
use Rattle.table_codec.specs.Values.{HasFields}

pub has_fields : {most : ℕ} (view : View) → IsEncodableView most view → HasFields view
has_fields view is = record {
  number = is.number;
  deployment = is.deployment;
  application = is.application;
  base = is.base;
  groups = is.groups;
  locals = is.locals;
}

pub have_fields : HadFields
have_fields t is = record {
  boot = is.boot;
  next_view = is.next_view;
  next_lease = is.next_lease;
  leases = is.leases;
  views = All-weaker (IsEncodableView COUNT_LIMIT) HasFields has_fields t.views is.views;
  apps = is.apps;
  contents = is.contents;
}
