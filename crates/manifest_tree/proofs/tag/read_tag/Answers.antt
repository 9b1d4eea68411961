use Rattle.std.proofs.Common.{sym, subst, ◌∙◌, ap, Err, arith, ◌∷◌, [], ◌++◌}
use Rattle.std.proofs.lemmas.Result.{err_from_is_err_and}
use Rattle.std.specs.Str.{IsUtf8}
use Rattle.manifest_tree.specs.Spots.{here}
use Rattle.manifest_tree.specs.Lexis.{name_byte, past, name_at}
use Rattle.manifest_tree.proofs.Steps.{text_stops, memory_stops, reads_join, stops_by_after, leads_err, ok_is, tag_begun, tag_fails, tag_opens, tag_closes, tag_attribute, tag_pushed}
use Rattle.manifest_tree.specs.Pieces.{HasLate}
use Rattle.manifest_tree.proofs.LateNames.{no_late, late_kept, kept_as}
use Rattle.manifest_tree.proofs.tag.read_tag.Goals as goal

pub attributes-init : goal.attributes-init
attributes-init c = record {
  reads = λ around. tag_begun around (name_at c.args.bytes.now) c.in_ok-name.name c.new-attributes.result.items (past name_byte c.args.bytes.now) c.split_name.result.1.now (ok_is _ _ c.in_ok-name.ensures ∙ c.split_name.ensures.name) c.new-attributes.ensures.items c.split_name.ensures.rest;
  late = no_late c.new-late.result c.new-attributes.result.items c.new-attributes.ensures.items c.new-late.ensures.empty;
  shorter = omega arith;
}

pub tag_turn-requires : goal.tag_turn-requires
tag_turn-requires c = subst (HasLate c.attributes.late) (sym c.as_slice.ensures.value) c.attributes.invariant.late

pub returns-in_err-turn-clause-leads : goal.returns-in_err-turn-clause-leads
returns-in_err-turn-clause-leads c = λ around.
    let p = err_from_is_err_and c.from_residual-in_err-turn.result c.from_residual-in_err-turn.ensures.1 in
    leads_err _ _ _ _ c.in_err-turn.field-0.0 (p.1 ∙ ap Err p.2) (tag_fails c.attributes.name c.attributes.attributes.items c.as_slice.result.now around c.as_slice.ensures.value c.attributes.rest.now c.in_err-turn.field-0.0 (c.attributes.invariant.reads around) c.in_err-turn.ensures.turn)

pub returns-in-Opens-clause-leads : goal.returns-in-Opens-clause-leads
returns-in-Opens-clause-leads c = λ around.
    tag_opens c.attributes.name c.attributes.attributes.items c.as_slice.result.now around c.as_slice.ensures.value c.attributes.rest.now c.in_ok-turn.tail.now c.in_ok-turn.turn (c.attributes.invariant.reads around) c.in_ok-turn.ensures.turn c.in-Opens.is

pub returns-in-Closes-clause-leads : goal.returns-in-Closes-clause-leads
returns-in-Closes-clause-leads c = λ around.
    tag_closes c.attributes.name c.attributes.attributes.items c.as_slice.result.now around c.as_slice.ensures.value c.attributes.rest.now c.in_ok-turn.tail.now c.in_ok-turn.turn (c.attributes.invariant.reads around) c.in_ok-turn.ensures.turn c.in-Closes.is

pub returns-in_err-value-in-Attribute-clause-leads : goal.returns-in_err-value-in-Attribute-clause-leads
returns-in_err-value-in-Attribute-clause-leads c = λ around.
    let p = err_from_is_err_and c.from_residual-in_err-value-in-Attribute.result c.from_residual-in_err-value-in-Attribute.ensures.1 in
    let q = tag_attribute c.attributes.name c.attributes.attributes.items c.as_slice.result.now around c.as_slice.ensures.value c.attributes.rest.now c.in_ok-turn.tail.now c.in_ok-turn.turn c.in-Attribute.of c.in-Attribute.quote (c.attributes.invariant.reads around) c.in_ok-turn.ensures.turn c.in-Attribute.is in
    leads_err _ _ _ _ c.in_err-value-in-Attribute.field-0.0 (p.1 ∙ ap Err p.2) (stops_by_after c.in_err-value-in-Attribute.field-0.0 q (c.in_err-value-in-Attribute.ensures.leads c.attributes.name c.attributes.attributes.items c.in-Attribute.of.now around))

pub attributes-preserved : goal.attributes-preserved
attributes-preserved c = record {
  reads = λ around.
      let q = tag_attribute c.attributes.name c.attributes.attributes.items c.as_slice.result.now around c.as_slice.ensures.value c.attributes.rest.now c.in_ok-turn.tail.now c.in_ok-turn.turn c.in-Attribute.of c.in-Attribute.quote (c.attributes.invariant.reads around) c.in_ok-turn.ensures.turn c.in-Attribute.is in
      tag_pushed around c.attributes.name c.attributes.attributes.items c.push.new.self.items c.in_ok-value-in-Attribute.behind.now (record { name = c.in-Attribute.of.now; value = c.in_ok-value-in-Attribute.value })
      (c.in_ok-push-in-Attribute.ensures.items ∙ ap (λ n. c.attributes.attributes.items ++ record { name = n; value = c.in_ok-value-in-Attribute.value } ∷ []) (ok_is _ _ c.in_ok-of-in-Attribute.ensures))
      (reads_join q (c.in_ok-value-in-Attribute.ensures.leads c.attributes.name c.attributes.attributes.items c.in-Attribute.of.now around));
  late = late_kept c.attributes.late c.keep.new.late c.attributes.attributes.items c.push.new.self.items (record { name = c.in_ok-of-in-Attribute.of; value = c.in_ok-value-in-Attribute.value }) c.len.result c.attributes.invariant.late (omega (arith, c.attributes.attributes.ok.0, c.len.ensures)) (kept_as c.attributes.late c.keep.new.late c.len.result c.in_ok-of-in-Attribute.of c.in-Attribute.of.now (ok_is _ _ c.in_ok-of-in-Attribute.ensures) c.in_ok-keep-in-Attribute.ensures.kept) c.in_ok-push-in-Attribute.ensures.items;
  shorter = omega (arith, c.in_ok-value-in-Attribute.ensures.shorter, c.in_ok-turn.ensures.shorter);
}

pub returns-in_err-name-clause-leads : goal.returns-in_err-name-clause-leads
returns-in_err-name-clause-leads c = λ around.
    let p = err_from_is_err_and c.from_residual.result c.from_residual.ensures.1 in
    leads_err _ _ _ _ c.in_err-name.field-0.0 (p.1 ∙ ap Err p.2)
    (text_stops c.split_name.result.0.now c.in_err-name.field-0.0 c.split_name.result.0.now here (λ texts. subst IsUtf8 (sym c.split_name.ensures.name) texts) c.in_err-name.ensures)

pub returns-in_err-of-in-Attribute-clause-leads : goal.returns-in_err-of-in-Attribute-clause-leads
returns-in_err-of-in-Attribute-clause-leads c = λ around.
    let p = err_from_is_err_and c.from_residual-in_err-of-in-Attribute.result c.from_residual-in_err-of-in-Attribute.ensures.1 in
    let q = tag_attribute c.attributes.name c.attributes.attributes.items c.as_slice.result.now around c.as_slice.ensures.value c.attributes.rest.now c.in_ok-turn.tail.now c.in_ok-turn.turn c.in-Attribute.of c.in-Attribute.quote (c.attributes.invariant.reads around) c.in_ok-turn.ensures.turn c.in-Attribute.is in
    leads_err _ _ _ _ c.in_err-of-in-Attribute.field-0.0 (p.1 ∙ ap Err p.2)
    (text_stops c.in-Attribute.of.now c.in_err-of-in-Attribute.field-0.0 c.in-Attribute.of.now q (λ texts. texts.0) c.in_err-of-in-Attribute.ensures)

pub returns-in_err-keep-in-Attribute-clause-leads : goal.returns-in_err-keep-in-Attribute-clause-leads
returns-in_err-keep-in-Attribute-clause-leads c = λ around.
    let p = err_from_is_err_and c.from_residual-in_err-keep-in-Attribute.result c.from_residual-in_err-keep-in-Attribute.ensures.1 in
    leads_err _ _ _ _ c.in_err-keep-in-Attribute.field-0.0 (p.1 ∙ ap Err p.2) (memory_stops _ _ c.in_err-keep-in-Attribute.field-0.0 c.in_err-keep-in-Attribute.ensures.only_memory)
