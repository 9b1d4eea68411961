use Rattle.std.proofs.Common.{sym, ap, ◌∙◌}
use Rattle.manifest_parts.specs.Elements.{called, local}
use Rattle.manifest_parts.proofs.Lookups.{name_is, same_texts}
use Rattle.manifest_parts.proofs.elements.is_called.Goals as goal

pub returns : goal.returns
unfolding called
returns c =
    c.eq.ensures ∙ same_texts _ _ _ _ (c.local_name.ensures ∙ ap local (c.as_bytes.ensures.value ∙ sym (name_is c.args.node.now))) c.as_bytes-2.ensures.value
