use Rattle.std.proofs.Common.{◌∷◌, ◌++◌, ◌∙◌, [], ap, codes, List, ℕ, subst}
use Rattle.identity.specs.Key.{key_text, part_text}
use Rattle.command_text.specs.Pieces.{WritesText}
use Rattle.command_text.proofs.JoinedTexts.{parts_then}
use Rattle.command_text.proofs.refusals.print_identities.Goals as goal

pub returns : goal.returns
returns g c =
    let found = parts_then c.args.found.now (10 ∷ []) c.as_bytes-5.result.now c.as_bytes-6.result.now c.as_bytes-7.result.now c.as_bytes-8.result.now c.as_bytes-5.ensures.value c.as_bytes-6.ensures.value c.as_bytes-7.ensures.value c.as_bytes-8.ensures.value in
    let listed = parts_then c.args.listed.now (32 ∷ (key_text c.args.found.now ++ 10 ∷ [])) c.as_bytes.result.now c.as_bytes-2.result.now c.as_bytes-3.result.now c.as_bytes-4.result.now c.as_bytes.ensures.value c.as_bytes-2.ensures.value c.as_bytes-3.ensures.value c.as_bytes-4.ensures.value in
    let front = λ (text : List ℕ). part_text c.as_bytes.result.now ++ (44 ∷ (part_text c.as_bytes-2.result.now ++ (44 ∷ (part_text c.as_bytes-3.result.now ++ (44 ∷ (part_text c.as_bytes-4.result.now ++ (32 ∷ text))))))) in
    subst (λ (text : List ℕ). WritesText g.K.Sink c.args.sink.now c.print_pieces.new.sink text c.print_pieces.result) (ap (λ (text : List ℕ). codes "no release identity " ++ text) (ap front found ∙ listed)) c.print_pieces.ensures
