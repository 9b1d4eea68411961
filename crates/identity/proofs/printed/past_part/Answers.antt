use Rattle.std.proofs.Common.{◌≡◌, ℕ, List, ◌++◌, sym, ap, ◌∙◌}
use Rattle.percent_encoding.specs.Iter.{encoded_text}
use Rattle.percent_encoding.specs.Percent.{percent_encode}
use Rattle.identity.specs.declared.escapes.TheConstants.{PART_ESCAPES}
use Rattle.identity.specs.Key.{part_text}
use Rattle.identity.proofs.KeyLemmas.{part_encoded}
use Rattle.identity.proofs.PrintedLemmas.{Carries, carries_all, carries_same, carries_past, ends_at}
use Rattle.identity.proofs.printed.past_part.Goals as goal

pub loop-piece-init : goal.loop-piece-init
loop-piece-init c =
    let all : part_text c.args.part.now ≡ encoded_text c.into_iter-piece-iterator.result =
    sym (ap encoded_text c.into_iter-piece-iterator.ensures.into_iter_gives ∙ c.percent_encode-piece-items.ensures.text
    ∙ ap (percent_encode PART_ESCAPES) c.as_bytes.ensures.value ∙ part_encoded c.args.part.now) in
    carries_same (part_text c.args.part.now) c.args.text.now _ c.args.text.now _ all (carries_all (part_text c.args.part.now) c.args.text.now)

-- what was left begins with the piece
at_piece : (c : goal.In-Ok) → Carries (part_text c.args.part.now) c.args.text.now (c.as_bytes-in-loop-piece.result.now ++ encoded_text c.next.new.self) c.loop-piece.rest.now
at_piece c =
    carries_same (part_text c.args.part.now) c.args.text.now _ c.loop-piece.rest.now _
    (c.in-Some.ensures.steps ∙ ap (λ (l : List ℕ). l ++ encoded_text c.next.new.self) (sym c.as_bytes-in-loop-piece.ensures.value)) c.loop-piece.invariant

pub loop-piece-preserved : goal.loop-piece-preserved
loop-piece-preserved c =
    carries_past (part_text c.args.part.now) c.args.text.now c.as_bytes-in-loop-piece.result.now (encoded_text c.next.new.self) c.loop-piece.rest.now c.in-Ok.after.now (at_piece c) c.in-Ok.ensures

pub returns-in-Err : goal.returns-in-Err
returns-in-Err c =
    ends_at (part_text c.args.part.now) c.args.text.now c.as_bytes-in-loop-piece.result.now (encoded_text c.next.new.self) c.loop-piece.rest.now c.in-Err.order
    (carries_same (part_text c.args.part.now) c.args.text.now _ c.loop-piece.rest.now _
    (c.in-Some.ensures.steps ∙ ap (λ (l : List ℕ). l ++ encoded_text c.next.new.self) (sym c.as_bytes-in-loop-piece.ensures.value)) c.loop-piece.invariant) c.in-Err.ensures
