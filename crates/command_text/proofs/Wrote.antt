-- One text behind another.
use Rattle.std.proofs.Common.{◌≡◌, ℕ, suc, ◌<◌, List, [], ◌++◌, length, get_or, drop, Result, Ok, Err, refl, sym, ap, subst, ◌∙◌, append_assoc, length-append, arith}
use Rattle.std.proofs.lemmas.List.{append-nil}
use Rattle.std.proofs.Math.Seq.{drop-cons}
use Rattle.outside.specs.declared.failed.Failed.{Failed}
use Rattle.outside.specs.declared.sink.Sink as sinks
use Rattle.outside.specs.Streams.{AppendsPart, Takes}
use Rattle.command_text.specs.declared.pieces.Piece.{Piece}
use Rattle.command_text.specs.Pieces.{WritesText, piece_text, pieces_text}

-- a text that was cut off, behind what was taken of the whole, leaves a first part of the whole
part_behind : (old mid new whole text more : List ℕ) → Takes old mid whole (text ++ more) → AppendsPart mid new text → AppendsPart old new whole
part_behind old mid new whole text more taken part =
    let before = taken.done in
    let done = part.takes.done in
    record {
      rest = part.rest ++ more;
      some = (let some = part.some in omega (arith, length-append part.rest more));
      takes = record {
        done = before ++ done;
        given = taken.given ∙ ap (λ t. before ++ t) (ap (λ t. t ++ more) part.takes.given ∙ append_assoc done part.rest more) ∙ sym (append_assoc before done (part.rest ++ more));
        appended = part.takes.appended ∙ ap (λ t. t ++ done) taken.appended ∙ append_assoc old before done;
      };
    }

-- where a piece is cut off, the pieces are
pub stopped : {K : Type 0} (sink : sinks.Ghosts K) (old mid new : K) (pieces : List Piece) (i : ℕ) (d : Piece) (e fault : Failed) → i < length pieces → (sink.tells → Takes (sink.taken old) (sink.taken mid) (pieces_text pieces) (pieces_text (drop i pieces))) → sink.count mid ≡ sink.count old → WritesText sink mid new (piece_text (get_or pieces i d)) (Err e)
    → WritesText sink old new (pieces_text pieces) (Err fault)
stopped sink old mid new pieces i d e fault within taken count writes =
    let piece = piece_text (get_or pieces i d) in
    let more = pieces_text (drop (suc i) pieces) in
    let parts : pieces_text (drop i pieces) ≡ piece ++ more = ap pieces_text (drop-cons pieces i d within) in
    record {
      all = λ told. tt;
      part = λ told. part_behind (sink.taken old) (sink.taken mid) (sink.taken new) (pieces_text pieces) piece more (subst (λ (rest : List ℕ). Takes (sink.taken old) (sink.taken mid) (pieces_text pieces) rest) parts (taken told)) (writes.part told);
      cause = rw (← count) (record { later = writes.cause.later; rose = writes.cause.rose; quiet = tt });
    }

-- ---- a text that is written in parts

-- a first part of it was written, and the rest is left
pub record Wrote {K : Type 0} (sink : sinks.Ghosts K) (old now : K) (whole rest : List ℕ) : Type 0 where
  pub takes : sink.tells → Takes (sink.taken old) (sink.taken now) whole rest
  pub count : sink.count now ≡ sink.count old

pub nothing_yet : {K : Type 0} (sink : sinks.Ghosts K) (old : K) (whole rest : List ℕ) → whole ≡ rest → Wrote sink old old whole rest
nothing_yet sink old whole rest same = record {
  takes = λ told. record { done = []; given = same; appended = sym (append-nil (sink.taken old)) };
  count = refl;
}

-- one part more
pub one_more : {K : Type 0} (sink : sinks.Ghosts K) (old mid new : K) (whole left text rest : List ℕ) → left ≡ text ++ rest → Wrote sink old mid whole left → WritesText sink mid new text (Ok tt) → Wrote sink old new whole rest
one_more sink old mid new whole left text rest parts wrote writes = record {
  takes = λ told. (let taken = wrote.takes told in record {
    done = taken.done ++ text;
    given = taken.given ∙ ap (λ (t : List ℕ). taken.done ++ t) parts ∙ sym (append_assoc taken.done text rest);
    appended = writes.all told ∙ ap (λ (t : List ℕ). t ++ text) taken.appended ∙ append_assoc (sink.taken old) taken.done text;
  });
  count = writes.cause.quiet ∙ wrote.count;
}

-- the part is cut off, and so is the whole
pub cut_off : {K : Type 0} (sink : sinks.Ghosts K) (old mid new : K) (whole left text rest : List ℕ) (e fault : Failed) → left ≡ text ++ rest → Wrote sink old mid whole left → WritesText sink mid new text (Err e) → WritesText sink old new whole (Err fault)
cut_off sink old mid new whole left text rest e fault parts wrote writes =
    let count = wrote.count in
    record {
      all = λ told. tt;
      part = λ told. part_behind (sink.taken old) (sink.taken mid) (sink.taken new) whole text rest (subst (λ (t : List ℕ). Takes (sink.taken old) (sink.taken mid) whole t) parts (wrote.takes told)) (writes.part told);
      cause = rw (← count) (record { later = writes.cause.later; rose = writes.cause.rose; quiet = tt });
    }

-- nothing is left
pub all_written : {K : Type 0} (sink : sinks.Ghosts K) (old new : K) (whole rest : List ℕ) → rest ≡ [] → Wrote sink old new whole rest → WritesText sink old new whole (Ok tt)
all_written sink old new whole rest none wrote =
    let count = wrote.count in
    record {
      all = λ told. (let taken = wrote.takes told in taken.appended ∙ ap (λ (t : List ℕ). sink.taken old ++ t) (sym (taken.given ∙ ap (λ (t : List ℕ). taken.done ++ t) none ∙ append-nil taken.done)));
      part = λ told. tt;
      cause = record { later = omega (arith, count); rose = tt; quiet = count };
    }

-- the last part is written or cut off, and so is the whole
pub last_part : {K : Type 0} (sink : sinks.Ghosts K) (old mid new : K) (whole left : List ℕ) (result : Result (Unit {0}) Failed) → Wrote sink old mid whole left → WritesText sink mid new left result → WritesText sink old new whole result
last_part sink old mid new whole left (Ok tt) wrote writes = all_written sink old new whole [] refl (one_more sink old mid new whole left left [] (sym (append-nil left)) wrote writes)
last_part sink old mid new whole left (Err e) wrote writes = cut_off sink old mid new whole left left [] e e (sym (append-nil left)) wrote writes
