-- What a line is made of, piece by piece.
use Rattle.std.specs.Prelude.{ℕ, List, decimal, Result, OnOk, OnErr}
use Rattle.std.specs.List.{flat_map}
use Rattle.hex.specs.Hex.{encode_lower}
use Rattle.identity.specs.Key.{part_text, word_text}
use Rattle.identity.specs.Version.{version_text}
use Rattle.small_types.specs.Limit.{limit_text}
use Rattle.outside.specs.declared.failed.Failed.{Failed}
use Rattle.outside.specs.declared.sink.Sink as sinks
use Rattle.outside.specs.Streams.{Appends, AppendsPart, Causes}
use Rattle.command_text.specs.declared.pieces.Piece.{Piece}
use Rattle.command_text.specs.declared.pieces.Piece.TheVariants.{Bytes, Number, Version, Limit, Part, Word, Hex}

-- the bytes of a piece
abbrev pub piece_text : Piece → List ℕ
piece_text (Bytes bytes) = bytes.now
piece_text (Number number) = decimal number
piece_text (Version version) = version_text version
piece_text (Limit what) = limit_text what
piece_text (Part part) = part_text part.now
piece_text (Word word) = word_text word.now
piece_text (Hex bytes) = encode_lower bytes.now

-- the bytes of pieces, one behind the other
abbrev pub pieces_text : List Piece → List ℕ
pieces_text pieces = flat_map piece_text pieces

-- A call writes the text to the sink: after Ok the sink has taken all of it, after a failure a
-- first part of it and not all. The sink's count rises exactly where the call fails.
pub record WritesText {K : Type 0} (sink : sinks.Ghosts K) (old new : K) (text : List ℕ)
    (result : Result (Unit {0}) Failed) : Type 0 where
  pub all : sink.tells → OnOk result (Appends (sink.taken old) (sink.taken new) text)
  pub part : sink.tells → OnErr result (AppendsPart (sink.taken old) (sink.taken new) text)
  pub cause : Causes (sink.count old) (sink.count new) result
