-- What the parser's offsets say of bytes that are one head.
use Rattle.std.specs.Prelude.{◌≡◌, ℕ, List, length}
use Rattle.httparse.specs.declared.spans.HeaderSpan.{HeaderSpan}
use Rattle.httparse.specs.declared.spans.RequestSpans.{RequestSpans}
use Rattle.httparse.specs.declared.spans.ResponseSpans.{ResponseSpans}
use Rattle.httparse.specs.Grammar.{RequestHead, ResponseHead}
use Rattle.httparse.specs.Spans.{IsRequestAt, IsRequestWithin, IsResponseAt, IsResponseWithin}
use Rattle.http_plain.specs.Asked.{IsRequest}
use Rattle.http_plain.specs.Exchange.{IsResponse}

-- the bytes are one request head, whose parts the spans cover
pub record CoversRequest (bytes : List ℕ) (headers : List HeaderSpan) (spans : RequestSpans)
    (h : RequestHead) : Type 0 where
  pub is : IsRequest bytes h
  pub parts : IsRequestAt bytes headers spans h
  pub within : IsRequestWithin bytes headers spans
  pub whole : spans.len ≡ length bytes

abbrev pub FindsRequest : List ℕ → List HeaderSpan → RequestSpans → Type 0
FindsRequest bytes headers spans = (h : RequestHead) × CoversRequest bytes headers spans h

-- the bytes are one response head, whose parts the spans cover
pub record CoversResponse (bytes : List ℕ) (headers : List HeaderSpan) (spans : ResponseSpans)
    (h : ResponseHead) : Type 0 where
  pub is : IsResponse bytes h
  pub parts : IsResponseAt bytes headers spans h
  pub within : IsResponseWithin bytes headers spans
  pub whole : spans.len ≡ length bytes

abbrev pub FindsResponse : List ℕ → List HeaderSpan → ResponseSpans → Type 0
FindsResponse bytes headers spans = (h : ResponseHead) × CoversResponse bytes headers spans h
