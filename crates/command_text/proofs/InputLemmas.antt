-- How a cut grows byte by byte, and what lines it gives; and how events go with lines.
use Rattle.std.proofs.Common.{◌≡◌, ◌≢◌, ◌==◌, ◌+◌, ℕ, false, List, [], ◌∷◌, ◌++◌, length, map, Option, Some, None, Ok, Err, refl, sym, ap, suc, ◌∙◌, arith, if◌then◌else◌}
use Rattle.std.specs.List.{All, slice_split, count_by}
use Rattle.std.specs.Str.Lines.{lines, lines_of_parts, strip_carriage_return}
use Rattle.std.proofs.lemmas.Bool.{ne_eqb}
use Rattle.std.proofs.lemmas.List.{append-nil, append_assoc, length-append}
use Rattle.std.proofs.lemmas.List.Elements.{All-nil, All-push, All-head, All-tail, All-weaker}
use Rattle.std.proofs.lemmas.List.Splits.{slice_split_none, slice_split_at, length-slice_split}
use Rattle.std.proofs.lemmas.Grind.{flat_map-append}
use Rattle.machine.specs.declared.command.Command.{Command}
use Rattle.machine.specs.declared.command.LineFault.{LineFault}
use Rattle.machine.specs.declared.event.Event.{Event}
use Rattle.machine.specs.declared.event.Event.TheVariants.{Line, Unread}
use Rattle.machine.specs.declared.event.Heard.{Heard}
use Rattle.machine.specs.declared.reply.Reply.{Reply}
use Rattle.command_text.specs.Input.{HasNoFeed, fed, Cut}
use Rattle.command_text.specs.Lines.{command_of, Gives, IsEvent, AreEvents, reply_text, texts_of}

-- the empty input
pub cut_none : Cut [] [] []
cut_none = record {
  joined = refl;
  whole = All-nil HasNoFeed;
  begun = All-nil (λ b. b ≢ 10);
}

-- another byte goes to the rest
pub cut_byte : {bytes : List ℕ} {raw : List (List ℕ)} {rest : List ℕ} {b : ℕ} → Cut bytes raw rest → b ≢ 10 → Cut (bytes ++ b ∷ []) raw (rest ++ b ∷ [])
cut_byte {bytes} {raw} {rest} {b} cut other = record {
  joined = ap (λ front. front ++ b ∷ []) cut.joined ∙ append_assoc (fed raw) rest (b ∷ []);
  whole = cut.whole;
  begun = All-push (λ x. x ≢ 10) rest b cut.begun other;
}

-- a line feed ends the rest
pub cut_feed : {bytes : List ℕ} {raw : List (List ℕ)} {rest : List ℕ} → Cut bytes raw rest → Cut (bytes ++ 10 ∷ []) (raw ++ rest ∷ []) []
cut_feed {bytes} {raw} {rest} cut = record {
  joined =
      let more : fed (raw ++ rest ∷ []) ≡ fed raw ++ ((rest ++ 10 ∷ []) ++ []) = flat_map-append (λ line. line ++ 10 ∷ []) raw (rest ∷ []) in
      ap (λ front. front ++ 10 ∷ []) cut.joined ∙ simp (more, append-nil, append_assoc);
  whole = All-push HasNoFeed raw rest cut.whole cut.begun;
  begun = All-nil (λ b. b ≢ 10);
}

-- no byte of a line without a line feed is one
no_feed : (line : List ℕ) → HasNoFeed line → All (λ b. (b == 10) ≡ false) line
no_feed line none = All-weaker (λ b. b ≢ 10) (λ b. (b == 10) ≡ false) (λ b other. ne_eqb b 10 other) line none

-- the parts of fed lines and more are the lines and the parts of what follows
parts_fed : (raw : List (List ℕ)) (tail : List ℕ) → All HasNoFeed raw → slice_split (λ b. b == 10) (fed raw ++ tail) ≡ raw ++ slice_split (λ b. b == 10) tail
parts_fed [] tail whole = refl
parts_fed (line ∷ raw) tail whole =
    let joined : ((line ++ 10 ∷ []) ++ fed raw) ++ tail ≡ line ++ (10 ∷ (fed raw ++ tail)) = simp append_assoc in
    let first = slice_split_at (λ b. b == 10) line 10 (fed raw ++ tail) (no_feed line (All-head HasNoFeed line raw whole)) refl in
    let rest = parts_fed raw tail (All-tail HasNoFeed line raw whole) in
    ap (slice_split (λ b. b == 10)) joined ∙ (first ∙ ap (λ parts. line ∷ parts) rest)

-- the parts of a cut input with more
parts_before : (before : List ℕ) (raw : List (List ℕ)) (rest : List ℕ) → Cut before raw rest → (after : List ℕ) → slice_split (λ b. b == 10) (before ++ after) ≡ raw ++ slice_split (λ b. b == 10) (rest ++ after)
parts_before before raw rest cut after =
    ap (λ front. slice_split (λ b. b == 10) (front ++ after)) cut.joined
    ∙ (ap (slice_split (λ b. b == 10)) (append_assoc (fed raw) rest after) ∙ parts_fed raw (rest ++ after) cut.whole)

-- the parts of a cut input are its lines and its rest
parts_cut : (bytes : List ℕ) (raw : List (List ℕ)) (rest : List ℕ) → Cut bytes raw rest → slice_split (λ b. b == 10) bytes ≡ raw ++ rest ∷ []
parts_cut bytes raw rest cut =
    ap (slice_split (λ b. b == 10)) cut.joined
    ∙ (parts_fed raw rest cut.whole ∙ ap (λ parts. raw ++ parts) (slice_split_none (λ b. b == 10) rest (no_feed rest cut.begun)))

-- each part with another behind it is a line
lines_of_parts-append : (raw : List (List ℕ)) (part : List ℕ) (more : List (List ℕ)) → lines_of_parts (raw ++ part ∷ more) ≡ map strip_carriage_return raw ++ lines_of_parts (part ∷ more)
lines_of_parts-append [] part more = refl
lines_of_parts-append (line ∷ []) part more = refl
lines_of_parts-append (line ∷ (next ∷ raw)) part more = ap (λ rest. strip_carriage_return line ∷ rest) (lines_of_parts-append (next ∷ raw) part more)

-- the lines of a cut input: its raw lines, each without the carriage return at its end, and the rest where there is one
pub lines_cut : {bytes : List ℕ} {raw : List (List ℕ)} {rest : List ℕ} → Cut bytes raw rest → lines bytes ≡ map strip_carriage_return raw ++ (if length rest == 0 then [] else rest ∷ [])
lines_cut {bytes} {raw} {rest} cut = ap lines_of_parts (parts_cut bytes raw rest cut) ∙ lines_of_parts-append raw rest []

-- before one part or more, the raw lines are the first lines
lines_front : (raw parts : List (List ℕ)) (count : ℕ) → length parts ≡ count + 1 → (more : List (List ℕ)) × (lines_of_parts (raw ++ parts) ≡ map strip_carriage_return raw ++ more)
lines_front raw [] count some = absurd (omega arith)
lines_front raw (part ∷ parts) count some = (lines_of_parts (part ∷ parts), lines_of_parts-append raw part parts)

-- the lines of a whole input begin with the whole lines of any first part of it
pub lines_before : {before : List ℕ} {raw : List (List ℕ)} {rest : List ℕ} → Cut before raw rest → (after : List ℕ) → (more : List (List ℕ)) × (lines (before ++ after) ≡ map strip_carriage_return raw ++ more)
lines_before {before} {raw} {rest} cut after =
    let parts = slice_split (λ b. b == 10) (rest ++ after) in
    let found = lines_front raw parts (count_by (λ b. b == 10) (rest ++ after)) (length-slice_split (λ b. b == 10) (rest ++ after)) in
    (found.0, ap lines_of_parts (parts_before before raw rest cut after) ∙ found.1)

-- there are as many line feeds as raw lines
pub feeds_cut : {bytes : List ℕ} {raw : List (List ℕ)} {rest : List ℕ} → Cut bytes raw rest → count_by (λ b. b == 10) bytes ≡ length raw
feeds_cut {bytes} {raw} {rest} cut =
    let parts : length (slice_split (λ b. b == 10) bytes) ≡ length raw + 1 = ap length (parts_cut bytes raw rest cut) ∙ simp length-append (omega arith) in
    let split = length-slice_split (λ b. b == 10) bytes in
    omega (arith, parts, split)

-- one line and its event more
pub events_push : (lines : List (List ℕ)) (events : List Event) (line : List ℕ) (event : Event) → AreEvents lines events → IsEvent line event → AreEvents (lines ++ line ∷ []) (events ++ event ∷ [])
events_push [] [] line event are is = (is, tt)
events_push [] (first ∷ events) line event are is = absurd are
events_push (first ∷ lines) [] line event are is = absurd are
events_push (first ∷ lines) (shown ∷ events) line event are is = (are.0, events_push lines events line event are.1 is)

-- events of lines, and those of the lines behind them
pub events_append : (lines : List (List ℕ)) (events : List Event) (lines' : List (List ℕ)) (events' : List Event) → AreEvents lines events → AreEvents lines' events' → AreEvents (lines ++ lines') (events ++ events')
events_append [] [] lines' events' are more = more
events_append [] (event ∷ events) lines' events' are more = absurd are
events_append (line ∷ lines) [] lines' events' are more = absurd are
events_append (line ∷ lines) (event ∷ events) lines' events' are more = (are.0, events_append lines events lines' events' are.1 more)

-- each line is one event
pub length_events : (lines : List (List ℕ)) (events : List Event) → AreEvents lines events → length events ≡ length lines
length_events [] [] are = refl
length_events [] (event ∷ events) are = absurd are
length_events (line ∷ lines) [] are = absurd are
length_events (line ∷ lines) (event ∷ events) are = ap suc (length_events lines events are.1)

-- the texts of two runs of replies, one behind the other
pub texts_of-append : (a b : List (Option Reply)) → texts_of (a ++ b) ≡ texts_of a ++ texts_of b
texts_of-append [] b = refl
texts_of-append (None ∷ replies) b = texts_of-append replies b
texts_of-append (Some reply ∷ replies) b = ap (λ rest. reply_text reply ++ rest) (texts_of-append replies b) ∙ sym (append_assoc (reply_text reply) (texts_of replies) (texts_of b))

-- a line that was read as a command is its event, at any moment
pub command_event : (now : ℕ) (heard : Heard) (line : List ℕ) (command : Command) → Gives (Ok command) (command_of line) → IsEvent line (Line command now heard)
command_event now heard line command is = is

-- a line that was not read is its event
pub unread_event : (line : List ℕ) (fault : LineFault) → Gives (Err fault) (command_of line) → IsEvent line (Unread fault)
unread_event line fault is = is
