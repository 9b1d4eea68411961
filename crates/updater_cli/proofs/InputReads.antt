-- What was read of a source, and how reading ends.
use Rattle.std.proofs.Common.{◌≡◌, ◌≢◌, ◌⊎◌, inl, inr, ℕ, ◌+◌, ◌-◌, ◌<◌, ◌≤◌, List, [], ◌∷◌, ◌++◌, length, take, map, Bool, true, false, Option, None, Ok, Err, refl, sym, ◌∙◌, ap, subst, arith, append_assoc, length-append}
use Rattle.std.proofs.lemmas.List.{append-nil, take_at, take_all, length-map, nil_from_length}
use Rattle.std.specs.Prelude.{◌==◌, count_by, if◌then◌else◌, IfErr}
use Rattle.std.specs.Str.Lines.{lines, strip_carriage_return}
use Rattle.machine.specs.declared.event.Event.{Event}
use Rattle.command_text.specs.Input.{Cut}
use Rattle.command_text.proofs.InputLemmas.{lines_cut, lines_before, feeds_cut}
use Rattle.updater_cli.specs.declared.limits.TheConstants.{INPUT_LIMIT}
use Rattle.updater_cli.specs.declared.status.Status.{Status}
use Rattle.updater_cli.specs.declared.status.Status.TheVariants.{Done, Words, SourceFault, SinkFault, DiskFault, NotAStore, Memory, TooMuchInput}
use Rattle.updater_cli.specs.Lines.{Stage, Trace, AreInputs, Progress, Stopped, outcome_code, taken_of}
use Rattle.updater_cli.specs.Status.{PartOutcome, code_of, IsLineEnd}
use Rattle.updater_cli.proofs.Traces.{pending_none, trace_as, trace_last, traces_on, progress_none, progress_on, stopped_on}

-- So many bytes of the input may still be taken. Those that were are answered, up to the line that is pending.
pub record Read (tells : Type 0) (left_old left : List ℕ) (room : ℕ) (pending : List ℕ) (told : Type 0) (old new : Stage) : Type 0 where
  pub taken : List ℕ
  pub given : tells → left_old ≡ taken ++ left
  pub size : length taken + room ≡ INPUT_LIMIT
  pub progress : Progress told taken pending old new

-- how a session's reading ended
pub record Answered (status : ℕ) (tells : Type 0) (left_old left : List ℕ) (told : Type 0) (old new : Stage) (begun : Option Event) : Type 0 where
  pub inputs : List (List ℕ)
  pub trace : Trace told status inputs old new begun
  pub given : tells → AreInputs status left_old left inputs

-- the inputs are the whole lines of a first part of what the source had
inputs_of : (status : ℕ) (input left taken raw_rest extra : List ℕ) (raw : List (List ℕ)) → input ≡ taken ++ (extra ++ left) → Cut taken raw raw_rest → status ≢ 0
    → ((status ≡ 2) ⊎ (status ≡ 8) → (length taken ≤ INPUT_LIMIT) × ((extra ≡ []) ⊎ (length taken ≡ INPUT_LIMIT))) → (status ≡ 8 → INPUT_LIMIT + length left < length input)
    → (INPUT_LIMIT + length left < length input → status ≡ 8) → AreInputs status input left (map strip_carriage_return raw)
inputs_of status input left taken raw_rest extra raw is cut not_done within limit beyond = record {
  more = (lines_before cut (extra ++ left)).0;
  first = ap lines is ∙ (lines_before cut (extra ++ left)).1;
  all = λ done. absurd (not_done done);
  ended = λ which.
      let size : length input ≡ length taken + length extra + length left = omega (arith, ap length is, length-append taken (extra ++ left), length-append extra left) in
      let grouped : input ≡ (taken ++ extra) ++ left = is ∙ sym (append_assoc taken extra left) in
      let front : take (length input - length left) input ≡ taken ++ extra =
      ap (take (length input - length left)) grouped ∙ take_at (taken ++ extra) left (length input - length left) (omega (arith, size, length-append taken extra)) in
      let first : take INPUT_LIMIT (take (length input - length left) input) ≡ taken = ap (take INPUT_LIMIT) front ∙ cut_off (within which) in
      length-map raw strip_carriage_return ∙ sym (feeds_cut cut) ∙ ap (count_by (λ b. b == 10)) (sym first);
  limit = limit;
  beyond = beyond;
}
  where
    cut_off : (length taken ≤ INPUT_LIMIT) × ((extra ≡ []) ⊎ (length taken ≡ INPUT_LIMIT)) → take INPUT_LIMIT (taken ++ extra) ≡ taken
    cut_off (le, inl none) = ap (λ (l : List ℕ). take INPUT_LIMIT (taken ++ l)) none ∙ ap (take INPUT_LIMIT) (append-nil taken) ∙ take_all INPUT_LIMIT taken le
    cut_off (le, inr full) = take_at taken extra INPUT_LIMIT full

-- the inputs are all lines
inputs_all : (status : ℕ) (input taken rest : List ℕ) (raw : List (List ℕ)) → input ≡ taken → Cut taken raw rest → length taken ≤ INPUT_LIMIT → status ≢ 2 → status ≢ 8
    → AreInputs status input [] (map strip_carriage_return raw ++ (if length rest == 0 then [] else rest ∷ []))
inputs_all status input taken rest raw is cut within not_two not_eight = record {
  more = [];
  first = ap lines is ∙ lines_cut cut ∙ sym (append-nil (map strip_carriage_return raw ++ (if length rest == 0 then [] else rest ∷ [])));
  all = λ done. (sym (ap lines is ∙ lines_cut cut), refl, omega (arith, ap length is));
  ended = λ which. absurd (neither which);
  limit = λ eight. absurd (not_eight eight);
  beyond = λ more. absurd (omega (arith, ap length is));
}
  where
    neither : (status ≡ 2) ⊎ (status ≡ 8) → ⊥
    neither (inl two) = not_two two
    neither (inr eight) = not_eight eight

not_zero : (status : Status) (begun : Option Event) → IsLineEnd status begun → code_of status ≡ 0 → ⊥
not_zero Memory begun end same = omega arith
not_zero SinkFault begun end same = omega arith
not_zero DiskFault begun end same = omega arith
not_zero Done begun end same = end
not_zero Words begun end same = end
not_zero SourceFault begun end same = end
not_zero NotAStore begun end same = end
not_zero TooMuchInput begun end same = end

neither : (status : Status) (begun : Option Event) → IsLineEnd status begun → (code_of status ≡ 2) ⊎ (code_of status ≡ 8) → ⊥
neither Memory begun end (inl same) = omega arith
neither Memory begun end (inr same) = omega arith
neither SinkFault begun end (inl same) = omega arith
neither SinkFault begun end (inr same) = omega arith
neither DiskFault begun end (inl same) = omega arith
neither DiskFault begun end (inr same) = omega arith
neither Done begun end which = end
neither Words begun end which = end
neither SourceFault begun end which = end
neither NotAStore begun end which = end
neither TooMuchInput begun end which = end

-- what a last line makes of the inputs: it was run, or there was no memory for it
abbrev RestOf : List ℕ → List (List ℕ) → ℕ → Type 0
RestOf pending inputs status =
    ((inputs ≡ (if length pending == 0 then [] else pending ∷ [])) × (status ≢ 2) × (status ≢ 8)) ⊎ ((inputs ≡ []) × (status ≡ 6))

module _ (tells : Type 0) (left_old left_mid : List ℕ) (room : ℕ) (pending : List ℕ) (told : Type 0) (old mid : Stage)
    (read : Read tells left_old left_mid room pending told old mid) where
  raw : List (List ℕ)
  raw = read.progress.raw

  within : length read.taken ≤ INPUT_LIMIT
  within = omega (arith, read.size)

  -- a piece more was read and answered
  pub read_on : (left piece rest : List ℕ) (room_new : ℕ) (new : Stage) → (tells → left_mid ≡ piece ++ left) → length piece + room_new ≡ room
      → Progress told (pending ++ piece) rest mid new → Read tells left_old left room_new rest told old new
  read_on left piece rest room_new new given size progress = record {
    taken = read.taken ++ piece;
    given = λ is. read.given is ∙ ap (λ (l : List ℕ). read.taken ++ l) (given is) ∙ sym (append_assoc read.taken piece left);
    size = omega (arith, read.size, size, length-append read.taken piece);
    progress = progress_on told read.taken pending piece old mid new read.progress rest progress;
  }

  -- the source failed
  pub source_fault : (left : List ℕ) → (tells → left ≡ left_mid) → Answered 2 tells left_old left told old mid None
  source_fault left kept = record {
    inputs = map strip_carriage_return read.progress.raw;
    trace = trace_as told 2 (map strip_carriage_return read.progress.raw) old mid two_three read.progress.trace;
    given = λ is.
        let whole : left_old ≡ read.taken ++ left = read.given is ∙ ap (λ (l : List ℕ). read.taken ++ l) (sym (kept is)) in
        inputs_of 2 left_old left read.taken read.progress.read.rest [] read.progress.raw whole read.progress.read.cut two_zero (λ _. (within, inl refl)) (λ same. absurd (two_eight same))
        (λ more. absurd (omega (arith, within, ap length whole, length-append read.taken left)));
  }
    where
      two_three : ◌≢◌ {A = ℕ} 2 3
      two_three same = omega arith

      two_zero : ◌≢◌ {A = ℕ} 2 0
      two_zero same = omega arith

      two_eight : ◌≢◌ {A = ℕ} 2 8
      two_eight same = omega arith

  -- there is more than the limit
  pub too_much : (left piece : List ℕ) → room ≡ 0 → (tells → left_mid ≡ piece ++ left) → 0 < length piece → Answered 8 tells left_old left told old mid None
  too_much left piece none given some = record {
    inputs = map strip_carriage_return read.progress.raw;
    trace = trace_as told 8 (map strip_carriage_return read.progress.raw) old mid eight_three read.progress.trace;
    given = λ is.
        let whole : left_old ≡ read.taken ++ (piece ++ left) = read.given is ∙ ap (λ (l : List ℕ). read.taken ++ l) (given is) in
        inputs_of 8 left_old left read.taken read.progress.read.rest piece read.progress.raw whole read.progress.read.cut eight_zero (λ _. (within, inr (omega (arith, read.size, none))))
        (λ _. omega (arith, read.size, none, some, ap length whole, length-append read.taken (piece ++ left), length-append piece left)) (λ more. refl);
  }
    where
      eight_three : ◌≢◌ {A = ℕ} 8 3
      eight_three same = omega arith

      eight_zero : ◌≢◌ {A = ℕ} 8 0
      eight_zero same = omega arith

  -- a line in the piece ended the session
  pub stopped : (status : Status) (begun : Option Event) (new : Stage) (left piece : List ℕ) → length piece ≤ room → (tells → left_mid ≡ piece ++ left) → IsLineEnd status begun
      → Stopped told (code_of status) (pending ++ piece) mid new begun → Answered (code_of status) tells left_old left told old new begun
  stopped status begun new left piece few given end stop =
      let all : Stopped told (code_of status) (read.taken ++ (piece ++ [])) old new begun = stopped_on told read.taken pending piece old mid new read.progress (code_of status) begun [] stop in
      record {
        inputs = map strip_carriage_return all.raw;
        trace = all.trace;
        given = λ is.
            let split : read.taken ++ piece ≡ all.before ++ all.after = ap (λ (l : List ℕ). read.taken ++ l) (sym (append-nil piece)) ∙ all.split in
            let whole : left_old ≡ all.before ++ (all.after ++ left) =
            read.given is ∙ ap (λ (l : List ℕ). read.taken ++ l) (given is) ∙ sym (append_assoc read.taken piece left) ∙ ap (λ (l : List ℕ). l ++ left) split ∙ append_assoc all.before all.after left in
            inputs_of (code_of status) left_old left all.before all.rest all.after all.raw whole all.cut (λ same. not_zero status begun end same) (λ which. absurd (neither status begun end which)) (λ same. absurd (neither status begun end (inr same)))
            (λ more. absurd (omega (arith, few, read.size, ap length split, ap length whole, length-append read.taken piece, length-append all.before all.after, length-append all.before (all.after ++ left), length-append all.after left)));
      }

  -- the input ended, and the last line was answered or ended the session
  rest_by : (status : ℕ) (inputs : List (List ℕ)) (begun : Option Event) (new : Stage) (left : List ℕ) → (tells → left_mid ≡ []) → (tells → left ≡ []) → RestOf read.progress.read.rest inputs status
      → Trace told status inputs mid new begun → Answered status tells left_old left told old new begun
  rest_by status inputs begun new left none none_new (inl (is, not_two, not_eight)) trace = record {
    inputs = map strip_carriage_return read.progress.raw ++ inputs;
    trace = traces_on told status (map strip_carriage_return read.progress.raw) inputs old mid new begun read.progress.trace trace;
    given = λ told.
        let all : left_old ≡ read.taken = read.given told ∙ ap (λ (l : List ℕ). read.taken ++ l) (none told) ∙ append-nil read.taken in
        rw (none_new told, is) (inputs_all status left_old read.taken read.progress.read.rest read.progress.raw all read.progress.read.cut within not_two not_eight);
  }
  rest_by status inputs begun new left none none_new (inr (is, six)) trace = record {
    inputs = map strip_carriage_return read.progress.raw ++ inputs;
    trace = traces_on told status (map strip_carriage_return read.progress.raw) inputs old mid new begun read.progress.trace trace;
    given = λ told.
        let all : left_old ≡ read.taken ++ ([] ++ left) = read.given told ∙ ap (λ (l : List ℕ). read.taken ++ l) (none told ∙ sym (none_new told)) in
        rw (is, append-nil (map strip_carriage_return read.progress.raw))
        (inputs_of status left_old left read.taken read.progress.read.rest [] read.progress.raw all read.progress.read.cut (λ same. omega (arith, six, same)) (λ _. (within, inl refl)) (λ same. omega (arith, six, same))
        (λ more. absurd (omega (arith, within, ap length all, length-append read.taken ([] ++ left)))));
  }

nothing : (xs ys : List ℕ) → [] ≡ xs ++ ys → ys ≡ []
nothing xs ys same = nil_from_length ys (omega (arith, ap length same, length-append xs ys))

-- a last line that was run, or for which there was no memory
ends_whole : (pending : List ℕ) (status : ℕ) (inputs : List (List ℕ)) → inputs ≡ pending ∷ [] → status ≢ 2 → status ≢ 8 → RestOf pending (if length pending == 0 then [] else inputs) status
ends_whole pending status inputs is not_two not_eight = inl (ap (λ (l : List (List ℕ)). if length pending == 0 then [] else l) is, not_two, not_eight)

no_lines : (b : Bool) → (let l : List (List ℕ) = [] in (if b then l else l) ≡ [])
no_lines true = refl
no_lines false = refl

rest_ends : (pending : List ℕ) (outcome : PartOutcome) (begun : Option Event) → IfErr outcome (λ status. IsLineEnd status begun)
    → RestOf pending (if length pending == 0 then [] else taken_of outcome pending) (outcome_code outcome)
rest_ends pending (Ok done) begun end = ends_whole pending 0 (pending ∷ []) refl (λ same. omega (arith, same)) (λ same. omega (arith, same))
rest_ends pending (Err Memory) begun end = inr (no_lines (length pending == 0), refl)
rest_ends pending (Err SinkFault) begun end = ends_whole pending 3 (pending ∷ []) refl (λ same. omega (arith, same)) (λ same. omega (arith, same))
rest_ends pending (Err DiskFault) begun end = ends_whole pending 4 (pending ∷ []) refl (λ same. omega (arith, same)) (λ same. omega (arith, same))
rest_ends pending (Err Done) begun end = absurd end
rest_ends pending (Err Words) begun end = absurd end
rest_ends pending (Err SourceFault) begun end = absurd end
rest_ends pending (Err NotAStore) begun end = absurd end
rest_ends pending (Err TooMuchInput) begun end = absurd end

-- the input ended
pub rest_read : (tells : Type 0) (left_old left_mid : List ℕ) (room : ℕ) (pending : List ℕ) (told : Type 0) (old mid new : Stage) → Read tells left_old left_mid room pending told old mid
    → (outcome : PartOutcome) (begun : Option Event) (left piece : List ℕ) → (tells → left_mid ≡ []) → (tells → left_mid ≡ piece ++ left)
    → IfErr outcome (λ status. IsLineEnd status begun) → Trace told (outcome_code outcome) (if length pending == 0 then [] else taken_of outcome pending) mid new begun
    → Answered (outcome_code outcome) tells left_old left told old new begun
rest_read tells left_old left_mid room pending told old mid new read outcome begun left piece none given end trace =
    let rest = read.progress.read.rest in
    rest_by tells left_old left_mid room pending told old mid read (outcome_code outcome) (if length rest == 0 then [] else taken_of outcome rest) begun new left none
    (λ is. nothing piece left (sym (none is) ∙ given is)) (rest_ends rest outcome begun end) (trace_last told outcome rest pending mid new begun read.progress.read.is trace)

-- before the first byte
pub read_none : (tells : Type 0) (left : List ℕ) (pending : List ℕ) (told : Type 0) (stage : Stage) → pending ≡ [] → Read tells left left INPUT_LIMIT pending told stage stage
read_none tells left pending told stage none =
    subst (λ (p : List ℕ). Read tells left left INPUT_LIMIT p told stage stage) (sym none)
    (record { taken = []; given = λ is. refl; size = omega arith; progress = progress_none told [] stage pending_none })
