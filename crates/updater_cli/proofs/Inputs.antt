-- What answering the whole input does, by how it ends.
use Rattle.std.proofs.Common.{◌≡◌, ◌≢◌, ℕ, ◌+◌, ◌<◌, ◌≤◌, List, [], ◌++◌, length, Option, None, Ok, Err, refl, sym, ◌∙◌, subst, arith}
use Rattle.std.specs.Prelude.{IfErr}
use Rattle.outside.specs.Streams.{Rose}
use Rattle.outside.specs.declared.source.Source.{Ghosts as SourceGhosts}
use Rattle.outside.specs.declared.sink.Sink.{Ghosts as SinkGhosts}
use Rattle.disks.specs.declared.disk.Disk.{Ghosts}
use Rattle.links.specs.declared.links.Links.{Ghosts as LinksGhosts}
use Rattle.machine.specs.declared.event.Event.{Event}
use Rattle.updater_cli.specs.declared.status.Status.{Status}
use Rattle.updater_cli.specs.declared.status.Status.TheVariants.{Done, Words, SourceFault, SinkFault, DiskFault, NotAStore, Memory, TooMuchInput}
use Rattle.updater_cli.specs.Lines.{InputAnswered, KeepsSession, PieceAnswered, Place, RestAnswered, Trace, stage_of, outcome_code}
use Rattle.updater_cli.specs.Status.{PartOutcome, code_of, IsLineEnd, IsSessionEnd}
use Rattle.updater_cli.proofs.DeviceCalls.{keeps_stop, keeps_then, rises_none}
use Rattle.updater_cli.proofs.InputReads.{Answered, Read, read_on, rest_read, source_fault, stopped, too_much}

two_three : ◌≢◌ {A = ℕ} 2 3
two_three same = omega arith

eight_three : ◌≢◌ {A = ℕ} 8 3
eight_three same = omega arith

-- how a line ends a session, it may end one
session_end : (status : Status) (begun : Option Event) → IsLineEnd status begun → IsSessionEnd status begun
session_end Memory begun end = end
session_end SinkFault begun end = end
session_end DiskFault begun end = end
session_end Done begun end = absurd end
session_end Words begun end = absurd end
session_end SourceFault begun end = absurd end
session_end NotAStore begun end = absurd end
session_end TooMuchInput begun end = absurd end

ends_session : (outcome : PartOutcome) (begun : Option Event) → IfErr outcome (λ status. IsLineEnd status begun) → IfErr outcome (λ status. IsSessionEnd status begun)
ends_session (Ok done) begun end = tt
ends_session (Err status) begun end = session_end status begun end

-- no line ends it by the source
no_source : (outcome : PartOutcome) (begun : Option Event) → IfErr outcome (λ status. IsLineEnd status begun) → outcome ≡ Err SourceFault → ⊥
no_source outcome begun end is = subst (λ (o : PartOutcome). IfErr o (λ status. IsLineEnd status begun)) is end

module _ {S K D L : Type 0} (from : SourceGhosts S) (to : SinkGhosts K) (on : Ghosts D) (net : LinksGhosts L) (source_old source_mid source : S) (old mid : Place K D L) (keeps : KeepsSession to on net old (Ok tt) mid)
    (room : ℕ) (pending : List ℕ) (read : Read from.tells (from.left source_old) (from.left source_mid) room pending to.tells (stage_of to on net old) (stage_of to on net mid))
    (reads : from.count source_mid ≡ from.count source_old) where
  -- the source failed
  pub source_failed : on.left_at mid.disk (on.moment mid.disk) (on.seen mid.disk) → (from.tells → from.left source ≡ from.left source_mid) → from.count source_mid ≤ from.count source → Rose (from.count source_mid) (from.count source)
      → InputAnswered from to on net source_old old (Err SourceFault) source mid
  source_failed seen_left kept later rose =
      let all : Answered 2 from.tells (from.left source_old) (from.left source) to.tells (stage_of to on net old) (stage_of to on net mid) None =
      source_fault from.tells (from.left source_old) (from.left source_mid) room pending to.tells (stage_of to on net old) (stage_of to on net mid) read (from.left source) kept in
      record {
        keeps = keeps_stop to on net old mid SourceFault (λ same. cc (same)) (λ same. cc (same)) two_three seen_left keeps;
        ends = keeps.goes_on.begun;
        inputs = all.inputs;
        trace = subst (λ (b : Option Event). Trace to.tells 2 all.inputs (stage_of to on net old) (stage_of to on net mid) b) (sym keeps.goes_on.begun) all.trace;
        given = all.given;
        reads = record { later = omega (arith, reads, later); rose = λ _. subst (λ (n : ℕ). Rose n (from.count source)) reads rose; quiet = λ none. absurd (none refl) };
      }

  -- there is more than the limit
  pub too_much_given : on.left_at mid.disk (on.moment mid.disk) (on.seen mid.disk) → (piece : List ℕ) → room ≡ 0 → (from.tells → from.left source_mid ≡ piece ++ from.left source) → 0 < length piece → from.count source ≡ from.count source_mid
      → InputAnswered from to on net source_old old (Err TooMuchInput) source mid
  too_much_given seen_left piece none given some quiet =
      let all : Answered 8 from.tells (from.left source_old) (from.left source) to.tells (stage_of to on net old) (stage_of to on net mid) None =
      too_much from.tells (from.left source_old) (from.left source_mid) room pending to.tells (stage_of to on net old) (stage_of to on net mid) read (from.left source) piece none given some in
      record {
        keeps = keeps_stop to on net old mid TooMuchInput (λ same. cc (same)) (λ same. cc (same)) eight_three seen_left keeps;
        ends = keeps.goes_on.begun;
        inputs = all.inputs;
        trace = subst (λ (b : Option Event). Trace to.tells 8 all.inputs (stage_of to on net old) (stage_of to on net mid) b) (sym keeps.goes_on.begun) all.trace;
        given = all.given;
        reads = rises_none _ (from.count source_old) (from.count source) (λ same. cc (same)) (quiet ∙ reads);
      }

  -- the input ended
  pub rest_answered : (piece line : List ℕ) → line ≡ pending → (from.tells → from.left source_mid ≡ []) → (from.tells → from.left source_mid ≡ piece ++ from.left source) → from.count source ≡ from.count source_mid
      → (outcome : PartOutcome) (new : Place K D L) → RestAnswered to on net line mid outcome new → InputAnswered from to on net source_old old outcome source new
  rest_answered piece line is none given quiet outcome new rest =
      let same : RestAnswered to on net pending mid outcome new = subst (λ (l : List ℕ). RestAnswered to on net l mid outcome new) is rest in
      let all : Answered (outcome_code outcome) from.tells (from.left source_old) (from.left source) to.tells (stage_of to on net old) (stage_of to on net new) new.course.begun =
      rest_read from.tells (from.left source_old) (from.left source_mid) room pending to.tells (stage_of to on net old) (stage_of to on net mid) (stage_of to on net new) read outcome new.course.begun (from.left source) piece none given same.ends same.trace in
      record {
        keeps = keeps_then to on net old mid new outcome keeps same.keeps;
        ends = ends_session outcome new.course.begun same.ends;
        inputs = all.inputs;
        trace = all.trace;
        given = all.given;
        reads = rises_none _ (from.count source_old) (from.count source) (no_source outcome new.course.begun same.ends) (quiet ∙ reads);
      }

  -- a line in a piece ended the session
  pub piece_stopped : (piece next : List ℕ) → length piece ≤ room → (from.tells → from.left source_mid ≡ piece ++ from.left source) → from.count source ≡ from.count source_mid
      → (status : Status) (new : Place K D L) → PieceAnswered to on net (pending ++ piece) mid (Err status) next new → InputAnswered from to on net source_old old (Err status) source new
  piece_stopped piece next few given quiet status new answered =
      let all : Answered (code_of status) from.tells (from.left source_old) (from.left source) to.tells (stage_of to on net old) (stage_of to on net new) new.course.begun =
      stopped from.tells (from.left source_old) (from.left source_mid) room pending to.tells (stage_of to on net old) (stage_of to on net mid) read status new.course.begun (stage_of to on net new) (from.left source) piece few given answered.ends answered.stopped in
      record {
        keeps = keeps_then to on net old mid new (Err status) keeps answered.keeps;
        ends = session_end status new.course.begun answered.ends;
        inputs = all.inputs;
        trace = all.trace;
        given = all.given;
        reads = rises_none _ (from.count source_old) (from.count source) (no_source (Err status) new.course.begun answered.ends) (quiet ∙ reads);
      }

  -- each line of a piece was answered
  pub piece_read : (piece next : List ℕ) (room_new : ℕ) → length piece + room_new ≡ room → (from.tells → from.left source_mid ≡ piece ++ from.left source) → (new : Place K D L) → PieceAnswered to on net (pending ++ piece) mid (Ok tt) next new
      → Read from.tells (from.left source_old) (from.left source) room_new next to.tells (stage_of to on net old) (stage_of to on net new)
  piece_read piece next room_new size given new answered =
      read_on from.tells (from.left source_old) (from.left source_mid) room pending to.tells (stage_of to on net old) (stage_of to on net mid) read (from.left source) piece next room_new (stage_of to on net new) given size answered.done
