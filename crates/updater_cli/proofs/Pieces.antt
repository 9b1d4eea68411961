-- What a line and a piece of the input do, by how they end.
use Rattle.std.proofs.Common.{◌≡◌, ◌≢◌, ◌<◌, ℕ, ◌+◌, List, [], ◌∷◌, ◌++◌, length, Option, None, Ok, Err, refl, sym, ◌∙◌, ap, subst, arith, append_assoc, length-append}
use Rattle.std.proofs.lemmas.List.{append-nil}
use Rattle.std.proofs.lemmas.List.Elements.{All-append, All-take}
use Rattle.std.specs.Prelude.{◌==◌, if◌then◌else◌}
use Rattle.std.specs.Str.Lines.{strip_carriage_return}
use Rattle.small_types.specs.Cuts.{parts_between}
use Rattle.small_types.specs.declared.limits.TheConstants.{LINE_LIMIT}
use Rattle.outside.specs.declared.sink.Sink.{Ghosts as SinkGhosts}
use Rattle.disks.specs.declared.disk.Disk.{Ghosts}
use Rattle.links.specs.declared.links.Links.{Ghosts as LinksGhosts}
use Rattle.machine.specs.declared.event.Event.{Event}
use Rattle.command_text.specs.Input.{HasNoFeed, kept_of}
use Rattle.command_text.proofs.LongLines.{at_feed, kept_within, without_feed}
use Rattle.updater_cli.specs.declared.status.Status.{Status}
use Rattle.updater_cli.specs.declared.status.Status.TheVariants.{Done, Words, SourceFault, SinkFault, DiskFault, NotAStore, Memory, TooMuchInput}
use Rattle.updater_cli.specs.Lines.{IsPending, IsReady, KeepsSession, LineAnswered, PieceAnswered, Place, Progress, RestAnswered, Stage, Stopped, Trace, stage_of, taken_of}
use Rattle.updater_cli.specs.Status.{code_of, IsLineEnd}
use Rattle.updater_cli.proofs.DeviceCalls.{keeps_none, keeps_stop, keeps_then}
use Rattle.updater_cli.proofs.Traces.{pending_none, trace_none, progress_line, stopped_here, stopped_line, stopped_none, progress_none, progress_on, progress_part, stopped_on}

six_three : ◌≢◌ {A = ℕ} 6 3
six_three same = omega arith

-- what is kept of a line without a line feed
pending_kept : (line : List ℕ) → HasNoFeed line → IsPending (kept_of line)
pending_kept line free = record { begun = All-take (λ b. b ≢ 10) (LINE_LIMIT + 2) line free; within = kept_within line }

-- ---- a line that ends

module _ {K D L : Type 0} (to : SinkGhosts K) (on : Ghosts D) (net : LinksGhosts L) (pending part : List ℕ) (is_pending : IsPending pending) (free : HasNoFeed part) (place : Place K D L) where
  -- there was no memory for it
  pub line_refused : (next : List ℕ) → IsReady place.course → on.left_at place.disk (on.moment place.disk) (on.seen place.disk) → PieceAnswered to on net (pending ++ (part ++ 10 ∷ [])) place (Err Memory) next place
  line_refused next ready seen_left = record {
    keeps = keeps_stop to on net place place Memory (λ same. cc (same)) (λ same. cc (same)) six_three seen_left (keeps_none to on net place ready);
    ends = ready.begun;
    pending = tt;
    done = tt;
    stopped =
        subst (λ (b : Option Event). Stopped to.tells 6 (pending ++ (part ++ 10 ∷ [])) (stage_of to on net place) (stage_of to on net place) b) (sym ready.begun)
        (stopped_none to.tells pending part is_pending.begun free 6 (stage_of to on net place) (stage_of to on net place) None (trace_none to.tells 6 (stage_of to on net place) six_three));
  }

  -- it was answered
  pub line_answered : (new : Place K D L) (kept line next : List ℕ) → kept ≡ kept_of (pending ++ part) → line ≡ strip_carriage_return kept → next ≡ [] → LineAnswered to on net line place (Ok tt) new
      → PieceAnswered to on net (pending ++ (part ++ 10 ∷ [])) place (Ok tt) next new
  line_answered new kept line next is stripped emptied answered = record {
    keeps = answered.keeps;
    ends = tt;
    pending = subst IsPending (sym emptied) pending_none;
    done =
        subst (λ (p : List ℕ). Progress to.tells (pending ++ (part ++ 10 ∷ [])) p (stage_of to on net place) (stage_of to on net new)) (sym emptied)
        (progress_line to.tells pending part is_pending.begun free (stage_of to on net place) (stage_of to on net new)
        (subst (λ (l : List ℕ). Trace to.tells 0 (l ∷ []) (stage_of to on net place) (stage_of to on net new) None) (stripped ∙ ap strip_carriage_return is)
        (subst (λ (b : Option Event). Trace to.tells 0 (line ∷ []) (stage_of to on net place) (stage_of to on net new) b) answered.keeps.goes_on.begun answered.trace)));
    stopped = tt;
  }

  stops : (status : Status) (old new : Stage) (begun : Option Event) → IsLineEnd status begun → Trace to.tells (code_of status) (taken_of (Err status) (strip_carriage_return (kept_of (pending ++ part)))) old new begun
      → Stopped to.tells (code_of status) (pending ++ (part ++ 10 ∷ [])) old new begun
  stops Memory old new begun end trace = stopped_none to.tells pending part is_pending.begun free 6 old new begun trace
  stops SinkFault old new begun end trace = stopped_line to.tells pending part is_pending.begun free 3 old new begun trace
  stops DiskFault old new begun end trace = stopped_line to.tells pending part is_pending.begun free 4 old new begun trace
  stops Done old new begun end trace = absurd end
  stops Words old new begun end trace = absurd end
  stops SourceFault old new begun end trace = absurd end
  stops NotAStore old new begun end trace = absurd end
  stops TooMuchInput old new begun end trace = absurd end

  -- it ended the session
  pub line_stopped : (new : Place K D L) (status : Status) (kept line next : List ℕ) → kept ≡ kept_of (pending ++ part) → line ≡ strip_carriage_return kept → LineAnswered to on net line place (Err status) new
      → PieceAnswered to on net (pending ++ (part ++ 10 ∷ [])) place (Err status) next new
  line_stopped new status kept line next is stripped answered = record {
    keeps = answered.keeps;
    ends = answered.ends;
    pending = tt;
    done = tt;
    stopped =
        stops status (stage_of to on net place) (stage_of to on net new) new.course.begun answered.ends
        (subst (λ (l : List ℕ). Trace to.tells (code_of status) (taken_of (Err status) l) (stage_of to on net place) (stage_of to on net new) new.course.begun) (stripped ∙ ap strip_carriage_return is) answered.trace);
  }

-- ---- a piece

-- Each line that ends in a first part of the piece was answered. That part is followed by the rest.
pub record UpTo (told : Type 0) (first piece rest kept : List ℕ) (old new : Stage) : Type 0 where
  pub front : List ℕ
  pub split : piece ≡ front ++ rest
  pub progress : Progress told (first ++ front) kept old new

-- nothing of it was read yet
pub piece_begun : (told : Type 0) (pending piece : List ℕ) (stage : Stage) → IsPending pending → UpTo told pending piece piece pending stage stage
piece_begun told pending piece stage is = record {
  front = [];
  split = refl;
  progress = subst (λ (l : List ℕ). Progress told l pending stage stage) (sym (append-nil pending)) (progress_none told pending stage is);
}

-- where the first line feed of the rest stands
pub record HasFeed (rest part more : List ℕ) : Type 0 where
  pub free : HasNoFeed part
  pub is : rest ≡ part ++ 10 ∷ more
  pub shorter : length more < length rest

pub feed_found : (rest part more : List ℕ) → parts_between 10 rest ≡ part ∷ parts_between 10 more → HasFeed rest part more
feed_found rest part more cut =
    let found = at_feed rest part more cut in
    record { free = found.0; is = found.1; shorter = omega (arith, ap length found.1, length-append part (10 ∷ more)) }

module _ {K D L : Type 0} (to : SinkGhosts K) (on : Ghosts D) (net : LinksGhosts L) (first piece rest pending : List ℕ) (old mid new : Place K D L)
    (done : UpTo to.tells first piece rest pending (stage_of to on net old) (stage_of to on net mid)) (keeps : KeepsSession to on net old (Ok tt) mid) where
  module _ (part more next : List ℕ) (feed : HasFeed rest part more) where
    -- a line more was answered
    pub piece_on : PieceAnswered to on net (pending ++ (part ++ 10 ∷ [])) mid (Ok tt) next new → UpTo to.tells first piece more next (stage_of to on net old) (stage_of to on net new)
    piece_on answered = record {
      front = done.front ++ (part ++ 10 ∷ []);
      split = done.split ∙ ap (λ (l : List ℕ). done.front ++ l) (feed.is ∙ sym (append_assoc part (10 ∷ []) more)) ∙ sym (append_assoc done.front (part ++ 10 ∷ []) more);
      progress =
          subst (λ (l : List ℕ). Progress to.tells l next (stage_of to on net old) (stage_of to on net new)) (append_assoc first done.front (part ++ 10 ∷ []))
          (progress_on to.tells (first ++ done.front) pending (part ++ 10 ∷ []) (stage_of to on net old) (stage_of to on net mid) (stage_of to on net new) done.progress next answered.done);
    }

    -- it ended the session
    pub piece_ends : (status : Status) → PieceAnswered to on net (pending ++ (part ++ 10 ∷ [])) mid (Err status) next new → PieceAnswered to on net (first ++ piece) old (Err status) next new
    piece_ends status answered = record {
      keeps = keeps_then to on net old mid new (Err status) keeps answered.keeps;
      ends = answered.ends;
      pending = tt;
      done = tt;
      stopped =
          let whole : (first ++ done.front) ++ ((part ++ 10 ∷ []) ++ more) ≡ first ++ piece =
          append_assoc first done.front ((part ++ 10 ∷ []) ++ more) ∙ ap (λ (l : List ℕ). first ++ (done.front ++ l)) (append_assoc part (10 ∷ []) more ∙ sym feed.is) ∙ ap (λ (l : List ℕ). first ++ l) (sym done.split) in
          subst (λ (l : List ℕ). Stopped to.tells (code_of status) l (stage_of to on net old) (stage_of to on net new) new.course.begun) whole
          (stopped_on to.tells (first ++ done.front) pending (part ++ 10 ∷ []) (stage_of to on net old) (stage_of to on net mid) (stage_of to on net new) done.progress (code_of status) new.course.begun more answered.stopped);
    }

  joined : (first ++ done.front) ++ rest ≡ first ++ piece
  joined = append_assoc first done.front rest ∙ ap (λ (l : List ℕ). first ++ l) (sym done.split)

  -- no line feed is left
  pub piece_kept : (next : List ℕ) → IsPending pending → parts_between 10 rest ≡ rest ∷ [] → next ≡ kept_of (pending ++ rest) → PieceAnswered to on net (first ++ piece) old (Ok tt) next mid
  piece_kept next is_pending whole is =
      let free = without_feed rest whole in
      record {
        keeps = keeps;
        ends = tt;
        pending = subst IsPending (sym is) (pending_kept (pending ++ rest) (All-append (λ b. b ≢ 10) pending rest is_pending.begun free));
        done =
            subst (λ (p : List ℕ). Progress to.tells (first ++ piece) p (stage_of to on net old) (stage_of to on net mid)) (sym is)
            (subst (λ (l : List ℕ). Progress to.tells l (kept_of (pending ++ rest)) (stage_of to on net old) (stage_of to on net mid)) joined
            (progress_part to.tells (first ++ done.front) pending rest (stage_of to on net old) (stage_of to on net mid) done.progress free));
        stopped = tt;
      }

  -- there was no memory for what is left
  pub piece_refused : (next : List ℕ) → on.left_at mid.disk (on.moment mid.disk) (on.seen mid.disk) → PieceAnswered to on net (first ++ piece) old (Err Memory) next mid
  piece_refused next seen_left = record {
    keeps = keeps_stop to on net old mid Memory (λ same. cc (same)) (λ same. cc (same)) six_three seen_left keeps;
    ends = keeps.goes_on.begun;
    pending = tt;
    done = tt;
    stopped =
        subst (λ (b : Option Event). Stopped to.tells 6 (first ++ piece) (stage_of to on net old) (stage_of to on net mid) b) (sym keeps.goes_on.begun)
        (subst (λ (l : List ℕ). Stopped to.tells 6 l (stage_of to on net old) (stage_of to on net mid) None) joined
        (stopped_here to.tells 6 (first ++ done.front) pending rest (stage_of to on net old) (stage_of to on net mid) six_three done.progress));
  }

-- ---- the rest

-- no line is left
pub rest_none : {K D L : Type 0} (to : SinkGhosts K) (on : Ghosts D) (net : LinksGhosts L) (place : Place K D L) (line : List ℕ) → line ≡ [] → IsReady place.course → RestAnswered to on net line place (Ok tt) place
rest_none to on net place line is ready = record {
  keeps = keeps_none to on net place ready;
  ends = tt;
  trace =
      subst (λ (b : Option Event). Trace to.tells 0 (if length line == 0 then [] else line ∷ []) (stage_of to on net place) (stage_of to on net place) b) (sym ready.begun)
      (rw is (trace_none to.tells 0 (stage_of to on net place) (λ same. omega (arith, same))));
}
