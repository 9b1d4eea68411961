-- One step after another: one more at the end, and a run cut in two.
use Rattle.std.proofs.Common.{◌≡◌, zero, suc, List, [], ◌∷◌, ◌++◌, ℕ, take, drop, length, Option, refl, ap, subst}
use Rattle.machine.specs.declared.event.Event.{Event}
use Rattle.machine.specs.declared.reply.Reply.{Reply}
use Rattle.machine.specs.Machine.{Run, Step, moment_after}
use Rattle.machine.specs.Store.{Session}

-- the moment behind these replies
abbrev pub moment_end : ℕ → List (Option Reply) → ℕ
moment_end now [] = now
moment_end now (reply ∷ replies) = moment_end (moment_after now reply) replies

-- one step more
pub run_push : (now : ℕ) (old mid new : Session) (events : List Event) (replies : List (Option Reply)) (event : Event) (reply : Option Reply) → Run now old events replies mid → Step (moment_end now replies) mid event reply new → Run now old (events ++ event ∷ []) (replies ++ reply ∷ []) new
run_push now old mid new [] [] event reply run step = (new, subst (λ (s : Session). Step now s event reply new) run step, refl)
run_push now old mid new [] (other ∷ replies) event reply run step = absurd run
run_push now old mid new (first ∷ events) [] event reply run step = absurd run
run_push now old mid new (first ∷ events) (answer ∷ replies) event reply run step =
    (run.0, run.1, run_push (moment_after now answer) run.0 mid new events replies event reply run.2 step)

-- as many replies as events
pub run_length : (now : ℕ) (old new : Session) (events : List Event) (replies : List (Option Reply)) → Run now old events replies new → length events ≡ length replies
run_length now old new [] [] run = refl
run_length now old new [] (reply ∷ replies) run = absurd run
run_length now old new (event ∷ events) [] run = absurd run
run_length now old new (event ∷ events) (reply ∷ replies) run = ap suc (run_length (moment_after now reply) run.0 new events replies run.2)

-- the first n steps, and those behind them
pub record Cut (n now : ℕ) (old new : Session) (events : List Event) (replies : List (Option Reply)) : Type 0 where
  pub mid : Session
  pub first : Run now old (take n events) (take n replies) mid
  pub rest : Run (moment_end now (take n replies)) mid (drop n events) (drop n replies) new

pub run_cut : (n now : ℕ) (old new : Session) (events : List Event) (replies : List (Option Reply)) → Run now old events replies new → Cut n now old new events replies
run_cut zero now old new events replies run = record { mid = old; first = refl; rest = run }
run_cut (suc n) now old new [] [] run = record { mid = old; first = refl; rest = run }
run_cut (suc n) now old new [] (reply ∷ replies) run = absurd run
run_cut (suc n) now old new (event ∷ events) [] run = absurd run
run_cut (suc n) now old new (event ∷ events) (reply ∷ replies) run =
    let inner = run_cut n (moment_after now reply) run.0 new events replies run.2 in
    record { mid = inner.mid; first = (run.0, run.1, inner.first); rest = inner.rest }
