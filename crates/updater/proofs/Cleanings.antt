-- A clean: the step that it is, and the change that it makes.
use Rattle.std.proofs.Common.{◌≡◌, ◌≤◌, ◌+◌, ◌∙◌, ℕ, Bool, true, false, cond, not, List, [], ◌∷◌, length, Some, refl, sym, ap, subst, arith}
use Rattle.std.specs.Prelude.{filter}
use Rattle.std.proofs.lemmas.List.Filters.{length-filter_both}
use Rattle.small_types.specs.declared.room.Room.{Room}
use Rattle.small_types.specs.declared.limits.TheConstants.{NUMBER_LIMIT}
use Rattle.machine.specs.declared.command.Command.TheVariants as command
use Rattle.machine.specs.declared.event.Event.TheVariants.{Line}
use Rattle.machine.specs.declared.reply.Reply.TheVariants as says
use Rattle.machine.specs.CleanRow.{cleaned, removable}
use Rattle.machine.specs.InUse.{is_in_use}
use Rattle.machine.specs.Machine.{Answers}
use Rattle.machine.specs.Shape.{Shape, shape_of}
use Rattle.machine.specs.Store.{Session, Store}
use Rattle.machine.specs.Valid.{Valid}
use Rattle.machine.specs.Views.{View}
use Rattle.machine.proofs.CleanedStores.{gone_count}
use Rattle.machine.proofs.KeptSteps.{step_valid}
use Rattle.store_state.specs.declared.change.Change.TheVariants as change
use Rattle.store_state.specs.Shows.{Shows}
use Rattle.store_state.specs.Tables.{Tables, table_shape}
use Rattle.store_state.proofs.CleanedTables.{cleans_shown}
use Rattle.store_state.proofs.ShownTables.{shape_shown}
use Rattle.links.specs.Links.{LinksState}
use Rattle.install_plan.specs.LeadsIn.{LeadsIn, no_bytes}
use Rattle.updater.specs.KeepsChange.{LeadsBetween}
use Rattle.updater.proofs.ChangedStores.{leads_none}
use Rattle.updater.proofs.CommandEnds.{Does, LeavesStore, effect_answers}

-- what a filter leaves of a list is all of it where it is as long
filter_whole : {X : Type 0} (p : X → Bool) (xs : List X)
    → length (filter p xs) ≡ length xs → filter p xs ≡ xs
filter_whole p [] same = refl
filter_whole {X} p (x ∷ xs) same = by (p x) refl (filter_whole p xs)
  where
    within : length (filter p xs) ≤ length xs
    within =
        let both = length-filter_both p (λ (y : X). not (p y)) (λ y. refl) xs in omega (arith, both)

    by : (b : Bool) → p x ≡ b
        → (length (filter p xs) ≡ length xs → filter p xs ≡ xs) → filter p (x ∷ xs) ≡ x ∷ xs
    by true is more =
        let kept = ap (λ (c : Bool). cond c (x ∷ filter p xs) (filter p xs)) is in
        let rest : length (filter p xs) ≡ length xs = omega (arith, ap length kept, same) in
        kept ∙ ap (λ (ys : List X). x ∷ ys) (more rest)
    by false is more =
        let gone = ap (λ (c : Bool). cond c (x ∷ filter p xs) (filter p xs)) is in
        absurd (omega (arith, ap length gone, same, within))

module _ (now : ℕ) (room : Room) (tables : Tables) (image : List ℕ) (before after : LinksState)
    (old : Session) (no_jobs : old.jobs ≡ []) (shows : Shows room tables image old.store) (valid : Valid old.store)
    (moment : now ≤ NUMBER_LIMIT) (views : ℕ)
    (is : views ≡ length (removable (table_shape room tables))) where
  abbrev new : Session
  new = record old { store = cleaned old.store }

  gone : views ≡ length (removable (shape_of old))
  gone = is ∙ sym (ap (λ (s : Shape). length (removable s)) (shape_shown old no_jobs shows))

  step : Answers now [] old command.Clean (says.Cleaned views) new
  step = effect_answers now [] room tables old (shape_shown old no_jobs shows) command.Clean
      (says.Cleaned views) new tt (ap says.Cleaned gone, refl)

  all : length (removable (shape_of old)) + length (cleaned old.store).views
      ≡ length old.store.views
  all = gone_count old.store

  -- where no view goes the store stays as it was
  pub cleaned_rests : views ≡ 0 → LeavesStore now [] command.Clean before after old (says.Cleaned views)
  cleaned_rests none = record {
    new = new;
    step = step;
    same = ap (λ (vs : List View). record old.store { views = vs })
        (filter_whole (λ (v : View). is_in_use v.number old.store.apps old.store.leases)
        old.store.views
        (omega (arith, all, gone, none)));
    served = tt;
  }

  abbrev leads : LeadsBetween change.Clean tables image old.store new.store
  leads = record {
    bytes = no_bytes;
    shows = subst (λ (n : Room). LeadsIn n change.Clean tables image no_bytes new.store)
        (sym (ap (λ (s : Store). s.room) shows.is))
        (leads_none image (λ later same. cleans_shown room tables image later old.store shows same));
    valid = step_valid now old (Line command.Clean now (record { texts = [] }))
        (Some (says.Cleaned views)) new (tt, moment)
        (record {
          moment = refl;
          hears = refl;
          answer = says.Cleaned views;
          replied = refl;
          answers = step;
        }) valid;
  }

  pub cleaned_does : {Left : List ℕ → Type 0} → ¬ (views ≡ 0)
      → Does now [] command.Clean before after change.Clean tables image Left old (says.Cleaned views)
  cleaned_does some = record {
    new = new;
    step = step;
    leads = leads;
    brings = λ later left. record { measured = tt; are = refl };
    other = λ same. some
        (let long = ap (λ (s : Store). length s.views) same in omega (arith, all, gone, long));
    served = tt;
  }
