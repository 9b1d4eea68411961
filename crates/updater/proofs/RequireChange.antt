-- What requiring a version of a key comes to.
use Rattle.std.proofs.Common.{◌≡◌, ◌≢◌, ◌<◌, ◌≤◌, ◌⊎◌, ℕ, List, [], length, Option, Some, None, true, false, inl, inr, refl, sym, ap, subst, ◌∙◌}
use Rattle.std.specs.Prelude.{option_and_then}
use Rattle.std.specs.Ordering.{is_lt}
use Rattle.std.proofs.lemmas.Bool.{cases_lt}
use Rattle.small_types.specs.declared.room.Room.{Room}
use Rattle.small_types.specs.declared.limits.TheConstants.{APPLICATION_LIMIT}
use Rattle.identity.specs.declared.key.Key.{Key}
use Rattle.identity.specs.declared.version.Version.{Version}
use Rattle.identity.specs.Key.{IsKey}
use Rattle.identity.specs.Version.{IsBelow, IsVersion, greater_of, version_cmp}
use Rattle.identity.proofs.VersionLemmas.{IsBelow-irreflexive}
use Rattle.machine.specs.declared.app.AppState.{AppState}
use Rattle.machine.specs.declared.command.Command.TheVariants as command
use Rattle.machine.specs.declared.reply.Reply.TheVariants as says
use Rattle.machine.specs.Entries.{entry_of}
use Rattle.machine.specs.Machine.{Answers, refusals}
use Rattle.machine.specs.Minimums.{minimum_of, raised}
use Rattle.machine.specs.RequireRow.{required}
use Rattle.machine.specs.Rows.{PassesAll}
use Rattle.machine.specs.Shape.{Shape, shape_of}
use Rattle.machine.specs.Store.{Session, Store}
use Rattle.machine.specs.Valid.{Valid}
use Rattle.machine.proofs.RaisedMinimums.{minimum_of-required}
use Rattle.machine.proofs.Shortness.{short_key}
use Rattle.store_state.specs.declared.change.Change.TheVariants as change
use Rattle.store_state.specs.Change.{Fits}
use Rattle.store_state.specs.Shows.{Shows}
use Rattle.store_state.specs.Tables.{Tables, table_shape}
use Rattle.store_state.proofs.Required.{required-same_not_below}
use Rattle.store_state.proofs.ShownTables.{shape_shown}
use Rattle.links.specs.Links.{LinksState}
use Rattle.updater.specs.Requirement.{Stays, Raises}
use Rattle.updater.proofs.ChangedStores.{apps_shown, required_leads}
use Rattle.updater.proofs.CommandEnds.{LeavesStore, Does, effect_answers}

-- ---- the minimum of the key

minimum_in : (key : Key) (apps : List AppState) (entry : Option AppState) → entry ≡ entry_of key apps → minimum_of key apps ≡ option_and_then (λ (app : AppState). app.minimum) entry
minimum_in key apps entry is = ap (λ (o : Option AppState). option_and_then (λ (app : AppState). app.minimum) o) (sym is)

-- where the minimum is another than before, so are the applications
differs : (key : Key) (version : Version) (apps : List AppState) → raised (minimum_of key apps) version ≡ version → minimum_of key apps ≢ Some version → required key version apps ≢ apps
differs key version apps raises other same =
    other (sym (ap (minimum_of key) same) ∙ minimum_of-required key version apps ∙ ap Some raises)

-- there is none
pub bare_raises : (key : Key) (version : Version) (apps : List AppState) → minimum_of key apps ≡ None → Raises key version apps
bare_raises key version apps none =
    let minimum : raised (minimum_of key apps) version ≡ version = ap (λ (o : Option Version). raised o version) none in
    record {
      other = differs key version apps minimum (λ e. let clash : None ≡ Some version = sym none ∙ e in cc);
      minimum = minimum;
    }

pub new_raises : (key : Key) (version : Version) (apps : List AppState) → None ≡ entry_of key apps → Raises key version apps
new_raises key version apps is = bare_raises key version apps (minimum_in key apps None is)

pub known_bare_raises : (key : Key) (version : Version) (apps : List AppState) (known : AppState) → Some known ≡ entry_of key apps → known.minimum ≡ None → Raises key version apps
known_bare_raises key version apps known is none = bare_raises key version apps (minimum_in key apps (Some known) is ∙ none)

-- there is one that is below the version
pub known_raises : (key : Key) (version m : Version) (apps : List AppState) (known : AppState) → Some known ≡ entry_of key apps → known.minimum ≡ Some m → IsBelow m version → is_lt (version_cmp m version) ≡ true → Raises key version apps
known_raises key version m apps known is holds below less =
    let old : minimum_of key apps ≡ Some m = minimum_in key apps (Some known) is ∙ holds in
    let greater : greater_of m version ≡ version = rw less refl in
    let minimum : raised (minimum_of key apps) version ≡ version = ap (λ (o : Option Version). raised o version) old ∙ greater in
    record {
      other = differs key version apps minimum (λ e. let v : m ≡ version = let clash : Some m ≡ Some version = sym old ∙ e in cc in IsBelow-irreflexive version (subst (λ (w : Version). IsBelow w version) v below));
      minimum = minimum;
    }

-- there is one that is not
pub known_stays : (key : Key) (version m : Version) (apps : List AppState) (known : AppState) → Some known ≡ entry_of key apps → known.minimum ≡ Some m → is_lt (version_cmp m version) ≡ false → Stays key version m apps
known_stays key version m apps known is holds above =
    let old : minimum_of key apps ≡ Some m = minimum_in key apps (Some known) is ∙ holds in
    let greater : greater_of m version ≡ m = rw above refl in
    record {
      same = required-same_not_below key version m apps old above;
      minimum = ap (λ (o : Option Version). raised o version) old ∙ greater;
    }

-- ---- the change that it makes

room_from : (key : Key) (apps : List AppState) → ¬ ((entry_of key apps ≡ None) × (APPLICATION_LIMIT ≤ length apps)) → entry_of key apps ≡ None → length apps < APPLICATION_LIMIT
room_from key apps passes new = by (cases_lt (length apps) APPLICATION_LIMIT)
  where
    by : (length apps < APPLICATION_LIMIT) ⊎ (APPLICATION_LIMIT ≤ length apps) → length apps < APPLICATION_LIMIT
    by (inl less) = less
    by (inr full) = absurd (passes (new, full))

-- it fits where the row's refusals are passed
pub required_fits : (now : ℕ) (tables : Tables) (key : Key) (version : Version) → IsKey key → IsVersion version → (room : Room) → PassesAll (refusals now [] (table_shape room tables) (command.Require key version)) → Fits tables (change.Require key version)
required_fits now tables key version is_key is_version room passes = (short_key is_key, is_version, room_from key tables.apps passes.0)

-- ---- the effect of the row

module _ (now : ℕ) (key : Key) (version : Version) (room : Room) (tables : Tables) (image : List ℕ) (before after : LinksState) (old : Session) (no_jobs : old.jobs ≡ []) (shows : Shows room tables image old.store) (passes : PassesAll (refusals now [] (table_shape room tables) (command.Require key version))) where
  answers_with : (minimum : Version) → raised (minimum_of key tables.apps) version ≡ minimum → Answers now [] old (command.Require key version) (says.Minimum minimum) (record old { store = record old.store { apps = required key version old.store.apps } })
  answers_with minimum is = effect_answers now [] room tables old (shape_shown old no_jobs shows) (command.Require key version) (says.Minimum minimum) (record old { store = record old.store { apps = required key version old.store.apps } }) passes
      (ap says.Minimum (sym (ap (λ (apps : List AppState). raised (minimum_of key apps) version) (apps_shown shows) ∙ is)), refl)

  pub required_rests : (minimum : Version) → Stays key version minimum tables.apps → LeavesStore now [] (command.Require key version) before after old (says.Minimum minimum)
  required_rests minimum kept = record {
    new = record old { store = record old.store { apps = required key version old.store.apps } };
    step = answers_with minimum kept.minimum;
    same = ap (λ (apps : List AppState). record old.store { apps = apps })
        (subst (λ (apps : List AppState). required key version apps ≡ apps) (sym (apps_shown shows)) kept.same);
    served = tt;
  }

  -- no refusal of the session holds
  passed : PassesAll (refusals now [] (shape_of old) (command.Require key version))
  passed = subst (λ (s : Shape). PassesAll (refusals now [] s (command.Require key version))) (sym (shape_shown old no_jobs shows)) passes

  pub required_does : {Left : List ℕ → Type 0} → Fits tables (change.Require key version) → Valid old.store → Raises key version tables.apps → Does now [] (command.Require key version) before after (change.Require key version) tables image Left old (says.Minimum version)
  required_does fits valid raises = record {
    new = record old { store = record old.store { apps = required key version old.store.apps } };
    step = answers_with version raises.minimum;
    leads = required_leads room tables image old.store key version shows fits passed.1.0 valid;
    brings = λ later left. record { measured = tt; are = refl };
    other = λ same. raises.other (subst (λ (apps : List AppState). required key version apps ≡ apps) (apps_shown shows) (ap (λ (s : Store). s.apps) same));
    served = tt;
  }
