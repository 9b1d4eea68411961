-- Each end of a check, by what was heard of the provider.
use Rattle.std.proofs.Common.{◌≡◌, ◌≢◌, ◌∙◌, ◌⊎◌, ◌++◌, ◌≤◌, inl, inr, refl, sym, ap, subst, ℕ, true, List, [], ◌∷◌, Option, Some, None, Ok, IsSome}
use Rattle.std.specs.Prelude.{option_and_then, option_map}
use Rattle.std.proofs.lemmas.List.{append-nil}
use Rattle.std.proofs.lemmas.Option.{none-some, same_Some}
use Rattle.small_types.specs.declared.room.Room.{Room}
use Rattle.small_types.specs.declared.limits.TheConstants.{MANIFEST_LIMIT, NUMBER_LIMIT}
use Rattle.small_types.specs.declared.target.Target.{Target}
use Rattle.causes.specs.declared.cause.Cause.{Cause}
use Rattle.identity.specs.declared.key.Key.{Key}
use Rattle.identity.specs.declared.version.Version.{Version}
use Rattle.manifest_parts.specs.declared.fault.ManifestFault.{ManifestFault}
use Rattle.manifest_parts.specs.Parts.{Tells}
use Rattle.manifests.specs.declared.facts.Deployment.{Deployment}
use Rattle.manifests.specs.Deployments.{deployment_of}
use Rattle.machine.specs.declared.app.AppState.{AppState}
use Rattle.machine.specs.declared.command.Command.TheVariants.{Check}
use Rattle.machine.specs.declared.reply.Reply.{Reply}
use Rattle.machine.specs.declared.reply.Reply.TheVariants as says
use Rattle.machine.specs.Asked.{AsksCheck}
use Rattle.machine.specs.CheckRow.{CheckEffect, HearsOffer, HeardOther, check_refusals, checked, provider_of, unheard_app, unheard_store}
use Rattle.machine.specs.Current.{current_of}
use Rattle.machine.specs.Current.{current_version as shape_version}
use Rattle.machine.specs.Entries.{KeepsKeys, entry_of, with_entry}
use Rattle.machine.specs.Fields.{IsDeployment}
use Rattle.machine.specs.Installed.{above, raised_by}
use Rattle.machine.specs.InstallRow.{IsRefused}
use Rattle.machine.specs.Machine.{Answers, moment_after}
use Rattle.machine.specs.Minimums.{minimum_of}
use Rattle.machine.specs.Rows.{PassesAll, Refuses}
use Rattle.machine.specs.Shape.{Shape, shape_of}
use Rattle.machine.specs.Store.{Session, Store}
use Rattle.machine.proofs.CheckFacts.{unheard_keys}
use Rattle.machine.proofs.FirstFound.{some_there, then_value}
use Rattle.machine.proofs.RaisedMinimums.{minimum_raised}
use Rattle.machine.proofs.ReadDeployments.{deployment_read}
use Rattle.store_state.specs.declared.change.Change.{Change}
use Rattle.store_state.specs.declared.change.Change.TheVariants as change
use Rattle.store_state.specs.declared.view.View.{View}
use Rattle.store_state.specs.Rows.{current_row, row_at}
use Rattle.store_state.specs.Shows.{Shows}
use Rattle.store_state.specs.Tables.{Tables, table_shape}
use Rattle.store_state.proofs.CheckedApps.{shows_heard, shows_unheard, version_shown}
use Rattle.store_state.proofs.ShownTables.{shape_shown}
use Rattle.links.specs.Links.{LinksState}
use Rattle.fetcher.specs.Causes.{IsTextCause}
use Rattle.fetcher.specs.Fetched.{KeptAll, MayAsk, NoneGave}
use Rattle.fetcher.specs.Given.{FitsText}
use Rattle.install_plan.specs.declared.check.Offered.{Offered}
use Rattle.install_plan.specs.declared.prepared.Prepared.{Prepared}
use Rattle.install_plan.specs.declared.prepared.Prepared.TheVariants as to
use Rattle.install_plan.specs.Checks.{IsCheckOver, IsCheckReady, IsMissed, IsNoted, IsUnmissed, IsUnnoted, MissesTo, NotesTo, checked_of, heard_of, is_missing}
use Rattle.install_plan.specs.InstallHeard.{IsFront}
use Rattle.install_plan.specs.Offers.{IsNoOffer, IsOfOther, IsOffer, OfferHearing, OfferServed}
use Rattle.install_plan.specs.Prepared.{IsCheckPrepared}
use Rattle.install_plan.specs.Stages.{IsGot, IsNotRead, StopsOne}
use Rattle.install_plan.proofs.Downs.{check_counts, counts_none}
use Rattle.install_plan.proofs.Entry.{entry_same, entry_stays}
use Rattle.install_plan.proofs.NewFiles.{leads_over}
use Rattle.install_plan.proofs.Rows.{unrefused}
use Rattle.install_plan.proofs.Told.{deployment_is}

-- ---- the provider was asked

module _ (room : Room) (tables : Tables) (key : Key) (now : ℕ)
    (row : View) (is_row : current_row key tables ≡ Some row)
    (app : AppState) (is_app : entry_of key tables.apps ≡ Some app)
    (provider : Target) (is_provider : app.provider ≡ Some provider)
    (a b : LinksState) (both : KeptAll a b) where
  abbrev shape : Shape
  shape = table_shape room tables

  installed : current_of key tables.apps ≡ None → ⊥
  installed none = none-some row
      (sym (ap (λ (o : Option ℕ). option_and_then (λ (n : ℕ). row_at n tables.views) o) none)
      ∙ is_row)

  some_current : IsSome (current_of key tables.apps)
  some_current =
      let number = then_value (λ (n : ℕ). row_at n tables.views) (current_of key tables.apps) row
      is_row in
      some_there (current_of key tables.apps) number.0 number.1

  provided : provider_of key tables.apps ≡ Some provider
  provided =
      ap (λ (o : Option AppState). option_and_then (λ (x : AppState). x.provider) o) is_app
      ∙ is_provider

  asks : AsksCheck key shape (provider ∷ [])
  asks = inr (provider, installed, provided, refl)

  front_one : (all : List Target) → AsksCheck key shape all → IsFront (provider ∷ []) all
  front_one all (inl none) = absurd (installed none.0)
  front_one all (inr asked) = (
    [],
    asked.3 ∙ ap (λ (t : Target). t ∷ []) (same_Some asked.0 provider
        (sym asked.2 ∙ provided)),
  )

  front_none : (all : List Target) → AsksCheck key shape all → IsFront [] all
  front_none all asked = (all, refl)

  -- ---- steps of a session over the store that the tables show

  module _ (old : Session) (image : List ℕ) (idle : old.jobs ≡ [])
      (shows : Shows room tables image old.store) (texts : List (List ℕ)) where
    abbrev same_shape : shape_of old ≡ shape
    same_shape = shape_shown old idle shows

    same_apps : old.store.apps ≡ tables.apps
    same_apps = ap (λ (s : Shape). s.apps) same_shape

    by_refusal : (reply : Reply) (new : Session)
        → Refuses (check_refusals key texts shape) old reply new
        → Answers now texts old (Check key) reply new
    by_refusal reply new refuses =
        inl (inr (
          tt,
          subst (λ (s : Shape). Refuses (check_refusals key texts s) old reply new)
              (sym same_shape) refuses,
        ))

    by_effect : (reply : Reply) (new : Session) → PassesAll (check_refusals key texts shape)
        → CheckEffect key texts now old reply new → Answers now texts old (Check key) reply new
    by_effect reply new passes done =
        inr (
          (
            tt,
            subst (λ (s : Shape). PassesAll (check_refusals key texts s)) (sym same_shape)
                passes,
          ),
          done,
        )

    served_by : (reply : Reply) → OfferServed key shape texts a b reply
        → OfferServed key (shape_of old) texts a b reply
    served_by reply served =
        subst (λ (s : Shape). OfferServed key s texts a b reply) (sym same_shape) served

    stays : (f : AppState → AppState) → f app ≡ app
        → record old.store { apps = with_entry key f old.store.apps } ≡ old.store
    stays f same = ap (λ (apps : List AppState). record old.store { apps = apps })
        (subst (λ (apps : List AppState). with_entry key f apps ≡ apps) (sym same_apps)
        (entry_stays key f app tables.apps is_app same))

    differs : (f : AppState → AppState) → KeepsKeys f → f app ≢ app
        → record old.store { apps = with_entry key f old.store.apps } ≢ old.store
    differs f keeps other same =
        other (entry_same key f app keeps tables.apps is_app
        (subst (λ (apps : List AppState). with_entry key f apps ≡ apps) same_apps
        (ap (λ (s : Store). s.apps) same)))

  -- nothing is changed for want of memory
  memory_over : (texts : List (List ℕ)) → HearsOffer key shape texts
      → OfferHearing key shape texts a b → IsCheckOver room tables key texts a b now says.Memory
  memory_over texts hears hearing = record {
    hears = hears;
    kept = both;
    still = refl;
    downs = counts_none refl;
    step = λ image old idle shows valid. record {
      new = old;
      step = inl (inl (refl, refl));
      served = served_by old image idle shows texts says.Memory
          (record { hearing = hearing; accounts = tt });
      leaves = refl;
    };
  }

  -- a refusal that changes nothing
  refused_over : (texts : List (List ℕ)) (reply : Reply) → HearsOffer key shape texts
      → moment_after now (Some reply) ≡ now → OfferServed key shape texts a b reply
      → ((old : Session) → Refuses (check_refusals key texts shape) old reply old)
      → IsCheckOver room tables key texts a b now reply
  refused_over texts reply hears still served refuses = record {
    hears = hears;
    kept = both;
    still = still;
    downs = check_counts key shape texts a b reply served;
    step = λ image old idle shows valid. record {
      new = old;
      step = by_refusal old image idle shows texts reply old (refuses old);
      served = served_by old image idle shows texts reply served;
      leaves = refl;
    };
  }

  -- ---- no link gave the manifest

  hearing_none : (asked : List Target) → b.asked ≡ a.asked ++ asked
      → ((all : List Target) → AsksCheck key shape all → IsFront asked all)
      → OfferHearing key shape [] a b
  hearing_none asked grown front =
      record { kept = both; text = tt; asked = asked; grown = grown; front = front }

  module _ (named : Target) (reasons : List Cause)
      (gave : NoneGave (IsTextCause MANIFEST_LIMIT provider) (FitsText MANIFEST_LIMIT) provider
      a b named reasons) where
    abbrev missing : Reply
    missing = says.AllLinks provider reasons

    unserved : OfferServed key shape [] a b missing
    unfolding hearing_none
    unserved = record {
      hearing = hearing_none (provider ∷ []) gave.asked front_one;
      accounts = (asks, record { causes = gave.causes; none = gave.none });
    }

    unheard_refuses : (old : Session) → Refuses (check_refusals key [] shape) old missing
        (record old { store = unheard_store key old.store })
    unheard_refuses old =
        inr (installed, inl ((provider, reasons, (provided, refl), refl), refl))

    unheard_ready : unheard_app app ≢ app
        → IsCheckReady room tables key [] a b now (change.Unheard key) missing
    unheard_ready other = record {
      hears = tt;
      kept = both;
      still = refl;
      downs = check_counts key shape [] a b missing unserved;
      of = refl;
      fits = some_there (current_row key tables) row is_row;
      step = λ image old idle shows valid. record {
        new = record old { store = unheard_store key old.store };
        step = by_refusal old image idle shows [] missing (record old { store = unheard_store key old.store })
            (unheard_refuses old);
        served = served_by old image idle shows [] missing unserved;
        leaves = record {
          leads = leads_over (λ later same there.
              shows_unheard room tables key image later old.store shows same);
          other = differs old image idle shows [] unheard_app unheard_keys other;
        };
      };
    }

    unheard_over : unheard_app app ≡ app → IsCheckOver room tables key [] a b now missing
    unheard_over same = record {
      hears = tt;
      kept = both;
      still = refl;
      downs = check_counts key shape [] a b missing unserved;
      step = λ image old idle shows valid. record {
        new = record old { store = unheard_store key old.store };
        step = by_refusal old image idle shows [] missing (record old { store = unheard_store key old.store })
            (unheard_refuses old);
        served = served_by old image idle shows [] missing unserved;
        leaves = stays old image idle shows [] unheard_app same;
      };
    }

    replied_is : (reply : Reply) → reply ≡ says.AllLinks named reasons → reply ≡ missing
    replied_is reply is = is ∙ ap (λ (t : Target). says.AllLinks t reasons) gave.shown

  -- ---- a manifest was heard

  some_text : (text : List ℕ) → ◌≡◌ {A = Option (List ℕ)} (Some text) None → ⊥
  some_text text e = cc

  module _ (text : List ℕ) (got : IsGot (FitsText MANIFEST_LIMIT) provider a b text) where
    hearing_one : OfferHearing key shape (text ∷ []) a b
    hearing_one = record {
      kept = both;
      text = (provider, provided, got.from);
      asked = provider ∷ [];
      grown = got.asked;
      front = front_one;
    }

    unread_over : (reply : Reply) (is : IsNotRead deployment_of (FitsText MANIFEST_LIMIT) provider
        a b [] (text ∷ []) reply) → is.text ≡ text
        → IsCheckOver room tables key (text ∷ []) a b now reply
    unfolding hearing_one
    unread_over reply is same =
        subst (IsCheckOver room tables key (text ∷ []) a b now) (sym is.replied)
        (refused_over (text ∷ []) (says.Manifest is.reason) some_current refl
        (record { hearing = hearing_one; accounts = asks })
        (λ old. inr (
          installed,
          inr (
            (λ x lacks. some_text text lacks.1),
            inl ((is.reason, (is.text, ap Some (sym same), is.refuses, is.other), refl), refl),
          ),
        )))

    module _ (d : Deployment) (tells : Tells deployment_of text (Ok d)) where
      readable : (x : ManifestFault) → IsRefused deployment_of 0 (text ∷ []) x → ⊥
      readable = unrefused deployment_of text d tells 0 (text ∷ []) refl

      other_over : d.identity.key ≢ key
          → IsCheckOver room tables key (text ∷ []) a b now (says.IdentityDiffers d.identity.key)
      unfolding hearing_one
      other_over other =
          refused_over (text ∷ []) (says.IdentityDiffers d.identity.key) some_current refl
          (record { hearing = hearing_one; accounts = asks })
          (λ old. inr (
            installed,
            inr (
              (λ x lacks. some_text text lacks.1),
              inr (
                readable,
                inl ((d.identity.key, ((text, d, refl, tells, refl), other), refl), refl),
              ),
            ),
          ))

      -- ---- it is of the key

      module _ (same_key : d.identity.key ≡ key) (held : IsDeployment d) (few : now ≤ NUMBER_LIMIT)
        where
          abbrev have : Version
          have = row.deployment.identity.version

          abbrev offered : Offered
          offered = record {
            have = row.deployment.identity.version;
            version = d.identity.version;
            minimum = d.minimum;
            now = now;
          }

          abbrev note : Change
          note = change.Heard key d.identity.version d.minimum now

          abbrev left : Session → Session
          left old = record old { store = checked key row.deployment.identity.version d now old.store }

          same_found : (found : Key) → HeardOther key (text ∷ []) found → ⊥
          same_found found heard =
              let one = deployment_is {P = λ x. x ≡ d} {Q = λ x. x.identity.key ≡ found} (text ∷ [])
              (text, d, refl, tells, refl) heard.0 in
              heard.1 (sym one.2 ∙ ap (λ (x : Deployment). x.identity.key) one.1 ∙ same_key)

          passes : PassesAll (check_refusals key (text ∷ []) shape)
          passes = (installed, ((λ x lacks. some_text text lacks.1), (readable, (same_found, tt))))

          keeps : KeepsKeys (heard_of offered)
          keeps x = refl

          version_is : shape_version key shape ≡ Some have
          version_is =
              sym (version_shown room tables key)
              ∙ ap (option_map (λ (v : View). v.deployment.identity.version)) is_row

          module _ (old : Session) (image : List ℕ) (idle : old.jobs ≡ [])
              (shows : Shows room tables image old.store) where
            minimum_left : minimum_of key (left old).store.apps ≡ raised_by d.minimum app.minimum
            minimum_left =
                minimum_raised key (heard_of offered) keeps d.minimum (λ x. refl) old.store.apps
                ∙ ap (raised_by d.minimum)
                (ap (minimum_of key) (same_apps old image idle shows (text ∷ []))
                ∙ ap (λ (o : Option AppState). option_and_then (λ (x : AppState). x.minimum) o) is_app)

            done : CheckEffect key (text ∷ []) now old (checked_of offered app) (left old)
            done = record {
              deployment = d;
              told = (text, d, refl, tells, refl);
              have = have;
              current = subst (λ (s : Shape). shape_version key s ≡ Some have)
                  (sym (same_shape old image idle shows (text ∷ []))) version_is;
              replied = ap (λ (minimum : Option Version).
                  says.Checked (above have (Some d.identity.version)) minimum) (sym minimum_left);
              is = refl;
            }

          served : OfferServed key shape (text ∷ []) a b (checked_of offered app)
          unfolding hearing_one
          served = record { hearing = hearing_one; accounts = asks }

          heard_ready : heard_of offered app ≢ app
              → IsCheckReady room tables key (text ∷ []) a b now note (checked_of offered app)
          heard_ready other = record {
            hears = some_current;
            kept = both;
            still = refl;
            downs = counts_none refl;
            of = refl;
            fits = record {
              installed = some_there (current_row key tables) row is_row;
              heard = held.identity.version;
              least = held.minimum;
              moment = few;
            };
            step = λ image old idle shows valid. record {
              new = left old;
              step = by_effect old image idle shows (text ∷ []) (checked_of offered app) (left old) passes
                  (done old image idle shows);
              served = served_by old image idle shows (text ∷ []) (checked_of offered app) served;
              leaves = record {
                leads = leads_over (λ later same there. shows_heard room tables key have
                    d.identity.version d.minimum now image later old.store shows same version_is);
                other = differs old image idle shows (text ∷ []) (heard_of offered) keeps other;
              };
            };
          }

          heard_over : heard_of offered app ≡ app
              → IsCheckOver room tables key (text ∷ []) a b now (checked_of offered app)
          heard_over same = record {
            hears = some_current;
            kept = both;
            still = refl;
            downs = counts_none refl;
            step = λ image old idle shows valid. record {
              new = left old;
              step = by_effect old image idle shows (text ∷ []) (checked_of offered app) (left old) passes
                  (done old image idle shows);
              served = served_by old image idle shows (text ∷ []) (checked_of offered app) served;
              leaves = stays old image idle shows (text ∷ []) (heard_of offered) same;
            };
          }

  -- ---- each end, by what its calls promised

  module _ (none texts : List (List ℕ)) (empty : none ≡ []) where
    noted_is : (text : List ℕ) → texts ≡ none ++ text ∷ [] → texts ≡ text ∷ []
    noted_is text is = is ∙ ap (λ (ts : List (List ℕ)). ts ++ text ∷ []) empty

    over_on : (heard : List (List ℕ)) (reply result : Reply) → texts ≡ heard → result ≡ reply
        → IsCheckOver room tables key heard a b now reply
        → IsCheckOver room tables key texts a b now result
    over_on heard reply result noted is over =
        subst (IsCheckOver room tables key texts a b now) (sym is)
        (subst (λ (ts : List (List ℕ)). IsCheckOver room tables key ts a b now reply) (sym noted) over)

    ready_on : (heard : List (List ℕ)) (note : Change) (reply : Reply) (made : Change) (due : Reply)
        → texts ≡ heard → made ≡ note → due ≡ reply
        → IsCheckReady room tables key heard a b now note reply
        → IsCheckReady room tables key texts a b now made due
    ready_on heard note reply made due noted first second ready =
        subst (λ (c : Change). IsCheckReady room tables key texts a b now c due) (sym first)
        (subst (IsCheckReady room tables key texts a b now note) (sym second)
        (subst (λ (ts : List (List ℕ)). IsCheckReady room tables key ts a b now note reply)
        (sym noted) ready))

    module _ (d : Deployment) (offer : IsOffer key provider none texts a b d)
        (few : now ≤ NUMBER_LIMIT) where
      held : IsDeployment d
      held = deployment_read offer.heard.text d offer.heard.tells

      abbrev heard_then : Offered
      heard_then = record {
        have = row.deployment.identity.version;
        version = d.identity.version;
        minimum = d.minimum;
        now = now;
      }

      ready_heard : (made : Change) (due : Reply)
          → IsNoted (heard_of heard_then) app (change.Heard key d.identity.version d.minimum now)
          (checked_of heard_then app) made due
          → IsCheckReady room tables key texts a b now made due
      ready_heard made due noted =
          ready_on (offer.heard.text ∷ []) (change.Heard key d.identity.version d.minimum now)
          (checked_of heard_then app) made due (noted_is offer.heard.text offer.heard.noted)
          noted.change_is noted.reply_is
          (heard_ready offer.heard.text offer.heard.got d offer.heard.tells offer.same held few
          noted.other)

      over_heard : (reply : Reply)
          → IsUnnoted (heard_of heard_then) app (checked_of heard_then app) reply
          → IsCheckOver room tables key texts a b now reply
      unfolding hearing_one
      over_heard reply (inl memory) =
          over_on (offer.heard.text ∷ []) says.Memory reply
          (noted_is offer.heard.text offer.heard.noted) memory
          (memory_over (offer.heard.text ∷ []) some_current
          (hearing_one offer.heard.text offer.heard.got))
      over_heard reply (inr same) =
          over_on (offer.heard.text ∷ []) (checked_of heard_then app) reply
          (noted_is offer.heard.text offer.heard.noted) same.0
          (heard_over offer.heard.text offer.heard.got d offer.heard.tells offer.same held few
          same.1)

      -- what noting it comes to
      pub heard_to : (result : Prepared)
          → NotesTo (heard_of heard_then) app (change.Heard key d.identity.version d.minimum now)
          (checked_of heard_then app) result
          → IsCheckPrepared room tables key texts a b now result
      heard_to (to.Change made due) noted = ready_heard made due noted
      heard_to (to.Reply reply) unnoted = over_heard reply unnoted

    -- ---- none was heard

    module _ (reply : Reply) (no : IsNoOffer key provider none texts a b reply) where
      abbrev Why : Type 0
      Why =
          StopsOne deployment_of (IsTextCause MANIFEST_LIMIT provider) (FitsText MANIFEST_LIMIT)
          provider a b none texts reply
          ⊎ IsOfOther key provider none texts a b reply

      unlike_missing : (other : Reply) → reply ≡ other → is_missing reply ≡ true
          → is_missing other ≡ true
      unlike_missing other is missing = subst (λ (r : Reply). is_missing r ≡ true) is missing

      ready_by : (made : Change) (due : Reply) → IsMissed key app reply made due → Why
          → IsCheckReady room tables key texts a b now made due
      ready_by made due missed (inl (inl given)) =
          ready_on [] (change.Unheard key) (says.AllLinks provider given.reasons) made due
          (given.noted ∙ empty) missed.noted.change_is
          (missed.noted.reply_is ∙ replied_is given.named given.reasons given.gave reply given.replied)
          (unheard_ready given.named given.reasons given.gave missed.noted.other)
      ready_by made due missed (inl (inr (inl read))) =
          absurd (let no : is_missing (says.Manifest read.reason) ≡ true =
          unlike_missing (says.Manifest read.reason) read.replied missed.missing in cc)
      ready_by made due missed (inl (inr (inr unkept))) =
          absurd (let no : is_missing says.Memory ≡ true =
          unlike_missing says.Memory unkept.replied missed.missing in cc)
      ready_by made due missed (inr other) = by other.replied
        where
          by : (reply ≡ says.Memory) ⊎ (reply ≡ says.IdentityDiffers other.deployment.identity.key)
              → IsCheckReady room tables key texts a b now made due
          by (inl memory) =
              absurd (let no : is_missing says.Memory ≡ true =
              unlike_missing says.Memory memory missed.missing in cc)
          by (inr differs) =
              absurd (let no : is_missing (says.IdentityDiffers other.deployment.identity.key) ≡ true =
              unlike_missing (says.IdentityDiffers other.deployment.identity.key) differs
              missed.missing in cc)

      -- ---- and nothing is noted

      memory_one : (text : List ℕ) (result : Reply) → texts ≡ none ++ text ∷ []
          → IsGot (FitsText MANIFEST_LIMIT) provider a b text → result ≡ says.Memory
          → IsCheckOver room tables key texts a b now result
      memory_one text result noted got memory =
          over_on (text ∷ []) says.Memory result (noted_is text noted) memory
          (memory_over (text ∷ []) some_current (hearing_one text got))

      memory_none : (result : Reply) → texts ≡ none → MayAsk provider a b → result ≡ says.Memory
          → IsCheckOver room tables key texts a b now result
      memory_none result noted (inl same) memory =
          over_on [] says.Memory result (noted ∙ empty) memory
          (memory_over [] tt (hearing_none [] (same ∙ sym (append-nil a.asked)) front_none))
      memory_none result noted (inr asked) memory =
          over_on [] says.Memory result (noted ∙ empty) memory
          (memory_over [] tt (hearing_none (provider ∷ []) asked front_one))

      over_by : (result : Reply) → IsUnmissed app reply result → Why
          → IsCheckOver room tables key texts a b now result
      over_by result (inl memory) (inl (inl given)) =
          memory_none result given.noted (inr given.gave.asked) memory
      over_by result (inr same) (inl (inl given)) =
          let is = replied_is given.named given.reasons given.gave reply given.replied in
          over_on [] (says.AllLinks provider given.reasons) result (given.noted ∙ empty) (same.0 ∙ is)
          (unheard_over given.named given.reasons given.gave
          (same.1 (subst (λ (r : Reply). is_missing r ≡ true) (sym is) refl)))
      over_by result (inl memory) (inl (inr (inl read))) =
          memory_one read.text result read.noted read.got memory
      over_by result (inr same) (inl (inr (inl read))) =
          over_on (read.text ∷ []) reply result (noted_is read.text read.noted) same.0
          (unread_over read.text read.got reply (record {
            text = read.text;
            noted = refl;
            got = read.got;
            reason = read.reason;
            refuses = read.refuses;
            other = read.other;
            replied = read.replied;
          }) refl)
      over_by result unmissed (inl (inr (inr unkept))) = at (memory_of unmissed) unkept.noted
        where
          memory_of : IsUnmissed app reply result → result ≡ says.Memory
          memory_of (inl memory) = memory
          memory_of (inr same) = same.0 ∙ unkept.replied

          at : result ≡ says.Memory
              → ((texts ≡ none) × MayAsk provider a b)
              ⊎ ((text : List ℕ) × (texts ≡ none ++ text ∷ [])
              × IsGot (FitsText MANIFEST_LIMIT) provider a b text)
              → IsCheckOver room tables key texts a b now result
          at memory (inl before) = memory_none result before.0 before.1 memory
          at memory (inr behind) = memory_one behind.0 result behind.1 behind.2 memory
      over_by result unmissed (inr other) = at unmissed other.replied
        where
          at : IsUnmissed app reply result
              → (reply ≡ says.Memory) ⊎ (reply ≡ says.IdentityDiffers other.deployment.identity.key)
              → IsCheckOver room tables key texts a b now result
          at (inl memory) replied = memory_one other.heard.text result other.heard.noted other.heard.got memory
          at (inr same) (inl memory) =
              memory_one other.heard.text result other.heard.noted other.heard.got (same.0 ∙ memory)
          at (inr same) (inr differ) =
              over_on (other.heard.text ∷ []) (says.IdentityDiffers other.deployment.identity.key)
              result (noted_is other.heard.text other.heard.noted) (same.0 ∙ differ)
              (other_over other.heard.text other.heard.got other.deployment other.heard.tells
              other.other)

      pub missed_to : (result : Prepared) → MissesTo key app reply result
          → IsCheckPrepared room tables key texts a b now result
      missed_to (to.Change made due) missed = ready_by made due missed no.why
      missed_to (to.Reply other) unmissed = over_by other unmissed no.why
