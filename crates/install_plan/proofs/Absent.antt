-- The ends of a check where no view is current.
use Rattle.std.proofs.Common.{◌≡◌, ◌∙◌, inl, inr, refl, sym, ap, subst, ℕ, List, [], Option, None, Some}
use Rattle.std.specs.Prelude.{IfSome, option_and_then, slice_get}
use Rattle.std.proofs.lemmas.List.{append-nil}
use Rattle.small_types.specs.declared.room.Room.{Room}
use Rattle.identity.specs.declared.key.Key.{Key}
use Rattle.machine.specs.declared.app.AppState.{AppState}
use Rattle.machine.specs.declared.reply.Reply.TheVariants as says
use Rattle.machine.specs.CheckRow.{HearsOffer}
use Rattle.machine.specs.Current.{current_of}
use Rattle.machine.specs.Entries.{entry_of}
use Rattle.machine.specs.Shape.{Shape, shape_of}
use Rattle.machine.specs.Store.{Session, Store}
use Rattle.machine.specs.Valid.{Valid}
use Rattle.store_state.specs.Rows.{current_row}
use Rattle.store_state.specs.Shows.{Shows}
use Rattle.store_state.specs.Tables.{Tables, table_shape}
use Rattle.links.specs.Links.{LinksState}
use Rattle.fetcher.proofs.Sequence.{all_same}
use Rattle.install_plan.specs.Checks.{IsCheckOver}
use Rattle.install_plan.specs.Offers.{IsOfferText, OfferServed}
use Rattle.install_plan.proofs.Currents.{none_current, none_provided}
use Rattle.install_plan.proofs.Downs.{counts_none}

module _ (room : Room) (tables : Tables) (key : Key) (now : ℕ) (a : LinksState)
    (texts : List (List ℕ)) (none : texts ≡ []) where
  served_none : (shape : Shape) → current_of key shape.apps ≡ None
      → OfferServed key shape texts a a says.NotInstalled
  served_none shape gone = record {
    hearing = record {
      kept = all_same a;
      text = subst (λ (ts : List (List ℕ)). IfSome (slice_get ts 0) (IsOfferText key shape a a))
          (sym none) tt;
      asked = [];
      grown = sym (append-nil a.asked);
      front = λ all asks. (all, refl);
    };
    accounts = inl (gone, refl);
  }

  not_installed : ((image : List ℕ) (old : Session) → Shows room tables image old.store
      → Valid old.store → current_of key old.store.apps ≡ None)
      → IsCheckOver room tables key texts a a now says.NotInstalled
  not_installed absent = record {
    hears = subst (HearsOffer key (table_shape room tables)) (sym none) tt;
    kept = all_same a;
    still = refl;
    downs = counts_none refl;
    step = λ image old idle shows valid. let gone = absent image old shows valid in record {
      new = old;
      step = inl (inr (tt, inl ((gone, refl), refl)));
      served = served_none (shape_of old) gone;
      leaves = refl;
    };
  }

  pub no_view : current_row key tables ≡ None
      → IsCheckOver room tables key texts a a now says.NotInstalled
  no_view is = not_installed (λ image old shows valid. none_current shows key valid.ordered is)

  pub no_entry : entry_of key tables.apps ≡ None
      → IsCheckOver room tables key texts a a now says.NotInstalled
  no_entry is = not_installed (λ image old shows valid.
      ap (λ (s : Store). current_of key s.apps) shows.is
      ∙ ap (λ (o : Option AppState). option_and_then (λ (app : AppState). app.current) o) is)

  pub no_provider : (app : AppState) → entry_of key tables.apps ≡ Some app → app.provider ≡ None
      → IsCheckOver room tables key texts a a now says.NotInstalled
  no_provider app is lacks =
      not_installed (λ image old shows valid. none_provided shows key valid.ordered app is lacks)
