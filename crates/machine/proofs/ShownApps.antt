-- What is listed and shown of applications.
use Rattle.std.proofs.Common.{◌≡◌, ◌≢◌, ◌∙◌, inl, inr, refl, sym, ap, subst, ℕ, List, [], ◌∷◌, map, Option, Some, None, ◌⊎◌, IsSome}
use Rattle.std.proofs.lemmas.Option.{none-some}
use Rattle.std.specs.Prelude.{option_and_then, option_map}
use Rattle.std.specs.declared.cmp.Ordering.TheVariants.{Less}
use Rattle.identity.specs.declared.key.Key.{Key}
use Rattle.identity.specs.Key.{IsKey}
use Rattle.machine.specs.declared.app.AppState.{AppState}
use Rattle.machine.specs.declared.command.Command.TheVariants.{Show}
use Rattle.machine.specs.declared.command.Command.TheVariants as asks
use Rattle.machine.specs.declared.reply.Reply.{Reply}
use Rattle.machine.specs.declared.reply.Reply.TheVariants as says
use Rattle.machine.specs.declared.rows.ListRow.{ListRow}
use Rattle.machine.specs.declared.rows.ShowRow.{ShowRow}
use Rattle.machine.specs.Current.{current_version, view_at}
use Rattle.machine.specs.Entries.{AreInOrder, entry_of, key_cmp}
use Rattle.machine.specs.LifeLaws.{IsListed, IsShown}
use Rattle.machine.specs.ListRow.{list_effect, list_row}
use Rattle.machine.specs.Machine.{Answers}
use Rattle.machine.specs.Previous.{numbered_version}
use Rattle.machine.specs.Shape.{BareView, Shape, bare_view, shape_of}
use Rattle.machine.specs.ShowRow.{ShowEffect, show_refusals, show_row}
use Rattle.machine.specs.Store.{Session, Store, session_over}
use Rattle.machine.specs.Valid.{IsApp, Valid}
use Rattle.machine.specs.Views.{View}
use Rattle.machine.proofs.FirstRefusal.{AllGive, given_reply}
use Rattle.machine.proofs.FirstFound.{value_of}
use Rattle.machine.proofs.Keys.{equal_keys}
use Rattle.machine.proofs.Leased.{entry_in}
use Rattle.machine.proofs.ChangedLists.{all_mapped}
use Rattle.machine.proofs.Members.{In, all_in, in_all, pairs_map}
use Rattle.machine.proofs.Numbered.{bare_numbered}
use Rattle.machine.proofs.Places.{own_entry, rising}
use Rattle.machine.proofs.Shortness.{short_key}

-- ---- lists

memory_listed : (rows : List ListRow) → says.Memory ≢ says.Listed rows
memory_listed rows e = cc

listed_one : (a b : List ListRow) → says.Listed a ≡ says.Listed b → a ≡ b
listed_one a b e = cc

list_done : (now : ℕ) (heard : List (List ℕ)) (old : Session) (rows : List ListRow)
    (new : Session) → Answers now heard old asks.List (says.Listed rows) new
    → list_effect old (says.Listed rows) new
list_done now heard old rows new (inl (inl memory)) = absurd (memory_listed rows (sym memory.0))
list_done now heard old rows new (inl (inr refused)) = absurd refused.1
list_done now heard old rows new (inr done) = done.1

same_keys : (shape : Shape) (apps : List AppState)
    → map (λ (row : ListRow). row.key) (map (list_row shape) apps)
    ≡ map (λ (app : AppState). app.key) apps
same_keys shape [] = refl
same_keys shape (app ∷ apps) = ap (λ (keys : List Key). app.key ∷ keys) (same_keys shape apps)

-- the version of an entry is that of its key
own_version : (store : Store) → AreInOrder store.apps → (app : AppState) → In app store.apps
    → numbered_version app.current (shape_of (session_over store)) ≡ current_version app.key (shape_of (session_over store))
own_version store ordered app there =
    sym (ap (λ (e : Option AppState). numbered_version
    (option_and_then (λ (a : AppState). a.current) e) (shape_of (session_over store)))
    (own_entry store.apps ordered app there))

listed_is : (store : Store) → AreInOrder store.apps
    → IsListed (map (list_row (shape_of (session_over store))) store.apps) store
listed_is store ordered = record {
  each = same_keys (shape_of (session_over store)) store.apps;
  order = pairs_map (list_row (shape_of (session_over store))) (λ (a b : AppState). key_cmp a.key b.key ≡ Less)
      (λ (a b : ListRow). key_cmp a.key b.key ≡ Less) store.apps (λ a b less. less)
      (λ i j d less within. rising store.apps i j d ordered less within);
  current = all_mapped (list_row (shape_of (session_over store)))
      (λ (app : AppState). numbered_version app.current (shape_of (session_over store))
      ≡ current_version app.key (shape_of (session_over store)))
      (λ (row : ListRow). row.current ≡ current_version row.key (shape_of (session_over store))) store.apps
      (λ app there is. is)
      (in_all (λ (app : AppState). numbered_version app.current (shape_of (session_over store))
      ≡ current_version app.key (shape_of (session_over store))) store.apps (own_version store ordered));
}

pub list_is : (now : ℕ) (heard : List (List ℕ)) (old : Session) (rows : List ListRow)
    (new : Session)
    → Valid old.store → Answers now heard old asks.List (says.Listed rows) new
    → IsListed rows old.store × (new ≡ old)
list_is now heard old rows new valid answers =
    let done = list_done now heard old rows new answers in (
      subst (λ (rs : List ListRow). IsListed rs old.store)
          (sym (listed_one rows (map (list_row (shape_of old)) old.store.apps) done.0))
          (listed_is old.store valid.ordered.order),
      done.1,
    )

pub list_granted : (now : ℕ) (heard : List (List ℕ)) (old : Session) (reply : Reply)
    (new : Session) → Answers now heard old asks.List reply new
    → ((rows : List ListRow) × (reply ≡ says.Listed rows)) ⊎ (reply ≡ says.Memory)
list_granted now heard old reply new (inl (inl memory)) = inr memory.0
list_granted now heard old reply new (inl (inr refused)) = absurd refused.1
list_granted now heard old reply new (inr done) = inl (_, done.1.0)

-- ---- what is shown

abbrev IsNoRow : Reply → Type 0
IsNoRow reply = (row : ShowRow) → ¬ (reply ≡ says.Shown row)

memory_shown : (row : ShowRow) → says.Memory ≡ says.Shown row → ⊥
memory_shown row e = cc

not_installed_shown : (row : ShowRow) → says.NotInstalled ≡ says.Shown row → ⊥
not_installed_shown row e = cc

shown_one : (a b : ShowRow) → says.Shown a ≡ says.Shown b → a ≡ b
shown_one a b e = cc

no_row : (key : Key) (shape : Shape) → AllGive IsNoRow (show_refusals key shape)
no_row key shape = ((λ r given row e. not_installed_shown row (sym given.1 ∙ e)), tt)

show_done : (now : ℕ) (heard : List (List ℕ)) (old : Session) (key : Key) (row : ShowRow)
    (new : Session) → Answers now heard old (Show key) (says.Shown row) new
    → ShowEffect key old (says.Shown row) new
show_done now heard old key row new (inl (inl memory)) = absurd (memory_shown row (sym memory.0))
show_done now heard old key row new (inl (inr refused)) =
    absurd (given_reply IsNoRow (show_refusals key (shape_of old)) old (says.Shown row) new
    (no_row key (shape_of old)) refused.1 row refl)
show_done now heard old key row new (inr done) = done.1

entries : (o : Option View)
    → option_map (λ (v : BareView). v.application.entry) (option_map bare_view o)
    ≡ option_map (λ (v : View). v.application.entry) o
entries None = refl
entries (Some view) = refl

module _ (key : Key) (store : Store) (app : AppState) (is_key : IsKey key) (valid : Valid store)
    (known : entry_of key store.apps ≡ Some app) where
  -- what an entry of the key has
  part_of : {A : Type 0} (part : Option AppState → A) → part (Some app) ≡ part (entry_of key store.apps)
  part_of part = ap part (sym known)

  abbrev number : Option AppState → Option ℕ
  number e = option_and_then (λ (a : AppState). a.current) e

  own_key : app.key ≡ key
  own_key =
      let of = entry_in key store.apps app known in
      let is = all_in (IsApp store.views) store.apps app valid.ordered.apps of.0 in
      equal_keys app.key key is.key (short_key is_key) of.1

  shown_is : IsShown key (show_row (shape_of (session_over store)) app) store
  shown_is = record {
    own = own_key;
    current = part_of (λ e. numbered_version (number e) (shape_of (session_over store)));
    previous = part_of (λ e. numbered_version (option_and_then (λ (a : AppState). a.previous) e)
        (shape_of (session_over store)));
    minimum = part_of (λ e. option_and_then (λ (a : AppState). a.minimum) e);
    offer = part_of (λ e. option_and_then (λ (a : AppState). a.offer) e);
    skipped = part_of (λ e. option_map (λ (a : AppState). a.skipped) e);
    excluded = part_of (λ e. option_and_then (λ (a : AppState). a.excluded) e);
    last_check = part_of (λ e. option_map (λ (a : AppState). a.last_check) e);
    checked = part_of (λ e. option_map (λ (a : AppState). a.checked) e);
    entry = ap (λ (o : Option BareView). option_map (λ (v : BareView). v.application.entry) o)
        (bare_numbered store app.current)
        ∙ entries (option_and_then (λ (n : ℕ). view_at n store.views) app.current)
        ∙ part_of (λ e. option_map (λ (v : View). v.application.entry)
        (option_and_then (λ (n : ℕ). view_at n store.views) (number e)));
    provider = part_of (λ e. option_and_then (λ (a : AppState). a.provider) e);
  }

pub show_is : (now : ℕ) (heard : List (List ℕ)) (old : Session) (key : Key) (row : ShowRow)
    (new : Session)
    → IsKey key → Valid old.store → Answers now heard old (Show key) (says.Shown row) new
    → IsShown key row old.store × (new ≡ old)
show_is now heard old key row new is_key valid answers =
    let done = show_done now heard old key row new answers in (
      subst (λ (r : ShowRow). IsShown key r old.store)
          (sym (shown_one row (show_row (shape_of old) done.app) done.replied))
          (shown_is key old.store done.app is_key valid done.known),
      done.is,
    )

pub show_granted : (now : ℕ) (heard : List (List ℕ)) (old : Session) (key : Key) (reply : Reply)
    (new : Session)
    → IsSome (entry_of key old.store.apps) → Answers now heard old (Show key) reply new
    → ((row : ShowRow) × (reply ≡ says.Shown row)) ⊎ (reply ≡ says.Memory)
show_granted now heard old key reply new known (inl (inl memory)) = inr memory.0
show_granted now heard old key reply new known (inl (inr (_, inl given))) =
    absurd (let app = value_of (entry_of key old.store.apps) known in
    none-some app.0 (sym given.0.0 ∙ app.1))
show_granted now heard old key reply new known (inl (inr (_, inr later))) = absurd later.1
show_granted now heard old key reply new known (inr done) = inl (_, done.1.replied)
