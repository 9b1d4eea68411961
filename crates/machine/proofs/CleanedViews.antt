-- What a clean leaves.
use Rattle.std.proofs.Common.{◌≡◌, ◌≢◌, ◌∙◌, ◌⊎◌, ◌↔◌, inl, inr, refl, sym, subst, ℕ, Bool, true, false, not, List, length, map, Contains, Some, IsSome, arith}
use Rattle.std.proofs.lemmas.Bool.{false≢true}
use Rattle.machine.specs.declared.app.AppState.{AppState}
use Rattle.machine.specs.declared.command.Command.TheVariants.{Clean}
use Rattle.machine.specs.declared.lease.Lease.{Lease}
use Rattle.machine.specs.declared.reply.Reply.{Reply}
use Rattle.machine.specs.declared.reply.Reply.TheVariants as says
use Rattle.machine.specs.CleanRow.{clean_effect, cleaned, removable}
use Rattle.machine.specs.Current.{view_at}
use Rattle.machine.specs.InUse.{IsInUse, is_in_use}
use Rattle.machine.specs.LifeLaws.{IsCleaned}
use Rattle.machine.specs.Machine.{Answers}
use Rattle.machine.specs.Shape.{BareView, Shape, shape_of}
use Rattle.machine.specs.Store.{Session, Store}
use Rattle.machine.specs.Valid.{IsApp, Ordered, Valid}
use Rattle.machine.specs.Views.{View}
use Rattle.machine.proofs.CleanedStores.{gone_count, kept_used, stayed, stays, used_at}
use Rattle.machine.proofs.FirstFound.{some_there}
use Rattle.machine.proofs.Leased.{own_view, previous_kept, view_some}
use Rattle.machine.proofs.Members.{all_in, contains_in, filter_in, in_contains, in_filter}
use Rattle.machine.proofs.ViewUse.{Names, in_any, is_used, used_is}

memory_cleaned : (gone : ℕ) → says.Memory ≢ says.Cleaned gone
memory_cleaned gone e = cc

cleaned_one : (a b : ℕ) → says.Cleaned a ≡ says.Cleaned b → a ≡ b
cleaned_one a b e = cc

clean_done : (now : ℕ) (heard : List (List ℕ)) (old : Session) (gone : ℕ) (new : Session)
    → Answers now heard old Clean (says.Cleaned gone) new
    → clean_effect old (says.Cleaned gone) new
clean_done now heard old gone new (inl (inl memory)) = absurd (memory_cleaned gone (sym memory.0))
clean_done now heard old gone new (inl (inr refused)) = absurd refused.1
clean_done now heard old gone new (inr done) = done.1

-- a view that is in use is kept
used_kept : (number : ℕ) (store : Store) → Ordered store
    → IsInUse number store.apps store.leases
    → (view : View) × (view_at number store.views ≡ Some view)
used_kept number store was (inl some) =
    let app = in_any (Names number) store.apps some in
    let own = all_in (IsApp store.views) store.apps app.0 was.apps app.1 in
    by app.0 own app.2
  where
    by : (app : AppState) → IsApp store.views app → Names number app
        → (view : View) × (view_at number store.views ≡ Some view)
    by app own (inl current) = own_view store.views app number own current
    by app own (inr previous) = previous_kept store.views app number own previous
used_kept number store was (inr some) =
    let lease = in_any (λ (l : Lease). l.view ≡ number) store.leases some in
    let named = all_in (λ (l : Lease). Contains (map (λ (v : View). v.number) store.views) l.view)
    store.leases lease.0 was.leased lease.1 in
    view_some number store.views
    (subst (λ (n : ℕ). Contains (map (λ (v : View). v.number) store.views) n) lease.2 named)

module _ (old : Store) (was : Ordered old) where
  there : (number : ℕ) → IsInUse number old.apps old.leases
      → IsSome (view_at number (cleaned old).views)
  there number used =
      let view = used_kept number old was used in
      some_there (view_at number (cleaned old).views) view.0 (used_at old number used ∙ view.1)

pub clean_is : (now : ℕ) (heard : List (List ℕ)) (old : Session) (gone : ℕ) (new : Session)
    → Valid old.store → Answers now heard old Clean (says.Cleaned gone) new
    → IsCleaned gone old new
clean_is now heard old gone new valid answers =
    let done = clean_done now heard old gone new answers in
    let was = valid.ordered in
    let shown = cleaned_one gone (length (removable (shape_of old))) done.0 in
    subst (λ (s : Session). IsCleaned gone old s) (sym done.1) (record {
      kept = λ view. (
        (λ is. (let kept = stayed old.store view
            (in_contains (cleaned old.store).views view is) in
            (contains_in old.store.views view kept.0, kept.1))),
        (λ is. contains_in (cleaned old.store).views view
            (stays old.store view (in_contains old.store.views view is.0) is.1)),
      );
      each = λ number. (kept_used old.store number, there old.store was number);
      same = λ number is. used_at old.store number is;
      count = omega (arith, shown, gone_count old.store);
      rest = refl;
    })

-- ---- it is never refused

pub clean_granted : (now : ℕ) (heard : List (List ℕ)) (old : Session) (reply : Reply)
    (new : Session) → Answers now heard old Clean reply new
    → ((gone : ℕ) × (reply ≡ says.Cleaned gone)) ⊎ (reply ≡ says.Memory)
clean_granted now heard old reply new (inl (inl memory)) = inr memory.0
clean_granted now heard old reply new (inl (inr refused)) = absurd refused.1
clean_granted now heard old reply new (inr done) = inl (_, done.1.0)

-- ---- which views are removable

module _ (shape : Shape) (number : ℕ) where
  abbrev Unused : Type 0
  Unused = ¬ IsInUse number shape.apps shape.leases

  abbrev test : ℕ → Bool
  test n = not (is_in_use n shape.apps shape.leases)

  unused : (b : Bool) → is_in_use number shape.apps shape.leases ≡ b → Unused → not b ≡ true
  unused true is free = absurd (free (used_is number shape.apps shape.leases is))
  unused false is free = refl

  free_of : (b : Bool) → is_in_use number shape.apps shape.leases ≡ b → not b ≡ true → Unused
  free_of true is passes = absurd (false≢true passes)
  free_of false is passes = λ in_use.
      false≢true (sym is ∙ is_used number shape.apps shape.leases in_use)

  pub removable_unused : Contains (removable shape) number
      ↔ (Contains (map (λ (view : BareView). view.number) shape.views) number
      × ¬ IsInUse number shape.apps shape.leases)
  removable_unused =
      let numbers = map (λ (view : BareView). view.number) shape.views in (
        λ is. (let kept = filter_in test numbers number
            (in_contains (removable shape) number is) in (
              contains_in numbers number kept.1,
              free_of (is_in_use number shape.apps shape.leases) refl kept.0,
            )),
        λ is.
            contains_in (removable shape) number (in_filter test numbers number
            (unused (is_in_use number shape.apps shape.leases) refl is.1)
            (in_contains numbers number is.0)),
      )
