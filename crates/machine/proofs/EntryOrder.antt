-- Entries in order of their keys, once one of them is changed.
use Rattle.std.proofs.Common.{◌≡◌, ◌≢◌, ◌∙◌, ◌+◌, suc, List, [], ◌∷◌, length, All, Option, Some, None, refl, sym, ap, subst, arith}
use Rattle.std.specs.Prelude.{unwrap_or}
use Rattle.std.specs.Cmp.{IsTotalOrder}
use Rattle.std.specs.Cmp.Lexicographic.{nat_list_cmp_total}
use Rattle.std.specs.Ordering.{ordering_reverse}
use Rattle.std.specs.declared.cmp.Ordering.{Ordering}
use Rattle.std.specs.declared.cmp.Ordering.TheVariants.{Less, Equal, Greater}
use Rattle.std.proofs.lemmas.Cmp.{tied_itself}
use Rattle.std.proofs.lemmas.List.Elements.{All-nil, All-cons, All-head, All-tail, All-weaker}
use Rattle.identity.specs.declared.key.Key.{Key}
use Rattle.identity.specs.Key.{key_text}
use Rattle.identity.specs.Printed.{text_cmp}
use Rattle.machine.specs.declared.app.AppState.{AppState}
use Rattle.machine.specs.Entries.{AreInOrder, IsBelowAll, KeepsKeys, entry_at, entry_of, entry_or_fresh, fresh, key_cmp, with_entry, with_entry_at}

-- printed keys are ordered as texts
pub order : IsTotalOrder text_cmp
order = nat_list_cmp_total

flip : (a b : Key) → key_cmp a b ≡ Greater → key_cmp b a ≡ Less
flip a b greater = order.antisymm (key_text b) (key_text a) ∙ ap ordering_reverse greater

flop : (a b : Key) → key_cmp a b ≡ Less → key_cmp b a ≡ Greater
flop a b less = order.antisymm (key_text b) (key_text a) ∙ ap ordering_reverse less

module _ (key : Key) (f : AppState → AppState) (keeps : KeepsKeys f) where
  -- what f makes compares as what it was made of
  made_cmp : (app : AppState) (other : Key) → key_cmp (f app).key other ≡ key_cmp app.key other
  made_cmp app other = ap (λ (k : Key). key_cmp k other) (keeps app)

  cmp_made : (low : Key) (app : AppState) → key_cmp low (f app).key ≡ key_cmp low app.key
  cmp_made low app = ap (λ (k : Key). key_cmp low k) (keeps app)

  new_is : key_cmp (f (fresh key)).key key ≡ Equal
  new_is = made_cmp (fresh key) key ∙ tied_itself order (key_text key)

  -- ---- order

  below_at : (o : Ordering) (low : Key) (app : AppState) (apps rest : List AppState) → key_cmp low key ≡ Less → IsBelowAll low (app ∷ apps) → IsBelowAll low rest → IsBelowAll low (with_entry_at o key f app apps rest)
  below_at Less low app apps rest less all others = (all.0, others)
  below_at Equal low app apps rest less all others = (cmp_made low app ∙ all.0, all.1)
  below_at Greater low app apps rest less all others = (cmp_made low (fresh key) ∙ less, all)

  below_with : (low : Key) (apps : List AppState) → key_cmp low key ≡ Less → IsBelowAll low apps → IsBelowAll low (with_entry key f apps)
  below_with low [] less all = (cmp_made low (fresh key) ∙ less, tt)
  below_with low (app ∷ apps) less all = below_at (key_cmp app.key key) low app apps (with_entry key f apps) less all (below_with low apps less all.1)

  lower : (low high : Key) (apps : List AppState) → key_cmp low high ≡ Less → IsBelowAll high apps → IsBelowAll low apps
  lower low high [] less all = tt
  lower low high (app ∷ apps) less all = (order.trans (key_text low) (key_text high) (key_text app.key) less all.0, lower low high apps less all.1)

  order_at : (o : Ordering) (app : AppState) (apps rest : List AppState) → key_cmp app.key key ≡ o → (key_cmp app.key key ≡ Less → IsBelowAll app.key rest) → AreInOrder (app ∷ apps) → AreInOrder rest → AreInOrder (with_entry_at o key f app apps rest)
  order_at Less app apps rest is below ordered others = (below is, others)
  order_at Equal app apps rest is below ordered others = (subst (λ (k : Key). IsBelowAll k apps) (sym (keeps app)) ordered.0, ordered.1)
  order_at Greater app apps rest is below ordered others =
      let less : key_cmp key app.key ≡ Less = flip app.key key is in
      (subst (λ (k : Key). IsBelowAll k (app ∷ apps)) (sym (keeps (fresh key))) (less, lower key app.key apps less ordered.0), ordered)

  pub order-with_entry : (apps : List AppState) → AreInOrder apps → AreInOrder (with_entry key f apps)
  order-with_entry [] ordered = (tt, tt)
  order-with_entry (app ∷ apps) ordered = order_at (key_cmp app.key key) app apps (with_entry key f apps) refl (λ less. below_with app.key apps less ordered.0) ordered (order-with_entry apps ordered.1)

  -- ---- the entry of the key

  made_at : (o : Ordering) (app : AppState) (apps rest : List AppState) (others : Option AppState) → key_cmp app.key key ≡ o → entry_of key rest ≡ Some (f (unwrap_or others (fresh key))) → entry_of key (with_entry_at o key f app apps rest) ≡ Some (f (unwrap_or (entry_at o app others) (fresh key)))
  made_at Less app apps rest others is made = rw is made
  made_at Equal app apps rest others is made = let same : key_cmp (f app).key key ≡ Equal = made_cmp app key ∙ is in rw same refl
  made_at Greater app apps rest others is made = rw new_is refl

  pub entry_of-with_entry : (apps : List AppState) → entry_of key (with_entry key f apps) ≡ Some (f (entry_or_fresh key apps))
  entry_of-with_entry [] = rw new_is refl
  entry_of-with_entry (app ∷ apps) = made_at (key_cmp app.key key) app apps (with_entry key f apps) (entry_of key apps) refl (entry_of-with_entry apps)

  -- ---- the entries of other keys

  module _ (other : Key) (apart : key_cmp key other ≢ Equal) where
    same_at : (o : Ordering) (a b : AppState) (rest : Option AppState) → o ≢ Equal → entry_at o a rest ≡ entry_at o b rest
    same_at Less a b rest differ = refl
    same_at Equal a b rest differ = absurd (differ refl)
    same_at Greater a b rest differ = refl

    -- in front of a greater key
    front : (o : Ordering) (new app : AppState) (apps : List AppState) → key_cmp key other ≡ o → key_cmp key app.key ≡ Less → entry_at o new (entry_of other (app ∷ apps)) ≡ entry_of other (app ∷ apps)
    front Less new app apps is less = refl
    front Equal new app apps is less = absurd (apart is)
    front Greater new app apps is less =
        let above : key_cmp app.key other ≡ Greater = flop other app.key (order.trans (key_text other) (key_text key) (key_text app.key) (flip key other is) less) in
        rw above refl

    alone : (o : Ordering) (new : AppState) → key_cmp key other ≡ o → entry_at o new None ≡ None
    alone Less new is = refl
    alone Equal new is = absurd (apart is)
    alone Greater new is = refl

    new_cmp : key_cmp (f (fresh key)).key other ≡ key_cmp key other
    new_cmp = made_cmp (fresh key) other

    other_at : (o : Ordering) (app : AppState) (apps rest : List AppState) → key_cmp app.key key ≡ o → entry_of other rest ≡ entry_of other apps → entry_of other (with_entry_at o key f app apps rest) ≡ entry_of other (app ∷ apps)
    other_at Less app apps rest is same = ap (λ (r : Option AppState). entry_at (key_cmp app.key other) app r) same
    other_at Equal app apps rest is same =
        let like : key_cmp app.key other ≡ key_cmp key other = order.congr (key_text app.key) (key_text key) (key_text other) is in
        ap (λ (o : Ordering). entry_at o (f app) (entry_of other apps)) (made_cmp app other)
        ∙ same_at (key_cmp app.key other) (f app) app (entry_of other apps) (λ e. apart (sym like ∙ e))
    other_at Greater app apps rest is same =
        ap (λ (o : Ordering). entry_at o (f (fresh key)) (entry_of other (app ∷ apps))) new_cmp
        ∙ front (key_cmp key other) (f (fresh key)) app apps refl (flip app.key key is)

    pub entry_of-other : (apps : List AppState) → entry_of other (with_entry key f apps) ≡ entry_of other apps
    entry_of-other [] = ap (λ (o : Ordering). entry_at o (f (fresh key)) None) new_cmp ∙ alone (key_cmp key other) (f (fresh key)) refl
    entry_of-other (app ∷ apps) = other_at (key_cmp app.key key) app apps (with_entry key f apps) refl (entry_of-other apps)

  -- ---- how many there are

  known_at : (o : Ordering) (app : AppState) (apps rest : List AppState) (others : Option AppState) (known : AppState) → (others ≡ Some known → length rest ≡ length apps) → entry_at o app others ≡ Some known → length (with_entry_at o key f app apps rest) ≡ length (app ∷ apps)
  known_at Less app apps rest others known long is = ap suc (long is)
  known_at Equal app apps rest others known long is = refl
  known_at Greater app apps rest others known long is = absurd cc

  -- a known key leaves as many
  pub length-with_known : (apps : List AppState) (known : AppState) → entry_of key apps ≡ Some known → length (with_entry key f apps) ≡ length apps
  length-with_known [] known is = absurd cc
  length-with_known (app ∷ apps) known is = known_at (key_cmp app.key key) app apps (with_entry key f apps) (entry_of key apps) known (length-with_known apps known) is

  new_at : (o : Ordering) (app : AppState) (apps rest : List AppState) (others : Option AppState) → (others ≡ None → length rest ≡ suc (length apps)) → entry_at o app others ≡ None → length (with_entry_at o key f app apps rest) ≡ suc (length (app ∷ apps))
  new_at Less app apps rest others long new = ap suc (long new)
  new_at Equal app apps rest others long new = absurd cc
  new_at Greater app apps rest others long new = refl

  length_new : (apps : List AppState) → entry_of key apps ≡ None → length (with_entry key f apps) ≡ suc (length apps)
  length_new [] new = refl
  length_new (app ∷ apps) new = new_at (key_cmp app.key key) app apps (with_entry key f apps) (entry_of key apps) (length_new apps) new

  -- an unknown key leaves one more
  pub length-with_new : (apps : List AppState) → entry_of key apps ≡ None → length (with_entry key f apps) ≡ length apps + 1
  length-with_new apps new = omega (arith, length_new apps new)

  -- ---- what is true of each

  module _ (P Q : AppState → Type 0) (new : Q (f (fresh key))) (changed : (app : AppState) → key_cmp app.key key ≡ Equal → P app → Q (f app)) (kept : (app : AppState) → P app → Q app) where
    each_at : (o : Ordering) (app : AppState) (apps rest : List AppState) → key_cmp app.key key ≡ o → All P (app ∷ apps) → All Q rest → All Q (with_entry_at o key f app apps rest)
    each_at Less app apps rest is all others = All-cons Q app rest (kept app (All-head P app apps all)) others
    each_at Equal app apps rest is all others = All-cons Q (f app) apps (changed app is (All-head P app apps all)) (All-weaker P Q kept apps (All-tail P app apps all))
    each_at Greater app apps rest is all others = All-cons Q (f (fresh key)) (app ∷ apps) new (All-weaker P Q kept (app ∷ apps) all)

    -- of what f makes of the entry of the key, and of each other
    pub All-with_changed : (apps : List AppState) → All P apps → All Q (with_entry key f apps)
    All-with_changed [] all = All-cons Q (f (fresh key)) [] new (All-nil Q)
    All-with_changed (app ∷ apps) all = each_at (key_cmp app.key key) app apps (with_entry key f apps) refl all (All-with_changed apps (All-tail P app apps all))

  pub All-with_entry : (P : AppState → Type 0) → P (f (fresh key)) → ((app : AppState) → P app → P (f app)) → (apps : List AppState) → All P apps → All P (with_entry key f apps)
  All-with_entry P new kept apps all = All-with_changed P P new (λ app is holds. kept app holds) (λ app holds. holds) apps all
