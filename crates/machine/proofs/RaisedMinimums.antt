-- Minimums once a version is required.
use Rattle.std.proofs.Common.{◌≡◌, ◌∙◌, inl, inr, refl, sym, ap, subst, ℕ, List, [], ◌∷◌, Option, Some, None}
use Rattle.std.specs.Prelude.{option_and_then, unwrap_or, IsSomeAnd}
use Rattle.std.specs.declared.cmp.Ordering.{Ordering}
use Rattle.std.specs.declared.cmp.Ordering.TheVariants.{Less, Equal, Greater}
use Rattle.std.proofs.lemmas.Cmp.{alike_right}
use Rattle.identity.specs.declared.key.Key.{Key}
use Rattle.identity.specs.Key.{key_text}
use Rattle.identity.specs.declared.version.Version.{Version}
use Rattle.identity.specs.Version.{IsBelow, greater_of}
use Rattle.identity.proofs.VersionLemmas.{IsBelow-irreflexive, greater_of-old}
use Rattle.machine.specs.declared.app.AppState.{AppState}
use Rattle.machine.specs.declared.command.Command.TheVariants.{Require}
use Rattle.machine.specs.declared.reply.Reply.TheVariants as says
use Rattle.machine.specs.Entries.{KeepsKeys, entry_at, entry_of, entry_or_fresh, fresh, key_cmp, with_entry}
use Rattle.machine.specs.Installed.{raised_by}
use Rattle.machine.specs.Machine.{Answers}
use Rattle.machine.specs.Minimums.{minimum_of, raised, raised_app}
use Rattle.machine.specs.RequireRow.{required}
use Rattle.machine.specs.Store.{Session}
use Rattle.machine.proofs.EntryOrder.{order, entry_of-with_entry, entry_of-other}

pub keeps : (version : Version) → KeepsKeys (raised_app version)
keeps version app = refl

-- ---- keys of one text have one entry

same_front : (o : Ordering) (app : AppState) (a b : Option AppState) → a ≡ b → entry_at o app a ≡ entry_at o app b
same_front o app a b same = ap (λ (rest : Option AppState). entry_at o app rest) same

pub entry_of-alike : (key other : Key) (apps : List AppState) → key_cmp key other ≡ Equal → entry_of other apps ≡ entry_of key apps
entry_of-alike key other [] equal = refl
entry_of-alike key other (app ∷ apps) equal =
    ap (λ (o : Ordering). entry_at o app (entry_of other apps)) (sym (alike_right order (key_text key) (key_text other) (key_text app.key) equal))
    ∙ same_front (key_cmp app.key key) app (entry_of other apps) (entry_of key apps) (entry_of-alike key other apps equal)

-- ---- the minimum of the key

pub minimum_or_fresh : (key : Key) (entry : Option AppState) → (unwrap_or entry (fresh key)).minimum ≡ option_and_then (λ (app : AppState). app.minimum) entry
minimum_or_fresh key None = refl
minimum_or_fresh key (Some app) = refl

pub minimum_of-required : (key : Key) (version : Version) (apps : List AppState) → minimum_of key (required key version apps) ≡ Some (raised (minimum_of key apps) version)
minimum_of-required key version apps =
    ap (λ (entry : Option AppState). option_and_then (λ (app : AppState). app.minimum) entry) (entry_of-with_entry key (raised_app version) (keeps version) apps)
    ∙ ap (λ (m : Option Version). Some (raised m version)) (minimum_or_fresh key (entry_of key apps))

-- ---- it is shown

shown_memory : {P : Type 0} (minimum : Version) → says.Minimum minimum ≡ says.Memory → P
shown_memory minimum e = absurd cc

shown_too_many : {P : Type 0} (minimum : Version) (what : _) (limit : ℕ) → says.Minimum minimum ≡ says.TooMany what limit → P
shown_too_many minimum what limit e = absurd cc

shown_table_full : {P : Type 0} (minimum : Version) (weight room : ℕ) → says.Minimum minimum ≡ says.TableFull weight room → P
shown_table_full minimum weight room e = absurd cc

shown_one : (a b : Version) → says.Minimum a ≡ says.Minimum b → a ≡ b
shown_one a b e = cc

pub minimum_shown : (now : ℕ) (heard : List (List ℕ)) (old : Session) (key : Key) (version minimum : Version) (new : Session) → Answers now heard old (Require key version) (says.Minimum minimum) new → minimum_of key new.store.apps ≡ Some minimum
minimum_shown now heard old key version minimum new (inl (inl memory)) = shown_memory minimum memory.0
minimum_shown now heard old key version minimum new (inl (inr (_, inl full))) = shown_too_many minimum _ _ full.0.1
minimum_shown now heard old key version minimum new (inl (inr (_, inr (_, inl heavy)))) = shown_table_full minimum _ _ heavy.0.2
minimum_shown now heard old key version minimum new (inl (inr (_, inr (_, inr none)))) = absurd none.1
minimum_shown now heard old key version minimum new (inr done) =
    ap (λ (s : Session). minimum_of key s.store.apps) done.1.1
    ∙ minimum_of-required key version old.store.apps
    ∙ ap Some (sym (shown_one minimum (raised (minimum_of key old.store.apps) version) done.1.0))

-- ---- it never falls

-- an entry has a minimum that is not below that version
abbrev pub Holds : Version → Option Version → Type 0
Holds minimum later = IsSomeAnd later (λ v. ¬ IsBelow v minimum)

pub holds_itself : (minimum : Version) (later : Option Version) → later ≡ Some minimum → Holds minimum later
holds_itself minimum later is = subst (Holds minimum) (sym is) (IsBelow-irreflexive minimum)

pub required_holds : (key k : Key) (version minimum : Version) (apps : List AppState) (o : Ordering) → key_cmp k key ≡ o → minimum_of key apps ≡ Some minimum → Holds minimum (minimum_of key (required k version apps))
required_holds key k version minimum apps Equal equal is =
    let own : minimum_of k apps ≡ Some minimum = ap (λ (e : Option AppState). option_and_then (λ (app : AppState). app.minimum) e) (sym (entry_of-alike k key apps equal)) ∙ is in
    let now : minimum_of key (required k version apps) ≡ Some (greater_of minimum version) =
    ap (λ (e : Option AppState). option_and_then (λ (app : AppState). app.minimum) e) (entry_of-alike k key (required k version apps) equal)
    ∙ minimum_of-required k version apps ∙ ap (λ (m : Option Version). Some (raised m version)) own
    in
    subst (Holds minimum) (sym now) (greater_of-old minimum version)
required_holds key k version minimum apps Less less is = holds_itself minimum _ (ap (λ (e : Option AppState). option_and_then (λ (app : AppState). app.minimum) e) (entry_of-other k (raised_app version) (keeps version) key (λ e. less_equal (sym less ∙ e)) apps) ∙ is)
  where
    less_equal : Less ≡ Equal → ⊥
    less_equal e = cc
required_holds key k version minimum apps Greater greater is = holds_itself minimum _ (ap (λ (e : Option AppState). option_and_then (λ (app : AppState). app.minimum) e) (entry_of-other k (raised_app version) (keeps version) key (λ e. greater_equal (sym greater ∙ e)) apps) ∙ is)
  where
    greater_equal : Greater ≡ Equal → ⊥
    greater_equal e = cc

-- ---- with a minimum that was heard

raised_holds : (heard : Option Version) (minimum : Version)
    → Holds minimum (raised_by heard (Some minimum))
raised_holds None minimum = IsBelow-irreflexive minimum
raised_holds (Some heard) minimum = greater_of-old minimum heard

module _ (key : Key) (f : AppState → AppState) (keeps_key : KeepsKeys f) (heard : Option Version)
    (raises : (app : AppState) → (f app).minimum ≡ raised_by heard app.minimum)
    (apps : List AppState) where
  abbrev of : Option AppState → Option Version
  of entry = option_and_then (λ (app : AppState). app.minimum) entry

  pub minimum_raised : minimum_of key (with_entry key f apps) ≡ raised_by heard (minimum_of key apps)
  minimum_raised =
      ap of (entry_of-with_entry key f keeps_key apps)
      ∙ raises (entry_or_fresh key apps)
      ∙ ap (raised_by heard) (minimum_or_fresh key (entry_of key apps))

  raised_at : (o : Ordering) (other : Key) (minimum : Version) → key_cmp key other ≡ o
      → minimum_of other apps ≡ Some minimum
      → Holds minimum (minimum_of other (with_entry key f apps))
  raised_at Equal other minimum equal is =
      let own : minimum_of key apps ≡ Some minimum =
      ap of (sym (entry_of-alike key other apps equal)) ∙ is in
      let new = ap of (entry_of-alike key other (with_entry key f apps) equal)
      ∙ minimum_raised ∙ ap (raised_by heard) own in
      subst (Holds minimum) (sym new) (raised_holds heard minimum)
  raised_at Less other minimum less is =
      holds_itself minimum _ (ap of
      (entry_of-other key f keeps_key other (λ e. apart (sym less ∙ e)) apps) ∙ is)
    where
      apart : Less ≡ Equal → ⊥
      apart e = cc
  raised_at Greater other minimum greater is =
      holds_itself minimum _ (ap of
      (entry_of-other key f keeps_key other (λ e. apart (sym greater ∙ e)) apps) ∙ is)
    where
      apart : Greater ≡ Equal → ⊥
      apart e = cc

  -- each minimum that held holds, or one that is not below it
  pub raised_minimum : (other : Key) (minimum : Version) → minimum_of other apps ≡ Some minimum
      → Holds minimum (minimum_of other (with_entry key f apps))
  raised_minimum other minimum is = raised_at (key_cmp key other) other minimum refl is
