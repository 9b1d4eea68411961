-- A rollback that leaves a view in no use, and a clean that takes it.
use Rattle.std.proofs.Common.{◌≡◌, ◌∙◌, inr, refl, sym, ap, subst, ℕ, List, [], ◌∷◌, length, Option, Some, None, IsSome, arith}
use Rattle.std.specs.Prelude.{option_and_then}
use Rattle.std.proofs.lemmas.Cmp.{tied_itself}
use Rattle.std.proofs.lemmas.Option.{none-some}
use Rattle.identity.specs.declared.version.Version.{Version}
use Rattle.identity.specs.Key.{key_text}
use Rattle.machine.specs.declared.app.AppState.{AppState}
use Rattle.machine.specs.declared.reply.Reply.TheVariants as says
use Rattle.machine.specs.CleanRow.{cleaned, removable}
use Rattle.machine.specs.Current.{current_of, current_version, current_view}
use Rattle.machine.specs.Entries.{entry_of}
use Rattle.machine.specs.LifeLaws.{IsLeft}
use Rattle.machine.specs.Minimums.{minimum_of}
use Rattle.machine.specs.Previous.{numbered_version, previous_of, previous_version}
use Rattle.machine.specs.RollbackRow.{rolled_back, rolled_back_app}
use Rattle.machine.specs.Shape.{shape_of}
use Rattle.machine.specs.Sound.{Sound}
use Rattle.machine.specs.Store.{Session, Store, booted, session_over}
use Rattle.machine.specs.Views.{version_of}
use Rattle.machine.proofs.EntryOrder.{order}
use Rattle.machine.proofs.Example as kept
use Rattle.machine.proofs.KeptStores.{booted_valid, same_views_sound}

-- the store of the example after another boot, so that no view is leased
abbrev old : Store
old = booted 1 kept.store

is_sound : Sound old
is_sound =
    same_views_sound kept.store old refl (booted_valid 1 kept.store (omega arith) kept.store_is_valid)
    kept.store_is_sound

known : entry_of kept.key (kept.app ∷ []) ≡ Some kept.app
known = rw (tied_itself order (key_text kept.key)) refl

-- what the entry has
has : {X : Type 0} (part : AppState → Option X)
    → option_and_then part (entry_of kept.key old.apps) ≡ part kept.app
has part = ap (λ (e : Option AppState). option_and_then part e) known

abbrev have : Version
have = version_of kept.second

abbrev back : AppState
back = rolled_back_app have kept.app

abbrev mid : Store
mid = rolled_back kept.key have old

apps_are : mid.apps ≡ back ∷ []
apps_are = rw (tied_itself order (key_text kept.key)) refl

current : current_version kept.key (shape_of (session_over old)) ≡ Some have
current = ap (λ (o : Option ℕ). numbered_version o (shape_of (session_over old))) (has (λ a. a.current))

previous : previous_version kept.key (shape_of (session_over old)) ≡ Some (version_of kept.first)
previous = ap (λ (o : Option ℕ). numbered_version o (shape_of (session_over old))) (has (λ a. a.previous))

some_apart : {X : Type 0} (o : Option X) (x : X) → o ≡ Some x → o ≡ None → ⊥
some_apart o x is none = none-some x (sym none ∙ is)

gone : removable (shape_of (session_over mid)) ≡ 2 ∷ []
gone = ap (λ (apps : List AppState). removable (record (shape_of (session_over mid)) { apps = apps })) apps_are

there : current_view kept.key (cleaned mid) ≡ Some kept.first
there =
    ap (λ (apps : List AppState). current_view kept.key (cleaned (record mid { apps = apps }))) apps_are
    ∙ rw (tied_itself order (key_text kept.key)) refl

pub may_go : (a b c : Session) × IsLeft a b c
may_go = (
  session_over old,
  session_over mid,
  session_over (cleaned mid),
  record {
    sound = is_sound;
    key = kept.key;
    version = version_of kept.first;
    back = inr (
      (
        tt,
        (
          some_apart (current_of kept.key old.apps) 2 (has (λ a. a.current)),
          (
            some_apart (previous_of kept.key old.apps) 1 (has (λ a. a.previous)),
            (
              (λ minimum below. some_apart (minimum_of kept.key old.apps) minimum below.0
                  (has (λ a. a.minimum))),
              tt,
            ),
          ),
        ),
      ),
      record {
        have = have;
        current = current;
        version = version_of kept.first;
        previous = previous;
        replied = refl;
        is = refl;
      },
    );
    clean = inr ((tt, tt), (ap (λ (ns : List ℕ). says.Cleaned (length ns)) (sym gone), refl));
    current = subst IsSome (sym there) refl;
  },
)
