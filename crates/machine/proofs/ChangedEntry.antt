-- What a change of one entry leaves of every entry.
use Rattle.std.proofs.Common.{◌≡◌, ◌≢◌, ◌∙◌, refl, sym, ap, List, Option, Some, None}
use Rattle.std.specs.Prelude.{option_and_then, unwrap_or}
use Rattle.std.specs.declared.cmp.Ordering.{Ordering}
use Rattle.std.specs.declared.cmp.Ordering.TheVariants.{Less, Equal, Greater}
use Rattle.identity.specs.declared.key.Key.{Key}
use Rattle.machine.specs.declared.app.AppState.{AppState}
use Rattle.machine.specs.Entries.{KeepsKeys, entry_of, fresh, key_cmp, with_entry}
use Rattle.machine.proofs.EntryOrder.{entry_of-other, entry_of-with_entry}
use Rattle.machine.proofs.RaisedMinimums.{entry_of-alike}

pub less_apart : Less ≢ Equal
less_apart e = cc

pub greater_apart : Greater ≢ Equal
greater_apart e = cc

-- a part that f leaves, and that a fresh entry has not
module _ {X : Type 0} (part : AppState → Option X) (key : Key) (f : AppState → AppState)
    (keeps : KeepsKeys f) (same : (app : AppState) → part (f app) ≡ part app)
    (fresh_has : part (fresh key) ≡ None) where
  abbrev of : Option AppState → Option X
  of entry = option_and_then part entry

  made : (entry : Option AppState) → part (f (unwrap_or entry (fresh key))) ≡ of entry
  made None = same (fresh key) ∙ fresh_has
  made (Some app) = same app

  part_by : (o : Ordering) (apps : List AppState) (other : Key) → key_cmp key other ≡ o
      → of (entry_of other (with_entry key f apps)) ≡ of (entry_of other apps)
  part_by Equal apps other equal =
      ap of (entry_of-alike key other (with_entry key f apps) equal)
      ∙ ap of (entry_of-with_entry key f keeps apps)
      ∙ made (entry_of key apps)
      ∙ ap of (sym (entry_of-alike key other apps equal))
  part_by Less apps other less =
      ap of (entry_of-other key f keeps other (λ e. less_apart (sym less ∙ e)) apps)
  part_by Greater apps other greater =
      ap of (entry_of-other key f keeps other (λ e. greater_apart (sym greater ∙ e)) apps)

  pub same_part : (apps : List AppState) (other : Key)
      → option_and_then part (entry_of other (with_entry key f apps))
      ≡ option_and_then part (entry_of other apps)
  same_part apps other = part_by (key_cmp key other) apps other refl
