-- clean: the views that are not in use are gone, with their data.
use Rattle.std.specs.Prelude.{◌≡◌, ℕ, not, List, [], filter, length, map}
use Rattle.machine.specs.declared.reply.Reply.{Reply}
use Rattle.machine.specs.declared.reply.Reply.TheVariants as says
use Rattle.machine.specs.InUse.{is_in_use}
use Rattle.machine.specs.Rows.{Refusal}
use Rattle.machine.specs.Shape.{Shape, shape_of}
use Rattle.machine.specs.Store.{Session, Store}

-- it is never refused
abbrev pub clean_refusals : List (Refusal Reply Session)
clean_refusals = []

-- the numbers of the kept views that are neither current nor previous of any application nor
-- leased, in their order
abbrev pub removable : Shape → List ℕ
removable shape =
    filter (λ number. not (is_in_use number shape.apps shape.leases))
    (map (λ view. view.number) shape.views)

-- the store without these views, and so without their files
abbrev pub cleaned : Store → Store
cleaned old = record old {
  views = filter (λ view. is_in_use view.number old.apps old.leases) old.views;
}

-- the reply shows how many are gone
abbrev pub clean_effect : Session → Reply → Session → Type 0
clean_effect old reply new =
    (reply ≡ says.Cleaned (length (removable (shape_of old))))
    × (new ≡ record old { store = cleaned old.store })
