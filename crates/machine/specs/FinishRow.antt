-- finish L: the lease is gone.
use Rattle.std.specs.Prelude.{◌≡◌, ℕ, List, [], ◌∷◌, None}
use Rattle.machine.specs.declared.reply.Reply.{Reply}
use Rattle.machine.specs.declared.reply.Reply.TheVariants as says
use Rattle.machine.specs.Leases.{lease_of, without_lease}
use Rattle.machine.specs.Rows.{Refusal, exactly}
use Rattle.machine.specs.Shape.{Shape}
use Rattle.machine.specs.Store.{Session, Store}

-- refused where no lease has the number
abbrev pub finish_refusals : ℕ → Shape → List (Refusal Reply Session)
finish_refusals lease shape = exactly (lease_of lease shape.leases ≡ None) says.NoLease ∷ []

-- the store without that lease
abbrev pub finished : ℕ → Store → Store
finished lease old = record old { leases = without_lease lease old.leases }

-- the reply shows its number
abbrev pub finish_effect : ℕ → Session → Reply → Session → Type 0
finish_effect lease old reply new =
    (reply ≡ says.Finished lease) × (new ≡ record old { store = finished lease old.store })
