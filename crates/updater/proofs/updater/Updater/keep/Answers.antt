use Rattle.std.proofs.Common.{◌∙◌, ◌++◌, ℕ, List, subst, sym}
use Rattle.std.specs.List.Sorted.{IsPermutation}
use Rattle.std.proofs.lemmas.List.Sorted.{IsPermutation-refl}
use Rattle.table_files.specs.Held.{held_by}
use Rattle.updater.specs.KeepsChange.{KeepsChange, MayKeep}
use Rattle.updater.specs.Shown.{Updater}
use Rattle.updater.proofs.BlockUse.{uses_none}
use Rattle.updater.proofs.updater.Updater.keep.Goals as goal

pub keep_files-requires-clause-kept : goal.keep_files-requires-clause-kept
keep_files-requires-clause-kept g c = c.self.invariant.0

pub keep_files-requires-clause-rooms : goal.keep_files-requires-clause-rooms
keep_files-requires-clause-rooms g c = c.self.invariant.1

pub keep_files-requires-clause-may : goal.keep_files-requires-clause-may
keep_files-requires-clause-may g c = subst (λ (u : Updater). MayKeep u c.args.change) (sym c.self.view_is) c.requires.may

pub keep_files-requires-clause-blocks : goal.keep_files-requires-clause-blocks
keep_files-requires-clause-blocks g c =
    uses_none c.self.inside.files c.self.inside.room (held_by c.self.inside.state) c.from_vec-none.result (c.from_vec-none.ensures ∙ c.new.ensures.items) c.self.invariant.2

pub keep_files-requires-clause-same : goal.keep_files-requires-clause-same
keep_files-requires-clause-same g c =
    subst (λ (l : List ℕ). IsPermutation c.from_vec-none.result (l ++ c.from_vec-none.result)) (sym c.requires.none) (IsPermutation-refl c.from_vec-none.result)

pub invariant_of-self : goal.invariant_of-self
invariant_of-self g c = (c.keep_files.ensures.kept, c.keep_files.ensures.rooms, c.keep_files.ensures.blocks)

pub returns : goal.returns
returns g c =
    subst (λ (u : Updater). KeepsChange g.D.Disk c.args.change u c.args.disk.now c.keep_files.result
    (record { log = c.keep_files.new.log; room = c.self.inside.room; state = c.keep_files.new.state }) c.keep_files.new.disk)
    c.self.view_is c.keep_files.ensures.makes
