use Rattle.std.proofs.Common.{◌+◌, List, [], ◌∷◌, ap, sym, subst, ◌∙◌, ℕ, arith}
use Rattle.manifests.specs.declared.facts.FileEntry.{FileEntry}
use Rattle.manifests.specs.Files.{AreKnown}
use Rattle.manifests.proofs.KnownFiles.{locals_within, known_more}
use Rattle.manifests.proofs.files.Files.with.Goals as goal

pub overflow_add-data_files : goal.overflow_add-data_files
overflow_add-data_files c =
    let known = c.self.invariant.data_is in
    let most = locals_within c.self.inside.entries.items in
    let one = locals_within (c.args.entry ∷ []) in
    omega (arith, c.self.inside.entries.ok.0, c.one_if_data.ensures)

pub invariant_of-result : goal.invariant_of-result
invariant_of-result c =
    let n = c.self.inside.data_files in
    subst (λ (entries : List FileEntry). AreKnown entries c.insert.new.self (n + c.one_if_data.result)) (sym c.in_ok-push.ensures.items)
    (known_more _ c.args.entry _ _ n _ c.in_ok-name.name c.self.invariant (c.in_ok-name.ensures.ok ∙ c.as_str.ensures.value) c.in_ok-insert.ensures.updates (ap (λ (m : ℕ). n + m) c.one_if_data.ensures))
