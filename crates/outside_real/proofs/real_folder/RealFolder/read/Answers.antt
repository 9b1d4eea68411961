use Rattle.std.proofs.Common.{◌∙◌, List, ℕ, sym, subst}
use Rattle.std.specs.Prelude.{IfOk}
use Rattle.folders.specs.Found.{IsUnread, IsWithin}
use Rattle.outside_real.proofs.FolderTells.{handed_on}
use Rattle.outside_real.proofs.real_folder.RealFolder.read.Goals as goal

pub returns-clause-within : goal.returns-clause-within
returns-clause-within g c =
    handed_on (IsWithin c.args.limit c.from_vec-2.result) c.get_file-done.result c.kept.result c.kept.ensures
    (subst (λ (bytes : List ℕ). IfOk c.get_file-done.result (IsWithin c.args.limit bytes)) (sym c.from_vec-2.ensures) c.get_file-done.ensures.within)

pub returns-clause-unread : goal.returns-clause-unread
returns-clause-unread g c =
    let before = subst (λ (bytes : List ℕ). IfOk c.get_file-done.result (IsUnread bytes c.get_file-done.new.into.items)) (c.into_vec-bytes.ensures ∙ c.replace.ensures.value) c.get_file-done.ensures.unread in
    handed_on (IsUnread c.args.into.now c.from_vec-2.result) c.get_file-done.result c.kept.result c.kept.ensures
    (subst (λ (bytes : List ℕ). IfOk c.get_file-done.result (IsUnread c.args.into.now bytes)) (sym c.from_vec-2.ensures) before)
