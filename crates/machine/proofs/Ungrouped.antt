-- The files of a group as files without one: an installation of them fetches what the group does.
use Rattle.std.proofs.Common.{◌≡◌, ◌∙◌, ◌&&◌, ◌||◌, refl, sym, ap, ℕ, Bool, true, false, not, List, [], ◌∷◌, map, All, None}
use Rattle.std.specs.Prelude.{sum_by}
use Rattle.std.proofs.lemmas.Bool.{and_parts}
use Rattle.std.proofs.lemmas.List.Elements.{All-head, All-tail}
use Rattle.manifests.specs.declared.facts.Application.{Application}
use Rattle.manifests.specs.declared.facts.FileEntry.{FileEntry}
use Rattle.machine.specs.Blocks.{blocks_of, standing_files}
use Rattle.machine.specs.Groups.{group_files, group_need, group_wanted, is_group, is_in, missing_beside}
use Rattle.machine.specs.Shape.{BareView}
use Rattle.machine.specs.Views.{is_required, same_content}
use Rattle.machine.specs.Wanted.{is_held, wanted_beside}
use Rattle.machine.proofs.Members.{filter_in, in_all, sum_map}
use Rattle.machine.proofs.MissingFiles.{are_missing, passes_over, takes}
use Rattle.machine.proofs.WantedFiles.{passes_over as wanted_over, takes_program, was_false}

abbrev pub ungrouped : FileEntry → FileEntry
ungrouped entry = record entry { group = None }

-- ---- its content is the same

pub held_ungrouped : (held : List FileEntry) (entry : FileEntry)
    → is_held held (ungrouped entry) ≡ is_held held entry
held_ungrouped held entry = refl

pub ungrouped_held : (held : List FileEntry) (entry : FileEntry)
    → is_held (map ungrouped held) entry ≡ is_held held entry
ungrouped_held [] entry = refl
ungrouped_held (h ∷ held) entry =
    ap (λ (b : Bool). same_content entry h || b) (ungrouped_held held entry)

-- ---- what is wanted of program files

module _ (held others : List FileEntry) (same : (x : FileEntry) → is_held held x ≡ is_held others x)
    (e : FileEntry) (es : List FileEntry) (program : e.local ≡ false) where
  is_so : (b : Bool) → is_held others e ≡ b
      → (is_required (ungrouped e) && not (is_held held (ungrouped e))) ≡ not b
  is_so b is =
      ap (λ (l : Bool). (not l && true) && not (is_held held (ungrouped e))) program
      ∙ ap not (same e ∙ is)

  first_wanted : (b : Bool) → is_held others e ≡ b
      → wanted_beside held (map ungrouped es) ≡ map ungrouped (missing_beside others es)
      → wanted_beside (ungrouped e ∷ held) (map ungrouped es)
      ≡ map ungrouped (missing_beside (e ∷ others) es)
      → wanted_beside held (map ungrouped (e ∷ es))
      ≡ map ungrouped (missing_beside others (e ∷ es))
  first_wanted true is rest more =
      wanted_over held (ungrouped e) (map ungrouped es) program (is_so true is)
      ∙ rest
      ∙ ap (map ungrouped) (sym (passes_over others e es is))
  first_wanted false is rest more =
      takes_program held (ungrouped e) (map ungrouped es) program
      (ap (λ (l : Bool). not l && true) program) (same e ∙ is)
      ∙ ap (λ (xs : List FileEntry). ungrouped e ∷ xs) more
      ∙ ap (map ungrouped) (sym (takes others e es is))

-- beside files of the same contents
pub wanted_ungrouped : (es held others : List FileEntry)
    → ((x : FileEntry) → is_held held x ≡ is_held others x)
    → All (λ (entry : FileEntry). entry.local ≡ false) es
    → wanted_beside held (map ungrouped es) ≡ map ungrouped (missing_beside others es)
wanted_ungrouped [] held others same programs = refl
wanted_ungrouped (e ∷ es) held others same programs =
    let rest = All-tail (λ (entry : FileEntry). entry.local ≡ false) e es programs in
    first_wanted held others same e es
    (All-head (λ (entry : FileEntry). entry.local ≡ false) e es programs) (is_held others e) refl
    (wanted_ungrouped es held others same rest)
    (wanted_ungrouped es (ungrouped e ∷ held) (e ∷ others)
    (λ x. ap (λ (b : Bool). same_content x e || b) (same x)) rest)

-- ---- of a group

pub group_programs : (group : List ℕ) (a : Application)
    → All (λ (entry : FileEntry). entry.local ≡ false) (group_files group a)
group_programs group a =
    in_all (λ (entry : FileEntry). entry.local ≡ false) (group_files group a) (λ entry there.
    was_false entry.local (and_parts (not entry.local) (is_group group entry.group)
    (filter_in (is_in group) a.files entry there).0).0)

pub group_ungrouped : (views : List BareView) (group : List ℕ) (a : Application)
    → wanted_beside (standing_files views) (map ungrouped (group_files group a))
    ≡ map ungrouped (group_wanted views group a)
group_ungrouped views group a =
    wanted_ungrouped (group_files group a) (standing_files views) (standing_files views)
    (λ x. refl) (group_programs group a)

-- its need is the blocks of what is wanted so
pub need_ungrouped : (views : List BareView) (group : List ℕ) (a : Application)
    → sum_by (λ (entry : FileEntry). blocks_of entry.size)
    (wanted_beside (standing_files views) (map ungrouped (group_files group a)))
    ≡ group_need views group a
need_ungrouped views group a =
    ap (λ (es : List FileEntry). sum_by (λ (entry : FileEntry). blocks_of entry.size) es)
    (group_ungrouped views group a)
    ∙ sum_map ungrouped (λ (entry : FileEntry). blocks_of entry.size) (group_wanted views group a)
    ∙ (are_missing views group a).blocks
