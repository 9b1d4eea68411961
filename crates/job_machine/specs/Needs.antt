-- The blocks that lines need where jobs are open: of the contents that something counts, none.
use Rattle.std.specs.Prelude.{ℕ, ◌+◌, List, ◌++◌, filter, sum_by}
use Rattle.manifests.specs.declared.facts.Application.{Application}
use Rattle.manifests.specs.declared.facts.Deployment.{Deployment}
use Rattle.manifests.specs.declared.facts.FileEntry.{FileEntry}
use Rattle.machine.specs.Blocks.{blocks_of, required_files, standing_files}
use Rattle.machine.specs.Current.{bare_data_of, current_bare}
use Rattle.machine.specs.Groups.{group_files}
use Rattle.machine.specs.Shape.{Shape}
use Rattle.machine.specs.Views.{is_required}
use Rattle.machine.specs.Wanted.{copied_need, deployed_need, new_contents}

-- the program files whose contents are counted as used: those that stand in kept views, and the
-- required ones of open jobs
abbrev pub counted_files : Shape → List FileEntry
counted_files shape = required_files shape.jobs ++ standing_files shape.views

-- the contents of these files that are not counted
abbrev pub uncounted_need : Shape → List FileEntry → ℕ
uncounted_need shape entries =
    sum_by (λ entry. blocks_of entry.size) (new_contents (counted_files shape) entries)

-- `begin`: the contents of the required program files that are not counted, and all data files that
-- are deployed
abbrev pub begin_need : Shape → Application → ℕ
begin_need shape a = uncounted_need shape (filter is_required a.files) + deployed_need a

-- `commit`: the data files of the current view that are carried over
abbrev pub commit_need : Shape → Deployment → ℕ
commit_need shape d = copied_need (bare_data_of (current_bare d.identity.key shape))

-- `install`: both together
abbrev pub install_need : Shape → Deployment → Application → ℕ
install_need shape d a = begin_need shape a + commit_need shape d

-- `group`: the contents of its files that are not counted
abbrev pub group_need : Shape → List ℕ → Application → ℕ
group_need shape group a = uncounted_need shape (group_files group a)
