-- What a refusal compares is what the new tables weigh.
use Rattle.std.proofs.Common.{◌≡◌, ◌∙◌, inl, inr, sym, ap, List, length}
use Rattle.std.specs.Prelude.{option_map}
use Rattle.std.proofs.lemmas.Bool.{false≢true}
use Rattle.std.proofs.lemmas.Option.{same_Some}
use Rattle.machine.specs.GroupRow.{Comes, weight_grown}
use Rattle.machine.specs.Groups.{group_stands}
use Rattle.machine.specs.PutRow.{weight_put}
use Rattle.machine.specs.Shape.{BareView, bare_view, shape_of}
use Rattle.machine.specs.Store.{Store}
use Rattle.machine.specs.Views.{DataFile}
use Rattle.machine.specs.Weight.{weight_of}
use Rattle.machine.specs.WeightLaws.{GroupsWeigh, InstallsWeigh, PutsWeigh, RequiresWeigh, session_weight}
use Rattle.machine.proofs.InstallSteps.{weighed}
use Rattle.machine.proofs.Leased.{leased_shape}
use Rattle.machine.proofs.ViewWeights.{bare_grown, bare_put}

pub requires_weigh : RequiresWeigh
requires_weigh key version old reply new done = ap session_weight done.1

pub puts_weigh : PutsWeigh
puts_weigh lease name bytes old reply new view bare done =
    let file : DataFile = record { name = name; bytes = bytes } in
    let same = same_Some (bare_view done.view) view
    (sym (leased_shape lease old.store ∙ ap (option_map bare_view) done.leased) ∙ bare) in
    ap session_weight done.is
    ∙ ap (λ (views : List BareView). weight_of views old.store.apps)
    (bare_put file done.view.number old.store.views)
    ∙ ap (λ (v : BareView).
    weight_put v.number (record { name = name; length = length bytes }) (shape_of old)) same

pub groups_weigh : GroupsWeigh
groups_weigh lease group old reply new view bare absent done =
    ap session_weight done.is ∙ by done.comes
  where
    same : bare_view done.view ≡ view
    same =
        same_Some (bare_view done.view) view
        (sym (leased_shape lease old.store ∙ ap (option_map bare_view) done.leased) ∙ bare)

    by : Comes group done.view old.store done.store
        → session_weight (record old { store = done.store })
        ≡ weight_grown view.number group (shape_of old)
    by (inl stands) =
        absurd (false≢true (sym absent
        ∙ sym (ap (λ (v : BareView). group_stands group v.groups) same) ∙ stands.0))
    by (inr comes) =
        let grown = comes.1 in
        ap (λ (s : Store). session_weight (record old { store = s })) grown.is
        ∙ ap (λ (views : List BareView). weight_of views old.store.apps)
        (bare_grown done.view.number group grown.program_files old.store.views)
        ∙ ap (λ (v : BareView). weight_grown v.number group (shape_of old)) same

pub installs_weigh : InstallsWeigh
installs_weigh url heard now old reply new is valid = weighed is valid.ordered
