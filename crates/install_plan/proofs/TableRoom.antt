-- Whether the tables have room once a release is installed, beside the refusal of the row.
use Rattle.std.proofs.Common.{◌≡◌, ◌∙◌, inl, inr, refl, sym, ap, subst, ℕ, List, Option, Some, None, Ok}
use Rattle.small_types.specs.declared.room.Room.{Room}
use Rattle.small_types.specs.declared.target.Target.{Target}
use Rattle.addresses.specs.Address.{target_of_text}
use Rattle.addresses.specs.Join.{app_target_of}
use Rattle.manifests.specs.declared.facts.Application.{Application}
use Rattle.manifests.specs.declared.facts.Deployment.{Deployment}
use Rattle.machine.specs.declared.reply.Reply.{Reply}
use Rattle.machine.specs.declared.reply.Reply.TheVariants as says
use Rattle.machine.specs.InstallRow.{IsWeightOf, weight_installed}
use Rattle.machine.specs.Installed.{IsProvidedBy}
use Rattle.machine.specs.Rows.{PassesAll}
use Rattle.machine.specs.Shape.{Shape}
use Rattle.machine.specs.Weight.{IsLight, IsTooHeavy, table_room, told_weight}
use Rattle.machine.proofs.Lightness.{not_heavy}
use Rattle.install_plan.specs.Judges.{Refused, place_checks, release_checks, table_checks, weight_checks}
use Rattle.install_plan.proofs.Listed.{AreAlike, exactly_with_alike, passes_alike, passes_both, refused_alike, refused_left, refused_right}
use Rattle.install_plan.proofs.Told.{ok_one}

-- ---- tables of one weight

pub plain_passes : (room : Room) (weight : ℕ) → room.half ≡ 0
    → PassesAll (weight_checks room weight)
plain_passes room weight plain = ((λ told over. over.1.0 plain), tt)

pub light_passes : (room : Room) (weight : ℕ) → IsLight room weight
    → PassesAll (weight_checks room weight)
light_passes room weight light = (
  (λ told over. not_heavy room weight light (subst (IsTooHeavy room) over.0 over.1)),
  tt,
)

pub heavy_refused : (room : Room) (weight : ℕ) (reply : Reply) → IsTooHeavy room weight
    → reply ≡ says.TableFull (told_weight weight) (table_room room)
    → Refused (weight_checks room weight) reply
heavy_refused room weight reply heavy replied =
    inr (λ old. inl ((weight, (refl, heavy), replied), refl))

-- ---- the weight of the row

one_provider : (target one other : Target) (text : Option (List ℕ))
    → IsProvidedBy target text one → IsProvidedBy target text other → one ≡ other
one_provider target one other None first second = first ∙ sym second
one_provider target one other (Some text) first second =
    ok_one (target_of_text text) one other first second

-- what is refused before
pub by_place : (url : List ℕ) (shape : Shape) (d : Deployment) (a : Application) (reply : Reply)
    → Refused (place_checks url shape d a) reply → Refused (release_checks url shape d a) reply
by_place url shape d a reply refused =
    refused_left (place_checks url shape d a) (table_checks url shape d a) reply refused

module _ (url : List ℕ) (shape : Shape) (d : Deployment) (a : Application) (target : Target)
    (read : target_of_text url ≡ Ok target) (base : Target)
    (joined : app_target_of target d.codebase ≡ Ok base) (provider : Target)
    (provided : IsProvidedBy target d.provider provider) where
  abbrev installed : ℕ
  installed = weight_installed provider base d a shape

  pub own_weight : IsWeightOf url shape d a installed
  own_weight = record {
    target = target;
    read = read;
    base = base;
    joined = joined;
    provider = provider;
    provided = provided;
    is = refl;
  }

  -- there is no other
  only_weight : (weight : ℕ) → IsWeightOf url shape d a weight → weight ≡ installed
  only_weight weight other =
      let same = ok_one (target_of_text url) other.target target other.read read in
      let base_is = ok_one (app_target_of target d.codebase) other.base base
      (subst (λ (t : Target). app_target_of t d.codebase ≡ Ok other.base) same other.joined) joined
      in
      let provider_is = one_provider target other.provider provider d.provider
      (subst (λ (t : Target). IsProvidedBy t d.provider other.provider) same other.provided)
      provided in
      other.is ∙ ap (λ (p : Target). weight_installed p other.base d a shape) provider_is
      ∙ ap (λ (b : Target). weight_installed provider b d a shape) base_is

  alike : AreAlike (weight_checks shape.room installed) (table_checks url shape d a)
  alike = (
    exactly_with_alike (λ weight. (weight ≡ installed) × IsTooHeavy shape.room weight)
        (λ weight. IsWeightOf url shape d a weight × IsTooHeavy shape.room weight)
        (λ weight. says.TableFull (told_weight weight) (table_room shape.room))
        (λ weight over. (subst (IsWeightOf url shape d a) (sym over.0) own_weight, over.1))
        (λ weight over. (only_weight weight over.0, over.1)),
    tt,
  )

  module _ (places : PassesAll (place_checks url shape d a)) where
    pub by_tables : (reply : Reply) → Refused (weight_checks shape.room installed) reply
        → Refused (release_checks url shape d a) reply
    by_tables reply refused =
        refused_right (place_checks url shape d a) (table_checks url shape d a) reply places
        (refused_alike (weight_checks shape.room installed) (table_checks url shape d a) reply alike
        refused)

    pub passed : PassesAll (weight_checks shape.room installed)
        → PassesAll (release_checks url shape d a)
    passed light =
        passes_both (place_checks url shape d a) (table_checks url shape d a) places
        (passes_alike (weight_checks shape.room installed) (table_checks url shape d a) alike light)
