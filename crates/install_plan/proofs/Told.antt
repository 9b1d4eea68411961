-- What the texts of one line tell is one release.
use Rattle.std.proofs.Common.{◌≡◌, ◌∙◌, sym, ap, subst, ℕ, List, Ok}
use Rattle.std.specs.Prelude.{slice_get}
use Rattle.small_types.specs.declared.target.Target.{Target}
use Rattle.addresses.specs.Address.{target_of_text}
use Rattle.addresses.specs.Join.{app_target_of}
use Rattle.addresses.specs.declared.fault.UrlFault.{UrlFault}
use Rattle.small_types.specs.Outcome.{◌>>=◌}
use Rattle.manifest_tree.specs.Tree.{Tree}
use Rattle.manifest_parts.specs.Elements.{Read}
use Rattle.manifest_parts.specs.Parts.{Tells}
use Rattle.manifests.specs.declared.facts.Application.{Application}
use Rattle.manifests.specs.declared.facts.Deployment.{Deployment}
use Rattle.manifests.specs.Applications.{application_of}
use Rattle.manifests.specs.Deployments.{deployment_of}
use Rattle.machine.specs.InstallRow.{OfDeployment, OfRelease, OfText, base_of}
use Rattle.machine.proofs.Told.{same_text, told_one}
use Rattle.std.specs.Prelude.{Result}

-- ---- one value

module _ {A : Type 0} (facts : Tree → Read A) (place : ℕ) (heard : List (List ℕ)) where
  text_one : {P Q : A → Type 0} (x : OfText facts place heard P) (y : OfText facts place heard Q) → x.1 ≡ y.1
  text_one x y =
      let same = same_text (slice_get heard place) x.0 y.0 x.2 y.2 in
      told_one facts y.0 x.1 y.1 (subst (λ (t : List ℕ). Tells facts t (Ok x.1)) same x.3) y.3

  pub text_map : {P Q : A → Type 0} → ((a : A) → P a → Q a) → OfText facts place heard P → OfText facts place heard Q
  text_map each x = (x.0, x.1, x.2, x.3, each x.1 x.4)

-- what holds of the deployment that the text tells
pub deployment_is : {P Q : Deployment → Type 0} (heard : List (List ℕ)) → OfDeployment heard P → OfDeployment heard Q → (d : Deployment) × P d × Q d
deployment_is {P} heard x y = (y.1, subst P (text_one deployment_of 0 heard x y) x.4, y.4)

-- and of the release that both tell
pub release_is : {P Q : Deployment → Application → Type 0} (heard : List (List ℕ)) → OfRelease heard P → OfRelease heard Q → (d : Deployment) × (a : Application) × P d a × Q d a
release_is {P} heard x y =
    let one_d = text_one deployment_of 0 heard x y in
    let one_a = text_one application_of 1 heard x.4 y.4 in
    (y.1, y.4.1, subst (λ (d : Deployment). P d y.4.1) one_d (subst (P x.1) one_a x.4.4), y.4.4)

pub release_map : {P Q : Deployment → Application → Type 0} (heard : List (List ℕ)) → ((d : Deployment) (a : Application) → P d a → Q d a) → OfRelease heard P → OfRelease heard Q
release_map {P} {Q} heard each x = text_map deployment_of 0 heard {P = λ d. OfText application_of 1 heard (P d)} {Q = λ d. OfText application_of 1 heard (Q d)} (λ d inner. text_map application_of 1 heard {P = P d} {Q = Q d} (each d) inner) x

pub deployment_of_release : {P : Deployment → Application → Type 0} {Q : Deployment → Type 0} (heard : List (List ℕ)) → ((d : Deployment) (a : Application) → P d a → Q d) → OfRelease heard P → OfDeployment heard Q
deployment_of_release heard each x = (x.0, x.1, x.2, x.3, each x.1 x.4.1 x.4.4)

-- ---- addresses

pub ok_one : {X F : Type 0} (found : Result X F) (a b : X) → found ≡ Ok a → found ≡ Ok b → a ≡ b
ok_one {X} {F} found a b first second = inside a b (sym first ∙ second)
  where
    inside : (x y : X) → ◌≡◌ {A = Result X F} (Ok x) (Ok y) → x ≡ y
    inside x y e = cc

pub base_is : (url : List ℕ) (d : Deployment) (target : Target) (found : Result Target UrlFault) → target_of_text url ≡ Ok target → app_target_of target d.codebase ≡ found → base_of url d ≡ found
base_is url d target found read joined = ap (λ (r : Result Target UrlFault). r >>= (λ t. app_target_of t d.codebase)) read ∙ joined
