-- The refusals of an install are no free choices.
use Rattle.std.proofs.Common.{◌≡◌, ◌≢◌, ◌∙◌, refl, sym, ap, subst, ℕ, List, ◌∷◌, Option, Some, None, Result, Ok}
use Rattle.std.specs.Prelude.{slice_get}
use Rattle.small_types.specs.declared.target.Target.{Target}
use Rattle.addresses.specs.declared.fault.UrlFault.{UrlFault}
use Rattle.addresses.specs.Address.{target_of_text}
use Rattle.addresses.specs.Join.{app_target_of}
use Rattle.manifest_tree.specs.Tree.{Tree}
use Rattle.manifest_parts.specs.declared.fault.ManifestFault.{ManifestFault}
use Rattle.manifest_parts.specs.Elements.{Read}
use Rattle.manifest_parts.specs.Parts.{RefusesBytes, Tells}
use Rattle.manifests.specs.declared.facts.Application.{Application}
use Rattle.manifests.specs.declared.facts.Deployment.{Deployment}
use Rattle.manifests.specs.declared.releases.ReleaseFault.{ReleaseFault}
use Rattle.manifests.specs.declared.releases.ReleaseFault.TheVariants.{Mismatch, IdentityDiffers, VersionDiffers}
use Rattle.manifests.specs.declared.releases.ReleaseFault.TheVariants as unlike
use Rattle.manifests.specs.Applications.{application_of}
use Rattle.manifests.specs.Deployments.{deployment_of}
use Rattle.manifests.specs.Releases.{RefusesIdentity}
use Rattle.machine.specs.declared.reply.Reply.{Reply}
use Rattle.machine.specs.declared.reply.Reply.TheVariants as says
use Rattle.machine.specs.Blocks.{free_blocks}
use Rattle.machine.specs.Installed.{IsProvidedBy}
use Rattle.machine.specs.InstallRow.{InstallEffect, IsRefused, IsWeightOf, OfDeployment, OfRelease, OfText, address_refusals, deployment_refusals, release_refusals, weight_installed}
use Rattle.machine.specs.Rows.{AreExact}
use Rattle.machine.specs.Shape.{Shape}
use Rattle.machine.specs.Store.{Session}
use Rattle.machine.specs.Weight.{table_room, told_weight}
use Rattle.machine.proofs.FirstRefusal.{exactly-exact, exactly_with-exact, unheard_exact}
use Rattle.machine.proofs.Told.{refused_one, same_text, told_one}

pub some_is_not_none : {P X : Type 0} (x : X) → ◌≡◌ {A = Option X} (Some x) None → P
some_is_not_none x e = absurd cc

alike : {X : Type 0} (x y : X) → ◌≡◌ {A = Option X} (Some x) (Some y) → x ≡ y
alike x y e = cc

some_one : {X : Type 0} (found : Option X) (a b : X) → found ≡ Some a → found ≡ Some b → a ≡ b
some_one found a b first second = alike a b (sym first ∙ second)

target_alike : (a b : Target) → ◌≡◌ {A = Result Target UrlFault} (Ok a) (Ok b) → a ≡ b
target_alike a b e = cc

ok_one : (found : Result Target UrlFault) (a b : Target) → found ≡ Ok a → found ≡ Ok b → a ≡ b
ok_one found a b first second = target_alike a b (sym first ∙ second)

-- ---- one text, one value

module _ {A : Type 0} (facts : Tree → Read A) (place : ℕ) (heard : List (List ℕ)) where
  pub text_one : {P Q : A → Type 0} (x : OfText facts place heard P) (y : OfText facts place heard Q) → x.1 ≡ y.1
  text_one x y =
      let same = same_text (slice_get heard place) x.0 y.0 x.2 y.2 in
      told_one facts y.0 x.1 y.1 (subst (λ (t : List ℕ). Tells facts t (Ok x.1)) same x.3) y.3

  pub reason_one : (x y : ManifestFault) → IsRefused facts place heard x → IsRefused facts place heard y → x ≡ y
  reason_one x y a b =
      let same = same_text (slice_get heard place) a.0 b.0 a.1 b.1 in
      refused_one facts b.0 x y (subst (λ (t : List ℕ). RefusesBytes facts t x) same a.2) a.3 b.2 b.3

-- what holds of the deployments of one text holds of one
both_of : {P Q : Deployment → Type 0} (heard : List (List ℕ)) → OfDeployment heard P → OfDeployment heard Q → (d : Deployment) × P d × Q d
both_of {P} heard x y = (y.1, subst P (text_one deployment_of 0 heard x y) x.4, y.4)

both_release : {P Q : Deployment → Application → Type 0} (heard : List (List ℕ)) → OfRelease heard P → OfRelease heard Q → (d : Deployment) × (a : Application) × P d a × Q d a
both_release {P} heard x y =
    let one_d = text_one deployment_of 0 heard x y in
    let one_a = text_one application_of 1 heard x.4 y.4 in
    (y.1, y.4.1, subst (λ (d : Deployment). P d y.4.1) one_d (subst (P x.1) one_a x.4.4), y.4.4)

-- ---- one release fault

one_fault : (d : Deployment) (a : Application) (x y : ReleaseFault) → RefusesIdentity d a x → x ≢ unlike.Memory → RefusesIdentity d a y → y ≢ unlike.Memory → x ≡ y
one_fault d a unlike.Memory y first other second another = absurd (other refl)
one_fault d a x unlike.Memory first other second another = absurd (another refl)
one_fault d a (Mismatch difference) y first other second another = absurd first
one_fault d a x (Mismatch difference) first other second another = absurd second
one_fault d a (IdentityDiffers k l) (IdentityDiffers m n) first other second another =
    ap (λ (x : _). IdentityDiffers x l) (first.listed_is ∙ sym second.listed_is) ∙ ap (λ (x : _). IdentityDiffers m x) (first.found_is ∙ sym second.found_is)
one_fault d a (IdentityDiffers k l) (VersionDiffers m n) first other second another = absurd (first.other (first.listed_is ∙ sym second.key ∙ sym first.found_is))
one_fault d a (VersionDiffers k l) (IdentityDiffers m n) first other second another = absurd (second.other (second.listed_is ∙ sym first.key ∙ sym second.found_is))
one_fault d a (VersionDiffers k l) (VersionDiffers m n) first other second another =
    ap (λ (x : _). VersionDiffers x l) (first.listed_is ∙ sym second.listed_is) ∙ ap (λ (x : _). VersionDiffers m x) (first.found_is ∙ sym second.found_is)

-- ---- one weight

module _ (url : List ℕ) (shape : Shape) (d : Deployment) (a : Application) where
  provider_one : (target one other : Target) (text : Option (List ℕ)) → IsProvidedBy target text one → IsProvidedBy target text other → one ≡ other
  provider_one target one other None first second = first ∙ sym second
  provider_one target one other (Some text) first second = ok_one (target_of_text text) one other first second

  one_weight : (x y : ℕ) → IsWeightOf url shape d a x → IsWeightOf url shape d a y → x ≡ y
  one_weight x y first second =
      let target = ok_one (target_of_text url) first.target second.target first.read second.read in
      let base = ok_one (app_target_of second.target d.codebase) first.base second.base (subst (λ (t : Target). app_target_of t d.codebase ≡ Ok first.base) target first.joined) second.joined in
      let provider = provider_one second.target first.provider second.provider d.provider (subst (λ (t : Target). IsProvidedBy t d.provider first.provider) target first.provided) second.provided in
      first.is ∙ ap (λ (p : Target). weight_installed p first.base d a shape) provider ∙ ap (λ (b : Target). weight_installed second.provider b d a shape) base ∙ sym second.is

-- ---- the refusals

pub address_exact : (url : List ℕ) → AreExact (address_refusals url)
address_exact url = (exactly-exact _ _, (exactly_with-exact _ _ (λ x y first second. refl), tt))

pub deployment_exact : (url text : List ℕ) (texts : List (List ℕ)) (shape : Shape) → AreExact (deployment_refusals url (text ∷ texts) shape)
deployment_exact url text texts shape = (
  unheard_exact _ (λ target there. some_is_not_none text there.1),
  (
    exactly_with-exact _ _ (λ x y first second. ap says.Manifest (reason_one deployment_of 0 (text ∷ texts) x y first second)),
    (
      exactly_with-exact _ _ (λ x y first second. (let both = both_of (text ∷ texts) first second in ap says.NotNewer (some_one _ x y both.1.0 both.2.0))),
      (
        exactly_with-exact _ _ (λ x y first second. (let both = both_of (text ∷ texts) first second in ap says.BelowMinimum (some_one _ x y both.1.0 both.2.0))),
        (
          exactly-exact _ _,
          (
            exactly-exact _ _,
            (
              exactly-exact _ _,
              (
                exactly-exact _ _,
                (exactly_with-exact _ _ (λ x y first second. refl), tt),
              ),
            ),
          ),
        ),
      ),
    ),
  ),
)

pub release_exact : (url text other : List ℕ) (texts : List (List ℕ)) (shape : Shape) → AreExact (release_refusals url (text ∷ other ∷ texts) shape)
release_exact url text other texts shape = (
  unheard_exact _ (λ target there. some_is_not_none other there.1),
  (
    exactly_with-exact _ _ (λ x y first second. ap says.Manifest (reason_one application_of 1 (text ∷ other ∷ texts) x y first second)),
    (
      exactly_with-exact _ _ (λ x y first second. (let both = both_release (text ∷ other ∷ texts) first.0 second.0 in ap says.Release (one_fault both.0 both.1 x y both.2 first.1 both.3 second.1))),
      (
        exactly-exact _ _,
        (
          exactly-exact _ _,
          (
            exactly-exact _ _,
            (
              exactly_with-exact _ _ (λ x y first second. (let both = both_release (text ∷ other ∷ texts) first second in ap (λ (n : ℕ). says.Full n (free_blocks shape)) (both.2.0 ∙ sym both.3.0))),
              (
                exactly_with-exact _ _ (λ x y first second. (let both = both_release (text ∷ other ∷ texts) first second in ap (λ (n : ℕ). says.TableFull (told_weight n) (table_room shape.room)) (one_weight url shape both.0 both.1 x y both.2.0 both.3.0))),
                tt,
              ),
            ),
          ),
        ),
      ),
    ),
  ),
)

-- ---- the reply of an install

pub one_reply : (url : List ℕ) (heard : List (List ℕ)) (now : ℕ) (old : Session) (a b : Reply) (x y : Session) → InstallEffect url heard now old a x → InstallEffect url heard now old b y → a ≡ b
one_reply url heard now old a b x y first second =
    let both = both_release heard first.told second.told in
    let same : first.deployment ≡ second.deployment = sym both.2.0 ∙ both.3.0 in
    first.replied ∙ ap (λ (d : Deployment). says.Installed d.identity.key d.identity.version old.store.next_view) same ∙ sym second.replied
