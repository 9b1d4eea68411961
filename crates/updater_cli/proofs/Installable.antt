-- An install that can be made is made, where no link failed in its line.
use Rattle.std.proofs.Common.{◌≡◌, ◌≢◌, ◌∙◌, ◌⊎◌, inl, inr, ◌<◌, ◌≤◌, ◌++◌, refl, sym, ap, subst, ℕ, List, [], ◌∷◌, Contains, Option, Some, None, Ok, Err, arith}
use Rattle.std.specs.Prelude.{Any, IfSome, Result, slice_get}
use Rattle.std.proofs.lemmas.Bool.{cases_lt}
use Rattle.std.proofs.lemmas.Option.{same_Some}
use Rattle.small_types.specs.declared.limits.TheConstants.{FILE_COUNT_LIMIT, LOCAL_COUNT_LIMIT, MANIFEST_LIMIT}
use Rattle.small_types.specs.declared.target.Target.{Target}
use Rattle.addresses.specs.declared.fault.UrlFault.{UrlFault}
use Rattle.addresses.specs.declared.fault.UrlFault.TheVariants.{BadUrl, NotHttp}
use Rattle.addresses.specs.Address.{target_of_text}
use Rattle.addresses.specs.Join.{file_target_of}
use Rattle.digest_list.specs.Matches.{Matches}
use Rattle.identity.specs.Version.{IsBelow}
use Rattle.manifest_parts.specs.Parts.{Tells}
use Rattle.manifests.specs.declared.facts.Application.{Application}
use Rattle.manifests.specs.declared.facts.Deployment.{Deployment}
use Rattle.manifests.specs.declared.facts.FileEntry.{FileEntry}
use Rattle.manifests.specs.declared.releases.ReleaseFault.{ReleaseFault}
use Rattle.manifests.specs.declared.releases.ReleaseFault.TheVariants.{Mismatch, IdentityDiffers, VersionDiffers}
use Rattle.manifests.specs.declared.releases.ReleaseFault.TheVariants as unlike
use Rattle.manifests.specs.Applications.{application_of}
use Rattle.manifests.specs.Deployments.{deployment_of}
use Rattle.manifests.specs.Releases.{IsRelease, RefusesIdentity}
use Rattle.links.specs.Links.{LinksState, link_at}
use Rattle.fetcher.specs.Given.{FitsText, Given, GivenFile, GivenText, IsFirst}
use Rattle.machine.specs.declared.command.Command.TheVariants.{Install}
use Rattle.machine.specs.declared.reply.Reply.{Reply}
use Rattle.machine.specs.declared.reply.Reply.TheVariants as says
use Rattle.machine.specs.Blocks.{free_blocks}
use Rattle.machine.specs.InstallRow.{HearsRelease, InstallEffect, IsBelowMinimum, IsNotNewer, IsWeightOf, LacksEntry, OfDeployment, OfRelease, OfWanted, address_refusals, base_of, deployment_refusals, file_refusals, files_after, install_refusals, locals_after, release_refusals}
use Rattle.machine.specs.Machine.{Answers}
use Rattle.machine.specs.Rows.{PassesAll, Refusal, Refuses}
use Rattle.machine.specs.Shape.{Shape, shape_of}
use Rattle.machine.specs.Store.{Session}
use Rattle.machine.specs.Wanted.{install_need, wanted}
use Rattle.machine.specs.Weight.{IsTooHeavy}
use Rattle.machine.proofs.FirstRefusal.{none_refuses}
use Rattle.machine.proofs.InstallExact.{address_exact, deployment_exact, release_exact}
use Rattle.machine.proofs.Lightness.{not_heavy}
use Rattle.machine.proofs.Members.{all_in, in_contains}
use Rattle.machine.proofs.Told.{told_one}
use Rattle.install_plan.proofs.Rows.{is_both, is_it, of_it, unrefused}
use Rattle.install_plan.proofs.Told.{base_is, ok_one}
use Rattle.updater_cli.specs.Installable.{CanInstall, HasFile, IsInstalledOrMemory}
use Rattle.updater_cli.specs.Quiet.{InstallFinds, IsLacked}

-- ---- what is given is one thing

if_at : {X : Type 0} (P : X → Type 0) (found : Option X) (x : X) → IfSome found P
    → found ≡ Some x → P x
if_at {X} P found x holds is = subst (λ (o : Option X). IfSome o P) is holds

module _ (Fits : List ℕ → Type 0) (links : LinksState) (target : Target) where
  -- a link that has bytes that fit does not stand before the first one
  not_before : (a b : List ℕ) (x : IsFirst Fits links target a)
      (y : IsFirst Fits links target b) → x.place < y.place → ⊥
  not_before a b x y less =
      if_at (λ bytes. ¬ Fits bytes) ((link_at links x.place).site target) a (y.first x.place less)
      x.there x.fits

  one_given : (a b : List ℕ) → Given Fits links target (Some a) → Given Fits links target (Some b)
      → a ≡ b
  one_given a b x y = by (cases_lt x.place y.place) (cases_lt y.place x.place)
    where
      by : (x.place < y.place) ⊎ (y.place ≤ x.place) → (y.place < x.place) ⊎ (x.place ≤ y.place)
          → a ≡ b
      by (inl less) _ = absurd (not_before a b x y less)
      by _ (inl less) = absurd (not_before b a y x less)
      by (inr high) (inr low) =
          let same : x.place ≡ y.place = omega (arith, high, low) in
          same_Some a b (sym (subst (λ (k : ℕ). (link_at links k).site target ≡ Some a) same x.there)
          ∙ y.there)

  none_given : (a : List ℕ) → Given Fits links target (Some a) → Given Fits links target None → ⊥
  none_given a x none =
      if_at (λ bytes. ¬ Fits bytes) ((link_at links x.place).site target) a (none x.place x.within)
      x.there x.fits

-- ---- the refusals of four lists, one behind another

module _ {R S : Type 0} where
  refuses_parts : (rs ss : List (Refusal R S)) (old : S) (reply : R) (new : S)
      → Refuses (rs ++ ss) old reply new
      → Refuses rs old reply new ⊎ (PassesAll rs × Refuses ss old reply new)
  refuses_parts [] ss old reply new refuses = inr (tt, refuses)
  refuses_parts (r ∷ rs) ss old reply new (inl given) = inl (inl given)
  refuses_parts (r ∷ rs) ss old reply new (inr later) =
      by (refuses_parts rs ss old reply new later.1)
    where
      by : Refuses rs old reply new ⊎ (PassesAll rs × Refuses ss old reply new)
          → Refuses (r ∷ rs) old reply new ⊎ (PassesAll (r ∷ rs) × Refuses ss old reply new)
      by (inl first) = inl (inr (later.0, first))
      by (inr second) = inr ((later.0, second.0), second.1)

  passes_second : (rs ss : List (Refusal R S)) → PassesAll (rs ++ ss) → PassesAll ss
  passes_second [] ss passes = passes
  passes_second (r ∷ rs) ss passes = passes_second rs ss passes.1

  module _ (a b c d : List (Refusal R S)) (old : S) (reply : R) (new : S)
      (no_a : Refuses a old reply new → ⊥) (no_b : Refuses b old reply new → ⊥)
      (no_c : PassesAll b → Refuses c old reply new → ⊥)
      (no_d : PassesAll b → PassesAll c → Refuses d old reply new → ⊥) where
    first_two : Refuses (a ++ b) old reply new → ⊥
    first_two refuses = by (refuses_parts a b old reply new refuses)
      where
        by : Refuses a old reply new ⊎ (PassesAll a × Refuses b old reply new) → ⊥
        by (inl first) = no_a first
        by (inr second) = no_b second.1

    first_three : Refuses (a ++ b ++ c) old reply new → ⊥
    first_three refuses = by (refuses_parts (a ++ b) c old reply new refuses)
      where
        by : Refuses (a ++ b) old reply new ⊎ (PassesAll (a ++ b) × Refuses c old reply new) → ⊥
        by (inl first) = first_two first
        by (inr second) = no_c (passes_second a b second.0) second.1

    none_of : Refuses (a ++ b ++ c ++ d) old reply new → ⊥
    none_of refuses = by (refuses_parts (a ++ b ++ c) d old reply new refuses)
      where
        middle : PassesAll (a ++ b ++ c) → PassesAll b
        middle passes = passes_second a b (passes_first (a ++ b) c passes)
          where
            passes_first : (rs ss : List (Refusal R S)) → PassesAll (rs ++ ss) → PassesAll rs
            passes_first [] ss passes = tt
            passes_first (r ∷ rs) ss passes = (passes.0, passes_first rs ss passes.1)

        by : Refuses (a ++ b ++ c) old reply new
            ⊎ (PassesAll (a ++ b ++ c) × Refuses d old reply new) → ⊥
        by (inl first) = first_three first
        by (inr second) =
            no_d (middle second.0) (passes_second (a ++ b) c second.0) second.1

-- ---- an install that can be made

bad_is_none : (target : Target) → ◌≡◌ {A = Result Target UrlFault} (Ok target) (Err BadUrl) → ⊥
bad_is_none target e = cc

http_is_none : (target : Target) (scheme : List ℕ)
    → ◌≡◌ {A = Result Target UrlFault} (Ok target) (Err (NotHttp scheme)) → ⊥
http_is_none target scheme e = cc

no_text : {P : Type 0} (text : List ℕ) → ◌≡◌ {A = Option (List ℕ)} None (Some text) → P
no_text text e = absurd cc

some_text : {P : Type 0} (text : List ℕ) → ◌≡◌ {A = Option (List ℕ)} (Some text) None → P
some_text text e = absurd cc

-- the identity of the application is the listed one
same_identity : (d : Deployment) (a : Application) (text : List ℕ) → IsRelease d a text
    → (reason : ReleaseFault) → RefusesIdentity d a reason → reason ≢ unlike.Memory → ⊥
same_identity d a text is (Mismatch difference) refuses other = refuses
same_identity d a text is (IdentityDiffers listed found) refuses other =
    refuses.other (refuses.listed_is ∙ sym is.key ∙ sym refuses.found_is)
same_identity d a text is (VersionDiffers listed found) refuses other =
    refuses.other (refuses.listed_is ∙ sym is.version ∙ sym refuses.found_is)
same_identity d a text is unlike.Memory refuses other = other refl

module _ (links after : LinksState) (shape : Shape) (url : List ℕ)
    (can : CanInstall links after shape url)
  where
    base_read : base_of url can.deployment ≡ Ok can.base
    base_read = base_is url can.deployment can.target (Ok can.base) can.address can.joined

    -- ---- what the deployment manifest may be refused for

    address_passes : PassesAll (address_refusals url)
    address_passes = (
      λ bad. bad_is_none can.target (sym can.address ∙ bad),
      (λ scheme other. http_is_none can.target scheme (sym can.address ∙ other), tt),
    )

    module _ (heard : List (List ℕ)) (first : slice_get heard 0 ≡ Some can.text) where
      told : OfDeployment heard (λ d. d ≡ can.deployment)
      told = (can.text, can.deployment, first, can.tells, refl)

      of_deployment : (W : Deployment → Type 0) → OfDeployment heard W → W can.deployment
      of_deployment W holds =
          is_it shape url heard can.deployment can.target can.address told W holds

      too_low : (have : _) → OfDeployment heard (λ d. IsNotNewer shape d have) → ⊥
      too_low have is =
          let not = of_deployment (λ d. IsNotNewer shape d have) is in
          not.1 (if_at (λ have. IsBelow have can.deployment.identity.version) _ have can.newer not.0)

      below : (minimum : _) → OfDeployment heard (λ d. IsBelowMinimum shape d minimum) → ⊥
      below minimum is =
          let low = of_deployment (λ d. IsBelowMinimum shape d minimum) is in
          if_at (λ minimum. ¬ IsBelow can.deployment.identity.version minimum) _ minimum can.reaches
          low.0 low.1

      no_place : OfDeployment heard (LacksEntry shape) → ⊥
      no_place is =
          let lacks = of_deployment (LacksEntry shape) is in
          let few = can.few_applications lacks.0 in
          let full = lacks.1 in omega (arith, few, full)

      deployment_passes : PassesAll (deployment_refusals url heard shape)
      deployment_passes = (
        λ target lacks. some_text can.text (sym first ∙ lacks.1),
        (
          λ reason refused.
              unrefused deployment_of can.text can.deployment can.tells 0 heard first reason refused,
          (
            too_low,
            (
              below,
              (
                no_place,
                (
                  λ full. (let few = can.few_views in omega (arith, full, few)),
                  (
                    λ spent. (let less = can.number in omega (arith, spent, less)),
                    (
                      λ is.
                          bad_is_none can.base
                          (sym base_read ∙ of_deployment (λ d. base_of url d ≡ Err BadUrl) is),
                      (
                        λ scheme is.
                            http_is_none can.base scheme
                            (sym base_read
                            ∙ of_deployment (λ d. base_of url d ≡ Err (NotHttp scheme)) is),
                        tt,
                      ),
                    ),
                  ),
                ),
              ),
            ),
          ),
        ),
      )

      -- ---- what the release may be refused for

      module _ (second : slice_get heard 1 ≡ Some can.app_text) where
        both_told : OfRelease heard (λ d a. (d ≡ can.deployment) × (a ≡ can.application))
        both_told = (
          can.text,
          can.deployment,
          first,
          can.tells,
          (can.app_text, can.application, second, can.release.application, (refl, refl)),
        )

        of_release : (W : Deployment → Application → Type 0) → OfRelease heard W
            → W can.deployment can.application
        of_release W holds =
            is_both shape url heard can.deployment can.application both_told W holds

        -- a wanted file has its address
        file_at : (entry : FileEntry) → Contains (wanted shape.views can.application) entry
            → HasFile after can.base can.deployment.mapped entry
        file_at entry there =
            all_in (HasFile after can.base can.deployment.mapped)
            (wanted shape.views can.application) entry can.wanted_files
            (in_contains (wanted shape.views can.application) entry there)

        no_address : OfRelease heard (λ d a. OfWanted url shape d a (λ target. target ≡ Err BadUrl))
            → ⊥
        no_address is =
            let bad = of_release (λ d a. OfWanted url shape d a (λ target. target ≡ Err BadUrl)) is in
            let file = file_at bad.2.1 (bad.2.0, bad.2.2, bad.2.3) in
            let same : bad.0 ≡ can.base = ok_one (base_of url can.deployment) bad.0 can.base bad.1
            base_read in
            bad_is_none file.target
            (sym file.at
            ∙ subst (λ (t : Target). file_target_of t can.deployment.mapped bad.2.1.name ≡ Err BadUrl)
            same bad.2.4)

        too_heavy : (weight : ℕ)
            → OfRelease heard (λ d a. IsWeightOf url shape d a weight × IsTooHeavy shape.room weight)
            → ⊥
        too_heavy weight is =
            let over = of_release
            (λ d a. IsWeightOf url shape d a weight × IsTooHeavy shape.room weight) is in
            not_heavy shape.room weight (can.light weight over.0) over.1

        too_many_files : OfRelease heard (λ d a. FILE_COUNT_LIMIT < files_after shape a) → ⊥
        too_many_files is =
            let over : FILE_COUNT_LIMIT < files_after shape can.application =
            of_release (λ d a. FILE_COUNT_LIMIT < files_after shape a) is in
            let few = can.few_files in omega (arith, over, few)

        too_many_data : OfRelease heard (λ d a. LOCAL_COUNT_LIMIT < locals_after shape d a) → ⊥
        too_many_data is =
            let over : LOCAL_COUNT_LIMIT < locals_after shape can.deployment can.application =
            of_release (λ d a. LOCAL_COUNT_LIMIT < locals_after shape d a) is in
            let few = can.few_data in omega (arith, over, few)

        no_blocks : (need : ℕ) → OfRelease heard
            (λ d a. (need ≡ install_need shape d a) × (free_blocks shape < need)) → ⊥
        no_blocks need is =
            let full : (need ≡ install_need shape can.deployment can.application)
            × (free_blocks shape < need) =
            of_release (λ d a. (need ≡ install_need shape d a) × (free_blocks shape < need)) is in
            let same = full.0 in let less = full.1 in let enough = can.blocks in
            omega (arith, same, less, enough)

        release_passes : PassesAll (release_refusals url heard shape)
        release_passes = (
          λ target lacks. some_text can.app_text (sym second ∙ lacks.1),
          (
            λ reason refused.
                unrefused application_of can.app_text can.application can.release.application 1 heard
                second reason refused,
            (
              λ reason refuses.
                  same_identity can.deployment can.application can.app_text can.release reason
                  (of_release (λ d a. RefusesIdentity d a reason) refuses.0) refuses.1,
              (
                too_many_files,
                (
                  too_many_data,
                  (
                    no_address,
                    (
                      no_blocks,
                      (too_heavy, tt),
                    ),
                  ),
                ),
              ),
            ),
          ),
        )

-- ---- its line

module _ (before after : LinksState) (old : Session) (url : List ℕ)
    (can : CanInstall before after (shape_of old) url) where
  abbrev shape : Shape
  shape = shape_of old

  -- the deployment manifest is the only one that the links give
  first_is : (text : List ℕ)
      → (target : Target) × (target_of_text url ≡ Ok target)
      × GivenText MANIFEST_LIMIT before target (Some text) → text ≡ can.text
  first_is text came =
      let same : came.0 ≡ can.target = ok_one (target_of_text url) came.0 can.target came.1
      can.address in
      one_given (FitsText MANIFEST_LIMIT) before can.target text can.text
      (subst (λ (t : Target). GivenText MANIFEST_LIMIT before t (Some text)) same came.2) can.given

  -- and so is the application manifest
  second_is : (heard : List (List ℕ)) → slice_get heard 0 ≡ Some can.text → (text : List ℕ)
      → OfDeployment heard (λ d. (base : Target) × (base_of url d ≡ Ok base)
      × GivenFile d.app_list d.app_size before base (Some text)) → text ≡ can.app_text
  second_is heard first text came =
      let at = of_deployment before after shape url can heard first
      (λ d. (base : Target) × (base_of url d ≡ Ok base)
      × GivenFile d.app_list d.app_size before base (Some text)) came in
      let same : at.0 ≡ can.base = ok_one (base_of url can.deployment) at.0 can.base at.1
      (base_read before after shape url can) in
      one_given (Matches can.deployment.app_list can.deployment.app_size) before can.base text
      can.app_text
      (subst (λ (t : Target). GivenFile can.deployment.app_list can.deployment.app_size before t
      (Some text)) same at.2)
      can.app_given

  module _ (reply : Reply) (new : Session) where
    no_address_refusal : Refuses (address_refusals url) old reply new → ⊥
    no_address_refusal =
        none_refuses (address_refusals url) old reply new (address_exact url)
        (address_passes before after shape url can)

    -- nothing was heard
    none_heard : InstallFinds shape url [] before after reply
        → Refuses (install_refusals url [] shape) old reply new → ⊥
    none_heard finds =
        none_of (address_refusals url) (deployment_refusals url [] shape)
        (release_refusals url [] shape) (file_refusals url [] shape) old reply new
        no_address_refusal no_deployment
        (λ passes refuses. passes.0 can.target (can.address, refl))
        (λ passes more refuses. passes.0 can.target (can.address, refl))
      where
        no_deployment : Refuses (deployment_refusals url [] shape) old reply new → ⊥
        no_deployment (inl given) =
            let why = given.0 in
            let same : why.0 ≡ can.target = ok_one (target_of_text url) why.0 can.target why.2.0
            can.address in
            none_given (FitsText MANIFEST_LIMIT) before can.target can.text can.given
            (subst (λ (t : Target). GivenText MANIFEST_LIMIT before t None) same
            (finds.lacks why.0 why.1 why.3))
        no_deployment (inr later) = later.0 can.target (can.address, refl)

    -- the deployment manifest was
    one_heard : (text : List ℕ) → InstallFinds shape url (text ∷ []) before after reply
        → Refuses (install_refusals url (text ∷ []) shape) old reply new → ⊥
    one_heard text finds =
        none_of (address_refusals url) (deployment_refusals url (text ∷ []) shape)
        (release_refusals url (text ∷ []) shape) (file_refusals url (text ∷ []) shape) old reply new
        no_address_refusal
        (none_refuses (deployment_refusals url (text ∷ []) shape) old reply new
        (deployment_exact url text [] shape)
        (deployment_passes before after shape url can (text ∷ []) first))
        (λ passes. no_release)
        (λ passes more refuses. more.0 can.base lacking)
      where
        first : Some text ≡ Some can.text
        first = ap Some (first_is text finds.deployment)

        lacking : OfDeployment (text ∷ []) (λ d. base_of url d ≡ Ok can.base)
            × (slice_get (text ∷ []) 1 ≡ None)
        lacking = (
          of_it shape url (text ∷ []) can.deployment can.target can.address
              (told before after shape url can (text ∷ []) first) (λ d. base_of url d ≡ Ok can.base)
              (base_read before after shape url can),
          refl,
        )

        no_release : Refuses (release_refusals url (text ∷ []) shape) old reply new → ⊥
        no_release (inl given) =
            let why = given.0 in
            let same : why.0 ≡ can.base =
            ok_one (base_of url can.deployment) why.0 can.base
            (of_deployment before after shape url can (text ∷ []) first
            (λ d. base_of url d ≡ Ok why.0) why.2.0)
            (base_read before after shape url can) in
            let none : GivenFile can.deployment.app_list can.deployment.app_size before why.0 None =
            of_deployment before after shape url can (text ∷ []) first
            (λ d. GivenFile d.app_list d.app_size before why.0 None)
            (finds.lacks why.0 why.1 why.3) in
            none_given (Matches can.deployment.app_list can.deployment.app_size) before can.base
            can.app_text can.app_given
            (subst (λ (t : Target). GivenFile can.deployment.app_list can.deployment.app_size before
            t None) same none)
        no_release (inr later) = later.0 can.base lacking

    -- both manifests were
    two_heard : (text other : List ℕ)
        → InstallFinds shape url (text ∷ other ∷ []) before after reply
        → Refuses (install_refusals url (text ∷ other ∷ []) shape) old reply new → ⊥
    two_heard text other finds =
        none_of (address_refusals url) (deployment_refusals url heard shape)
        (release_refusals url heard shape) (file_refusals url heard shape) old reply new
        no_address_refusal
        (none_refuses (deployment_refusals url heard shape) old reply new
        (deployment_exact url text (other ∷ []) shape)
        (deployment_passes before after shape url can heard first))
        (λ passes. none_refuses (release_refusals url heard shape) old reply new
        (release_exact url text other [] shape)
        (release_passes before after shape url can heard first second))
        (λ passes more. no_file)
      where
        heard : List (List ℕ)
        heard = text ∷ other ∷ []

        first : slice_get heard 0 ≡ Some can.text
        first = ap Some (first_is text finds.deployment)

        second : slice_get heard 1 ≡ Some can.app_text
        second = ap Some (second_is heard first other finds.application)

        no_file : Refuses (file_refusals url heard shape) old reply new → ⊥
        no_file (inl given) =
            let why = given.0 in
            let lacked = of_release before after shape url can heard first second
            (λ d a. (base : Target) × (base_of url d ≡ Ok base)
            × Any (IsLacked base d.mapped after why.0) (wanted shape.views a))
            (finds.lacks why.0 why.1 why.3) in
            let entry = lacked.2.1 in
            let file = file_at before after shape url can heard first second entry
            (lacked.2.0, lacked.2.2, lacked.2.3) in
            let mapped = can.deployment.mapped in
            let same : lacked.0 ≡ can.base = ok_one (base_of url can.deployment) lacked.0 can.base
            lacked.1 (base_read before after shape url can) in
            let there : why.0 ≡ file.target =
            ok_one (file_target_of can.base mapped entry.name) why.0 file.target
            (subst (λ (t : Target). file_target_of t mapped entry.name ≡ Ok why.0) same
            lacked.2.4.at)
            file.at in
            none_given (Matches entry.list entry.size) after file.target file.bytes file.given
            (subst (λ (t : Target). GivenFile entry.list entry.size after t None) there
            lacked.2.4.none)
        no_file (inr later) = later.1

    -- whatever was heard, it is not refused
    not_refused : (texts : List (List ℕ)) → HearsRelease url shape texts
        → InstallFinds shape url texts before after reply
        → Refuses (install_refusals url texts shape) old reply new → ⊥
    not_refused [] hears finds = none_heard finds
    not_refused (text ∷ []) hears finds = one_heard text finds
    not_refused (text ∷ other ∷ []) hears finds = two_heard text other finds
    not_refused (text ∷ other ∷ more ∷ others) hears finds = absurd hears

    -- what was installed is the release that the links give
    installed : (now : ℕ) (texts : List (List ℕ))
        → InstallFinds shape url texts before after reply
        → InstallEffect url texts now old reply new
        → IsInstalledOrMemory can.deployment old.store.next_view reply
    installed now texts finds done =
        let text = done.told.0 in
        let is : text ≡ can.text =
        first_is text
        (if_at (λ text. (target : Target) × (target_of_text url ≡ Ok target)
        × GivenText MANIFEST_LIMIT before target (Some text)) (slice_get texts 0) text
        finds.deployment done.told.2) in
        let same : done.deployment ≡ can.deployment =
        sym done.told.4.4.0
        ∙ told_one deployment_of can.text done.told.1 can.deployment
        (subst (λ (t : List ℕ). Tells deployment_of t (Ok done.told.1)) is done.told.3) can.tells in
        inl (done.replied
        ∙ ap (λ (d : Deployment).
        says.Installed d.identity.key d.identity.version old.store.next_view) same)

    pub installs : (now : ℕ) (texts : List (List ℕ)) → HearsRelease url shape texts
        → InstallFinds shape url texts before after reply
        → Answers now texts old (Install url) reply new
        → IsInstalledOrMemory can.deployment old.store.next_view reply
    installs now texts hears finds (inl (inl memory)) = inr memory.0
    installs now texts hears finds (inl (inr refused)) =
        absurd (not_refused texts hears finds refused.1)
    installs now texts hears finds (inr done) = installed now texts finds done.1
