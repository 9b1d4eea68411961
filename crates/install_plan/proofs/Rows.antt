-- The refusals of the row, by what its texts tell.
use Rattle.std.proofs.Common.{◌≡◌, ◌≢◌, ◌∙◌, inl, inr, refl, sym, ap, subst, ℕ, List, Option, Some, None, Ok, Err}
use Rattle.std.specs.Prelude.{◌<◌, ◌≤◌, Result, drop, length, slice_get}
use Rattle.small_types.specs.Outcome.{◌>>=◌}
use Rattle.small_types.specs.declared.limit.Limit.TheVariants.{Applications, Views, Files, Locals}
use Rattle.small_types.specs.declared.limits.TheConstants.{APPLICATION_LIMIT, FILE_COUNT_LIMIT, LOCAL_COUNT_LIMIT, NUMBER_LIMIT, VIEW_LIMIT}
use Rattle.small_types.specs.declared.target.Target.{Target}
use Rattle.addresses.specs.declared.fault.UrlFault.{UrlFault}
use Rattle.addresses.specs.declared.fault.UrlFault.TheVariants.{BadUrl, NotHttp}
use Rattle.addresses.specs.Address.{target_of_text}
use Rattle.addresses.specs.Join.{app_target_of}
use Rattle.manifest_tree.specs.Tree.{Tree}
use Rattle.manifest_tree.proofs.Refused.{spelled_unrefused}
use Rattle.manifest_parts.specs.declared.fault.ManifestFault.{ManifestFault}
use Rattle.manifest_parts.specs.declared.fault.ManifestFault.TheVariants as fault
use Rattle.manifest_parts.specs.Elements.{Read}
use Rattle.manifest_parts.specs.Parts.{RefusesBytes, Tells}
use Rattle.manifests.specs.declared.facts.Application.{Application}
use Rattle.manifests.specs.declared.facts.Deployment.{Deployment}
use Rattle.manifests.specs.declared.releases.ReleaseFault.TheVariants as unlike
use Rattle.manifests.specs.Applications.{application_of}
use Rattle.manifests.specs.Deployments.{deployment_of}
use Rattle.manifests.specs.Releases.{RefusesIdentity}
use Rattle.machine.specs.declared.reply.Reply.{Reply}
use Rattle.machine.specs.declared.reply.Reply.TheVariants as says
use Rattle.machine.specs.Blocks.{free_blocks}
use Rattle.machine.specs.InstallRow.{IsBelowMinimum, IsNotNewer, IsRefused, IsWeightOf, LacksEntry, OfDeployment, OfRelease, OfWanted, base_of, deployment_refusals, files_after, locals_after, release_refusals}
use Rattle.machine.specs.Rows.{PassesAll, Refusal}
use Rattle.machine.specs.Shape.{Shape}
use Rattle.machine.specs.Store.{Session}
use Rattle.machine.specs.Wanted.{install_need}
use Rattle.machine.specs.Weight.{IsTooHeavy, table_room, told_weight}
use Rattle.machine.proofs.Told.{same_text, tells_one}
use Rattle.install_plan.specs.Judges.{Refused, deployment_checks, release_checks}
use Rattle.install_plan.proofs.Listed.{AreAlike, exactly_alike, exactly_with_alike, passes_alike, refuses_alike}
use Rattle.install_plan.proofs.Told.{deployment_is, release_is, release_map}

some_is_not_none : {P X : Type 0} (found : Option X) (x : X) → found ≡ Some x → found ≡ None → P
some_is_not_none found x some none = absurd cc

-- ---- a text that tells something is not refused

module _ {A : Type 0} (facts : Tree → Read A) (text : List ℕ) (a : A) (tells : Tells facts text (Ok a)) where
  ok_is_not_err : (x : ManifestFault) → ◌≡◌ {A = Read A} (Ok a) (Err x) → ⊥
  ok_is_not_err x e = cc

  no_other : (x : ManifestFault) → Tells facts text (Err x) → ⊥
  no_other x other = ok_is_not_err x (tells_one facts text (Ok a) (Err x) tells other)

  not_refused : (x : ManifestFault) → RefusesBytes facts text x → x ≢ fault.Memory → ⊥
  not_refused fault.Memory refuses other = other refl
  not_refused (fault.Tree e) refuses other = spelled_unrefused text tells.tree e.kind e.place tells.spelled refuses
  not_refused (fault.Missing what) refuses other = no_other (fault.Missing what) refuses
  not_refused (fault.Twice what) refuses other = no_other (fault.Twice what) refuses
  not_refused (fault.BadValue what) refuses other = no_other (fault.BadValue what) refuses
  not_refused fault.Signed refuses other = no_other fault.Signed refuses
  not_refused (fault.NoDigest file) refuses other = no_other (fault.NoDigest file) refuses
  not_refused (fault.BadName file) refuses other = no_other (fault.BadName file) refuses
  not_refused (fault.TwiceNamed file) refuses other = no_other (fault.TwiceNamed file) refuses
  not_refused (fault.MinimumAboveVersion minimum version) refuses other = no_other (fault.MinimumAboveVersion minimum version) refuses
  not_refused fault.OnlineOnly refuses other = no_other fault.OnlineOnly refuses
  not_refused (fault.TooMany what) refuses other = no_other (fault.TooMany what) refuses

  pub unrefused : (place : ℕ) (heard : List (List ℕ)) → slice_get heard place ≡ Some text → (x : ManifestFault) → IsRefused facts place heard x → ⊥
  unrefused place heard there x refused =
      let same = same_text (slice_get heard place) refused.0 text refused.1 there in
      not_refused x (subst (λ (t : List ℕ). RefusesBytes facts t x) same refused.2) refused.3

-- ---- the deployment

module _ (shape : Shape) (url : List ℕ) (heard : List (List ℕ)) (d : Deployment) (target : Target)
    (read : target_of_text url ≡ Ok target) (told : OfDeployment heard (λ x. x ≡ d)) where
  pub of_it : (W : Deployment → Type 0) → W d → OfDeployment heard W
  of_it W w = (told.0, told.1, told.2, told.3, subst W (sym told.4) w)

  pub is_it : (W : Deployment → Type 0) → OfDeployment heard W → W d
  is_it W x = let both = deployment_is {P = λ y. y ≡ d} {Q = W} heard told x in subst W both.1 both.2

  joins : (found : Result Target UrlFault) → app_target_of target d.codebase ≡ found → base_of url d ≡ found
  joins found e = ap (λ (r : Result Target UrlFault). r >>= (λ t. app_target_of t d.codebase)) read ∙ e

  joined : (found : Result Target UrlFault) → base_of url d ≡ found → app_target_of target d.codebase ≡ found
  joined found e = sym (ap (λ (r : Result Target UrlFault). r >>= (λ t. app_target_of t d.codebase)) read) ∙ e

  abbrev checks : List (Refusal Reply Session)
  checks = deployment_checks shape d (app_target_of target d.codebase)

  abbrev rest : List (Refusal Reply Session)
  rest = drop 2 (deployment_refusals url heard shape)

  alike : AreAlike checks rest
  alike =
      let newer = exactly_with_alike (IsNotNewer shape d) (λ have. OfDeployment heard (λ x. IsNotNewer shape x have)) (λ have. says.NotNewer have) (λ have. of_it (λ x. IsNotNewer shape x have)) (λ have. is_it (λ x. IsNotNewer shape x have)) in
      let above = exactly_with_alike (IsBelowMinimum shape d) (λ least. OfDeployment heard (λ x. IsBelowMinimum shape x least)) (λ least. says.BelowMinimum least) (λ least. of_it (λ x. IsBelowMinimum shape x least)) (λ least. is_it (λ x. IsBelowMinimum shape x least)) in
      let apps = exactly_alike (LacksEntry shape d) (OfDeployment heard (LacksEntry shape)) (says.TooMany Applications APPLICATION_LIMIT) (of_it (LacksEntry shape)) (is_it (LacksEntry shape)) in
      let views = exactly_alike (VIEW_LIMIT ≤ length shape.views) (VIEW_LIMIT ≤ length shape.views) (says.TooMany Views VIEW_LIMIT) (λ w. w) (λ w. w) in
      let spent = exactly_alike (shape.next_view ≡ NUMBER_LIMIT) (shape.next_view ≡ NUMBER_LIMIT) (says.Spent shape.next_view) (λ w. w) (λ w. w) in
      let bad = exactly_alike (app_target_of target d.codebase ≡ Err BadUrl) (OfDeployment heard (λ x. base_of url x ≡ Err BadUrl)) says.BadUrl (λ w. of_it (λ x. base_of url x ≡ Err BadUrl) (joins (Err BadUrl) w)) (λ v. joined (Err BadUrl) (is_it (λ x. base_of url x ≡ Err BadUrl) v)) in
      let other = exactly_with_alike (λ scheme. app_target_of target d.codebase ≡ Err (NotHttp scheme)) (λ scheme. OfDeployment heard (λ x. base_of url x ≡ Err (NotHttp scheme))) (λ scheme. says.NotHttp) (λ scheme w. of_it (λ x. base_of url x ≡ Err (NotHttp scheme)) (joins (Err (NotHttp scheme)) w)) (λ scheme v. joined (Err (NotHttp scheme)) (is_it (λ x. base_of url x ≡ Err (NotHttp scheme)) v)) in
      (newer, (above, (apps, (views, (spent, (bad, (other, tt)))))))

  -- it was heard, and is not refused as a text
  heard_text : (t : Target) → (target_of_text url ≡ Ok t) × (slice_get heard 0 ≡ None) → ⊥
  heard_text t lacks = some_is_not_none (slice_get heard 0) told.0 told.2 lacks.1

  read_text : (x : ManifestFault) → IsRefused deployment_of 0 heard x → ⊥
  read_text x refused = unrefused deployment_of told.0 told.1 told.3 0 heard told.2 x refused

  pub deployment_passed : PassesAll checks → PassesAll (deployment_refusals url heard shape)
  deployment_passed passes = (heard_text, (read_text, passes_alike checks rest alike passes))

  pub deployment_refused : (reply : Reply) → Refused checks reply → Refused (deployment_refusals url heard shape) reply
  deployment_refused reply (inl memory) = inl memory
  deployment_refused reply (inr refuses) = inr (λ old. inr (heard_text, inr (read_text, refuses_alike checks rest old reply old alike (refuses old))))

-- ---- the release

module _ (shape : Shape) (url : List ℕ) (heard : List (List ℕ)) (d : Deployment) (a : Application)
    (told : OfRelease heard (λ x y. (x ≡ d) × (y ≡ a))) where
  pub of_both : (W : Deployment → Application → Type 0) → W d a → OfRelease heard W
  of_both W w = release_map {P = λ x y. (x ≡ d) × (y ≡ a)} {Q = W} heard (λ x y same. subst (λ (z : Deployment). W z y) (sym same.0) (subst (λ (z : Application). W d z) (sym same.1) w)) told

  pub is_both : (W : Deployment → Application → Type 0) → OfRelease heard W → W d a
  is_both W x =
      let both = release_is {P = λ y z. (y ≡ d) × (z ≡ a)} {Q = W} heard told x in
      subst (λ (y : Deployment). W y a) both.2.0 (subst (λ (z : Application). W both.0 z) both.2.1 both.3)

  abbrev all_checks : List (Refusal Reply Session)
  all_checks = release_checks url shape d a

  abbrev others : List (Refusal Reply Session)
  others = drop 2 (release_refusals url heard shape)

  similar : AreAlike all_checks others
  similar =
      let identity = exactly_with_alike (λ reason. RefusesIdentity d a reason × (reason ≢ unlike.Memory)) (λ reason. OfRelease heard (λ x y. RefusesIdentity x y reason) × (reason ≢ unlike.Memory)) (λ reason. says.Release reason)
      (λ reason w. (of_both (λ x y. RefusesIdentity x y reason) w.0, w.1)) (λ reason v. (is_both (λ x y. RefusesIdentity x y reason) v.0, v.1)) in
      let files = exactly_alike (FILE_COUNT_LIMIT < files_after shape a) (OfRelease heard (λ x y. FILE_COUNT_LIMIT < files_after shape y)) (says.TooMany Files FILE_COUNT_LIMIT) (of_both (λ x y. FILE_COUNT_LIMIT < files_after shape y)) (is_both (λ x y. FILE_COUNT_LIMIT < files_after shape y)) in
      let locals = exactly_alike (LOCAL_COUNT_LIMIT < locals_after shape d a) (OfRelease heard (λ x y. LOCAL_COUNT_LIMIT < locals_after shape x y)) (says.TooMany Locals LOCAL_COUNT_LIMIT) (of_both (λ x y. LOCAL_COUNT_LIMIT < locals_after shape x y)) (is_both (λ x y. LOCAL_COUNT_LIMIT < locals_after shape x y)) in
      let targets = exactly_alike (OfWanted url shape d a (λ found. found ≡ Err BadUrl)) (OfRelease heard (λ x y. OfWanted url shape x y (λ found. found ≡ Err BadUrl))) says.BadUrl (of_both (λ x y. OfWanted url shape x y (λ found. found ≡ Err BadUrl))) (is_both (λ x y. OfWanted url shape x y (λ found. found ≡ Err BadUrl))) in
      let room = exactly_with_alike (λ need. (need ≡ install_need shape d a) × (free_blocks shape < need)) (λ need. OfRelease heard (λ x y. (need ≡ install_need shape x y) × (free_blocks shape < need))) (λ need. says.Full need (free_blocks shape))
      (λ need. of_both (λ x y. (need ≡ install_need shape x y) × (free_blocks shape < need))) (λ need. is_both (λ x y. (need ≡ install_need shape x y) × (free_blocks shape < need))) in
      let tables = exactly_with_alike (λ weight. IsWeightOf url shape d a weight × IsTooHeavy shape.room weight) (λ weight. OfRelease heard (λ x y. IsWeightOf url shape x y weight × IsTooHeavy shape.room weight)) (λ weight. says.TableFull (told_weight weight) (table_room shape.room))
      (λ weight. of_both (λ x y. IsWeightOf url shape x y weight × IsTooHeavy shape.room weight)) (λ weight. is_both (λ x y. IsWeightOf url shape x y weight × IsTooHeavy shape.room weight)) in
      (identity, (files, (locals, (targets, (room, (tables, tt))))))

  heard_other : (t : Target) → OfDeployment heard (λ y. base_of url y ≡ Ok t) × (slice_get heard 1 ≡ None) → ⊥
  heard_other t lacks = some_is_not_none (slice_get heard 1) told.4.0 told.4.2 lacks.1

  read_other : (x : ManifestFault) → IsRefused application_of 1 heard x → ⊥
  read_other x refused = unrefused application_of told.4.0 told.4.1 told.4.3 1 heard told.4.2 x refused

  pub release_passed : PassesAll all_checks → PassesAll (release_refusals url heard shape)
  release_passed passes = (heard_other, (read_other, passes_alike all_checks others similar passes))

  pub release_refused : (reply : Reply) → Refused all_checks reply → Refused (release_refusals url heard shape) reply
  release_refused reply (inl memory) = inl memory
  release_refused reply (inr refuses) = inr (λ old. inr (heard_other, inr (read_other, refuses_alike all_checks others old reply old similar (refuses old))))
