-- An install that may come is refused nowhere, and is answered.
use Rattle.std.proofs.Common.{◌≡◌, ◌≢◌, ◌∙◌, inr, refl, sym, ap, subst, ℕ, List, All, AllPairs, Option, Some, None, Result, Ok, Err, arith}
use Rattle.std.specs.Prelude.{IsOk, option_and_then, slice_get}
use Rattle.std.specs.declared.cmp.Ordering.TheVariants.{Less}
use Rattle.small_types.specs.declared.target.Target.{Target}
use Rattle.small_types.specs.Outcome.{◌>>=◌}
use Rattle.addresses.specs.declared.fault.UrlFault.{UrlFault}
use Rattle.addresses.specs.declared.fault.UrlFault.TheVariants.{BadUrl, NotHttp}
use Rattle.addresses.specs.Address.{target_of_text}
use Rattle.addresses.specs.Join.{app_target_of, file_target_of}
use Rattle.identity.specs.declared.key.Key.{Key}
use Rattle.identity.specs.Printed.{text_cmp}
use Rattle.manifest_tree.specs.Tree.{Tree}
use Rattle.manifest_tree.proofs.Refused.{spelled_unrefused}
use Rattle.manifest_parts.specs.declared.fault.ManifestFault.{ManifestFault}
use Rattle.manifest_parts.specs.declared.fault.ManifestFault.TheVariants as fault
use Rattle.manifest_parts.specs.Elements.{Read}
use Rattle.manifest_parts.specs.Parts.{RefusesBytes, Tells}
use Rattle.manifests.specs.declared.facts.Application.{Application}
use Rattle.manifests.specs.declared.facts.Deployment.{Deployment}
use Rattle.manifests.specs.declared.facts.FileEntry.{FileEntry}
use Rattle.manifests.specs.declared.releases.ReleaseFault.{ReleaseFault}
use Rattle.manifests.specs.declared.releases.ReleaseFault.TheVariants.{IdentityDiffers, Mismatch, VersionDiffers}
use Rattle.manifests.specs.declared.releases.ReleaseFault.TheVariants as unlike
use Rattle.manifests.specs.Applications.{application_of}
use Rattle.manifests.specs.Deployments.{deployment_of}
use Rattle.manifests.specs.Releases.{RefusesIdentity}
use Rattle.manifest_writer.specs.Applications.{application_text}
use Rattle.manifest_writer.specs.Deployments.{deployment_text}
use Rattle.machine.specs.declared.command.Command.TheVariants.{Install}
use Rattle.machine.specs.declared.event.Event.TheVariants.{Line}
use Rattle.machine.specs.declared.reply.Reply.TheVariants as says
use Rattle.machine.specs.Current.{current_of, current_view, data_of, listed_by, view_at}
use Rattle.machine.specs.Installed.{AreFetched, IsProvidedBy, with_view}
use Rattle.machine.specs.InstallRow.{InstallEffect, IsRefused, IsWeightOf, OfDeployment, OfRelease, OfText, OfWanted, address_refusals, base_of, deployment_refusals, install_refusals, weight_installed}
use Rattle.machine.specs.Machine.{Step}
use Rattle.machine.specs.Migrated.{Migrated}
use Rattle.machine.specs.Rows.{PassesAll}
use Rattle.machine.specs.Shape.{Shape, shape_of}
use Rattle.machine.specs.Store.{Session, Store}
use Rattle.machine.specs.Valid.{IsView, Ordered}
use Rattle.machine.specs.Views.{DataFile, ListedFile, View}
use Rattle.machine.specs.Wanted.{wanted}
use Rattle.machine.specs.Weight.{IsTooHeavy}
use Rattle.machine.proofs.InstallExact.{some_is_not_none, text_one}
use Rattle.machine.proofs.Leased.{view_in}
use Rattle.machine.proofs.Members.{all_in, in_contains}
use Rattle.machine.proofs.OneMigration.{migration}
use Rattle.machine.proofs.Told.{tells_one}
use Rattle.written_releases.specs.Installable.{IsInstallable}
use Rattle.written_releases.specs.Written.{IsWrittenRelease, NamedRelease, texts_of}
use Rattle.written_releases.proofs.WrittenTexts.{application_tells, deployment_tells}

-- ---- a text that tells something is not refused

module _ {A : Type 0} (facts : Tree → Read A) (bytes : List ℕ) (a : A) (tells : Tells facts bytes (Ok a)) where
  ok_or_err : (x : ManifestFault) → ◌≡◌ {A = Read A} (Ok a) (Err x) → ⊥
  ok_or_err x e = absurd cc

  not_told : (x : ManifestFault) → Tells facts bytes (Err x) → ⊥
  not_told x other = ok_or_err x (tells_one facts bytes (Ok a) (Err x) tells other)

  pub not_refused : (x : ManifestFault) → RefusesBytes facts bytes x → x ≢ fault.Memory → ⊥
  not_refused fault.Memory refuses other = other refl
  not_refused (fault.Tree e) refuses other = spelled_unrefused bytes tells.tree e.kind e.place tells.spelled refuses
  not_refused (fault.Missing what) refuses other = not_told (fault.Missing what) refuses
  not_refused (fault.Twice what) refuses other = not_told (fault.Twice what) refuses
  not_refused (fault.BadValue what) refuses other = not_told (fault.BadValue what) refuses
  not_refused fault.Signed refuses other = not_told fault.Signed refuses
  not_refused (fault.NoDigest file) refuses other = not_told (fault.NoDigest file) refuses
  not_refused (fault.BadName file) refuses other = not_told (fault.BadName file) refuses
  not_refused (fault.TwiceNamed file) refuses other = not_told (fault.TwiceNamed file) refuses
  not_refused (fault.MinimumAboveVersion minimum version) refuses other = not_told (fault.MinimumAboveVersion minimum version) refuses
  not_refused fault.OnlineOnly refuses other = not_told fault.OnlineOnly refuses
  not_refused (fault.TooMany what) refuses other = not_told (fault.TooMany what) refuses

same_some : (x y : List ℕ) → ◌≡◌ {A = Option (List ℕ)} (Some x) (Some y) → x ≡ y
same_some x y e = cc

-- the text at the place tells something
pub none_refused : {A : Type 0} (facts : Tree → Read A) (place : ℕ) (heard : List (List ℕ)) (text : List ℕ) (a : A) → slice_get heard place ≡ Some text → Tells facts text (Ok a)
    → (reason : ManifestFault) → IsRefused facts place heard reason → ⊥
none_refused facts place heard text a there tells reason refused =
    not_refused facts text a tells reason
    (subst (λ (bytes : List ℕ). RefusesBytes facts bytes reason) (same_some refused.0 text (sym refused.1 ∙ there)) refused.2) refused.3

-- ---- values

ok_is : (x y : Target) → ◌≡◌ {A = Result Target UrlFault} (Ok x) (Ok y) → x ≡ y
ok_is x y e = cc

ok_is_no_err : (x : Target) (e : UrlFault) → ◌≡◌ {A = Result Target UrlFault} (Ok x) (Err e) → ⊥
ok_is_no_err x e same = absurd cc

-- one target
one_target : (found : Result Target UrlFault) (x y : Target) → found ≡ Ok x → found ≡ Ok y → x ≡ y
one_target found x y first second = ok_is x y (sym first ∙ second)

-- a target, and no fault
no_fault : (found : Result Target UrlFault) (x : Target) (e : UrlFault) → found ≡ Ok x → found ≡ Err e → ⊥
no_fault found x e first second = ok_is_no_err x e (sym first ∙ second)

fine_or_err : (found : Result Target UrlFault) (e : UrlFault) → IsOk found → found ≡ Err e → ⊥
fine_or_err (Ok x) e fine is = ok_is_no_err x e is
fine_or_err (Err other) e fine is = absurd cc

provided_once : (target one other : Target) (text : Option (List ℕ)) → IsProvidedBy target text one → IsProvidedBy target text other → one ≡ other
provided_once target one other None first second = first ∙ sym second
provided_once target one other (Some text) first second = one_target (target_of_text text) one other first second

-- ---- one release

-- the application that is listed is refused in no way
not_unlike : (d : Deployment) (a : Application) → a.identity.key ≡ d.app.key → a.identity.version ≡ d.app.version → (reason : ReleaseFault) → RefusesIdentity d a reason
    → reason ≢ unlike.Memory → ⊥
not_unlike d a key version unlike.Memory refuses other = other refl
not_unlike d a key version (Mismatch difference) refuses other = refuses
not_unlike d a key version (IdentityDiffers listed found) refuses other = refuses.other (refuses.listed_is ∙ sym key ∙ sym refuses.found_is)
not_unlike d a key version (VersionDiffers listed found) refuses other = refuses.other (refuses.listed_is ∙ sym version ∙ sym refuses.found_is)

module _ (r : NamedRelease) (is : IsWrittenRelease r) where
  abbrev d : Deployment
  d = r.deployment

  abbrev a : Application
  a = r.application

  abbrev heard : List (List ℕ)
  heard = texts_of r

  abbrev d_text : List ℕ
  d_text = deployment_text r.deployment r.publisher r.product

  abbrev a_text : List ℕ
  a_text = application_text r.application

  d_tells : Tells deployment_of d_text (Ok d)
  d_tells = deployment_tells d r.publisher r.product is.deployment_is

  a_tells : Tells application_of a_text (Ok a)
  a_tells = application_tells a is.application_is

  abbrev d_told : OfDeployment heard (λ x. x ≡ d)
  d_told = (d_text, d, refl, d_tells, refl)

  abbrev a_told : OfText application_of 1 heard (λ x. x ≡ a)
  a_told = (a_text, a, refl, a_tells, refl)

  told : OfRelease heard (λ x y. (x ≡ d) × (y ≡ a))
  told = (d_text, d, refl, d_tells, (a_text, a, refl, a_tells, (refl, refl)))

  -- what holds of what is told holds of the release
  of_d : {P : Deployment → Type 0} → OfDeployment heard P → P d
  of_d {P} x = subst P (text_one deployment_of 0 heard x d_told) x.4

  of_both : {P : Deployment → Application → Type 0} → OfRelease heard P → P d a
  of_both {P} x =
      subst (λ (y : Application). P d y) (text_one application_of 1 heard x.4 a_told)
      (subst (λ (y : Deployment). P y x.4.1) (text_one deployment_of 0 heard x d_told) x.4.4)

  module _ (url : List ℕ) (shape : Shape) (may : IsInstallable url shape r.deployment r.application) where
    joined_once : (read : Result Target UrlFault) → read ≡ Ok may.target → (read >>= (λ target. app_target_of target d.codebase)) ≡ Ok may.base
    joined_once read same = ap (λ (x : Result Target UrlFault). x >>= (λ target. app_target_of target d.codebase)) same ∙ may.joined

    base_is : base_of url d ≡ Ok may.base
    base_is = joined_once (target_of_text url) may.read

    abbrev IsFine : Target → FileEntry → Type 0
    IsFine base entry = IsOk (file_target_of base r.deployment.mapped entry.name)

    wanted_fine : (e : UrlFault) → OfWanted url shape d a (λ read. read ≡ Err e) → ⊥
    wanted_fine e (base, read, (i, entry, lt, there, is_err)) =
        let same : may.base ≡ base = one_target (base_of url d) may.base base base_is read in
        let all : All (IsFine base) (wanted shape.views a) = subst (λ (b : Target). All (IsFine b) (wanted shape.views a)) same may.addresses in
        fine_or_err (file_target_of base d.mapped entry.name) e (all_in (IsFine base) (wanted shape.views a) entry all (in_contains (wanted shape.views a) entry (i, lt, there))) is_err

    light : (weight : ℕ) → IsWeightOf url shape d a weight → IsTooHeavy shape.room weight → ⊥
    light weight of heavy =
        may.tables (subst (λ (w : ℕ). IsTooHeavy shape.room w) is_that heavy)
      where
        same_target : of.target ≡ may.target
        same_target = one_target (target_of_text url) of.target may.target of.read may.read

        same_base : of.base ≡ may.base
        same_base = one_target (app_target_of may.target d.codebase) of.base may.base
            (subst (λ (t : Target). app_target_of t d.codebase ≡ Ok of.base) same_target of.joined) may.joined

        same_provider : of.provider ≡ may.provider
        same_provider = provided_once may.target of.provider may.provider d.provider
            (subst (λ (t : Target). IsProvidedBy t d.provider of.provider) same_target of.provided) may.provided

        is_that : weight ≡ weight_installed may.provider may.base d a shape
        is_that = of.is ∙ ap (λ (p : Target). weight_installed p of.base d a shape) same_provider
            ∙ ap (λ (b : Target). weight_installed may.provider b d a shape) same_base

    address_passes : PassesAll (address_refusals url)
    address_passes = (
      (λ e. no_fault (target_of_text url) may.target BadUrl may.read e),
      ((λ scheme e. no_fault (target_of_text url) may.target (NotHttp scheme) may.read e), tt),
    )

    deployment_passes : PassesAll (deployment_refusals url heard shape)
    deployment_passes = (
      (λ target there. some_is_not_none d_text there.1),
      (
        (λ reason refused. none_refused deployment_of 0 heard d_text d refl d_tells reason refused),
        (
          (λ have x. (let p = of_d x in p.1 (may.newer have p.0))),
          (
            (λ minimum x. (let p = of_d x in may.reached minimum p.0 p.1)),
            (
              (λ x. may.entry (of_d x)),
              (
                (λ full. (let room = may.views in absurd (omega (arith, full, room)))),
                (
                  (λ spent. (let room = may.number in absurd (omega (arith, spent, room)))),
                  (
                    (λ x. no_fault (base_of url d) may.base BadUrl base_is (of_d x)),
                    ((λ scheme x. no_fault (base_of url d) may.base (NotHttp scheme) base_is (of_d x)), tt),
                  ),
                ),
              ),
            ),
          ),
        ),
      ),
    )

    pub passes : PassesAll (install_refusals url heard shape)
    passes =
        let addressed = address_passes in
        let deployed = deployment_passes in (
          addressed.0,
          (
            addressed.1.0,
            (
              deployed.0,
              (
                deployed.1.0,
                (
                  deployed.1.1.0,
                  (
                    deployed.1.1.1.0,
                    (
                      deployed.1.1.1.1.0,
                      (
                        deployed.1.1.1.1.1.0,
                        (
                          deployed.1.1.1.1.1.1.0,
                          (
                            deployed.1.1.1.1.1.1.1.0,
                            (
                              deployed.1.1.1.1.1.1.1.1.0,
                              (
                                (λ target there. some_is_not_none a_text there.1),
                                (
                                  (λ reason refused. none_refused application_of 1 heard a_text a refl a_tells reason refused),
                                  (
                                    (λ reason x. not_unlike d a is.key is.version reason (of_both x.0) x.1),
                                    (
                                      (λ x. (let over = of_both x in let few = may.files in omega (arith, over, few))),
                                      (
                                        (λ x. (let over = of_both x in let few = may.locals in omega (arith, over, few))),
                                        (
                                          (λ x. wanted_fine BadUrl (of_both x)),
                                          (
                                            (λ need x. (let p = of_both x in let room = may.blocks in omega (arith, p.0, p.1, room))),
                                            ((λ weight x. (let p = of_both x in light weight p.0 p.1)), (tt, tt)),
                                          ),
                                        ),
                                      ),
                                    ),
                                  ),
                                ),
                              ),
                            ),
                          ),
                        ),
                      ),
                    ),
                  ),
                ),
              ),
            ),
          ),
        )

-- ---- the line

module _ (r : NamedRelease) (is : IsWrittenRelease r) (url : List ℕ) (old : Session) (may : IsInstallable url (shape_of old) r.deployment r.application) (now : ℕ)
    (files originals : List ListedFile) (fetched : AreFetched old.store r.application files originals) (data_files : List DataFile)
    (migrated : Migrated (data_of (current_view r.deployment.identity.key old.store)) (listed_by (current_view r.deployment.identity.key old.store)) r.application.files originals data_files)
  where
    abbrev pub after : Session
    after = record old { store = with_view may.provider may.base r.deployment r.application files data_files now old.store }

    effect : InstallEffect url (texts_of r) now old (says.Installed r.deployment.identity.key r.deployment.identity.version old.store.next_view) after
    effect = record {
      target = may.target;
      read = may.read;
      deployment = r.deployment;
      application = r.application;
      told = told r is;
      base = may.base;
      joined = may.joined;
      files = files;
      originals = originals;
      fetched = fetched;
      store = after.store;
      installed = record { provider = may.provider; provided = may.provided; data_files = data_files; migrated = migrated; is = refl };
      is = refl;
      replied = refl;
    }

    pub install_step : Step now old (Line (Install url) now (record { texts = texts_of r })) (Some (says.Installed r.deployment.identity.key r.deployment.identity.version old.store.next_view)) after
    install_step = record {
      moment = refl;
      hears = (address_passes r is url (shape_of old) may, deployment_passes r is url (shape_of old) may, (d_text r is, r.deployment, refl, d_tells r is, is.listed));
      answer = says.Installed r.deployment.identity.key r.deployment.identity.version old.store.next_view;
      replied = refl;
      answers = inr ((tt, passes r is url (shape_of old) may), effect);
    }

-- ---- the data files of the current view

abbrev InOrder : Option View → Type 0
InOrder view = AllPairs (λ (f g : DataFile). text_cmp f.name g.name ≡ Less) (data_of view)

module _ (store : Store) (was : Ordered store) where
  order_at : (number : ℕ) (view : Option View) → view_at number store.views ≡ view → InOrder view
  order_at number None same = λ i j d lt within. absurd (omega arith)
  order_at number (Some view) same = (all_in IsView store.views view was.views (view_in number store.views view same).0).data_order

  order_then : (number : Option ℕ) → InOrder (option_and_then (λ (n : ℕ). view_at n store.views) number)
  order_then None = λ i j d lt within. absurd (omega arith)
  order_then (Some number) = order_at number (view_at number store.views) refl

  current_order : (key : Key) → InOrder (current_view key store)
  current_order key = order_then (current_of key store.apps)

-- ---- the law

pub install_answered : (now : ℕ) (url : List ℕ) (old : Session) (r : NamedRelease) (files originals : List ListedFile) → Ordered old.store → IsWrittenRelease r
    → IsInstallable url (shape_of old) r.deployment r.application → AreFetched old.store r.application files originals
    → (new : Session) × Step now old (Line (Install url) now (record { texts = texts_of r })) (Some (says.Installed r.deployment.identity.key r.deployment.identity.version old.store.next_view)) new
install_answered now url old r files originals ordered is may fetched =
    let view = current_view r.deployment.identity.key old.store in
    let made = migration (data_of view) (listed_by view) r.application originals (current_order old.store ordered r.deployment.identity.key)
    is.application_is.may_be_held.facts fetched.deployed in
    (after r is url old may now files originals fetched made.0 made.1, install_step r is url old may now files originals fetched made.0 made.1)
