-- The change that a plan comes to fits the tables, and leads to the store in which the release is installed.
use Rattle.std.proofs.Common.{◌≡◌, ◌∙◌, ◌⊎◌, ◌++◌, ◌+◌, ◌<◌, ◌≤◌, inl, inr, refl, sym, ap, subst, ℕ, List, [], ◌∷◌, All, length, map, None, Option, Some, Result, arith}
use Rattle.std.specs.Prelude.{sum_by}
use Rattle.std.proofs.lemmas.Bool.{cases_lt}
use Rattle.std.proofs.lemmas.List.{length-map}
use Rattle.std.proofs.lemmas.List.Elements.{All-append, All-cons, All-nil}
use Rattle.small_types.specs.declared.room.Room.{Room}
use Rattle.small_types.specs.declared.limits.TheConstants.{APPLICATION_LIMIT, FILE_COUNT_LIMIT, LOCAL_COUNT_LIMIT, NUMBER_LIMIT, VIEW_LIMIT}
use Rattle.small_types.specs.declared.target.Target.{Target}
use Rattle.addresses.specs.declared.fault.UrlFault.{UrlFault}
use Rattle.addresses.specs.Join.{file_target_of}
use Rattle.manifests.specs.declared.facts.Application.{Application}
use Rattle.manifests.specs.declared.facts.Deployment.{Deployment}
use Rattle.manifests.specs.declared.facts.FileEntry.{FileEntry}
use Rattle.machine.specs.declared.command.Command.TheVariants.{Install as InstallCommand}
use Rattle.machine.specs.declared.reply.Reply.TheVariants.{Installed as IsInstalled}
use Rattle.machine.specs.Current.{current_view, data_of, listed_by}
use Rattle.machine.specs.Fields.{IsApplication, IsDeployment, IsTarget}
use Rattle.machine.specs.Installed.{IsProvidedBy, with_view}
use Rattle.machine.specs.InstallRow.{InstallEffect, LacksEntry, OfDeployment, OfRelease, address_refusals, deployment_refusals, file_refusals, install_refusals, locals_after, release_refusals}
use Rattle.machine.specs.Machine.{Answers}
use Rattle.machine.specs.Migrated.{Migrated}
use Rattle.machine.specs.Rows.{PassesAll, Refusal}
use Rattle.machine.specs.Shape.{BareView, Shape, shape_of}
use Rattle.machine.specs.Sound.{Sound}
use Rattle.machine.specs.Store.{Session, Store}
use Rattle.machine.specs.Views.{DataFile, ListedFile, standing_entries}
use Rattle.machine.specs.Wanted.{wanted}
use Rattle.machine.proofs.Addresses.{codebase_is_held, text_is_held}
use Rattle.machine.proofs.Members.{sum_map}
use Rattle.machine.proofs.ReadApplications.{application_read}
use Rattle.machine.proofs.ReadDeployments.{deployment_read}
use Rattle.store_state.specs.declared.view.Content.{Content}
use Rattle.store_state.specs.declared.view.LocalFile.{LocalFile}
use Rattle.store_state.specs.declared.view.View.{View}
use Rattle.links.specs.Links.{LinksState}
use Rattle.store_state.specs.Change.{Fits, effect}
use Rattle.store_state.specs.Kept.{AreTables}
use Rattle.store_state.specs.Laws.{InstallsShowTheView, ShapesAreShown}
use Rattle.store_state.specs.Locals.{outside_locals}
use Rattle.store_state.specs.Rows.{current_row, row_files, row_locals}
use Rattle.store_state.specs.Shows.{Shows, shown_data, shown_file}
use Rattle.store_state.specs.Stored.{content_bytes, data_bytes}
use Rattle.store_state.specs.Tables.{Tables, bare_row, table_shape}
use Rattle.data_migration.specs.declared.plan.LocalPlan.{LocalPlan}
use Rattle.install_plan.specs.declared.plan.InstallPlan.{InstallPlan}
use Rattle.install_plan.specs.Changes.{AreMade, HaveMade, change_of_plan, listed_at, old_locals, plan_contents, plan_originals, view_of}
use Rattle.install_plan.specs.LeadsIn.{LeadsIn, NewBytes, new_bytes}
use Rattle.install_plan.specs.Plans.{IsPlan}
use Rattle.install_plan.proofs.WantedPlaces.{rest_is}
use Rattle.install_plan.proofs.Carried.{migrated, plan_names}
use Rattle.install_plan.proofs.Fetched.{ArePartsOf, whole_originals}
use Rattle.install_plan.proofs.MadeData.{made_are, made_order, made_outside}
use Rattle.install_plan.proofs.Planned.{IsInOrder, counted, row_are}
use Rattle.install_plan.proofs.SameImages.{entries_same, locals_same}
use Rattle.install_plan.proofs.NewView.{fetched}
use Rattle.install_plan.proofs.InstallContents.{brings}
use Rattle.install_plan.proofs.Told.{deployment_of_release, release_map}

not_less : (a b : ℕ) → ¬ (a < b) → b ≤ a
not_less a b not = by (cases_lt a b)
  where
    by : (a < b) ⊎ (b ≤ a) → b ≤ a
    by (inl less) = absurd (not less)
    by (inr le) = le

less_than : (a b : ℕ) → ¬ (b ≤ a) → a < b
less_than a b not = by (cases_lt a b)
  where
    by : (a < b) ⊎ (b ≤ a) → a < b
    by (inl less) = less
    by (inr le) = absurd (not le)

-- where functions give the same lists they give the same of each
map_alike : {X Y : Type 0} (f g : X → Y) (xs : List X) → map f xs ≡ map g xs → All (λ x. f x ≡ g x) xs
map_alike f g [] same = All-nil (λ x. f x ≡ g x)
map_alike f g (x ∷ xs) same = All-cons (λ y. f y ≡ g y) x xs (head_is (f x) (g x) (map f xs) (map g xs) same) (map_alike f g xs (rest_is (f x) (g x) (map f xs) (map g xs) same))
  where
    head_is : {Z : Type 0} (x y : Z) (xs ys : List Z) → x ∷ xs ≡ y ∷ ys → x ≡ y
    head_is x y xs ys e = cc

joined_passes : {R S : Type 0} (xs ys : List (Refusal R S)) → PassesAll xs → PassesAll ys → PassesAll (xs ++ ys)
joined_passes [] ys first second = second
joined_passes (x ∷ xs) ys first second = (first.0, joined_passes xs ys first.1 second)

-- ---- what a plan says

module _ (room : Room) (tables : Tables) (url : List ℕ) (texts : List (List ℕ)) (plan : InstallPlan) (is : IsPlan (table_shape room tables) url texts plan) where
  abbrev shape : Shape
  shape = table_shape room tables

  abbrev d : Deployment
  d = plan.deployment

  abbrev a : Application
  a = plan.application

  of_release : {P : Deployment → Application → Type 0} → P d a → OfRelease texts P
  of_release {P} holds = release_map {Q = P} texts (λ x y same. subst (λ (z : Deployment). P z y) (sym same.0) (subst (P d) (sym same.1) holds)) is.told

  of_deployment : {P : Deployment → Type 0} → P d → OfDeployment texts P
  of_deployment {P} holds = deployment_of_release {Q = P} texts (λ x y same. subst P (sym same.0) holds) is.told

  held_deployment : IsDeployment d
  held_deployment = let told = is.told in subst IsDeployment told.4.4.0 (deployment_read told.0 told.1 told.3)

  pub held_application : IsApplication a
  held_application = let second = is.told.4 in subst IsApplication second.4.1 (application_read second.0 second.1 second.3)

  held_base : IsTarget plan.base
  held_base = codebase_is_held plan.url d.codebase plan.base is.joined

  held_provider : IsTarget plan.provider
  held_provider = by d.provider is.provided
    where
      by : (text : Option (List ℕ)) → IsProvidedBy plan.url text plan.provider → IsTarget plan.provider
      by None given = subst IsTarget (sym given) (text_is_held url plan.url is.read)
      by (Some text) read = text_is_held text plan.provider read

  few_locals : locals_after shape d a ≤ LOCAL_COUNT_LIMIT
  few_locals = not_less LOCAL_COUNT_LIMIT (locals_after shape d a) (λ many. is.release.1.1.1.1.0 (of_release {P = λ x y. LOCAL_COUNT_LIMIT < locals_after shape x y} many))

  -- ---- it fits

  abbrev place_of : FileEntry → Result Target UrlFault
  place_of entry = file_target_of plan.base d.mapped entry.name

  abbrev row : Option View
  row = current_row d.identity.key tables

  outside_are : (plans : List LocalPlan) (locals : List LocalFile) → IsInOrder tables plan plans → AreMade (old_locals tables plan) a.files plans locals → outside_locals locals ≡ locals_after shape d a
  outside_are plans locals has made = made_outside (old_locals tables plan) a.files plans locals made ∙ counted d.identity.key tables room a.files plans has.are

  pub plan_fits : (plans : List LocalPlan) (locals : List LocalFile) (there : List ℕ) (before behind : LinksState) (contents : List Content) (now : ℕ) → AreTables tables → now ≤ NUMBER_LIMIT → IsInOrder tables plan plans → AreMade (old_locals tables plan) a.files plans locals
      → ArePartsOf room there before behind place_of (map bare_row tables.views) a contents (listed_at a.files plan.wanted) → Fits tables (change_of_plan tables plan locals contents now)
  plan_fits plans locals there before behind contents now are moment has made parts = record {
    number = refl;
    next = less_than tables.next_view NUMBER_LIMIT (λ le. is.deployment.1.1.1.1.1.1.0 (omega (arith, are.limit, le)));
    moment = moment;
    row = record {
      deployment = held_deployment;
      application = held_application;
      base = held_base;
      order = made_order (old_locals tables plan) a.files plans locals made has.order;
      locals = made_are (old_locals tables plan) a.files plans locals made
          (plan_names (row_locals row) (row_files row) a (row_are d.identity.key tables row refl are) held_application plans has.are.names);
      few = subst (λ (n : ℕ). n ≤ LOCAL_COUNT_LIMIT) (sym (outside_are plans locals has made)) few_locals;
    };
    groups = refl;
    has_provider = held_provider;
    brings = brings (map bare_row tables.views) a tables.contents (plan_contents plan contents) are.contents parts.keys;
    application = λ none. less_than (length tables.apps) APPLICATION_LIMIT (λ many. is.deployment.1.1.1.1.0 (of_deployment {P = LacksEntry shape} (none, many)));
    views = (let less = less_than (length (map bare_row tables.views)) VIEW_LIMIT is.deployment.1.1.1.1.1.0 in omega (arith, less, length-map tables.views bare_row));
    files = (let most = not_less FILE_COUNT_LIMIT _ (λ many. is.release.1.1.1.0 (of_release {P = λ x y. FILE_COUNT_LIMIT < sum_by (λ (view : BareView). length view.application.files) shape.views + length y.files} many)) in
        omega (arith, most, sum_map bare_row (λ (view : BareView). length view.application.files) tables.views));
  }

  -- ---- all refusals are passed

  pub plan_passes : PassesAll (install_refusals url texts shape)
  plan_passes =
      joined_passes (address_refusals url) (deployment_refusals url texts shape ++ release_refusals url texts shape ++ file_refusals url texts shape) is.address
      (joined_passes (deployment_refusals url texts shape) (release_refusals url texts shape ++ file_refusals url texts shape) is.deployment
      (joined_passes (release_refusals url texts shape) (file_refusals url texts shape) is.release (tt, tt)))

  -- ---- what it leads to

  module _ (plans : List LocalPlan) (locals : List LocalFile) (shapes : ShapesAreShown) (there : List ℕ) (old : Session) (idle : old.jobs ≡ []) (before behind : LinksState) (contents : List Content) (now : ℕ) (shows : Shows room tables there old.store) (are : AreTables tables)
      (has : IsInOrder tables plan plans) (have : HaveMade room there (old_locals tables plan) (plan_originals room there plan contents) plans locals)
      (parts : ArePartsOf room there before behind place_of (map bare_row tables.views) a contents (listed_at a.files plan.wanted)) (fits : Fits tables (change_of_plan tables plan locals contents now)) where
    abbrev after : List Content
    after = tables.contents ++ plan_contents plan contents

    abbrev pub led_data : List DataFile
    led_data = map (shown_data room there) locals

    -- the store with the new view
    abbrev pub led_store : Store
    led_store = with_view plan.provider plan.base d a (map (shown_file room there after) (standing_entries [] a)) led_data now old.store

    abbrev pub led : Session
    led = record old { store = led_store }

    pub same_shape : shape_of old ≡ shape
    same_shape = shapes room tables there old idle shows

    pub led_migrated : Sound old.store → Migrated (data_of (current_view d.identity.key old.store)) (listed_by (current_view d.identity.key old.store)) a.files (plan_originals room there plan contents) led_data
    led_migrated sound = migrated room tables there old.store shows d.identity.key a held_application sound plans has.are (plan_originals room there plan contents) parts.deployed locals have

    next_is : old.store.next_view ≡ tables.next_view
    next_is = ap (λ (s : Store). s.next_view) shows.is

    pub plan_effect : Sound old.store → InstallEffect url texts now old (IsInstalled d.identity.key d.identity.version tables.next_view) led
    plan_effect sound = record {
      target = plan.url;
      read = is.read;
      deployment = d;
      application = a;
      told = is.told;
      base = plan.base;
      joined = is.joined;
      files = map (shown_file room there after) (standing_entries [] a);
      originals = plan_originals room there plan contents;
      fetched = fetched room tables there old.store (plan_contents plan contents) shows are.contents sound parts.whole a (plan_originals room there plan contents) parts.deployed
          (whole_originals room there before behind place_of (wanted (map bare_row tables.views) a) (plan_originals room there plan contents) parts.originals) fits.brings;
      store = led_store;
      installed = record {
        provider = plan.provider;
        provided = is.provided;
        data_files = led_data;
        migrated = led_migrated sound;
        is = refl;
      };
      is = refl;
      replied = ap (λ (n : ℕ). IsInstalled d.identity.key d.identity.version n) (sym next_is);
    }

    pub plan_step : Sound old.store → Answers now texts old (InstallCommand url) (IsInstalled d.identity.key d.identity.version tables.next_view) led
    plan_step sound = inr ((tt, subst (λ (s : Shape). PassesAll (install_refusals url texts s)) (sym same_shape) plan_passes), plan_effect sound)

    -- each later image with the same files and the same new ones shows it
    pub plan_shows : InstallsShowTheView → LeadsIn room (change_of_plan tables plan locals contents now) tables there (new_bytes room (change_of_plan tables plan locals contents now) there) led_store
    plan_shows law = record {
      shows = λ later same had.
          let new_contents = map_alike (content_bytes room later) (content_bytes room there) (plan_contents plan contents) (ap (λ (b : NewBytes). b.contents) had.are) in
          let new_locals = map_alike (data_bytes room later) (data_bytes room there) locals (ap (λ (b : NewBytes). b.locals) had.are) in
          let every = All-append (λ (c : Content). content_bytes room later c ≡ content_bytes room there c) tables.contents (plan_contents plan contents) same.contents new_contents in
          let led_later = law room tables (view_of tables plan locals) (plan_contents plan contents) plan.provider now there later old.store shows same had.measured fits in
          subst (λ (ds : List DataFile). Shows room (effect (change_of_plan tables plan locals contents now) tables) later
          (with_view plan.provider plan.base d a (map (shown_file room there after) (standing_entries [] a)) ds now old.store)) (locals_same room there later locals new_locals)
          (subst (λ (fs : List ListedFile). Shows room (effect (change_of_plan tables plan locals contents now) tables) later
          (with_view plan.provider plan.base d a fs (map (shown_data room later) locals) now old.store)) (entries_same room there later after every (standing_entries [] a)) led_later);
    }
