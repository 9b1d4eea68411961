-- An install that is refused nowhere.
use Rattle.std.proofs.Common.{◌≡◌, ◌≢◌, ◌∙◌, ◌⊎◌, ◌++◌, ◌+◌, ◌<◌, ◌≤◌, inl, inr, refl, sym, ap, subst, ℕ, Bool, true, false, cond, not, eqb, List, [], ◌∷◌, length, map, All, Option, Some, None, bytes_eq, arith}
use Rattle.std.specs.Prelude.{count_by, option_and_then, sum_by}
use Rattle.std.proofs.lemmas.Bool.{cases_lt}
use Rattle.std.proofs.lemmas.List.{length-map}
use Rattle.std.proofs.lemmas.List.Elements.{All-head, All-nil, All-tail}
use Rattle.std.proofs.lemmas.Slice.Eq.{bytes_eq-Decides}
use Rattle.small_types.specs.declared.limits.TheConstants.{FILE_COUNT_LIMIT, LOCAL_COUNT_LIMIT, NUMBER_LIMIT, VIEW_LIMIT}
use Rattle.small_types.specs.declared.room.Room.{Room}
use Rattle.small_types.specs.declared.target.Target.{Target}
use Rattle.identity.specs.declared.key.Key.{Key}
use Rattle.identity.specs.declared.version.Version.{Version}
use Rattle.manifests.specs.declared.facts.Application.{Application}
use Rattle.manifests.specs.declared.facts.Deployment.{Deployment}
use Rattle.manifests.specs.declared.facts.FileEntry.{FileEntry}
use Rattle.manifests.specs.declared.releases.ReleaseFault.TheVariants.{IdentityDiffers, VersionDiffers}
use Rattle.manifests.specs.Applications.{is_below_pre}
use Rattle.manifests.specs.Releases.{RefusesIdentity}
use Rattle.machine.specs.declared.reply.Reply.{Reply}
use Rattle.machine.specs.Blocks.{free_blocks, used_blocks}
use Rattle.machine.specs.Current.{bare_listed_by, current_bare, current_of, current_view, data_of, listed_by, view_at}
use Rattle.machine.specs.Fields.{IsApplication, IsDeployment, IsTarget}
use Rattle.machine.specs.Installed.{IsProvidedBy}
use Rattle.machine.specs.InstallLaws.{IsInstall}
use Rattle.machine.specs.InstallRow.{IsWeightOf, LacksEntry, OfDeployment, OfRelease, address_refusals, deployment_refusals, file_refusals, locals_after, release_refusals, weight_installed}
use Rattle.machine.specs.Migrated.{migrated_names}
use Rattle.machine.specs.Rows.{PassesAll, Refusal}
use Rattle.machine.specs.Shape.{BareData, BareView, Shape, bare_data, bare_view, shape_of}
use Rattle.machine.specs.Sound.{Sound}
use Rattle.machine.specs.Store.{Session, Store, session_over}
use Rattle.machine.specs.Valid.{IsDataFile, IsView, Ordered, Valid}
use Rattle.machine.specs.Views.{DataFile, View}
use Rattle.machine.specs.Wanted.{install_need}
use Rattle.machine.specs.Weight.{IsLight, IsTooHeavy, weight_of}
use Rattle.machine.proofs.Addresses.{codebase_is_held, text_is_held}
use Rattle.machine.proofs.BroughtFiles.{bare_data_current, bare_listed_current, installed_sound, used_after}
use Rattle.machine.proofs.CountedBlocks.{counted_more}
use Rattle.machine.proofs.InstallWeights.{installed_weight}
use Rattle.machine.proofs.NewView.{Fitting, installed_ordered}
use Rattle.machine.proofs.Lightness.{is_light}
use Rattle.machine.proofs.Members.{sum_map}
use Rattle.machine.proofs.MovedFiles.{are_data, few_named}
use Rattle.machine.proofs.ReadApplications.{application_read}
use Rattle.machine.proofs.ReadDeployments.{deployment_read}

-- ---- passed refusals

passes_both : {R S : Type 0} (xs ys : List (Refusal R S)) → PassesAll (xs ++ ys) → PassesAll xs × PassesAll ys
passes_both [] ys passes = (tt, passes)
passes_both (x ∷ xs) ys passes = let rest = passes_both xs ys passes.1 in ((passes.0, rest.0), rest.1)

not_less : (a b : ℕ) → ¬ (a < b) → b ≤ a
not_less a b not = by (cases_lt a b)
  where
    by : (a < b) ⊎ (b ≤ a) → b ≤ a
    by (inl less) = absurd (not less)
    by (inr le) = le

less_than : (a b : ℕ) → ¬ (b ≤ a) → a < b
less_than a b not = by (cases_lt a b)
  where
    by : (a < b) ⊎ (b ≤ a) → a < b
    by (inl less) = less
    by (inr le) = absurd (not le)

-- ---- one key, one version

same_bytes : (a b : List ℕ) → ¬ (a ≢ b) → a ≡ b
same_bytes a b not = by (bytes_eq a b) refl
  where
    by : (t : Bool) → bytes_eq a b ≡ t → a ≡ b
    by true e = (bytes_eq-Decides a b).0 e
    by false e = absurd (not (λ same. apart (sym ((bytes_eq-Decides a b).1 same) ∙ e)))
      where
        apart : true ≡ false → ⊥
        apart h = cc

same_key : (a b : Key) → ¬ (a ≢ b) → a ≡ b
same_key a b not =
    let part = λ (get : Key → List ℕ). same_bytes (get a) (get b) (λ differ. not (λ same. differ (ap get same))) in
    ap (λ (x : List ℕ). record a { name = x }) (part (λ (k : Key). k.name))
    ∙ ap (λ (x : List ℕ). record a { name = b.name; token = x }) (part (λ (k : Key). k.token))
    ∙ ap (λ (x : List ℕ). record b { language = x; architecture = a.architecture }) (part (λ (k : Key). k.language))
    ∙ ap (λ (x : List ℕ). record b { architecture = x }) (part (λ (k : Key). k.architecture))

same_number : (a b : ℕ) → ¬ (a ≢ b) → a ≡ b
same_number a b not = omega (arith, not_less a b (λ lt. not (λ e. omega (arith, lt, e))), not_less b a (λ lt. not (λ e. omega (arith, lt, e))))

same_version : (a b : Version) → ¬ (a ≢ b) → a ≡ b
same_version a b not =
    let part = λ (get : Version → ℕ). same_number (get a) (get b) (λ differ. not (λ same. differ (ap get same))) in
    ap (λ (x : ℕ). record a { a = x }) (part (λ (v : Version). v.a))
    ∙ ap (λ (x : ℕ). record a { a = b.a; b = x }) (part (λ (v : Version). v.b))
    ∙ ap (λ (x : ℕ). record b { c = x; d = a.d }) (part (λ (v : Version). v.c))
    ∙ ap (λ (x : ℕ). record b { d = x }) (part (λ (v : Version). v.d))

-- ---- names with their bytes and without

data_names : (files : List DataFile) → map (λ (file : BareData). file.name) (map bare_data files) ≡ map (λ (file : DataFile). file.name) files
data_names [] = refl
data_names (file ∷ files) = ap (λ (names : List (List ℕ)). file.name ∷ names) (data_names files)

locals_is : (store : Store) (d : Deployment) (a : Application) → locals_after (shape_of (session_over store)) d a ≡ count_by (λ (name : List ℕ). not (is_below_pre name)) (migrated_names (map (λ (file : DataFile). file.name) (data_of (current_view d.identity.key store))) (listed_by (current_view d.identity.key store)) a.files)
locals_is store d a =
    ap (λ (datas : List BareData). count_by (λ (name : List ℕ). not (is_below_pre name)) (migrated_names (map (λ (file : BareData). file.name) datas) (bare_listed_by (current_bare d.identity.key (shape_of (session_over store)))) a.files)) (bare_data_current d.identity.key store)
    ∙ ap (λ (names : List (List ℕ)). count_by (λ (name : List ℕ). not (is_below_pre name)) (migrated_names names (bare_listed_by (current_bare d.identity.key (shape_of (session_over store)))) a.files)) (data_names (data_of (current_view d.identity.key store)))
    ∙ ap (λ (files : List FileEntry). count_by (λ (name : List ℕ). not (is_below_pre name)) (migrated_names (map (λ (file : DataFile). file.name) (data_of (current_view d.identity.key store))) files a.files)) (bare_listed_current d.identity.key store)

-- ---- the data files of the current view

found_data : (b : Bool) (view : View) (rest : Option View) → IsView view → All IsDataFile (data_of rest) → All IsDataFile (data_of (cond b (Some view) rest))
found_data true view rest is others = is.data_files
found_data false view rest is others = others

data_at : (number : ℕ) (views : List View) → All IsView views → All IsDataFile (data_of (view_at number views))
data_at number [] all = All-nil IsDataFile
data_at number (view ∷ views) all = found_data (eqb view.number number) view (view_at number views) (All-head IsView view views all) (data_at number views (All-tail IsView view views all))

data_then : (number : Option ℕ) (views : List View) → All IsView views → All IsDataFile (data_of (option_and_then (λ (n : ℕ). view_at n views) number))
data_then None views all = All-nil IsDataFile
data_then (Some number) views all = data_at number views all

current_data : (key : Key) (store : Store) → Ordered store → All IsDataFile (data_of (current_view key store))
current_data key store was = data_then (current_of key store.apps) store.views was.views

-- ---- an install

module _ {url : List ℕ} {heard : List (List ℕ)} {now : ℕ} {old : Session} {reply : Reply} {new : Session} (is : IsInstall url heard now old reply new) where
  abbrev shape : Shape
  shape = shape_of old

  abbrev d : Deployment
  d = is.effect.deployment

  abbrev a : Application
  a = is.effect.application

  pub of_deployment : {P : Deployment → Type 0} → P d → OfDeployment heard P
  of_deployment {P} holds = let told = is.effect.told in (told.0, told.1, told.2, told.3, subst P (sym told.4.4.0) holds)

  pub of_release : {P : Deployment → Application → Type 0} → P d a → OfRelease heard P
  of_release {P} holds =
      let told = is.effect.told in
      let second = told.4 in
      (told.0, told.1, told.2, told.3, (second.0, second.1, second.2, second.3, subst (λ (x : Deployment). P x second.1) (sym second.4.0) (subst (P d) (sym second.4.1) holds)))

  -- what was read may be held
  pub held_deployment : IsDeployment d
  held_deployment = let told = is.effect.told in subst IsDeployment told.4.4.0 (deployment_read told.0 told.1 told.3)

  held_application : IsApplication a
  held_application = let second = is.effect.told.4 in subst IsApplication second.4.1 (application_read second.0 second.1 second.3)

  held_target : IsTarget is.effect.target
  held_target = text_is_held url is.effect.target is.effect.read

  held_base : IsTarget is.effect.base
  held_base = codebase_is_held is.effect.target d.codebase is.effect.base is.effect.joined

  held_provider : (text : Option (List ℕ)) (provider : Target) → IsProvidedBy is.effect.target text provider → IsTarget provider
  held_provider None provider given = subst IsTarget (sym given) held_target
  held_provider (Some text) provider read = text_is_held text provider read

  behind_release : List (Refusal Reply Session)
  behind_release = file_refusals url heard shape

  behind_deployment : List (Refusal Reply Session)
  behind_deployment = release_refusals url heard shape ++ file_refusals url heard shape

  behind_address : List (Refusal Reply Session)
  behind_address = deployment_refusals url heard shape ++ release_refusals url heard shape ++ file_refusals url heard shape

  past_address : PassesAll behind_address
  unfolding behind_address
  past_address = (passes_both (address_refusals url) behind_address is.passes).1

  pub deployment_passes : PassesAll (deployment_refusals url heard shape)
  unfolding behind_address behind_deployment
  deployment_passes = (passes_both (deployment_refusals url heard shape) behind_deployment past_address).0

  past_deployment : PassesAll behind_deployment
  unfolding behind_address behind_deployment
  past_deployment = (passes_both (deployment_refusals url heard shape) behind_deployment past_address).1

  pub release_passes : PassesAll (release_refusals url heard shape)
  unfolding behind_deployment behind_release
  release_passes = (passes_both (release_refusals url heard shape) behind_release past_deployment).0

  -- ---- what was passed

  has_entry_room : ¬ LacksEntry shape d
  has_entry_room lacks = deployment_passes.1.1.1.1.0 (of_deployment {P = LacksEntry shape} lacks)

  has_view_room : length old.store.views < VIEW_LIMIT
  has_view_room =
      let less = less_than (length (map bare_view old.store.views)) VIEW_LIMIT deployment_passes.1.1.1.1.1.0 in
      omega (arith, less, length-map old.store.views bare_view)

  has_number_room : Ordered old.store → old.store.next_view < NUMBER_LIMIT
  has_number_room was =
      let limit = was.view_numbers.limit in
      less_than old.store.next_view NUMBER_LIMIT (λ le. deployment_passes.1.1.1.1.1.1.0 (omega (arith, limit, le)))

  has_file_room : sum_by (λ (view : View). length view.application.files) old.store.views + length a.files ≤ FILE_COUNT_LIMIT
  has_file_room =
      let few = not_less FILE_COUNT_LIMIT _ (λ many. release_passes.1.1.1.0 (of_release {P = λ x y. FILE_COUNT_LIMIT < sum_by (λ (view : BareView). length view.application.files) shape.views + length y.files} many)) in
      omega (arith, few, sum_map bare_view (λ (view : BareView). length view.application.files) old.store.views)

  has_locals_room : locals_after shape d a ≤ LOCAL_COUNT_LIMIT
  has_locals_room =
      let few = not_less LOCAL_COUNT_LIMIT (locals_after shape d a) (λ many. release_passes.1.1.1.1.0 (of_release {P = λ x y. LOCAL_COUNT_LIMIT < locals_after shape x y} many)) in
      omega (arith, few)

  has_room : install_need shape d a ≤ free_blocks shape
  has_room = not_less (free_blocks shape) (install_need shape d a) (λ less. release_passes.1.1.1.1.1.1.0 (install_need shape d a) (of_release {P = λ x y. (install_need shape d a ≡ install_need shape x y) × (free_blocks shape < install_need shape d a)} (refl, less)))

  one_key : a.identity.key ≡ d.app.key
  one_key =
      same_key a.identity.key d.app.key (λ differ. release_passes.1.1.0 (IdentityDiffers d.app.key a.identity.key)
      (of_release {P = λ x y. RefusesIdentity x y (IdentityDiffers d.app.key a.identity.key)} (record { listed_is = refl; found_is = refl; other = λ same. differ (sym same) }), λ e. cc))

  one_version : a.identity.version ≡ d.app.version
  one_version =
      same_version a.identity.version d.app.version (λ differ. release_passes.1.1.0 (VersionDiffers d.app.version a.identity.version)
      (of_release {P = λ x y. RefusesIdentity x y (VersionDiffers d.app.version a.identity.version)} (record { key = one_key; listed_is = refl; found_is = refl; other = λ same. differ (sym same) }), λ e. cc))

  -- ---- what it leads to

  fitting : Ordered old.store → Fitting is.effect.installed.provider is.effect.base d a is.effect.files is.effect.installed.data_files now old.store
  fitting was =
      let effect = is.effect in
      let made = effect.installed in
      let was_data = data_of (current_view d.identity.key old.store) in
      let was_listed = listed_by (current_view d.identity.key old.store) in
      record {
        deployment = held_deployment;
        application = held_application;
        has_provider = held_provider d.provider made.provider made.provided;
        has_base = held_base;
        moment = is.moment;
        required = effect.fetched.required;
        data_order = made.migrated.order;
        are_data = are_data was_data was_listed a.files effect.originals made.data_files made.migrated effect.fetched.deployed held_application.facts.each held_application.files (current_data d.identity.key old.store was);
        few_data = (let few = few_named was_data was_listed a.files effect.originals made.data_files made.migrated effect.fetched.deployed in omega (arith, few, locals_is old.store d a, has_locals_room));
        entry_room = has_entry_room;
        view_room = has_view_room;
        number_room = has_number_room was;
        file_room = has_file_room;
      }

  left_ordered : Ordered old.store → Ordered is.effect.store
  left_ordered was = subst Ordered (sym is.effect.installed.is) (installed_ordered is.effect.installed.provider is.effect.base d a is.effect.files is.effect.installed.data_files now old.store (fitting was) was)

  left_room : Valid old.store → used_blocks (map bare_view is.effect.store.views) ≤ is.effect.store.room.blocks
  left_room was =
      let used = used_after is.effect.installed.provider is.effect.base d a is.effect.files is.effect.originals is.effect.installed.data_files now old.store is.effect.fetched is.effect.installed.migrated in
      let room = was.room in
      subst (λ (store : Store). used_blocks (map bare_view store.views) ≤ store.room.blocks) (sym is.effect.installed.is) (omega (arith, used, room, has_room, counted_more shape.views shape.jobs))

  -- the tables have room for it
  abbrev new_weight : ℕ
  new_weight = weight_installed is.effect.installed.provider is.effect.base d a shape

  is_weight : IsWeightOf url shape d a new_weight
  is_weight = record {
    target = is.effect.target;
    read = is.effect.read;
    base = is.effect.base;
    joined = is.effect.joined;
    provider = is.effect.installed.provider;
    provided = is.effect.installed.provided;
    is = refl;
  }

  fits : IsTooHeavy shape.room new_weight → ⊥
  fits heavy = release_passes.1.1.1.1.1.1.1.0 new_weight (of_release {P = λ x y. IsWeightOf url shape x y new_weight × IsTooHeavy shape.room new_weight} (is_weight, heavy))

  pub left_weight : Ordered old.store → weight_of (map bare_view is.effect.store.views) is.effect.store.apps ≡ new_weight
  left_weight was =
      ap (λ (store : Store). weight_of (map bare_view store.views) store.apps) is.effect.installed.is
      ∙ installed_weight is.effect.installed.provider is.effect.base d a is.effect.files is.effect.originals is.effect.installed.data_files now old.store is.effect.fetched is.effect.installed.migrated was held_application.facts

  left_light : Ordered old.store → IsLight is.effect.store.room (weight_of (map bare_view is.effect.store.views) is.effect.store.apps)
  left_light was =
      let same_room : is.effect.store.room ≡ old.store.room = ap (λ (store : Store). store.room) is.effect.installed.is in
      subst (λ (room : Room). IsLight room (weight_of (map bare_view is.effect.store.views) is.effect.store.apps)) (sym same_room)
      (subst (IsLight old.store.room) (sym (left_weight was)) (is_light old.store.room new_weight fits))

  pub left_valid : Valid old.store → Valid new.store
  left_valid was = subst (λ (s : Session). Valid s.store) (sym is.effect.is) (record { ordered = left_ordered was.ordered; room = left_room was; light = left_light was.ordered })

  -- what was weighed is what the new tables weigh
  pub weighed : Ordered old.store → OfRelease heard (λ x y. IsWeightOf url shape x y (weight_of (shape_of new).views (shape_of new).apps))
  weighed was =
      let same : weight_of (shape_of new).views (shape_of new).apps ≡ new_weight =
      ap (λ (s : Session). weight_of (shape_of s).views (shape_of s).apps) is.effect.is ∙ left_weight was in
      of_release {P = λ x y. IsWeightOf url shape x y (weight_of (shape_of new).views (shape_of new).apps)}
      (subst (λ (n : ℕ). IsWeightOf url shape d a n) (sym same) is_weight)

  pub left_sound : Sound old.store → Sound new.store
  left_sound was =
      let valid = subst Valid is.effect.installed.is (subst (λ (s : Session). Valid s.store) is.effect.is (left_valid was.valid)) in
      subst (λ (s : Session). Sound s.store) (sym is.effect.is)
      (subst Sound (sym is.effect.installed.is) (installed_sound is.effect.installed.provider is.effect.base d a is.effect.files is.effect.originals is.effect.installed.data_files now old.store is.effect.fetched is.effect.installed.migrated one_key one_version valid was))
