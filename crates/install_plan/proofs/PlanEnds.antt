-- How an install ends once its plan is there: the room for its files, what they cost, and what it comes to.
use Rattle.std.proofs.Common.{◌≡◌, ◌∙◌, ◌⊎◌, ◌*◌, ◌+◌, ◌<◌, ◌≤◌, ◌++◌, inl, inr, refl, sym, ap, subst, ℕ, Bool, true, false, cond, not, List, [], ◌∷◌, length, map, Option, Some, None, Result, Ok, Err, IsOk, append_assoc, ⊎_elim, arith}
use Rattle.std.specs.Prelude.{IfErr, IfOk, OnOk, option_map, slice_get, sum_by}
use Rattle.std.specs.List.Sorted.{IsPermutation}
use Rattle.std.proofs.lemmas.Bool.{cases_lt}
use Rattle.std.proofs.lemmas.List.Sums.{sum_by-cons}
use Rattle.std.proofs.Math.Nat.{mul_comm, mul-le-mul_left}
use Rattle.small_types.specs.Blocks.{blocks_start}
use Rattle.small_types.specs.declared.room.Room.{Room}
use Rattle.small_types.specs.declared.limits.TheConstants.{NUMBER_LIMIT}
use Rattle.small_types.specs.declared.target.Target.{Target}
use Rattle.addresses.specs.declared.fault.UrlFault.{UrlFault}
use Rattle.addresses.specs.Join.{file_target_of}
use Rattle.disks.specs.declared.disk.Disk.{Ghosts}
use Rattle.disks.specs.Moments.{Each}
use Rattle.file_store.specs.Stores.{blocks_of_all, draft_blocks, free_of, store_base}
use Rattle.file_store.specs.declared.draft.Draft.{Draft}
use Rattle.file_store.specs.declared.store.FileStore.{FileStore}
use Rattle.line_drafts.specs.Held.{AreContents, AreHeld}
use Rattle.line_drafts.specs.Works.{Works}
use Rattle.manifests.specs.declared.facts.Application.{Application}
use Rattle.manifests.specs.declared.facts.Deployment.{Deployment}
use Rattle.manifests.specs.declared.facts.FileEntry.{FileEntry}
use Rattle.manifests.specs.Applications.{is_below_pre}
use Rattle.identity.specs.declared.key.Key.{Key}
use Rattle.machine.specs.declared.reply.Reply.{Reply}
use Rattle.machine.specs.declared.reply.Reply.TheVariants.{Memory}
use Rattle.machine.specs.Blocks.{blocks_of, free_blocks}
use Rattle.machine.specs.Current.{bare_data_of, current_bare}
use Rattle.machine.specs.InstallRow.{OfRelease}
use Rattle.machine.specs.Shape.{BareData, BareView, Shape}
use Rattle.machine.specs.Store.{Store}
use Rattle.machine.specs.Wanted.{copied_need, install_need, wanted}
use Rattle.machine.proofs.WantedFiles.{are_wanted}
use Rattle.store_state.specs.declared.change.Change.{Change}
use Rattle.store_state.specs.declared.change.Change.TheVariants.{Install}
use Rattle.store_state.specs.declared.view.Content.{Content}
use Rattle.store_state.specs.declared.view.LocalFile.{LocalFile}
use Rattle.store_state.specs.declared.view.View.{View}
use Rattle.store_state.specs.Kept.{AreTables}
use Rattle.store_state.specs.Laws.{InstallsShowTheView, ShapesAreShown}
use Rattle.store_state.specs.Measured.{AreMeasured}
use Rattle.store_state.specs.Rows.{current_row, row_locals}
use Rattle.store_state.specs.Shows.{Shows}
use Rattle.store_state.specs.Tables.{Tables, bare_local, bare_row, table_shape}
use Rattle.store_state.proofs.Current.{bare_current}
use Rattle.table_files.specs.Freed.{brought}
use Rattle.table_files.specs.Held.{held_by}
use Rattle.table_files.specs.Laws.{HeldAreUsed}
use Rattle.table_weight.specs.Laws.{MigratedDataWeigh, WeighAsInstalled}
use Rattle.links.specs.Links.{LinksState, sources_of}
use Rattle.fetcher.specs.Fetched.{Kept}
use Rattle.install_plan.specs.declared.drafted.Drafted.{Drafted}
use Rattle.install_plan.specs.declared.install.Made.{Made}
use Rattle.install_plan.specs.declared.lack.Lack.{Lack}
use Rattle.install_plan.specs.declared.lack.Lack.TheVariants as why
use Rattle.install_plan.specs.declared.plan.InstallPlan.{InstallPlan}
use Rattle.install_plan.specs.declared.plan.WantedFile.{WantedFile}
use Rattle.install_plan.specs.declared.prepared.PreparedFiles.{PreparedFiles}
use Rattle.install_plan.specs.declared.prepared.PreparedFiles.TheVariants as to
use Rattle.install_plan.specs.Blocks.{UsesBlocks}
use Rattle.install_plan.specs.Carried.{carried_bytes_of, carried_in, copied_in}
use Rattle.install_plan.specs.Changes.{listed_at, old_locals, view_of}
use Rattle.install_plan.specs.Drafted.{EndsAs, IsSealed, Seals}
use Rattle.install_plan.specs.FetchedFiles.{IsStopped, WritesAsked, addresses, blocks_needed, size_in}
use Rattle.install_plan.specs.FileCosts.{AskedCost, IsInstallCost, carried_bytes}
use Rattle.install_plan.specs.InstallDrafts.{HasFiles}
use Rattle.install_plan.specs.Lacks.{lack_reply}
use Rattle.install_plan.specs.LeadsIn.{HasNew, NewBytes, new_bytes}
use Rattle.install_plan.specs.Plans.{IsPlan, IsPlanned, IsRefused}
use Rattle.install_plan.specs.Prepared.{IsPrepared, TakesBlocks}
use Rattle.install_plan.specs.Ready.{IsReady}
use Rattle.install_plan.proofs.Costs.{asked_first}
use Rattle.install_plan.proofs.WantedDrafts.{fewer_sources, memory_behind}
use Rattle.install_plan.proofs.Ended.{freed_fault, freed_reply, taken_then}
use Rattle.install_plan.proofs.GroupBlocks.{blocks_listed, free_are}
use Rattle.install_plan.proofs.FileLacks.{err_is}
use Rattle.install_plan.proofs.Planned.{copied_at}
use Rattle.install_plan.proofs.PlanFetched.{has_new, ready_with}
use Rattle.install_plan.proofs.PlanAsks.{refused_at_files}
use Rattle.install_plan.proofs.Told.{release_map}

-- ---- the bytes that are carried over

abbrev bare_cost : BareData → ℕ
bare_cost file = cond (not (is_below_pre file.name)) file.length 0

carried_are : (files : List LocalFile) → carried_in files ≡ sum_by bare_cost (map bare_local files)
carried_are [] = refl
carried_are (file ∷ files) =
    omega (arith, sum_by-cons carried_bytes_of file files, sum_by-cons bare_cost (bare_local file) (map bare_local files), carried_are files)

carried_row : (row : Option View) → carried_in (row_locals row) ≡ sum_by bare_cost (bare_data_of (option_map bare_row row))
carried_row None = refl
carried_row (Some view) = carried_are view.locals

pub carried_at : (key : Key) (tables : Tables) (room : Room) → carried_in (row_locals (current_row key tables)) ≡ carried_bytes key (table_shape room tables)
carried_at key tables room = carried_row (current_row key tables) ∙ ap (λ (b : Option BareView). sum_by bare_cost (bare_data_of b)) (bare_current key tables room)

-- ---- room and cost

module _ (room : Room) (tables : Tables) (url : List ℕ) (texts : List (List ℕ)) (plan : InstallPlan) (is : IsPlan (table_shape room tables) url texts plan) where
  abbrev shape : Shape
  shape = table_shape room tables

  abbrev need : ℕ
  need = install_need shape plan.deployment plan.application

  of_release : {P : Deployment → Application → Type 0} → P plan.deployment plan.application → OfRelease texts P
  of_release {P} holds = release_map {Q = P} texts (λ x y same. subst (λ (z : Deployment). P z y) (sym same.0) (subst (P plan.deployment) (sym same.1) holds)) is.told

  not_short : free_blocks shape < need → ⊥
  not_short short = is.release.1.1.1.1.1.1.0 need (of_release {P = λ x y. (need ≡ install_need shape x y) × (free_blocks shape < need)} (refl, short))

  -- there are blocks for all files
  pub install_room : (files : FileStore) → HeldAreUsed → AreTables tables → AreMeasured tables → UsesBlocks files room (held_by tables)
      → blocks_needed plan.application.files plan.wanted + copied_in (old_locals tables plan) ≤ length (free_of files)
  install_room files law are measured uses =
      by (blocks_needed plan.application.files plan.wanted) (sum_by (λ (entry : FileEntry). blocks_of entry.size) (wanted shape.views plan.application)) (copied_in (old_locals tables plan)) (copied_need (bare_data_of (current_bare plan.deployment.identity.key shape)))
      need (free_blocks shape) (length (free_of files))
      (blocks_listed plan.application.files plan.wanted (wanted shape.views plan.application) is.places)
      (copied_at plan.deployment.identity.key tables room (current_row plan.deployment.identity.key tables) refl)
      (ap (λ (n : ℕ). n + copied_need (bare_data_of (current_bare plan.deployment.identity.key shape))) (sym (are_wanted shape.views plan.application).blocks))
      not_short (free_are room tables files law are measured uses)
    where
      by : (wants sum copies copied all free own : ℕ) → wants ≡ sum → copies ≡ copied → all ≡ sum + copied → (free < all → ⊥) → own ≡ free → wants + copies ≤ own
      by wants sum copies copied all free own wants_are copies_are whole enough same =
          let kept : all ≤ free = ⊎_elim (λ short. absurd (enough short)) (λ less. less) (cases_lt free all) in
          omega (arith, kept)

  -- what was written
  module _ (a b c : LinksState) (planned : IsPlanned shape url texts a b plan) where
    abbrev place_of : FileEntry → Result Target UrlFault
    place_of entry = file_target_of plan.base plan.deployment.mapped entry.name

    pub asked_cost : (fetched : ℕ) → WritesAsked plan.application.files plan.wanted b c fetched → AskedCost (wanted shape.views plan.application) place_of a c fetched
    asked_cost fetched writes =
        let first = asked_first plan.application.files place_of (wanted shape.views plan.application) plan.wanted b c fetched writes is.places is.targets in
        let sum = sum_by (λ (entry : FileEntry). entry.size) first.earlier in
        let few : sources_of b ≤ sources_of a = fewer_sources a b planned.hearing.kept.kept in
        let most : fetched ≤ sources_of b * sum = subst (λ (n : ℕ). fetched ≤ sources_of b * n) first.sum writes.within in
        let less : sources_of b * sum ≤ sources_of a * sum = subst (λ (n : ℕ). n ≤ sources_of a * sum) (mul_comm sum (sources_of b)) (subst (λ (n : ℕ). sum * sources_of b ≤ n) (mul_comm sum (sources_of a)) (mul-le-mul_left sum few)) in
        record {
          asked = first.earlier;
          others = first.later;
          split = first.split;
          since = planned.hearing.asked;
          targets = addresses writes.first.asked;
          named = first.named;
          grown = writes.first.grown ∙ ap (λ (ts : List Target). ts ++ addresses writes.first.asked) planned.hearing.grown ∙ append_assoc a.asked planned.hearing.asked (addresses writes.first.asked);
          within = omega (arith, most, less);
        }

    pub install_cost : (fetched most : ℕ) → WritesAsked plan.application.files plan.wanted b c fetched → most ≤ fetched + carried_in (old_locals tables plan) → IsInstallCost shape texts a c most
    install_cost fetched most writes few =
        let carried = carried_at plan.deployment.identity.key tables room in
        inr (of_release {P = λ d x. (base : Target) × (asked : ℕ) × AskedCost (wanted shape.views x) (λ entry. file_target_of base d.mapped entry.name) a c asked × (most ≤ asked + carried_bytes d.identity.key shape)}
        (plan.base, fetched, asked_cost fetched writes, omega (arith, few, carried)))

-- ---- what it comes to

-- what the drafts of a plan came to
abbrev pub IsDraftedFor : {D : Type 0} → Ghosts D → Tables → InstallPlan → LinksState → LinksState → ℕ → FileStore → List Draft → D → D → Drafted → Type 0
IsDraftedFor on tables plan b c now files drafts disk done drafted =
    (locals : List LocalFile) × (programs : List Content) × HasFiles on tables plan b c files drafts disk done locals programs drafted.taken drafted.unused drafted.reply
    × (drafted.change ≡ Install (view_of tables plan locals) programs plan.provider now)

module _ {D : Type 0} (on : Ghosts D) (room : Room) (tables : Tables) (url : List ℕ) (texts : List (List ℕ)) (a b c : LinksState) (plan : InstallPlan) (planned : IsPlanned (table_shape room tables) url texts a b plan) (now : ℕ)
    (files mid last : FileStore) (drafts : List Draft) (disk done new : D) (drafted : Result Drafted Lack) (ended : PreparedFiles) (most : ℕ)
    (works : Works on [] drafts files mid disk done most (drafted ≡ Err why.DiskFault)) (ends : EndsAs drafted ended) (seals : Seals on drafts drafted mid last done new ended)
    (uses : UsesBlocks files room (held_by tables)) (measured : AreMeasured tables) (are : AreTables tables) (moment : now ≤ NUMBER_LIMIT) (shapes : ShapesAreShown) (law : InstallsShowTheView) (weighs : WeighAsInstalled) (data_weigh : MigratedDataWeigh) where
  abbrev Prepares : PreparedFiles → Type 0
  Prepares = IsPrepared on room tables url texts a c now files last disk new

  abbrev start : ℕ
  start = blocks_start room.half

  refused : (reply : Reply) → IsStopped plan.application.files plan.wanted b c reply → IsRefused (table_shape room tables) url texts a c reply
  refused reply stopped = refused_at_files (table_shape room tables) url texts a b c plan planned stopped.kept reply stopped

  ended_reply : (reply : Reply) → IsStopped plan.application.files plan.wanted b c reply → ended ≡ to.Reply reply → Prepares ended
  ended_reply reply stopped is = subst Prepares (sym is) (refused reply stopped, freed_reply on drafts files mid last disk done new drafted ended most works ends seals reply is)

  ended_fault : IsStopped plan.application.files plan.wanted b c Memory → ended ≡ to.DiskFault → Prepares ended
  ended_fault stopped is = subst Prepares (sym is) (refused Memory stopped, freed_fault on drafts files mid last disk done new drafted ended most works ends seals is)

  -- there is a change
  module _ (made : Drafted) (is_for : IsDraftedFor on tables plan b c now files drafts disk done made) where
    abbrev locals : List LocalFile
    locals = is_for.0

    abbrev programs : List Content
    programs = is_for.1

    abbrev so : HasFiles on tables plan b c files drafts disk done locals programs made.taken made.unused made.reply
    so = is_for.2

    module _ (is : ended ≡ to.Change made.change made.reply made.taken made.unused) where
      sealed : (later : List ℕ) → on.left_at new (on.moment new) later → (held : List (List ℕ)) → AreHeld start drafts held (on.seen new) → AreContents start (map draft_blocks drafts) held later
      sealed later left held holds =
          let base : store_base mid ≡ start = works.range.base ∙ uses.base in
          let each : IsSealed on (store_base mid) drafts done new (to.Change made.change made.reply made.taken made.unused) = subst (IsSealed on (store_base mid) drafts done new) is seals.contents in
          subst (λ (n : ℕ). AreContents n (map draft_blocks drafts) held later) base
          (each held (subst (λ (n : ℕ). AreHeld n drafts held (on.seen done)) (sym base) (subst (AreHeld start drafts held) seals.seen holds)) later left)

      takes : TakesBlocks files last made.change made.taken made.unused
      takes = record {
        blocks = taken_then on drafts files mid last disk done new drafted ended most works ends seals made.change made.reply made.taken made.unused is ∙ ap (λ (l : List ℕ). l ++ free_of last) (sym so.all);
        same = subst (λ (x : Change). IsPermutation made.taken (brought x ++ made.unused)) (sym is_for.3) so.blocks;
      }

      told : on.tells new → on.tells done
      told tells = seals.spends.told tells

      all : (whole : IsReady (on.tells new) (on.seen disk) (on.seen new) room tables url texts a c now made.change made.reply) × (whole.bytes ≡ new_bytes room made.change (on.seen new))
      all = ready_with on room tables url texts a b c plan planned files mid drafts disk done locals programs made.taken made.unused made.reply so most _ works uses measured are (on.seen new) seals.seen now moment shapes law weighs data_weigh (on.tells new) told made.change is_for.3

      each_new : on.tells new → (store : Store) → Shows room tables (on.seen disk) store → Each on new (HasNew room made.change all.0.bytes)
      each_new tells store shows = λ image left.
          subst (λ (bytes : NewBytes). HasNew room made.change bytes image) (sym all.1)
          (has_new on room tables url texts a b c plan planned files mid drafts disk done locals programs made.taken made.unused made.reply so most _ works uses measured are (on.seen new) seals.seen store shows (told tells) image now made.change is_for.3 (sealed image left))

      ended_change : Prepares ended
      ended_change = subst Prepares (sym is) (all.0, each_new, takes)

  -- by what came of the drafts
  pub install_ended : IfOk drafted (IsDraftedFor on tables plan b c now files drafts disk done) → IfErr drafted (λ lack. IsStopped plan.application.files plan.wanted b c (lack_reply lack)) → Prepares ended
  install_ended fetched stopped = by drafted refl
    where
      one_of : (made : Drafted) → drafted ≡ Ok made → (ended ≡ to.Change made.change made.reply made.taken made.unused) ⊎ (ended ≡ to.DiskFault) → Prepares ended
      one_of made was (inl is) = ended_change made (subst (λ (r : Result Drafted Lack). IfOk r (IsDraftedFor on tables plan b c now files drafts disk done)) was fetched) is
      one_of made was (inr is) =
          let came : IsDraftedFor on tables plan b c now files drafts disk done made = subst (λ (r : Result Drafted Lack). IfOk r (IsDraftedFor on tables plan b c now files drafts disk done)) was fetched in
          ended_fault (memory_behind plan.application.files plan.wanted b c came.2.has.gave came.2.has.got) is

      by : (r : Result Drafted Lack) → drafted ≡ r → Prepares ended
      by (Ok made) was = one_of made was (subst (λ (r : Result Drafted Lack). EndsAs r ended) was ends)
      by (Err (why.Reply reply)) was =
          ended_reply reply (subst (λ (r : Result Drafted Lack). IfErr r (λ lack. IsStopped plan.application.files plan.wanted b c (lack_reply lack))) was stopped) (subst (λ (r : Result Drafted Lack). EndsAs r ended) was ends)
      by (Err why.DiskFault) was =
          ended_fault (subst (λ (r : Result Drafted Lack). IfErr r (λ lack. IsStopped plan.application.files plan.wanted b c (lack_reply lack))) was stopped) (subst (λ (r : Result Drafted Lack). EndsAs r ended) was ends)

-- ---- the drafts, by what the plan's reference gave

module _ {D : Type 0} (on : Ghosts D) (tables : Tables) (plan : InstallPlan) (b c : LinksState) (now : ℕ) (files : FileStore) (drafts : List Draft) (disk done : D) (made : Result Made Lack) (drafted : Result Drafted Lack)
    (change : IfOk made (λ m. IfOk drafted (λ dr. dr ≡ record {
      change = Install (view_of tables plan m.files.placed.locals) m.files.programs plan.provider now;
      reply = m.reply;
      taken = m.files.placed.taken;
      unused = m.files.placed.unused;
    })))
    (well : OnOk made (IsOk drafted)) (lacks : IfErr made (λ lack. drafted ≡ Err lack)) where
  abbrev MadeSo : Made → Type 0
  MadeSo m = HasFiles on tables plan b c files drafts disk done m.files.placed.locals m.files.programs m.files.placed.taken m.files.placed.unused m.reply

  abbrev change_for : Made → Drafted
  change_for m = record {
    change = Install (view_of tables plan m.files.placed.locals) m.files.programs plan.provider now;
    reply = m.reply;
    taken = m.files.placed.taken;
    unused = m.files.placed.unused;
  }

  not_ok : (lack : Lack) → drafted ≡ Err lack → IsOk drafted → ⊥
  not_ok lack is ok = (let no : IsOk {T = Drafted} {E = Lack} (Err lack) = subst (λ (r : Result Drafted Lack). IsOk r) is ok in cc)

  pub drafted_for : IfOk made MadeSo → IfOk drafted (IsDraftedFor on tables plan b c now files drafts disk done)
  drafted_for so = by made drafted refl refl
    where
      by : (m : Result Made Lack) (dr : Result Drafted Lack) → made ≡ m → drafted ≡ dr → IfOk drafted (IsDraftedFor on tables plan b c now files drafts disk done)
      by m (Err lack) was is = subst (λ (r : Result Drafted Lack). IfOk r (IsDraftedFor on tables plan b c now files drafts disk done)) (sym is) tt
      by (Err lack) (Ok dr) was is =
          let same : drafted ≡ Err lack = subst (λ (r : Result Made Lack). IfErr r (λ l. drafted ≡ Err l)) was lacks in absurd (let no = sym is ∙ same in cc)
      by (Ok m) (Ok dr) was is =
          let one : IfOk drafted (λ x. x ≡ change_for m) = subst (λ (r : Result Made Lack). IfOk r (λ k. IfOk drafted (λ x. x ≡ change_for k))) was change in
          let same : dr ≡ change_for m = subst (λ (r : Result Drafted Lack). IfOk r (λ x. x ≡ change_for m)) is one in
          let has : MadeSo m = subst (λ (r : Result Made Lack). IfOk r MadeSo) was so in
          subst (λ (r : Result Drafted Lack). IfOk r (IsDraftedFor on tables plan b c now files drafts disk done)) (sym is)
          (subst (IsDraftedFor on tables plan b c now files drafts disk done) (sym same) (m.files.placed.locals, m.files.programs, has, refl))

  pub lacks_for : (P : Lack → Type 0) → IfErr made P → IfErr drafted P
  lacks_for P stopped = by made drafted refl refl
    where
      by : (m : Result Made Lack) (dr : Result Drafted Lack) → made ≡ m → drafted ≡ dr → IfErr drafted P
      by m (Ok dr) was is = subst (λ (r : Result Drafted Lack). IfErr r P) (sym is) tt
      by (Ok m) (Err lack) was is = absurd (not_ok lack is (subst (λ (r : Result Made Lack). OnOk r (IsOk drafted)) was well))
      by (Err other) (Err lack) was is =
          let same : drafted ≡ Err other = subst (λ (r : Result Made Lack). IfErr r (λ l. drafted ≡ Err l)) was lacks in
          subst (λ (r : Result Drafted Lack). IfErr r P) (sym same) (subst (λ (r : Result Made Lack). IfErr r P) was stopped)

  pub fault_to : made ≡ Err why.DiskFault → drafted ≡ Err why.DiskFault
  fault_to was = subst (λ (r : Result Made Lack). IfErr r (λ l. drafted ≡ Err l)) was lacks

  pub fault_from : drafted ≡ Err why.DiskFault → made ≡ Err why.DiskFault
  fault_from is = by made refl
    where
      by : (m : Result Made Lack) → made ≡ m → made ≡ Err why.DiskFault
      by (Ok m) was = absurd (not_ok why.DiskFault is (subst (λ (r : Result Made Lack). OnOk r (IsOk drafted)) was well))
      by (Err lack) was =
          let same : drafted ≡ Err lack = subst (λ (r : Result Made Lack). IfErr r (λ l. drafted ≡ Err l)) was lacks in
          was ∙ ap Err (err_is lack why.DiskFault (sym same ∙ is))
