-- What a group asked of its links, where files are wanted.
use Rattle.std.proofs.Common.{◌≡◌, ◌≢◌, ◌∙◌, ◌*◌, ◌≤◌, ◌++◌, inl, inr, refl, sym, ap, subst, ℕ, false, List, [], ◌∷◌, map, Option, Some, Result, Ok, Err, append_assoc}
use Rattle.std.specs.Prelude.{Any, IfSome, slice_get, sum_by}
use Rattle.std.proofs.lemmas.Bool.{false≢true}
use Rattle.std.proofs.lemmas.List.{map-append}
use Rattle.std.proofs.lemmas.Option.{same_Some}
use Rattle.small_types.specs.declared.room.Room.{Room}
use Rattle.small_types.specs.declared.target.Target.{Target}
use Rattle.addresses.specs.declared.fault.UrlFault.{UrlFault}
use Rattle.addresses.specs.declared.fault.UrlFault.TheVariants.{BadUrl}
use Rattle.addresses.specs.Join.{file_target_of}
use Rattle.causes.specs.declared.cause.Cause.{Cause}
use Rattle.digest_list.specs.declared.digest.Digest.{Digest}
use Rattle.manifests.specs.declared.facts.FileEntry.{FileEntry}
use Rattle.machine.specs.declared.reply.Reply.{Reply}
use Rattle.machine.specs.declared.reply.Reply.TheVariants as says
use Rattle.machine.specs.Asked.{AsksGroup}
use Rattle.machine.specs.Fields.{IsApplication}
use Rattle.machine.specs.GroupRow.{OfComing, group_refusals, room_refusals, weight_grown}
use Rattle.machine.specs.Groups.{group_files, group_stands, group_wanted}
use Rattle.machine.specs.Rows.{PassesAll}
use Rattle.machine.specs.Shape.{BareView}
use Rattle.machine.specs.Weight.{IsTooHeavy}
use Rattle.machine.proofs.Members.{In, in_right, map_in}
use Rattle.machine.proofs.Ungrouped.{group_ungrouped}
use Rattle.store_state.specs.declared.view.View.{View}
use Rattle.store_state.specs.Tables.{Tables, bare_row, table_shape}
use Rattle.links.specs.Links.{LinksState, sources_of}
use Rattle.fetcher.specs.Fetched.{Kept, KeptBut}
use Rattle.fetcher.proofs.Liars.{but_weaker}
use Rattle.install_plan.specs.declared.plan.WantedFile.{WantedFile}
use Rattle.install_plan.specs.FetchedFiles.{IsFileUngiven, IsListedIn, IsStopped, Stops, StopsAt, WritesAsked, addresses, size_in}
use Rattle.install_plan.specs.FileCosts.{IsGroupCost}
use Rattle.install_plan.specs.GroupAsked.{AccountsGroup, GroupServed, IsListedOfGroup, LacksOfGroup}
use Rattle.install_plan.specs.GroupReady.{AreLacking, AreUnasked, IsGroupOver, IsNotBrought, IsUnasked, address_in, lacking, ungrouped}
use Rattle.install_plan.specs.InstallHeard.{IsListedFor, WereGiven}
use Rattle.install_plan.proofs.WantedPlaces.{IsAmong, among, given_at}
use Rattle.install_plan.proofs.PlanTargets.{same_oks}
use Rattle.install_plan.proofs.Costs.{asked_first}
use Rattle.install_plan.proofs.Downs.{counts_none, group_counts}
use Rattle.install_plan.proofs.GroupOver.{bad_url_over, blocks_pass, by_refusal, has_group, memory_over, of_view, over_by, reached, space_over}
use Rattle.install_plan.proofs.LeasedRows.{IsLeased, lease_lives, view_valid}
use Rattle.install_plan.proofs.ListedFiles.{listed_among}
use Rattle.install_plan.proofs.UngroupedFiles.{IsSplit, front as front_of, same_addresses, same_given, same_sizes, split}
use Rattle.install_plan.proofs.Wants.{in_any, none_refused}

-- the addresses of the wanted files, as one list
oks_of : (wanted : List WantedFile)
    → ◌≡◌ {A = List (Result Target UrlFault)} (map (λ file. Ok file.target) wanted)
    (map Ok (addresses wanted))
oks_of [] = refl
oks_of (file ∷ wanted) =
    ap (λ (rs : List (Result Target UrlFault)). Ok file.target ∷ rs) (oks_of wanted)

module _ (room : Room) (tables : Tables) (lease : ℕ) (group : List ℕ) (view : View)
    (leased : IsLeased room tables lease view)
    (some : ◌≢◌ {A = List FileEntry} (group_files group view.application) [])
    (absent : group_stands group view.groups ≡ false) where
  abbrev views : List BareView
  views = map bare_row tables.views

  -- those that are wanted
  abbrev pub entries : List FileEntry
  entries = group_wanted (map bare_row tables.views) group view.application

  -- the files of the group, without it
  abbrev files : List FileEntry
  files = map ungrouped (group_files group view.application)

  are_lacking : lacking tables files ≡ map ungrouped entries
  are_lacking = group_ungrouped views group view.application

  -- there is no refusal but one at a file
  module _ (wanted : List WantedFile) (are : AreLacking room tables view group files wanted) where
    pub at_places : map (λ (file : WantedFile). slice_get files file.place) wanted
        ≡ map Some (map ungrouped entries)
    at_places = are.places ∙ ap (map Some) are_lacking

    on_addresses : map (address_in view) (map ungrouped entries) ≡ map Ok (addresses wanted)
    on_addresses = ap (map (address_in view)) (sym are_lacking) ∙ are.targets ∙ oks_of wanted

    pub at_addresses : map (address_in view) entries ≡ map Ok (addresses wanted)
    at_addresses = sym (same_addresses view entries) ∙ on_addresses

    pub each_reached : Any (λ (entry : FileEntry). address_in view entry ≡ Err BadUrl) entries → ⊥
    each_reached =
        none_refused view.base view.deployment.mapped entries wanted
        (at_addresses ∙ sym (oks_of wanted))

    pub passes_room : IsApplication view.application
        → PassesAll (room_refusals lease group (table_shape room tables))
    passes_room is = (
      lease_lives leased,
      (
        has_group room tables lease group view leased some,
        (
          reached room tables lease group view leased some absent each_reached,
          (
            blocks_pass room tables lease group view leased some absent (are.enough.0, tt) is,
            (light, tt),
          ),
        ),
      ),
    )
      where
        light : (weight : ℕ) → OfComing lease group (table_shape room tables) (λ v.
            (weight ≡ weight_grown v.number group (table_shape room tables))
            × IsTooHeavy room weight) → ⊥
        light weight coming =
            are.enough.1.0 weight (of_view room tables lease group view leased some absent
            {P = λ (v : BareView). (weight ≡ weight_grown v.number group (table_shape room tables))
            × IsTooHeavy room weight} coming)

    pub passes_all : IsApplication view.application
        → PassesAll (group_refusals lease group (table_shape room tables))
    passes_all is =
        let passed = passes_room is in (
          passed.0,
          (passed.1.0, (passed.1.1.0, (passed.1.1.1.0, (passed.1.1.1.1.0, (tt, tt))))),
        )

    -- ---- what was asked

    pub asks : IsApplication view.application
        → AsksGroup lease group (table_shape room tables) (addresses wanted)
    asks is =
        inr (inr (passes_room is, (bare_row view, leased.bare, absent, at_addresses)))

    asks_only : IsApplication view.application → (all : List Target)
        → AsksGroup lease group (table_shape room tables) all → all ≡ addresses wanted
    asks_only is all (inl refused) = absurd (refused.0 (passes_room is))
    asks_only is all (inr (inl stands)) =
        let same : stands.0.0 ≡ bare_row view =
        same_Some stands.0.0 (bare_row view) (sym stands.0.1 ∙ leased.bare) in
        absurd (false≢true (sym absent
        ∙ ap (λ (v : BareView). group_stands group v.groups) (sym same) ∙ stands.0.2))
    asks_only is all (inr (inr asked)) =
        same_oks all (addresses wanted)
        (sym (of_view room tables lease group view leased some absent
        {P = λ (v : BareView).
        map (λ entry. file_target_of v.base v.deployment.mapped entry.name)
        (group_wanted views group v.application) ≡ map Ok all} asked.1) ∙ at_addresses)

    pub served_of : (a c : LinksState) (reply : Reply) (asked rest : List Target)
        → KeptBut (IsListedOfGroup lease group (table_shape room tables)) a c
        → IsApplication view.application → c.asked ≡ a.asked ++ asked
        → addresses wanted ≡ asked ++ rest
        → AccountsGroup lease group (table_shape room tables) a c asked reply
        → GroupServed lease group (table_shape room tables) a c reply
    served_of a c reply asked rest kept is grown front accounts = record {
      kept = kept;
      asked = asked;
      grown = grown;
      front = λ all asks. (rest, asks_only is all asks ∙ front);
      accounts = accounts;
    }

    -- ---- what it cost

    pub group_cost : (a c : LinksState) (most : ℕ) → WritesAsked files wanted a c most
        → IsGroupCost lease group (table_shape room tables) a c most
    group_cost a c most writes =
        let first = asked_first files (address_in view) (map ungrouped entries) wanted a c most
        writes at_places on_addresses in
        let parts = front_of entries first.earlier first.later first.split in
        let sum : sum_by (λ (file : WantedFile). size_in (slice_get files file.place))
        writes.first.asked ≡ sum_by (λ (entry : FileEntry). entry.size) parts.earlier =
        first.sum
        ∙ ap (sum_by (λ (entry : FileEntry). entry.size)) (sym parts.before_is)
        ∙ same_sizes parts.earlier in
        inr (
          bare_row view,
          leased.bare,
          absent,
          record {
            asked = parts.earlier;
            others = parts.later;
            split = parts.are;
            since = [];
            targets = addresses writes.first.asked;
            named =
                sym (same_addresses view parts.earlier)
                ∙ ap (map (address_in view)) parts.before_is ∙ first.named;
            grown = writes.first.grown;
            within = subst (λ (n : ℕ). most ≤ sources_of a * n) sum writes.within;
          },
        )

    -- ---- where not all files were fetched

    module _ (a c : LinksState) (but : KeptBut (IsListedIn files wanted) a c) where
      abbrev kept : Kept a c
      kept = but.kept

      -- those that are gone gave other bytes than a wanted file
      listed_file : (t : Target) (l : List Digest) (s : ℕ) → IsListedIn files wanted t l s
          → IsListedOfGroup lease group (table_shape room tables) t l s
      listed_file t l s is =
          let found = listed_among files (address_in view) (map ungrouped entries) wanted at_places
          on_addresses t l s is in
          let own = map_in ungrouped entries found.0 found.1 in (
            bare_row view,
            leased.bare,
            absent,
            in_any (IsListedFor view.base view.deployment.mapped t l s) entries own.0 own.1
                (subst (λ (e : FileEntry). (address_in view e ≡ Ok t) × (l ≡ e.list) × (s ≡ e.size)) (sym own.2)
                (found.2, found.3, found.4)),
          )

      pub line : KeptBut (IsListedOfGroup lease group (table_shape room tables)) a c
      line =
          but_weaker (IsListedIn files wanted) (IsListedOfGroup lease group (table_shape room tables)) a c
          listed_file but

      -- there was no memory
      pub memory_behind : (asked rest : List Target) → c.asked ≡ a.asked ++ asked
          → addresses wanted ≡ asked ++ rest
          → IsGroupOver room tables lease group a c says.Memory
      memory_behind asked rest grown front =
          over_by room tables lease group a c says.Memory line (λ now. refl) (counts_none refl)
          (λ now image old idle shows sound. record {
            answers = inl (inl (refl, refl));
            served = served_of a c says.Memory asked rest line (view_valid shows leased sound) grown
                front tt;
          })

      -- no link gave a file
      module _ (named : Target) (reasons : List Cause)
          (stop : StopsAt files wanted a c named reasons) where
        abbrev asked : List Target
        asked = addresses stop.earlier ++ named ∷ []

        front : addresses wanted ≡ asked ++ addresses stop.later
        front =
            ap addresses stop.wants
            ∙ map-append (λ (f : WantedFile). f.target) stop.earlier (stop.file ∷ stop.later)
            ∙ ap (λ (t : Target). addresses stop.earlier ++ t ∷ addresses stop.later)
            (sym stop.shown)
            ∙ sym (append_assoc (addresses stop.earlier) (named ∷ []) (addresses stop.later))

        part : IsAmong files (address_in view) (map ungrouped entries) stop.earlier stop.file
        part =
            among files (address_in view) (map ungrouped entries) stop.earlier stop.file stop.later
            (subst (λ (ws : List WantedFile).
            map (λ (f : WantedFile). slice_get files f.place) ws
            ≡ map Some (map ungrouped entries)) stop.wants at_places)
            (subst (λ (ws : List WantedFile).
            map (address_in view) (map ungrouped entries) ≡ map Ok (addresses ws))
            stop.wants on_addresses)

        parts : IsSplit entries part.earlier part.entry part.later
        parts = split entries part.earlier part.entry part.later part.are

        at_named : address_in view parts.entry ≡ Ok named
        at_named =
            ap (address_in view) parts.file_is ∙ part.target
            ∙ ap (λ (t : Target). Ok t) (sym stop.shown)

        gave : WereGiven a c parts.earlier (addresses stop.earlier)
        gave =
            same_given a c parts.earlier (addresses stop.earlier)
            (subst (λ (es : List FileEntry). WereGiven a c es (addresses stop.earlier))
            (sym parts.before_is)
            (given_at files a c stop.earlier part.earlier stop.bytes part.places stop.gave))

        ungiven : IsFileUngiven (ungrouped parts.entry) named a c reasons
        ungiven =
            subst (λ (e : FileEntry). IsFileUngiven e named a c reasons) (sym parts.file_is)
            (subst (λ (o : Option FileEntry). IfSome o (λ e. IsFileUngiven e named a c reasons))
            part.place stop.ungiven)

        lacks : LacksOfGroup (table_shape room tables) group a c asked named reasons
            (bare_row view)
        lacks = record {
          earlier = parts.earlier;
          entry = parts.entry;
          later = parts.later;
          wants = parts.are;
          targets = addresses stop.earlier;
          each =
              sym (same_addresses view parts.earlier)
              ∙ ap (map (address_in view)) parts.before_is ∙ part.targets;
          at = at_named;
          order = refl;
          gave = gave;
          ungiven = ungiven;
        }

        among_wanted : Any (λ (entry : FileEntry). address_in view entry ≡ Ok named) entries
        among_wanted =
            in_any (λ (entry : FileEntry). address_in view entry ≡ Ok named) entries parts.entry
            (subst (λ (es : List FileEntry). In parts.entry es) (sym parts.are)
            (in_right parts.earlier (parts.entry ∷ parts.later) parts.entry (inl refl)))
            at_named

        pub links_over : IsGroupOver room tables lease group a c (says.AllLinks named reasons)
        links_over =
            over_by room tables lease group a c (says.AllLinks named reasons) line (λ now. refl)
            (group_counts a c kept (table_shape room tables) group asked named reasons (bare_row view)
            lacks)
            (λ now image old idle shows sound. (
            let is = view_valid shows leased sound in
            let passed = passes_room is in
            record {
              answers = by_refusal room tables lease group now image old
                  (says.AllLinks named reasons) idle shows
                  (inr (
                    passed.0,
                    inr (
                      passed.1.0,
                      inr (
                        passed.1.1.0,
                        inr (
                          passed.1.1.1.0,
                          inr (
                            passed.1.1.1.1.0,
                            inl (
                              (
                                named,
                                reasons,
                                (bare_row view, leased.bare, absent, among_wanted),
                                refl,
                              ),
                              refl,
                            ),
                          ),
                        ),
                      ),
                    ),
                  ));
              served = served_of a c (says.AllLinks named reasons) asked (addresses stop.later) line
                  is stop.grown front (bare_row view, leased.bare, absent, lacks);
            }
            ))

      by_stop : (reply : Reply) → Stops files wanted a c reply
          → IsGroupOver room tables lease group a c reply
      by_stop (says.AllLinks named reasons) stop = links_over named reasons stop
      by_stop says.Memory stop =
          memory_behind (addresses stop.asked) (addresses stop.others) stop.grown
          (ap addresses stop.wants
          ∙ map-append (λ (f : WantedFile). f.target) stop.asked stop.others)
      by_stop _ stop = absurd stop

      pub stopped_over : (reply : Reply) → IsStopped files wanted a c reply
          → IsGroupOver room tables lease group a c reply
      stopped_over reply stop = by_stop reply stop.stops

  -- ---- where the files do not come

  unasked_over : (a c : LinksState) (reply : Reply) → AreUnasked a c
      → IsUnasked room tables view group files reply
      → IsGroupOver room tables lease group a c reply
  unasked_over a c reply none (inl memory) =
      subst (IsGroupOver room tables lease group a c) (sym memory)
      (memory_over room tables lease group a c none)
  unasked_over a c reply none (inr (inl bad)) =
      subst (IsGroupOver room tables lease group a c) (sym bad.0)
      (bad_url_over room tables lease group view leased some absent a c none bad.1)
  unasked_over a c reply none (inr (inr full)) =
      space_over room tables lease group view leased some absent a c none
      (none_refused view.base view.deployment.mapped entries full.0
      (sym (same_addresses view entries) ∙ ap (map (address_in view)) (sym are_lacking) ∙ full.1))
      reply full.2

  pub not_brought_over : (a c : LinksState) (reply : Reply)
      → IsNotBrought room tables view group files a c reply
      → IsGroupOver room tables lease group a c reply
  not_brought_over a c reply (inl unasked) = unasked_over a c reply unasked.1 unasked.0
  not_brought_over a c reply (inr stopped) =
      stopped_over stopped.0 stopped.1 a c stopped.2.kept reply stopped.2
