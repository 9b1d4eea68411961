-- What is wanted of the files of a group, which are looked for as files without one.
use Rattle.std.proofs.Common.{◌≡◌, ◌∙◌, ◌++◌, ◌<◌, ◌≤◌, ◌^◌, ℕ, inl, inr, refl, ap, subst, Bool, true, false, cond, List, [], ◌∷◌, length, map, All, Result, Err, arith}
use Rattle.std.specs.Prelude.{Any, filter, sum_by}
use Rattle.small_types.specs.declared.limits.TheConstants.{FILE_COUNT_LIMIT}
use Rattle.small_types.specs.declared.room.Room.{Room}
use Rattle.small_types.specs.declared.target.Target.{Target}
use Rattle.addresses.specs.declared.fault.UrlFault.{UrlFault}
use Rattle.addresses.specs.declared.fault.UrlFault.TheVariants.{BadUrl}
use Rattle.manifests.specs.declared.facts.Application.{Application}
use Rattle.manifests.specs.declared.facts.FileEntry.{FileEntry}
use Rattle.manifests.specs.Facts.{IsFile}
use Rattle.machine.specs.declared.reply.Reply.{Reply}
use Rattle.machine.specs.Fields.{IsApplication}
use Rattle.machine.specs.Groups.{group_files, group_wanted, is_in, missing_beside}
use Rattle.machine.specs.Wanted.{is_held}
use Rattle.machine.proofs.Members.{In, all_in, filter_in, in_all, map_in, sum_map}
use Rattle.machine.proofs.Ungrouped.{group_ungrouped}
use Rattle.store_state.specs.declared.view.Content.{Content}
use Rattle.store_state.specs.declared.view.View.{View}
use Rattle.store_state.specs.Tables.{Tables, bare_row}
use Rattle.file_groups.specs.declared.fault.GroupFault.{GroupFault}
use Rattle.file_groups.specs.declared.fault.GroupFault.TheVariants as faults
use Rattle.file_groups.specs.Refused.{IsRefused}
use Rattle.links.specs.Links.{LinksState}
use Rattle.install_plan.specs.Brought.{AreContentsFor, IsContentFor}
use Rattle.install_plan.specs.GroupReady.{IsNoFiles, address_in, group_reply, lacking, ungrouped}
use Rattle.install_plan.specs.InstallHeard.{WereGiven}
use Rattle.install_plan.proofs.WantedPlaces.{rest_is, small}
use Rattle.install_plan.proofs.Wants.{any_in, in_any}

-- ---- addresses and contents go by other fields

pub same_addresses : (view : View) (es : List FileEntry)
    → map (address_in view) (map ungrouped es) ≡ map (address_in view) es
same_addresses view [] = refl
same_addresses view (e ∷ es) =
    ap (λ (rs : List (Result Target UrlFault)). address_in view e ∷ rs) (same_addresses view es)

no_file : {P : Type 0} (x : FileEntry) (xs : List FileEntry) → [] ≡ x ∷ xs → P
no_file x xs e = absurd cc

one_is : (x y : FileEntry) (xs ys : List FileEntry) → x ∷ xs ≡ y ∷ ys → x ≡ y
one_is x y xs ys e = cc

same_content : (room : Room) (image : List ℕ) (a c : LinksState) (e : FileEntry) (target : Target) (content : Content)
    → IsContentFor room image a c (ungrouped e) target content → IsContentFor room image a c e target content
same_content room image a c e target content is = record { size = is.size; list = is.list; from = is.from }

pub same_contents : (room : Room) (image : List ℕ) (a c : LinksState) (es : List FileEntry) (targets : List Target)
    (contents : List Content) → AreContentsFor room image a c (map ungrouped es) targets contents
    → AreContentsFor room image a c es targets contents
same_contents room image a c [] [] [] are = tt
same_contents room image a c [] [] (content ∷ contents) are = absurd are
same_contents room image a c [] (target ∷ targets) contents are = absurd are
same_contents room image a c (e ∷ es) [] contents are = absurd are
same_contents room image a c (e ∷ es) (target ∷ targets) [] are = absurd are
same_contents room image a c (e ∷ es) (target ∷ targets) (content ∷ contents) are =
    (same_content room image a c e target content are.0, same_contents room image a c es targets contents are.1)

-- what was got for them was got for those with their group
pub same_given : (a c : LinksState) (es : List FileEntry) (targets : List Target)
    → WereGiven a c (map ungrouped es) targets → WereGiven a c es targets
same_given a c [] [] given = tt
same_given a c [] (target ∷ targets) given = absurd given
same_given a c (e ∷ es) [] given = absurd given
same_given a c (e ∷ es) (target ∷ targets) given =
    (given.0, same_given a c es targets given.1)

-- the first of them, and the others
pub record IsFront (es before : List FileEntry) : Type 0 where
  pub earlier : List FileEntry
  pub later : List FileEntry
  pub are : es ≡ earlier ++ later
  pub before_is : map ungrouped earlier ≡ before

pub front : (es before behind : List FileEntry) → map ungrouped es ≡ before ++ behind
    → IsFront es before
front es [] behind is = record { earlier = []; later = es; are = refl; before_is = refl }
front [] (x ∷ before) behind is = no_file x (before ++ behind) is
front (e ∷ es) (x ∷ before) behind is =
    let rest = front es before behind (rest_is (ungrouped e) x (map ungrouped es) (before ++ behind) is) in
    record {
      earlier = e ∷ rest.earlier;
      later = rest.later;
      are = ap (λ (xs : List FileEntry). e ∷ xs) rest.are;
      before_is =
          ap (λ (y : FileEntry). y ∷ map ungrouped rest.earlier)
          (one_is (ungrouped e) x (map ungrouped es) (before ++ behind) is)
          ∙ ap (λ (ys : List FileEntry). x ∷ ys) rest.before_is;
    }

-- they have the same sizes
pub same_sizes : (es : List FileEntry)
    → sum_by (λ (entry : FileEntry). entry.size) (map ungrouped es)
    ≡ sum_by (λ (entry : FileEntry). entry.size) es
same_sizes es = sum_map ungrouped (λ (entry : FileEntry). entry.size) es

-- ---- one of them, and those before it and behind it

pub record IsSplit (es before : List FileEntry) (file : FileEntry) (behind : List FileEntry)
    : Type 0 where
  pub earlier : List FileEntry
  pub entry : FileEntry
  pub later : List FileEntry
  pub are : es ≡ earlier ++ entry ∷ later
  pub before_is : map ungrouped earlier ≡ before
  pub file_is : ungrouped entry ≡ file

pub split : (es before : List FileEntry) (file : FileEntry) (behind : List FileEntry)
    → map ungrouped es ≡ before ++ file ∷ behind → IsSplit es before file behind
split [] [] file behind is = no_file file behind is
split [] (x ∷ before) file behind is = no_file x (before ++ file ∷ behind) is
split (e ∷ es) [] file behind is = record {
  earlier = [];
  entry = e;
  later = es;
  are = refl;
  before_is = refl;
  file_is = one_is (ungrouped e) file (map ungrouped es) behind is;
}
split (e ∷ es) (x ∷ before) file behind is =
    let rest = split es before file behind
    (rest_is (ungrouped e) x (map ungrouped es) (before ++ file ∷ behind) is) in
    let first = one_is (ungrouped e) x (map ungrouped es) (before ++ file ∷ behind) is in
    record {
      earlier = e ∷ rest.earlier;
      entry = rest.entry;
      later = rest.later;
      are = ap (λ (xs : List FileEntry). e ∷ xs) rest.are;
      before_is =
          ap (λ (y : FileEntry). y ∷ map ungrouped rest.earlier) first
          ∙ ap (λ (ys : List FileEntry). x ∷ ys) rest.before_is;
      file_is = rest.file_is;
    }

-- ---- a wanted one without an address

pub bad_wanted : (tables : Tables) (view : View) (group : List ℕ)
    → Any (λ (entry : FileEntry). address_in view entry ≡ Err BadUrl)
    (lacking tables (map ungrouped (group_files group view.application)))
    → Any (λ (entry : FileEntry). address_in view entry ≡ Err BadUrl)
    (group_wanted (map bare_row tables.views) group view.application)
bad_wanted tables view group any =
    let views = map bare_row tables.views in
    let wanted = group_wanted views group view.application in
    let found = any_in (λ (entry : FileEntry). address_in view entry ≡ Err BadUrl)
    (lacking tables (map ungrouped (group_files group view.application))) any in
    let from = map_in ungrouped wanted found.0
    (subst (λ (xs : List FileEntry). In found.0 xs)
    (group_ungrouped views group view.application) found.1) in
    in_any (λ (entry : FileEntry). address_in view entry ≡ Err BadUrl) wanted from.0 from.1
    (ap (address_in view) from.2 ∙ found.2)

-- ---- how many there are, and how large they are

fewer : (es held : List FileEntry) → length (missing_beside held es) ≤ length es
fewer [] held = omega arith
fewer (e ∷ es) held = by (is_held held e) (fewer es held) (fewer es (e ∷ held))
  where
    by : (b : Bool) → length (missing_beside held es) ≤ length es
        → length (missing_beside (e ∷ held) es) ≤ length es
        → length (cond b (missing_beside held es) (e ∷ missing_beside (e ∷ held) es))
        ≤ length (e ∷ es)
    by true same more = omega (arith, same)
    by false same more = omega (arith, more)

few_left : {X : Type 0} (p : X → Bool) (xs : List X) → length (filter p xs) ≤ length xs
few_left p [] = omega arith
few_left {X} p (x ∷ xs) = by (p x) (few_left p xs)
  where
    by : (b : Bool) → length (filter p xs) ≤ length xs
        → length (cond b (x ∷ filter p xs) (filter p xs)) ≤ length (x ∷ xs)
    by true few = omega (arith, few)
    by false few = omega (arith, few)

pub few_of_group : (group : List ℕ) (a : Application) (held : List FileEntry)
    → IsApplication a → length (missing_beside held (group_files group a)) ≤ FILE_COUNT_LIMIT
few_of_group group a held is =
    omega (
      arith,
      fewer (group_files group a) held,
      few_left (is_in group) a.files,
      is.facts.files.few,
    )

pub small_files : (group : List ℕ) (a : Application) → IsApplication a
    → All (λ (entry : FileEntry). entry.size < 2 ^ 61) (map ungrouped (group_files group a))
small_files group a is =
    in_all (λ (entry : FileEntry). entry.size < 2 ^ 61) (map ungrouped (group_files group a))
    (λ entry there. (
    let from = map_in ungrouped (group_files group a) entry there in
    let file = all_in IsFile a.files from.0 is.facts.each
    (filter_in (is_in group) a.files from.0 from.1).1 in
    subst (λ (e : FileEntry). e.size < 2 ^ 61) from.2
    (small a.files from.0.local from.0.size file.size)
    ))

-- ---- where there are none

-- the reply to a group that has no plan
pub no_files : (group : List ℕ) (a : Application) (fault : GroupFault) (reply : Reply)
    → reply ≡ group_reply fault → IsRefused group a fault → IsNoFiles group a reply
no_files group a faults.NoGroup reply is refused = inr (is, refused)
no_files group a faults.Memory reply is refused = inl is
