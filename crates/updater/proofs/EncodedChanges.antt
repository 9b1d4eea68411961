-- Changes that fit have an encoding.
use Rattle.std.proofs.Common.{◌≡◌, ◌≤◌, ◌<◌, ◌^◌, ◌/◌, ◌==◌, ◌||◌, ◌++◌, not, cond, true, false, ℕ, Bool, List, [], length, map, Option, Some, None, All, ◌⊎◌, inl, inr, Ok, Err, Result, refl, sym, ap, subst, eqb-true, arith, IsUtf8}
use Rattle.std.specs.Prelude.{Any, IfSome, IsSomeAnd}
use Rattle.std.proofs.lemmas.Bool.{cases_lt, lt-ltb}
use Rattle.std.proofs.lemmas.List.Elements.{All-contains, All-filter, All-nil}
use Rattle.small_types.specs.declared.limits.TheConstants.{FILE_COUNT_LIMIT, NAME_LIMIT, URL_LIMIT}
use Rattle.small_types.specs.declared.target.Target.{Target}
use Rattle.addresses.specs.declared.fault.UrlFault.{UrlFault}
use Rattle.addresses.specs.declared.fault.UrlFault.TheVariants.{BadUrl}
use Rattle.addresses.specs.Address.{target_of_text, target_of_url, url_of}
use Rattle.small_types.specs.Outcome.{◌>>=◌}
use Rattle.url.specs.Parser.{parse_url}
use Rattle.std.specs.Prelude.{nat_lt}
use Rattle.std.specs.Str.{is_utf8}
use Rattle.identity.specs.declared.identity.Identity.{Identity}
use Rattle.identity.specs.declared.key.Key.{Key}
use Rattle.identity.specs.Key.{IsKey}
use Rattle.manifests.specs.declared.ages.AgeUnit.{AgeUnit}
use Rattle.manifests.specs.declared.ages.AgeUnit.TheVariants.{Hours, Days, Weeks}
use Rattle.manifests.specs.declared.facts.Application.{Application}
use Rattle.manifests.specs.declared.facts.Deployment.{Deployment}
use Rattle.manifests.specs.declared.facts.FileEntry.{FileEntry}
use Rattle.manifests.specs.declared.facts.Rule.{Rule}
use Rattle.manifests.specs.declared.facts.Rule.TheVariants.{Never, Before, Age}
use Rattle.manifests.specs.Ages.{largest_unit, seconds_in}
use Rattle.manifests.specs.Applications.{size_limit}
use Rattle.manifests.specs.Facts as facts
use Rattle.machine.specs.Fields as fields
use Rattle.machine.specs.Fields.{HasEntry, HasIdentity, IsShort, IsShortKey}
use Rattle.machine.specs.Groups.{group_files}
use Rattle.machine.specs.Views.{ContentKey, content_key, standing_entries}
use Rattle.machine.proofs.Contents.{content_decides}
use Rattle.machine.proofs.FirstFound.{find_in}
use Rattle.machine.proofs.Members.{all_in, in_all, in_map}
use Rattle.machine.proofs.Shortness.{short_key}
use Rattle.store_state.specs.declared.change.Change.{Change}
use Rattle.store_state.specs.declared.change.Change.TheVariants.{Group, Heard, Install, Unheard}
use Rattle.store_state.specs.declared.view.Content.{Content}
use Rattle.store_state.specs.declared.view.LocalFile.{LocalFile}
use Rattle.store_state.specs.declared.view.View.{View}
use Rattle.store_state.specs.Change as kept
use Rattle.store_state.specs.Change.{Fits, FitsInstall, IsRow, MayGrow}
use Rattle.store_state.specs.Contents.{is_content_of}
use Rattle.store_state.specs.Kept.{AreTables}
use Rattle.store_state.specs.Measured.{BringsMeasured, IsMeasuredLocal}
use Rattle.store_state.specs.Rows.{row_at}
use Rattle.store_state.specs.Tables.{Tables}
use Rattle.table_files.specs.Freed.{brought}
use Rattle.table_files.specs.Held.{held_for_contents, held_for_locals}
use Rattle.record_codec.specs.Codec.{IsChange}
use Rattle.record_codec.specs.Values.{IsEncodableContent, IsEncodableGroup, IsEncodableInstall, IsEncodableLocal}
use Rattle.record_fields.specs.Values.{AreDigests, IsEncodableApplication, IsEncodableDeployment, IsEncodableEntry, IsEncodableIdentity, IsEncodableRule}
use Rattle.install_plan.specs.Checks.{IsOfCheck}
use Rattle.install_plan.specs.GroupReady.{IsOfGroup}
use Rattle.install_plan.specs.Ready.{HasFew}
use Rattle.updater.proofs.SmallBlocks.{AreSmall, small_back, small_each, small_front}

-- ---- texts and identities

short_value : {least most : ℕ} {text : List ℕ} → facts.IsValue least most text → IsUtf8 text → IsShort most text
short_value value utf8 = record { within = value.few; utf8 = utf8 }

identity_encodes : (i : Identity) → facts.IsIdentity i → HasIdentity i → IsEncodableIdentity i
identity_encodes i facts has = record { key = short_key has.key; version = has.version; kind = short_value facts.kind has.kind }

short_group : (group : Option (List ℕ)) → IfSome group (facts.IsValue 1 NAME_LIMIT) → IfSome group IsUtf8 → IfSome group (IsShort NAME_LIMIT)
short_group None value utf8 = tt
short_group (Some group) value utf8 = short_value value utf8

-- ---- deployments

apart : {X Y : Type 0} {e : X} {y : Y} → ◌≡◌ {A = Result Y X} (Err e) (Ok y) → ⊥
apart e = cc

-- a text above the limit of an address is none
none_long : (long other : Bool) (read : Result Target UrlFault) (target : Target) → cond (long || other) (Err BadUrl) read ≡ Ok target → long ≡ true → ⊥
none_long true other read target is e = apart is
none_long false other read target is e = absurd (let clash : false ≡ true = e in cc)

long_is_none : (text : List ℕ) (target : Target) → target_of_text text ≡ Ok target → URL_LIMIT < length text → ⊥
unfolding target_of_text
long_is_none text target is long =
    none_long (nat_lt URL_LIMIT (length text)) (not (is_utf8 text)) (url_of (parse_url None text) >>= target_of_url) target is (lt-ltb URL_LIMIT (length text) long)

short_provider : (provider : Option (List ℕ)) → IfSome provider facts.IsProvider → IfSome provider IsUtf8 → IfSome provider (IsShort URL_LIMIT)
short_provider None is utf8 = tt
short_provider (Some text) is utf8 = record { within = by (cases_lt URL_LIMIT (length text)); utf8 = utf8 }
  where
    by : (URL_LIMIT < length text) ⊎ (length text ≤ URL_LIMIT) → length text ≤ URL_LIMIT
    by (inl long) = absurd (long_is_none text is.target is.address long)
    by (inr short) = short

few_seconds : (unit : AgeUnit) (seconds : ℕ) → seconds / seconds_in unit ≤ 999999999 → seconds < 2 ^ 64
few_seconds Hours seconds few = omega arith
few_seconds Days seconds few = omega arith
few_seconds Weeks seconds few = omega arith

rule_encodes : (rule : Rule) → facts.IsRule rule → IsEncodableRule rule
rule_encodes Never is = tt
rule_encodes Before is = tt
rule_encodes (Age seconds) is = few_seconds (largest_unit seconds) seconds is.few

deployment_encodes : (d : Deployment) → fields.IsDeployment d → IsEncodableDeployment d
deployment_encodes d is = record {
  identity = identity_encodes d.identity is.facts.identity is.identity;
  minimum = is.minimum;
  rule = rule_encodes d.rule is.facts.rule;
  provider = short_provider d.provider is.facts.provider is.provider;
  codebase = short_value is.facts.codebase is.codebase;
  app = identity_encodes d.app is.facts.app is.app;
  app_size = let few = is.facts.app_size in omega arith;
  app_list = record { count = is.app_list; sized = is.facts.app_list };
}

-- ---- applications

few_bytes : (local : Bool) (size : ℕ) → size ≤ size_limit local → size < 2 ^ 32
few_bytes true size few = omega arith
few_bytes false size few = omega arith

entry_encodes : (e : FileEntry) → facts.IsFile e → HasEntry e → IsEncodableEntry e
entry_encodes e file has = record {
  name = has.name;
  size = let few = few_bytes e.local e.size file.size in omega arith;
  list = record { count = has.list; sized = file.list };
  group = short_group e.group file.group has.group;
}

entries_encode : (entries : List FileEntry) → All facts.IsFile entries → All HasEntry entries → All IsEncodableEntry entries
entries_encode entries files has = λ k d within. entry_encodes _ (files k d within) (has k d within)

application_encodes : (a : Application) → fields.IsApplication a → IsEncodableApplication a
application_encodes a is = record {
  identity = identity_encodes a.identity is.facts.identity is.identity;
  entry = short_value is.facts.entry is.entry;
  parameters = short_value is.facts.parameters is.parameters;
  few = is.facts.files.few;
  files = entries_encode a.files is.facts.each is.files;
}

-- ---- contents

-- what is known of a content is what is known of a file that it is of
pub record IsFew (entry : FileEntry) : Type 0 where
  pub size : entry.size < 2 ^ 32
  pub list : AreDigests entry.list

few_entry : (e : FileEntry) → facts.IsFile e → HasEntry e → IsFew e
few_entry e file has = record { size = few_bytes e.local e.size file.size; list = record { count = has.list; sized = file.list } }

few_entries : (entries : List FileEntry) → All facts.IsFile entries → All HasEntry entries → All IsFew entries
few_entries entries files has = λ k d within. few_entry _ (files k d within) (has k d within)

content_encodes : (e : FileEntry) (c : Content) → is_content_of e c ≡ true → IsFew e → AreSmall c.held → IsEncodableContent c
content_encodes e c is few small =
    let key : content_key e ≡ content_key (record e { size = c.size; list = c.list }) = (content_decides e (record e { size = c.size; list = c.list })).0 is in
    let size : e.size ≡ c.size = ap (λ (k : ContentKey). k.size) key in
    let list : e.list ≡ c.list = ap (λ (k : ContentKey). k.list) key in
    let below = few.size in
    record {
      size = omega arith;
      list = subst AreDigests list few.list;
      few_blocks = small.few;
      blocks = small.all;
    }

content_among : (entries : List FileEntry) (c : Content) → All IsFew entries → Any (λ entry. is_content_of entry c ≡ true) entries → AreSmall c.held → IsEncodableContent c
content_among entries c few any small = content_encodes any.1 c any.4 (All-contains IsFew entries any.1 few (any.0, any.2, any.3)) small

-- contents that come are each of such a file
contents_encode : (entries : List FileEntry) (contents : List Content) → All IsFew entries
    → All (λ content. Any (λ entry. is_content_of entry content ≡ true) entries) contents
    → AreSmall (held_for_contents contents) → All IsEncodableContent contents
contents_encode entries contents few only small =
    in_all IsEncodableContent contents (λ content there. content_among entries content few
    (all_in (λ (c : Content). Any (λ entry. is_content_of entry c ≡ true) entries) contents content only there)
    (small_each (λ (c : Content). c.held) contents small content there))

-- ---- installs

local_encodes : (f : LocalFile) → kept.IsLocal f → IsMeasuredLocal f → AreSmall f.held → IsEncodableLocal f
local_encodes f is measured small = record { name = is.name; size = let few = small.few in omega (arith, measured, few); few_blocks = small.few; blocks = small.all }

locals_encode : (locals : List LocalFile) → All kept.IsLocal locals → All IsMeasuredLocal locals → AreSmall (held_for_locals locals) → All IsEncodableLocal locals
locals_encode locals are measured small =
    in_all IsEncodableLocal locals (λ file there. local_encodes file (all_in kept.IsLocal locals file are there)
    (all_in IsMeasuredLocal locals file measured there)
    (small_each (λ (f : LocalFile). f.held) locals small file there))

no_groups : (groups : List (List ℕ)) → groups ≡ [] → All (IsShort NAME_LIMIT) groups
no_groups groups none = subst (All (IsShort NAME_LIMIT)) (sym none) (All-nil (IsShort NAME_LIMIT))

few_none : {X : Type 0} (xs : List X) → xs ≡ [] → length xs ≤ FILE_COUNT_LIMIT
few_none xs none = let long : length xs ≡ 0 = ap length none in omega arith

install_encodes : (tables : Tables) (view : View) (contents : List Content) (provider : Target) (now : ℕ) → FitsInstall tables view contents provider now → HasFew (Install view contents provider now) → All IsMeasuredLocal view.locals
    → AreSmall (held_for_contents contents ++ held_for_locals view.locals) → IsEncodableInstall view contents provider now
install_encodes tables view contents provider now fits few measured small =
    let number = fits.number in
    let next = fits.next in
    let moment = fits.moment in
    let standing : All IsFew (standing_entries view.groups view.application) =
    All-filter _ IsFew view.application.files (few_entries view.application.files fits.row.application.facts.each fits.row.application.files) in
    record {
      view = record {
        number = omega arith;
        deployment = deployment_encodes view.deployment fits.row.deployment;
        application = application_encodes view.application fits.row.application;
        base = fits.row.base;
        few_groups = few_none view.groups fits.groups;
        groups = no_groups view.groups fits.groups;
        few_locals = few.1;
        locals = locals_encode view.locals fits.row.locals measured (small_back (held_for_contents contents) (held_for_locals view.locals) small);
      };
      few = few.0;
      contents = contents_encode (standing_entries view.groups view.application) contents standing fits.brings.only
          (small_front (held_for_contents contents) (held_for_locals view.locals) small);
      provider = fits.has_provider;
      now = omega arith;
    }

pub encodes : (tables : Tables) (change : Change) → Fits tables change → HasFew change → BringsMeasured change
    → AreSmall (brought change) → IsChange change
encodes tables (Install view contents provider now) fits few measured small = install_encodes tables view contents provider now fits few measured.1 small
encodes tables _ fits few measured small = absurd few

-- ---- checks

-- what is noted of a key that a line gave
pub check_encodes : (tables : Tables) (key : Key) (change : Change) → IsKey key
    → IsOfCheck key change → Fits tables change → IsChange change
check_encodes tables key (Heard other version minimum now) is same fits = record {
  key = subst IsShortKey (sym same) (short_key is);
  version = fits.heard;
  minimum = fits.least;
  now = let few = fits.moment in omega arith;
}
check_encodes tables key (Unheard other) is same fits = subst IsShortKey (sym same) (short_key is)
check_encodes tables key _ is same fits = absurd same

-- ---- groups

-- what comes to a view of the tables, of a group that a line gave
pub group_encodes : (tables : Tables) (group : List ℕ) (change : Change) → AreTables tables
    → IsShort NAME_LIMIT group → IsOfGroup group change → Fits tables change → AreSmall (brought change)
    → IsChange change
group_encodes tables group (Group number other contents) are short is fits small =
    by (row_at number tables.views) refl fits
  where
    encodes_in : (row : View) → row_at number tables.views ≡ Some row
        → MayGrow tables other contents row → IsEncodableGroup number other contents
    encodes_in row at grows =
        let found = find_in (λ (view : View). view.number == number) tables.views row at in
        let below = all_in (λ (n : ℕ). n < tables.next_view)
        (map (λ (view : View). view.number) tables.views) row.number are.below
        (in_map (λ (view : View). view.number) tables.views row found.0) in
        let same : row.number ≡ number = eqb-true row.number number found.1 in
        let limit = are.limit in
        let application = (all_in IsRow tables.views row are.rows found.0).application in
        let few : All IsFew (group_files other row.application) =
        All-filter _ IsFew row.application.files
        (few_entries row.application.files application.facts.each application.files) in
        record {
          view = omega (arith, below, same, limit);
          group = subst (IsShort NAME_LIMIT) (sym is.0) short;
          few = is.1;
          contents = contents_encode (group_files other row.application) contents few
              grows.brings.only small;
        }

    by : (row : Option View) → row_at number tables.views ≡ row
        → IsSomeAnd row (MayGrow tables other contents) → IsEncodableGroup number other contents
    by None at grows = absurd grows
    by (Some row) at grows = encodes_in row at grows
group_encodes tables group _ are short is fits small = absurd is
