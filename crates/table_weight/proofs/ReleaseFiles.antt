-- What contents weigh once a release is installed.
use Rattle.std.proofs.Common.{◌≡◌, ◌∙◌, ◌⊎◌, ◌++◌, ◌+◌, ◌&&◌, inl, inr, refl, sym, ap, subst, ℕ, Bool, true, false, not, cond, is_none, List, [], ◌∷◌, Option, Some, None, arith}
use Rattle.std.specs.Prelude.{filter, sum_by}
use Rattle.std.proofs.lemmas.Bool.{and_parts}
use Rattle.std.proofs.lemmas.List.Sums.{sum_by-cons}
use Rattle.manifests.specs.declared.facts.Application.{Application}
use Rattle.manifests.specs.declared.facts.FileEntry.{FileEntry}
use Rattle.machine.specs.Blocks.{distinct, standing_files}
use Rattle.machine.specs.Shape.{BareView}
use Rattle.machine.specs.Views.{is_required, standing_entries, stands_by}
use Rattle.machine.specs.Wanted.{is_held, wanted, wanted_beside}
use Rattle.machine.specs.Weight.{content_weight as entry_weight}
use Rattle.machine.proofs.ChangedLists.{flat_map_in}
use Rattle.machine.proofs.Members.{In, contains_in, filter_in, in_either, in_filter, in_flat_map, in_left, in_right}
use Rattle.machine.proofs.WantedFiles.{are_wanted}
use Rattle.table_weight.specs.Releases.{program_weight}
use Rattle.table_weight.proofs.ByKey.{AreAll, Come, more_weigh}

-- ---- the program files that are wanted

wanted_in : (es held : List FileEntry) (x : FileEntry) → In x (wanted_beside held es) → In x es
wanted_in [] held x there = absurd there
wanted_in (e ∷ es) held x there =
    by e.local (is_required e && not (is_held held e)) there (wanted_in es held x)
    (wanted_in es (e ∷ held) x)
  where
    by : (l t : Bool) → In x (cond l (e ∷ wanted_beside held es)
        (cond t (e ∷ wanted_beside (e ∷ held) es) (wanted_beside held es)))
        → (In x (wanted_beside held es) → In x es)
        → (In x (wanted_beside (e ∷ held) es) → In x es) → In x (e ∷ es)
    by true t (inl is) same more = inl is
    by true t (inr later) same more = inr (same later)
    by false true (inl is) same more = inl is
    by false true (inr later) same more = inr (more later)
    by false false later same more = inr (same later)

-- of the wanted files the required program files weigh
Weigh : List FileEntry → Type 0
Weigh es = sum_by program_weight es ≡ sum_by entry_weight (filter is_required es)

local_first : (e : FileEntry) (es : List FileEntry) → e.local ≡ true → Weigh es → Weigh (e ∷ es)
unfolding Weigh
local_first e es is rest =
    let own = ap (λ (c : Bool). cond c 0 (entry_weight e)) is in
    let kept = ap (λ (c : Bool). sum_by entry_weight
    (cond (not c && is_none e.group) (e ∷ filter is_required es) (filter is_required es))) is in
    omega (arith, rest, own, kept, sum_by-cons program_weight e es)

required_first : (e : FileEntry) (es : List FileEntry) → e.local ≡ false → is_required e ≡ true
    → Weigh es → Weigh (e ∷ es)
unfolding Weigh
required_first e es is required rest =
    let own = ap (λ (c : Bool). cond c 0 (entry_weight e)) is in
    let kept = ap (λ (c : Bool). sum_by entry_weight
    (cond c (e ∷ filter is_required es) (filter is_required es))) required in
    omega (
      arith,
      rest,
      own,
      kept,
      sum_by-cons program_weight e es,
      sum_by-cons entry_weight e (filter is_required es),
    )

wanted_weigh : (es held : List FileEntry) → Weigh (wanted_beside held es)
unfolding Weigh
wanted_weigh [] held = refl
wanted_weigh (e ∷ es) held =
    by e.local (is_required e && not (is_held held e)) refl refl (wanted_weigh es held)
    (wanted_weigh es (e ∷ held))
  where
    by : (l t : Bool) → e.local ≡ l → (is_required e && not (is_held held e)) ≡ t
        → Weigh (wanted_beside held es) → Weigh (wanted_beside (e ∷ held) es)
        → Weigh (cond l (e ∷ wanted_beside held es)
        (cond t (e ∷ wanted_beside (e ∷ held) es) (wanted_beside held es)))
    by true t local takes same more = local_first e (wanted_beside held es) local same
    by false true other takes same more =
        required_first e (wanted_beside (e ∷ held) es) other
        (and_parts (is_required e) (not (is_held held e)) takes).0 more
    by false false other takes same more = same

module _ (views : List BareView) (a : Application) where
  -- what is fetched of program files
  pub programs : List FileEntry
  programs = filter is_required (wanted views a)

  pub programs_weigh : sum_by program_weight (wanted views a) ≡ sum_by entry_weight programs
  unfolding Weigh programs
  programs_weigh = wanted_weigh a.files (standing_files views)

  -- ---- the files that stand in no group

  in_none : (own : Option (List ℕ)) → stands_by [] own ≡ is_none own
  in_none None = refl
  in_none (Some group) = refl

  same_required : (entry : FileEntry)
      → (not entry.local && stands_by [] entry.group) ≡ is_required entry
  same_required entry = ap (λ (b : Bool). not entry.local && b) (in_none entry.group)

  stands_required : (entry : FileEntry) → In entry (standing_entries [] a)
      → (is_required entry ≡ true) × In entry a.files
  stands_required entry there =
      let found = filter_in (λ (e : FileEntry). not e.local && stands_by [] e.group) a.files entry
      there in
      (sym (same_required entry) ∙ found.0, found.1)

  required_stands : (entry : FileEntry) → is_required entry ≡ true → In entry a.files
      → In entry (standing_entries [] a)
  required_stands entry required there =
      in_filter (λ (e : FileEntry). not e.local && stands_by [] e.group) a.files entry
      (same_required entry ∙ required) there

  release_comes : Come (standing_files views) (standing_entries [] a) programs
  unfolding programs
  release_comes =
      let are = are_wanted views a in
      record {
        each = λ entry there. (
            let own = stands_required entry there in
            are.each entry own.0 (contains_in a.files entry own.1)
            );
        among = λ entry there. (
            let found = filter_in is_required (wanted views a) entry there in
            required_stands entry found.0 (wanted_in a.files (standing_files views) entry found.1)
            );
        new = are.new;
        once = are.once;
      }

  module _ (view : BareView) (groups : view.groups ≡ []) (application : view.application ≡ a) where
    abbrev standing : BareView → List FileEntry
    standing v = standing_entries v.groups v.application

    own_is : standing view ≡ standing_entries [] a
    own_is =
        ap (λ (gs : List (List ℕ)). standing_entries gs view.application) groups
        ∙ ap (λ (b : Application). standing_entries [] b) application

    last : In view (views ++ view ∷ [])
    last = in_right views (view ∷ []) view (inl refl)

    which : (entry : FileEntry) (v : BareView) → In v views ⊎ In v (view ∷ [])
        → In entry (standing v)
        → In entry (standing_files views) ⊎ In entry (standing_entries [] a)
    which entry v (inl old) stands = inl (in_flat_map standing views v entry old stands)
    which entry v (inr (inl is)) stands =
        inr (subst (λ (es : List FileEntry). In entry es) (ap standing (sym is) ∙ own_is) stands)
    which entry v (inr (inr none)) stands = absurd none

    all_files : AreAll (standing_files views) (standing_entries [] a)
        (standing_files (views ++ view ∷ []))
    all_files = record {
      either = λ entry there. (
          let of = flat_map_in standing (views ++ view ∷ []) entry there in
          which entry of.0 (in_either views (view ∷ []) of.0 of.1) of.2
          );
      old = λ entry there. (
          let of = flat_map_in standing views entry there in
          in_flat_map standing (views ++ view ∷ []) of.0 entry
          (in_left views (view ∷ []) of.0 of.1) of.2
          );
      came = λ entry there.
          in_flat_map standing (views ++ view ∷ []) view entry last
          (subst (λ (es : List FileEntry). In entry es) (sym own_is) there);
    }

    -- what the contents weigh then
    pub release_contents : sum_by entry_weight (distinct (standing_files (views ++ view ∷ [])))
        ≡ sum_by entry_weight (distinct (standing_files views)) + sum_by entry_weight programs
    release_contents =
        more_weigh (standing_files views) (standing_entries [] a) programs
        (standing_files (views ++ view ∷ [])) release_comes all_files
