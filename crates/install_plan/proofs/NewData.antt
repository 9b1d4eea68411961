-- The data files that plans make, one after another: what was fetched is taken out, and a copy is in the next draft.
use Rattle.std.proofs.Common.{◌≡◌, ◌≢◌, ◌∙◌, ◌+◌, ◌++◌, ◌<◌, ◌≤◌, refl, sym, ap, subst, ℕ, zero, suc, Bool, true, false, cond, List, [], ◌∷◌, take, drop, get_or, length, map, All, AllPairs, Option, Some, None, IsSome, bytes_eq, append_assoc, arith}
use Rattle.std.specs.Prelude.{count_by, sum_by}
use Rattle.std.specs.List.{remove}
use Rattle.std.specs.List.Sorted.{IsPermutation}
use Rattle.std.specs.declared.cmp.Ordering.TheVariants.{Less}
use Rattle.std.proofs.lemmas.Grind.{flat_map-append}
use Rattle.std.proofs.lemmas.List.{append-nil, drop_more, get_or_default, length-drop}
use Rattle.std.proofs.lemmas.List.Concat.{flat_map-cons}
use Rattle.std.proofs.lemmas.List.Elements.{All-cons, All-head, All-nil, All-tail}
use Rattle.std.proofs.lemmas.List.Sorted.{sum_by-IsPermutation}
use Rattle.std.proofs.lemmas.List.Sums.{sum_by-append, sum_by-cons}
use Rattle.std.proofs.lemmas.Slice.Eq.{bytes_eq-Decides}
use Rattle.file_store.specs.Stores.{blocks_of_all, draft_blocks}
use Rattle.file_store.specs.declared.draft.Draft.{Draft}
use Rattle.identity.specs.Printed.{text_cmp}
use Rattle.machine.proofs.Members.{all_in, in_all, pairs_head, pairs_tail}
use Rattle.machine.proofs.NamedItems.{not_equal}
use Rattle.store_state.specs.declared.view.LocalFile.{LocalFile}
use Rattle.store_state.specs.Locals.{local_named}
use Rattle.table_files.specs.Held.{held_for_locals}
use Rattle.table_files.proofs.SameItems.{SameTotals, from_totals}
use Rattle.data_migration.specs.declared.plan.LocalPlan.{LocalPlan}
use Rattle.data_migration.specs.declared.plan.LocalPlan.TheVariants.{Copy, Fresh}
use Rattle.data_migration.specs.Plans.{plan_name}
use Rattle.install_plan.specs.Carried.{Rise}
use Rattle.install_plan.specs.Changes.{length_in}
use Rattle.install_plan.specs.Parts.{IsThere, KeepBlocks, fresh_local, is_copy, made_locals}
use Rattle.install_plan.proofs.Keyed.{not_true}

-- ---- names

same_name : (a b : List ℕ) → bytes_eq a b ≡ true → a ≡ b
same_name a b e = (bytes_eq-Decides a b).0 e

pub other_name : (a b : List ℕ) → a ≢ b → bytes_eq a b ≡ false
other_name a b differ = by (bytes_eq a b) refl
  where
    by : (t : Bool) → bytes_eq a b ≡ t → bytes_eq a b ≡ false
    by true e = absurd (differ (same_name a b e))
    by false e = e

-- ---- one that is taken out

module _ (files : List LocalFile) (place : ℕ) (file : LocalFile) (lt : place < length files) (is : file ≡ get_or files place file) where
  here : drop place files ≡ file ∷ drop (place + 1) files
  here = drop_more files place file lt ∙ ap (λ (f : LocalFile). f ∷ drop (place + 1) files) (sym is)

  module _ (name : List ℕ) (before : local_named name (drop place files) ≡ local_named name files) where
    first_here : local_named name files ≡ cond (bytes_eq file.name name) (Some file) (local_named name (drop (place + 1) files))
    first_here = sym before ∙ ap (local_named name) here

    -- it is not this one
    pub named_later : bytes_eq file.name name ≡ false → local_named name (drop (place + 1) files) ≡ local_named name files
    named_later other = sym (first_here ∙ ap (λ (b : Bool). cond b (Some file) (local_named name (drop (place + 1) files))) other)

    -- it is
    pub named_here : bytes_eq file.name name ≡ true → file ≡ fresh_local name (local_named name files)
    named_here test =
        ap (λ (n : List ℕ). record file { name = n }) (same_name file.name name test)
        ∙ sym (ap (fresh_local name) (first_here ∙ ap (λ (b : Bool). cond b (Some file) (local_named name (drop (place + 1) files))) test))

-- where none is left there was none
pub none_left : (files : List LocalFile) (place : ℕ) (name : List ℕ) → length files ≤ place → local_named name (drop place files) ≡ local_named name files → IsSome (local_named name files) → ⊥
none_left files place name past same some = by (drop place files) refl
  where
    by : (rest : List LocalFile) → drop place files ≡ rest → ⊥
    by [] e = not_true (subst (λ (o : Option LocalFile). IsSome o) (sym same ∙ ap (local_named name) e) some)
    by (file ∷ rest) e = let long = ap length e in omega (arith, length-drop place files, long, past)

-- those of other names are as they were
pub others_stay : (files : List LocalFile) (place : ℕ) (file : LocalFile) (name other : List ℕ) → place < length files → file ≡ get_or files place file → file.name ≡ name → other ≢ name
    → local_named other (take place files ++ drop (suc place) files) ≡ local_named other files
others_stay [] place file name other lt is named differ = absurd (omega (arith, lt))
others_stay (first ∷ files) zero file name other lt is named differ =
    let test : bytes_eq first.name other ≡ false = other_name first.name other (λ same. differ (sym same ∙ ap (λ (f : LocalFile). f.name) (sym is) ∙ named)) in
    sym (ap (λ (b : Bool). cond b (Some first) (local_named other files)) test)
others_stay (first ∷ files) (suc place) file name other lt is named differ =
    ap (λ (o : Option LocalFile). cond (bytes_eq first.name other) (Some first) o) (others_stay files place file name other (omega (arith, lt)) is named differ)

-- its blocks and those of the others are those of all
taken_totals : (w : ℕ → ℕ) (files : List LocalFile) (place : ℕ) (file : LocalFile) → place < length files → file ≡ get_or files place file
    → sum_by w (held_for_locals files) ≡ sum_by w file.held + sum_by w (held_for_locals (take place files ++ drop (suc place) files))
taken_totals w [] place file lt is = absurd (omega (arith, lt))
taken_totals w (first ∷ files) zero file lt is =
    sum_by-append w first.held (held_for_locals files) ∙ ap (λ (f : LocalFile). sum_by w f.held + sum_by w (held_for_locals files)) (sym is)
taken_totals w (first ∷ files) (suc place) file lt is =
    let rest = taken_totals w files place file (omega (arith, lt)) is in
    omega (arith, rest, sum_by-append w first.held (held_for_locals files), sum_by-append w first.held (held_for_locals (take place files ++ drop (suc place) files)))

pub taken_blocks : (files : List LocalFile) (place : ℕ) (file : LocalFile) (left : List LocalFile) → place < length files → file ≡ get_or files place file → left ≡ remove files place
    → IsPermutation (held_for_locals files) (file.held ++ held_for_locals left)
taken_blocks files place file left lt is left_is =
    subst (λ (l : List LocalFile). IsPermutation (held_for_locals files) (file.held ++ held_for_locals l)) (sym left_is)
    (from_totals (held_for_locals files) (file.held ++ held_for_locals (remove files place))
    (λ w. taken_totals w files place file lt is ∙ sym (sum_by-append w file.held (held_for_locals (remove files place)))))

-- ---- all of them

-- a fresh one that is left is the one that was fetched
abbrev pub IsLeft : List LocalFile → List LocalFile → LocalPlan → Type 0
IsLeft left fetched (Copy from to) = Unit {0}
IsLeft left fetched (Fresh name) = local_named name left ≡ local_named name fetched

-- Data files are made of plans, and these plans and drafts are left.
pub record AreMaking (old fetched : List LocalFile) (copies : List Draft) (plans : List LocalPlan) (locals left : List LocalFile) (drafts : List Draft) (rest : List LocalPlan) : Type 0 where
  pub made : locals ++ made_locals old fetched drafts rest ≡ made_locals old fetched copies plans
  pub counted : length drafts ≡ count_by is_copy rest
  pub there : All (IsThere old fetched) rest
  pub rise : Rise rest
  pub same : All (IsLeft left fetched) rest
  pub blocks : SameTotals (held_for_locals fetched ++ blocks_of_all copies) (held_for_locals locals ++ (held_for_locals left ++ blocks_of_all drafts))

count_copy : (from to : List ℕ) (rest : List LocalPlan) → count_by is_copy (Copy from to ∷ rest) ≡ 1 + count_by is_copy rest
count_copy from to rest = sum_by-cons (λ (p : LocalPlan). cond (is_copy p) 1 0) (Copy from to) rest

count_fresh : (name : List ℕ) (rest : List LocalPlan) → count_by is_copy (Fresh name ∷ rest) ≡ 0 + count_by is_copy rest
count_fresh name rest = sum_by-cons (λ (p : LocalPlan). cond (is_copy p) 1 0) (Fresh name) rest

is_left : (fetched : List LocalFile) (plan : LocalPlan) → IsLeft fetched fetched plan
is_left fetched (Copy from to) = tt
is_left fetched (Fresh name) = refl

pub making_none : (old fetched : List LocalFile) (copies : List Draft) (plans : List LocalPlan) (locals : List LocalFile) → locals ≡ [] → All (IsThere old fetched) plans → Rise plans → length copies ≡ count_by is_copy plans
    → AreMaking old fetched copies plans locals fetched copies plans
making_none old fetched copies plans locals none there rise counted = record {
  made = ap (λ (ls : List LocalFile). ls ++ made_locals old fetched copies plans) none;
  counted = counted;
  there = there;
  rise = rise;
  same = in_all (IsLeft fetched fetched) plans (λ plan at. is_left fetched plan);
  blocks = λ w. ap (λ (ls : List LocalFile). sum_by w (held_for_locals ls ++ (held_for_locals fetched ++ blocks_of_all copies))) (sym none);
}

held_more : (w : ℕ → ℕ) (ls : List LocalFile) (f : LocalFile) → sum_by w (held_for_locals (ls ++ f ∷ [])) ≡ sum_by w (held_for_locals ls) + sum_by w f.held
held_more w ls f =
    ap (sum_by w) (flat_map-append (λ (x : LocalFile). x.held) ls (f ∷ []) ∙ ap (λ (bs : List ℕ). held_for_locals ls ++ bs) (append-nil f.held))
    ∙ sum_by-append w (held_for_locals ls) f.held

module _ (old fetched : List LocalFile) (copies : List Draft) (plans : List LocalPlan) (locals left : List LocalFile) where
  -- a copy
  module _ (drafts : List Draft) (from to : List ℕ) (rest : List LocalPlan) (so : AreMaking old fetched copies plans locals left drafts (Copy from to ∷ rest)) where
    pub copy_there : IsSome (local_named from old)
    copy_there = All-head (IsThere old fetched) (Copy from to) rest so.there

    pub copy_some : 0 < length drafts
    copy_some = omega (arith, so.counted, count_copy from to rest)

  pub copy_more : (draft : Draft) (drafts : List Draft) (from to : List ℕ) (rest : List LocalPlan) (so : AreMaking old fetched copies plans locals left (draft ∷ drafts) (Copy from to ∷ rest)) (file : LocalFile)
      → file ≡ record { name = to; length = length_in (local_named from old); held = draft_blocks draft } → AreMaking old fetched copies plans (locals ++ file ∷ []) left drafts rest
  copy_more draft drafts from to rest so file is = record {
    made = append_assoc locals (file ∷ []) (made_locals old fetched drafts rest) ∙ ap (λ (f : LocalFile). locals ++ f ∷ made_locals old fetched drafts rest) is ∙ so.made;
    counted = omega (arith, so.counted, count_copy from to rest);
    there = All-tail (IsThere old fetched) (Copy from to) rest so.there;
    rise = pairs_tail (λ p q. text_cmp (plan_name p) (plan_name q) ≡ Less) (Copy from to) rest so.rise;
    same = All-tail (IsLeft left fetched) (Copy from to) rest so.same;
    blocks = λ w. omega (
      arith,
      so.blocks w,
      sum_by-append w (held_for_locals locals) (held_for_locals left ++ (draft_blocks draft ++ blocks_of_all drafts)),
      sum_by-append w (held_for_locals left) (draft_blocks draft ++ blocks_of_all drafts),
      sum_by-append w (draft_blocks draft) (blocks_of_all drafts),
      sum_by-append w (held_for_locals (locals ++ file ∷ [])) (held_for_locals left ++ blocks_of_all drafts),
      sum_by-append w (held_for_locals left) (blocks_of_all drafts),
      held_more w locals file,
      ap (λ (f : LocalFile). sum_by w f.held) is,
    );
  }

  -- one that was fetched
  module _ (drafts : List Draft) (name : List ℕ) (rest : List LocalPlan) (so : AreMaking old fetched copies plans locals left drafts (Fresh name ∷ rest)) where
    left_is : local_named name left ≡ local_named name fetched
    left_is = All-head (IsLeft left fetched) (Fresh name) rest so.same

    pub fresh_there : IsSome (local_named name left)
    fresh_there = subst (λ (o : Option LocalFile). IsSome o) (sym left_is) (All-head (IsThere old fetched) (Fresh name) rest so.there)

    module _ (file : LocalFile) (left' : List LocalFile) (taken : file ≡ fresh_local name (local_named name left)) (moved : IsPermutation (held_for_locals left) (file.held ++ held_for_locals left'))
        (others : (other : List ℕ) → other ≢ name → local_named other left' ≡ local_named other left) where
      still : (plan : LocalPlan) → text_cmp name (plan_name plan) ≡ Less → IsLeft left fetched plan → IsLeft left' fetched plan
      still (Copy from to) less is = tt
      still (Fresh other) less is = others other (λ same. not_equal name other less (sym same)) ∙ is

      file_is : file ≡ fresh_local name (local_named name fetched)
      file_is = taken ∙ ap (fresh_local name) left_is

      pub fresh_more : AreMaking old fetched copies plans (locals ++ file ∷ []) left' drafts rest
      fresh_more = record {
        made = append_assoc locals (file ∷ []) (made_locals old fetched drafts rest) ∙ ap (λ (f : LocalFile). locals ++ f ∷ made_locals old fetched drafts rest) file_is ∙ so.made;
        counted = omega (arith, so.counted, count_fresh name rest);
        there = All-tail (IsThere old fetched) (Fresh name) rest so.there;
        rise = pairs_tail (λ p q. text_cmp (plan_name p) (plan_name q) ≡ Less) (Fresh name) rest so.rise;
        same =
            let lower = pairs_head (λ p q. text_cmp (plan_name p) (plan_name q) ≡ Less) (Fresh name) rest so.rise in
            let before = All-tail (IsLeft left fetched) (Fresh name) rest so.same in
            in_all (IsLeft left' fetched) rest (λ plan at. still plan (all_in (λ (p : LocalPlan). text_cmp name (plan_name p) ≡ Less) rest plan lower at) (all_in (IsLeft left fetched) rest plan before at));
        blocks = λ w. omega (
          arith,
          so.blocks w,
          sum_by-append w (held_for_locals locals) (held_for_locals left ++ blocks_of_all drafts),
          sum_by-append w (held_for_locals left) (blocks_of_all drafts),
          sum_by-append w (held_for_locals (locals ++ file ∷ [])) (held_for_locals left' ++ blocks_of_all drafts),
          sum_by-append w (held_for_locals left') (blocks_of_all drafts),
          held_more w locals file,
          sum_by-IsPermutation w (held_for_locals left) (file.held ++ held_for_locals left') moved,
          sum_by-append w file.held (held_for_locals left'),
        );
      }

  -- all of them
  pub made_all : (drafts : List Draft) → AreMaking old fetched copies plans locals left drafts [] → (locals ≡ made_locals old fetched copies plans) × KeepBlocks fetched copies locals left
  made_all [] so = (
    sym (append-nil locals) ∙ so.made,
    from_totals (held_for_locals fetched ++ blocks_of_all copies) (held_for_locals locals ++ held_for_locals left)
        (λ w. so.blocks w ∙ ap (λ (bs : List ℕ). sum_by w (held_for_locals locals ++ bs)) (append-nil (held_for_locals left))),
  )
  made_all (draft ∷ drafts) so = absurd (omega (arith, so.counted))

-- ---- by places

-- so many copies were used, for the first plans
pub record AreMadeTo (old fetched : List LocalFile) (copies : List Draft) (plans : List LocalPlan) (locals left : List LocalFile) (next at : ℕ) : Type 0 where
  pub within : next ≤ length copies
  pub so : AreMaking old fetched copies plans locals left (drop next copies) (drop at plans)

pub begun : (old fetched : List LocalFile) (copies : List Draft) (plans : List LocalPlan) (locals : List LocalFile) → locals ≡ [] → All (IsThere old fetched) plans → Rise plans → length copies ≡ count_by is_copy plans
    → AreMadeTo old fetched copies plans locals fetched 0 0
begun old fetched copies plans locals none there rise counted = record { within = omega arith; so = making_none old fetched copies plans locals none there rise counted }

module _ (old fetched : List LocalFile) (copies : List Draft) (plans : List LocalPlan) (locals left : List LocalFile) (next at : ℕ) (to : AreMadeTo old fetched copies plans locals left next at)
    (plan : LocalPlan) (lt : at < length plans) (is : plan ≡ get_or plans at plan) where
  rest_is : drop at plans ≡ plan ∷ drop (at + 1) plans
  rest_is = drop_more plans at plan lt ∙ ap (λ (p : LocalPlan). p ∷ drop (at + 1) plans) (sym is)

  on : (p : LocalPlan) → plan ≡ p → AreMaking old fetched copies plans locals left (drop next copies) (p ∷ drop (at + 1) plans)
  on p same = subst (AreMaking old fetched copies plans locals left (drop next copies)) (rest_is ∙ ap (λ (q : LocalPlan). q ∷ drop (at + 1) plans) same) to.so

  module _ (from into : List ℕ) (copy : plan ≡ Copy from into) where
    pub from_there : IsSome (local_named from old)
    from_there = copy_there old fetched copies plans locals left (drop next copies) from into (drop (at + 1) plans) (on (Copy from into) copy)

    pub next_within : next < length copies
    next_within = let some = copy_some old fetched copies plans locals left (drop next copies) from into (drop (at + 1) plans) (on (Copy from into) copy) in omega (arith, some, length-drop next copies)

    pub copied_to : (draft : Draft) (file : LocalFile) (place : ℕ) (locals' : List LocalFile) → place + 1 ≡ next + 1 → draft ≡ get_or copies place draft → file ≡ record { name = into; length = length_in (local_named from old); held = draft_blocks draft } → locals' ≡ locals ++ file ∷ []
        → AreMadeTo old fetched copies plans locals' left (next + 1) (at + 1)
    copied_to draft file place locals' same draft_is made more =
        let place_is : place ≡ next = omega (arith, same) in
        let here : drop next copies ≡ draft ∷ drop (next + 1) copies =
        drop_more copies next draft next_within ∙ ap (λ (d : Draft). d ∷ drop (next + 1) copies) (sym (draft_is ∙ ap (λ (n : ℕ). get_or copies n draft) place_is)) in
        record {
          within = omega (arith, next_within);
          so = subst (λ (ls : List LocalFile). AreMaking old fetched copies plans ls left (drop (next + 1) copies) (drop (at + 1) plans)) (sym more)
              (copy_more old fetched copies plans locals left draft (drop (next + 1) copies) from into (drop (at + 1) plans)
              (subst (λ (ds : List Draft). AreMaking old fetched copies plans locals left ds (Copy from into ∷ drop (at + 1) plans)) here (on (Copy from into) copy)) file made);
        }

  module _ (name : List ℕ) (fresh : plan ≡ Fresh name) where
    pub name_there : IsSome (local_named name left)
    name_there = fresh_there old fetched copies plans locals left (drop next copies) name (drop (at + 1) plans) (on (Fresh name) fresh)

    pub fetched_to : (file : LocalFile) (left' locals' : List LocalFile) → file ≡ fresh_local name (local_named name left) → IsPermutation (held_for_locals left) (file.held ++ held_for_locals left')
        → ((other : List ℕ) → other ≢ name → local_named other left' ≡ local_named other left) → locals' ≡ locals ++ file ∷ [] → AreMadeTo old fetched copies plans locals' left' next (at + 1)
    fetched_to file left' locals' taken moved others more = record {
      within = to.within;
      so = subst (λ (ls : List LocalFile). AreMaking old fetched copies plans ls left' (drop next copies) (drop (at + 1) plans)) (sym more)
          (fresh_more old fetched copies plans locals left (drop next copies) name (drop (at + 1) plans) (on (Fresh name) fresh) file left' taken moved others);
    }

pub as_kept : (old fetched : List LocalFile) (copies : List Draft) (plans : List LocalPlan) (locals left left' : List LocalFile) (next next' at : ℕ) → left' ≡ left → next' ≡ next → AreMadeTo old fetched copies plans locals left next at
    → AreMadeTo old fetched copies plans locals left' next' at
as_kept old fetched copies plans locals left left' next next' at left_is next_is to =
    subst (λ (l : List LocalFile). AreMadeTo old fetched copies plans locals l next' at) (sym left_is) (subst (λ (n : ℕ). AreMadeTo old fetched copies plans locals left n at) (sym next_is) to)

pub ended : (old fetched : List LocalFile) (copies : List Draft) (plans : List LocalPlan) (locals left : List LocalFile) (next at : ℕ) → AreMadeTo old fetched copies plans locals left next at → length plans ≤ at
    → (locals ≡ made_locals old fetched copies plans) × KeepBlocks fetched copies locals left
ended old fetched copies plans locals left next at to past =
    made_all old fetched copies plans locals left (drop next copies)
    (subst (AreMaking old fetched copies plans locals left (drop next copies)) (none (drop at plans) (omega (arith, length-drop at plans, past))) to.so)
  where
    none : (ps : List LocalPlan) → length ps ≡ 0 → ps ≡ []
    none [] e = refl
    none (p ∷ ps) e = absurd (omega (arith, e))

-- ---- one that is taken out, by what the calls say

pub record IsTaken (name : List ℕ) (all left : List LocalFile) (file : LocalFile) : Type 0 where
  pub taken : file ≡ fresh_local name (local_named name all)
  pub blocks : IsPermutation (held_for_locals all) (file.held ++ held_for_locals left)
  pub others : (other : List ℕ) → other ≢ name → local_named other left ≡ local_named other all

pub taken_at : (name : List ℕ) (items all left : List LocalFile) (place : ℕ) (seen file : LocalFile) → items ≡ all → place < length items → seen ≡ get_or items place seen → file ≡ get_or items place file
    → local_named name (drop place all) ≡ local_named name all → bytes_eq seen.name name ≡ true → left ≡ remove items place → IsTaken name all left file
taken_at name items all left place seen file same lt seen_is file_is before test left_is =
    let within : place < length all = subst (λ (l : List LocalFile). place < length l) same lt in
    let at : file ≡ get_or all place file = file_is ∙ ap (λ (l : List LocalFile). get_or l place file) same in
    let one : seen ≡ file = seen_is ∙ get_or_default items place seen file lt ∙ sym file_is in
    let here : bytes_eq file.name name ≡ true = subst (λ (f : LocalFile). bytes_eq f.name name ≡ true) one test in
    let without : left ≡ remove all place = left_is ∙ ap (λ (l : List LocalFile). remove l place) same in
    record {
      taken = named_here all place file within at name before here;
      blocks = taken_blocks all place file left within at without;
      others = λ other differ. ap (local_named other) without ∙ others_stay all place file name other within at (same_name file.name name here) differ;
    }
