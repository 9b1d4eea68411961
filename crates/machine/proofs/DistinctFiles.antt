-- Files of one content count once, and blocks are rounded up.
use Rattle.std.proofs.Common.{◌≡◌, ◌≢◌, ◌∙◌, ◌+◌, ◌*◌, ◌<◌, ◌≤◌, Bool, true, false, cond, List, [], ◌∷◌, ℕ, suc, All, AllPairs, Any, Contains, refl, sym, subst, arith}
use Rattle.std.specs.List.{list_any}
use Rattle.std.proofs.lemmas.List.Elements.{All-cons, All-nil, All-weaker}
use Rattle.std.proofs.lemmas.List.Folds.{Any-from_list_any, list_any-from_Any}
use Rattle.std.proofs.lemmas.List.Kept.{AllPairs-cons}
use Rattle.small_types.specs.declared.limits.TheConstants.{BLOCK_SIZE}
use Rattle.manifests.specs.declared.facts.FileEntry.{FileEntry}
use Rattle.machine.specs.Blocks.{blocks_of, distinct}
use Rattle.machine.specs.Views.{content_key, same_content}
use Rattle.machine.proofs.Contents.{content_decides}

pub rounded_up : (bytes : ℕ) → (bytes ≤ BLOCK_SIZE * blocks_of bytes) × (BLOCK_SIZE * blocks_of bytes < bytes + BLOCK_SIZE)
rounded_up bytes = (omega arith, omega arith)

-- ---- each file that is kept is one of them

behind : (e f : FileEntry) (es : List FileEntry) → Contains es f → Contains (e ∷ es) f
behind e f es at = (suc at.0, omega (arith, at.1), at.2)

kept_by : (known : Bool) (e : FileEntry) (es kept : List FileEntry) → All (Contains es) kept → All (Contains (e ∷ es)) (cond known kept (e ∷ kept))
kept_by true e es kept all = All-weaker (Contains es) (Contains (e ∷ es)) (λ f at. behind e f es at) kept all
kept_by false e es kept all = All-cons (Contains (e ∷ es)) e kept (0, omega arith, refl) (All-weaker (Contains es) (Contains (e ∷ es)) (λ f at. behind e f es at) kept all)

pub distinct_are_kept : (entries : List FileEntry) → All (Contains entries) (distinct entries)
distinct_are_kept [] = All-nil _
distinct_are_kept (e ∷ es) = kept_by (list_any (same_content e) es) e es (distinct es) (distinct_are_kept es)

-- ---- no two have one content

abbrev pub Differ : FileEntry → FileEntry → Type 0
Differ e f = content_key e ≢ content_key f

-- a file that is like none differs from each
differs : (e : FileEntry) (es : List FileEntry) → list_any (same_content e) es ≡ false → (f : FileEntry) → Contains es f → Differ e f
differs e es none f at same = both (list_any-from_Any (same_content e) es (at.0, f, at.1, at.2, (content_decides e f).1 same))
  where
    both : list_any (same_content e) es ≡ true → ⊥
    both some = clash (sym none ∙ some)
      where
        clash : false ≡ true → ⊥
        clash e = cc

apart_by : (known : Bool) (e : FileEntry) (es : List FileEntry) → list_any (same_content e) es ≡ known → AllPairs Differ (distinct es) → AllPairs Differ (cond known (distinct es) (e ∷ distinct es))
apart_by true e es is apart = apart
apart_by false e es is apart = AllPairs-cons Differ e (distinct es) (All-weaker (Contains es) (Differ e) (λ f at. differs e es is f at) (distinct es) (distinct_are_kept es)) apart

none_differ : AllPairs Differ []
none_differ i j d lt within = absurd (omega arith)

pub distinct_differ : (entries : List FileEntry) → AllPairs Differ (distinct entries)
distinct_differ [] = none_differ
distinct_differ (e ∷ es) = apart_by (list_any (same_content e) es) e es refl (distinct_differ es)

-- ---- each file has one of its content

abbrev pub HasIts : List FileEntry → FileEntry → Type 0
HasIts kept e = Any (λ (f : FileEntry). content_key f ≡ content_key e) kept

more : (e f : FileEntry) (kept : List FileEntry) → HasIts kept f → HasIts (e ∷ kept) f
more e f kept any = (suc any.0, any.1, omega (arith, any.2), any.3, any.4)

alike : (e f : FileEntry) (kept : List FileEntry) → content_key f ≡ content_key e → HasIts kept f → HasIts kept e
alike e f kept same any = (any.0, any.1, any.2, any.3, any.4 ∙ same)

its_by : (known : Bool) (e : FileEntry) (es : List FileEntry) → list_any (same_content e) es ≡ known → All (HasIts (distinct es)) es → All (HasIts (cond known (distinct es) (e ∷ distinct es))) (e ∷ es)
its_by true e es is all =
    let found = Any-from_list_any (same_content e) es is in
    let same : content_key e ≡ content_key found.1 = (content_decides e found.1).0 found.4 in
    let its : HasIts (distinct es) found.1 = subst (HasIts (distinct es)) found.3 (all found.0 found.1 found.2) in
    All-cons (HasIts (distinct es)) e es (alike e found.1 (distinct es) (sym same) its) all
its_by false e es is all = All-cons (HasIts (e ∷ distinct es)) e es (0, e, omega arith, refl, refl) (All-weaker (HasIts (distinct es)) (HasIts (e ∷ distinct es)) (λ f its. more e f (distinct es) its) es all)

pub distinct_have_all : (entries : List FileEntry) → All (HasIts (distinct entries)) entries
distinct_have_all [] = All-nil _
distinct_have_all (e ∷ es) = its_by (list_any (same_content e) es) e es refl (distinct_have_all es)
