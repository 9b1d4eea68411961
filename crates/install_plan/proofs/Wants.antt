-- What is wanted, by the places of the files.
use Rattle.std.proofs.Common.{◌≡◌, ◌∙◌, ◌⊎◌, ◌*◌, ◌<◌, ◌≤◌, ℕ, inl, inr, refl, sym, ap, subst, Bool, List, [], ◌∷◌, length, map, All, Option, Some, None, Ok, Err, arith}
use Rattle.std.specs.Prelude.{Any, Result, slice_get, sum_by}
use Rattle.std.proofs.lemmas.List.Elements.{All-cons, All-nil}
use Rattle.std.proofs.lemmas.List.Sums.{sum_by-cons}
use Rattle.std.proofs.lemmas.Option.{slice_get_within}
use Rattle.small_types.specs.declared.target.Target.{Target}
use Rattle.addresses.specs.declared.fault.UrlFault.{UrlFault}
use Rattle.addresses.specs.declared.fault.UrlFault.TheVariants.{BadUrl}
use Rattle.addresses.specs.Join.{file_target_of}
use Rattle.manifests.specs.declared.facts.FileEntry.{FileEntry}
use Rattle.machine.specs.declared.reply.Reply.{Reply}
use Rattle.machine.specs.declared.reply.Reply.TheVariants as says
use Rattle.machine.specs.Blocks.{blocks_of}
use Rattle.machine.proofs.Members.{In, contains_in, in_contains, in_map, map_in, sum_map}
use Rattle.install_plan.specs.declared.plan.WantedFile.{WantedFile}
use Rattle.install_plan.specs.WantedFiles.{blocks_at, target_at}

-- ---- elements

pub in_any : {X : Type 0} (P : X → Type 0) (xs : List X) (x : X) → In x xs → P x → Any P xs
in_any P xs x there holds = let at = contains_in xs x there in (at.0, x, at.1, at.2, holds)

pub any_in : {X : Type 0} (P : X → Type 0) (xs : List X) → Any P xs → (x : X) × In x xs × P x
any_in P xs any = (any.1, in_contains xs any.1 (any.0, any.2, any.3), any.4)

pub some_is : {X : Type 0} (x y : X) → ◌≡◌ {A = Option X} (Some x) (Some y) → x ≡ y
some_is x y e = cc

none_is_not_some : {P X : Type 0} (x : X) → ◌≡◌ {A = Option X} None (Some x) → P
none_is_not_some x e = absurd cc

-- ---- places

module _ (files : List FileEntry) where
  -- what stands at the places are these entries
  pub places_within : (places : List ℕ) (entries : List FileEntry) → map (slice_get files) places ≡ map Some entries → All (λ place. place < length files) places
  places_within [] entries is = All-nil (λ place. place < length files)
  places_within (place ∷ places) [] is = absurd (let is = is in cc)
  places_within (place ∷ places) (entry ∷ entries) is =
      let first : slice_get files place ≡ Some entry = cc in
      let rest : map (slice_get files) places ≡ map Some entries = cc in
      All-cons (λ p. p < length files) place places (slice_get_within files place entry first) (places_within places entries rest)

  -- what is read at the places is read of the entries
  pub at_entries : {Z : Type 0} (f : Option FileEntry → Z) (places : List ℕ) (entries : List FileEntry) → map (slice_get files) places ≡ map Some entries
      → map (λ place. f (slice_get files place)) places ≡ map (λ entry. f (Some entry)) entries
  at_entries f [] [] is = refl
  at_entries f [] (entry ∷ entries) is = absurd (let is = is in cc)
  at_entries f (place ∷ places) [] is = absurd (let is = is in cc)
  at_entries {Z} f (place ∷ places) (entry ∷ entries) is =
      let first : slice_get files place ≡ Some entry = cc in
      let rest : map (slice_get files) places ≡ map Some entries = cc in
      let here : f (slice_get files place) ≡ f (Some entry) = ap f first in
      let others : map (λ p. f (slice_get files p)) places ≡ map (λ e. f (Some e)) entries = at_entries f places entries rest in
      ap (λ (z : Z). z ∷ map (λ p. f (slice_get files p)) places) here ∙ ap (λ (zs : List Z). f (Some entry) ∷ zs) others

  -- the wanted files stand at the places
  pub wanted_at : (wanted : List WantedFile) (places : List ℕ) (entries : List FileEntry) → map (λ file. file.place) wanted ≡ places → map (slice_get files) places ≡ map Some entries
      → map (λ file. slice_get files file.place) wanted ≡ map Some entries
  wanted_at wanted places entries are is = through wanted ∙ ap (λ (ps : List ℕ). map (slice_get files) ps) are ∙ is
    where
      through : (ws : List WantedFile) → map (λ (file : WantedFile). slice_get files file.place) ws ≡ map (slice_get files) (map (λ (file : WantedFile). file.place) ws)
      through [] = refl
      through (w ∷ ws) = ap (λ (os : List (Option FileEntry)). slice_get files w.place ∷ os) (through ws)

  -- their blocks
  pub blocks_are : (places : List ℕ) (entries : List FileEntry) → map (slice_get files) places ≡ map Some entries
      → sum_by (λ place. blocks_at (slice_get files place)) places ≡ sum_by (λ entry. blocks_of entry.size) entries
  blocks_are places entries is =
      sym (sum_map (slice_get files) blocks_at places) ∙ ap (λ (os : List (Option FileEntry)). sum_by blocks_at os) is ∙ sum_map Some blocks_at entries

  -- a refused address is that of an entry
  pub refused_entry : (reply : Reply) (base : Target) (mapped : Bool) (places : List ℕ) (entries : List FileEntry) → map (slice_get files) places ≡ map Some entries
      → (reply ≡ says.Memory) ⊎ ((reply ≡ says.BadUrl) × Any (λ place. target_at base mapped (slice_get files place) ≡ Err BadUrl) places)
      → (reply ≡ says.Memory) ⊎ ((reply ≡ says.BadUrl) × Any (λ entry. file_target_of base mapped entry.name ≡ Err BadUrl) entries)
  refused_entry reply base mapped places entries is (inl memory) = inl memory
  refused_entry reply base mapped places entries is (inr bad) =
      let found = any_in (λ (place : ℕ). target_at base mapped (slice_get files place) ≡ Err BadUrl) places bad.1 in
      let there = subst (λ (os : List (Option FileEntry)). In (slice_get files found.0) os) is (in_map (slice_get files) places found.0 found.1) in
      let entry = map_in Some entries (slice_get files found.0) there in
      inr (bad.0, in_any (λ (e : FileEntry). file_target_of base mapped e.name ≡ Err BadUrl) entries entry.0 entry.1 (ap (target_at base mapped) entry.2 ∙ found.2))

-- where each entry has an address none is refused
pub none_refused : (base : Target) (mapped : Bool) (entries : List FileEntry) (wanted : List WantedFile) → map (λ entry. file_target_of base mapped entry.name) entries ≡ map (λ file. Ok file.target) wanted
    → Any (λ entry. file_target_of base mapped entry.name ≡ Err BadUrl) entries → ⊥
none_refused base mapped entries wanted are any =
    let found = any_in (λ (entry : FileEntry). file_target_of base mapped entry.name ≡ Err BadUrl) entries any in
    let there = subst (λ (ts : List (Result Target UrlFault)). In (file_target_of base mapped found.0.name) ts) are (in_map (λ (entry : FileEntry). file_target_of base mapped entry.name) entries found.0 found.1) in
    let file = map_in (λ (w : WantedFile). Ok w.target) wanted (file_target_of base mapped found.0.name) there in
    other file.0.target (file.2 ∙ found.2)
  where
    other : (t : Target) → ◌≡◌ {A = Result Target UrlFault} (Ok t) (Err BadUrl) → ⊥
    other t e = cc

-- ---- how many blocks at most

-- so many files of so many blocks
pub sum_most : {X : Type 0} (f : X → ℕ) (xs : List X) (most : ℕ) → ((x : X) → In x xs → f x ≤ most) → sum_by f xs ≤ length xs * most
sum_most f [] most each = omega arith
sum_most f (x ∷ xs) most each =
    let first = each x (inl refl) in
    let rest = sum_most f xs most (λ y there. each y (inr there)) in
    omega (arith, first, rest, sum_by-cons f x xs)
