-- What marks say of files, with one mark more.
use Rattle.std.proofs.Common.{◌≡◌, ℕ, suc, ◌+◌, ◌<◌, ◌≤◌, Bool, true, false, cond, not, ◌&&◌, ◌||◌, List, [], ◌∷◌, ◌++◌, length, take, drop, get_or, Option, Some, None, refl, sym, ap, ap₂, subst, ◌∙◌, inl, inr, arith, if◌then◌else◌, add-one, drop-cons}
use Rattle.std.specs.Prelude.{find, is_some, option_map}
use Rattle.std.specs.BTreeMap.{BTreeMap, Updates, is_at}
use Rattle.std.specs.Cmp.Lexicographic.{slice_cmp}
use Rattle.std.specs.List.{list_any}
use Rattle.std.specs.Option.{option_or}
use Rattle.std.specs.Ordering.{nat_cmp, is_eq}
use Rattle.std.specs.Str.{bytes_eq}
use Rattle.std.proofs.lemmas.Bool.{cases_Bool, cond-true, cond-false, or_left, or_right}
use Rattle.std.proofs.lemmas.List.{take_more, take_all, drop_all}
use Rattle.std.proofs.lemmas.List.Folds.{list_any-append, find-append}
use Rattle.std.proofs.lemmas.Map.Text.{is_eq-slice_cmp}
use Rattle.std.proofs.lemmas.Slice.Eq.{bytes_eq-Decides}
use Rattle.publish_plan.specs.declared.options.Mark.{Mark}
use Rattle.publish_plan.specs.declared.options.MarkKind.{MarkKind}
use Rattle.publish_plan.specs.declared.marked.Seen.{Seen}
use Rattle.publish_plan.specs.Marks.{names_file, is_marked, is_data, is_local, group_in, group_at, group_of, is_among, is_good, bad_mark}
use Rattle.publish_plan.specs.Seen.{seen_of, more, unmarked, is_fresh, row, Knows, Adds}

abbrev seen_at : Bool → Bool → Option (List ℕ) → Seen
seen_at named local group = record { named = named; local = local; group = group }

-- ---- one mark more, of one file

found_where_marked : (ms : List Mark) (q : List ℕ) → is_marked ms q ≡ is_some (find (names_file q) ms)
found_where_marked [] q = refl
found_where_marked (m ∷ ms) q = elim (cases_Bool (names_file q m)) [
  | inl is ↦
      ap (λ (b : Bool). b || is_marked ms q) is ∙ sym (ap (λ (b : Bool). is_some (cond b (Some m) (find (names_file q) ms))) is)
  | inr other ↦
      ap (λ (b : Bool). b || is_marked ms q) other ∙ found_where_marked ms q ∙ sym (ap (λ (b : Bool). is_some (cond b (Some m) (find (names_file q) ms))) other)
]

first_group : (found : Option Mark) (m : Mark) → group_at (option_or found (Some m)) ≡ cond (is_some found) (group_at found) (group_in m.kind)
first_group None m = refl
first_group (Some n) m = refl

or_none : (found : Option Mark) → option_or found None ≡ found
or_none None = refl
or_none (Some n) = refl

or_nothing : (a b : Bool) → (a || (b || false)) ≡ (a || b)
or_nothing a true = refl
or_nothing a false = refl

or_none_of : (a : Bool) → (a || false) ≡ a
or_none_of true = refl
or_none_of false = refl

or_nothing_left : (bad : Option (List ℕ)) → option_or bad None ≡ bad
or_nothing_left None = refl
or_nothing_left (Some b) = refl

module _ (ms : List Mark) (m : Mark) (q : List ℕ) where
  marked_more : is_marked (ms ++ m ∷ []) q ≡ (is_marked ms q || (names_file q m || false))
  marked_more = list_any-append (names_file q) ms (m ∷ [])

  data_more : is_data (ms ++ m ∷ []) q ≡ (is_data ms q || ((names_file q m && is_local m.kind) || false))
  data_more = list_any-append (λ (n : Mark). names_file q n && is_local n.kind) ms (m ∷ [])

  group_more : group_of (ms ++ m ∷ []) q ≡ group_at (option_or (find (names_file q) ms) (cond (names_file q m) (Some m) None))
  group_more = ap group_at (find-append (names_file q) ms (m ∷ []))

  pub seen_more : bytes_eq m.file q ≡ true → seen_of (ms ++ m ∷ []) q ≡ more (seen_of ms q) m
  seen_more is =
      let named : is_marked (ms ++ m ∷ []) q ≡ true = marked_more ∙ ap (λ (b : Bool). is_marked ms q || (b || false)) is ∙ or_right (is_marked ms q) true refl in
      let local = data_more ∙ ap (λ (b : Bool). is_data ms q || ((b && is_local m.kind) || false)) is ∙ or_nothing (is_data ms q) (is_local m.kind) in
      let group = group_more ∙ ap (λ (b : Bool). group_at (option_or (find (names_file q) ms) (cond b (Some m) None))) is ∙ first_group (find (names_file q) ms) m
      ∙ sym (ap (λ (b : Bool). cond b (group_of ms q) (group_in m.kind)) (found_where_marked ms q)) in
      ap (λ (b : Bool). seen_at b (is_data (ms ++ m ∷ []) q) (group_of (ms ++ m ∷ []) q)) named
      ∙ ap (λ (b : Bool). seen_at true b (group_of (ms ++ m ∷ []) q)) local
      ∙ ap (seen_at true (is_data ms q || is_local m.kind)) group

  pub seen_same : bytes_eq m.file q ≡ false → seen_of (ms ++ m ∷ []) q ≡ seen_of ms q
  seen_same other =
      let named : is_marked (ms ++ m ∷ []) q ≡ is_marked ms q = marked_more ∙ ap (λ (b : Bool). is_marked ms q || (b || false)) other ∙ or_none_of (is_marked ms q) in
      let local = data_more ∙ ap (λ (b : Bool). is_data ms q || ((b && is_local m.kind) || false)) other ∙ or_none_of (is_data ms q) in
      let group = group_more ∙ ap (λ (b : Bool). group_at (option_or (find (names_file q) ms) (cond b (Some m) None))) other ∙ ap group_at (or_none (find (names_file q) ms)) in
      ap (λ (b : Bool). seen_at b (is_data (ms ++ m ∷ []) q) (group_of (ms ++ m ∷ []) q)) named
      ∙ ap (λ (b : Bool). seen_at (is_marked ms q) b (group_of (ms ++ m ∷ []) q)) local
      ∙ ap (seen_at (is_marked ms q) (is_data ms q)) group

-- ---- the table

module _ (table : BTreeMap (List ℕ) Seen) (files : List (List ℕ)) (ms : List Mark) (known : Knows table files ms) where
  fresh_by : (among named : Bool) (s : Seen) → s.named ≡ named → is_fresh (cond among (Some s) None) ≡ (among && not named)
  fresh_by true named s is = ap not is
  fresh_by false named s is = refl

  pub fresh_known : (q : List ℕ) → is_fresh (row table q) ≡ (is_among files q && not (is_marked ms q))
  fresh_known q = ap is_fresh (known q) ∙ fresh_by (is_among files q) (is_marked ms q) (seen_of ms q) refl

  mapped : (among : Bool) (m : Mark) (s : Seen) → option_map (λ (t : Seen). more t m) (cond among (Some s) None) ≡ cond among (Some (more s m)) None
  mapped true m s = refl
  mapped false m s = refl

  pub knows_more : (new : BTreeMap (List ℕ) Seen) (m : Mark) → Adds table new m → Knows new files (ms ++ m ∷ [])
  knows_more new m adds q = elim (cases_Bool (bytes_eq m.file q)) [
    | inl is ↦
        adds q ∙ cond-true (bytes_eq m.file q) _ _ is ∙ ap (option_map (λ (t : Seen). more t m)) (known q) ∙ mapped (is_among files q) m (seen_of ms q)
        ∙ ap (λ (s : Seen). cond (is_among files q) (Some s) None) (sym (seen_more ms m q is))
    | inr other ↦
        adds q ∙ cond-false (bytes_eq m.file q) _ _ other ∙ known q
        ∙ ap (λ (s : Seen). cond (is_among files q) (Some s) None) (sym (seen_same ms m q other))
  ]

module _ (old : BTreeMap (List ℕ) Seen) (m : Mark) where
  pub adds_nothing : row old m.file ≡ None → Adds old old m
  adds_nothing none q = elim (cases_Bool (bytes_eq m.file q)) [
    | inl is ↦
        let same : m.file ≡ q = (bytes_eq-Decides m.file q).0 is in
        let here : row old q ≡ None = ap (row old) (sym same) ∙ none in
        here ∙ sym (cond-true (bytes_eq m.file q) _ _ is ∙ ap (option_map (λ (t : Seen). more t m)) here)
    | inr other ↦ sym (cond-false (bytes_eq m.file q) _ _ other)
  ]

  pub adds_more : (new : BTreeMap (List ℕ) Seen) (s t : Seen) → row old m.file ≡ Some s → t ≡ more s m → Updates (slice_cmp nat_cmp) old new m.file (Some t) → Adds old new m
  adds_more new s t was is updates q =
      let changed : row new q ≡ cond (bytes_eq m.file q) (Some t) (row old q) = updates.0 q ∙ ap (λ (b : Bool). cond b (Some t) (row old q)) (is_eq-slice_cmp m.file q) in
      elim (cases_Bool (bytes_eq m.file q)) [
        | inl equal ↦
            let same : m.file ≡ q = (bytes_eq-Decides m.file q).0 equal in
            let here : row old q ≡ Some s = ap (row old) (sym same) ∙ was in
            changed ∙ cond-true (bytes_eq m.file q) _ _ equal ∙ ap (λ (u : Seen). Some u) is
            ∙ sym (cond-true (bytes_eq m.file q) _ _ equal ∙ ap (option_map (λ (u : Seen). more u m)) here)
        | inr other ↦ changed ∙ cond-false (bytes_eq m.file q) _ _ other ∙ sym (cond-false (bytes_eq m.file q) _ _ other)
      ]

-- ---- the first bad mark

pub record Marking (files : List (List ℕ)) (marks : List Mark) (table : BTreeMap (List ℕ) Seen) (bad : Option (List ℕ)) (i : ℕ) : Type 0 where
  pub known : Knows table files (take i marks)
  pub first : option_or bad (bad_mark files (take i marks) (drop i marks)) ≡ bad_mark files [] marks

chosen : (bad : Option (List ℕ)) (good : Bool) (file : List ℕ) (rest : Option (List ℕ)) → option_or (option_or bad (if good then None else Some file)) rest ≡ option_or bad (if good then rest else Some file)
chosen None true file rest = refl
chosen None false file rest = refl
chosen (Some b) good file rest = refl

module _ (files : List (List ℕ)) (marks : List Mark) (table new : BTreeMap (List ℕ) Seen) (bad after : Option (List ℕ)) (i : ℕ) (m : Mark) (good : Bool) where
  pub marking_more : i < length marks → m ≡ get_or marks i m → Marking files marks table bad i → Adds table new m → good ≡ is_fresh (row table m.file)
      → after ≡ option_or bad (if good then None else Some m.file) → Marking files marks new after (i + 1)
  marking_more inside is so_far adds judged made =
      let longer : take (i + 1) marks ≡ take i marks ++ m ∷ [] = take_more marks i m inside ∙ ap (λ (x : Mark). take i marks ++ x ∷ []) (sym is) in
      let left : drop i marks ≡ m ∷ drop (i + 1) marks = rw (add-one, drop-cons marks i m inside) (ap (λ (x : Mark). x ∷ drop (suc i) marks) (sym is)) in
      let rest = bad_mark files (take (i + 1) marks) (drop (i + 1) marks) in
      let is_it : good ≡ is_good files (take i marks) m = judged ∙ fresh_known table files (take i marks) so_far.known m.file in
      let here : bad_mark files (take i marks) (drop i marks) ≡ (if good then rest else Some m.file) =
      ap (bad_mark files (take i marks)) left ∙ ap (λ (b : Bool). cond b (bad_mark files (take i marks ++ m ∷ []) (drop (i + 1) marks)) (Some m.file)) (sym is_it)
      ∙ ap (λ (ms : List Mark). cond good (bad_mark files ms (drop (i + 1) marks)) (Some m.file)) (sym longer) in
      record {
        known = subst (Knows new files) (sym longer) (knows_more table files (take i marks) so_far.known new m adds);
        first = ap (λ (o : Option (List ℕ)). option_or o rest) made ∙ chosen bad good m.file rest ∙ sym (ap (option_or bad) here) ∙ so_far.first;
      }

pub marking_all : (files : List (List ℕ)) (marks : List Mark) (table : BTreeMap (List ℕ) Seen) (bad : Option (List ℕ)) (i : ℕ) → i ≡ length marks → Marking files marks table bad i → Knows table files marks × (bad ≡ bad_mark files [] marks)
marking_all files marks table bad i end so_far =
    let all : take i marks ≡ marks = take_all i marks (omega arith) in
    let none : drop i marks ≡ [] = drop_all i marks (omega arith) in (
      subst (Knows table files) all so_far.known,
      sym (or_nothing_left bad) ∙ sym (ap (λ (ms : List Mark). option_or bad (bad_mark files (take i marks) ms)) none) ∙ so_far.first,
    )
