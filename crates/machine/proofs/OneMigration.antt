-- There is one list of migrated data files.
use Rattle.std.proofs.Common.{◌≡◌, ◌≢◌, ◌∙◌, ◌⊎◌, ◌++◌, ◌&&◌, inl, inr, refl, sym, ap, subst, ℕ, Bool, true, false, not, cond, List, [], ◌∷◌, map, All, AllPairs, bytes_eq, codes, arith}
use Rattle.std.specs.Prelude.{filter}
use Rattle.std.specs.List.{list_any}
use Rattle.std.specs.declared.cmp.Ordering.TheVariants.{Less}
use Rattle.std.proofs.lemmas.Bool.{and_from}
use Rattle.std.proofs.lemmas.List.{append_cancel_left}
use Rattle.std.proofs.lemmas.List.Elements.{All-append, All-head, All-tail}
use Rattle.std.proofs.lemmas.List.Folds.{list_any-from_Any}
use Rattle.std.proofs.lemmas.List.Kept.{AllPairs-cons, AllPairs-filter}
use Rattle.std.proofs.lemmas.Slice.Eq.{bytes_eq-Decides}
use Rattle.small_types.specs.Name.{IsBelowPre}
use Rattle.identity.specs.Printed.{text_cmp}
use Rattle.manifests.specs.declared.facts.Application.{Application}
use Rattle.manifests.specs.declared.facts.FileEntry.{FileEntry}
use Rattle.manifests.specs.Applications.{is_below_pre}
use Rattle.manifests.specs.Facts.{AreApplicationFacts, IsFile}
use Rattle.machine.specs.Migrated.{IsAside, IsFresh, IsKept, Migrated, aside, is_fresh, stays}
use Rattle.machine.specs.Views.{DataFile, ListedFile}
use Rattle.machine.proofs.Members.{In, all_in, contains_in, filter_in, in_all, in_contains, in_either, in_filter, in_left, in_map, in_right, map_in, pairs_head, pairs_map, pairs_tail}
use Rattle.machine.proofs.MovedFiles.{aside_came, copied, fresh_file, fresh_is, fresh_test, kept_came, moved_file, names_differ}
use Rattle.machine.proofs.Names.{aside_below, outside_test, test_outside}
use Rattle.machine.proofs.DataOrder.{IsNamedOther, in_order, in_order_in, one_list, order_in, order_is}

-- ---- one at most

pub one_migration : (old : List DataFile) (old_files new_files : List FileEntry) (originals : List ListedFile) (a b : List DataFile) → Migrated old old_files new_files originals a → Migrated old old_files new_files originals b → a ≡ b
one_migration old old_files new_files originals a b first second =
    one_list a b first.order second.order
    (λ x there. in_contains b x ((second.files x).1 ((first.files x).0 (contains_in a x there))))
    (λ x there. in_contains a x ((first.files x).1 ((second.files x).0 (contains_in b x there))))

-- ---- pairs

pairs_unmap : {X Y : Type 0} (f : X → Y) (Q : Y → Y → Type 0) (xs : List X) → AllPairs Q (map f xs) → AllPairs (λ (x y : X). Q (f x) (f y)) xs
pairs_unmap f Q [] pairs = λ i j d lt within. absurd (omega arith)
pairs_unmap f Q (x ∷ xs) pairs =
    AllPairs-cons (λ x y. Q (f x) (f y)) x xs (in_all (λ y. Q (f x) (f y)) xs (λ y there. all_in (Q (f x)) (map f xs) (f y) (pairs_head Q (f x) (map f xs) pairs) (in_map f xs y there)))
    (pairs_unmap f Q xs (pairs_tail Q (f x) (map f xs) pairs))

pairs_append : {X : Type 0} (R : X → X → Type 0) (xs ys : List X) → AllPairs R xs → AllPairs R ys → ((x y : X) → In x xs → In y ys → R x y) → AllPairs R (xs ++ ys)
pairs_append R [] ys first second across = second
pairs_append R (x ∷ xs) ys first second across =
    AllPairs-cons R x (xs ++ ys)
    (All-append (R x) xs ys (pairs_head R x xs first) (in_all (R x) ys (λ y there. across x y (inl refl) there)))
    (pairs_append R xs ys (pairs_tail R x xs first) second (λ z y found there. across z y (inr found) there))

pairs_with : {X : Type 0} (R : X → X → Type 0) (P : X → Type 0) (xs : List X) → AllPairs R xs → All P xs → AllPairs (λ (x y : X). R x y × P x × P y) xs
pairs_with R P [] pairs all = λ i j d lt within. absurd (omega arith)
pairs_with R P (x ∷ xs) pairs all =
    AllPairs-cons (λ x y. R x y × P x × P y) x xs
    (in_all (λ y. R x y × P x × P y) xs (λ y there. (all_in (R x) xs y (pairs_head R x xs pairs) there, All-head P x xs all, all_in P xs y (All-tail P x xs all) there)))
    (pairs_with R P xs (pairs_tail R x xs pairs) (All-tail P x xs all))

-- ---- names

negated : (b : Bool) → not b ≡ true → b ≡ false
negated true h = absurd (let h = h in cc)
negated false h = refl

aside_other : (a b : List ℕ) → ¬ IsBelowPre a → a ≢ aside b
aside_other a b outside same = outside (subst IsBelowPre (sym same) (aside_below b))

aside_one : (a b : List ℕ) → aside a ≡ aside b → a ≡ b
aside_one a b same = append_cancel_left (codes ".pre/") a b same

moved_other_by : (s t : Bool) (f g : DataFile) → IsNamedOther f g → ¬ IsBelowPre f.name → ¬ IsBelowPre g.name → IsNamedOther (cond s f (record { name = aside f.name; bytes = f.bytes })) (cond t g (record { name = aside g.name; bytes = g.bytes }))
moved_other_by true true f g other f_out g_out = other
moved_other_by true false f g other f_out g_out = aside_other f.name g.name f_out
moved_other_by false true f g other f_out g_out = λ same. aside_other g.name f.name g_out (sym same)
moved_other_by false false f g other f_out g_out = λ same. other (aside_one f.name g.name same)

module _ (old : List DataFile) (old_files : List FileEntry) (a : Application) (originals : List ListedFile) (ordered : AllPairs (λ (f g : DataFile). text_cmp f.name g.name ≡ Less) old) (facts : AreApplicationFacts a) (deployed : map (λ (file : ListedFile). file.entry) originals ≡ filter (λ (entry : FileEntry). entry.local) a.files) where
  abbrev names : List (List ℕ)
  names = map (λ (f : DataFile). f.name) old

  abbrev comes_fresh : ListedFile → Bool
  comes_fresh original = is_fresh (map (λ (f : DataFile). f.name) old) old_files a.files original.entry.name

  abbrev move : DataFile → DataFile
  move file = moved_file old old_files a.files originals file

  abbrev make : ListedFile → DataFile
  make original = fresh_file old old_files a.files originals original

  abbrev stay : List DataFile
  stay = copied old old_files a.files originals

  -- the files, in no order
  unfoldable pub files : List DataFile
  files = map move stay ++ map make (filter comes_fresh originals)

  stay_in : (f : DataFile) → In f stay → In f old × ¬ IsBelowPre f.name
  unfolding copied
  stay_in f there =
      let found = filter_in (λ (g : DataFile). not (is_below_pre g.name)) old f there in
      (found.1, test_outside f.name (negated (is_below_pre f.name) found.0))

  stay_differ : AllPairs IsNamedOther stay
  unfolding copied
  stay_differ = AllPairs-filter IsNamedOther (λ (g : DataFile). not (is_below_pre g.name)) old (names_differ old ordered)

  move_other : (f g : DataFile) → IsNamedOther f g × ¬ IsBelowPre f.name × ¬ IsBelowPre g.name → IsNamedOther (move f) (move g)
  unfolding moved_file
  move_other f g apart = moved_other_by (stays old_files a.files f.name) (stays old_files a.files g.name) f g apart.0 apart.1 apart.2

  moved_differ : AllPairs IsNamedOther (map move stay)
  moved_differ = pairs_map move (λ (f g : DataFile). IsNamedOther f g × ¬ IsBelowPre f.name × ¬ IsBelowPre g.name) IsNamedOther stay move_other (pairs_with IsNamedOther (λ (f : DataFile). ¬ IsBelowPre f.name) stay stay_differ (in_all (λ (f : DataFile). ¬ IsBelowPre f.name) stay (λ f there. (stay_in f there).1)))

  abbrev IsEntryOther : FileEntry → FileEntry → Type 0
  IsEntryOther e f = ¬ (e.name ≡ f.name)

  originals_differ : AllPairs (λ (o p : ListedFile). ◌≢◌ {A = List ℕ} o.entry.name p.entry.name) originals
  originals_differ =
      pairs_unmap (λ (file : ListedFile). file.entry) IsEntryOther originals
      (subst (AllPairs IsEntryOther) (sym deployed) (AllPairs-filter IsEntryOther (λ (entry : FileEntry). entry.local) a.files facts.files.differ))

  fresh_differ : AllPairs IsNamedOther (map make (filter comes_fresh originals))
  unfolding fresh_file
  fresh_differ =
      pairs_map make (λ (o p : ListedFile). ◌≢◌ {A = List ℕ} o.entry.name p.entry.name) IsNamedOther (filter comes_fresh originals) (λ o p other. other)
      (AllPairs-filter (λ (o p : ListedFile). ◌≢◌ {A = List ℕ} o.entry.name p.entry.name) comes_fresh originals originals_differ)

  -- a deployed data file is outside `.pre`
  original_outside : (o : ListedFile) → In o originals → ¬ IsBelowPre o.entry.name
  original_outside o there =
      let found = filter_in (λ (entry : FileEntry). entry.local) a.files o.entry (subst (λ (entries : List FileEntry). In o.entry entries) deployed (in_map (λ (file : ListedFile). file.entry) originals o there)) in
      (all_in IsFile a.files o.entry facts.each found.1).above

  -- no old one that stays has the name of a fresh one
  fresh_alone : (o : ListedFile) → comes_fresh o ≡ true → (f : DataFile) → In f old → ¬ IsBelowPre f.name → stays old_files a.files f.name ≡ true → ◌≢◌ {A = List ℕ} f.name o.entry.name
  fresh_alone o fresh f there outside same is =
      let test = λ (other : List ℕ). bytes_eq other o.entry.name && not (is_below_pre other) && stays old_files a.files other in
      let at = contains_in names f.name (in_map (λ (g : DataFile). g.name) old f there) in
      let passes = and_from (bytes_eq f.name o.entry.name && not (is_below_pre f.name)) (stays old_files a.files f.name) (and_from (bytes_eq f.name o.entry.name) (not (is_below_pre f.name)) ((bytes_eq-Decides f.name o.entry.name).1 is) (ap not (outside_test f.name outside))) same in
      apart (sym (list_any-from_Any test names (at.0, f.name, at.1, at.2, passes)) ∙ negated (list_any test names) fresh)
    where
      apart : true ≡ false → ⊥
      apart e = cc

  across_by : (s : Bool) (f : DataFile) (o : ListedFile) → stays old_files a.files f.name ≡ s → In f old → ¬ IsBelowPre f.name → In o originals → comes_fresh o ≡ true → ◌≢◌ {A = List ℕ} (cond s f (record { name = aside f.name; bytes = f.bytes })).name o.entry.name
  across_by true f o same there outside is fresh = fresh_alone o fresh f there outside same
  across_by false f o other there outside is fresh = λ e. aside_other o.entry.name f.name (original_outside o is) (sym e)

  across : (f g : DataFile) → In f (map move stay) → In g (map make (filter comes_fresh originals)) → IsNamedOther f g
  unfolding moved_file fresh_file
  across f g first second =
      let from = map_in move stay f first in
      let of = map_in make (filter comes_fresh originals) g second in
      let old_one = stay_in from.0 from.1 in
      let original = filter_in comes_fresh originals of.0 of.1 in
      subst (λ (x : DataFile). IsNamedOther f x) of.2
      (subst (λ (x : DataFile). ◌≢◌ {A = List ℕ} x.name of.0.entry.name) from.2
      (across_by (stays old_files a.files from.0.name) from.0 of.0 refl old_one.0 old_one.1 original.1 original.0))

  pub differ : AllPairs IsNamedOther files
  unfolding files
  differ = pairs_append IsNamedOther (map move stay) (map make (filter comes_fresh originals)) moved_differ fresh_differ across

  -- ---- where they come from

  moved_from : (s : Bool) (f file : DataFile) → stays old_files a.files f.name ≡ s → In f old → ¬ IsBelowPre f.name → cond s f (record { name = aside f.name; bytes = f.bytes }) ≡ file → IsKept old old_files a.files file ⊎ IsAside old old_files a.files file ⊎ IsFresh old old_files a.files originals file
  moved_from true f file same there outside is = inl (subst (λ (x : DataFile). IsKept old old_files a.files x) is (record { there = contains_in old f there; outside = outside; same = same }))
  moved_from false f file other there outside is =
      inr (inl (record {
        from = f;
        there = contains_in old f there;
        outside = outside;
        other = other;
        name = ap (λ (x : DataFile). x.name) (sym is);
        bytes = ap (λ (x : DataFile). x.bytes) (sym is);
      }))

  comes : (file : DataFile) → In file files → IsKept old old_files a.files file ⊎ IsAside old old_files a.files file ⊎ IsFresh old old_files a.files originals file
  unfolding files moved_file fresh_file
  comes file there = by (in_either (map move stay) (map make (filter comes_fresh originals)) file there)
    where
      by : In file (map move stay) ⊎ In file (map make (filter comes_fresh originals)) → IsKept old old_files a.files file ⊎ IsAside old old_files a.files file ⊎ IsFresh old old_files a.files originals file
      by (inl first) =
          let from = map_in move stay file first in
          let one = stay_in from.0 from.1 in
          moved_from (stays old_files a.files from.0.name) from.0 file refl one.0 one.1 from.2
      by (inr second) =
          let of = map_in make (filter comes_fresh originals) file second in
          let original = filter_in comes_fresh originals of.0 of.1 in
          inr (inr (record {
            original = of.0;
            deployed = contains_in originals of.0 original.1;
            name = ap (λ (x : DataFile). x.name) (sym of.2);
            bytes = ap (λ (x : DataFile). x.bytes) (sym of.2);
            alone = λ kept is same. fresh_alone of.0 original.0 kept (in_contains old kept is.there) is.outside is.same (same ∙ ap (λ (x : DataFile). x.name) (sym of.2));
          }))

  came : (file : DataFile) → IsKept old old_files a.files file ⊎ IsAside old old_files a.files file ⊎ IsFresh old old_files a.files originals file → In file files
  unfolding files
  came file (inl kept) = in_left (map move stay) (map make (filter comes_fresh originals)) file (kept_came old old_files a.files originals file kept)
  came file (inr (inl off)) = in_left (map move stay) (map make (filter comes_fresh originals)) file (aside_came old old_files a.files originals file off)
  came file (inr (inr fresh)) =
      let test : comes_fresh fresh.original ≡ true = subst (λ (n : List ℕ). is_fresh names old_files a.files n ≡ true) fresh.name (fresh_test old old_files a.files originals file fresh) in
      in_right (map move stay) (map make (filter comes_fresh originals)) file
      (subst (λ (x : DataFile). In x (map make (filter comes_fresh originals))) (fresh_is old old_files a.files originals file fresh)
      (in_map make (filter comes_fresh originals) fresh.original (in_filter comes_fresh originals fresh.original test (in_contains originals fresh.original fresh.deployed))))

  pub migration : (new : List DataFile) × Migrated old old_files a.files originals new
  migration = (
    in_order files,
    record {
      order = order_is files differ;
      files = λ file. (
        (λ there. comes file (order_in files file (in_contains (in_order files) file there))),
        (λ origin. contains_in (in_order files) file (in_order_in files file (came file origin))),
      );
    },
  )

  -- it is those files in their order
  pub migration_is : migration.0 ≡ in_order files
  unfolding migration
  migration_is = refl
