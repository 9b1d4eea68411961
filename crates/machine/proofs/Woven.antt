-- The files of a group stand among those that stood.
use Rattle.std.proofs.Common.{◌≡◌, ◌∙◌, ◌++◌, ◌&&◌, ◌||◌, refl, sym, ap, Bool, true, false, cond, not, ℕ, List, [], ◌∷◌, map, Option, Some, None, bytes_eq}
use Rattle.std.specs.Prelude.{filter}
use Rattle.std.specs.List.{list_any}
use Rattle.std.proofs.lemmas.Bool.{and_parts}
use Rattle.std.proofs.lemmas.List.Elements.{filter_agree}
use Rattle.std.proofs.lemmas.List.Folds.{list_any-append}
use Rattle.std.proofs.lemmas.Slice.Eq.{bytes_eq-Decides}
use Rattle.manifests.specs.declared.facts.FileEntry.{FileEntry}
use Rattle.machine.specs.Grouped.{StandAmong}
use Rattle.machine.specs.Groups.{group_files, group_stands, is_group, is_in}
use Rattle.machine.specs.Views.{ListedFile, View, standing_entries, stands_by}

-- ---- two lists of files in one

-- files of entries that pass either test, where none passes both
pub record Woven (old new : FileEntry → Bool) (entries : List FileEntry)
    (stood came : List ListedFile) : Type 0 where
  pub files : List ListedFile
  pub order : map (λ (file : ListedFile). file.entry) files
      ≡ filter (λ (e : FileEntry). old e || new e) entries
  pub new_ones : filter (λ (file : ListedFile). new file.entry) files ≡ came
  pub old_ones : filter (λ (file : ListedFile). not (new file.entry)) files ≡ stood

module _ (old new : FileEntry → Bool) (apart : (e : FileEntry) → new e ≡ true → old e ≡ false) where
  abbrev entry_of : ListedFile → FileEntry
  entry_of file = file.entry

  -- the first file is that of the first entry that passes
  first_is : (test : FileEntry → Bool) (e : FileEntry) (es : List FileEntry) (b : Bool) → test e ≡ b
      → (files : List ListedFile) → map entry_of files ≡ filter test (e ∷ es)
      → map entry_of files ≡ cond b (e ∷ filter test es) (filter test es)
  first_is test e es b is files are =
      are ∙ ap (λ (c : Bool). cond c (e ∷ filter test es) (filter test es)) is

  no_file : {P : Type 0} (e : FileEntry) (es : List FileEntry)
      → map entry_of [] ≡ e ∷ es → P
  no_file e es is = absurd cc

  same_first : (f : ListedFile) (fs : List ListedFile) (e : FileEntry) (es : List FileEntry)
      → map entry_of (f ∷ fs) ≡ e ∷ es → f.entry ≡ e
  same_first f fs e es is = cc

  same_rest : (f : ListedFile) (fs : List ListedFile) (e : FileEntry) (es : List FileEntry)
      → map entry_of (f ∷ fs) ≡ e ∷ es → map entry_of fs ≡ es
  same_rest f fs e es is = cc

  joins : (e : FileEntry) (es : List FileEntry) (file : ListedFile) (b c : Bool) → old e ≡ b → new e ≡ c
      → (b || c) ≡ true → file.entry ≡ e → (stood came : List ListedFile)
      → Woven old new es stood came
      → Woven old new (e ∷ es) (cond c stood (file ∷ stood)) (cond c (file ∷ came) came)
  joins e es file b c stands comes either is stood came woven = record {
    files = file ∷ woven.files;
    order =
        ap (λ (xs : List FileEntry). file.entry ∷ xs) woven.order
        ∙ ap (λ (x : FileEntry). x ∷ filter (λ (y : FileEntry). old y || new y) es) is
        ∙ sym (ap (λ (d : Bool). cond d (e ∷ filter (λ (y : FileEntry). old y || new y) es)
        (filter (λ (y : FileEntry). old y || new y) es)) (both ∙ either));
    new_ones =
        ap (λ (d : Bool). cond d (file ∷ filter (λ (f : ListedFile). new f.entry) woven.files)
        (filter (λ (f : ListedFile). new f.entry) woven.files)) own
        ∙ ap (λ (fs : List ListedFile). cond c (file ∷ fs) fs) woven.new_ones;
    old_ones =
        ap (λ (d : Bool). cond (not d)
        (file ∷ filter (λ (f : ListedFile). not (new f.entry)) woven.files)
        (filter (λ (f : ListedFile). not (new f.entry)) woven.files)) own
        ∙ turned c
        ∙ ap (λ (fs : List ListedFile). cond c fs (file ∷ fs)) woven.old_ones;
  }
    where
      both : (old e || new e) ≡ (b || c)
      both = ap (λ (x : Bool). x || new e) stands ∙ ap (λ (x : Bool). b || x) comes

      own : new file.entry ≡ c
      own = ap new is ∙ comes

      turned : (d : Bool)
          → cond (not d) (file ∷ filter (λ (f : ListedFile). not (new f.entry)) woven.files)
          (filter (λ (f : ListedFile). not (new f.entry)) woven.files)
          ≡ cond d (filter (λ (f : ListedFile). not (new f.entry)) woven.files)
          (file ∷ filter (λ (f : ListedFile). not (new f.entry)) woven.files)
      turned true = refl
      turned false = refl

  passes : (e : FileEntry) (es : List FileEntry) → old e ≡ false → new e ≡ false
      → (stood came : List ListedFile) → Woven old new es stood came
      → Woven old new (e ∷ es) stood came
  passes e es stands comes stood came woven = record {
    files = woven.files;
    order =
        woven.order
        ∙ sym (ap (λ (d : Bool). cond d (e ∷ filter (λ (y : FileEntry). old y || new y) es)
        (filter (λ (y : FileEntry). old y || new y) es))
        (ap (λ (x : Bool). x || new e) stands ∙ comes));
    new_ones = woven.new_ones;
    old_ones = woven.old_ones;
  }

  pub woven : (entries : List FileEntry) (stood came : List ListedFile)
      → map entry_of stood ≡ filter old entries → map entry_of came ≡ filter new entries
      → Woven old new entries stood came
  woven [] [] [] are come = record { files = []; order = refl; new_ones = refl; old_ones = refl }
  woven [] (f ∷ fs) came are come = absurd (let is = are in cc)
  woven [] [] (f ∷ fs) are come = absurd (let is = come in cc)
  woven (e ∷ es) stood came are come =
      by (old e) (new e) refl refl stood came (first_is old e es (old e) refl stood are)
      (first_is new e es (new e) refl came come) (woven es)
    where
      clash : {P : Type 0} → true ≡ false → P
      clash x = absurd cc

      by : (b c : Bool) → old e ≡ b → new e ≡ c → (ps fs : List ListedFile)
          → map entry_of ps ≡ cond b (e ∷ filter old es) (filter old es)
          → map entry_of fs ≡ cond c (e ∷ filter new es) (filter new es)
          → ((qs gs : List ListedFile) → map entry_of qs ≡ filter old es
          → map entry_of gs ≡ filter new es → Woven old new es qs gs)
          → Woven old new (e ∷ es) ps fs
      by true true stands comes ps fs own other rest = clash (sym stands ∙ apart e comes)
      by true false stands comes [] fs own other rest = no_file e (filter old es) own
      by true false stands comes (p ∷ ps) fs own other rest =
          joins e es p true false stands comes refl (same_first p ps e (filter old es) own) ps fs
          (rest ps fs (same_rest p ps e (filter old es) own) other)
      by false true stands comes ps [] own other rest = no_file e (filter new es) other
      by false true stands comes ps (f ∷ fs) own other rest =
          joins e es f false true stands comes refl (same_first f fs e (filter new es) other) ps fs
          (rest ps fs own (same_rest f fs e (filter new es) other))
      by false false stands comes ps fs own other rest =
          passes e es stands comes ps fs (rest ps fs own other)

-- ---- a group that comes

module _ (groups : List (List ℕ)) (group : List ℕ) where
  abbrev stood_test : FileEntry → Bool
  stood_test e = not e.local && stands_by groups e.group

  -- a file of it did not stand
  apart_by : (own : Option (List ℕ)) → group_stands group groups ≡ false → is_group group own ≡ true
      → stands_by groups own ≡ false
  apart_by None absent is = absurd (let e = is in cc)
  apart_by (Some g) absent is =
      ap (λ (x : List ℕ). list_any (bytes_eq x) groups) ((bytes_eq-Decides g group).0 is) ∙ absent

  new_apart : group_stands group groups ≡ false → (e : FileEntry) → is_in group e ≡ true
      → stood_test e ≡ false
  new_apart absent e is =
      let parts = and_parts (not e.local) (is_group group e.group) is in
      ap (λ (b : Bool). not e.local && b) (apart_by e.group absent parts.1)
      ∙ none (not e.local)
    where
      none : (b : Bool) → (b && false) ≡ false
      none true = refl
      none false = refl

  -- with it there stand those that stood, and its own
  either_group : (own : Option (List ℕ))
      → stands_by (groups ++ group ∷ []) own ≡ (stands_by groups own || is_group group own)
  either_group None = refl
  either_group (Some g) =
      list_any-append (bytes_eq g) groups (group ∷ [])
      ∙ ap (λ (b : Bool). list_any (bytes_eq g) groups || b) (alone (bytes_eq g group))
    where
      alone : (b : Bool) → (b || false) ≡ b
      alone true = refl
      alone false = refl

  either_stands : (e : FileEntry)
      → (not e.local && stands_by (groups ++ group ∷ []) e.group) ≡ (stood_test e || is_in group e)
  either_stands e =
      ap (λ (b : Bool). not e.local && b) (either_group e.group)
      ∙ spread (not e.local) (stands_by groups e.group) (is_group group e.group)
    where
      spread : (a b c : Bool) → (a && (b || c)) ≡ ((a && b) || (a && c))
      spread true b c = refl
      spread false b c = refl

pub stand_among : (group : List ℕ) (view : View) (files : List ListedFile)
    → group_stands group view.groups ≡ false
    → map (λ (file : ListedFile). file.entry) view.program_files
    ≡ standing_entries view.groups view.application
    → map (λ (file : ListedFile). file.entry) files ≡ group_files group view.application
    → (program_files : List ListedFile) × StandAmong group view files program_files
stand_among group view files absent are come =
    let made = woven (λ (e : FileEntry). not e.local && stands_by view.groups e.group) (is_in group)
    (new_apart view.groups group absent) view.application.files view.program_files files are come in (
      made.files,
      record {
        order =
            made.order
            ∙ sym (filter_agree
            (λ (e : FileEntry). not e.local && stands_by (view.groups ++ group ∷ []) e.group)
            (λ (e : FileEntry). (not e.local && stands_by view.groups e.group) || is_in group e)
            (either_stands view.groups group) view.application.files);
        came = made.new_ones;
        stayed = made.old_ones;
      },
    )

-- ---- there is one order

module _ (test : FileEntry → Bool) where
  abbrev passing : List ListedFile → List ListedFile
  passing files = filter (λ (file : ListedFile). test file.entry) files

  abbrev failing : List ListedFile → List ListedFile
  failing files = filter (λ (file : ListedFile). not (test file.entry)) files

  no_first : {P : Type 0} (f : ListedFile) (fs : List ListedFile)
      → map (λ (file : ListedFile). file.entry) [] ≡ map (λ (file : ListedFile). file.entry) (f ∷ fs)
      → P
  no_first f fs e = absurd cc

  one_first : (f g : ListedFile) (fs gs : List ListedFile)
      → map (λ (file : ListedFile). file.entry) (f ∷ fs)
      ≡ map (λ (file : ListedFile). file.entry) (g ∷ gs) → f.entry ≡ g.entry
  one_first f g fs gs e = cc

  one_rest : (f g : ListedFile) (fs gs : List ListedFile)
      → map (λ (file : ListedFile). file.entry) (f ∷ fs)
      ≡ map (λ (file : ListedFile). file.entry) (g ∷ gs)
      → map (λ (file : ListedFile). file.entry) fs ≡ map (λ (file : ListedFile). file.entry) gs
  one_rest f g fs gs e = cc

  front : (f g : ListedFile) (fs gs : List ListedFile) → ◌≡◌ {A = List ListedFile} (f ∷ fs) (g ∷ gs)
      → f ≡ g
  front f g fs gs e = cc

  behind : (f g : ListedFile) (fs gs : List ListedFile) → ◌≡◌ {A = List ListedFile} (f ∷ fs) (g ∷ gs)
      → fs ≡ gs
  behind f g fs gs e = cc

  pub one_woven : (xs ys : List ListedFile)
      → map (λ (file : ListedFile). file.entry) xs ≡ map (λ (file : ListedFile). file.entry) ys
      → passing xs ≡ passing ys → failing xs ≡ failing ys → xs ≡ ys
  one_woven [] [] entries pass fail = refl
  one_woven [] (y ∷ ys) entries pass fail = no_first y ys entries
  one_woven (x ∷ xs) [] entries pass fail = no_first x xs (sym entries)
  one_woven (x ∷ xs) (y ∷ ys) entries pass fail =
      by (test x.entry) refl (one_woven xs ys (one_rest x y xs ys entries))
    where
      joined : x ≡ y → xs ≡ ys → x ∷ xs ≡ y ∷ ys
      joined first rest =
          ap (λ (f : ListedFile). f ∷ xs) first ∙ ap (λ (fs : List ListedFile). y ∷ fs) rest

      other : (b : Bool) → test x.entry ≡ b → test y.entry ≡ b
      other b is = sym (ap test (one_first x y xs ys entries)) ∙ is

      turn : (files : List ListedFile) (f : ListedFile) (b : Bool) → test f.entry ≡ b
          → passing (f ∷ files) ≡ cond b (f ∷ passing files) (passing files)
      turn files f b is = ap (λ (c : Bool). cond c (f ∷ passing files) (passing files)) is

      turned : (files : List ListedFile) (f : ListedFile) (b : Bool) → test f.entry ≡ b
          → failing (f ∷ files) ≡ cond (not b) (f ∷ failing files) (failing files)
      turned files f b is =
          ap (λ (c : Bool). cond (not c) (f ∷ failing files) (failing files)) is

      by : (b : Bool) → test x.entry ≡ b
          → (passing xs ≡ passing ys → failing xs ≡ failing ys → xs ≡ ys) → x ∷ xs ≡ y ∷ ys
      by true is rest =
          let pass_both = sym (turn xs x true is) ∙ pass ∙ turn ys y true (other true is) in
          let fail_both = sym (turned xs x true is) ∙ fail ∙ turned ys y true (other true is) in
          joined (front x y (passing xs) (passing ys) pass_both)
          (rest (behind x y (passing xs) (passing ys) pass_both) fail_both)
      by false is rest =
          let pass_both = sym (turn xs x false is) ∙ pass ∙ turn ys y false (other false is) in
          let fail_both = sym (turned xs x false is) ∙ fail ∙ turned ys y false (other false is) in
          joined (front x y (failing xs) (failing ys) fail_both)
          (rest pass_both (behind x y (failing xs) (failing ys) fail_both))

pub one_order : (group : List ℕ) (view : View) (files a b : List ListedFile)
    → StandAmong group view files a → StandAmong group view files b → a ≡ b
one_order group view files a b first second =
    one_woven (is_in group) a b (first.order ∙ sym second.order) (first.came ∙ sym second.came)
    (first.stayed ∙ sym second.stayed)
