-- Contents that were wanted before.
use Rattle.std.proofs.Common.{◌≡◌, ◌∙◌, ◌&&◌, ◌||◌, ◌++◌, ◌+◌, ◌<◌, ◌≤◌, ◌⊎◌, inl, inr, refl, sym, ap, subst, ℕ, suc, Bool, true, false, not, cond, List, [], ◌∷◌, map, drop, get_or, length, Option, Some, None, add-one, drop-cons, append_assoc, arith}
use Rattle.std.specs.Prelude.{String, slice_get}
use Rattle.std.specs.BTreeMap.{BTreeMap, get_by_text}
use Rattle.std.specs.List.{HoldsAt}
use Rattle.std.specs.Str.{bytes_eq}
use Rattle.std.proofs.lemmas.Bool.{and_from}
use Rattle.std.proofs.lemmas.List.{map-append}
use Rattle.std.proofs.lemmas.List.Folds.{list_any-append}
use Rattle.std.proofs.lemmas.Option.{get_or_from_slice_get, slice_get_cases}
use Rattle.std.proofs.lemmas.Slice.Eq.{bytes_eq-Decides}
use Rattle.manifests.specs.declared.facts.FileEntry.{FileEntry}
use Rattle.machine.specs.Views.{ContentKey, is_required, same_content}
use Rattle.machine.specs.Wanted.{is_held, wanted_beside}
use Rattle.machine.proofs.OwnContents.{same_is}
use Rattle.install_plan.specs.WantedFiles.{Knows, Takes, content_text, has_content, is_among, places_in, row}

-- what stands at a place
pub at_place : {X : Type 0} (P : X → Type 0) (xs : List X) (k : ℕ) (x : X) → slice_get xs k ≡ Some x → P x → HoldsAt P xs k
at_place P xs k x there holds = λ d. subst P (sym (get_or_from_slice_get xs k x d there)) holds

-- ---- one place more

pub row_added : {A : Type 0} (text q : List ℕ) (old new : BTreeMap (String A) (List ℕ)) (places : List ℕ) (place : ℕ) → places ≡ row old text ++ place ∷ []
    → get_by_text new q ≡ cond (bytes_eq text q) (Some places) (get_by_text old q)
    → row new q ≡ cond (bytes_eq text q) (row old q ++ place ∷ []) (row old q)
row_added text q old new places place is found = by (bytes_eq text q) refl
  where
    same : (b : Bool) → bytes_eq text q ≡ b → row new q ≡ places_in (cond b (Some places) (get_by_text old q))
    same b e = ap places_in (found ∙ ap (λ (t : Bool). cond t (Some places) (get_by_text old q)) e)

    by : (b : Bool) → bytes_eq text q ≡ b → row new q ≡ cond (bytes_eq text q) (row old q ++ place ∷ []) (row old q)
    by true e =
        same true e ∙ is ∙ ap (λ (t : List ℕ). row old t ++ place ∷ []) ((bytes_eq-Decides text q).0 e)
        ∙ sym (ap (λ (t : Bool). cond t (row old q ++ place ∷ []) (row old q)) e)
    by false e = same false e ∙ sym (ap (λ (t : Bool). cond t (row old q ++ place ∷ []) (row old q)) e)

-- ---- the texts of contents

text_of : FileEntry → List ℕ
text_of entry = content_text entry.size entry.list

one_text : (a b : FileEntry) → same_content a b ≡ true → content_text a.size a.list ≡ content_text b.size b.list
one_text a b same = ap (λ (k : ContentKey). content_text k.size k.list) (same_is a b same)

not_true : {P : Type 0} (b : Bool) → b ≡ true → b ≡ false → P
not_true b holds fails = absurd cc

other_text : (a b : FileEntry) → bytes_eq (content_text b.size b.list) (content_text a.size a.list) ≡ false → same_content a b ≡ false
other_text a b differ = by (same_content a b) refl
  where
    by : (t : Bool) → same_content a b ≡ t → same_content a b ≡ false
    by true e = not_true (bytes_eq (content_text b.size b.list) (content_text a.size a.list)) ((bytes_eq-Decides (content_text b.size b.list) (content_text a.size a.list)).1 (sym (one_text a b e))) differ
    by false e = e

or_swap : (a b : Bool) → (a || (b || false)) ≡ (b || a)
or_swap true true = refl
or_swap true false = refl
or_swap false true = refl
or_swap false false = refl

module _ {A : Type 0} (files taken : List FileEntry) (old new : BTreeMap (String A) (List ℕ)) (entry : FileEntry)
    (place : ℕ) (there : slice_get files place ≡ Some entry) (knows : Knows files old taken)
    (added : (q : List ℕ) → row new q ≡ cond (bytes_eq (content_text entry.size entry.list) q) (row old q ++ place ∷ []) (row old q)) where
  pub knows_more : Knows files new (entry ∷ taken)
  knows_more x = by (bytes_eq (content_text entry.size entry.list) (content_text x.size x.list)) refl
    where
      now : (b : Bool) → bytes_eq (content_text entry.size entry.list) (content_text x.size x.list) ≡ b
          → is_among files x (row new (content_text x.size x.list)) ≡ is_among files x (cond b (row old (content_text x.size x.list) ++ place ∷ []) (row old (content_text x.size x.list)))
      now b e = ap (is_among files x) (added (content_text x.size x.list) ∙ ap (λ (t : Bool). cond t (row old (content_text x.size x.list) ++ place ∷ []) (row old (content_text x.size x.list))) e)

      by : (b : Bool) → bytes_eq (content_text entry.size entry.list) (content_text x.size x.list) ≡ b → is_among files x (row new (content_text x.size x.list)) ≡ is_held (entry ∷ taken) x
      by true e =
          now true e ∙ list_any-append (λ (p : ℕ). has_content x (slice_get files p)) (row old (content_text x.size x.list)) (place ∷ [])
          ∙ ap (λ (t : Bool). t || (has_content x (slice_get files place) || false)) (knows x)
          ∙ ap (λ (o : Option FileEntry). is_held taken x || (has_content x o || false)) there
          ∙ or_swap (is_held taken x) (same_content x entry)
      by false e = now false e ∙ knows x ∙ sym (ap (λ (t : Bool). t || is_held taken x) (other_text x entry e))

-- ---- whether a file is taken

module _ {A : Type 0} (files held taken : List FileEntry) (entry : FileEntry) (table : BTreeMap (String A) (List ℕ)) where
  held_then : is_held (taken ++ held) entry ≡ (is_held taken entry || is_held held entry)
  held_then = list_any-append (same_content entry) taken held

  -- a data file
  pub takes_data : Knows files table taken → entry.local ≡ true → Takes files held taken entry table true
  takes_data knows local = record {
    next = taken;
    knows = knows;
    same = λ rest. ap (λ (b : Bool). cond b (entry ∷ wanted_beside (taken ++ held) rest) (cond (is_required entry && not (is_held (taken ++ held) entry)) (entry ∷ wanted_beside (entry ∷ (taken ++ held)) rest) (wanted_beside (taken ++ held) rest))) local;
  }

  -- none that is wanted
  pub takes_none : Knows files table taken → entry.local ≡ false → (is_required entry && not (is_held (taken ++ held) entry)) ≡ false → Takes files held taken entry table false
  takes_none knows program passed = record {
    next = taken;
    knows = knows;
    same = λ rest.
        ap (λ (b : Bool). cond b (entry ∷ wanted_beside (taken ++ held) rest) (cond (is_required entry && not (is_held (taken ++ held) entry)) (entry ∷ wanted_beside (entry ∷ (taken ++ held)) rest) (wanted_beside (taken ++ held) rest))) program
        ∙ ap (λ (b : Bool). cond b (entry ∷ wanted_beside (entry ∷ (taken ++ held)) rest) (wanted_beside (taken ++ held) rest)) passed;
  }

  no_group : (a b : Bool) → a ≡ false → (a && b) ≡ false
  no_group false b e = refl
  no_group true b e = absurd (let e = e in cc)

  held_out : (a b : Bool) → b ≡ true → (a && not b) ≡ false
  held_out true b e = ap not e
  held_out false b e = refl

  or_right : (a b : Bool) → b ≡ true → (a || b) ≡ true
  or_right true b e = refl
  or_right false b e = e

  or_left : (a b : Bool) → a ≡ true → (a || b) ≡ true
  or_left true b e = refl
  or_left false b e = absurd (let e = e in cc)

  or_none : (a b : Bool) → a ≡ false → b ≡ false → (a || b) ≡ false
  or_none false b e f = f
  or_none true b e f = absurd (let e = e in cc)

  -- it is in a group, or kept views hold its content, or that was wanted before
  pub in_group : is_required entry ≡ false → (is_required entry && not (is_held (taken ++ held) entry)) ≡ false
  in_group other = no_group (is_required entry) (not (is_held (taken ++ held) entry)) other

  pub is_kept : is_held held entry ≡ true → (is_required entry && not (is_held (taken ++ held) entry)) ≡ false
  is_kept kept = held_out (is_required entry) (is_held (taken ++ held) entry) (held_then ∙ or_right (is_held taken entry) (is_held held entry) kept)

  pub was_wanted : is_held taken entry ≡ true → (is_required entry && not (is_held (taken ++ held) entry)) ≡ false
  was_wanted before = held_out (is_required entry) (is_held (taken ++ held) entry) (held_then ∙ or_left (is_held taken entry) (is_held held entry) before)

  -- a required one of a new content
  pub takes_program : Knows files table (entry ∷ taken) → entry.local ≡ false → is_required entry ≡ true → is_held taken entry ≡ false → is_held held entry ≡ false → Takes files held taken entry table true
  takes_program knows program required first second = record {
    next = entry ∷ taken;
    knows = knows;
    same = λ rest.
        let fresh : is_held (taken ++ held) entry ≡ false = held_then ∙ or_none (is_held taken entry) (is_held held entry) first second in
        ap (λ (b : Bool). cond b (entry ∷ wanted_beside (taken ++ held) rest) (cond (is_required entry && not (is_held (taken ++ held) entry)) (entry ∷ wanted_beside (entry ∷ (taken ++ held)) rest) (wanted_beside (taken ++ held) rest))) program
        ∙ ap (λ (b : Bool). cond b (entry ∷ wanted_beside (entry ∷ (taken ++ held)) rest) (wanted_beside (taken ++ held) rest)) (and_from (is_required entry) (not (is_held (taken ++ held) entry)) required (ap not fresh));
  }

-- ---- the loop over all files

-- so many files are looked at: the wanted ones among them stand at the places
pub record Walked {A : Type 0} (files held : List FileEntry) (table : BTreeMap (String A) (List ℕ)) (i : ℕ)
    (places : List ℕ) : Type 0 where
  pub taken : List FileEntry
  pub knows : Knows files table taken
  pub same : map (slice_get files) places ++ map Some (wanted_beside (taken ++ held) (drop i files)) ≡ map Some (wanted_beside held files)

-- one file more
pub walked_on : {A : Type 0} (files held : List FileEntry) (old new : BTreeMap (String A) (List ℕ)) (i : ℕ) (places more : List ℕ) (wanted : Bool) (d : FileEntry)
    → i < length files → (walked : Walked files held old i places) → HoldsAt (λ entry. Takes files held walked.taken entry new wanted) files i
    → slice_get files i ≡ Some (get_or files i d) → more ≡ cond wanted (places ++ i ∷ []) places → Walked files held new (i + 1) more
walked_on {A} files held old new i places more wanted d within walked takes there is =
    let step = takes d in
    let split : drop i files ≡ get_or files i d ∷ drop (suc i) files = drop-cons files i d within in
    let first : map (slice_get files) places ++ map Some (wanted_beside (walked.taken ++ held) (get_or files i d ∷ drop (suc i) files)) ≡ map Some (wanted_beside held files) =
    ap (λ (es : List FileEntry). map (slice_get files) places ++ map Some (wanted_beside (walked.taken ++ held) es)) (sym split) ∙ walked.same in
    let second = by wanted more step.next (get_or files i d) (drop (suc i) files) (wanted_beside (walked.taken ++ held) (get_or files i d ∷ drop (suc i) files)) (step.same (drop (suc i) files)) is there in
    record {
      taken = step.next;
      knows = step.knows;
      same = subst (λ (n : ℕ). map (slice_get files) more ++ map Some (wanted_beside (step.next ++ held) (drop n files)) ≡ map Some (wanted_beside held files)) (sym (add-one i)) (second ∙ first);
    }
  where
    by : (b : Bool) (next_places : List ℕ) (next : List FileEntry) (entry : FileEntry) (rest all : List FileEntry)
        → all ≡ cond b (entry ∷ wanted_beside (next ++ held) rest) (wanted_beside (next ++ held) rest)
        → next_places ≡ cond b (places ++ i ∷ []) places → slice_get files i ≡ Some entry
        → map (slice_get files) next_places ++ map Some (wanted_beside (next ++ held) rest) ≡ map (slice_get files) places ++ map Some all
    by true next_places next entry rest all same added at =
        ap (λ (ps : List ℕ). map (slice_get files) ps ++ map Some (wanted_beside (next ++ held) rest)) added
        ∙ ap (λ (os : List (Option FileEntry)). os ++ map Some (wanted_beside (next ++ held) rest)) (map-append (slice_get files) places (i ∷ []))
        ∙ append_assoc (map (slice_get files) places) (slice_get files i ∷ []) (map Some (wanted_beside (next ++ held) rest))
        ∙ ap (λ (o : Option FileEntry). map (slice_get files) places ++ (o ∷ map Some (wanted_beside (next ++ held) rest))) at
        ∙ sym (ap (λ (es : List FileEntry). map (slice_get files) places ++ map Some es) same)
    by false next_places next entry rest all same added at =
        ap (λ (ps : List ℕ). map (slice_get files) ps ++ map Some (wanted_beside (next ++ held) rest)) added
        ∙ sym (ap (λ (es : List FileEntry). map (slice_get files) places ++ map Some es) same)

pub walked_next : {A : Type 0} (files held : List FileEntry) (old new : BTreeMap (String A) (List ℕ)) (i : ℕ) (places more : List ℕ) (wanted : Bool)
    → i < length files → (walked : Walked files held old i places) → HoldsAt (λ entry. Takes files held walked.taken entry new wanted) files i
    → more ≡ cond wanted (places ++ i ∷ []) places → Walked files held new (i + 1) more
walked_next files held old new i places more wanted within walked takes is = by (slice_get_cases files i).1
  where
    by : ((x : FileEntry) × (i < length files) × (slice_get files i ≡ Some x) × (get_or files i x ≡ x)) ⊎ ((length files ≤ i) × (slice_get files i ≡ None)) → Walked files held new (i + 1) more
    by (inl found) = walked_on files held old new i places more wanted found.0 within walked takes (found.2 ∙ ap Some (sym found.3)) is
    by (inr past) = absurd (let end = past.0 in omega (arith, end, within))
