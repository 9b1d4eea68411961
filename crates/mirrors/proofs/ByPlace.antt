-- Links in boxes, by their numbers and places.
use Rattle.std.proofs.Common.{◌≡◌, ◌≢◌, ℕ, zero, suc, ◌+◌, ◌<◌, Bool, true, false, List, [], ◌∷◌, ◌++◌, length, get_or, set, Option, Some, None, refl, ap, sym, subst, ◌∙◌, arith}
use Rattle.std.proofs.lemmas.List.{length-append, length-set}
use Rattle.std.specs.Prelude.{IfSome, remove, slice_get}
use Rattle.small_types.specs.declared.target.Target.{Target}
use Rattle.links.specs.Link.{LinkState, Stays}
use Rattle.links.specs.Links.{ChangesOnly, Retires, count_there, number_at}
use Rattle.mirrors.specs.Mirrors.{AreNew, all_left, boxes_state, gone_in, link_in, mark, mark_all, marks_of, no_link, there_of}

stays_same : (s : LinkState) → Stays s s
stays_same s = record {
  site = record { tells = (λ t. t, λ t. t); same = λ told target. refl };
  rest = refl;
  count = refl;
  history = refl;
}

stays_equal : (s t : LinkState) → t ≡ s → Stays s t
stays_equal s t same = subst (λ (x : LinkState). Stays s x) (sym same) (stays_same s)

-- ---- boxes by their places

-- the box at a place
abbrev pub box_at : {B : Type 0} → (B → LinkState) → List B → ℕ → LinkState
box_at state [] k = no_link
box_at state (one ∷ boxes) zero = state one
box_at state (one ∷ boxes) (suc k) = box_at state boxes k

module _ {B : Type 0} (state : B → LinkState) where
  at_box : (boxes : List B) (k : ℕ) (one : B) → k < length boxes
      → box_at state boxes k ≡ state (get_or boxes k one)
  at_box [] k one less = absurd (omega arith)
  at_box (first ∷ boxes) zero one less = refl
  at_box (first ∷ boxes) (suc k) one less = at_box boxes k one (omega arith)

  at_new_box : (boxes : List B) (k : ℕ) (one : B) → k < length boxes
      → box_at state (set boxes k one) k ≡ state one
  at_new_box [] k one less = absurd (omega arith)
  at_new_box (first ∷ boxes) zero one less = refl
  at_new_box (first ∷ boxes) (suc k) one less = at_new_box boxes k one (omega arith)

  each_box : (boxes : List B) (k : ℕ) → IfSome (slice_get boxes k) (λ one. Stays (state one) (box_at state boxes k))
  each_box [] k = tt
  each_box (one ∷ boxes) zero = stays_same (state one)
  each_box (one ∷ boxes) (suc k) = each_box boxes k

length_without : {B : Type 0} (boxes : List B) (place : ℕ) → place < length boxes
    → length (remove boxes place) + 1 ≡ length boxes
length_without [] place less = absurd (omega arith)
length_without (first ∷ boxes) zero less = omega arith
length_without (first ∷ boxes) (suc place) less =
    let rest = length_without boxes place (omega arith) in omega arith

-- ---- marks

module _ {G : Type 0} where
  pub there_length : (marks : List (Option G)) → length (there_of marks) ≡ length marks
  there_length [] = refl
  there_length (None ∷ marks) = ap suc (there_length marks)
  there_length (Some one ∷ marks) = ap suc (there_length marks)

  mark_length : (marks : List (Option G)) (place : ℕ) (one : G) → length (mark marks place one) ≡ length marks
  mark_length [] place one = refl
  mark_length (Some other ∷ marks) place one = ap suc (mark_length marks place one)
  mark_length (None ∷ marks) zero one = refl
  mark_length (None ∷ marks) (suc place) one = ap suc (mark_length marks place one)

  -- one link fewer is there
  mark_there : (marks : List (Option G)) (place : ℕ) (one : G) → place < count_there (there_of marks)
      → there_of (mark marks place one) ≡ set (there_of marks) (number_at (there_of marks) place) false
  mark_there [] place one less = absurd (omega arith)
  mark_there (Some other ∷ marks) place one less =
      ap (λ (t : List Bool). false ∷ t) (mark_there marks place one less)
  mark_there (None ∷ marks) zero one less = refl
  mark_there (None ∷ marks) (suc place) one less =
      ap (λ (t : List Bool). true ∷ t) (mark_there marks place one (omega arith))

  mark_count : (marks : List (Option G)) (place : ℕ) (one : G) → place < count_there (there_of marks)
      → count_there (there_of (mark marks place one)) + 1 ≡ count_there (there_of marks)
  mark_count [] place one less = absurd (omega arith)
  mark_count (Some other ∷ marks) place one less = mark_count marks place one less
  mark_count (None ∷ marks) zero one less = omega arith
  mark_count (None ∷ marks) (suc place) one less =
      let rest = mark_count marks place one (omega arith) in omega (arith, rest)

  -- one more is noted
  mark_more : (place_of : G → ℕ) (marks : List (Option G)) (gone : List G) (one : G)
      → mark_all place_of marks (gone ++ one ∷ []) ≡ mark (mark_all place_of marks gone) (place_of one) one
  mark_more place_of marks [] one = refl
  mark_more place_of marks (first ∷ gone) one = mark_more place_of (mark marks (place_of first) first) gone one

  pub marks_more : (place_of : G → ℕ) (left more : ℕ) (gone : List G) (one : G) → left + 1 ≡ more
      → marks_of place_of left (gone ++ one ∷ []) ≡ mark (marks_of place_of more gone) (place_of one) one
  marks_more place_of left more gone one next =
      let same : left + length (gone ++ one ∷ []) ≡ more + length gone =
      omega (arith, length-append gone (one ∷ []), next) in
      ap (λ (n : ℕ). mark_all place_of (all_left n) (gone ++ one ∷ [])) same
      ∙ mark_more place_of (all_left (more + length gone)) gone one

-- ---- at first

left_length : (G : Type 0) (n : ℕ) → length (all_left {G = G} n) ≡ n
left_length G zero = refl
left_length G (suc n) = ap suc (left_length G n)

left_count : (G : Type 0) (n : ℕ) → count_there (there_of (all_left {G = G} n)) ≡ n
left_count G zero = refl
left_count G (suc n) = ap suc (left_count G n)

left_gone : {G : Type 0} (count_of : G → ℕ) (n : ℕ) → gone_in count_of (all_left n) ≡ 0
left_gone count_of zero = refl
left_gone count_of (suc n) = left_gone count_of n

-- the same with its own count
pub same_count : (s : LinkState) (n : ℕ) → n ≡ s.count → record s { count = n } ≡ s
same_count s n is = ap (λ (m : ℕ). record s { count = m }) is

-- ---- links by their numbers

module _ {B G : Type 0} (state : B → LinkState) (last : G → LinkState) where
  -- the link at a place is in the box there
  in_box : (marks : List (Option G)) (boxes : List B) (k : ℕ) → k < count_there (there_of marks)
      → count_there (there_of marks) ≡ length boxes
      → link_in state last marks boxes (number_at (there_of marks) k) ≡ box_at state boxes k
  in_box [] boxes k less even = absurd (omega arith)
  in_box (Some other ∷ marks) boxes k less even = in_box marks boxes k less even
  in_box (None ∷ marks) [] k less even = absurd (omega (arith, even))
  in_box (None ∷ marks) (one ∷ boxes) zero less even = refl
  in_box (None ∷ marks) (one ∷ boxes) (suc k) less even = in_box marks boxes k (omega arith) (omega (arith, even))

  -- a box in its stead leaves the other links
  other_boxes : (marks : List (Option G)) (boxes : List B) (k n : ℕ) (later : B) → k < count_there (there_of marks)
      → n ≢ number_at (there_of marks) k
      → link_in state last marks (set boxes k later) n ≡ link_in state last marks boxes n
  other_boxes [] boxes k n later less other = refl
  other_boxes (Some one ∷ marks) boxes k zero later less other = refl
  other_boxes (Some one ∷ marks) boxes k (suc n) later less other =
      other_boxes marks boxes k n later less (λ e. other (ap suc e))
  other_boxes (None ∷ marks) [] k n later less other = refl
  other_boxes (None ∷ marks) (one ∷ boxes) zero zero later less other = absurd (other refl)
  other_boxes (None ∷ marks) (one ∷ boxes) zero (suc n) later less other = refl
  other_boxes (None ∷ marks) (one ∷ boxes) (suc k) zero later less other = refl
  other_boxes (None ∷ marks) (one ∷ boxes) (suc k) (suc n) later less other =
      other_boxes marks boxes k n later (omega arith) (λ e. other (ap suc e))

  -- a link that goes is as it was, and so are the others
  gone_same : (marks : List (Option G)) (boxes : List B) (k n : ℕ) (one : G) → k < length boxes
      → last one ≡ box_at state boxes k
      → link_in state last (mark marks k one) (remove boxes k) n ≡ link_in state last marks boxes n
  gone_same [] boxes k n one less is = refl
  gone_same (Some other ∷ marks) boxes k zero one less is = refl
  gone_same (Some other ∷ marks) boxes k (suc n) one less is = gone_same marks boxes k n one less is
  gone_same (None ∷ marks) [] k n one less is = absurd (omega arith)
  gone_same (None ∷ marks) (first ∷ boxes) zero zero one less is = is
  gone_same (None ∷ marks) (first ∷ boxes) zero (suc n) one less is = refl
  gone_same (None ∷ marks) (first ∷ boxes) (suc k) zero one less is = refl
  gone_same (None ∷ marks) (first ∷ boxes) (suc k) (suc n) one less is =
      gone_same marks boxes k n one (omega arith) is

  -- ---- the boxes as they were given

  each_new : (boxes : List B) (k : ℕ) → IfSome (slice_get boxes k)
      (λ one. Stays (state one) (link_in state last (all_left {G = G} (length boxes)) boxes (number_at (there_of (all_left {G = G} (length boxes))) k)))
  each_new [] k = tt
  each_new (one ∷ boxes) zero = stays_same (state one)
  each_new (one ∷ boxes) (suc k) = each_new boxes k

  new_boxes : (boxes : List B) (asked : List Target) → asked ≡ []
      → AreNew state boxes (boxes_state state last (all_left (length boxes)) boxes asked)
  new_boxes boxes asked nothing = record {
    sources = left_count G (length boxes);
    all = there_length (all_left {G = G} (length boxes)) ∙ left_length G (length boxes);
    each = each_new boxes;
    asked = nothing;
  }

  -- none is gone yet
  pub none_marked : (place_of : G → ℕ) (boxes : List B) (gone : List G) → gone ≡ []
      → marks_of place_of (length boxes) gone ≡ all_left (length boxes)
  none_marked place_of boxes gone none =
      let many : length boxes + 0 ≡ length boxes = omega arith in
      ap (marks_of place_of (length boxes)) none ∙ ap (λ (n : ℕ). all_left {G = G} n) many

  pub are_new : (place_of : G → ℕ) (boxes : List B) (gone : List G) (asked : List Target) → gone ≡ [] → asked ≡ []
      → AreNew state boxes (boxes_state state last (marks_of place_of (length boxes) gone) boxes asked)
  are_new place_of boxes gone asked none nothing =
      subst (λ (m : List (Option G)). AreNew state boxes (boxes_state state last m boxes asked))
      (sym (none_marked place_of boxes gone none)) (new_boxes boxes asked nothing)

  pub even_new : (place_of : G → ℕ) (boxes : List B) (gone : List G) → gone ≡ []
      → count_there (there_of (marks_of place_of (length boxes) gone)) ≡ length boxes
  even_new place_of boxes gone none =
      ap (λ (m : List (Option G)). count_there (there_of m)) (none_marked place_of boxes gone none)
      ∙ left_count G (length boxes)

  pub gone_new : (place_of count_of : G → ℕ) (boxes : List B) (gone : List G) → gone ≡ []
      → gone_in count_of (marks_of place_of (length boxes) gone) ≡ 0
  gone_new place_of count_of boxes gone none =
      ap (gone_in count_of) (none_marked place_of boxes gone none) ∙ left_gone count_of (length boxes)

  -- ---- the box at a place

  pub box_link : (marks : List (Option G)) (boxes : List B) (place : ℕ) (one : B)
      → place < count_there (there_of marks) → count_there (there_of marks) ≡ length boxes
      → one ≡ get_or boxes place one
      → state one ≡ link_in state last marks boxes (number_at (there_of marks) place)
  box_link marks boxes place one less even is =
      ap state is ∙ sym (at_box state boxes place one (omega (arith, less, even)))
      ∙ sym (in_box marks boxes place less even)

  -- ---- one box is asked

  module _ (marks : List (Option G)) (boxes : List B) (place : ℕ) (one later : B)
      (less : place < count_there (there_of marks)) (even : count_there (there_of marks) ≡ length boxes)
      (is : one ≡ get_or boxes place one) where
    in_range : place < length boxes
    in_range = omega (arith, less, even)

    old_link : state one ≡ link_in state last marks boxes (number_at (there_of marks) place)
    old_link = box_link marks boxes place one less even is

    new_link : state later ≡ link_in state last marks (set boxes place later) (number_at (there_of marks) place)
    new_link =
        sym (at_new_box state boxes place later in_range)
        ∙ sym (in_box marks (set boxes place later) place less (even ∙ sym (length-set boxes place later)))

    -- what is said of a box and of what it became is said of the links at its place
    pub by_box : (P : LinkState → LinkState → Type 0) → P (state one) (state later)
        → P (link_in state last marks boxes (number_at (there_of marks) place))
        (link_in state last marks (set boxes place later) (number_at (there_of marks) place))
    by_box P holds =
        subst (λ (s : LinkState). P s (link_in state last marks (set boxes place later) (number_at (there_of marks) place))) old_link
        (subst (λ (s : LinkState). P (state one) s) new_link holds)

    -- and the others are as they were
    pub only_there : (asked : List Target) → ChangesOnly place (boxes_state state last marks boxes asked)
        (boxes_state state last marks (set boxes place later) asked)
    only_there asked = record {
      remain = record { there = refl; sources = refl };
      asked = refl;
      others = λ n below other. stays_equal (link_in state last marks boxes n)
          (link_in state last marks (set boxes place later) n) (other_boxes marks boxes place n later less other);
    }

  -- ---- the same of the links as they are shown

  module _ (place_of : G → ℕ) (boxes : List B) (gone : List G) (place : ℕ) (one later : B)
      (less : place < count_there (there_of (marks_of place_of (length boxes) gone)))
      (even : count_there (there_of (marks_of place_of (length boxes) gone)) ≡ length boxes)
      (is : one ≡ get_or boxes place one) where
    same_marks : marks_of place_of (length (set boxes place later)) gone ≡ marks_of place_of (length boxes) gone
    same_marks = ap (λ (n : ℕ). marks_of place_of n gone) (length-set boxes place later)

    pub asked_box : (P : LinkState → LinkState → Type 0) → P (state one) (state later)
        → P (link_in state last (marks_of place_of (length boxes) gone) boxes
        (number_at (there_of (marks_of place_of (length boxes) gone)) place))
        (link_in state last (marks_of place_of (length (set boxes place later)) gone) (set boxes place later)
        (number_at (there_of (marks_of place_of (length (set boxes place later)) gone)) place))
    asked_box P holds =
        subst (λ (m : List (Option G)). P (link_in state last (marks_of place_of (length boxes) gone) boxes
        (number_at (there_of (marks_of place_of (length boxes) gone)) place))
        (link_in state last m (set boxes place later) (number_at (there_of m) place))) (sym same_marks)
        (by_box (marks_of place_of (length boxes) gone) boxes place one later less even is P holds)

    pub only_asked : (asked : List Target)
        → ChangesOnly place (boxes_state state last (marks_of place_of (length boxes) gone) boxes asked)
        (boxes_state state last (marks_of place_of (length (set boxes place later)) gone) (set boxes place later) asked)
    only_asked asked =
        subst (λ (m : List (Option G)). ChangesOnly place
        (boxes_state state last (marks_of place_of (length boxes) gone) boxes asked)
        (boxes_state state last m (set boxes place later) asked)) (sym same_marks)
        (only_there (marks_of place_of (length boxes) gone) boxes place one later less even is asked)

    pub even_asked : count_there (there_of (marks_of place_of (length (set boxes place later)) gone)) ≡ length (set boxes place later)
    even_asked =
        ap (λ (m : List (Option G)). count_there (there_of m)) same_marks ∙ even ∙ sym (length-set boxes place later)

  -- ---- one box goes

  module _ (place_of : G → ℕ) (boxes left : List B) (gone : List G) (place : ℕ) (one : B) (note : G)
      (less : place < count_there (there_of (marks_of place_of (length boxes) gone)))
      (even : count_there (there_of (marks_of place_of (length boxes) gone)) ≡ length boxes)
      (without : left ≡ remove boxes place) (is : one ≡ get_or boxes place one)
      (noted : last note ≡ state one) (at : place_of note ≡ place) where
    abbrev marks : List (Option G)
    marks = marks_of place_of (length boxes) gone

    fewer : length left + 1 ≡ length boxes
    fewer = ap (λ (l : List B). length l + 1) without ∙ length_without boxes place (omega (arith, less, even))

    pub marks_then : marks_of place_of (length left) (gone ++ note ∷ []) ≡ mark marks place note
    marks_then = marks_more place_of (length left) (length boxes) gone note fewer ∙ ap (λ (k : ℕ). mark marks k note) at

    as_it_was : last note ≡ box_at state boxes place
    as_it_was = noted ∙ ap state is ∙ sym (at_box state boxes place one (omega (arith, less, even)))

    pub retires_box : (asked : List Target) → Retires place (boxes_state state last marks boxes asked)
        (boxes_state state last (marks_of place_of (length left) (gone ++ note ∷ [])) left asked)
    retires_box asked = record {
      there = ap there_of marks_then ∙ mark_there marks place note less;
      asked = refl;
      links = λ n below. stays_equal (link_in state last marks boxes n)
          (link_in state last (marks_of place_of (length left) (gone ++ note ∷ [])) left n)
          (ap (λ (m : List (Option G)). link_in state last m left n) marks_then
          ∙ ap (λ (l : List B). link_in state last (mark marks place note) l n) without
          ∙ gone_same marks boxes place n note (omega (arith, less, even)) as_it_was);
    }

    pub even_then : count_there (there_of (marks_of place_of (length left) (gone ++ note ∷ []))) ≡ length left
    even_then =
        let after : count_there (there_of (marks_of place_of (length left) (gone ++ note ∷ []))) + 1 ≡ count_there (there_of marks) =
        ap (λ (m : List (Option G)). count_there (there_of m) + 1) marks_then ∙ mark_count marks place note less in
        omega (arith, after, even, fewer)
