-- What links in boxes are, by what each box shows.
use Rattle.std.specs.Prelude.{◌≡◌, ◌+◌, ℕ, zero, suc, Bool, true, false, List, [], ◌∷◌, length, Option, Some, None, IfSome, slice_get}
use Rattle.outside.specs.Streams.{total}
use Rattle.small_types.specs.declared.target.Target.{Target}
use Rattle.links.specs.Link.{LinkState, Stays}
use Rattle.links.specs.Links.{LinksState, count_there, link_at, sources_of}

-- ---- which links are gone

-- of each link that there was at first, by its number: what was noted of it when it went, or
-- nothing while it is left
abbrev pub all_left : {G : Type 0} → ℕ → List (Option G)
all_left zero = []
all_left (suc n) = None ∷ all_left n

-- the one at the place goes
abbrev pub mark : {G : Type 0} → List (Option G) → ℕ → G → List (Option G)
mark [] place one = []
mark (Some other ∷ marks) place one = Some other ∷ mark marks place one
mark (None ∷ marks) zero one = Some one ∷ marks
mark (None ∷ marks) (suc place) one = None ∷ mark marks place one

-- these went, one after another
abbrev pub mark_all : {G : Type 0} → (G → ℕ) → List (Option G) → List G → List (Option G)
mark_all place_of marks [] = marks
mark_all place_of marks (one ∷ gone) = mark_all place_of (mark marks (place_of one) one) gone

-- of so many that are left, and these that went
abbrev pub marks_of : {G : Type 0} → (G → ℕ) → ℕ → List G → List (Option G)
marks_of place_of left gone = mark_all place_of (all_left (left + length gone)) gone

abbrev pub there_of : {G : Type 0} → List (Option G) → List Bool
there_of [] = []
there_of (None ∷ marks) = true ∷ there_of marks
there_of (Some one ∷ marks) = false ∷ there_of marks

-- how often those failed that are gone
abbrev pub gone_in : {G : Type 0} → (G → ℕ) → List (Option G) → ℕ
gone_in count_of [] = 0
gone_in count_of (None ∷ marks) = gone_in count_of marks
gone_in count_of (Some one ∷ marks) = total (count_of one) (gone_in count_of marks)

-- so many are left, and those that went failed so often
abbrev pub AreEven : {G : Type 0} → (G → ℕ) → ℕ → List G → Type 0
AreEven place_of left gone = count_there (there_of (marks_of place_of left gone)) ≡ left

abbrev pub AreSummed : {G : Type 0} → (G → ℕ) → (G → ℕ) → ℕ → List G → ℕ → Type 0
AreSummed place_of count_of left gone sum = gone_in count_of (marks_of place_of left gone) ≡ sum

-- ---- the links

-- where there is no link
abbrev pub no_link : LinkState
no_link = record { tells = ⊥; site = λ target. None; rest = []; count = 0; history = [] }

-- The link of a number. Those that are left are in the boxes, in their order.
abbrev pub link_in : {B G : Type 0} → (B → LinkState) → (G → LinkState) → List (Option G) → List B
    → ℕ → LinkState
link_in state last [] boxes n = no_link
link_in state last (None ∷ marks) [] n = no_link
link_in state last (None ∷ marks) (one ∷ boxes) zero = state one
link_in state last (None ∷ marks) (one ∷ boxes) (suc n) = link_in state last marks boxes n
link_in state last (Some one ∷ marks) boxes zero = last one
link_in state last (Some one ∷ marks) boxes (suc n) = link_in state last marks boxes n

-- all of them
abbrev pub boxes_state : {B G : Type 0} → (B → LinkState) → (G → LinkState) → List (Option G)
    → List B → List Target → LinksState
boxes_state state last marks boxes asked =
    record { there = there_of marks; link = link_in state last marks boxes; asked = asked }

-- the links are those in the boxes, in their order, and nothing was asked of them
pub record AreNew {B : Type 0} (state : B → LinkState) (boxes : List B) (links : LinksState)
    : Type 0 where
  pub sources : sources_of links ≡ length boxes
  pub all : length links.there ≡ length boxes
  pub each : (k : ℕ) → IfSome (slice_get boxes k) (λ one. Stays (state one) (link_at links k))
  pub asked : links.asked ≡ []
