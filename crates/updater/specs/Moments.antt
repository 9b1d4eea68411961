-- What stops leave from a moment on.
use Rattle.std.specs.Prelude.{◌≡◌, ◌⊎◌, ℕ, ◌+◌, ◌≤◌, List}
use Rattle.disks.specs.declared.disk.Disk.{Ghosts}

-- from the start on each image that a stop may leave has P
abbrev pub LeavesSince : {D : Type 0} → Ghosts D → ℕ → D → (List ℕ → Type 0) → Type 0
LeavesSince on start new P =
    (t : ℕ) (image : List ℕ) → start ≤ t → t ≤ on.moment new → on.left_at new t image → P image

-- The same from the first call on, save where that call failed and was the last: then a stop leaves
-- what it could leave before it.
abbrev pub LeavesSinceOrNot : {D : Type 0} → Ghosts D → D → D → (List ℕ → Type 0) → Type 0
LeavesSinceOrNot on old new P =
    (t : ℕ) (image : List ℕ) → on.moment old + 1 ≤ t → t ≤ on.moment new → on.left_at new t image
    → P image ⊎ ((on.moment new ≡ on.moment old + 1) × on.left_at old (on.moment old) image)
