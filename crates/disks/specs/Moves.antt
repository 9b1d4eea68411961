-- What the calls of a disk made of its bytes, and what a stop may have left of them.
use Rattle.std.specs.Prelude.{◌≡◌, ◌⊎◌, ℕ, ◌+◌, ◌-◌, List, [], ◌∷◌, ◌++◌, length, take, replicate, Bool, true, false, nat_le, ◌&&◌, if◌then◌else◌}
use Rattle.disks.specs.declared.call.Call.{Call}
use Rattle.disks.specs.declared.call.Move.{Move}
use Rattle.disks.specs.declared.call.Move.TheVariants.{Write, Cut, Sync}
use Rattle.disks.specs.declared.call.Pick.{Pick}
use Rattle.disks.specs.declared.call.Pick.TheVariants.{Kept, Lost, Filled}
use Rattle.outside.specs.Streams.{total}
use Rattle.small_types.specs.Bytes.{put, fill}
use Rattle.disks.specs.Disk.{Torn, CutOff}

-- what reads give after one call
abbrev pub moved : Move → List ℕ → List ℕ
moved (Write place bytes true) reads = put place bytes reads
moved (Write place bytes false) reads = reads
moved (Cut length true) reads = take length reads
moved (Cut length false) reads = reads
moved (Sync done) reads = reads

-- and after all of these, the first of them first
abbrev pub reads_after : List ℕ → List Move → List ℕ
reads_after reads [] = reads
reads_after reads (m ∷ moves) = reads_after (moved m reads) moves

-- what a stop during or after one call may make of an image
abbrev pub Leaves : Move → List ℕ → List ℕ → List ℕ → Type 0
Leaves (Write place bytes done) reads old new = Torn place (length bytes) old new
Leaves (Cut length done) reads old new = CutOff length old new
Leaves (Sync true) reads old new = new ≡ reads
Leaves (Sync false) reads old new = new ≡ old

-- what a stop after all of these calls may leave
abbrev pub IsImage : List ℕ → List ℕ → List Move → List ℕ → Type 0
IsImage reads image [] c = c ≡ image
IsImage reads image (m ∷ moves) c = (d : List ℕ) × Leaves m reads image d
    × IsImage (moved m reads) d moves c

-- an image with the range of a call filled with one byte
abbrev pub filled : ℕ → Move → List ℕ → List ℕ
filled byte (Write place bytes done) image = fill place (length bytes) byte image
filled byte (Cut n done) image = take n image ++ replicate (length image - n) byte
filled byte (Sync done) image = image

-- what a pick makes of an image in a call that is not synced: its range is kept as it was written,
-- lost, or filled
abbrev pub unsynced : Pick → Move → List ℕ → List ℕ
unsynced Kept m image = moved m image
unsynced Lost m image = image
unsynced (Filled byte) m image = filled byte m image

-- what a pick makes of an image in one call, where reads gave these bytes before it
abbrev pub picked : Pick → Move → List ℕ → List ℕ → List ℕ
picked pick (Write place bytes done) reads image = unsynced pick (Write place bytes done) image
picked pick (Cut n done) reads image = unsynced pick (Cut n done) image
picked pick (Sync true) reads image = reads
picked pick (Sync false) reads image = image

-- and in all of these
abbrev pub picked_after : Pick → List ℕ → List ℕ → List Move → List ℕ
picked_after pick reads image [] = image
picked_after pick reads image (m ∷ moves) =
    picked_after pick (moved m reads) (picked pick m reads image) moves

-- a write ends where a place can be named
abbrev pub fits : Move → Bool
fits (Write place bytes done) = nat_le (place + length bytes) 0xffff_ffff_ffff_ffff
fits (Cut length done) = true
fits (Sync done) = true

abbrev pub all_fit : List Call → Bool
all_fit [] = true
all_fit (x ∷ calls) = fits x.act && all_fit calls

-- a call was recorded, or there was no room for it
abbrev pub MayRecord : Call → List Call → List Call → Type 0
MayRecord x old new = (new ≡ old) ⊎ (new ≡ old ++ x ∷ [])

-- a call was recorded, and there was memory for it
pub record Records (x : Call) (old new : List Call) (starved_old starved_new : ℕ) : Type 0 where
  pub grown : new ≡ old ++ x ∷ []
  pub fed : starved_new ≡ starved_old

-- a call was not recorded for want of memory, which is counted
pub record Starves (old new : List Call) (starved_old starved_new : ℕ) : Type 0 where
  pub same : new ≡ old
  pub counted : starved_new ≡ total starved_old 1

abbrev pub RecordsOrStarves : Call → List Call → List Call → ℕ → ℕ → Type 0
RecordsOrStarves x old new starved_old starved_new =
    Records x old new starved_old starved_new ⊎ Starves old new starved_old starved_new

abbrev pub acts : List Call → List Move
acts [] = []
acts (x ∷ calls) = x.act ∷ acts calls

-- the calls up to a moment
abbrev pub until : ℕ → List Call → List Move
until t [] = []
until t (x ∷ calls) = if nat_le x.number t then x.act ∷ until t calls else until t calls

-- each call has been
abbrev pub all_by : ℕ → List Call → Bool
all_by t [] = true
all_by t (x ∷ calls) = nat_le x.number t && all_by t calls
