use Rattle.std.specs.Prelude.{◌≡◌, ◌⊎◌, ◌↔◌, ℕ, ◌+◌, Bool, true, List, [], ◌∷◌, ◌++◌, min, Result, IsErr, IsTrue, OnErr}
use Rattle.outside.specs.Streams.{Causes}
use Rattle.disks.specs.declared.answer.Answer.{Answer}
use Rattle.disks.specs.declared.answer.Answer.TheVariants.{Changed}
use Rattle.disks.specs.declared.call.Move.{Move}
use Rattle.disks.specs.declared.start.Start.{Ghosts}
use Rattle.disks.specs.Answers.{seen_after, IsHonest, LeftAfter}
use Rattle.disks.specs.Disk.{Elapses, IsStill, Ticks}
use Rattle.outside_real.specs.declared.file_disk.FileDisk.{FileDisk}

module _ {R S Dir : Type 0} where
  abbrev pub disk_calls : FileDisk R S Dir → ℕ
  disk_calls d = d.told.calls

  abbrev pub disk_written : FileDisk R S Dir → ℕ
  disk_written d = d.told.written

  abbrev pub disk_faults : FileDisk R S Dir → ℕ
  disk_faults d = d.faults

  -- a write, a cut or a sync failed, so that every further call fails
  abbrev pub is_lost : FileDisk R S Dir → Bool
  is_lost d = d.file.lost

  -- what the file answered to each of its calls, the first first
  abbrev pub disk_answers : FileDisk R S Dir → List Answer
  disk_answers d = d.told.answers.noted

  -- a call that may have changed the file stands last among the answers, with its number; or no
  -- number was left for it, and it was not made
  abbrev pub Notes : Move → FileDisk R S Dir → FileDisk R S Dir → Type 0
  Notes act old new =
      ((disk_calls new ≡ disk_calls old + 1)
      × (disk_answers new
      ≡ disk_answers old ++ Changed (record { number = disk_calls new; act = act }) ∷ []))
      ⊎ ((disk_calls new ≡ disk_calls old) × (disk_answers new ≡ disk_answers old))

  -- the answers are those of a file that held the bytes of the start and keeps to the model
  abbrev pub DiskIsHonest : Ghosts S → FileDisk R S Dir → Type 0
  DiskIsHonest start d = IsHonest start.first (disk_answers d)

  -- what reads give
  abbrev pub disk_seen : Ghosts S → FileDisk R S Dir → List ℕ
  disk_seen start d = seen_after start.first (disk_answers d)

  -- what a stop at a moment may leave
  abbrev pub disk_left : Ghosts S → FileDisk R S Dir → ℕ → List ℕ → Type 0
  disk_left start d = LeftAfter start.first start.left (disk_answers d)

  -- any call: what a stop could leave at a moment that has been stays, and the answers were honest
  -- before if they are now. A fault is counted where the call fails and nowhere else, and each call
  -- of a lost file fails.
  pub record IsCall {T E : Type 0} (start : Ghosts S) (old new : FileDisk R S Dir)
      (result : Result T E) : Type 0 where
    pub time : Elapses (disk_calls old) (disk_left start old) (disk_left start new)
    pub told : DiskIsHonest start new → DiskIsHonest start old
    pub cause : Causes (disk_faults old) (disk_faults new) result
    pub raised : OnErr result (disk_faults new ≡ min (disk_faults old + 1) 0xffff_ffff_ffff_ffff)
    pub stays : is_lost old ≡ true → IsErr result

  -- a call that only reads
  pub record OnlyReads {T E : Type 0} (start : Ghosts S) (old new : FileDisk R S Dir)
      (result : Result T E) : Type 0 where
    pub call : IsCall start old new result
    pub still : IsStill (disk_calls old) (disk_calls new) (disk_written old) (disk_written new)
    pub seen : disk_seen start new ≡ disk_seen start old
    pub lost : is_lost new ≡ is_lost old

  -- a call that is handed n bytes and may change the file, which is lost where it fails
  pub record MayChange {T E : Type 0} (n : ℕ) (start : Ghosts S) (old new : FileDisk R S Dir)
      (result : Result T E) : Type 0 where
    pub call : IsCall start old new result
    pub none : disk_calls new ≡ disk_calls old → disk_seen start new ≡ disk_seen start old
    pub tick : Ticks (disk_calls old) (disk_calls new) (disk_written old) (disk_written new) n
        result
    pub lost : IsErr result ↔ IsTrue (is_lost new)
