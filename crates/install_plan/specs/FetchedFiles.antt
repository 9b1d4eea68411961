-- What is fetched of the files that a plan wants.
use Rattle.std.specs.Prelude.{◌≡◌, ◌⊎◌, ◌*◌, ◌<◌, ◌≤◌, ◌^◌, ℕ, List, [], ◌∷◌, ◌++◌, All, IfSome, IsSomeAnd, length, map, slice_get, sum_by, Option, Some, None}
use Rattle.std.specs.List.{AllZip}
use Rattle.small_types.specs.declared.target.Target.{Target}
use Rattle.small_types.specs.Blocks.{count_for}
use Rattle.causes.specs.declared.cause.Cause.{Cause}
use Rattle.digest_list.specs.declared.digest.Digest.{Digest}
use Rattle.digest_list.specs.Matches.{Matches}
use Rattle.manifests.specs.declared.facts.FileEntry.{FileEntry}
use Rattle.machine.specs.declared.reply.Reply.{Reply}
use Rattle.machine.specs.declared.reply.Reply.TheVariants.{AllLinks, Memory}
use Rattle.links.specs.Links.{LinksState, sources_of}
use Rattle.fetcher.specs.Causes.{IsFileCause}
use Rattle.fetcher.specs.Fetched.{WasAsked, IsThis, Kept, KeptBut, MayAsk}
use Rattle.install_plan.specs.declared.plan.WantedFile.{WantedFile}
use Rattle.install_plan.specs.Brought.{IsFileFrom}
use Rattle.install_plan.specs.Given.{IsUngiven}

-- ---- one file

-- no link gave the file, each for its cause
abbrev pub IsFileUngiven : FileEntry → Target → LinksState → LinksState → List Cause → Type 0
IsFileUngiven entry target before after reasons =
    IsUngiven (IsFileCause entry.list entry.size target) (Matches entry.list entry.size) target
    before after after reasons

-- what is listed at its address is its size and digests
abbrev pub IsEntryAt : FileEntry → Target → Target → List Digest → ℕ → Type 0
IsEntryAt entry target = IsThis target entry.list entry.size

-- these bytes were fetched for it
pub record IsFetched (entry : FileEntry) (target : Target) (before after : LinksState)
    (bytes : List ℕ) : Type 0 where
  pub kept : Kept before after
  pub asked : WasAsked target before after
  pub is : IsFileFrom before after entry target bytes

-- Why it was not fetched. Of the links a failing disk is as want of memory.
abbrev pub IsLack : FileEntry → Target → LinksState → LinksState → Reply → Type 0
IsLack entry target before after (AllLinks named reasons) =
    (named ≡ target) × WasAsked target before after
    × IsFileUngiven entry target before after reasons
IsLack entry target before after Memory = MayAsk target before after
IsLack entry target before after _ = ⊥

-- ---- the wanted files

-- the addresses of these files
abbrev pub addresses : List WantedFile → List Target
addresses wanted = map (λ file. file.target) wanted

-- each place is that of a file, of a size that can be hashed
pub record ArePlaces (files : List FileEntry) (wanted : List WantedFile) : Type 0 where
  pub within : All (λ file. file.place < length files) wanted
  pub sized : All (λ entry. entry.size < 2 ^ 61) files

-- what is listed at an address is the size and digests of one of these files
abbrev pub IsListedIn : List FileEntry → List WantedFile → Target → List Digest → ℕ → Type 0
IsListedIn files [] target list size = ⊥
IsListedIn files (file ∷ wanted) target list size =
    IsSomeAnd (slice_get files file.place) (λ entry. IsEntryAt entry file.target target list size)
    ⊎ IsListedIn files wanted target list size

-- the bytes were got for the file at the place
abbrev pub IsFileAt :
    LinksState → LinksState → List FileEntry → WantedFile → List ℕ → Type 0
IsFileAt before after files file bytes =
    IfSome (slice_get files file.place)
    (λ entry. IsFileFrom before after entry file.target bytes)

-- these bytes were fetched for the files, in order
pub record HasFetched (files : List FileEntry) (wanted : List WantedFile)
    (before after : LinksState) (gave : List (List ℕ)) : Type 0 where
  pub kept : KeptBut (IsListedIn files wanted) before after
  pub grown : after.asked ≡ before.asked ++ addresses wanted
  pub each : AllZip (IsFileAt before after files) wanted gave

-- All files before one were fetched, no link gave that one, and nothing behind it was asked for.
pub record StopsAt (files : List FileEntry) (wanted : List WantedFile) (before after : LinksState)
    (named : Target) (reasons : List Cause) : Type 0 where
  pub earlier : List WantedFile
  pub file : WantedFile
  pub later : List WantedFile
  pub wants : wanted ≡ earlier ++ file ∷ later
  pub shown : named ≡ file.target
  pub grown : after.asked ≡ before.asked ++ (addresses earlier ++ named ∷ [])
  pub bytes : List (List ℕ)
  pub gave : AllZip (IsFileAt before after files) earlier bytes
  pub ungiven : IfSome (slice_get files file.place)
      (λ entry. IsFileUngiven entry named before after reasons)

-- the size of a file, where there is one
abbrev pub size_in : Option FileEntry → ℕ
size_in None = 0
size_in (Some entry) = entry.size

-- the blocks that these files need
abbrev pub blocks_needed : List FileEntry → List WantedFile → ℕ
blocks_needed files wanted =
    sum_by (λ file. count_for (size_in (slice_get files file.place))) wanted

-- the first of these files were asked for
pub record AsksFirst (wanted : List WantedFile) (before after : LinksState) : Type 0 where
  pub asked : List WantedFile
  pub others : List WantedFile
  pub wants : wanted ≡ asked ++ others
  pub grown : after.asked ≡ before.asked ++ addresses asked

-- why not all were fetched
abbrev pub Stops : List FileEntry → List WantedFile → LinksState → LinksState → Reply → Type 0
Stops files wanted before after (AllLinks named reasons) =
    StopsAt files wanted before after named reasons
Stops files wanted before after Memory = AsksFirst wanted before after
Stops files wanted before after _ = ⊥

pub record IsStopped (files : List FileEntry) (wanted : List WantedFile)
    (before after : LinksState) (reply : Reply) : Type 0 where
  pub kept : KeptBut (IsListedIn files wanted) before after
  pub stops : Stops files wanted before after reply

-- ---- what it costs

-- No more bytes were written than each link may have given for the file, and none where it was not
-- asked for.
pub record WritesOne (entry : FileEntry) (before after : LinksState) (most : ℕ) : Type 0 where
  pub within : most ≤ entry.size * sources_of before
  pub none : after.asked ≡ before.asked → most ≡ 0

-- The first of these files were asked for, and no more bytes were written than each link may have
-- given for each of them.
pub record WritesAsked (files : List FileEntry) (wanted : List WantedFile)
    (before after : LinksState) (most : ℕ) : Type 0 where
  pub first : AsksFirst wanted before after
  pub within : most ≤ sources_of before
      * sum_by (λ file. size_in (slice_get files file.place)) first.asked
