-- One walk over the lines of a session.
use Rattle.std.specs.Prelude.{◌≡◌, ℕ, ◌+◌, List, [], ◌∷◌}
use Rattle.links.specs.declared.links.Links.{Ghosts as LinksGhosts}
use Rattle.links.specs.Links.{LinksState, failures_of}
use Rattle.fetcher.specs.Fetched.{AllTell}
use Rattle.machine.specs.declared.report.ReportLine.{ReportLine}
use Rattle.machine.specs.Machine.{Run, Step}
use Rattle.machine.specs.Store.{Session}
use Rattle.updater_cli.specs.Report.{AreServed, IsCounted, IsLineServed, Origin, events_of, origin_after, replies_of}
use Rattle.updater_cli.specs.Sites.{AreOfSites, IsLineOfSites}

-- What holds of a line, from the session before it to the one after it. It is a step of the
-- machine. It makes calls of the disk where it changes the store, else none that changes the disk
-- but where files may be left, and may write so many bytes. The links did what is said of it, and it
-- shows how often they had failed by then. Where those with which the session began tell, what it
-- heard and brought is of their sites.
pub record LineHolds {L : Type 0} (net : LinksGhosts L) (first : LinksState) (from : Origin)
    (mark : ℕ) (before after : L) (l : ReportLine) (new : Session) (bytes : ℕ) : Type 0 where
  pub step : Step from.now from.session l.event l.reply new
  pub counted : IsCounted l.event l.reply (net.links before) (net.links after) from.session new mark
      l.mark bytes
  pub served : IsLineServed net l.event l.reply before after from.session new
  pub failures : l.failures ≡ failures_of (net.links after)
  pub sites : AllTell first → IsLineOfSites first l.event from.session new

-- The lines lead to this session, from one session to the next. They lead from one moment of the
-- disk to the last, each marked after its own calls, and may write so many bytes all together. They
-- took the links from those before them to those behind.
abbrev pub Walks :
    {L : Type 0} → LinksGhosts L → LinksState → Origin → ℕ → L → List ReportLine → Session → ℕ
    → ℕ → L → Type 0
Walks net first from mark before [] new last bytes behind =
    (new ≡ from.session) × (last ≡ mark) × (bytes ≡ 0) × (behind ≡ before)
Walks {L = L} net first from mark before (l ∷ lines) new last bytes behind =
    (mid : Session) × (after : L) × (own : ℕ) × (rest : ℕ) × (bytes ≡ own + rest)
    × LineHolds net first from mark before after l mid own
    × Walks net first (origin_after from l.reply mid) l.mark after lines new last rest behind

-- Each fact of a walk by itself: it is a run of the machine; for each line the links did what is
-- said of it; and over links that tell, what the lines heard and brought is of their sites.
pub record WalkTells {L : Type 0} (net : LinksGhosts L) (first : LinksState) (from : Origin)
    (before : L) (lines : List ReportLine) (new : Session) (behind : L) : Type 0 where
  pub run : Run from.now from.session (events_of lines) (replies_of lines) new
  pub served : AreServed net from before lines new behind
  pub sites : AllTell first → AreOfSites first from lines new

-- so it is of each walk
abbrev pub WalksTell : {L : Type 0} → LinksGhosts L → LinksState → L → Type 0
WalksTell {L = L} net first before =
    (from : Origin) (mark : ℕ) (lines : List ReportLine) (new : Session) (last bytes : ℕ)
    (behind : L) → Walks net first from mark before lines new last bytes behind
    → WalkTells net first from before lines new behind
