-- A walk over lines: one line more, and what it tells.
use Rattle.std.proofs.Common.{◌≡◌, ℕ, ◌+◌, List, [], ◌∷◌, ◌++◌, refl, sym, subst, arith}
use Rattle.links.specs.declared.links.Links.{Ghosts as LinksGhosts}
use Rattle.links.specs.Links.{LinksState, failures_of}
use Rattle.fetcher.specs.Fetched.{AllTell, Kept}
use Rattle.fetcher.proofs.Sequence.{kept_then}
use Rattle.machine.specs.declared.report.ReportLine.{ReportLine}
use Rattle.machine.specs.Machine.{Run, Step}
use Rattle.machine.specs.Store.{Session}
use Rattle.updater_cli.specs.Report.{AreServed, IsCounted, IsLineServed, Origin, events_of, moment_behind, origin_after, replies_of}
use Rattle.updater_cli.specs.Sites.{AreOfSites}
use Rattle.updater_cli.specs.Walk.{LineHolds, WalkTells, Walks, WalksTell}
use Rattle.updater_cli.proofs.Sites.{line_of}

-- a session at a moment
abbrev pub at_moment : ℕ → Session → Origin
at_moment now s = record { now = now; session = s }

module _ {L : Type 0} (net : LinksGhosts L) (first : LinksState) where
  -- the links and their sites stay
  pub walk_kept : (from : Origin) (mark : ℕ) (before : L) (lines : List ReportLine) (new : Session) (last bytes : ℕ) (behind : L)
      → Walks net first from mark before lines new last bytes behind → Kept first (net.links before) → Kept first (net.links behind)
  walk_kept from mark before [] new last bytes behind walk kept = subst (λ (x : L). Kept first (net.links x)) (sym walk.3) kept
  walk_kept from mark before (l ∷ lines) new last bytes behind walk kept =
      walk_kept (origin_after from l.reply walk.0) l.mark walk.1 lines new last walk.3 behind walk.6
      (kept_then first (net.links before) (net.links walk.1) kept walk.5.served.kept)

  -- what holds of a line
  pub line_holds : (from : Origin) (mark : ℕ) (before after : L) (l : ReportLine) (new : Session) (bytes : ℕ) → Kept first (net.links before)
      → Step from.now from.session l.event l.reply new → IsCounted l.event l.reply (net.links before) (net.links after) from.session new mark l.mark bytes → IsLineServed net l.event l.reply before after from.session new
      → l.failures ≡ failures_of (net.links after) → LineHolds net first from mark before after l new bytes
  line_holds from mark before after l new bytes kept step counted served failures = record {
    step = step;
    counted = counted;
    served = served;
    failures = failures;
    sites = λ tell. line_of net first before after kept tell from.now from.session new l.event l.reply step served;
  }

  -- one line more
  pub walk_push : (from : Origin) (mark : ℕ) (before : L) (lines : List ReportLine) (s new : Session) (last bytes own : ℕ) (behind after : L) (l : ReportLine)
      → Walks net first from mark before lines s last bytes behind → LineHolds net first (at_moment (moment_behind from.now lines) s) last behind after l new own
      → Walks net first from mark before (lines ++ l ∷ []) new l.mark (bytes + own) after
  walk_push from mark before [] s new last bytes own behind after l walk holds = (
    new,
    after,
    own,
    0,
    omega (arith, walk.2),
    subst (λ (x : Session). LineHolds net first (at_moment from.now x) mark before after l new own) walk.0
        (subst (λ (m : ℕ). LineHolds net first (at_moment from.now s) m before after l new own) walk.1
        (subst (λ (x : L). LineHolds net first (at_moment from.now s) last x after l new own) walk.3 holds)),
    (refl, refl, refl, refl),
  )
  walk_push from mark before (x ∷ lines) s new last bytes own behind after l walk holds = (
    walk.0,
    walk.1,
    walk.2,
    walk.3 + own,
    omega (arith, walk.4),
    walk.5,
    walk_push (origin_after from x.reply walk.0) x.mark walk.1 lines s new last walk.3 own behind after l walk.6 holds,
  )

  -- ---- what it tells

  walk_run : (from : Origin) (mark : ℕ) (before : L) (lines : List ReportLine) (new : Session) (last bytes : ℕ) (behind : L)
      → Walks net first from mark before lines new last bytes behind → Run from.now from.session (events_of lines) (replies_of lines) new
  walk_run from mark before [] new last bytes behind walk = walk.0
  walk_run from mark before (l ∷ lines) new last bytes behind walk =
      (walk.0, walk.5.step, walk_run (origin_after from l.reply walk.0) l.mark walk.1 lines new last walk.3 behind walk.6)

  pub walk_served : (from : Origin) (mark : ℕ) (before : L) (lines : List ReportLine) (new : Session) (last bytes : ℕ) (behind : L)
      → Walks net first from mark before lines new last bytes behind → AreServed net from before lines new behind
  walk_served from mark before [] new last bytes behind walk = (walk.0, walk.3)
  walk_served from mark before (l ∷ lines) new last bytes behind walk = (
    walk.0,
    walk.1,
    walk.5.step,
    walk.5.served,
    walk.5.failures,
    walk_served (origin_after from l.reply walk.0) l.mark walk.1 lines new last walk.3 behind walk.6,
  )

  walk_sites : (from : Origin) (mark : ℕ) (before : L) (lines : List ReportLine) (new : Session) (last bytes : ℕ) (behind : L)
      → Walks net first from mark before lines new last bytes behind → AllTell first → AreOfSites first from lines new
  walk_sites from mark before [] new last bytes behind walk tell = walk.0
  walk_sites from mark before (l ∷ lines) new last bytes behind walk tell =
      (walk.0, walk.5.step, walk.5.sites tell, walk_sites (origin_after from l.reply walk.0) l.mark walk.1 lines new last walk.3 behind walk.6 tell)

  pub walk_tells : (from : Origin) (mark : ℕ) (before : L) (lines : List ReportLine) (new : Session) (last bytes : ℕ) (behind : L)
      → Walks net first from mark before lines new last bytes behind → WalkTells net first from before lines new behind
  walk_tells from mark before lines new last bytes behind walk = record {
    run = walk_run from mark before lines new last bytes behind walk;
    served = walk_served from mark before lines new last bytes behind walk;
    sites = λ tell. walk_sites from mark before lines new last bytes behind walk tell;
  }

pub walks_tell : {L : Type 0} (net : LinksGhosts L) (first : LinksState) (before : L) → WalksTell net first before
walks_tell net first before from mark lines new last bytes behind walk = walk_tells net first from mark before lines new last bytes behind walk
