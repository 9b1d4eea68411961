-- Parts of the run, one after another.
use Rattle.std.proofs.Common.{◌≡◌, ℕ, List, map, Bool, IsTrue, None, Ok, refl, subst, sym}
use Rattle.small_types.specs.declared.room.Room.{Room}
use Rattle.disks.specs.declared.disk.Disk.{Ghosts}
use Rattle.machine.specs.declared.event.Event.TheVariants.{Boot}
use Rattle.machine.specs.Blocks.{used_blocks}
use Rattle.machine.specs.Machine.{Step}
use Rattle.machine.specs.Shape.{bare_view}
use Rattle.machine.specs.Store.{Store}
use Rattle.machine.specs.Valid.{Valid}
use Rattle.store_state.specs.Shows.{Shows}
use Rattle.updater.specs.Shown.{Updater}
use Rattle.updater.specs.StandsFor.{StandsFor}
use Rattle.updater.specs.Updater.{tables_of}
use Rattle.updater.proofs.HeldStore.{stored_stands}
use Rattle.generated_release.specs.declared.release.GeneratedRelease.TheVariants.{One, Two, Three}
use Rattle.demo.specs.declared.summary.Installed.{Installed}
use Rattle.demo.specs.declared.summary.Summary.{Summary}
use Rattle.demo.specs.Kept.{TablesKeep}
use Rattle.demo.specs.Parts.{FirstLaunched, ThirdInstalled, Goes, FirstLeft, Looks, ReachesHeld}
use Rattle.demo.specs.Run.{Demonstrates, start}
use Rattle.demo.specs.Steps.{Cleans, Finishes, Installs, Launches}
use Rattle.demo.proofs.ShownViews.{keeps_shown}
use Rattle.demo.proofs.Touches.{after, with_answer}

module _ {D : Type 0} (on : Ghosts D) where
  -- an install and a launch
  pub begun : {S : Type 0} (seed : ℕ) (installed : Installed) (done : S) (u v w : Updater)
      (a b c : D) → Goes on (Installs seed One) u a (Ok installed) v b
      → Goes on (λ (_ : S). Launches) v b (Ok done) w c
      → Goes on (FirstLaunched seed) u a (Ok installed) w c
  begun seed installed done u v w a b c one launch = record {
    leads = λ tells old holds sound.
        let first : ReachesHeld on (Installs seed One installed old) v b =
        one.leads (launch.touches.told tells) old holds sound in
        let then : ReachesHeld on (Launches first.session) w c =
        launch.leads tells first.session first.holds first.sound in
        record {
          session = then.session;
          is = record { first = first.session; one = first.is; launch = then.is };
          holds = then.holds;
          sound = then.sound;
        };
    touches = after on one.touches (with_answer on installed launch.touches);
  }

  -- a clean, the end of the lease and another clean
  pub left : {S : Type 0} (one two three : S) (u v w x : Updater) (a b c d : D)
      → Goes on (λ (_ : S). Cleans 0) u a (Ok one) v b
      → Goes on (λ (_ : S). Finishes) v b (Ok two) w c
      → Goes on (λ (_ : S). Cleans 1) w c (Ok three) x d
      → Goes on (λ (_ : S). FirstLeft) u a (Ok three) x d
  left one two three u v w x a b c d clean finish again = record {
    leads = λ tells old holds sound.
        let before = again.touches.told tells in
        let first : ReachesHeld on (Cleans 0 old) v b =
        clean.leads (finish.touches.told before) old holds sound in
        let second : ReachesHeld on (Finishes first.session) w c =
        finish.leads before first.session first.holds first.sound in
        let third : ReachesHeld on (Cleans 1 second.session) x d =
        again.leads tells second.session second.holds second.sound in
        record {
          session = third.session;
          is = record {
            cleaned = first.session;
            finished = second.session;
            clean = first.is;
            finish = second.is;
            clean_again = third.is;
          };
          holds = third.holds;
          sound = third.sound;
        };
    touches = after on clean.touches (after on finish.touches again.touches);
  }

  -- an install, and what follows
  pub ended : {S : Type 0} (seed : ℕ) (installed : Installed) (done : S) (u v w : Updater)
      (a b c : D) → Goes on (Installs seed Three) u a (Ok installed) v b
      → Goes on (λ (_ : S). FirstLeft) v b (Ok done) w c
      → Goes on (ThirdInstalled seed) u a (Ok installed) w c
  ended seed installed done u v w a b c three leave = record {
    leads = λ tells old holds sound.
        let first : ReachesHeld on (Installs seed Three installed old) v b =
        three.leads (leave.touches.told tells) old holds sound in
        let then : ReachesHeld on (FirstLeft first.session) w c =
        leave.leads tells first.session first.holds first.sound in
        record {
          session = then.session;
          is = record { third = first.session; three = first.is; left = then.is };
          holds = then.holds;
          sound = then.sound;
        };
    touches = after on three.touches (with_answer on installed leave.touches);
  }

  -- the whole run
  pub demonstrates : (seed : ℕ) (s : Summary) (u v w x : Updater) (a b c d e : D) (same : Bool)
      → on.tells e
      → s.seed ≡ seed → ReachesHeld on (Step 0 start (Boot 1) None) u a
      → Goes on (FirstLaunched seed) u a (Ok s.one) v b
      → Goes on (Installs seed Two) v b (Ok s.two) w c
      → Goes on (ThirdInstalled seed) w c (Ok s.three) x d
      → Looks on (λ room image. TablesKeep room image seed (tables_of x)) x d (Ok same) e
      → IsTrue same
      → ((room : Room) (image : List ℕ) (store : Store) → Shows room (tables_of x) image store
      → Valid store → s.blocks ≡ used_blocks (map bare_view store.views))
      → on.left_at d (on.moment d) (on.seen d)
      → Demonstrates on seed s e
  demonstrates seed s u v w x a b c d e same tells shown opened begins updates ends keeps so blocks seen =
      let here = keeps.touches.told tells in
      let before = ends.touches.told here in
      let one : ReachesHeld on (FirstLaunched seed s.one opened.session) v b =
      begins.leads (updates.touches.told before) opened.session opened.holds opened.sound in
      let two : ReachesHeld on (Installs seed Two s.two one.session) w c =
      updates.leads before one.session one.holds one.sound in
      let three : ReachesHeld on (ThirdInstalled seed s.three two.session) x d =
      ends.leads here two.session two.holds two.sound in
      let first = one.is in
      let second = two.is in
      let third = three.is in
      let shows : Shows three.session.store.room (tables_of x) (on.seen d) three.session.store =
      three.holds.shows (on.seen d) seen in
      record {
        last = three.session;
        course = record {
          opened = opened.session;
          first = first.first;
          launched = one.session;
          second = two.session;
          third = third.third;
          cleaned = third.left.cleaned;
          finished = third.left.finished;
          boot = opened.is;
          one = first.one;
          launch = first.launch;
          two = second;
          three = third.three;
          clean = third.left.clean;
          finish = third.left.finish;
          clean_again = third.left.clean_again;
          seed_shown = shown;
          blocks = blocks three.session.store.room (on.seen d) three.session.store shows
              three.holds.valid;
        };
        run = (
          opened.session,
          opened.is,
          (
            first.first,
            first.one.step,
            (
              one.session,
              first.launch,
              (
                two.session,
                second.step,
                (
                  third.third,
                  third.three.step,
                  (
                    third.left.cleaned,
                    third.left.clean,
                    (
                      third.left.finished,
                      third.left.finish,
                      (
                        three.session,
                        third.left.clean_again,
                        refl,
                      ),
                    ),
                  ),
                ),
              ),
            ),
          ),
        );
        stands = subst (λ (image : List ℕ). StandsFor image three.session.store)
            (sym keeps.still.same_reads)
            (stored_stands on x d three.session three.holds (on.seen d) seen);
        files = keeps_shown seed three.session.store.room (tables_of x) (on.seen d)
            three.session.store shows
            (keeps.same tells three.session three.holds so);
      }
