-- What is published, and the lines of a generated run.
use Rattle.std.specs.Prelude.{◌≡◌, ℕ, List, [], ◌∷◌, false, length, map, Some}
use Rattle.small_types.specs.declared.target.Target.{Target}
use Rattle.machine.specs.declared.command.Command.{Command}
use Rattle.machine.specs.declared.command.Command.TheVariants.{Clean, Finish, Install, Launch}
use Rattle.machine.specs.declared.event.Event.{Event}
use Rattle.machine.specs.declared.event.Event.TheVariants.{Line}
use Rattle.machine.specs.declared.reply.Reply.{Reply}
use Rattle.machine.specs.declared.reply.Reply.TheVariants as says
use Rattle.machine.specs.Asked.{AsksInstall}
use Rattle.machine.specs.Blocks.{used_blocks}
use Rattle.machine.specs.Machine.{Step}
use Rattle.machine.specs.Shape.{bare_view, shape_of}
use Rattle.machine.specs.Store.{Session, Store}
use Rattle.generated_release.specs.declared.release.GeneratedRelease.{GeneratedRelease}
use Rattle.generated_release.specs.declared.release.GeneratedRelease.TheVariants.{One}
use Rattle.demo.specs.declared.site.Site.{Site}
use Rattle.demo.specs.declared.summary.Installed.{Installed}
use Rattle.generated_release.specs.Options.{demo_key, number_of, url_of, version_of}
use Rattle.generated_release.specs.Published.{ArePublished}

-- ---- what is published

-- a site that has published the release, and of which nothing was asked
pub record IsSite (seed : ℕ) (release : GeneratedRelease) (site : Site) : Type 0 where
  pub texts : ArePublished seed release site.deployment site.application
  pub key : site.key ≡ demo_key
  pub unasked : site.links.asked ≡ []

-- ---- lines

-- the event of a command at moment 0, with the texts that it hears
abbrev pub event_of : Command → List (List ℕ) → Event
event_of command heard = Line command 0 (record { texts = heard })

-- the command hears these texts and gives this reply
abbrev pub AnswersAtZero : Command → List (List ℕ) → Reply → Session → Session → Type 0
AnswersAtZero command heard reply old new = Step 0 old (event_of command heard) (Some reply) new

-- how many blocks the files of a store take
abbrev pub blocks_in : Store → ℕ
blocks_in store = used_blocks (map bare_view store.views)

abbrev pub installed_reply : GeneratedRelease → Reply
installed_reply release = says.Installed demo_key (version_of release) (number_of release)

-- The release is installed as the view of its number. The texts that are heard are its two
-- published manifests. So many targets are what such an install asks for, and so many blocks are
-- used behind it.
pub record Installs (seed : ℕ) (release : GeneratedRelease) (installed : Installed)
    (old new : Session) : Type 0 where
  pub deployment : List ℕ
  pub application : List ℕ
  pub published : ArePublished seed release deployment application
  pub step : AnswersAtZero (Install (url_of release)) (deployment ∷ application ∷ [])
      (installed_reply release) old new
  pub targets : List Target
  pub asks : AsksInstall (url_of release)
      (deployment ∷ application ∷ []) (shape_of old) targets
  pub asked : installed.asked ≡ length targets
  pub blocks : installed.blocks ≡ blocks_in new.store

-- the first release is launched, and gets lease 1
abbrev pub Launches : Session → Session → Type 0
Launches = AnswersAtZero (Launch demo_key) [] (says.Lease 1 (version_of One) false)

-- the views that are not in use, which are so many, are taken away
abbrev pub Cleans : ℕ → Session → Session → Type 0
Cleans count = AnswersAtZero Clean [] (says.Cleaned count)

-- lease 1 ends
abbrev pub Finishes : Session → Session → Type 0
Finishes = AnswersAtZero (Finish 1) [] (says.Finished 1)
