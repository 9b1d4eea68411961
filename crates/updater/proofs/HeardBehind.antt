-- What a command hears behind what was heard before.
use Rattle.std.proofs.Common.{◌≤◌, ℕ, List, [], ◌∷◌, length, append-nil, Ok, inl, refl, sym, arith}
use Rattle.small_types.specs.declared.limits.TheConstants.{NUMBER_LIMIT}
use Rattle.disks.specs.declared.disk.Disk.{Ghosts}
use Rattle.links.specs.declared.links.Links.{Ghosts as LinksGhosts}
use Rattle.links.specs.Links.{LinksState}
use Rattle.fetcher.proofs.Liars.{but_all}
use Rattle.fetcher.proofs.Sequence.{all_same}
use Rattle.identity.specs.declared.key.Key.{Key}
use Rattle.machine.specs.declared.command.Command.{Command}
use Rattle.machine.specs.declared.command.Command.TheVariants.{Check, Group, Install}
use Rattle.machine.specs.declared.reply.Reply.TheVariants as says
use Rattle.machine.specs.CheckRow.{HearsOffer}
use Rattle.machine.specs.InstallRow.{HearsRelease}
use Rattle.machine.specs.Shape.{Shape, shape_of}
use Rattle.machine.specs.Store.{Session}
use Rattle.machine.specs.Valid.{Ordered}
use Rattle.install_plan.specs.GroupAsked.{IsListedOfGroup}
use Rattle.install_plan.specs.InstallHeard.{IsListedBy}
use Rattle.install_plan.proofs.Downs.{counts_none}
use Rattle.install_plan.proofs.LeasedRows.{still_brought}
use Rattle.updater.specs.Shown.{Updater}
use Rattle.updater.specs.Commanded.{Commanded, LinksServe, MayLack}
use Rattle.updater.proofs.CommandEnds.{rested, unlinked}
use Rattle.updater.proofs.InstallEnds.{one_more}

-- ---- want of memory before anything is asked

served_at_once : (command : Command) (links : LinksState) (old : Session) → Ordered old.store
    → LinksServe command [] links links old says.Memory old
served_at_once (Install url) links old ordered = (
  record {
    hearing = record {
      kept = but_all (IsListedBy (shape_of old) url []) links links (all_same links);
      deployment = tt;
      application = tt;
      asked = [];
      grown = sym (append-nil links.asked);
      front = λ all asks. (all, refl);
    };
    accounts = tt;
  },
  λ view more. absurd (one_more old.store.views view more),
)
served_at_once (Check key) links old ordered = record {
  hearing = record {
    kept = all_same links;
    text = tt;
    asked = [];
    grown = sym (append-nil links.asked);
    front = λ all asks. (all, refl);
  };
  accounts = tt;
}
served_at_once (Group lease group) links old ordered = (
  record {
    kept = but_all (IsListedOfGroup lease group (shape_of old)) links links (all_same links);
    asked = [];
    grown = sym (append-nil links.asked);
    front = λ all asks. (all, refl);
    accounts = tt;
  },
  still_brought lease group old links links ordered,
)
served_at_once _ links old ordered = tt

pub memory_at_once : {D L : Type 0} (on : Ghosts D) (net : LinksGhosts L) (now : ℕ)
    (command : Command) (updater : Updater) (disk : D) (links : L)
    → on.left_at disk (on.moment disk) (on.seen disk) → now ≤ NUMBER_LIMIT
    → MayLack command
    → Commanded on net now [] command updater disk links (Ok says.Memory) updater disk links
memory_at_once on net now command updater disk links seen_left moment may =
    rested on net now [] command updater disk links links seen_left moment
    (unlinked net command updater links) says.Memory moment (counts_none refl) (λ e. may) (λ old s. record {
      new = old;
      step = inl (inl (refl, refl));
      same = refl;
      served = served_at_once command (net.links links) old s.valid.ordered;
    })

-- ---- the most texts

pub few_of_release : (url : List ℕ) (shape : Shape) (texts : List (List ℕ))
    → HearsRelease url shape texts → length texts ≤ 2
few_of_release url shape [] hears = omega arith
few_of_release url shape (deployment ∷ []) hears = omega arith
few_of_release url shape (deployment ∷ application ∷ []) hears = omega arith
few_of_release url shape (deployment ∷ application ∷ other ∷ others) hears = absurd hears

pub few_of_offer : (key : Key) (shape : Shape) (texts : List (List ℕ))
    → HearsOffer key shape texts → length texts ≤ 1
few_of_offer key shape [] hears = omega arith
few_of_offer key shape (deployment ∷ []) hears = omega arith
few_of_offer key shape (deployment ∷ other ∷ others) hears = absurd hears
