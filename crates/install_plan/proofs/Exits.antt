-- What each end of the hearing says of the line.
use Rattle.std.proofs.Common.{◌≡◌, ◌∙◌, ◌++◌, inl, inr, sym, subst, ℕ, List, [], ◌∷◌, Ok, Err}
use Rattle.std.specs.Prelude.{Result}
use Rattle.small_types.specs.declared.target.Target.{Target}
use Rattle.addresses.specs.declared.fault.UrlFault.{UrlFault}
use Rattle.addresses.specs.declared.fault.UrlFault.TheVariants.{BadUrl, NotHttp}
use Rattle.machine.specs.declared.reply.Reply.{Reply}
use Rattle.machine.specs.declared.reply.Reply.TheVariants as says
use Rattle.machine.specs.Asked.{AsksInstall}
use Rattle.machine.specs.InstallRow.{address_refusals, deployment_refusals, file_refusals, install_refusals, release_refusals}
use Rattle.machine.specs.Rows.{PassesAll, Refusal, Refuses}
use Rattle.machine.specs.Shape.{Shape}
use Rattle.machine.specs.Store.{Session, empty, plain_room, session_over}
use Rattle.links.specs.Links.{LinksState}
use Rattle.install_plan.specs.InstallHeard.{Accounts}
use Rattle.install_plan.specs.Judges.{Refused, address_checks}
use Rattle.install_plan.proofs.Listed.{refused_left, refused_right}

-- ---- plain replies: neither want of memory nor a target that no link gave

abbrev pub IsPlain : Reply → Type 0
IsPlain says.Memory = ⊥
IsPlain (says.AllLinks target reasons) = ⊥
IsPlain reply = Unit {0}

abbrev pub AllPlain : List (Refusal Reply Session) → Type 0
AllPlain [] = Unit {0}
AllPlain (r ∷ rs) = ((reply : Reply) → r.gives reply → IsPlain reply) × AllPlain rs

pub plain_refused : (rs : List (Refusal Reply Session)) (old : Session) (reply : Reply) (new : Session) → AllPlain rs → Refuses rs old reply new → IsPlain reply
plain_refused [] old reply new plain refuses = absurd refuses
plain_refused (r ∷ rs) old reply new plain (inl given) = plain.0 reply given.0
plain_refused (r ∷ rs) old reply new plain (inr later) = plain_refused rs old reply new plain.1 later.1

module _ (shape : Shape) (url : List ℕ) (texts : List (List ℕ)) (a c : LinksState) (asked : List Target) where
  pub plain_accounts : (reply : Reply) → IsPlain reply → AsksInstall url texts shape asked → Accounts shape url texts a c asked reply
  plain_accounts (says.AllLinks target reasons) plain asks = absurd plain
  plain_accounts says.Memory plain asks = absurd plain
  plain_accounts _ plain asks = asks

  pub memory_accounts : (reply : Reply) → reply ≡ says.Memory → Accounts shape url texts a c asked reply
  memory_accounts reply is = subst (Accounts shape url texts a c asked) (sym is) tt

-- some session
pub some_session : Session
some_session = session_over (empty (plain_room 1))

-- ---- the row

module _ (shape : Shape) (url : List ℕ) (texts : List (List ℕ)) where
  abbrev pub addresses : List (Refusal Reply Session)
  addresses = address_refusals url

  abbrev pub deployments : List (Refusal Reply Session)
  deployments = deployment_refusals url texts shape

  abbrev pub releases : List (Refusal Reply Session)
  releases = release_refusals url texts shape

  abbrev pub files : List (Refusal Reply Session)
  files = file_refusals url texts shape

  abbrev pub all : List (Refusal Reply Session)
  all = install_refusals url texts shape

  pub by_address : (reply : Reply) → Refused addresses reply → Refused all reply
  by_address reply refused = refused_left (addresses ++ deployments ++ releases) files reply (refused_left (addresses ++ deployments) releases reply (refused_left addresses deployments reply refused))

  pub by_deployment : (reply : Reply) → PassesAll addresses → Refused deployments reply → Refused all reply
  by_deployment reply passes refused = refused_left (addresses ++ deployments ++ releases) files reply (refused_left (addresses ++ deployments) releases reply (refused_right addresses deployments reply passes refused))

  pub by_release : (reply : Reply) → PassesAll addresses → PassesAll deployments → Refused releases reply → Refused all reply
  by_release reply first second refused = refused_left (addresses ++ deployments ++ releases) files reply (refused_right addresses (deployments ++ releases) reply first (refused_right deployments releases reply second refused))

-- an address passes
ok_is_not_err : (target : Target) (x : UrlFault) → ◌≡◌ {A = Result Target UrlFault} (Ok target) (Err x) → ⊥
ok_is_not_err target x e = cc

pub address_passes : (found : Result Target UrlFault) (target : Target) → found ≡ Ok target → PassesAll (address_checks found)
address_passes found target is = (λ bad. ok_is_not_err target BadUrl (sym is ∙ bad), ((λ scheme bad. ok_is_not_err target (NotHttp scheme) (sym is ∙ bad)), tt))
