-- Refusals set no moment.
use Rattle.std.proofs.Common.{◌≡◌, ◌++◌, ap, ℕ, List, Option, Some, None}
use Rattle.std.specs.Prelude.{unwrap_or}
use Rattle.machine.specs.declared.reply.Reply.{Reply}
use Rattle.machine.specs.InstallRow.{address_refusals, deployment_refusals, file_refusals, install_refusals, release_refusals}
use Rattle.machine.specs.Machine.{moment_after, moment_set}
use Rattle.machine.specs.Rows.{Refuses}
use Rattle.machine.specs.Shape.{Shape}
use Rattle.machine.specs.Store.{Session}
use Rattle.machine.proofs.FirstRefusal.{AllGive, give_both, given_reply}

-- the reply sets none
abbrev pub SetsNone : Reply → Type 0
SetsNone reply = moment_set (Some reply) ≡ None

abbrev set : Reply → Option ℕ
set reply = moment_set (Some reply)

module _ (url : List ℕ) (heard : List (List ℕ)) (shape : Shape) where
  address_none : AllGive SetsNone (address_refusals url)
  address_none = ((λ r given. ap set given.1), ((λ r given. ap set given.2), tt))

  deployment_none : AllGive SetsNone (deployment_refusals url heard shape)
  deployment_none = (
    (λ r given. ap set given.3),
    (
      (λ r given. ap set given.2),
      (
        (λ r given. ap set given.2),
        (
          (λ r given. ap set given.2),
          (
            (λ r given. ap set given.1),
            (
              (λ r given. ap set given.1),
              (
                (λ r given. ap set given.1),
                ((λ r given. ap set given.1), ((λ r given. ap set given.2), tt)),
              ),
            ),
          ),
        ),
      ),
    ),
  )

  release_none : AllGive SetsNone (release_refusals url heard shape)
  release_none = (
    (λ r given. ap set given.3),
    (
      (λ r given. ap set given.2),
      (
        (λ r given. ap set given.2),
        (
          (λ r given. ap set given.1),
          (
            (λ r given. ap set given.1),
            (
              (λ r given. ap set given.1),
              ((λ r given. ap set given.2), ((λ r given. ap set given.2), tt)),
            ),
          ),
        ),
      ),
    ),
  )

  file_none : AllGive SetsNone (file_refusals url heard shape)
  file_none = ((λ r given. ap set given.3), tt)

  pub install_none : AllGive SetsNone (install_refusals url heard shape)
  install_none =
      give_both SetsNone (address_refusals url
      ++ deployment_refusals url heard shape
      ++ release_refusals url heard shape)
      (file_refusals url heard shape)
      (give_both SetsNone (address_refusals url
      ++ deployment_refusals url heard shape)
      (release_refusals url heard shape)
      (give_both SetsNone (address_refusals url)
      (deployment_refusals url heard shape) address_none deployment_none)
      release_none) file_none

-- a refused install leaves the moment
pub refusal_moment : (now : ℕ) (url : List ℕ) (heard : List (List ℕ)) (shape : Shape)
    (old : Session) (reply : Reply) (new : Session)
    → Refuses (install_refusals url heard shape) old reply new
    → moment_after now (Some reply) ≡ now
refusal_moment now url heard shape old reply new refuses =
    ap (λ (m : Option ℕ). unwrap_or m now)
    (given_reply SetsNone (install_refusals url heard shape)
    old reply new (install_none url heard shape) refuses)
