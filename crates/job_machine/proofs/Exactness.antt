-- The refusals of lines of jobs are no free choices.
use Rattle.std.proofs.Common.{◌≡◌, ◌∙◌, ◌++◌, sym, ap, subst, ℕ, List, [], ◌∷◌, Option, Some, None, Result, Ok}
use Rattle.std.specs.Prelude.{take}
use Rattle.std.proofs.lemmas.Option.{same_Some}
use Rattle.small_types.specs.declared.target.Target.{Target}
use Rattle.addresses.specs.declared.fault.UrlFault.{UrlFault}
use Rattle.manifests.specs.declared.facts.Application.{Application}
use Rattle.manifests.specs.declared.facts.Deployment.{Deployment}
use Rattle.manifests.specs.Applications.{application_of}
use Rattle.manifests.specs.Deployments.{deployment_of}
use Rattle.machine.specs.declared.reply.Reply.{Reply}
use Rattle.machine.specs.declared.reply.Reply.TheVariants as says
use Rattle.machine.specs.Blocks.{free_blocks}
use Rattle.machine.specs.Installed.{IsProvidedBy}
use Rattle.machine.specs.InstallRow.{OfRelease, address_refusals, deployment_refusals, place_refusals, weight_installed}
use Rattle.machine.specs.Rows.{AreExact, IsExact, Refusal}
use Rattle.machine.specs.Shape.{BareView, Shape}
use Rattle.machine.specs.Weight.{table_room, told_weight}
use Rattle.machine.proofs.FirstRefusal.{exactly-exact, exactly_with-exact}
use Rattle.machine.proofs.GroupFacts.{room_exact}
use Rattle.machine.proofs.InstallExact.{address_exact, deployment_exact, release_exact, text_one}
use Rattle.job_machine.specs.declared.reply.JobReply.TheVariants as tells
use Rattle.job_machine.specs.BeginRow.{begin_refusals, heard_refusals, number_refusals, room_refusals}
use Rattle.job_machine.specs.CommitRow.{IsWeightOf, commit_refusals}
use Rattle.job_machine.specs.GroupBeside.{room_refusals_beside}
use Rattle.job_machine.specs.InstallBeside.{release_refusals_beside}
use Rattle.job_machine.specs.JobLaws.{JobRowsAreExact}
use Rattle.job_machine.specs.Jobs.{BareJob, JobShape, OfOpen, bare_job_at}
use Rattle.job_machine.specs.Needs.{group_need}
use Rattle.job_machine.specs.Replies.{OfJob, OfMachine, as_answer, as_answers}

-- ---- lists of refusals

pub exact_both : {R S : Type 0} (xs ys : List (Refusal R S)) → AreExact xs → AreExact ys
    → AreExact (xs ++ ys)
exact_both [] ys first second = second
exact_both (x ∷ xs) ys first second = (first.0, exact_both xs ys first.1 second)

module _ {S : Type 0} where
  answer_exact : (refusal : Refusal Reply S) → IsExact refusal → IsExact (as_answer refusal)
  answer_exact refusal exact = record {
    settled = λ answer given passes. exact.settled given.0 given.1 passes;
    one = λ a b first second.
        first.2 ∙ ap OfMachine (exact.one first.0 second.0 first.1 second.1) ∙ sym second.2;
  }

  answers_exact : (refusals : List (Refusal Reply S)) → AreExact refusals
      → AreExact (as_answers refusals)
  answers_exact [] exact = tt
  answers_exact (refusal ∷ refusals) exact =
      (answer_exact refusal exact.0, answers_exact refusals exact.1)

-- ---- one release

both_release : {P Q : Deployment → Application → Type 0} (heard : List (List ℕ))
    → OfRelease heard P → OfRelease heard Q → (d : Deployment) × (a : Application) × P d a × Q d a
both_release {P} heard x y =
    let one_d = text_one deployment_of 0 heard x y in
    let one_a = text_one application_of 1 heard x.4 y.4 in (
      y.1,
      y.4.1,
      subst (λ (d : Deployment). P d y.4.1) one_d (subst (P x.1) one_a x.4.4),
      y.4.4,
    )

-- ---- one job

pub some_one : {X : Type 0} (o : Option X) (a b : X) → o ≡ Some a → o ≡ Some b → a ≡ b
some_one o a b first second = same_Some a b (sym first ∙ second)

module _ (number : ℕ) (session : JobShape) where
  open_both : {P Q : BareJob → Type 0} → OfOpen number session P → OfOpen number session Q
      → (job : BareJob) × P job × Q job
  open_both {P} x y =
      let same = some_one (bare_job_at number session.jobs) x.0 y.0 x.1 y.1 in
      (y.0, subst P same x.2, y.2)

-- ---- one weight

target_alike : (a b : Target) → ◌≡◌ {A = Result Target UrlFault} (Ok a) (Ok b) → a ≡ b
target_alike a b e = cc

provider_one : (target one other : Target) (text : Option (List ℕ))
    → IsProvidedBy target text one → IsProvidedBy target text other → one ≡ other
provider_one target one other None first second = first ∙ sym second
provider_one target one other (Some text) first second =
    target_alike one other (sym first ∙ second)

pub weight_one : (shape : Shape) (job : BareJob) (x y : ℕ) → IsWeightOf shape job x
    → IsWeightOf shape job y → x ≡ y
weight_one shape job x y first second =
    first.is
    ∙ ap (λ (p : Target). weight_installed p job.base job.deployment job.application shape)
    (provider_one job.url first.provider second.provider job.deployment.provider first.provided
    second.provided)
    ∙ sym second.is

-- ---- the rows

begin_exact : (url text other : List ℕ) (texts : List (List ℕ)) (session : JobShape)
    → AreExact (begin_refusals url (text ∷ other ∷ texts) session)
begin_exact url text other texts session =
    let heard = text ∷ other ∷ texts in
    let shape = session.shape in
    let release = release_exact url text other texts shape in
    exact_both (number_refusals session ++ as_answers (heard_refusals url heard shape))
    (as_answers (room_refusals url heard shape))
    (exact_both (number_refusals session) (as_answers (heard_refusals url heard shape))
    (exactly-exact _ _, (exactly-exact _ _, tt))
    (answers_exact (heard_refusals url heard shape)
    (exact_both (address_refusals url ++ deployment_refusals url heard shape)
    (take 4 (place_refusals url heard shape))
    (exact_both (address_refusals url) (deployment_refusals url heard shape) (address_exact url)
    (deployment_exact url text (other ∷ texts) shape))
    (release.0, (release.1.0, (release.1.1.0, (release.1.1.1.0, tt)))))))
    (answers_exact (room_refusals url heard shape) (
      exactly-exact _ _,
      (
        exactly_with-exact _ _ (λ x y first second. (
            let both = both_release heard first second in
            ap (λ (n : ℕ). says.Full n (free_blocks shape)) (both.2.0 ∙ sym both.3.0))),
        tt,
      ),
    ))

commit_exact : (number : ℕ) (session : JobShape) → AreExact (commit_refusals number session)
commit_exact number session = (
  exactly-exact _ _,
  (
    exactly_with-exact _ _ (λ x y first second. (
        let both = open_both number session first second in
        ap (λ (n : ℕ). OfJob (tells.NotReady n)) (both.1.0 ∙ sym both.2.0))),
    (
      exactly_with-exact _ _ (λ x y first second. (
          let both = open_both number session first second in
          ap (λ v. OfMachine (says.NotNewer v)) (some_one _ x y both.1.0 both.2.0))),
      (
        exactly_with-exact _ _ (λ x y first second. (
            let both = open_both number session first second in
            ap (λ v. OfMachine (says.BelowMinimum v)) (some_one _ x y both.1.0 both.2.0))),
        (
          exactly-exact _ _,
          (
            exactly-exact _ _,
            (
              exactly-exact _ _,
              (
                exactly-exact _ _,
                (
                  exactly-exact _ _,
                  (
                    exactly_with-exact _ _ (λ x y first second. (
                        let both = open_both number session first second in
                        ap (λ (n : ℕ). OfMachine (says.Full n (free_blocks session.shape)))
                        (both.1.0 ∙ sym both.2.0))),
                    (
                      exactly_with-exact _ _ (λ x y first second. (
                          let both = open_both number session first second in
                          ap
                          (λ (n : ℕ). OfMachine
                          (says.TableFull (told_weight n) (table_room session.shape.room)))
                          (weight_one session.shape both.0 x y both.1.0 both.2.0))),
                      tt,
                    ),
                  ),
                ),
              ),
            ),
          ),
        ),
      ),
    ),
  ),
)

install_exact : (url text other : List ℕ) (texts : List (List ℕ)) (shape : Shape)
    → AreExact (release_refusals_beside url (text ∷ other ∷ texts) shape)
install_exact url text other texts shape =
    let release = release_exact url text other texts shape in (
      release.0,
      (
        release.1.0,
        (
          release.1.1.0,
          (
            release.1.1.1.0,
            (
              release.1.1.1.1.0,
              (
                release.1.1.1.1.1.0,
                (
                  exactly_with-exact _ _ (λ x y first second. (
                      let both = both_release (text ∷ other ∷ texts) first second in
                      ap (λ (n : ℕ). says.Full n (free_blocks shape)) (both.2.0 ∙ sym both.3.0))),
                  (release.1.1.1.1.1.1.1.0, tt),
                ),
              ),
            ),
          ),
        ),
      ),
    )

group_exact : (lease : ℕ) (group : List ℕ) (shape : Shape)
    → AreExact (room_refusals_beside lease group shape)
group_exact lease group shape =
    let room = room_exact lease group shape in (
      room.0,
      (
        room.1.0,
        (
          room.1.1.0,
          (
            exactly_with-exact _ _ (λ x y a b.
                ap (λ (n : ℕ). says.Full n (free_blocks shape))
                (a.3.0 ∙ ap (λ (v : BareView). group_need shape group v.application)
                (some_one _ a.0 b.0 a.1 b.1) ∙ sym b.3.0)),
            (room.1.1.1.1.0, tt),
          ),
        ),
      ),
    )

pub rows_exact : JobRowsAreExact
rows_exact = record {
  begin_numbers = λ session. (exactly-exact _ _, (exactly-exact _ _, tt));
  begin_address = λ url. answers_exact (address_refusals url) (address_exact url);
  begin_deployment = λ url text texts shape.
      answers_exact (deployment_refusals url (text ∷ texts) shape)
      (deployment_exact url text texts shape);
  begin = begin_exact;
  step = λ number session. (exactly-exact _ _, (exactly-exact _ _, tt));
  commit = commit_exact;
  abandon = λ number session. (exactly-exact _ _, tt);
  install_beside = install_exact;
  group_beside = group_exact;
}
