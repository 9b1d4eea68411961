-- Each line of jobs has an answer other than want of memory.
use Rattle.std.proofs.Common.{◌≡◌, ◌≢◌, ◌∙◌, ◌⊎◌, ◌++◌, ◌<◌, ◌≤◌, true, inl, inr, refl, sym, ap, subst, eqb, ℕ, List, [], ◌∷◌, length, map, All, AllPairs, Contains, Option, Some, None, Result, Ok, Err, arith}
use Rattle.std.specs.Prelude.{IfSome, filter, option_and_then, option_map, slice_get}
use Rattle.std.specs.declared.cmp.Ordering.TheVariants.{Less}
use Rattle.std.proofs.lemmas.List.Elements.{All-cons, All-head, All-nil}
use Rattle.std.proofs.lemmas.Bool.{or_left, or_right}
use Rattle.std.proofs.lemmas.Option.{none-some, same_Some}
use Rattle.small_types.specs.declared.limit.Limit.{Limit}
use Rattle.small_types.specs.declared.limit.Limit.TheVariants.{Applications, Views, Files, Locals}
use Rattle.small_types.specs.declared.limits.TheConstants.{APPLICATION_LIMIT, FILE_COUNT_LIMIT, JOB_LIMIT, LOCAL_COUNT_LIMIT, NUMBER_LIMIT, VIEW_LIMIT}
use Rattle.small_types.specs.declared.target.Target.{Target}
use Rattle.addresses.specs.declared.fault.UrlFault.{UrlFault}
use Rattle.addresses.specs.declared.fault.UrlFault.TheVariants as fault
use Rattle.addresses.specs.Address.{target_of_text}
use Rattle.addresses.specs.Join.{file_target_of}
use Rattle.identity.specs.declared.key.Key.{Key}
use Rattle.identity.specs.declared.version.Version.{Version}
use Rattle.identity.specs.Printed.{text_cmp}
use Rattle.identity.specs.Version.{IsBelow}
use Rattle.manifests.specs.declared.facts.FileEntry.{FileEntry}
use Rattle.manifests.specs.Deployments.{deployment_of}
use Rattle.manifests.specs.Facts.{IsProvider}
use Rattle.machine.specs.declared.app.AppState.{AppState}
use Rattle.machine.specs.declared.command.Command.TheVariants.{Install}
use Rattle.machine.specs.declared.reply.Reply.{Reply}
use Rattle.machine.specs.declared.reply.Reply.TheVariants as says
use Rattle.machine.specs.Blocks.{free_blocks}
use Rattle.machine.specs.Current.{current_of, current_version, current_view, data_of, listed_by, view_at}
use Rattle.machine.specs.Entries.{entry_of}
use Rattle.machine.specs.Installed.{IsProvidedBy, with_view}
use Rattle.machine.specs.InstallRow.{IsBelowMinimum, IsNotNewer, IsRefused, LacksEntry, OfDeployment, base_of, file_refusals, files_after, locals_after, release_refusals, weight_installed}
use Rattle.machine.specs.Machine.{Answers}
use Rattle.machine.specs.Migrated.{Migrated}
use Rattle.machine.specs.Minimums.{minimum_of}
use Rattle.machine.specs.Rows.{PassesAll, Refusal, Refuses, exactly, exactly_with}
use Rattle.machine.specs.Shape.{Shape, shape_of}
use Rattle.machine.specs.SoundSession.{IsComing, IsSoundJob, entries_of, wanted_entries}
use Rattle.machine.specs.Store.{Job, Session, Store, empty, session_over}
use Rattle.machine.specs.Valid.{IsView, Ordered}
use Rattle.machine.specs.Views.{DataFile, ListedFile, View, content_key, is_required}
use Rattle.machine.specs.Weight.{IsTooHeavy, table_room, told_weight}
use Rattle.machine.proofs.FirstFound.{find-map}
use Rattle.machine.proofs.Leased.{view_in}
use Rattle.machine.proofs.Lightness.{heavy_or_light}
use Rattle.machine.proofs.Members.{In, all_in, contains_in, filter_in, in_contains, in_either, map_in}
use Rattle.machine.proofs.OneMigration.{migration}
use Rattle.machine.proofs.Unheard.{unheard}
use Rattle.machine.proofs.ViewUse.{in_any}
use Rattle.job_machine.specs.declared.command.JobCommand.{JobCommand}
use Rattle.job_machine.specs.declared.command.JobCommand.TheVariants as calls
use Rattle.job_machine.specs.declared.reply.JobReply.{JobReply}
use Rattle.job_machine.specs.declared.reply.JobReply.TheVariants as tells
use Rattle.job_machine.specs.CommitRow.{IsWeightOf, commit_refusals}
use Rattle.job_machine.specs.JobLaws.{JobIsAnswered, MayBeAnswered}
use Rattle.job_machine.specs.Jobs.{BareJob, JobShape, OfOpen, bare_job, bare_job_at, job_at, job_shape_of, without_job}
use Rattle.job_machine.specs.Needs.{commit_need}
use Rattle.job_machine.specs.Replies.{OfJob, OfMachine, SessionReply}
use Rattle.job_machine.specs.Settled.{IsReachable, SoundSessionWithJobs}
use Rattle.job_machine.proofs.Decided.{AreDecided, Found, below_or_not, decide, equal_or_not, less_or_not, most_or_not, some_or_none, when_decided, with_decided}
use Rattle.job_machine.proofs.Exactness.{weight_one}
use Rattle.job_machine.proofs.JobFiles.{is_wanted}
use Rattle.job_machine.proofs.OpenJobs.{bare_found, job_in}

abbrev IsOther : SessionReply → Type 0
IsOther reply = reply ≢ OfMachine says.Memory

of_job_other : (reply : JobReply) → IsOther (OfJob reply)
of_job_other reply e = cc

-- ---- which job is open

module _ (number : ℕ) (old : Session) where
  none_open : job_at number old.jobs ≡ None
      → bare_job_at number (map bare_job old.jobs) ≡ None
  none_open none =
      find-map bare_job (λ (j : BareJob). eqb j.number number) old.jobs
      ∙ ap (λ (o : Option Job). option_map bare_job o) none

  module _ (job : Job) (found : job_at number old.jobs ≡ Some job) where
    some_open : bare_job_at number (map bare_job old.jobs) ≡ None → ⊥
    some_open none = none-some (bare_job job) (sym none ∙ bare_found number old.jobs job found)

    -- what holds of the open job is that it holds of this one
    of_it : {P : BareJob → Type 0} → P (bare_job job) → OfOpen number (job_shape_of old) P
    of_it holds = (bare_job job, bare_found number old.jobs job found, holds)

    it_is : {P : BareJob → Type 0} → OfOpen number (job_shape_of old) P → P (bare_job job)
    it_is {P} x =
        subst P
        (same_Some x.0 (bare_job job) (sym x.1 ∙ bare_found number old.jobs job found)) x.2

-- ---- abandon

abandon_answered : (now : ℕ) (heard : List (List ℕ)) (old : Session) (number : ℕ)
    → (found : Option Job) → job_at number old.jobs ≡ found
    → JobIsAnswered now heard old (calls.Abandon number)
abandon_answered now heard old number None is = record {
  reply = OfJob tells.NoJob;
  new = old;
  answers = inl (inr (tt, inl ((none_open number old is, refl), refl)));
  other = of_job_other tells.NoJob;
}
abandon_answered now heard old number (Some job) is = record {
  reply = OfJob tells.Abandoned;
  new = record old { jobs = without_job number old.jobs };
  answers = inr ((tt, (some_open number old job is, tt)), (refl, refl));
  other = of_job_other tells.Abandoned;
}

-- ---- step

links_other : (target : Target) → IsOther (OfMachine (says.AllLinks target []))
links_other target e = cc

no_entry : {P : Type 0} (entry : FileEntry) (rest : List FileEntry) → entry ∷ rest ≡ [] → P
no_entry entry rest e = absurd cc

step_left : (now : ℕ) (heard : List (List ℕ)) (old : Session) (number : ℕ) (job : Job)
    → job_at number old.jobs ≡ Some job → IsReachable job
    → (left : List FileEntry) → job.left ≡ left → JobIsAnswered now heard old (calls.Step number)
step_left now heard old number job found reach [] is = record {
  reply = OfJob tells.Done;
  new = old;
  answers = inl (inr (
    tt,
    inr (
      some_open number old job found,
      inl ((of_it number old job found {P = λ j. j.left ≡ []} is, refl), refl),
    ),
  ));
  other = of_job_other tells.Done;
}
step_left now heard old number job found reach (entry ∷ rest) is =
    let address = All-head
    (λ (e : FileEntry). (target : Target)
    × (file_target_of job.base job.deployment.mapped e.name ≡ Ok target)) entry rest
    (subst
    (λ (es : List FileEntry). All
    (λ (e : FileEntry). (target : Target)
    × (file_target_of job.base job.deployment.mapped e.name ≡ Ok target)) es) is reach) in
    record {
      reply = OfMachine (says.AllLinks address.0 []);
      new = old;
      answers = inl (inr (
        tt,
        inr (
          some_open number old job found,
          inr (
            (λ done. no_entry entry rest
                (sym is ∙ it_is number old job found {P = λ j. j.left ≡ []} done)),
            inl (
              (
                says.AllLinks address.0 [],
                (
                  address.0,
                  [],
                  of_it number old job found
                      {P = λ j. (e : FileEntry) × (es : List FileEntry) × (j.left ≡ e ∷ es)
                      × (file_target_of j.base j.deployment.mapped e.name ≡ Ok address.0)}
                      (entry, rest, is, address.1),
                  refl,
                ),
                refl,
              ),
              refl,
            ),
          ),
        ),
      ));
      other = links_other address.0;
    }

step_answered : (now : ℕ) (heard : List (List ℕ)) (old : Session) (number : ℕ)
    → All IsReachable old.jobs → (found : Option Job) → job_at number old.jobs ≡ found
    → JobIsAnswered now heard old (calls.Step number)
step_answered now heard old number each None is = record {
  reply = OfJob tells.NoJob;
  new = old;
  answers = inl (inr (tt, inl ((none_open number old is, refl), refl)));
  other = of_job_other tells.NoJob;
}
step_answered now heard old number each (Some job) is =
    step_left now heard old number job is
    (all_in IsReachable old.jobs job each (job_in number old.jobs job is).0) job.left refl

-- ---- the files of a job that has none left

-- files of entries that are all there
gather : (job : Job) (entries : List FileEntry)
    → ((e : FileEntry) → In e entries → In e (map (λ (f : ListedFile). f.entry) job.files))
    → (files : List ListedFile) × (map (λ (f : ListedFile). f.entry) files ≡ entries)
    × All (Contains job.files) files
gather job [] there = ([], refl, All-nil (Contains job.files))
gather job (entry ∷ entries) there =
    let rest = gather job entries (λ e of. there e (inr of)) in
    let file = map_in (λ (f : ListedFile). f.entry) job.files entry (there entry (inl refl)) in (
      file.0 ∷ rest.0,
      ap (λ (e : FileEntry). e ∷ map (λ (f : ListedFile). f.entry) rest.0) file.2
          ∙ ap (λ (es : List FileEntry). entry ∷ es) rest.1,
      All-cons (Contains job.files) file.0 rest.0 (contains_in job.files file.0 file.1) rest.2,
    )

-- each file that it wants is there
came : (job : Job) → IsSoundJob job → job.left ≡ [] → (e : FileEntry)
    → In e (wanted_entries job.application) → In e (map (λ (f : ListedFile). f.entry) job.files)
came job its none e wanted = by (all_in (IsComing job) (wanted_entries job.application) e its.each wanted)
  where
    nothing : (x : FileEntry) → In x job.left → ⊥
    nothing x there = subst (λ (es : List FileEntry). In x es) none there

    either : In e job.left ⊎ In e (map (λ (f : ListedFile). f.entry) job.files)
        → In e (map (λ (f : ListedFile). f.entry) job.files)
    either (inl left) = absurd (nothing e left)
    either (inr has) = has

    by : IsComing job e → In e (map (λ (f : ListedFile). f.entry) job.files)
    by (inl known) =
        either (in_either job.left (map (λ (f : ListedFile). f.entry) job.files) e
        (in_contains (entries_of job) e known))
    by (inr content) =
        let of = in_any
        (λ (o : FileEntry). (is_required o ≡ true) × (content_key o ≡ content_key e)) job.left
        content.1 in
        absurd (nothing of.0 of.1)

-- ---- the data files of the current view are in order

abbrev InOrder : Option View → Type 0
InOrder view = AllPairs (λ (f g : DataFile). text_cmp f.name g.name ≡ Less) (data_of view)

order_by : (old : Store) → Ordered old → (number : ℕ) (view : Option View)
    → view_at number old.views ≡ view → InOrder view
order_by old was number None is = λ i j d lt within. absurd (omega arith)
order_by old was number (Some view) is =
    (all_in IsView old.views view was.views (view_in number old.views view is).0).data_order

order_then : (old : Store) → Ordered old → (number : Option ℕ)
    → InOrder (option_and_then (λ (n : ℕ). view_at n old.views) number)
order_then old was None = λ i j d lt within. absurd (omega arith)
order_then old was (Some number) = order_by old was number (view_at number old.views) refl

-- ---- its provider

provider_of : (url : Target) (text : Option (List ℕ)) → IfSome text IsProvider
    → (provider : Target) × IsProvidedBy url text provider
provider_of url None is = (url, refl)
provider_of url (Some text) is = (is.target, is.address)

-- ---- commit

left_other : (left : ℕ) → IsOther (OfJob (tells.NotReady left))
left_other left e = cc

newer_other : (have : Version) → IsOther (OfMachine (says.NotNewer have))
newer_other have e = cc

minimum_other : (minimum : Version) → IsOther (OfMachine (says.BelowMinimum minimum))
minimum_other minimum e = cc

many_other : (what : Limit) (most : ℕ) → IsOther (OfMachine (says.TooMany what most))
many_other what most e = cc

spent_other : (next : ℕ) → IsOther (OfMachine (says.Spent next))
spent_other next e = cc

full_other : (need free : ℕ) → IsOther (OfMachine (says.Full need free))
full_other need free e = cc

heavy_other : (weight room : ℕ) → IsOther (OfMachine (says.TableFull weight room))
heavy_other weight room e = cc

installed_other : (key : Key) (version : Version) (view : ℕ)
    → IsOther (OfMachine (says.Installed key version view))
installed_other key version view e = cc

module _ (now : ℕ) (heard : List (List ℕ)) (old : Session) (number : ℕ)
    (was : SoundSessionWithJobs old) (job : Job) (found : job_at number old.jobs ≡ Some job) where
  abbrev shape : Shape
  shape = shape_of old

  abbrev session : JobShape
  session = job_shape_of old

  its : IsSoundJob job
  its = all_in IsSoundJob old.jobs job was.sound.jobs (job_in number old.jobs job found).0

  provided : (provider : Target) × IsProvidedBy job.url job.deployment.provider provider
  provided = provider_of job.url job.deployment.provider its.deployment.facts.provider

  -- what is found out of the job is so of the open job
  open_with : {A : Type 0} (P : A → BareJob → Type 0)
      → ((x : A) × P x (bare_job job)) ⊎ ((x : A) → P x (bare_job job) → ⊥)
      → ((x : A) × OfOpen number session (P x)) ⊎ ((x : A) → OfOpen number session (P x) → ⊥)
  open_with P (inl some) =
      inl (some.0, of_it number old job found {P = P some.0} some.1)
  open_with P (inr none) = inr (λ x of. none x (it_is number old job found {P = P x} of))

  open_when : (P : BareJob → Type 0) → P (bare_job job) ⊎ ¬ P (bare_job job)
      → OfOpen number session P ⊎ ¬ OfOpen number session P
  open_when P (inl is) = inl (of_it number old job found {P = P} is)
  open_when P (inr not) = inr (λ of. not (it_is number old job found {P = P} of))

  ready : ((n : ℕ) × ((n ≡ length job.left) × (0 < n)))
      ⊎ ((n : ℕ) → (n ≡ length job.left) × (0 < n) → ⊥)
  ready = by (less_or_not 0 (length job.left))
    where
      by : (0 < length job.left) ⊎ ¬ (0 < length job.left)
          → ((n : ℕ) × ((n ≡ length job.left) × (0 < n)))
          ⊎ ((n : ℕ) → (n ≡ length job.left) × (0 < n) → ⊥)
      by (inl some) = inl (length job.left, (refl, some))
      by (inr none) = inr (λ n is. none (subst (λ (m : ℕ). 0 < m) is.0 is.1))

  newer : ((have : Version) × IsNotNewer shape job.deployment have)
      ⊎ ((have : Version) → IsNotNewer shape job.deployment have → ⊥)
  newer = by (some_or_none (current_version job.deployment.identity.key shape))
    where
      compared : (v : Version) → current_version job.deployment.identity.key shape ≡ Some v
          → IsBelow v job.deployment.identity.version ⊎ ¬ IsBelow v job.deployment.identity.version
          → ((have : Version) × IsNotNewer shape job.deployment have)
          ⊎ ((have : Version) → IsNotNewer shape job.deployment have → ⊥)
      compared v is (inl below) =
          inr (λ have x. x.1 (subst (λ (w : Version). IsBelow w job.deployment.identity.version)
          (same_Some v have (sym is ∙ x.0)) below))
      compared v is (inr not) = inl (v, (is, not))

      by : ((v : Version) × (current_version job.deployment.identity.key shape ≡ Some v))
          ⊎ (current_version job.deployment.identity.key shape ≡ None)
          → ((have : Version) × IsNotNewer shape job.deployment have)
          ⊎ ((have : Version) → IsNotNewer shape job.deployment have → ⊥)
      by (inl some) =
          compared some.0 some.1 (below_or_not some.0 job.deployment.identity.version)
      by (inr none) = inr (λ have x. none-some have (sym none ∙ x.0))

  reached : ((minimum : Version) × IsBelowMinimum shape job.deployment minimum)
      ⊎ ((minimum : Version) → IsBelowMinimum shape job.deployment minimum → ⊥)
  reached = by (some_or_none (minimum_of job.deployment.identity.key shape.apps))
    where
      compared : (m : Version) → minimum_of job.deployment.identity.key shape.apps ≡ Some m
          → IsBelow job.deployment.identity.version m ⊎ ¬ IsBelow job.deployment.identity.version m
          → ((minimum : Version) × IsBelowMinimum shape job.deployment minimum)
          ⊎ ((minimum : Version) → IsBelowMinimum shape job.deployment minimum → ⊥)
      compared m is (inl below) = inl (m, (is, below))
      compared m is (inr not) =
          inr (λ minimum x. not (subst (λ (w : Version). IsBelow job.deployment.identity.version w)
          (sym (same_Some m minimum (sym is ∙ x.0))) x.1))

      by : ((m : Version) × (minimum_of job.deployment.identity.key shape.apps ≡ Some m))
          ⊎ (minimum_of job.deployment.identity.key shape.apps ≡ None)
          → ((minimum : Version) × IsBelowMinimum shape job.deployment minimum)
          ⊎ ((minimum : Version) → IsBelowMinimum shape job.deployment minimum → ⊥)
      by (inl some) =
          compared some.0 some.1 (below_or_not job.deployment.identity.version some.0)
      by (inr none) = inr (λ minimum x. none-some minimum (sym none ∙ x.0))

  has_entry : LacksEntry shape job.deployment ⊎ ¬ LacksEntry shape job.deployment
  has_entry = by (some_or_none (entry_of job.deployment.identity.key shape.apps))
    where
      counted : entry_of job.deployment.identity.key shape.apps ≡ None
          → (APPLICATION_LIMIT ≤ length shape.apps) ⊎ ¬ (APPLICATION_LIMIT ≤ length shape.apps)
          → LacksEntry shape job.deployment ⊎ ¬ LacksEntry shape job.deployment
      counted none (inl many) = inl (none, many)
      counted none (inr few) = inr (λ lacks. few lacks.1)

      by : ((app : AppState) × (entry_of job.deployment.identity.key shape.apps ≡ Some app))
          ⊎ (entry_of job.deployment.identity.key shape.apps ≡ None)
          → LacksEntry shape job.deployment ⊎ ¬ LacksEntry shape job.deployment
      by (inl some) = inr (λ lacks. none-some some.0 (sym lacks.0 ∙ some.1))
      by (inr none) = counted none (most_or_not APPLICATION_LIMIT (length shape.apps))

  abbrev need : ℕ
  need = commit_need (shape_of old) job.deployment

  roomy : ((n : ℕ) × ((n ≡ need) × (free_blocks shape < n)))
      ⊎ ((n : ℕ) → (n ≡ need) × (free_blocks shape < n) → ⊥)
  roomy = by (less_or_not (free_blocks shape) need)
    where
      by : (free_blocks shape < need) ⊎ ¬ (free_blocks shape < need)
          → ((n : ℕ) × ((n ≡ need) × (free_blocks shape < n)))
          ⊎ ((n : ℕ) → (n ≡ need) × (free_blocks shape < n) → ⊥)
      by (inl less) = inl (need, (refl, less))
      by (inr not) = inr (λ n x. not (subst (λ (m : ℕ). free_blocks shape < m) x.0 x.1))

  new_weight : ℕ
  new_weight = weight_installed provided.0 job.base job.deployment job.application (shape_of old)

  is_weight : IsWeightOf (shape_of old) (bare_job job) new_weight
  unfolding new_weight
  is_weight = record { provider = provided.0; provided = provided.1; is = refl }

  light : ((n : ℕ) × (IsWeightOf shape (bare_job job) n × IsTooHeavy shape.room n))
      ⊎ ((n : ℕ) → IsWeightOf shape (bare_job job) n × IsTooHeavy shape.room n → ⊥)
  light = by (heavy_or_light shape.room new_weight)
    where
      by : IsTooHeavy shape.room new_weight ⊎ (IsTooHeavy shape.room new_weight → ⊥)
          → ((n : ℕ) × (IsWeightOf shape (bare_job job) n × IsTooHeavy shape.room n))
          ⊎ ((n : ℕ) → IsWeightOf shape (bare_job job) n × IsTooHeavy shape.room n → ⊥)
      by (inl heavy) = inl (new_weight, (is_weight, heavy))
      by (inr not) =
          inr (λ n x. not (subst (λ (m : ℕ). IsTooHeavy shape.room m)
          (weight_one shape (bare_job job) n new_weight x.0 is_weight) x.1))

  decided : AreDecided IsOther (commit_refusals number (job_shape_of old))
  decided = (
    when_decided IsOther _ _ (of_job_other tells.NoJob) (inr (some_open number old job found)),
    (
      with_decided IsOther _ _ left_other
          (open_with (λ n j. (n ≡ length j.left) × (0 < n)) ready),
      (
        with_decided IsOther _ _ newer_other
            (open_with (λ have j. IsNotNewer shape j.deployment have) newer),
        (
          with_decided IsOther _ _ minimum_other
              (open_with (λ minimum j. IsBelowMinimum shape j.deployment minimum) reached),
          (
            when_decided IsOther _ _ (many_other Applications APPLICATION_LIMIT)
                (open_when (λ j. LacksEntry shape j.deployment) has_entry),
            (
              when_decided IsOther _ _ (many_other Views VIEW_LIMIT)
                  (most_or_not VIEW_LIMIT (length shape.views)),
              (
                when_decided IsOther _ _ (many_other Files FILE_COUNT_LIMIT)
                    (open_when (λ j. FILE_COUNT_LIMIT < files_after shape j.application)
                    (less_or_not FILE_COUNT_LIMIT (files_after shape job.application))),
                (
                  when_decided IsOther _ _ (many_other Locals LOCAL_COUNT_LIMIT)
                      (open_when
                      (λ j. LOCAL_COUNT_LIMIT < locals_after shape j.deployment j.application)
                      (less_or_not LOCAL_COUNT_LIMIT
                      (locals_after shape job.deployment job.application))),
                  (
                    when_decided IsOther _ _ (spent_other shape.next_view)
                        (equal_or_not shape.next_view NUMBER_LIMIT),
                    (
                      with_decided IsOther _ _ (λ n. full_other n (free_blocks shape))
                          (open_with
                          (λ n j. (n ≡ commit_need shape j.deployment) × (free_blocks shape < n))
                          roomy),
                      (
                        with_decided IsOther _ _
                            (λ n. heavy_other (told_weight n) (table_room shape.room))
                            (open_with (λ n j. IsWeightOf shape j n × IsTooHeavy shape.room n) light),
                        tt,
                      ),
                    ),
                  ),
                ),
              ),
            ),
          ),
        ),
      ),
    ),
  )

  -- ---- it installs

  module _ (passes : PassesAll (commit_refusals number (job_shape_of old))) where
    none_left : job.left ≡ []
    none_left = by job.left refl
      where
        by : (left : List FileEntry) → job.left ≡ left → job.left ≡ []
        by [] is = is
        by (entry ∷ rest) is =
            absurd (passes.1.0 (length job.left)
            (of_it number old job found
            {P = λ j. (length job.left ≡ length j.left) × (0 < length job.left)}
            (refl, (let some = ap length is in omega (arith, some)))))

    files : (fs : List ListedFile)
        × (map (λ (f : ListedFile). f.entry) fs ≡ filter is_required job.application.files)
        × All (Contains job.files) fs
    files =
        gather job (filter is_required job.application.files) (λ e of. (
        let there = filter_in is_required job.application.files e of in
        came job its none_left e (is_wanted job.application e there.1
        (or_left (is_required e) e.local there.0))))

    originals : (fs : List ListedFile)
        × (map (λ (f : ListedFile). f.entry) fs
        ≡ filter (λ (e : FileEntry). e.local) job.application.files)
        × All (Contains job.files) fs
    originals =
        gather job (filter (λ (e : FileEntry). e.local) job.application.files) (λ e of. (
        let there = filter_in (λ (x : FileEntry). x.local) job.application.files e of in
        came job its none_left e (is_wanted job.application e there.1
        (or_right (is_required e) e.local there.0))))

    abbrev view : Option View
    view = current_view job.deployment.identity.key old.store

    made : (data_files : List DataFile)
        × Migrated (data_of view) (listed_by view) job.application.files originals.0 data_files
    made =
        migration (data_of view) (listed_by view) job.application originals.0
        (order_then old.store was.sound.store.valid.ordered
        (current_of job.deployment.identity.key old.store.apps))
        its.application.facts originals.1

    abbrev later : Store
    later =
        with_view provided.0 job.base job.deployment job.application files.0 made.0 now old.store

    committed : JobIsAnswered now heard old (calls.Commit number)
    committed = record {
      reply = OfMachine (says.Installed job.deployment.identity.key
          job.deployment.identity.version old.store.next_view);
      new = record old { store = later; jobs = without_job number old.jobs };
      answers = inr (
        (tt, passes),
        record {
          job = job;
          found = found;
          files = files.0;
          originals = originals.0;
          of_job = record {
            required = files.1;
            deployed = originals.1;
            had = files.2;
            had_data = originals.2;
          };
          store = later;
          installed = record {
            provider = provided.0;
            provided = provided.1;
            data_files = made.0;
            migrated = made.1;
            is = refl;
          };
          is = refl;
          replied = refl;
        },
      );
      other = installed_other job.deployment.identity.key job.deployment.identity.version
          old.store.next_view;
    }

  commit_found : JobIsAnswered now heard old (calls.Commit number)
  commit_found = by (decide IsOther (commit_refusals number (job_shape_of old)) old decided)
    where
      by : Found IsOther (commit_refusals number (job_shape_of old)) old
          → JobIsAnswered now heard old (calls.Commit number)
      by (inl given) = record {
        reply = given.0;
        new = given.1;
        answers = inl (inr (tt, given.2));
        other = given.3;
      }
      by (inr passes) = committed passes

commit_answered : (now : ℕ) (heard : List (List ℕ)) (old : Session) (number : ℕ)
    → SoundSessionWithJobs old → (found : Option Job) → job_at number old.jobs ≡ found
    → JobIsAnswered now heard old (calls.Commit number)
commit_answered now heard old number was None is = record {
  reply = OfJob tells.NoJob;
  new = old;
  answers = inl (inr (tt, inl ((none_open number old is, refl), refl)));
  other = of_job_other tells.NoJob;
}
commit_answered now heard old number was (Some job) is =
    commit_found now heard old number was job is

-- ---- begin

-- an address is read, or refused: no reading of it finds no memory
abbrev pub IsRead : List ℕ → Type 0
IsRead url =
    (target_of_text url ≡ Err fault.BadUrl)
    ⊎ ((scheme : List ℕ) × (target_of_text url ≡ Err (fault.NotHttp scheme)))
    ⊎ ((target : Target) × (target_of_text url ≡ Ok target))

nothing_heard : {P : Type 0} (place : ℕ) (text : List ℕ)
    → slice_get {X = List ℕ} [] place ≡ Some text → P
nothing_heard place text e = absurd cc

-- none of them is given
abbrev AreNever : {R S : Type 0} → List (Refusal R S) → Type 0
AreNever [] = Unit {0}
AreNever {R} (refusal ∷ refusals) = ((reply : R) → refusal.gives reply → ⊥) × AreNever refusals

never_given : {R S : Type 0} (refusals : List (Refusal R S)) (old : S) (reply : R) (new : S)
    → AreNever refusals → Refuses refusals old reply new → ⊥
never_given [] old reply new each given = given
never_given (refusal ∷ refusals) old reply new each (inl given) = each.0 reply given.0
never_given (refusal ∷ refusals) old reply new each (inr (passed, given)) =
    never_given refusals old reply new each.1 given

abbrev bare : Session
bare = session_over (empty (record { blocks = 1; half = 0 }))

-- over an empty store an install that hears nothing gives no refusal behind that
abbrev later_refusals : List ℕ → List (Refusal Reply Session)
later_refusals url =
    exactly_with (IsRefused deployment_of 0 []) (λ reason. says.Manifest reason)
    ∷ exactly_with (λ have. OfDeployment [] (λ d. IsNotNewer (shape_of bare) d have))
    (λ have. says.NotNewer have)
    ∷ exactly_with (λ minimum. OfDeployment [] (λ d. IsBelowMinimum (shape_of bare) d minimum))
    (λ minimum. says.BelowMinimum minimum)
    ∷ exactly (OfDeployment [] (LacksEntry (shape_of bare))) (says.TooMany Applications APPLICATION_LIMIT)
    ∷ exactly (VIEW_LIMIT ≤ length (shape_of bare).views) (says.TooMany Views VIEW_LIMIT)
    ∷ exactly ((shape_of bare).next_view ≡ NUMBER_LIMIT) (says.Spent (shape_of bare).next_view)
    ∷ exactly (OfDeployment [] (λ d. base_of url d ≡ Err fault.BadUrl)) says.BadUrl
    ∷ exactly_with (λ scheme. OfDeployment [] (λ d. base_of url d ≡ Err (fault.NotHttp scheme)))
    (λ scheme. says.NotHttp)
    ∷ release_refusals url [] (shape_of bare) ++ file_refusals url [] (shape_of bare)

later_never : (url : List ℕ) → AreNever (later_refusals url)
later_never url = (
  (λ reply x. nothing_heard 0 x.1.0 x.1.1),
  (
    (λ reply x. nothing_heard 0 x.1.0 x.1.2),
    (
      (λ reply x. nothing_heard 0 x.1.0 x.1.2),
      (
        (λ reply x. nothing_heard 0 x.0.0 x.0.2),
        (
          (λ reply x. absurd (let most = x.0 in omega (arith, most))),
          (
            (λ reply x. absurd (let is = x.0 in omega (arith, is))),
            (
              (λ reply x. nothing_heard 0 x.0.0 x.0.2),
              (
                (λ reply x. nothing_heard 0 x.1.0 x.1.2),
                (
                  (λ reply x. nothing_heard 0 x.2.0.0 x.2.0.2),
                  (
                    (λ reply x. nothing_heard 1 x.1.0 x.1.1),
                    (
                      (λ reply x. nothing_heard 0 x.1.0.0 x.1.0.2),
                      (
                        (λ reply x. nothing_heard 0 x.0.0 x.0.2),
                        (
                          (λ reply x. nothing_heard 0 x.0.0 x.0.2),
                          (
                            (λ reply x. nothing_heard 0 x.0.0 x.0.2),
                            (
                              (λ reply x. nothing_heard 0 x.1.0 x.1.2),
                              (
                                (λ reply x. nothing_heard 0 x.1.0 x.1.2),
                                (
                                  (λ reply x. nothing_heard 0 x.2.0 x.2.2),
                                  tt,
                                ),
                              ),
                            ),
                          ),
                        ),
                      ),
                    ),
                  ),
                ),
              ),
            ),
          ),
        ),
      ),
    ),
  ),
)

-- The machine has an answer to an install that hears nothing. Over an empty store it is one of
-- these three.
pub address_read : (url : List ℕ) → IsRead url
address_read url =
    let of = unheard 0 bare url (target_of_text url) refl in by of.reply of.new of.other of.answers
  where
    by : (reply : Reply) (new : Session) → reply ≢ says.Memory
        → Answers 0 [] bare (Install url) reply new → IsRead url
    by reply new other (inl (inl memory)) = absurd (other memory.0)
    by reply new other (inl (inr (first, inl bad))) = inl bad.0.0
    by reply new other (inl (inr (first, inr (second, inl scheme)))) =
        inr (inl (scheme.0.0, scheme.0.1))
    by reply new other (inl (inr (first, inr (second, inr (third, inl links))))) =
        inr (inr (links.0.0, links.0.2.0))
    by reply new other (inl (inr (first, inr (second, inr (third, inr (fourth, rest)))))) =
        absurd (never_given (later_refusals url) bare reply new (later_never url) rest)
    by reply new other (inr (passed, done)) = nothing_heard 0 done.told.0 done.told.2

begin_links : (now : ℕ) (old : Session) (url : List ℕ)
    → (JOB_LIMIT ≤ length (job_shape_of old).jobs → ⊥) → (old.next_job ≡ NUMBER_LIMIT → ⊥)
    → IsRead url → JobIsAnswered now [] old (calls.Begin url)
begin_links now old url place next (inl bad) = record {
  reply = OfMachine says.BadUrl;
  new = old;
  answers = inl (inr (
    tt,
    inr (
      place,
      inr (
        next,
        inl ((says.BadUrl, (bad, refl), refl), refl),
      ),
    ),
  ));
  other = bad_other;
}
  where
    bad_other : IsOther (OfMachine says.BadUrl)
    bad_other e = cc
begin_links now old url place next (inr (inl other)) = record {
  reply = OfMachine says.NotHttp;
  new = old;
  answers = inl (inr (
    tt,
    inr (
      place,
      inr (
        next,
        inr (
          (λ bad. clash other.0 (sym other.1 ∙ bad)),
          inl ((says.NotHttp, (other.0, other.1, refl), refl), refl),
        ),
      ),
    ),
  ));
  other = not_other;
}
  where
    clash : (scheme : List ℕ)
        → ◌≡◌ {A = Result Target UrlFault} (Err (fault.NotHttp scheme)) (Err fault.BadUrl) → ⊥
    clash scheme e = cc

    not_other : IsOther (OfMachine says.NotHttp)
    not_other e = cc
begin_links now old url place next (inr (inr read)) = record {
  reply = OfMachine (says.AllLinks read.0 []);
  new = old;
  answers = inl (inr (
    tt,
    inr (
      place,
      inr (
        next,
        inr (
          (λ bad. no_bad read.0 (sym read.1 ∙ bad)),
          inr (
            (λ scheme other. no_scheme read.0 scheme (sym read.1 ∙ other)),
            inl ((says.AllLinks read.0 [], (read.0, [], (read.1, refl), refl), refl), refl),
          ),
        ),
      ),
    ),
  ));
  other = links_other read.0;
}
  where
    no_bad : (target : Target)
        → ◌≡◌ {A = Result Target UrlFault} (Ok target) (Err fault.BadUrl) → ⊥
    no_bad target e = cc

    no_scheme : (target : Target) (scheme : List ℕ)
        → ◌≡◌ {A = Result Target UrlFault} (Ok target) (Err (fault.NotHttp scheme)) → ⊥
    no_scheme target scheme e = cc

spent_no : (next : ℕ) → IsOther (OfMachine (says.Spent next))
spent_no next e = cc

begin_answered : (now : ℕ) (old : Session) (url : List ℕ) → IsRead url
    → JobIsAnswered now [] old (calls.Begin url)
begin_answered now old url read =
    by (most_or_not JOB_LIMIT (length (job_shape_of old).jobs))
    (equal_or_not old.next_job NUMBER_LIMIT)
  where
    by : (JOB_LIMIT ≤ length (job_shape_of old).jobs)
        ⊎ ¬ (JOB_LIMIT ≤ length (job_shape_of old).jobs)
        → (old.next_job ≡ NUMBER_LIMIT) ⊎ ¬ (old.next_job ≡ NUMBER_LIMIT)
        → JobIsAnswered now [] old (calls.Begin url)
    by (inl full) other = record {
      reply = OfJob tells.JobsFull;
      new = old;
      answers = inl (inr (tt, inl ((full, refl), refl)));
      other = of_job_other tells.JobsFull;
    }
    by (inr place) (inl spent) = record {
      reply = OfMachine (says.Spent old.next_job);
      new = old;
      answers = inl (inr (tt, inr (place, inl ((spent, refl), refl))));
      other = spent_no old.next_job;
    }
    by (inr place) (inr next) = begin_links now old url place next read

-- ---- each line

pub job_answered : (now : ℕ) (heard : List (List ℕ)) (old : Session) (command : JobCommand)
    → SoundSessionWithJobs old → All IsReachable old.jobs → MayBeAnswered command heard
    → JobIsAnswered now heard old command
job_answered now heard old (calls.Begin url) was each may =
    subst (λ (texts : List (List ℕ)). JobIsAnswered now texts old (calls.Begin url)) (sym may)
    (begin_answered now old url (address_read url))
job_answered now heard old (calls.Step number) was each may =
    step_answered now heard old number each (job_at number old.jobs) refl
job_answered now heard old (calls.Commit number) was each may =
    commit_answered now heard old number was (job_at number old.jobs) refl
job_answered now heard old (calls.Abandon number) was each may =
    abandon_answered now heard old number (job_at number old.jobs) refl
