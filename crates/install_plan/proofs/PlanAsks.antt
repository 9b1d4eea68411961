-- The end of a line that asked for files.
use Rattle.std.proofs.Common.{◌≡◌, ◌∙◌, ◌++◌, inl, inr, refl, sym, ap, subst, ℕ, List, [], ◌∷◌, map, Option, Some, None, Result, Ok, append_assoc}
use Rattle.std.specs.Prelude.{Any, IfSome, slice_get}
use Rattle.std.proofs.lemmas.List.{append-nil, map-append}
use Rattle.small_types.specs.declared.limits.TheConstants.{MANIFEST_LIMIT}
use Rattle.small_types.specs.declared.target.Target.{Target}
use Rattle.addresses.specs.declared.fault.UrlFault.{UrlFault}
use Rattle.addresses.specs.Join.{file_target_of}
use Rattle.causes.specs.declared.cause.Cause.{Cause}
use Rattle.identity.specs.declared.key.Key.{Key}
use Rattle.identity.specs.declared.version.Version.{Version}
use Rattle.digest_list.specs.declared.digest.Digest.{Digest}
use Rattle.digest_list.specs.Matches.{Matches}
use Rattle.manifests.specs.declared.facts.Application.{Application}
use Rattle.manifests.specs.declared.facts.Deployment.{Deployment}
use Rattle.manifests.specs.declared.facts.FileEntry.{FileEntry}
use Rattle.machine.specs.declared.reply.Reply.{Reply}
use Rattle.machine.specs.declared.reply.Reply.TheVariants.{AllLinks, Installed, Memory}
use Rattle.machine.specs.InstallRow.{OfRelease, OfWanted, base_of, address_refusals, deployment_refusals, file_refusals, install_refusals, release_refusals}
use Rattle.machine.specs.Rows.{PassesAll, Refusal, Refuses}
use Rattle.machine.specs.Shape.{Shape}
use Rattle.machine.specs.Store.{Session}
use Rattle.machine.specs.Wanted.{wanted}
use Rattle.machine.proofs.Members.{In, contains_in, in_right}
use Rattle.links.specs.Links.{LinksState}
use Rattle.fetcher.specs.Fetched.{Kept, KeptBut}
use Rattle.fetcher.specs.Given.{FitsText}
use Rattle.fetcher.proofs.Liars.{but_then, but_weaker}
use Rattle.fetcher.proofs.Sequence.{kept_then}
use Rattle.install_plan.specs.declared.plan.InstallPlan.{InstallPlan}
use Rattle.install_plan.specs.declared.plan.WantedFile.{WantedFile}
use Rattle.install_plan.specs.FetchedFiles.{IsFileUngiven, IsListedIn, IsStopped, Stops, StopsAt, addresses}
use Rattle.install_plan.specs.InstallHeard.{InstallHeard, IsApplicationText, IsDeploymentText, IsListedBy, IsListedFor, LacksFile, LacksTarget, InstallServed}
use Rattle.install_plan.specs.Plans.{IsPlanned, IsRefused, targets_of}
use Rattle.install_plan.proofs.Downs.{counts_none, file_counts}
use Rattle.install_plan.proofs.WantedPlaces.{IsAmong, among, given_at}
use Rattle.install_plan.proofs.PlanTargets.{plan_asks, plan_asks_only}
use Rattle.install_plan.proofs.Extends.{from_on}
use Rattle.install_plan.proofs.Fetches.{all_from, lack_from}
use Rattle.install_plan.proofs.ListedFiles.{listed_among}
use Rattle.install_plan.proofs.Told.{base_is, release_map}
use Rattle.install_plan.proofs.Wants.{in_any}

some_map : {X : Type 0} (P Q : X → Type 0) (o : Option X) → ((x : X) → P x → Q x) → IfSome o P → IfSome o Q
some_map P Q None each is = tt
some_map P Q (Some x) each is = each x is

passed_over : {R S : Type 0} (xs ys : List (Refusal R S)) (old : S) (reply : R) (new : S) → PassesAll xs → Refuses ys old reply new → Refuses (xs ++ ys) old reply new
passed_over [] ys old reply new passes refuses = refuses
passed_over (x ∷ xs) ys old reply new passes refuses = inr (passes.0, passed_over xs ys old reply new passes.1 refuses)

-- both texts were heard
lacks_file : (shape : Shape) (url : List ℕ) (texts : List (List ℕ)) (a c : LinksState) (asked : List Target) (named : Target) (reasons : List Cause) → OfRelease texts (LacksFile shape url a c asked named reasons) → LacksTarget shape url texts a c asked named reasons
lacks_file shape url [] a c asked named reasons lacks = absurd (no_text lacks.0 lacks.2)
  where
    no_text : (text : List ℕ) → ◌≡◌ {A = Option (List ℕ)} None (Some text) → ⊥
    no_text text e = cc
lacks_file shape url (text ∷ []) a c asked named reasons lacks = absurd (no_text lacks.4.0 lacks.4.2)
  where
    no_text : (text : List ℕ) → ◌≡◌ {A = Option (List ℕ)} None (Some text) → ⊥
    no_text text e = cc
lacks_file shape url (text ∷ other ∷ others) a c asked named reasons lacks = lacks

module _ (shape : Shape) (url : List ℕ) (texts : List (List ℕ)) (a b c : LinksState) (plan : InstallPlan) (planned : IsPlanned shape url texts a b plan) (but : KeptBut (IsListedIn plan.application.files plan.wanted) b c) where
  abbrev one : Kept a b
  one = planned.hearing.kept.kept

  abbrev kept : Kept b c
  kept = but.kept

  of_release : {P : Deployment → Application → Type 0} → P plan.deployment plan.application → OfRelease texts P
  of_release {P} holds = release_map {Q = P} texts (λ x y same. subst (λ (z : Deployment). P z y) (sym same.0) (subst (P plan.deployment) (sym same.1) holds)) planned.is.told

  deployment_on : (text : List ℕ) → IsDeploymentText url a b text → IsDeploymentText url a c text
  deployment_on text is = (is.0, is.1, from_on a b c one kept (FitsText MANIFEST_LIMIT) is.0 text is.2)

  application_on : (text : List ℕ) → IsApplicationText url texts a b text → IsApplicationText url texts a c text
  application_on text is = (is.0, is.1, is.2, is.3, (is.4.0, is.4.1, from_on a b c one kept (Matches is.1.app_list is.1.app_size) is.4.0 text is.4.2))

  -- those that are gone gave other bytes than a wanted file
  listed_file : (t : Target) (l : List Digest) (s : ℕ) → IsListedIn plan.application.files plan.wanted t l s → IsListedBy shape url texts t l s
  listed_file t l s is =
      let entry = listed_among plan.application.files (λ (e : FileEntry). file_target_of plan.base plan.deployment.mapped e.name)
      (wanted shape.views plan.application) plan.wanted planned.is.places planned.is.targets t l s is in
      inr (of_release {P = λ d x. (base : Target) × (base_of url d ≡ Ok base) × Any (IsListedFor base d.mapped t l s) (wanted shape.views x)} (
        plan.base,
        base_is url plan.deployment plan.url (Ok plan.base) planned.is.read planned.is.joined,
        in_any (IsListedFor plan.base plan.deployment.mapped t l s) (wanted shape.views plan.application) entry.0 entry.1 (entry.2, entry.3, entry.4),
      ))

  but_line : KeptBut (IsListedBy shape url texts) a c
  but_line =
      but_then (IsListedBy shape url texts) a b c planned.hearing.kept
      (but_weaker (IsListedIn plan.application.files plan.wanted) (IsListedBy shape url texts) b c listed_file but)

  -- ---- what was asked

  pub hearing_on : (files rest : List Target) → c.asked ≡ b.asked ++ files → targets_of plan ≡ files ++ rest → InstallHeard shape url texts a c
  hearing_on files rest more front = record {
    kept = but_line;
    deployment = some_map (IsDeploymentText url a b) (IsDeploymentText url a c) (slice_get texts 0) deployment_on planned.hearing.deployment;
    application = some_map (IsApplicationText url texts a b) (IsApplicationText url texts a c) (slice_get texts 1) application_on planned.hearing.application;
    asked = plan.url ∷ plan.base ∷ files;
    grown = more ∙ ap (λ (ts : List Target). ts ++ files) planned.hearing.grown ∙ append_assoc a.asked planned.hearing.asked files
        ∙ ap (λ (ts : List Target). a.asked ++ (ts ++ files)) planned.asked;
    front = λ all asks. (rest, plan_asks_only shape url texts plan planned.is all asks ∙ ap (λ (ts : List Target). plan.url ∷ plan.base ∷ ts) front);
  }

  -- all were fetched
  pub served_all : (key : Key) (version : Version) (view : ℕ) → c.asked ≡ b.asked ++ targets_of plan → InstallServed shape url texts a c (Installed key version view)
  unfolding hearing_on
  served_all key version view more = record {
    hearing = hearing_on (targets_of plan) [] more (sym (append-nil (targets_of plan)));
    accounts = plan_asks shape url texts plan planned.is;
  }

  -- ---- a file that no link gave

  module _ (named : Target) (reasons : List Cause) (stop : StopsAt plan.application.files plan.wanted b c named reasons) where
    abbrev files : List FileEntry
    files = plan.application.files

    abbrev place_of : FileEntry → Result Target UrlFault
    place_of entry = file_target_of plan.base plan.deployment.mapped entry.name

    abbrev targets_asked : List Target
    targets_asked = addresses stop.earlier ++ named ∷ []

    front : targets_of plan ≡ targets_asked ++ addresses stop.later
    front =
        ap addresses stop.wants ∙ map-append (λ (f : WantedFile). f.target) stop.earlier (stop.file ∷ stop.later)
        ∙ ap (λ (t : Target). addresses stop.earlier ++ t ∷ addresses stop.later) (sym stop.shown)
        ∙ sym (append_assoc (addresses stop.earlier) (named ∷ []) (addresses stop.later))

    abbrev part : IsAmong files place_of (wanted shape.views plan.application) stop.earlier stop.file
    part = among files place_of (wanted shape.views plan.application) stop.earlier stop.file stop.later
        (subst (λ (ws : List WantedFile). map (λ (f : WantedFile). slice_get files f.place) ws ≡ map Some (wanted shape.views plan.application)) stop.wants planned.is.places)
        (subst (λ (ws : List WantedFile). map place_of (wanted shape.views plan.application) ≡ map Ok (addresses ws)) stop.wants planned.is.targets)

    at_named : place_of part.entry ≡ Ok named
    at_named = part.target ∙ ap (λ (t : Target). Ok t) (sym stop.shown)

    lacks : LacksFile shape url a c (plan.url ∷ plan.base ∷ targets_asked) named reasons plan.deployment plan.application
    lacks = record {
      target = plan.url;
      read = planned.is.read;
      base = plan.base;
      joined = planned.is.joined;
      earlier = part.earlier;
      entry = part.entry;
      later = part.later;
      wants = part.are;
      targets = addresses stop.earlier;
      each = part.targets;
      at = at_named;
      order = refl;
      gave = given_at files a c stop.earlier part.earlier stop.bytes part.places (all_from a b c one kept files stop.earlier stop.bytes stop.gave);
      ungiven = lack_from a b c one kept part.entry named reasons
          (subst (λ (o : Option FileEntry). IfSome o (λ e. IsFileUngiven e named b c reasons)) part.place stop.ungiven);
    }

    pub unserved : InstallServed shape url texts a c (AllLinks named reasons)
    unfolding hearing_on
    unserved = record {
      hearing = hearing_on targets_asked (addresses stop.later) stop.grown front;
      accounts = lacks_file shape url texts a c (plan.url ∷ plan.base ∷ targets_asked) named reasons (of_release {P = LacksFile shape url a c (plan.url ∷ plan.base ∷ targets_asked) named reasons} lacks);
    }

    among_wanted : Any (λ (entry : FileEntry). file_target_of plan.base plan.deployment.mapped entry.name ≡ Ok named) (wanted shape.views plan.application)
    among_wanted =
        let there = contains_in (wanted shape.views plan.application) part.entry (subst (λ (es : List FileEntry). In part.entry es) (sym part.are) (in_right part.earlier (part.entry ∷ part.later) part.entry (inl refl))) in
        (there.0, part.entry, there.1, there.2, at_named)

    pub refuses : (old : Session) → Refuses (install_refusals url texts shape) old (AllLinks named reasons) old
    refuses old =
        passed_over (address_refusals url) (deployment_refusals url texts shape ++ release_refusals url texts shape ++ file_refusals url texts shape) old (AllLinks named reasons) old planned.is.address
        (passed_over (deployment_refusals url texts shape) (release_refusals url texts shape ++ file_refusals url texts shape) old (AllLinks named reasons) old planned.is.deployment
        (passed_over (release_refusals url texts shape) (file_refusals url texts shape) old (AllLinks named reasons) old planned.is.release
        (inl ((named, reasons, of_release {P = λ d x. OfWanted url shape d x (λ target. target ≡ Ok named)} (plan.base, base_is url plan.deployment plan.url (Ok plan.base) planned.is.read planned.is.joined, among_wanted), refl), refl))))

  -- ---- where not all files were fetched

  -- there was no memory
  pub no_memory : (files rest : List Target) → c.asked ≡ b.asked ++ files → targets_of plan ≡ files ++ rest → IsRefused shape url texts a c Memory
  no_memory files rest more front = record {
    hears = planned.hears;
    kept = kept_then a b c one kept;
    still = λ now. refl;
    refused = inl refl;
    served = record { hearing = hearing_on files rest more front; accounts = tt };
    downs = counts_none refl;
  }

  by_stop : (reply : Reply) → Stops plan.application.files plan.wanted b c reply → IsRefused shape url texts a c reply
  by_stop (AllLinks named reasons) stop = record {
    hears = planned.hears;
    kept = kept_then a b c one kept;
    still = λ now. refl;
    refused = inr (refuses named reasons stop);
    served = unserved named reasons stop;
    downs = file_counts a c (kept_then a b c one kept) shape url (plan.url ∷ plan.base ∷ targets_asked named reasons stop) named reasons plan.deployment plan.application (lacks named reasons stop);
  }
  by_stop Memory stop = no_memory (addresses stop.asked) (addresses stop.others) stop.grown (ap addresses stop.wants ∙ map-append (λ (f : WantedFile). f.target) stop.asked stop.others)
  by_stop _ stop = absurd stop

  pub refused_at_files : (reply : Reply) → IsStopped plan.application.files plan.wanted b c reply → IsRefused shape url texts a c reply
  refused_at_files reply stop = by_stop reply stop.stops
