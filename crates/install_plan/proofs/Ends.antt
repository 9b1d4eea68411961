-- What each end of the hearing says of the line.
use Rattle.std.proofs.Common.{◌≡◌, ◌∙◌, ◌⊎◌, ◌++◌, inl, inr, refl, sym, ap, subst, ℕ, List, [], ◌∷◌, Some, None, Ok, append_assoc}
use Rattle.std.specs.Prelude.{IfSome, Option, map, slice_get}
use Rattle.small_types.specs.declared.limits.TheConstants.{MANIFEST_LIMIT}
use Rattle.small_types.specs.declared.target.Target.{Target}
use Rattle.addresses.specs.Address.{target_of_text}
use Rattle.addresses.specs.Join.{app_target_of, file_target_of}
use Rattle.digest_list.specs.declared.digest.Digest.{Digest}
use Rattle.digest_list.specs.Matches.{Matches}
use Rattle.manifest_parts.specs.Parts.{Tells}
use Rattle.manifests.specs.declared.facts.Application.{Application}
use Rattle.manifests.specs.declared.facts.Deployment.{Deployment}
use Rattle.manifests.specs.Applications.{application_of}
use Rattle.manifests.specs.Deployments.{deployment_of}
use Rattle.machine.specs.declared.reply.Reply.{Reply}
use Rattle.machine.specs.declared.reply.Reply.TheVariants as says
use Rattle.machine.specs.Asked.{AsksApplication, AsksInstall}
use Rattle.machine.specs.Installed.{IsProvidedBy}
use Rattle.machine.specs.InstallRow.{HearsRelease, OfDeployment, OfRelease, base_of, install_refusals}
use Rattle.machine.specs.Machine.{moment_after}
use Rattle.machine.specs.Rows.{AreExact, PassesAll, Refusal}
use Rattle.machine.specs.Shape.{Shape}
use Rattle.machine.specs.Store.{Session}
use Rattle.machine.specs.Wanted.{wanted}
use Rattle.machine.proofs.FirstRefusal.{none_refuses}
use Rattle.machine.proofs.InstallExact.{address_exact, deployment_exact, release_exact}
use Rattle.machine.proofs.Moments.{refusal_moment}
use Rattle.links.specs.Links.{LinksState}
use Rattle.fetcher.specs.Causes.{IsFileCause, IsTextCause}
use Rattle.fetcher.specs.Fetched.{WasAsked, IsThis, Kept, KeptAll, KeptBut, MayAsk}
use Rattle.fetcher.specs.Given.{FitsText}
use Rattle.fetcher.proofs.Liars.{but_all, but_then, but_weaker}
use Rattle.fetcher.proofs.Sequence.{all_same, kept_then}
use Rattle.install_plan.specs.declared.plan.InstallPlan.{InstallPlan}
use Rattle.install_plan.specs.Given.{IsFrom, IsUngiven}
use Rattle.install_plan.specs.InstallHeard.{Accounts, IsApplicationText, IsDeploymentText, IsFront, IsListedBy, InstallServed}
use Rattle.install_plan.specs.Judges.{Refused, address_checks, deployment_checks, release_checks}
use Rattle.install_plan.specs.Plans.{IsPlanned, IsRefused, targets_of}
use Rattle.install_plan.specs.Stages.{IsGot, IsNotGiven, IsNotRead, StopsOne}
use Rattle.install_plan.proofs.Causes.{file_follows}
use Rattle.install_plan.proofs.Downs.{install_counts}
use Rattle.install_plan.proofs.Exits.{AllPlain, IsPlain, addresses, deployments, releases, address_passes, by_address, by_deployment, by_release, memory_accounts, plain_accounts, plain_refused, some_session}
use Rattle.install_plan.proofs.Extends.{from_on, got_from, ungiven_from}
use Rattle.install_plan.proofs.Rows.{deployment_passed, deployment_refused, release_passed, release_refused}
use Rattle.install_plan.proofs.Told.{base_is, deployment_is, ok_one}

-- ---- records in parts

module _ (shape : Shape) (url : List ℕ) (a : LinksState) where
  pub served_by : (texts : List (List ℕ)) (c : LinksState) (asked : List Target) (reply : Reply) → KeptBut (IsListedBy shape url texts) a c
      → IfSome (slice_get texts 0) (IsDeploymentText url a c) → IfSome (slice_get texts 1) (IsApplicationText url texts a c)
      → c.asked ≡ a.asked ++ asked → ((targets : List Target) → AsksInstall url texts shape targets → IsFront asked targets)
      → Accounts shape url texts a c asked reply → InstallServed shape url texts a c reply
  served_by texts c asked reply kept deployment application grown front accounts = record {
    hearing = record { kept = kept; deployment = deployment; application = application; asked = asked; grown = grown; front = front };
    accounts = accounts;
  }

  -- a refusal of the row that shows no target
  pub accounts_by : (texts : List (List ℕ)) (c : LinksState) (asked : List Target) (checks rows : List (Refusal Reply Session)) (reply : Reply)
      → AllPlain checks → AreExact rows → Refused checks reply → Refused rows reply
      → ((PassesAll rows → ⊥) → AsksInstall url texts shape asked) → Accounts shape url texts a c asked reply
  accounts_by texts c asked checks rows reply plain exact (inl memory) second asks = memory_accounts shape url texts a c asked reply memory
  accounts_by texts c asked checks rows reply plain exact (inr first) (inl memory) asks = memory_accounts shape url texts a c asked reply memory
  accounts_by texts c asked checks rows reply plain exact (inr first) (inr second) asks =
      plain_accounts shape url texts a c asked reply (plain_refused checks some_session reply some_session plain (first some_session))
      (asks (λ passes. none_refuses rows some_session reply some_session exact passes (second some_session)))

-- what an end of the hearing says
pub record Ended (shape : Shape) (url : List ℕ) (texts : List (List ℕ)) (before after : LinksState) (reply : Reply) : Type 0 where
  pub hears : HearsRelease url shape texts
  pub refused : Refused (install_refusals url texts shape) reply
  pub served : InstallServed shape url texts before after reply

-- no refusal sets the moment
still_of : (shape : Shape) (url : List ℕ) (texts : List (List ℕ)) (reply : Reply) → Refused (install_refusals url texts shape) reply → (now : ℕ) → moment_after now (Some reply) ≡ now
still_of shape url texts reply (inl memory) now = ap (λ (r : Reply). moment_after now (Some r)) memory
still_of shape url texts reply (inr refuses) now = refusal_moment now url texts shape some_session reply some_session (refuses some_session)

pub ended : {shape : Shape} {url : List ℕ} {texts : List (List ℕ)} {before after : LinksState} {reply : Reply} → Ended shape url texts before after reply → IsRefused shape url texts before after reply
ended {shape = shape} {url = url} {texts = texts} {before = before} {after = after} {reply = reply} end = record {
  hears = end.hears;
  kept = end.served.hearing.kept.kept;
  still = still_of shape url texts reply end.refused;
  refused = end.refused;
  served = end.served;
  downs = install_counts shape url texts before after reply end.served;
}

-- what is at the beginning
none_more : (xs : List Target) → xs ≡ xs ++ []
none_more [] = refl
none_more (x ∷ xs) = ap (λ ys. x ∷ ys) (none_more xs)

two_more : (xs ys zs : List Target) (x y : Target) → ys ≡ xs ++ x ∷ [] → zs ≡ ys ++ y ∷ [] → zs ≡ xs ++ x ∷ y ∷ []
two_more xs ys zs x y first second = second ∙ ap (λ (ws : List Target). ws ++ y ∷ []) first ∙ append_assoc xs (x ∷ []) (y ∷ [])

-- ---- the address is refused

module _ (shape : Shape) (url : List ℕ) (a : LinksState) where
  plain_address : AllPlain (addresses shape url [])
  plain_address = ((λ reply given. subst IsPlain (sym given.1) tt), ((λ reply given. subst IsPlain (sym given.2) tt), tt))

  pub address_end : (reply : Reply) → Refused (address_checks (target_of_text url)) reply → Ended shape url [] a a reply
  address_end reply refused = record {
    hears = tt;
    refused = by_address shape url [] reply refused;
    served = served_by shape url a [] a [] reply (but_all (IsListedBy shape url []) a a (all_same a)) tt tt (none_more a.asked) (λ targets asks. (targets, refl))
        (accounts_by shape url a [] a [] (addresses shape url []) (addresses shape url []) reply plain_address (address_exact url) refused refused (λ fails. inl (fails, refl)));
  }

-- ---- the deployment manifest is asked for

module _ (shape : Shape) (url : List ℕ) (target : Target) (read : target_of_text url ≡ Ok target)
    (a b : LinksState) (one : KeptAll a b) where
  passes : PassesAll (addresses shape url [])
  passes = address_passes (target_of_text url) target read

  -- no link is gone
  but_text : (texts : List (List ℕ)) → KeptBut (IsListedBy shape url texts) a b
  but_text texts = but_all (IsListedBy shape url texts) a b one

  asks_one : (texts : List (List ℕ)) → (PassesAll (deployments shape url texts) → ⊥) → AsksInstall url texts shape (target ∷ [])
  asks_one texts fails = inr (target, [], refl, read, inl (fails, refl))

  front_one : (texts : List (List ℕ)) (targets : List Target) → AsksInstall url texts shape targets → IsFront (target ∷ []) targets
  front_one texts targets (inl refused) = absurd (refused.0 passes)
  front_one texts targets (inr asks) = (asks.1, asks.2 ∙ ap (λ (t : Target). t ∷ asks.1) (ok_one (target_of_text url) asks.0 target asks.3 read))

  -- no text was noted
  unheard : (reply : Reply) → MayAsk target a b → reply ≡ says.Memory → Ended shape url [] a b reply
  unheard reply may memory = record { hears = tt; refused = inl memory; served = at may }
    where
      at : MayAsk target a b → InstallServed shape url [] a b reply
      at (inl same) = served_by shape url a [] b [] reply (but_text []) tt tt (same ∙ none_more a.asked) (λ targets asks. (targets, refl)) (memory_accounts shape url [] a b [] reply memory)
      at (inr asked) = served_by shape url a [] b (target ∷ []) reply (but_text []) tt tt asked (front_one []) (memory_accounts shape url [] a b (target ∷ []) reply memory)

  no_link : (reply : Reply) → IsNotGiven (IsTextCause MANIFEST_LIMIT target) (FitsText MANIFEST_LIMIT) target a b [] [] reply → Ended shape url [] a b reply
  no_link reply is =
      let replied : reply ≡ says.AllLinks target is.reasons = is.replied ∙ ap (λ (t : Target). says.AllLinks t is.reasons) is.gave.shown in
      let ungiven : IsUngiven (IsTextCause MANIFEST_LIMIT target) (FitsText MANIFEST_LIMIT) target a b a is.reasons = record { causes = is.gave.causes; none = is.gave.none } in
      record {
        hears = tt;
        refused = by_deployment shape url [] reply passes (inr (λ old. inl ((target, is.reasons, (read, refl), replied), refl)));
        served = served_by shape url a [] b (target ∷ []) reply (but_text []) tt tt is.gave.asked (front_one [])
            (subst (Accounts shape url [] a b (target ∷ [])) (sym replied) (asks_one [] (λ passed. passed.0 target (read, refl)), ungiven));
      }

  module _ (text : List ℕ) (got : IsGot (FitsText MANIFEST_LIMIT) target a b text) where
    noted : (reply : Reply) → Accounts shape url (text ∷ []) a b (target ∷ []) reply → InstallServed shape url (text ∷ []) a b reply
    noted reply accounts = served_by shape url a (text ∷ []) b (target ∷ []) reply (but_text (text ∷ [])) (target, read, got.from) tt got.asked (front_one (text ∷ [])) accounts

    no_room : (reply : Reply) → reply ≡ says.Memory → Ended shape url (text ∷ []) a b reply
    no_room reply memory = record {
      hears = passes;
      refused = inl memory;
      served = noted reply (memory_accounts shape url (text ∷ []) a b (target ∷ []) reply memory);
    }

  is_none : (text : List ℕ) → ◌≡◌ {A = Option (List ℕ)} (Some text) None → ⊥
  is_none text e = cc

  no_text : (reply : Reply) (texts : List (List ℕ)) (is : IsNotRead deployment_of (FitsText MANIFEST_LIMIT) target a b [] texts reply) → Ended shape url (is.text ∷ []) a b reply
  no_text reply texts is = record {
    hears = passes;
    refused = by_deployment shape url (is.text ∷ []) reply passes (inr (λ old. inr ((λ x lacks. is_none is.text lacks.1), inl ((is.reason, (is.text, refl, is.refuses, is.other), is.replied), refl))));
    served = noted is.text is.got reply
        (subst (Accounts shape url (is.text ∷ []) a b (target ∷ [])) (sym is.replied) (asks_one (is.text ∷ []) (λ passed. passed.1.0 is.reason (is.text, refl, is.refuses, is.other))));
  }

  pub deployment_end : (texts : List (List ℕ)) (reply : Reply) → StopsOne deployment_of (IsTextCause MANIFEST_LIMIT target) (FitsText MANIFEST_LIMIT) target a b [] texts reply → Ended shape url texts a b reply
  deployment_end texts reply (inl is) = subst (λ (ts : List (List ℕ)). Ended shape url ts a b reply) (sym is.noted)
      (no_link reply (record { noted = refl; named = is.named; reasons = is.reasons; gave = is.gave; replied = is.replied }))
  deployment_end texts reply (inr (inl is)) = subst (λ (ts : List (List ℕ)). Ended shape url ts a b reply) (sym is.noted) (no_text reply texts is)
  deployment_end texts reply (inr (inr is)) = at is.noted
    where
      at : ((texts ≡ []) × MayAsk target a b) ⊎ ((text : List ℕ) × (texts ≡ [] ++ text ∷ []) × IsGot (FitsText MANIFEST_LIMIT) target a b text) → Ended shape url texts a b reply
      at (inl before) = subst (λ (ts : List (List ℕ)). Ended shape url ts a b reply) (sym before.0) (unheard reply before.1 is.replied)
      at (inr behind) = subst (λ (ts : List (List ℕ)). Ended shape url ts a b reply) (sym behind.1) (no_room behind.0 behind.2 reply is.replied)

  -- ---- the deployment is judged

  module _ (text : List ℕ) (d : Deployment) (got : IsGot (FitsText MANIFEST_LIMIT) target a b text)
      (tells : Tells deployment_of text (Ok d)) where
    pub told_in : (others : List (List ℕ)) → OfDeployment (text ∷ others) (λ x. x ≡ d)
    told_in others = (text, d, refl, tells, refl)

    of_d : (others : List (List ℕ)) (W : Deployment → Type 0) → W d → OfDeployment (text ∷ others) W
    of_d others W w = (text, d, refl, tells, w)

    plain_deployment : AllPlain (deployment_checks shape d (app_target_of target d.codebase))
    plain_deployment = (
      (λ reply given. subst IsPlain (sym given.2) tt),
      ((λ reply given. subst IsPlain (sym given.2) tt), ((λ reply given. subst IsPlain (sym given.1) tt), ((λ reply given. subst IsPlain (sym given.1) tt), ((λ reply given. subst IsPlain (sym given.1) tt), ((λ reply given. subst IsPlain (sym given.1) tt), ((λ reply given. subst IsPlain (sym given.2) tt), tt)))))),
    )

    pub judged_end : (reply : Reply) → Refused (deployment_checks shape d (app_target_of target d.codebase)) reply → Ended shape url (text ∷ []) a b reply
    judged_end reply refused =
        let row = deployment_refused shape url (text ∷ []) d target read (told_in []) reply refused in
        record {
          hears = passes;
          refused = by_deployment shape url (text ∷ []) reply passes row;
          served = noted text got reply
              (accounts_by shape url a (text ∷ []) b (target ∷ []) (deployment_checks shape d (app_target_of target d.codebase)) (deployments shape url (text ∷ [])) reply plain_deployment (deployment_exact url text [] shape) refused row (asks_one (text ∷ [])));
        }

    -- ---- the application manifest is asked for

    module _ (base : Target) (joined : app_target_of target d.codebase ≡ Ok base)
        (first : PassesAll (deployment_checks shape d (app_target_of target d.codebase)))
        (c : LinksState) (two : KeptBut (IsThis base d.app_list d.app_size) b c) where
      both : Kept a c
      both = kept_then a b c one.kept two.kept

      -- those that are gone gave another application manifest than is listed
      listed_there : (others : List (List ℕ)) (t : Target) (l : List Digest) (s : ℕ) → IsThis base d.app_list d.app_size t l s
          → IsListedBy shape url (text ∷ others) t l s
      listed_there others t l s is =
          inl (of_d others (λ x. (base_of url x ≡ Ok t) × (l ≡ x.app_list) × (s ≡ x.app_size))
          (base_is url d target (Ok base) read joined ∙ ap Ok (sym is.0), is.1, is.2))

      but_both : (others : List (List ℕ)) → KeptBut (IsListedBy shape url (text ∷ others)) a c
      but_both others =
          but_then (IsListedBy shape url (text ∷ others)) a b c (but_text (text ∷ others))
          (but_weaker (IsThis base d.app_list d.app_size) (IsListedBy shape url (text ∷ others)) b c (listed_there others) two)

      -- the refusals of the deployment are passed, whatever else is heard
      deployed : (others : List (List ℕ)) → PassesAll (deployments shape url (text ∷ others))
      deployed others = deployment_passed shape url (text ∷ others) d target read (told_in others) first

      at_base : (others : List (List ℕ)) → OfDeployment (text ∷ others) (λ x. base_of url x ≡ Ok base)
      at_base others = of_d others (λ x. base_of url x ≡ Ok base) (base_is url d target (Ok base) read joined)

      asks_two : (others : List (List ℕ)) → (PassesAll (releases shape url (text ∷ others)) → ⊥) → AsksInstall url (text ∷ others) shape (target ∷ base ∷ [])
      asks_two others fails = inr (target, base ∷ [], refl, read, inr (deployed others, (base, [], refl, at_base others, inl (fails, refl))))

      behind_first : (others : List (List ℕ)) (targets : List Target) → AsksApplication url (text ∷ others) shape targets → IsFront (base ∷ []) targets
      behind_first others targets (inl refused) = absurd (refused.0 (deployed others))
      behind_first others targets (inr asks) =
          let found = asks.1 in
          let same = deployment_is {P = λ x. base_of url x ≡ Ok base} {Q = λ x. base_of url x ≡ Ok found.0} (text ∷ others) (at_base others) found.3 in
          (found.1, found.2 ∙ ap (λ (t : Target). t ∷ found.1) (ok_one (base_of url same.0) found.0 base same.2 same.1))

      front_two : (others : List (List ℕ)) (targets : List Target) → AsksInstall url (text ∷ others) shape targets → IsFront (target ∷ base ∷ []) targets
      front_two others targets (inl refused) = absurd (refused.0 passes)
      front_two others targets (inr asks) =
          let rest = behind_first others asks.1 asks.4 in
          (rest.0, asks.2 ∙ ap (λ (t : Target). t ∷ asks.1) (ok_one (target_of_text url) asks.0 target asks.3 read) ∙ ap (λ (ts : List Target). target ∷ ts) rest.1)

      deployment_text : IsDeploymentText url a c text
      deployment_text = (target, read, from_on a b c one.kept two.kept (FitsText MANIFEST_LIMIT) target text got.from)

      -- only the deployment manifest is noted
      alone : (asked : List Target) (reply : Reply) → c.asked ≡ a.asked ++ asked → ((targets : List Target) → AsksInstall url (text ∷ []) shape targets → IsFront asked targets)
          → Accounts shape url (text ∷ []) a c asked reply → InstallServed shape url (text ∷ []) a c reply
      alone asked reply grown front accounts = served_by shape url a (text ∷ []) c asked reply (but_both []) deployment_text tt grown front accounts

      asked_two : WasAsked base b c → c.asked ≡ a.asked ++ target ∷ base ∷ []
      asked_two second = two_more a.asked b.asked c.asked target base got.asked second

      base_unheard : (reply : Reply) → MayAsk base b c → reply ≡ says.Memory → Ended shape url (text ∷ []) a c reply
      base_unheard reply may memory = record { hears = passes; refused = inl memory; served = at may }
        where
          at : MayAsk base b c → InstallServed shape url (text ∷ []) a c reply
          at (inl same) = alone (target ∷ []) reply (same ∙ got.asked) (front_one (text ∷ [])) (memory_accounts shape url (text ∷ []) a c (target ∷ []) reply memory)
          at (inr second) = alone (target ∷ base ∷ []) reply (asked_two second) (front_two []) (memory_accounts shape url (text ∷ []) a c (target ∷ base ∷ []) reply memory)

      base_no_link : (reply : Reply) → IsNotGiven (IsFileCause d.app_list d.app_size base) (Matches d.app_list d.app_size) base b c (text ∷ []) (text ∷ []) reply → Ended shape url (text ∷ []) a c reply
      base_no_link reply is =
          let replied : reply ≡ says.AllLinks base is.reasons = is.replied ∙ ap (λ (t : Target). says.AllLinks t is.reasons) is.gave.shown in
          let ungiven = ungiven_from a b c one.kept two.kept (IsFileCause d.app_list d.app_size base) (Matches d.app_list d.app_size) base is.named is.reasons one.remain (file_follows d.app_list d.app_size base) is.gave in
          record {
            hears = passes;
            refused = by_release shape url (text ∷ []) reply passes (deployed []) (inr (λ old. inl ((base, is.reasons, (at_base [], refl), replied), refl)));
            served = alone (target ∷ base ∷ []) reply (asked_two is.gave.asked) (front_two [])
                (subst (Accounts shape url (text ∷ []) a c (target ∷ base ∷ [])) (sym replied)
                (asks_two [] (λ passed. passed.0 base (at_base [], refl)), of_d [] (λ x. IsUngiven (IsFileCause x.app_list x.app_size base) (Matches x.app_list x.app_size) base a c a is.reasons) ungiven));
          }

      -- ---- both texts are noted

      module _ (other : List ℕ) (second : IsGot (Matches d.app_list d.app_size) base b c other) where
        hears_both : PassesAll (addresses shape url []) × PassesAll (deployments shape url (text ∷ other ∷ [])) × OfDeployment (text ∷ other ∷ []) (λ x. Matches x.app_list x.app_size other)
        hears_both = (passes, deployed (other ∷ []), of_d (other ∷ []) (λ x. Matches x.app_list x.app_size other) second.from.fits)

        application_text : IsApplicationText url (text ∷ other ∷ []) a c other
        application_text = of_d (other ∷ []) (λ x. (t : Target) × (base_of url x ≡ Ok t) × IsFrom (Matches x.app_list x.app_size) t a c other)
            (base, base_is url d target (Ok base) read joined, got_from a b c one.kept two.kept one.remain (Matches d.app_list d.app_size) base other second.from)

        noted_both : (reply : Reply) → Accounts shape url (text ∷ other ∷ []) a c (target ∷ base ∷ []) reply → InstallServed shape url (text ∷ other ∷ []) a c reply
        noted_both reply accounts = served_by shape url a (text ∷ other ∷ []) c (target ∷ base ∷ []) reply (but_both (other ∷ [])) deployment_text application_text (asked_two second.asked) (front_two (other ∷ [])) accounts

        -- there was no memory behind them
        pub memory_end : (reply : Reply) → reply ≡ says.Memory → Ended shape url (text ∷ other ∷ []) a c reply
        memory_end reply memory = record {
          hears = hears_both;
          refused = inl memory;
          served = noted_both reply (memory_accounts shape url (text ∷ other ∷ []) a c (target ∷ base ∷ []) reply memory);
        }

      base_no_text : (reply : Reply) (texts : List (List ℕ)) (is : IsNotRead application_of (Matches d.app_list d.app_size) base b c (text ∷ []) texts reply) → Ended shape url (text ∷ is.text ∷ []) a c reply
      base_no_text reply texts is = record {
        hears = hears_both is.text is.got;
        refused = by_release shape url (text ∷ is.text ∷ []) reply passes (deployed (is.text ∷ []))
            (inr (λ old. inr ((λ x lacks. is_none is.text lacks.1), inl ((is.reason, (is.text, refl, is.refuses, is.other), is.replied), refl))));
        served = noted_both is.text is.got reply
            (subst (Accounts shape url (text ∷ is.text ∷ []) a c (target ∷ base ∷ [])) (sym is.replied)
            (asks_two (is.text ∷ []) (λ passed. passed.1.0 is.reason (is.text, refl, is.refuses, is.other))));
      }

      pub application_end : (texts : List (List ℕ)) (reply : Reply) → StopsOne application_of (IsFileCause d.app_list d.app_size base) (Matches d.app_list d.app_size) base b c (text ∷ []) texts reply → Ended shape url texts a c reply
      application_end texts reply (inl is) = subst (λ (ts : List (List ℕ)). Ended shape url ts a c reply) (sym is.noted)
          (base_no_link reply (record { noted = refl; named = is.named; reasons = is.reasons; gave = is.gave; replied = is.replied }))
      application_end texts reply (inr (inl is)) = subst (λ (ts : List (List ℕ)). Ended shape url ts a c reply) (sym is.noted) (base_no_text reply texts is)
      application_end texts reply (inr (inr is)) = at is.noted
        where
          at : ((texts ≡ text ∷ []) × MayAsk base b c) ⊎ ((other : List ℕ) × (texts ≡ (text ∷ []) ++ other ∷ []) × IsGot (Matches d.app_list d.app_size) base b c other) → Ended shape url texts a c reply
          at (inl before) = subst (λ (ts : List (List ℕ)). Ended shape url ts a c reply) (sym before.0) (base_unheard reply before.1 is.replied)
          at (inr behind) = subst (λ (ts : List (List ℕ)). Ended shape url ts a c reply) (sym behind.1) (memory_end behind.0 behind.2 reply is.replied)

      -- ---- the release is judged

      module _ (other : List ℕ) (second : IsGot (Matches d.app_list d.app_size) base b c other)
          (app : Application) (says_app : Tells application_of other (Ok app)) where
        pub told_both : OfRelease (text ∷ other ∷ []) (λ x y. (x ≡ d) × (y ≡ app))
        told_both = (text, d, refl, tells, (other, app, refl, says_app, (refl, refl)))

        plain_release : AllPlain (release_checks url shape d app)
        plain_release = (
          (λ reply given. subst IsPlain (sym given.2) tt),
          ((λ reply given. subst IsPlain (sym given.1) tt), ((λ reply given. subst IsPlain (sym given.1) tt), ((λ reply given. subst IsPlain (sym given.1) tt), ((λ reply given. subst IsPlain (sym given.2) tt), ((λ reply given. subst IsPlain (sym given.2) tt), tt))))),
        )

        pub release_end : (reply : Reply) → Refused (release_checks url shape d app) reply → Ended shape url (text ∷ other ∷ []) a c reply
        release_end reply refused =
            let row = release_refused shape url (text ∷ other ∷ []) d app told_both reply refused in
            record {
              hears = hears_both other second;
              refused = by_release shape url (text ∷ other ∷ []) reply passes (deployed (other ∷ [])) row;
              served = noted_both other second reply
                  (accounts_by shape url a (text ∷ other ∷ []) c (target ∷ base ∷ []) (release_checks url shape d app) (releases shape url (text ∷ other ∷ [])) reply plain_release (release_exact url text other [] shape) refused row (asks_two (other ∷ [])));
            }

        -- ---- there is a plan

        pub plan_end : (plan : InstallPlan) → plan.deployment ≡ d → plan.application ≡ app → plan.url ≡ target → plan.base ≡ base
            → IsProvidedBy target d.provider plan.provider → map (λ file. slice_get app.files file.place) plan.wanted ≡ map Some (wanted shape.views app)
            → map (λ entry. file_target_of base d.mapped entry.name) (wanted shape.views app) ≡ map Ok (targets_of plan)
            → PassesAll (release_checks url shape d app) → IsPlanned shape url (text ∷ other ∷ []) a c plan
        plan_end plan same_d same_a same_url same_base provided places targets last =
            let P : Deployment → Type 0 = λ x. IsProvidedBy target x.provider plan.provider in
            record {
              hears = hears_both other second;
              is = record {
                told = (text, d, refl, tells, (other, app, refl, says_app, (sym same_d, sym same_a)));
                read = read ∙ ap Ok (sym same_url);
                joined = subst (λ (x : Deployment). app_target_of plan.url x.codebase ≡ Ok plan.base) (sym same_d) (subst (λ (t : Target). app_target_of t d.codebase ≡ Ok plan.base) (sym same_url) (joined ∙ ap Ok (sym same_base)));
                provided = subst (λ (x : Deployment). IsProvidedBy plan.url x.provider plan.provider) (sym same_d) (subst (λ (t : Target). IsProvidedBy t d.provider plan.provider) (sym same_url) provided);
                places = subst (λ (x : Application). map (λ file. slice_get x.files file.place) plan.wanted ≡ map Some (wanted shape.views x)) (sym same_a) places;
                targets = subst (λ (x : Application). map (λ entry. file_target_of plan.base plan.deployment.mapped entry.name) (wanted shape.views x) ≡ map Ok (targets_of plan)) (sym same_a)
                    (subst (λ (x : Deployment). map (λ entry. file_target_of plan.base x.mapped entry.name) (wanted shape.views app) ≡ map Ok (targets_of plan)) (sym same_d)
                    (subst (λ (t : Target). map (λ entry. file_target_of t d.mapped entry.name) (wanted shape.views app) ≡ map Ok (targets_of plan)) (sym same_base) targets));
                address = passes;
                deployment = deployed (other ∷ []);
                release = release_passed shape url (text ∷ other ∷ []) d app told_both last;
              };
              hearing = record {
                kept = but_both (other ∷ []);
                deployment = deployment_text;
                application = application_text other second;
                asked = target ∷ base ∷ [];
                grown = asked_two second.asked;
                front = front_two (other ∷ []);
              };
              asked = ap (λ (t : Target). t ∷ base ∷ []) (sym same_url) ∙ ap (λ (t : Target). plan.url ∷ t ∷ []) (sym same_base);
            }
