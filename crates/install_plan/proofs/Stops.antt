-- How a manifest is heard, and why not.
use Rattle.std.proofs.Common.{◌≡◌, ◌≢◌, ◌++◌, inl, inr, refl, sym, subst, ℕ, List, [], ◌∷◌, None, Ok, arith}
use Rattle.outside.specs.Streams.{Rose}
use Rattle.small_types.specs.declared.target.Target.{Target}
use Rattle.causes.specs.declared.cause.Cause.{Cause}
use Rattle.digest_list.specs.declared.digest.Digest.{Digest}
use Rattle.digest_list.specs.Matches.{Matches}
use Rattle.manifest_tree.specs.Tree.{Tree}
use Rattle.manifests.specs.declared.facts.FileEntry.{FileEntry}
use Rattle.manifest_parts.specs.declared.fault.ManifestFault.{ManifestFault}
use Rattle.manifest_parts.specs.declared.fault.ManifestFault.TheVariants as fault
use Rattle.manifest_parts.specs.Elements.{Read}
use Rattle.manifest_parts.specs.Parts.{RefusesBytes, Tells}
use Rattle.machine.specs.declared.reply.Reply.{Reply}
use Rattle.machine.specs.declared.reply.Reply.TheVariants as says
use Rattle.links.specs.Link.{LinkState}
use Rattle.links.specs.Links.{LinksState}
use Rattle.fetcher.specs.declared.fault.FetchFault.{FetchFault}
use Rattle.fetcher.specs.declared.fault.FetchFault.TheVariants.{AllLinks, BasketFault, Memory}
use Rattle.fetcher.specs.Causes.{IsFileCause, IsTextCause}
use Rattle.fetcher.specs.Fetched.{IsFile, IsFileFault, IsText, IsTextFault, Kept}
use Rattle.fetcher.specs.Given.{FitsText}
use Rattle.fetcher.proofs.Sequence.{given_after}
use Rattle.install_plan.specs.Replies.{IsFetchReply, manifest_reply}
use Rattle.install_plan.specs.FetchedFiles.{IsLack}
use Rattle.install_plan.specs.Stages.{HearsOne, IsGot, StopsOne}

module _ (target : Target) (a b : LinksState) where
  -- ---- a fetch

  pub text_got : (limit : ℕ) (text : List ℕ) → IsText limit target a b text → IsGot (FitsText limit) target a b text
  text_got limit text is = record {
    asked = is.asked;
    from = record { fits = is.within; enough = is.enough; site = is.site; given = is.given };
  }

  pub file_got : (list : List Digest) (size : ℕ) (held : List ℕ) → IsFile list size target a b (Unit {0}) held → IsGot (Matches list size) target a b held
  file_got list size held is =
      let same : held ≡ is.bytes = is.taken tt in
      subst (IsGot (Matches list size) target a b) (sym same)
      (record { asked = is.asked; from = record { fits = is.matches; enough = is.enough; site = is.site; given = is.given } })

  -- ---- why nothing was fetched

  -- a text has no basket
  pub text_fault : (limit : ℕ) (reason : FetchFault) → IsTextFault limit target a b reason → ◌≢◌ {A = FetchFault} reason BasketFault
  text_fault limit (AllLinks named reasons) is = λ e. cc
  text_fault limit BasketFault is = absurd is
  text_fault limit Memory is = λ e. cc

  no_rise : Rose 0 0 → ⊥
  no_rise (inl less) = omega arith
  no_rise (inr full) = omega arith

  -- a basket without a count never fails
  pub file_fault : (list : List Digest) (size : ℕ) (reason : FetchFault) → IsFileFault list size target a b 0 0 reason → ◌≢◌ {A = FetchFault} reason BasketFault
  file_fault list size (AllLinks named reasons) is = λ e. cc
  file_fault list size BasketFault is = absurd (no_rise is.rose)
  file_fault list size Memory is = λ e. cc

  pub file_lacks : (entry : FileEntry) → Kept a b → (reason : FetchFault) (reply : Reply) → IsFileFault entry.list entry.size target a b 0 0 reason → IsFetchReply reason reply → IsLack entry target a b reply
  file_lacks entry kept (AllLinks named reasons) reply is replied = subst (IsLack entry target a b) (sym replied) (
    is.shown,
    is.asked,
    record {
      causes = is.causes;
      none = λ quiet. given_after a b target kept is.remain quiet.tell (Matches entry.list entry.size) None (is.none quiet);
    },
  )
  file_lacks entry kept BasketFault reply is replied = absurd replied
  file_lacks entry kept Memory reply is replied = subst (IsLack entry target a b) (sym replied) is

  module _ {A : Type 0} (facts : Tree → Read A) (old new : List (List ℕ)) (same : new ≡ old) where
    pub text_stops : (limit : ℕ) (reason : FetchFault) (reply : Reply) → IsTextFault limit target a b reason → IsFetchReply reason reply → StopsOne facts (IsTextCause limit target) (FitsText limit) target a b old new reply
    text_stops limit (AllLinks named reasons) reply is replied = inl (record { noted = same; named = named; reasons = reasons; gave = is; replied = replied })
    text_stops limit BasketFault reply is replied = absurd is
    text_stops limit Memory reply is replied = inr (inr (record { replied = replied; noted = inl (same, is) }))

    pub file_stops : (list : List Digest) (size : ℕ) (reason : FetchFault) (reply : Reply) → IsFileFault list size target a b 0 0 reason → IsFetchReply reason reply → StopsOne facts (IsFileCause list size target) (Matches list size) target a b old new reply
    file_stops list size (AllLinks named reasons) reply is replied = inl (record { noted = same; named = named; reasons = reasons; gave = is; replied = replied })
    file_stops list size BasketFault reply is replied = absurd replied
    file_stops list size Memory reply is replied = inr (inr (record { replied = replied; noted = inl (same, is) }))

  -- ---- a text that was got

  module _ {A : Type 0} (facts : Tree → Read A) (IsCause : LinkState → LinkState → Cause → Type 0)
      (Fits : List ℕ → Type 0) (old new : List (List ℕ)) (text : List ℕ) (got : IsGot Fits target a b text) where
    -- it could not be noted
    pub unnoted : new ≡ old → StopsOne facts IsCause Fits target a b old new says.Memory
    unnoted same = inr (inr (record { replied = refl; noted = inl (same, inr got.asked) }))

    pub hears_one : (d : A) → new ≡ old ++ text ∷ [] → Tells facts text (Ok d) → HearsOne facts Fits target a b old new d
    hears_one d noted tells = record { text = text; noted = noted; got = got; tells = tells }

    module _ (noted : new ≡ old ++ text ∷ []) where
      unread : (reason : ManifestFault) → reason ≢ fault.Memory → RefusesBytes facts text reason → StopsOne facts IsCause Fits target a b old new (says.Manifest reason)
      unread reason other refuses = inr (inl (record { text = text; noted = noted; got = got; reason = reason; refuses = refuses; other = other; replied = refl }))

      pub text_refused : (reason : ManifestFault) → RefusesBytes facts text reason → StopsOne facts IsCause Fits target a b old new (manifest_reply reason)
      text_refused fault.Memory refuses = inr (inr (record { replied = refl; noted = inr (text, noted, got) }))
      text_refused (fault.Tree e) refuses = unread (fault.Tree e) (λ is. cc) refuses
      text_refused (fault.Missing what) refuses = unread (fault.Missing what) (λ is. cc) refuses
      text_refused (fault.Twice what) refuses = unread (fault.Twice what) (λ is. cc) refuses
      text_refused (fault.BadValue what) refuses = unread (fault.BadValue what) (λ is. cc) refuses
      text_refused fault.Signed refuses = unread fault.Signed (λ is. cc) refuses
      text_refused (fault.NoDigest file) refuses = unread (fault.NoDigest file) (λ is. cc) refuses
      text_refused (fault.BadName file) refuses = unread (fault.BadName file) (λ is. cc) refuses
      text_refused (fault.TwiceNamed file) refuses = unread (fault.TwiceNamed file) (λ is. cc) refuses
      text_refused (fault.MinimumAboveVersion minimum version) refuses = unread (fault.MinimumAboveVersion minimum version) (λ is. cc) refuses
      text_refused fault.OnlineOnly refuses = unread fault.OnlineOnly (λ is. cc) refuses
      text_refused (fault.TooMany what) refuses = unread (fault.TooMany what) (λ is. cc) refuses
