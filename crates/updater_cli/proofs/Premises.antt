-- What the calls give of the premises of the law that what was published is what is read.
use Rattle.std.proofs.Common.{◌≡◌, ◌∙◌, inl, inr, ◌<◌, ℕ, refl, sym, ap, subst, List, Option, Some, None, IfSome, IsSome, Ok, Err, arith}
use Rattle.std.specs.Prelude.{Result, slice_get}
use Rattle.std.specs.Option.{option_or}
use Rattle.std.proofs.lemmas.Option.{same_Some}
use Rattle.small_types.specs.declared.limits.TheConstants.{MANIFEST_LIMIT}
use Rattle.small_types.specs.declared.target.Target.{Target}
use Rattle.addresses.specs.Address.{target_of_text}
use Rattle.addresses.specs.Join.{app_target_of}
use Rattle.folders.specs.declared.folder.Held.{Held}
use Rattle.folders.specs.Files.{file_in}
use Rattle.digest_list.specs.Matches.{Matches}
use Rattle.links.specs.Links.{LinksState, link_at, number_at, sources_of}
use Rattle.links.proofs.Numbers.{place_of}
use Rattle.fetcher.specs.Given.{FitsText, Given, GivenFile, GivenText, IsFirst, IsOfSite}
use Rattle.manifest_parts.specs.Parts.{Tells}
use Rattle.manifests.specs.declared.facts.Deployment.{Deployment}
use Rattle.manifests.specs.Deployments.{deployment_of}
use Rattle.publish_plan.specs.Places.{codebase, deployment_name, manifest_name}
use Rattle.publisher.specs.declared.fault.PublishFault.{PublishFault}
use Rattle.publisher.specs.Outcome.{Publishes}
use Rattle.publisher.specs.Publication as writes
use Rattle.published_paths.specs.Reached.{Reaches}
use Rattle.machine.specs.InstallRow.{OfDeployment, base_of}
use Rattle.install_plan.specs.Given.{IsFrom}
use Rattle.install_plan.proofs.Told.{base_is}
use Rattle.updater_cli.specs.Offered.{HasFiles, IsFirstSite, PublishInput, WritesRelease, links_of}
use Rattle.updater_cli.specs.Premises.{OneSiteIsGiven, PublishesWrite, ServedIsGiven, sites_of}
use Rattle.updater_cli.specs.Published.{HeardGiven}
use Rattle.updater_cli.proofs.AllThere.{count_all, number_all}
use Rattle.updater_cli.proofs.PublishedDigests.{digests_match}
use Rattle.updater_cli.proofs.PublishedLaw.{at_name}
use Rattle.updater_cli.proofs.PublishedOut.{IsOut}
use Rattle.updater_cli.proofs.PublishedRelease.{is_out}

-- ---- a publish

first_or : (x y : Option (List ℕ)) (bytes : List ℕ) → x ≡ Some bytes → option_or x y ≡ Some bytes
first_or x y bytes is = ap (λ (o : Option (List ℕ)). option_or o y) is

module _ (p : PublishInput) (new : List Held) where
  wrote : (outcome : Result (List Held) PublishFault) → Publishes outcome p.input new
      → (files : List Held) × (outcome ≡ Ok files) × HasFiles new files
  wrote (Ok files) puts = (
    files,
    refl,
    λ name bytes there.
        puts.each name ∙ first_or (file_in name files) (file_in name p.input) bytes there,
  )
  wrote (Err fault) puts = absurd puts

pub publishes_write : PublishesWrite
publishes_write p new published from to version minimum publishable exact ascending named publishes =
    let done = wrote p new (writes.publish_of p.options p.names p.input) publishes.published in (
      done.0,
      record {
        from = from;
        to = to;
        version = version;
        minimum = minimum;
        publishable = publishable;
        exact = exact;
        ascending = ascending;
        named = named;
        written = done.1;
      },
      done.2,
    )

-- ---- an install

joined_at : (url : List ℕ) (d : Deployment) (given base : Target) → target_of_text url ≡ Ok given
    → base_of url d ≡ Ok base → app_target_of given d.codebase ≡ Ok base
joined_at url d given base read is =
    sym (base_is url d given (app_target_of given d.codebase) read refl) ∙ is

no_text : {A : Type 0} → IsSome {T = List ℕ} None → A
no_text some = absurd (by some)
  where
    by : IsSome {T = List ℕ} None → ⊥
    by is = cc

-- Both texts came from where the install asks for them. Where the first link's site has bytes that
-- fit, what came is these.
module _ (links : LinksState) (Came : (List ℕ → Type 0) → Target → List ℕ → Type 0)
    (p : PublishInput) (files folder : List Held) (url : List ℕ) (texts : List (List ℕ))
    (w : WritesRelease p files) (holds : HasFiles folder files)
    (first : IsFirstSite p url folder (sites_of links))
    (reaches : (given : Target) → target_of_text url ≡ Ok given
    → Reaches given (deployment_name p.options))
    (same : (Fits : List ℕ → Type 0) (target : Target) (bytes other : List ℕ)
    → Came Fits target bytes → (link_at links 0).site target ≡ Some other → Fits other
    → bytes ≡ other) where
  out : IsOut p folder
  out = is_out p files folder w holds

  given_there : (Fits : List ℕ → Type 0) (target : Target) (bytes other : List ℕ)
      → Came Fits target bytes → (link_at links 0).site target ≡ Some other → Fits other
      → Given Fits (links_of (sites_of links)) target (Some bytes)
  given_there Fits target bytes other came there fits =
      let is : bytes ≡ other = same Fits target bytes other came there fits in record {
        place = 0;
        within = omega (arith, first.some, count_all (sources_of links));
        there = subst (λ (k : ℕ). (link_at links k).site target ≡ Some bytes)
            (sym (number_all (sources_of links) 0 first.some)) (there ∙ ap Some (sym is));
        fits = subst Fits (sym is) fits;
        first = λ k less. absurd (omega (arith, less));
      }

  deployment_at : (given : Target) → target_of_text url ≡ Ok given
      → (link_at links 0).site given ≡ Some out.last
  deployment_at given read =
      at_name folder (sites_of links) given (deployment_name p.options) out.last
      (first.shows given given read (inl refl)) (reaches given read).named out.deployment

  abbrev IsFirstText : List ℕ → Type 0
  IsFirstText text = (target : Target) × (target_of_text url ≡ Ok target)
      × Came (FitsText MANIFEST_LIMIT) target text

  abbrev IsSecondText : List ℕ → Type 0
  IsSecondText text = OfDeployment texts (λ d. (base : Target) × (base_of url d ≡ Ok base)
      × Came (Matches d.app_list d.app_size) base text)

  deployment_came : (found : Option (List ℕ)) → IsSome found → IfSome found IsFirstText
      → (given : Target) × (target_of_text url ≡ Ok given)
      × GivenText MANIFEST_LIMIT (links_of (sites_of links)) given found
  deployment_came None some heard = no_text some
  deployment_came (Some text) some heard = (
    heard.0,
    heard.1,
    given_there (FitsText MANIFEST_LIMIT) heard.0 text out.last heard.2
        (deployment_at heard.0 heard.1) out.deployment_short,
  )

  first_came : (found : Option (List ℕ)) → IsSome found → IfSome found IsFirstText
      → found ≡ Some out.last
  first_came None some heard = no_text some
  first_came (Some text) some heard =
      ap Some (same (FitsText MANIFEST_LIMIT) heard.0 text out.last heard.2
      (deployment_at heard.0 heard.1) out.deployment_short)

  application_came : (given : Target) → target_of_text url ≡ Ok given
      → slice_get texts 0 ≡ Some out.last → (found : Option (List ℕ)) → IsSome found
      → IfSome found IsSecondText
      → OfDeployment texts (λ d. (base : Target) × (app_target_of given d.codebase ≡ Ok base)
      × GivenFile d.app_list d.app_size (links_of (sites_of links)) base found)
  application_came given read heard None some x = no_text some
  application_came given read heard (Some text) some x =
      let is : x.1 ≡ writes.deployment_of p.options out.text =
      out.deployment_told x.1 (subst (λ (t : List ℕ). Tells deployment_of t (Ok x.1))
      (same_Some x.0 out.last (sym x.2 ∙ heard)) x.3) in
      let joined = joined_at url x.1 given x.4.0 read x.4.1 in
      let led : app_target_of given (codebase p.options) ≡ Ok x.4.0 =
      subst (λ (d : Deployment). app_target_of given d.codebase ≡ Ok x.4.0) is joined in
      let named = out.base url given x.4.0 read (reaches given read) led in (
        x.0,
        x.1,
        x.2,
        x.3,
        (
          x.4.0,
          joined,
          given_there (Matches x.1.app_list x.1.app_size) x.4.0 text out.text x.4.2
              (at_name folder (sites_of links) x.4.0 (manifest_name p.options) out.text
              (first.shows given x.4.0 read (inr (inl led))) named out.application)
              (subst (λ (d : Deployment). Matches d.app_list d.app_size out.text) (sym is)
              (digests_match out.text)),
        ),
      )

  given_of : IfSome (slice_get texts 0) IsFirstText → IfSome (slice_get texts 1) IsSecondText
      → IsSome (slice_get texts 0) → IsSome (slice_get texts 1)
      → HeardGiven (sites_of links) url texts
  given_of deployment application one two =
      let first_text = deployment_came (slice_get texts 0) one deployment in record {
        given = first_text.0;
        read = first_text.1;
        deployment = first_text.2;
        application = application_came first_text.0 first_text.1
            (first_came (slice_get texts 0) one deployment) (slice_get texts 1) two application;
      }

-- ---- what a command heard

-- the first link is the first that has bytes that fit
abbrev first_at : (links : LinksState) (Fits : List ℕ → Type 0) (target : Target)
    (bytes : List ℕ) → 0 < sources_of links → (link_at links 0).site target ≡ Some bytes → Fits bytes
    → IsFirst Fits links target bytes
first_at links Fits target bytes some there fits = record {
  place = 0;
  within = some;
  there = there;
  fits = fits;
  first = λ k less. absurd (omega (arith, less));
}

pub served_is_given : (before after : LinksState) → ServedIsGiven before after
served_is_given before after p files folder shape url texts reply w holds first reaches served quiet
    one two =
    given_of before (λ Fits target text. IsFrom Fits target before after text) p files folder url
    texts w holds first reaches
    (λ Fits target bytes other from there fits.
    from.enough other (first_at before Fits target other first.some there fits) quiet)
    served.hearing.deployment served.hearing.application one two

-- ---- what a session heard

-- bytes of the only link's site are what it has there
same_there : (links : LinksState) (target : Target) (bytes other : List ℕ) → sources_of links ≡ 1
    → IsOfSite links target bytes → (link_at links 0).site target ≡ Some other → bytes ≡ other
same_there links target bytes other only of there =
    let at = place_of links.there of.number of.left in
    let first : at.place ≡ 0 = omega (arith, at.within, only) in
    let number : of.number ≡ number_at links.there 0 =
    sym at.is ∙ ap (number_at links.there) first in
    same_Some bytes other (sym (subst (λ (n : ℕ). (links.link n).site target ≡ Some bytes) number
    of.there) ∙ there)

pub one_site_is_given : (links : LinksState) → OneSiteIsGiven links
one_site_is_given links p files folder url texts w holds first only reaches heard one two =
    given_of links (λ Fits target text. IsOfSite links target text) p files folder url texts w holds
    first reaches (λ Fits target bytes other of there fits.
    same_there links target bytes other only of there)
    heard.deployment heard.application one two
