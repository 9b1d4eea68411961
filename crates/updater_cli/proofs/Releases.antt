-- A site that has a release is that of a folder, at what an install of it asks for.
use Rattle.std.proofs.Common.{◌≡◌, ◌<◌, ◌∙◌, inl, inr, sym, ap, subst, List, ℕ, Some, Ok}
use Rattle.small_types.specs.declared.target.Target.{Target}
use Rattle.folders.specs.declared.folder.Held.{Held}
use Rattle.folders.specs.Files.{file_in}
use Rattle.addresses.specs.Address.{target_of_text}
use Rattle.links.specs.declared.mem_link.Page.{Page}
use Rattle.links.specs.Pages.{page_in}
use Rattle.machine.proofs.Members.{in_contains}
use Rattle.http_plain.specs.Path.{name_in_path}
use Rattle.http_plain.specs.Sites.{file_named as file_at, served}
use Rattle.publish_plan.specs.Places.{deployment_name, manifest_name, target_name}
use Rattle.published_paths.specs.Reached.{Reaches}
use Rattle.updater_cli.specs.Offered.{IsAskedFor, PublishInput, Sites, WritesRelease}
use Rattle.updater_cli.specs.Releases.{AreReleasePages, HasPage, HasRelease, PagesHaveReleases, ReleasesAreOffered}
use Rattle.updater_cli.proofs.Pages.{page_found}
use Rattle.updater_cli.proofs.PublishedLaw.{ok_is}
use Rattle.updater_cli.proofs.PublishedOut.{IsOut}
use Rattle.updater_cli.proofs.PublishedRelease.{is_out}

module _ (p : PublishInput) (files : List Held) (url : List ℕ) (given : Target) (sites : Sites)
    (w : WritesRelease p files) (read : target_of_text url ≡ Ok given)
    (reaches : Reaches given (deployment_name p.options)) (has : HasRelease p files given sites) where
  out : IsOut p files
  out = is_out p files files w (λ name bytes there. there)

  -- a folder shows the file that a path names
  shown : (target : Target) (name : List ℕ) → name_in_path target.path ≡ Some name
      → sites.site 0 target ≡ file_in name files → sites.site 0 target ≡ served files target
  shown target name named there = there ∙ sym (ap (file_at files) named)

  each_shown : (target : Target) → IsAskedFor p given target
      → sites.site 0 target ≡ served files target
  each_shown target (inl is) =
      subst (λ (t : Target). sites.site 0 t ≡ served files t) (sym is)
      (shown given (deployment_name p.options) reaches.named has.deployment)
  each_shown target (inr (inl joined)) =
      shown target (manifest_name p.options) (out.base url given target read reaches joined)
      (has.application target joined)
  each_shown target (inr (inr file)) =
      shown target (target_name p.options file.1.name)
      (out.reached url given file.0 read reaches file.2 file.1 file.3 target file.4)
      (has.each file.0 target file.1 file.2 file.3 file.4)

pub releases_are_offered : ReleasesAreOffered
releases_are_offered p files url given sites w read reaches has = (
  record {
    some = has.some;
    shows = λ other target is asked.
        each_shown p files url given sites w read reaches has target
        (subst (λ (t : Target). IsAskedFor p t target) (ok_is other given (sym is ∙ read)) asked);
  },
  λ name bytes there. there,
)

-- ---- pages in memory

module _ (p : PublishInput) (files : List Held) (given : Target) (sites : Sites)
    (pages : List Page) (w : WritesRelease p files) (some : 0 < sites.sources)
    (paged : (target : Target) → sites.site 0 target ≡ page_in target pages)
    (are : AreReleasePages p files given pages) where
  written : IsOut p files
  written = is_out p files files w (λ name bytes there. there)

  -- the page of what was written under a name
  page_is : (target : Target) (name bytes : List ℕ) → file_in name files ≡ Some bytes
      → HasPage pages target bytes → sites.site 0 target ≡ file_in name files
  page_is target name bytes there has =
      paged target
      ∙ page_found pages (record { target = target; bytes = bytes }) are.differ
      (in_contains pages (record { target = target; bytes = bytes }) has)
      ∙ sym there

  has_release : HasRelease p files given sites
  has_release = record {
    some = some;
    deployment =
        page_is given (deployment_name p.options) written.last written.deployment
        (are.deployment written.last written.deployment);
    application = λ base joined.
        page_is base (manifest_name p.options) written.text written.application
        (are.application base written.text joined written.application);
    each = λ base target entry joined listed at.
        let file = written.files entry listed in
        page_is target (target_name p.options entry.name) file.whole file.out
        (are.each base target entry file.whole joined listed at file.out);
  }

pub pages_have_releases : PagesHaveReleases
pages_have_releases p files given sites pages w some paged are =
    has_release p files given sites pages w some paged are
