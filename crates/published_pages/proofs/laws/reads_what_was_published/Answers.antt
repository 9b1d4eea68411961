use Rattle.published_pages.proofs.ReadInput.{reads_input}
use Rattle.published_pages.proofs.laws.reads_what_was_published.Goals as goal

pub returns : goal.returns
returns g c = λ p files pages t s.
    reads_input c.published_is_read.ensures c.pages_have_releases.ensures c.releases_are_offered.ensures
    c.steps_keep_sound.ensures.runs c.installs_are_current.ensures c.launches_are_sound.ensures
    (g.L.Links.links c.args.links.now) c.one_site_is_given.ensures c.no_others_come.ensures p files pages t s
