use Rattle.std.proofs.Common.{List, ℕ, refl, subst, sym}
use Rattle.digest_list.specs.Matches.{Matches}
use Rattle.install_plan.specs.Stages.{IsGot}
use Rattle.install_plan.proofs.Stops.{file_fault, file_got, file_stops}
use Rattle.install_plan.proofs.texts.fetch_listed.Goals as goal

pub returns-in-Ok-clause-got : goal.returns-in-Ok-clause-got
returns-in-Ok-clause-got g c =
    let d = c.args.d.now in
    let a = g.L.Links.links c.args.links.now in
    let b = g.L.Links.links c.fetch_file.new.links in
    subst (λ (l : List ℕ). IsGot (Matches d.app_list d.app_size) c.args.base.now a b l) (sym c.from_vec.ensures)
    (file_got c.args.base.now a b d.app_list d.app_size c.fetch_file.new.basket.bytes.items c.in-Ok.ensures.file)

pub returns-in-Err-clause-stopped : goal.returns-in-Err-clause-stopped
returns-in-Err-clause-stopped g c = λ facts texts.
    let t = c.args.base.now in
    let d = c.args.d.now in
    let a = g.L.Links.links c.args.links.now in
    let b = g.L.Links.links c.fetch_file.new.links in
    file_stops t a b facts texts texts refl d.app_list d.app_size c.in-Err.fault c.fetch_reply.result c.in-Err.ensures.fault c.fetch_reply.ensures

pub fetch_reply-requires : goal.fetch_reply-requires
fetch_reply-requires g c =
    let d = c.args.d.now in
    file_fault c.args.base.now (g.L.Links.links c.args.links.now) (g.L.Links.links c.fetch_file.new.links) d.app_list d.app_size c.in-Err.fault c.in-Err.ensures.fault
