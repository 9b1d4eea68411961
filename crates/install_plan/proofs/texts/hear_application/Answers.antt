use Rattle.std.proofs.Common.{ℕ, List, Ok, subst, sym}
use Rattle.digest_list.specs.Matches.{Matches}
use Rattle.fetcher.specs.Causes.{IsFileCause}
use Rattle.manifest_parts.specs.Parts.{RefusesBytes, Tells}
use Rattle.manifests.specs.Applications.{application_of}
use Rattle.machine.specs.declared.reply.Reply.{Reply}
use Rattle.install_plan.specs.Stages.{StopsOne}
use Rattle.install_plan.proofs.Stops.{hears_one, text_refused, unnoted}
use Rattle.install_plan.proofs.texts.hear_application.Goals as goal

pub returns-in-Err-push-clause-stopped : goal.returns-in-Err-push-clause-stopped
returns-in-Err-push-clause-stopped g c =
    let t = c.args.base.now in
    let d = c.args.d.now in
    let a = g.L.Links.links c.args.links.now in
    let b = g.L.Links.links c.fetch_listed.new.links in
    unnoted t a b application_of (IsFileCause d.app_list d.app_size t) (Matches d.app_list d.app_size) c.args.heard.now.texts c.push.new.self c.in-Ok.text
    c.in-Ok.ensures.got c.in-Err-push.ensures.err

pub returns-in-Ok-read-clause-told : goal.returns-in-Ok-read-clause-told
returns-in-Ok-read-clause-told g c =
    let t = c.args.base.now in
    let d = c.args.d.now in
    let a = g.L.Links.links c.args.links.now in
    let b = g.L.Links.links c.fetch_listed.new.links in
    hears_one t a b application_of (IsFileCause d.app_list d.app_size t) (Matches d.app_list d.app_size) c.args.heard.now.texts c.push.new.self c.in-Ok.text
    c.in-Ok.ensures.got c.in-Ok-read.application c.in_default.ensures.ok
    (subst (λ (bytes : List ℕ). Tells application_of bytes (Ok c.in-Ok-read.application)) c.as_slice.ensures c.in-Ok-read.ensures.answers)

pub returns-in-Err-read-clause-stopped : goal.returns-in-Err-read-clause-stopped
returns-in-Err-read-clause-stopped g c =
    let t = c.args.base.now in
    let d = c.args.d.now in
    let a = g.L.Links.links c.args.links.now in
    let b = g.L.Links.links c.fetch_listed.new.links in
    let stops = text_refused t a b application_of (IsFileCause d.app_list d.app_size t) (Matches d.app_list d.app_size) c.args.heard.now.texts c.push.new.self c.in-Ok.text
    c.in-Ok.ensures.got c.in_default.ensures.ok c.in-Err-read.fault
    (subst (λ (bytes : List ℕ). RefusesBytes application_of bytes c.in-Err-read.fault) c.as_slice.ensures c.in-Err-read.ensures.answers) in
    subst (λ (reply : Reply). StopsOne application_of (IsFileCause d.app_list d.app_size t) (Matches d.app_list d.app_size) t a b c.args.heard.now.texts c.push.new.self reply) (sym c.manifest_reply.ensures) stops
