use Rattle.std.proofs.Common.{ℕ, List, Ok, refl, subst, sym}
use Rattle.small_types.specs.declared.limits.TheConstants.{MANIFEST_LIMIT}
use Rattle.fetcher.specs.Causes.{IsTextCause}
use Rattle.fetcher.specs.Given.{FitsText}
use Rattle.manifest_parts.specs.Parts.{RefusesBytes, Tells}
use Rattle.manifests.specs.Deployments.{deployment_of}
use Rattle.machine.specs.declared.reply.Reply.{Reply}
use Rattle.install_plan.specs.Stages.{StopsOne}
use Rattle.install_plan.proofs.Stops.{hears_one, text_fault, text_got, text_refused, text_stops, unnoted}
use Rattle.install_plan.proofs.texts.hear_deployment.Goals as goal

pub fetch_reply-requires : goal.fetch_reply-requires
fetch_reply-requires g c =
    text_fault c.args.target.now (g.L.Links.links c.args.links.now) (g.L.Links.links c.fetch_text.new.links) MANIFEST_LIMIT c.in-Err.fault c.in-Err.ensures.fault

pub returns-in-Err-clause-stopped : goal.returns-in-Err-clause-stopped
returns-in-Err-clause-stopped g c =
    text_stops c.args.target.now (g.L.Links.links c.args.links.now) (g.L.Links.links c.fetch_text.new.links) deployment_of c.args.heard.now.texts c.args.heard.now.texts refl
    MANIFEST_LIMIT c.in-Err.fault c.fetch_reply.result c.in-Err.ensures.fault c.fetch_reply.ensures

pub returns-in-Err-push-clause-stopped : goal.returns-in-Err-push-clause-stopped
returns-in-Err-push-clause-stopped g c =
    let t = c.args.target.now in
    let a = g.L.Links.links c.args.links.now in
    let b = g.L.Links.links c.fetch_text.new.links in
    unnoted t a b deployment_of (IsTextCause MANIFEST_LIMIT t) (FitsText MANIFEST_LIMIT) c.args.heard.now.texts c.push.new.self c.in-Ok.text
    (text_got t a b MANIFEST_LIMIT c.in-Ok.text c.in-Ok.ensures.text) c.in-Err-push.ensures.err

pub returns-in-Ok-read-clause-told : goal.returns-in-Ok-read-clause-told
returns-in-Ok-read-clause-told g c =
    let t = c.args.target.now in
    let a = g.L.Links.links c.args.links.now in
    let b = g.L.Links.links c.fetch_text.new.links in
    hears_one t a b deployment_of (IsTextCause MANIFEST_LIMIT t) (FitsText MANIFEST_LIMIT) c.args.heard.now.texts c.push.new.self c.in-Ok.text
    (text_got t a b MANIFEST_LIMIT c.in-Ok.text c.in-Ok.ensures.text) c.in-Ok-read.deployment c.in_default.ensures.ok
    (subst (λ (bytes : List ℕ). Tells deployment_of bytes (Ok c.in-Ok-read.deployment)) c.as_slice.ensures c.in-Ok-read.ensures.answers)

pub returns-in-Err-read-clause-stopped : goal.returns-in-Err-read-clause-stopped
returns-in-Err-read-clause-stopped g c =
    let t = c.args.target.now in
    let a = g.L.Links.links c.args.links.now in
    let b = g.L.Links.links c.fetch_text.new.links in
    let stops = text_refused t a b deployment_of (IsTextCause MANIFEST_LIMIT t) (FitsText MANIFEST_LIMIT) c.args.heard.now.texts c.push.new.self c.in-Ok.text
    (text_got t a b MANIFEST_LIMIT c.in-Ok.text c.in-Ok.ensures.text) c.in_default.ensures.ok c.in-Err-read.fault
    (subst (λ (bytes : List ℕ). RefusesBytes deployment_of bytes c.in-Err-read.fault) c.as_slice.ensures c.in-Err-read.ensures.answers) in
    subst (λ (reply : Reply). StopsOne deployment_of (IsTextCause MANIFEST_LIMIT t) (FitsText MANIFEST_LIMIT) t a b c.args.heard.now.texts c.push.new.self reply) (sym c.manifest_reply.ensures) stops
