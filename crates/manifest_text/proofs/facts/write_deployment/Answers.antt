use Rattle.std.proofs.Common.{List, ℕ, Option}
use Rattle.std.specs.Prelude.{codes, decimal}
use Rattle.std.specs.List.{flat_map}
use Rattle.identity.specs.Key.{word_text}
use Rattle.manifest_text.specs.Lines as spec
use Rattle.manifest_text.proofs.LongerTexts.{then, known}
use Rattle.manifest_text.proofs.facts.write_deployment.Goals as goal

pub returns : goal.returns
returns c =
    let d = c.args.deployment.now in
    let install = known (spec.line (codes "install")) c.minimum_line.new.out c.in_ok-line.ensures c.truth.ensures in
    let mapped = known (spec.line (codes "map")) c.line.new.out c.in_ok-line-2.ensures c.truth-2.ensures in
    let provider = known (λ (p : Option (List ℕ)). spec.line (codes "provider") (spec.word_or_none p)) c.rule_line.new.out c.in_ok-provider_line.ensures c.as_ref.ensures.value in
    let codebase = known (λ (t : List ℕ). spec.line (codes "codebase") (word_text t)) c.provider_line.new.out c.in_ok-text_line.ensures c.as_bytes.ensures.value in
    let digests = known (flat_map spec.digest_line) c.number_line.new.out c.in_ok-digest_lines.ensures c.as_slice.ensures.value in
    let ninth = then c.identity_line-2.new.out (spec.line (codes "size") (decimal d.app_size)) (flat_map spec.digest_line d.app_list) c.in_ok-number_line.ensures digests in
    let eighth = then c.text_line.new.out (spec.line (codes "application") (spec.identity_text d.app)) _ c.in_ok-identity_line-2.ensures ninth in
    let seventh = then c.provider_line.new.out (spec.line (codes "codebase") (word_text d.codebase)) _ codebase eighth in
    let sixth = then c.rule_line.new.out (spec.line (codes "provider") (spec.word_or_none d.provider)) _ provider seventh in
    let fifth = then c.line-2.new.out (spec.line (codes "rule") (spec.rule_text d.rule)) _ c.in_ok-rule_line.ensures sixth in
    let fourth = then c.line.new.out (spec.line (codes "map") (spec.truth_text d.mapped)) _ mapped fifth in
    let third = then c.minimum_line.new.out (spec.line (codes "install") (spec.truth_text d.install)) _ install fourth in
    let second = then c.identity_line.new.out (spec.line (codes "minimum") (spec.version_or_none d.minimum)) _ c.in_ok-minimum_line.ensures third in
    then c.args.out.now (spec.line (codes "deployment") (spec.identity_text d.identity)) _ c.in_ok-identity_line.ensures second
