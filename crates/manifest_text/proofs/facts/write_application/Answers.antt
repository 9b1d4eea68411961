use Rattle.std.proofs.Common.{◌++◌, List, ℕ}
use Rattle.std.specs.Prelude.{codes}
use Rattle.std.specs.List.{flat_map}
use Rattle.identity.specs.Key.{word_text}
use Rattle.manifest_text.specs.Lines as spec
use Rattle.manifest_text.proofs.LongerTexts.{then, known}
use Rattle.manifest_text.proofs.facts.write_application.Goals as goal

pub returns : goal.returns
returns c =
    let a = c.args.application.now in
    let first = spec.line (codes "application") (spec.identity_text a.identity) in
    let second = spec.line (codes "entry") (word_text a.entry) in
    let third = spec.line (codes "parameters") (word_text a.parameters) in
    let rest = flat_map spec.file_lines a.files in
    let entry = known (λ (t : List ℕ). spec.line (codes "entry") (word_text t)) c.identity_line.new.out c.in_ok-text_line.ensures c.as_bytes.ensures.value in
    let parameters = known (λ (t : List ℕ). spec.line (codes "parameters") (word_text t)) c.text_line.new.out c.in_ok-text_line-2.ensures c.as_bytes-2.ensures.value in
    let files = known (flat_map spec.file_lines) c.text_line-2.new.out c.in_ok-all_files.ensures c.as_slice.ensures in
    then c.args.out.now first (second ++ (third ++ rest)) c.in_ok-identity_line.ensures
    (then c.identity_line.new.out second (third ++ rest) entry
    (then c.text_line.new.out third rest parameters files))
