use Rattle.std.proofs.Common.{◌≡◌, ◌++◌, drop}
use Rattle.std.specs.Prelude.{flat_map, string_bytes}
use Rattle.install_plan.specs.WantedFiles.{content_text, digest_text}
use Rattle.install_plan.proofs.taken.content_text.Given as goal

abbrev pub invariant-loop-digest : goal.invariant-loop-digest
invariant-loop-digest l = string_bytes l.text ++ flat_map digest_text (drop l.digest-index l.list) ≡ content_text l.fn.size l.list
