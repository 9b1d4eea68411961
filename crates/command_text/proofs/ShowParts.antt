-- What was written of an application that is shown, part by part.
use Rattle.std.proofs.Common.{List, [], ◌∷◌, ◌++◌, codes, ℕ, Ok, refl}
use Rattle.outside.specs.declared.sink.Sink as sinks
use Rattle.identity.specs.Key.{key_text}
use Rattle.machine.specs.declared.rows.ShowRow.{ShowRow}
use Rattle.command_text.specs.Applications.{optional_target, show_text, state_text, versions_text}
use Rattle.command_text.specs.Pieces.{WritesText}
use Rattle.command_text.proofs.JoinedTexts.{show_parts}
use Rattle.command_text.proofs.Wrote.{Wrote, nothing_yet, one_more}

abbrev pub key_part : ShowRow → List ℕ
key_part row = codes "ok show " ++ (key_text row.key ++ 32 ∷ [])

abbrev pub provider_part : ShowRow → List ℕ
provider_part row = optional_target row.provider ++ 10 ∷ []

abbrev pub behind_versions : ShowRow → List ℕ
behind_versions row = state_text row ++ provider_part row

abbrev pub behind_key : ShowRow → List ℕ
behind_key row = versions_text row ++ behind_versions row

module _ {K : Type 0} (sink : sinks.Ghosts K) (old : K) (row : ShowRow) where
  pub show_begun : Wrote sink old old (show_text row) (key_part row ++ behind_key row)
  show_begun = nothing_yet sink old (show_text row) (key_part row ++ behind_key row) (show_parts row)

  pub key_shown : (new : K) → WritesText sink old new (key_part row) (Ok tt) → Wrote sink old new (show_text row) (behind_key row)
  key_shown new writes = one_more sink old old new (show_text row) (key_part row ++ behind_key row) (key_part row) (behind_key row) refl show_begun writes

  pub versions_shown : (mid new : K) → Wrote sink old mid (show_text row) (behind_key row) → WritesText sink mid new (versions_text row) (Ok tt) → Wrote sink old new (show_text row) (behind_versions row)
  versions_shown mid new wrote writes = one_more sink old mid new (show_text row) (behind_key row) (versions_text row) (behind_versions row) refl wrote writes

  pub state_shown : (mid new : K) → Wrote sink old mid (show_text row) (behind_versions row) → WritesText sink mid new (state_text row) (Ok tt) → Wrote sink old new (show_text row) (provider_part row)
  state_shown mid new wrote writes = one_more sink old mid new (show_text row) (behind_versions row) (state_text row) (provider_part row) refl wrote writes
