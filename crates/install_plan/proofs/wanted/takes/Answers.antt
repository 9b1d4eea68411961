use Rattle.std.proofs.Common.{◌≡◌, ◌∙◌, ◌&&◌, ◌++◌, ◌∷◌, [], ℕ, Bool, true, false, cond, not, List, Option, Some, None, is_none, map, refl, sym, ap}
use Rattle.std.specs.Prelude.{is_some, string_bytes}
use Rattle.std.specs.Str.{bytes_eq}
use Rattle.std.proofs.lemmas.Option.{slice_get_read}
use Rattle.std.proofs.Common.{length}
use Rattle.manifests.specs.declared.facts.FileEntry.{FileEntry}
use Rattle.machine.specs.Blocks.{standing_files}
use Rattle.store_state.specs.Tables.{bare_row}
use Rattle.install_plan.specs.WantedFiles.{Takes, content_text, is_among, row}
use Rattle.install_plan.proofs.Noted.{at_place, in_group, is_kept, knows_more, takes_data, takes_none, takes_program, was_wanted}
use Rattle.install_plan.proofs.wanted.takes.Goals as goal
use Rattle.install_plan.proofs.wanted.takes.Goals.{then-is_some-via-then-is_some, then-is_some-via-else-is_some+then-holds}

grouped : {X : Type 0} (a : Bool) (o : Option X) → is_some o ≡ true → (a && is_none o) ≡ false
grouped true (Some x) e = refl
grouped false (Some x) e = refl
grouped a None e = absurd (let e = e in cc)

alone : {X : Type 0} (a : Bool) (o : Option X) → a ≡ false → is_some o ≡ false → (not a && is_none o) ≡ true
alone false None e f = refl
alone false (Some x) e f = absurd (let f = f in cc)
alone true o e f = absurd (let e = e in cc)

pub returns-then-entry-clause-takes : goal.returns-then-entry-clause-takes
returns-then-entry-clause-takes c = λ taken knows.
    let files = c.args.files.now in
    let held = standing_files (map bare_row c.args.state.now.views) in
    let entry = c.index-files-place.result in
    let there = slice_get_read files (length files) c.args.place entry refl c.requires c.index-files-place.is in
    at_place (λ (e : FileEntry). Takes files held taken e c.args.table.now true) files c.args.place entry there
    (takes_data files held taken entry c.args.table.now knows c.if-entry.true)

pub returns-then-is_some-clause-takes : goal.returns-then-is_some-clause-takes
returns-then-is_some-clause-takes c = λ taken knows.
    let files = c.args.files.now in
    let held = standing_files (map bare_row c.args.state.now.views) in
    let entry = c.index-files-place.result in
    let table = c.args.table.now in
    let there = slice_get_read files (length files) c.args.place entry refl c.requires c.index-files-place.is in
    at_place (λ (e : FileEntry). Takes files held taken e table false) files c.args.place entry there
    (takes_none files held taken entry table knows c.if-entry.false
    (elim c.then-is_some.branch [
      | then-is_some-via-then-is_some w ↦ in_group files held taken entry table (grouped (not entry.local) entry.group (sym c.is_some.ensures ∙ w.if-is_some.true))
      | then-is_some-via-else-is_some+then-holds w ↦ is_kept files held taken entry table (sym w.holds.ensures ∙ w.if-holds.true)
    ]))

pub returns-then-is_noted-clause-takes : goal.returns-then-is_noted-clause-takes
returns-then-is_noted-clause-takes c = λ taken knows.
    let files = c.args.files.now in
    let held = standing_files (map bare_row c.args.state.now.views) in
    let entry = c.index-files-place.result in
    let table = c.args.table.now in
    let there = slice_get_read files (length files) c.args.place entry refl c.requires c.index-files-place.is in
    let text : c.as_str.result.now ≡ content_text entry.size entry.list = c.as_str.ensures.value ∙ c.in-Ok.ensures.text in
    at_place (λ (e : FileEntry). Takes files held taken e table false) files c.args.place entry there
    (takes_none files held taken entry table knows c.if-entry.false
    (was_wanted files held taken entry table
    (sym (knows entry) ∙ ap (λ (t : List ℕ). is_among files entry (row table t)) (sym text) ∙ sym c.is_noted.ensures ∙ c.if-is_noted.true)))

pub returns-in-Ok-note-clause-takes : goal.returns-in-Ok-note-clause-takes
returns-in-Ok-note-clause-takes c = λ taken knows.
    let files = c.args.files.now in
    let held = standing_files (map bare_row c.args.state.now.views) in
    let entry = c.index-files-place.result in
    let table = c.args.table.now in
    let there = slice_get_read files (length files) c.args.place entry refl c.requires c.index-files-place.is in
    let text : c.as_str.result.now ≡ content_text entry.size entry.list = c.as_str.ensures.value ∙ c.in-Ok.ensures.text in
    let spelled : string_bytes c.in-Ok.text ≡ content_text entry.size entry.list = c.in-Ok.ensures.text in
    let fresh = sym (knows entry) ∙ ap (λ (t : List ℕ). is_among files entry (row table t)) (sym text) ∙ sym c.is_noted.ensures ∙ c.if-is_noted.false in
    let more = knows_more files taken table c.note.new.table entry c.args.place there knows
    (λ (q : List ℕ). c.in-Ok-note.ensures.added q ∙ ap (λ (t : List ℕ). cond (bytes_eq t q) (row table q ++ c.args.place ∷ []) (row table q)) spelled) in
    at_place (λ (e : FileEntry). Takes files held taken e c.note.new.table true) files c.args.place entry there
    (takes_program files held taken entry c.note.new.table more c.if-entry.false
    (alone entry.local entry.group c.if-entry.false (sym c.is_some.ensures ∙ c.if-is_some.false)) fresh (sym c.holds.ensures ∙ c.if-holds.false))
