use Rattle.std.proofs.Common.{◌≡◌, true, false, List, take, refl, sym, ap, ◌∙◌, arith}
use Rattle.std.specs.BTreeSet.{contains_text}
use Rattle.manifests.specs.declared.facts.FileEntry.{FileEntry}
use Rattle.manifests.specs.Applications.{is_taken}
use Rattle.manifests.proofs.TakenNames.{next_is, differ_next, same_name, differ_all}
use Rattle.manifests.proofs.KnownFiles.{names_more}
use Rattle.manifests.proofs.file_lists.have_other_names.Goals as goal

pub returns-then-contains : goal.returns-then-contains
returns-then-contains c =
    let files = c.args.files.now in
    let e = c.entry-item.result in
    let taken : is_taken (take c.loop-entry.entry-index files) e.name ≡ true =
    sym (c.loop-entry.invariant.names_are e.name) ∙ ap (contains_text c.loop-entry.names) (sym c.as_str.ensures.value) ∙ sym c.contains.ensures ∙ c.if-contains.true in
    (λ is. absurd cc, λ differ. absurd (same_name files c.loop-entry.entry-index e (omega arith) c.entry-item.is taken differ))

pub loop-entry-preserved : goal.loop-entry-preserved
loop-entry-preserved c =
    let files = c.args.files.now in
    let i = c.loop-entry.entry-index in
    let e = c.entry-item.result in
    let fresh : is_taken (take i files) e.name ≡ false =
    sym (c.loop-entry.invariant.names_are e.name) ∙ ap (contains_text c.loop-entry.names) (sym c.as_str.ensures.value) ∙ sym c.contains.ensures ∙ c.if-contains.false in
    record {
      names_are = λ name.
          names_more (take i files) e c.loop-entry.names _ c.in_ok-name.name c.loop-entry.invariant.names_are (c.in_ok-name.ensures.ok ∙ c.as_str-in-loop-entry.ensures.value) c.in_ok-insert.ensures.updates name
          ∙ ap (λ (fs : List FileEntry). is_taken fs name) (sym (next_is files i e (omega arith) c.entry-item.is));
      differ = differ_next files i e (omega arith) c.entry-item.is c.loop-entry.invariant.differ fresh;
    }

pub returns : goal.returns
returns c = (λ is. differ_all c.args.files.now c.loop-entry.entry-index c.loop-entry-test.false c.loop-entry.invariant.differ, λ differ. refl)
