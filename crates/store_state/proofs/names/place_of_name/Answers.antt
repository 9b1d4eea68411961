use Rattle.std.proofs.Common.{arith}
use Rattle.std.proofs.lemmas.List.{length-map}
use Rattle.identity.specs.Printed.{text_cmp}
use Rattle.manifests.specs.declared.facts.FileEntry.{FileEntry}
use Rattle.machine.proofs.EntryOrder.{order}
use Rattle.store_state.specs.Named.{names_of}
use Rattle.store_state.proofs.NamedFiles.{one_text}
use Rattle.store_state.proofs.Places.{stands_at, stands_nowhere, stands_within}
use Rattle.store_state.proofs.names.place_of_name.Goals as goal

pub returns-in-Ok-clause-found : goal.returns-in-Ok-clause-found
returns-in-Ok-clause-found c =
    stands_at text_cmp order one_text (names_of c.args.files.now) c.args.index.now c.requires.placed
    c.args.name.now c.in-Ok.at 0 c.in-Ok.ensures.found

pub returns-in-Ok-clause-within : goal.returns-in-Ok-clause-within
returns-in-Ok-clause-within c =
    omega (
      arith,
      length-map c.args.files.now (λ (e : FileEntry). e.name),
      stands_within text_cmp
          order one_text (names_of c.args.files.now) c.args.index.now c.requires.placed c.args.name.now
          c.in-Ok.at 0 c.in-Ok.ensures.found,
    )

pub returns-in-Err-clause-found : goal.returns-in-Err-clause-found
returns-in-Err-clause-found c =
    stands_nowhere text_cmp order one_text (names_of c.args.files.now) c.args.index.now
    c.requires.placed c.args.name.now c.in-Err.field-0 c.in-Err.ensures.found
