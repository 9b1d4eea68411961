use Rattle.std.proofs.Common.{List, ℕ, ap, subst, sym, ◌∙◌}
use Rattle.std.specs.List.{range_with_len}
use Rattle.std.specs.List.Sorted.{IsPermutation}
use Rattle.std.proofs.lemmas.List.{length-map}
use Rattle.manifests.specs.declared.facts.FileEntry.{FileEntry}
use Rattle.store_state.proofs.names.index_names.Goals as goal

pub returns : goal.returns
returns c =
    let places = c.in_ok-places.ensures
    ∙ sym (ap (range_with_len 0) (length-map c.args.files.now (λ (e : FileEntry). e.name))) in
    rw c.from_vec.ensures (record {
      differ = c.requires;
      placed = record {
        sorted = c.sort_names.ensures.sorted;
        same =
            subst (λ (ps : List ℕ). IsPermutation ps c.sort_names.new.places.items) places
            c.sort_names.ensures.same;
      };
    })
