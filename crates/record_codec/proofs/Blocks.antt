-- How long lists of blocks are.
use Rattle.std.proofs.Common.{◌≡◌, ℕ, ◌+◌, ◌*◌, List, [], ◌∷◌, length, flat_map, refl, arith}
use Rattle.std.proofs.lemmas.List.{length-append}
use Rattle.record_fields.specs.Spelled.{list_field}
use Rattle.record_fields.proofs.Long.{length-list_field}
use Rattle.record_codec.specs.Spelled.{block_field}

length-blocks : (held : List ℕ) → length (flat_map block_field held) ≡ 4 * length held
length-blocks [] = refl
length-blocks (block ∷ held) =
    omega (
      arith,
      length-blocks held,
      length-append (block_field block) (flat_map block_field held),
    )

-- four bytes of their number, and four of each
pub length-blocks_field : (held : List ℕ)
    → length (list_field block_field held) ≡ 4 + 4 * length held
length-blocks_field held = omega (arith, length-list_field block_field held, length-blocks held)
