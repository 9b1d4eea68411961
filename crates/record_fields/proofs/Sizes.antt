-- How long the parts of values are at most.
use Rattle.std.proofs.Common.{ℕ, ◌≤◌, List, length, nat_lt, nat_le, ◌&&◌, arith}
use Rattle.std.specs.List.{list_all}
use Rattle.std.specs.Str.{is_utf8}
use Rattle.std.proofs.lemmas.Bool.{and_parts, leb-true}
use Rattle.small_types.specs.declared.limits.TheConstants.{NAME_LIMIT}
use Rattle.small_types.specs.Name.{IsName, is_name, is_name_byte, is_name_part, name_parts}
use Rattle.digest_list.specs.declared.digest.Digest.{Digest}
use Rattle.digest_list.specs.Digest.{IsSized}
use Rattle.digest_list.proofs.TextLemmas.{size_small}

pub name_le : (text : List ℕ) → IsName text → length text ≤ NAME_LIMIT
unfolding is_name
name_le text is =
    let few = nat_lt 0 (length text) && nat_le (length text) NAME_LIMIT in
    let bytes = list_all is_name_byte text in
    let parts = list_all is_name_part (name_parts text) in
    let first = and_parts (few && bytes && parts) (is_utf8 text) is in
    let second = and_parts (few && bytes) parts first.0 in
    let third = and_parts few bytes second.0 in
    leb-true _ _ (and_parts (nat_lt 0 (length text)) (nat_le (length text) NAME_LIMIT) third.0).1

pub digest_le : (digest : Digest) → IsSized digest → length digest.value ≤ 64
digest_le digest is = let small = size_small digest.algorithm in omega arith
