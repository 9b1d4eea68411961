use Rattle.std.proofs.Common.{◌≡◌, ◌++◌, drop}
use Rattle.arrayvec.specs.ArrayVec.{array_vec_len}
use Rattle.small_types.specs.Name.{name_text}
use Rattle.small_types.proofs.name.with_slashes_here.Given as goal

abbrev pub invariant-loop-byte : goal.invariant-loop-byte
invariant-loop-byte l = record {
  rest : l.text.items ++ name_text (drop l.byte-index l.bytes) ≡ name_text l.bytes;
  count : array_vec_len l.text ≡ l.byte-index;
}
