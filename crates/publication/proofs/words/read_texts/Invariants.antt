use Rattle.std.proofs.Common.{◌≡◌, ◌++◌, map, drop}
use Rattle.publication.specs.Words.{are_texts}
use Rattle.publication.proofs.words.read_texts.Given as goal

abbrev pub invariant-loop-word : goal.invariant-loop-word
invariant-loop-word l = record {
  read : map (λ s. s.now) l.texts.items ++ drop l.word-index l.words ≡ l.words;
  text : are_texts (drop l.word-index l.words) ≡ are_texts l.words;
}
