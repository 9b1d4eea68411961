-- A word that is a group.
use Rattle.std.proofs.Common.{◌≡◌, ◌<◌, ◌&&◌, ℕ, true, false, List, Some, None, nat_le, nat_lt, length, arith}
use Rattle.std.specs.Str.{is_utf8}
use Rattle.std.proofs.lemmas.Bool.{and_parts, cond-false, cond-true, false_from_ne_true, leb-true, ltb-true}
use Rattle.std.proofs.lemmas.Str.{IsUtf8-from_is_utf8}
use Rattle.percent_encoding.specs.Percent.{percent_decode}
use Rattle.small_types.specs.declared.limits.TheConstants.{NAME_LIMIT}
use Rattle.machine.specs.Words.{IsGroup}
use Rattle.command_text.specs.Lines.{group_in, group_word, is_group}

pub group_form : (text : List ℕ) → is_group text ≡ true → IsGroup text
unfolding is_group
group_form text is =
    let parts = and_parts (nat_lt 0 (length text) && nat_le (length text) NAME_LIMIT) (is_utf8 text) is in
    let two = and_parts (nat_lt 0 (length text)) (nat_le (length text) NAME_LIMIT) parts.0 in
    let some = ltb-true 0 (length text) two.0 in
    record {
      some = omega arith;
      short = record {
        within = leb-true (length text) NAME_LIMIT two.1;
        utf8 = IsUtf8-from_is_utf8 text parts.1;
      };
    }

pub some_group : (text : List ℕ) → is_group text ≡ true → group_in text ≡ Some text
unfolding group_in
some_group text is = cond-true _ _ _ is

no_group : (text : List ℕ) → is_group text ≡ false → group_in text ≡ None
unfolding group_in
no_group text not = cond-false _ _ _ not

-- its bytes are more than a group has
pub group_too_long : (word : List ℕ) → NAME_LIMIT < length (percent_decode word) → group_word word ≡ None
group_too_long word long =
    let text = percent_decode word in
    no_group text (false_from_ne_true (is_group text) (λ is.
    (let within = (group_form text is).short.within in omega arith)))
