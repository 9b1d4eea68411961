use Rattle.std.proofs.Common.{◌≡◌, sym, subst}
use Rattle.small_types.specs.Name.{IsName}
use Rattle.small_types.proofs.Spelled.{unread, no_long_name, read_again}
use Rattle.small_types.proofs.name.Name.read.Goals as goal

pub returns-then-bytes-gt-NAME_LIMIT-clause-exact : goal.returns-then-bytes-gt-NAME_LIMIT-clause-exact
returns-then-bytes-gt-NAME_LIMIT-clause-exact c = unread c.args.bytes.now (no_long_name c.args.bytes.now c.if-bytes-gt-NAME_LIMIT.true)

pub returns-in_ok-name_with-in-Some-clause-again : goal.returns-in_ok-name_with-in-Some-clause-again
returns-in_ok-name_with-in-Some-clause-again c =
    let same : c.in_ok-name_with-in-Some.field-0 ≡ c.in-Some.text.now = c.in_ok-name_with-in-Some.ensures in
    let text = c.in-Some.ensures in
    let is : IsName c.in-Some.text.now = subst IsName (sym text.0) text.1 in
    read_again _ (subst IsName (sym same) is)
