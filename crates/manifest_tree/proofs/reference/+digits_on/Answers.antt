use Rattle.std.proofs.Common.{◌≡◌, suc, ◌-◌, arith, ◌∙◌, sym}
use Rattle.manifest_tree.proofs.Numbers.{number_step, number_fits, one_less, digits_more}
use Rattle.manifest_tree.proofs.reference.+digits_on.Goals as goal

pub digits_on-requires : goal.digits_on-requires
digits_on-requires t c =
    let k : c.args.more ≡ suc (c.args.more - 1) = one_less c.args.more c.if-more-eq0.false in
    (omega arith, number_step c.args.number c.base.result c.in_ok-digit.digit (c.args.more - 1) 4294967296 c.base.ensures.small c.in_ok-digit.ensures.small (rw (← k) c.requires))

pub overflow_add-number : goal.overflow_add-number
overflow_add-number t c =
    let k : c.args.more ≡ suc (c.args.more - 1) = one_less c.args.more c.if-more-eq0.false in
    let f = number_fits c.args.number c.base.result c.in_ok-digit.digit (c.args.more - 1) (number_step c.args.number c.base.result c.in_ok-digit.digit (c.args.more - 1) 4294967296 c.base.ensures.small c.in_ok-digit.ensures.small (rw (← k) c.requires)) in
    omega (arith, f)

pub overflow_mul-number : goal.overflow_mul-number
overflow_mul-number t c =
    let k : c.args.more ≡ suc (c.args.more - 1) = one_less c.args.more c.if-more-eq0.false in
    let f = number_fits c.args.number c.base.result c.in_ok-digit.digit (c.args.more - 1) (number_step c.args.number c.base.result c.in_ok-digit.digit (c.args.more - 1) 4294967296 c.base.ensures.small c.in_ok-digit.ensures.small (rw (← k) c.requires)) in
    omega (arith, f)

pub returns-clause-found : goal.returns-clause-found
returns-clause-found t c =
    let k : c.args.more ≡ suc (c.args.more - 1) = one_less c.args.more c.if-more-eq0.false in
    c.digits_on.ensures.found ∙ sym (digits_more c.args.hexadecimal c.args.more (c.args.more - 1) c.args.number c.args.bytes.now c.in_ok-first.first.now c.in_ok-first.tail.now c.in_ok-digit.digit c.base.result k c.in_ok-first.ensures.cases.0 c.if-first-eq59.false c.in_ok-digit.ensures.value c.base.ensures.value)
