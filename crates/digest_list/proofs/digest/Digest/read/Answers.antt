use Rattle.std.proofs.Common.{take, length-take-le, refl, ◌∙◌, arith}
use Rattle.digest_list.proofs.TextLemmas.{digest_of-long, digest_of-none, digest_of-refused, digest_of-value, size_small, spelled_by}
use Rattle.digest_list.proofs.digest.Digest.read.Goals as goal

pub returns-in_default-clause-exact : goal.returns-in_default-clause-exact
returns-in_default-clause-exact c = digest_of-long c.args.algorithm c.args.text.now (λ i. let f = c.type_inv.text i in omega arith) c.in_default.ensures.long

pub returns-in_default-clause-refused : goal.returns-in_default-clause-refused
returns-in_default-clause-refused c = λ _.
    digest_of-refused c.args.algorithm c.args.text.now (λ i. let f = c.type_inv.text i in omega arith) (returns-in_default-clause-exact c)

pub returns-then-not-decode_here-clause-exact : goal.returns-then-not-decode_here-clause-exact
returns-then-not-decode_here-clause-exact c =
    let other = c.decode_here.ensures.other c.if-not-decode_here.true in
    digest_of-none c.args.algorithm c.args.text.now (rw (c.size-size.ensures, c.deref.ensures.0 ∙ c.in-Some.ensures.dense) at other)

pub returns-then-not-decode_here-clause-refused : goal.returns-then-not-decode_here-clause-refused
returns-then-not-decode_here-clause-refused c = λ _.
    digest_of-refused c.args.algorithm c.args.text.now (λ i. let f = c.type_inv.text i in omega arith) (returns-then-not-decode_here-clause-exact c)

pub returns-in_err-value-clause-memory : goal.returns-in_err-value-clause-memory
returns-in_err-value-clause-memory c = λ _.
    let out = c.decode_here.new.out in
    let decoded = rw (c.deref.ensures.0 ∙ c.in-Some.ensures.dense) at (c.decode_here.ensures.value c.if-not-decode_here.false) in
    rw (digest_of-value c.args.algorithm c.args.text.now (take c.size-size.result out) decoded (length-take-le c.size-size.result out (omega (arith, c.decode_here.ensures.room, c.size-size.ensures, size_small c.args.algorithm)) ∙ c.size-size.ensures)) refl

pub returns-clause-exact : goal.returns-clause-exact
returns-clause-exact c =
    let out = c.decode_here.new.out in
    let decoded = rw (c.deref.ensures.0 ∙ c.in-Some.ensures.dense) at (c.decode_here.ensures.value c.if-not-decode_here.false) in
    rw (c.from_vec.ensures, c.in_ok-value.ensures.items)
    (digest_of-value c.args.algorithm c.args.text.now (take c.size-size.result out) decoded (length-take-le c.size-size.result out (omega (arith, c.decode_here.ensures.room, c.size-size.ensures, size_small c.args.algorithm)) ∙ c.size-size.ensures))

pub returns-clause-spelled : goal.returns-clause-spelled
returns-clause-spelled c =
    let decoded = rw (c.deref.ensures.0 ∙ c.in-Some.ensures.dense) at (c.decode_here.ensures.value c.if-not-decode_here.false) in
    rw (c.from_vec.ensures, c.in_ok-value.ensures.items) (spelled_by c.args.text.now (take c.size-size.result c.decode_here.new.out) (λ i. let f = c.type_inv.text i in omega arith) decoded)
