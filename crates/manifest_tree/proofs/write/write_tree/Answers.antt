use Rattle.std.proofs.Common.{◌≡◌, ◌<◌, ◌≤◌, ℕ, List, length, sym, ap, subst, ◌∙◌, arith}
use Rattle.manifest_tree.specs.Grammar.{SpellsTree}
use Rattle.manifest_tree.specs.Tree.{tree_of}
use Rattle.manifest_tree.specs.WrittenText.{counted, written}
use Rattle.manifest_tree.proofs.Pushes.{counted_least, counted_within}
use Rattle.manifest_tree.proofs.Written.{length-written, spells}
use Rattle.manifest_tree.proofs.write.write_tree.Goals as goal

pub returns-then-length-clause-too_long : goal.returns-then-length-clause-too_long
returns-then-length-clause-too_long c = λ long.
    let n = length (written (tree_of c.args.node.now)) in
    let is : c.count_element-length.result ≡ counted n = c.count_element-length.ensures ∙ ap counted (sym (length-written (tree_of c.args.node.now))) in cc

pub returns-then-length-clause-fault : goal.returns-then-length-clause-fault
returns-then-length-clause-fault c =
    let n = length (written (tree_of c.args.node.now)) in
    let is : c.count_element-length.result ≡ counted n = c.count_element-length.ensures ∙ ap counted (sym (length-written (tree_of c.args.node.now))) in
    let most : counted n ≤ n = counted_least n in
    let above : 4194304 < c.count_element-length.result = c.if-length.true in
    (omega arith, is)

pub returns-in_err-text_of-clause-too_long : goal.returns-in_err-text_of-clause-too_long
returns-in_err-text_of-clause-too_long c = λ long.
    let n = length (written (tree_of c.args.node.now)) in
    let is : c.count_element-length.result ≡ counted n = c.count_element-length.ensures ∙ ap counted (sym (length-written (tree_of c.args.node.now))) in
    let short : n ≤ 4194304 = counted_within n 4194304 (omega arith) (subst (λ (k : ℕ). k ≤ 4194304) is c.if-length.false) in
    absurd (omega arith)

pub returns-clause-read_back : goal.returns-clause-read_back
returns-clause-read_back c =
    let t = tree_of c.args.node.now in
    let is : c.count_element-length.result ≡ counted (length (written t)) = c.count_element-length.ensures ∙ ap counted (sym (length-written t)) in
    let short : length (written t) ≤ 4194304 = counted_within (length (written t)) 4194304 (omega arith) (subst (λ (k : ℕ). k ≤ 4194304) is c.if-length.false) in
    subst (λ (text : List ℕ). SpellsTree text t) (sym c.in_ok-text_of.ensures.text) (spells t c.requires c.in_ok-text_of.ensures.utf8 short)

pub returns-clause-too_long : goal.returns-clause-too_long
returns-clause-too_long c = λ long.
    let n = length (written (tree_of c.args.node.now)) in
    let is : c.count_element-length.result ≡ counted n = c.count_element-length.ensures ∙ ap counted (sym (length-written (tree_of c.args.node.now))) in
    let short : n ≤ 4194304 = counted_within n 4194304 (omega arith) (subst (λ (k : ℕ). k ≤ 4194304) is c.if-length.false) in
    absurd (omega arith)
