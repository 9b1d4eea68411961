use Rattle.std.proofs.Common.{◌≡◌, ◌<◌, ◌≤◌, ◌+◌, ◌∙◌, List, length, sym, subst, arith, rules}
use Rattle.std.proofs.lemmas.Bool.Decides.{nat_tests}
use Rattle.audit_list.specs.declared.line.AuditLine.{AuditLine}
use Rattle.audit_list.specs.Reads.{IsTextOf}
use Rattle.audit_list.specs.Text.{IsRefusedAt}
use Rattle.audit_list.proofs.RefusedLines.{IsFront, front_begins, front_ends, front_goes_on, no_head_ended, no_head_read, no_line_ended, no_line_read, refused_line, refused_rest}
use Rattle.audit_list.proofs.reader.read_text.Goals as goal

pub returns-in_default : goal.returns-in_default
returns-in_default c = no_head_ended c.args.bytes.now c.in_default.ensures.none

pub returns-in_default-read_head : goal.returns-in_default-read_head
returns-in_default-read_head c =
    no_head_read c.args.bytes.now c.in-Some.head.now c.in-Some.behind.now c.in-Some.ensures.found (sym c.read_head.ensures ∙ c.in_default-read_head.is)

pub loop-alloc-init : goal.loop-alloc-init
loop-alloc-init c =
    subst (λ (lines : List AuditLine). IsFront c.args.bytes.now c.in-Some-read_head.count lines c.in-Some.behind.now) (sym c.new-lines.ensures.items)
    (front_begins c.args.bytes.now c.in-Some.head.now c.in-Some.behind.now c.in-Some-read_head.count c.in-Some.ensures.found (sym c.read_head.ensures ∙ c.in-Some-read_head.is))

pub returns-in_default-cut_once : goal.returns-in_default-cut_once
returns-in_default-cut_once c =
    let below : length c.loop-alloc.lines.items < c.in-Some-read_head.count = first_of (omega arith, search rules) in
    let number : length c.loop-alloc.lines.items + 1 ≡ c.len-in-loop-alloc.result + 1 = first_of (omega arith, search rules) in
    subst (IsRefusedAt c.args.bytes.now) number (refused_line c.loop-alloc.invariant below (no_line_ended c.loop-alloc.rest.now c.in_default-cut_once.ensures.none))

pub returns-in_default-read : goal.returns-in_default-read
returns-in_default-read c =
    let below : length c.loop-alloc.lines.items < c.in-Some-read_head.count = first_of (omega arith, search rules) in
    let number : length c.loop-alloc.lines.items + 1 ≡ c.len-in-loop-alloc.result + 1 = first_of (omega arith, search rules) in
    subst (IsRefusedAt c.args.bytes.now) number
    (refused_line c.loop-alloc.invariant below
    (no_line_read c.loop-alloc.rest.now c.in-Some-cut_once.text.now c.in-Some-cut_once.more.now c.in-Some-cut_once.ensures.found (sym c.in-Ok.ensures ∙ c.in_default-read.is)))

pub loop-alloc-preserved : goal.loop-alloc-preserved
loop-alloc-preserved c =
    let below : length c.loop-alloc.lines.items < c.in-Some-read_head.count = first_of (omega arith, search rules) in
    subst (λ (lines : List AuditLine). IsFront c.args.bytes.now c.in-Some-read_head.count lines c.in-Some-cut_once.more.now) (sym c.in_ok-keep.ensures.kept)
    (front_goes_on c.loop-alloc.invariant below c.in-Some-cut_once.text.now c.in-Some-cut_once.more.now c.in-Some-read.line c.in-Some-cut_once.ensures.found
    (sym c.in-Ok.ensures ∙ c.in-Some-read.is))

pub returns-then-not-is_empty : goal.returns-then-not-is_empty
returns-then-not-is_empty c =
    let all : c.in-Some-read_head.count ≤ length c.loop-alloc.lines.items = first_of (omega arith, search rules) in
    let some : 0 < length c.loop-alloc.rest.now = first_of (search rules, grind (arith, nat_tests)) in
    let number : length c.loop-alloc.lines.items + 1 ≡ c.len-then-not-is_empty.result + 1 = first_of (omega arith, search rules) in
    subst (IsRefusedAt c.args.bytes.now) number (refused_rest c.loop-alloc.invariant all some)

pub returns : goal.returns
returns c =
    let all : c.in-Some-read_head.count ≤ length c.loop-alloc.lines.items = first_of (omega arith, search rules) in
    let none : length c.loop-alloc.rest.now ≡ 0 = first_of (search rules, grind (arith, nat_tests)) in
    subst (λ (lines : List AuditLine). IsTextOf c.args.bytes.now (record { lines = lines })) (sym c.from_vec.ensures) (front_ends c.loop-alloc.rest.now c.loop-alloc.invariant all none)
