use Rattle.std.proofs.Common.{◌≡◌, ◌≤◌, ◌+◌, arith, sym, ◌∙◌, ap, subst, ℕ, List}
use Rattle.std.proofs.lemmas.Option.{IfSome_then}
use Rattle.journal.specs.Layout.{part_at}
use Rattle.journal.specs.Steps.{StartsSo}
use Rattle.journal.proofs.Halves.{begins, chosen, first_starts, second_starts, none_then}
use Rattle.journal.proofs.read.read_side.Goals as goal

pub returns-in_default-clause-none : goal.returns-in_default-clause-none
returns-in_default-clause-none g c = λ told side serial both b.
    let half = c.args.half in
    let seen = g.D.Disk.seen c.args.disk.now in
    let two : 2 ≤ half = omega (arith, c.requires.limits.0) in
    let first : c.deref.result.now ≡ part_at 4096 2 seen = c.deref.ensures.value ∙ c.in_ok-first.ensures.bytes (c.read_part-2.ensures.spends.told told) in
    let start = first_starts half seen two side serial both b in
    c.in_default.ensures.none start.0 (subst (λ (l : List ℕ). StartsSo start.0 l) (sym first) start.1)

pub returns-in_default-read_start-clause-none : goal.returns-in_default-read_start-clause-none
returns-in_default-read_start-clause-none g c = λ told side serial both b.
    let half = c.args.half in
    let seen = g.D.Disk.seen c.args.disk.now in
    let two : 2 ≤ half = omega (arith, c.requires.limits.0) in
    let first : c.deref.result.now ≡ part_at 4096 2 seen = c.deref.ensures.value ∙ c.in_ok-first.ensures.bytes (c.read_part-2.ensures.spends.told told) in
    let second : c.deref-2.result.now ≡ part_at (4096 + half) 2 seen = c.deref-2.ensures.value ∙ c.in_ok-second.ensures.bytes told ∙ ap (part_at (4096 + half) 2) c.read_part.ensures.still.same_reads in
    let start = second_starts half seen two side serial both b in
    c.in_default-read_start.ensures.none start.0 (subst (λ (l : List ℕ). StartsSo start.0 l) (sym second) start.1)

pub returns-clause-found : goal.returns-clause-found
returns-clause-found g c = λ told.
    let half = c.args.half in
    let seen = g.D.Disk.seen c.args.disk.now in
    let two : 2 ≤ half = omega (arith, c.requires.limits.0) in
    let first : c.deref.result.now ≡ part_at 4096 2 seen = c.deref.ensures.value ∙ c.in_ok-first.ensures.bytes (c.read_part-2.ensures.spends.told told) in
    let second : c.deref-2.result.now ≡ part_at (4096 + half) 2 seen = c.deref-2.ensures.value ∙ c.in_ok-second.ensures.bytes told ∙ ap (part_at (4096 + half) 2) c.read_part.ensures.still.same_reads in
    let is_first = subst (λ (l : List ℕ). StartsSo c.in-Some.first l) first c.in-Some.ensures.some in
    let is_second = subst (λ (l : List ℕ). StartsSo c.in-Some-read_start.second l) second c.in-Some-read_start.ensures.some in
    IfSome_then c.choose.result c.choose.ensures.some (λ r is. begins half seen two r.0 r.1 r.2 c.in-Some.first c.in-Some-read_start.second is_first is_second is)

pub returns-clause-none : goal.returns-clause-none
returns-clause-none g c = λ told.
    let half = c.args.half in
    let seen = g.D.Disk.seen c.args.disk.now in
    let two : 2 ≤ half = omega (arith, c.requires.limits.0) in
    let first : c.deref.result.now ≡ part_at 4096 2 seen = c.deref.ensures.value ∙ c.in_ok-first.ensures.bytes (c.read_part-2.ensures.spends.told told) in
    let second : c.deref-2.result.now ≡ part_at (4096 + half) 2 seen = c.deref-2.ensures.value ∙ c.in_ok-second.ensures.bytes told ∙ ap (part_at (4096 + half) 2) c.read_part.ensures.still.same_reads in
    let is_first = subst (λ (l : List ℕ). StartsSo c.in-Some.first l) first c.in-Some.ensures.some in
    let is_second = subst (λ (l : List ℕ). StartsSo c.in-Some-read_start.second l) second c.in-Some-read_start.ensures.some in
    none_then c.choose.result c.choose.ensures.none (λ none side serial both b. none side serial both (chosen half seen two side serial both c.in-Some.first c.in-Some-read_start.second is_first is_second b))
