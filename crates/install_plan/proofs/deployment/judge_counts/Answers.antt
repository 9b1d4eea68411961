use Rattle.std.proofs.Common.{◌≡◌, ◌≤◌, ◌∙◌, ℕ, inl, inr, length, map, refl, sym, ap, arith}
use Rattle.machine.specs.InstallRow.{LacksEntry}
use Rattle.machine.specs.declared.reply.Reply.TheVariants.{Spent}
use Rattle.store_state.specs.Tables.{Tables, bare_row, table_shape}
use Rattle.install_plan.proofs.Judged.{not_so, rows}
use Rattle.install_plan.proofs.deployment.judge_counts.Goals as goal

pub returns-then-lacks_entry : goal.returns-then-lacks_entry
returns-then-lacks_entry c = λ room. inr (λ old. inl (((c.lacks_entry.ensures room c.args.d.now refl).0 c.if-lacks_entry.true, refl), refl))

pub returns-then-view_count-ge-VIEW_LIMIT : goal.returns-then-view_count-ge-VIEW_LIMIT
returns-then-view_count-ge-VIEW_LIMIT c = λ room.
    let lacks = not_so c.lacks_entry.result (LacksEntry (table_shape room c.args.state.now) c.args.d.now) (c.lacks_entry.ensures room c.args.d.now refl) c.if-lacks_entry.false in
    let full : 1024 ≤ length (map bare_row c.args.state.now.views) = omega (arith, rows c.args.state.now.views) in
    inr (λ old. inr (lacks, inl ((full, refl), refl)))

pub returns-then-state-eq-NUMBER_LIMIT : goal.returns-then-state-eq-NUMBER_LIMIT
returns-then-state-eq-NUMBER_LIMIT c = λ room.
    let lacks = not_so c.lacks_entry.result (LacksEntry (table_shape room c.args.state.now) c.args.d.now) (c.lacks_entry.ensures room c.args.d.now refl) c.if-lacks_entry.false in
    let next : c.state.inside.next_view ≡ c.args.state.now.next_view = ap (λ (t : Tables). t.next_view) c.state.view_is in
    inr (λ old. inr (lacks, inr ((λ full. absurd (omega (arith, full, rows c.args.state.now.views))), inl ((sym next ∙ c.if-state-eq-NUMBER_LIMIT.true, ap (λ (n : ℕ). Spent n) next), refl))))

pub returns : goal.returns
returns c = λ room.
    let lacks = not_so c.lacks_entry.result (LacksEntry (table_shape room c.args.state.now) c.args.d.now) (c.lacks_entry.ensures room c.args.d.now refl) c.if-lacks_entry.false in
    let next : c.state.inside.next_view ≡ c.args.state.now.next_view = ap (λ (t : Tables). t.next_view) c.state.view_is in
    (lacks, ((λ full. absurd (omega (arith, full, rows c.args.state.now.views))), ((λ spent. c.if-state-eq-NUMBER_LIMIT.false (next ∙ spent)), tt)))
