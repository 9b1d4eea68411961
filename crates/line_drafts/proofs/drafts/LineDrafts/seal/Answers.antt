use Rattle.std.proofs.Common.{◌≡◌, ◌∙◌, [], List, refl, sym, ap, subst, arith, map, Contains, ℕ}
use Rattle.std.proofs.lemmas.Grind.{common_steps}
use Rattle.disks.proofs.Books.{spends_as}
use Rattle.disks.proofs.MomentLemmas.{started}
use Rattle.file_store.specs.Stores.{AreUsed, blocks_of_all, draft_blocks, store_base}
use Rattle.file_store.specs.declared.draft.Draft.{Draft}
use Rattle.line_drafts.specs.Held.{AreContents, AreWhole}
use Rattle.line_drafts.proofs.Ends.{nothing_spent}
use Rattle.line_drafts.proofs.Sealed.{none_stand, sealed_stand}
use Rattle.line_drafts.proofs.drafts.LineDrafts.seal.Goals as goal

pub returns-then-is_empty-clause-contents : goal.returns-then-is_empty-clause-contents
returns-then-is_empty-clause-contents g c =
    let empty : c.args.self ≡ [] = grind (arith, common_steps) in
    λ contents held image left. none_stand (store_base c.args.files.now) c.args.self c.from_vec.result contents (g.D.Disk.seen c.args.disk.now) image empty (c.from_vec.ensures ∙ c.self.invariant.none) held

pub returns-then-is_empty-clause-any_moment : goal.returns-then-is_empty-clause-any_moment
returns-then-is_empty-clause-any_moment g c = started g.D.Disk c.args.disk.now (g.D.Disk.left_at c.args.disk.now (g.D.Disk.moment c.args.disk.now)) (λ image left. left)

pub returns-then-is_empty-clause-spends : goal.returns-then-is_empty-clause-spends
returns-then-is_empty-clause-spends g c = nothing_spent g.D.Disk 1 0 c.args.disk.now _ (λ is. cc)

pub seal_all-requires-clause-whole : goal.seal_all-requires-clause-whole
seal_all-requires-clause-whole g c = subst AreWhole (sym c.from_vec-2.ensures) c.self.invariant.whole

pub seal_all-requires-clause-used : goal.seal_all-requires-clause-used
seal_all-requires-clause-used g c = subst (λ (l : List Draft). AreUsed c.args.files.now (blocks_of_all l)) (sym (c.from_vec-2.ensures ∙ c.self.view_is)) c.requires

pub returns-in-Ok-clause-contents : goal.returns-in-Ok-clause-contents
returns-in-Ok-clause-contents g c =
    let base = store_base c.args.files.now in
    let all = c.from_vec-2.ensures ∙ c.self.view_is in
    let lists : c.lists_of.result ≡ map draft_blocks c.args.self = c.lists_of.ensures ∙ ap (map draft_blocks) (c.in-Ok.ensures.drafts ∙ all) in
    λ contents held image left.
    subst (λ (l : List (List ℕ)). AreContents base l contents image) (sym lists)
    (sealed_stand base c.args.self contents (g.D.Disk.seen c.args.disk.now) image
    (λ draft bytes there holds. c.in-Ok.ensures.contents draft bytes (subst (λ (l : List Draft). Contains l draft) (sym all) there) holds image left) held)

pub returns-in-Ok-clause-spends : goal.returns-in-Ok-clause-spends
returns-in-Ok-clause-spends g c =
    spends_as g.D.Disk 1 0 c.args.disk.now c.seal_all.new.disk _ _ (λ err. absurd (let no = err in cc)) (λ is. absurd (cc)) c.in-Ok.ensures.spends

pub returns-in-Err-clause-spends : goal.returns-in-Err-clause-spends
returns-in-Err-clause-spends g c =
    spends_as g.D.Disk 1 0 c.args.disk.now c.seal_all.new.disk _ _ (λ err. refl) (λ is. refl) c.in-Err.ensures.spends
