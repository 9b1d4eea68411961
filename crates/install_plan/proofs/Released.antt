-- The judgement of a release before its weight, call by call.
use Rattle.std.proofs.Common.{◌≡◌, ◌⊎◌, ◌++◌, ◌<◌, ℕ, inl, inr, refl, subst, List, Ok, Err, map}
use Rattle.std.specs.Prelude.{Any}
use Rattle.small_types.specs.declared.limits.TheConstants.{FILE_COUNT_LIMIT}
use Rattle.small_types.specs.declared.target.Target.{Target}
use Rattle.addresses.specs.declared.fault.UrlFault.TheVariants.{BadUrl}
use Rattle.addresses.specs.Join.{file_target_of}
use Rattle.manifests.specs.declared.facts.Application.{Application}
use Rattle.manifests.specs.declared.facts.Deployment.{Deployment}
use Rattle.manifests.specs.declared.facts.FileEntry.{FileEntry}
use Rattle.machine.specs.declared.reply.Reply.{Reply}
use Rattle.machine.specs.declared.reply.Reply.TheVariants as says
use Rattle.machine.specs.Blocks.{free_blocks}
use Rattle.machine.specs.InstallRow.{OfWanted, base_of, files_after}
use Rattle.machine.specs.Rows.{PassesAll}
use Rattle.machine.specs.Shape.{Shape}
use Rattle.machine.specs.Wanted.{install_need, wanted}
use Rattle.install_plan.specs.declared.plan.WantedFile.{WantedFile}
use Rattle.install_plan.specs.Judges.{Refused, file_checks, identity_checks, local_checks, place_checks, room_checks, target_checks}
use Rattle.install_plan.proofs.Listed.{passes_both, refused_left, refused_right}
use Rattle.install_plan.proofs.Told.{ok_one}
use Rattle.install_plan.proofs.Wants.{none_refused}

-- not too many files are listed
pub behind_count : (shape : Shape) (d : Deployment) (a : Application) → (FILE_COUNT_LIMIT < files_after shape a → ⊥) → (reply : Reply) → Refused (local_checks shape d a) reply → Refused (file_checks shape d a) reply
behind_count shape d a few reply (inl memory) = inl memory
behind_count shape d a few reply (inr refuses) = inr (λ old. inr (few, refuses old))

module _ (shape : Shape) (url : List ℕ) (d : Deployment) (a : Application) (base : Target)
    (at : base_of url d ≡ Ok base) where
  pub by_identity : (reply : Reply) → Refused (identity_checks d a) reply → Refused (place_checks url shape d a) reply
  by_identity reply refused =
      let i = identity_checks d a in
      let f = file_checks shape d a in
      let t = target_checks url shape d a in
      refused_left (i ++ f ++ t) (room_checks (install_need shape d a) (free_blocks shape)) reply (refused_left (i ++ f) t reply (refused_left i f reply refused))

  module _ (identity : PassesAll (identity_checks d a)) where
    pub by_files : (reply : Reply) → Refused (file_checks shape d a) reply → Refused (place_checks url shape d a) reply
    by_files reply refused =
        let i = identity_checks d a in
        let f = file_checks shape d a in
        let t = target_checks url shape d a in
        refused_left (i ++ f ++ t) (room_checks (install_need shape d a) (free_blocks shape)) reply (refused_left (i ++ f) t reply (refused_right i f reply identity refused))

    module _ (files : PassesAll (file_checks shape d a)) where
      bad_target : (reply : Reply) → (reply ≡ says.Memory) ⊎ ((reply ≡ says.BadUrl) × Any (λ entry. file_target_of base d.mapped entry.name ≡ Err BadUrl) (wanted shape.views a)) → Refused (target_checks url shape d a) reply
      bad_target reply (inl memory) = inl memory
      bad_target reply (inr bad) = inr (λ old. inl (((base, at, bad.1), bad.0), refl))

      pub by_wants : (reply : Reply) → (reply ≡ says.Memory) ⊎ ((reply ≡ says.BadUrl) × Any (λ entry. file_target_of base d.mapped entry.name ≡ Err BadUrl) (wanted shape.views a)) → Refused (place_checks url shape d a) reply
      by_wants reply refused =
          let i = identity_checks d a in
          let f = file_checks shape d a in
          let t = target_checks url shape d a in
          refused_left (i ++ f ++ t) (room_checks (install_need shape d a) (free_blocks shape)) reply (refused_right (i ++ f) t reply (passes_both i f identity files) (bad_target reply refused))

      module _ (found : List WantedFile) (targets : map (λ entry. file_target_of base d.mapped entry.name) (wanted shape.views a) ≡ map (λ file. Ok file.target) found)
          (need : ℕ) (is : need ≡ install_need shape d a) where
        no_target : OfWanted url shape d a (λ target. target ≡ Err BadUrl) → ⊥
        no_target bad =
            let same : bad.0 ≡ base = ok_one (base_of url d) bad.0 base bad.1 at in
            none_refused base d.mapped (wanted shape.views a) found targets
            (subst (λ (t : Target). Any (λ (entry : FileEntry). file_target_of t d.mapped entry.name ≡ Err BadUrl) (wanted shape.views a)) same bad.2)

        before : PassesAll (identity_checks d a ++ file_checks shape d a ++ target_checks url shape d a)
        before = passes_both (identity_checks d a ++ file_checks shape d a) (target_checks url shape d a) (passes_both (identity_checks d a) (file_checks shape d a) identity files) (no_target, tt)

        pub by_room : (reply : Reply) → Refused (room_checks need (free_blocks shape)) reply → Refused (place_checks url shape d a) reply
        by_room reply refused = refused_right (identity_checks d a ++ file_checks shape d a ++ target_checks url shape d a) (room_checks (install_need shape d a) (free_blocks shape)) reply before
            (subst (λ (n : ℕ). Refused (room_checks n (free_blocks shape)) reply) is refused)

        pub released : PassesAll (room_checks need (free_blocks shape)) → PassesAll (place_checks url shape d a)
        released room = passes_both (identity_checks d a ++ file_checks shape d a ++ target_checks url shape d a) (room_checks (install_need shape d a) (free_blocks shape)) before
            (subst (λ (n : ℕ). PassesAll (room_checks n (free_blocks shape))) is room)
