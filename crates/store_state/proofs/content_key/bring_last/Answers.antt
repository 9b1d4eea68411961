use Rattle.std.proofs.Common.{◌-◌, arith, ℕ, drop, map, take}
use Rattle.std.specs.Prelude.{slice_get}
use Rattle.std.specs.Option.{option_cmp}
use Rattle.std.specs.Ordering.{is_lt}
use Rattle.std.proofs.lemmas.List.Sorted.{IsPermutation-put_mid}
use Rattle.store_state.specs.ContentKeys.{content_key_cmp}
use Rattle.store_state.specs.Contents.{held_key}
use Rattle.store_state.proofs.Merged.{brought, held_long, held_sorted}
use Rattle.store_state.proofs.content_key.bring_last.Goals as goal

-- the old ones alone are in order
pub slot_of-slot-requires : goal.slot_of-slot-requires
slot_of-slot-requires c =
    held_sorted
    (λ (a b : ℕ). is_lt (option_cmp content_key_cmp (slice_get (map held_key c.args.contents.now) a)
    (slice_get (map held_key c.args.contents.now) b)))
    (take c.args.held c.args.places.now) (drop c.args.end c.args.places.now) c.requires.first

pub returns-clause-first : goal.returns-clause-first
returns-clause-first c =
    (brought
    (λ (a b : ℕ). is_lt (option_cmp content_key_cmp (slice_get (map held_key c.args.contents.now) a)
    (slice_get (map held_key c.args.contents.now) b)))
    c.slot_of-slot.result c.args.held c.args.end _ c.args.places.now c.rotate_left.new.self
    (omega (
      arith,
      c.slot_of-slot.ensures.within,
      held_long c.args.places.now c.args.held c.args.end
          c.requires.some c.requires.within,
    )) c.requires.some c.requires.within c.rotate_left.ensures.after
    c.slot_of-slot.ensures.sorted c.requires.first c.requires.last).first

pub returns-clause-last : goal.returns-clause-last
returns-clause-last c =
    (brought
    (λ (a b : ℕ). is_lt (option_cmp content_key_cmp (slice_get (map held_key c.args.contents.now) a)
    (slice_get (map held_key c.args.contents.now) b)))
    c.slot_of-slot.result c.args.held c.args.end _ c.args.places.now c.rotate_left.new.self
    (omega (
      arith,
      c.slot_of-slot.ensures.within,
      held_long c.args.places.now c.args.held c.args.end
          c.requires.some c.requires.within,
    )) c.requires.some c.requires.within c.rotate_left.ensures.after
    c.slot_of-slot.ensures.sorted c.requires.first c.requires.last).last

pub returns-clause-same : goal.returns-clause-same
returns-clause-same c =
    IsPermutation-put_mid c.slot_of-slot.result (c.args.end - c.slot_of-slot.result)
    c.args.places.now c.rotate_left.new.self c.rotate_left.ensures.permutation
