-- The file that a fetch left in a draft.
use Rattle.std.proofs.Common.{◌≡◌, ℕ, Bool, List, [], ◌++◌, length, refl, sym, ◌∙◌, ap, subst, arith}
use Rattle.small_types.specs.declared.target.Target.{Target}
use Rattle.digest_list.specs.declared.digest.Digest.{Digest}
use Rattle.links.specs.Links.{LinksState}
use Rattle.fetcher.specs.Fetched.{IsFile}
use Rattle.file_store.specs.Stores.{DraftHolds, draft_size, filled_of}
use Rattle.file_store.specs.declared.draft.Draft.{Draft}
use Rattle.draft_basket.specs.Basket.{ArePast, ReadsWhole, held_bytes}
use Rattle.draft_basket.proofs.HeldBytes.{filled_from_taken, held_empty, held_from_taken, holds_from_whole, whole_empty}

module _ (list : List Digest) (size : ℕ) (target : Target) (before after : LinksState) (base : ℕ) (draft : Draft) (is_over : Bool) (past seen : List ℕ)
    (whole : ReadsWhole base draft seen) (over : ArePast draft is_over past) (sized : draft_size draft ≡ size)
    (file : IsFile list size target before after (Unit {0}) (held_bytes base draft seen ++ past)) where
  -- its bytes, of themselves
  pub file_exact : IsFile list size target before after (Unit {0}) file.bytes
  file_exact = record {
    asked = file.asked;
    bytes = file.bytes;
    taken = λ told. refl;
    matches = file.matches;
    served = file.served;
    left = file.left;
    enough = file.enough;
    site = file.site;
    given = file.given;
  }

  -- the draft holds them
  pub file_held : held_bytes base draft seen ≡ file.bytes
  file_held = held_from_taken base draft is_over past file.bytes seen whole over (file.taken tt) (omega (arith, file.matches.sized, sized))

  -- and is whole
  pub file_fills : filled_of draft ≡ draft_size draft
  file_fills = filled_from_taken base draft is_over past file.bytes seen whole over (file.taken tt) (omega (arith, file.matches.sized, sized))

-- a draft that was given nothing holds nothing
pub holds_nothing : (base : ℕ) (draft : Draft) (seen : List ℕ) → filled_of draft ≡ 0 → DraftHolds base draft [] seen
holds_nothing base draft seen empty =
    subst (λ (l : List ℕ). DraftHolds base draft l seen) (held_empty base draft seen empty) (holds_from_whole base draft seen (whole_empty base draft seen empty))

-- a whole draft that holds these bytes
pub whole_size : (base : ℕ) (draft : Draft) (seen bytes : List ℕ) → filled_of draft ≡ draft_size draft → ReadsWhole base draft seen → held_bytes base draft seen ≡ bytes → draft_size draft ≡ length bytes
whole_size base draft seen bytes filled whole held = sym filled ∙ sym whole ∙ ap length held

pub whole_holds : (base : ℕ) (draft : Draft) (seen bytes : List ℕ) → ReadsWhole base draft seen → held_bytes base draft seen ≡ bytes → DraftHolds base draft bytes seen
whole_holds base draft seen bytes whole held = subst (λ (l : List ℕ). DraftHolds base draft l seen) held (holds_from_whole base draft seen whole)
