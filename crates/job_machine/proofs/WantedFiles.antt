-- What a release wants beside files that are held, as a part of its list.
use Rattle.std.proofs.Common.{◌≡◌, ◌&&◌, ◌||◌, ◌∙◌, inl, inr, refl, sym, ap, Bool, true, false, cond, not, List, [], ◌∷◌, AllPairs, arith}
use Rattle.std.proofs.lemmas.Bool.{and_parts, or_left, or_right}
use Rattle.std.proofs.lemmas.List.Kept.{AllPairs-cons}
use Rattle.manifests.specs.declared.facts.FileEntry.{FileEntry}
use Rattle.machine.specs.Views.{is_required}
use Rattle.machine.specs.Wanted.{is_held, wanted_beside}
use Rattle.machine.proofs.Members.{In, all_in, in_all, pairs_head, pairs_tail}

-- a wanted file is listed, and is a required one or a data file
pub wanted_from : (es held : List FileEntry) (x : FileEntry) → In x (wanted_beside held es)
    → In x es × ((is_required x || x.local) ≡ true)
wanted_from [] held x there = absurd there
wanted_from (e ∷ es) held x there =
    by e.local (is_required e && not (is_held held e)) refl refl there (wanted_from es held x)
    (wanted_from es (e ∷ held) x)
  where
    behind : In x es × ((is_required x || x.local) ≡ true)
        → In x (e ∷ es) × ((is_required x || x.local) ≡ true)
    behind found = (inr found.0, found.1)

    own : (is_required e || e.local) ≡ true → e ≡ x
        → In x (e ∷ es) × ((is_required x || x.local) ≡ true)
    own is same = (inl same, ap (λ (y : FileEntry). is_required y || y.local) (sym same) ∙ is)

    by : (b t : Bool) → e.local ≡ b → (is_required e && not (is_held held e)) ≡ t
        → In x (cond b (e ∷ wanted_beside held es)
        (cond t (e ∷ wanted_beside (e ∷ held) es) (wanted_beside held es)))
        → (In x (wanted_beside held es) → In x es × ((is_required x || x.local) ≡ true))
        → (In x (wanted_beside (e ∷ held) es) → In x es × ((is_required x || x.local) ≡ true))
        → In x (e ∷ es) × ((is_required x || x.local) ≡ true)
    by true t local takes (inl same) first second =
        own (or_right (is_required e) e.local local) same
    by true t local takes (inr later) first second = behind (first later)
    by false true local takes (inl same) first second =
        own (or_left (is_required e) e.local
        (and_parts (is_required e) (not (is_held held e)) takes).0) same
    by false true local takes (inr later) first second = behind (second later)
    by false false local takes later first second = behind (first later)

-- what holds of each two listed ones holds of each two wanted ones
pub wanted_pairs : (R : FileEntry → FileEntry → Type 0) (es held : List FileEntry) → AllPairs R es
    → AllPairs R (wanted_beside held es)
wanted_pairs R [] held pairs = λ i j d lt within. absurd (omega arith)
wanted_pairs R (e ∷ es) held pairs =
    by e.local (is_required e && not (is_held held e)) (wanted_pairs R es held (pairs_tail R e es pairs))
    (wanted_pairs R es (e ∷ held) (pairs_tail R e es pairs))
  where
    joined : (other : List FileEntry) → AllPairs R (wanted_beside other es)
        → AllPairs R (e ∷ wanted_beside other es)
    joined other rest =
        AllPairs-cons R e (wanted_beside other es)
        (in_all (R e) (wanted_beside other es) (λ x there. all_in (R e) es x (pairs_head R e es pairs)
        (wanted_from es other x there).0)) rest

    by : (b t : Bool) → AllPairs R (wanted_beside held es)
        → AllPairs R (wanted_beside (e ∷ held) es)
        → AllPairs R (cond b (e ∷ wanted_beside held es)
        (cond t (e ∷ wanted_beside (e ∷ held) es) (wanted_beside held es)))
    by true t first second = joined held first
    by false true first second = joined (e ∷ held) second
    by false false first second = first
