-- What a draft holds of what was handed to it.
use Rattle.std.proofs.Common.{◌≡◌, ℕ, ◌≤◌, Bool, true, false, List, [], ◌++◌, length, Result, Ok, Err, refl, sym, ◌∙◌, ap, subst, arith}
use Rattle.std.specs.Result.{OnErr, OnOk}
use Rattle.std.proofs.lemmas.List.{append-nil, length-append, nil_from_length}
use Rattle.small_types.specs.Blocks.{IsContent, bytes_in}
use Rattle.small_types.proofs.BlockContents.{bytes_in-le}
use Rattle.small_types.proofs.KeptBlocks.{bytes_content}
use Rattle.file_store.specs.Stores.{DraftHolds, draft_blocks, draft_size, filled_of}
use Rattle.file_store.specs.declared.draft.Draft.{Draft}
use Rattle.file_store.specs.declared.fault.FileFault.{FileFault}
use Rattle.file_store.proofs.Fronts.{content_bytes}
use Rattle.draft_basket.specs.Basket.{ArePast, ReadsWhole, held_bytes}

pub holds_from_whole : (base : ℕ) (draft : Draft) (seen : List ℕ) → ReadsWhole base draft seen → DraftHolds base draft (held_bytes base draft seen) seen
holds_from_whole base draft seen whole = record { count = sym whole; content = bytes_content base (filled_of draft) (draft_blocks draft) seen whole }

pub held_from_holds : (base : ℕ) (draft : Draft) (bytes seen : List ℕ) → DraftHolds base draft bytes seen → held_bytes base draft seen ≡ bytes
held_from_holds base draft bytes seen holds = ap (λ (n : ℕ). bytes_in base (draft_blocks draft) n seen) holds.count ∙ content_bytes base (draft_blocks draft) bytes seen holds.content

pub whole_from_holds : (base : ℕ) (draft : Draft) (bytes seen : List ℕ) → DraftHolds base draft bytes seen → ReadsWhole base draft seen
whole_from_holds base draft bytes seen holds = ap length (held_from_holds base draft bytes seen holds) ∙ sym holds.count

-- an empty draft
pub whole_empty : (base : ℕ) (draft : Draft) (seen : List ℕ) → filled_of draft ≡ 0 → ReadsWhole base draft seen
whole_empty base draft seen empty = omega (arith, bytes_in-le base (draft_blocks draft) (filled_of draft) seen, empty)

pub held_empty : (base : ℕ) (draft : Draft) (seen : List ℕ) → filled_of draft ≡ 0 → held_bytes base draft seen ≡ []
held_empty base draft seen empty = nil_from_length (held_bytes base draft seen) (omega (arith, bytes_in-le base (draft_blocks draft) (filled_of draft) seen, empty))

pub past_none : (draft : Draft) (past : List ℕ) → past ≡ [] → ArePast draft false past
past_none draft past empty = record { none = λ _. empty; many = λ over. absurd (cc) }

-- while there are none, the draft may grow
pub past_kept : (old new : Draft) (is_over : Bool) (past : List ℕ) → is_over ≡ false → ArePast old is_over past → ArePast new is_over past
past_kept old new is_over past calm before = record { none = before.none; many = λ over. absurd (cc) }

-- a piece was handed to it, and taken or not
pub whole_after : (base base' : ℕ) (old new : Draft) (piece seen seen' : List ℕ) (result : Result (Unit {0}) FileFault) → base' ≡ base → ReadsWhole base old seen
    → ((before : List ℕ) → DraftHolds base old before seen → OnOk result (DraftHolds base new (before ++ piece) seen'))
    → ((before : List ℕ) → DraftHolds base old before seen → IsContent base (draft_blocks old) before seen')
    → OnErr result (new ≡ old) → ReadsWhole base' new seen'
whole_after base base' old new piece seen seen' (Ok x) same whole held kept err =
    let before = held_bytes base old seen in
    subst (λ (b : ℕ). ReadsWhole b new seen') (sym same) (whole_from_holds base new (before ++ piece) seen' (held before (holds_from_whole base old seen whole)))
whole_after base base' old new piece seen seen' (Err e) same whole held kept err =
    let before = held_bytes base old seen in
    let stays : DraftHolds base old before seen' = record { count = sym whole; content = kept before (holds_from_whole base old seen whole) } in
    subst (λ (b : ℕ). ReadsWhole b new seen') (sym same) (subst (λ (d : Draft). ReadsWhole base d seen') (sym err) (whole_from_holds base old before seen' stays))

-- there was room for it, and nothing past the size before it
pub taken_after : (base base' : ℕ) (old new : Draft) (piece past seen seen' : List ℕ) → base' ≡ base → past ≡ [] → ReadsWhole base old seen
    → ((before : List ℕ) → DraftHolds base old before seen → DraftHolds base new (before ++ piece) seen')
    → held_bytes base' new seen' ++ past ≡ (held_bytes base old seen ++ past) ++ piece
taken_after base base' old new piece past seen seen' same none whole held =
    let before = held_bytes base old seen in
    ap (λ (b : ℕ). held_bytes b new seen' ++ past) same
    ∙ ap (λ (l : List ℕ). l ++ past) (held_from_holds base new (before ++ piece) seen' (held before (holds_from_whole base old seen whole)))
    ∙ ap (λ (l : List ℕ). (before ++ piece) ++ l) none ∙ append-nil (before ++ piece)
    ∙ ap (λ (l : List ℕ). l ++ piece) (sym (append-nil before) ∙ ap (λ (l : List ℕ). before ++ l) (sym none))

-- What is known after a fetch is what a seal asks for: where the basket has no more than the draft's
-- size, the draft holds all of it.
pub holds_from_taken : (base : ℕ) (draft : Draft) (is_over : Bool) (past bytes seen : List ℕ) → ReadsWhole base draft seen → ArePast draft is_over past
    → held_bytes base draft seen ++ past ≡ bytes → length bytes ≤ draft_size draft → DraftHolds base draft bytes seen
holds_from_taken base draft false past bytes seen whole over same fits =
    let all : held_bytes base draft seen ≡ bytes = sym (append-nil (held_bytes base draft seen)) ∙ ap (λ (l : List ℕ). held_bytes base draft seen ++ l) (sym (over.none refl)) ∙ same in
    subst (λ (l : List ℕ). DraftHolds base draft l seen) all (holds_from_whole base draft seen whole)
holds_from_taken base draft true past bytes seen whole over same fits =
    absurd (omega (arith, over.many refl, ap length same, length-append (held_bytes base draft seen) past, whole, fits))

-- and it is whole where the basket has as many bytes
pub filled_from_taken : (base : ℕ) (draft : Draft) (is_over : Bool) (past bytes seen : List ℕ) → ReadsWhole base draft seen → ArePast draft is_over past
    → held_bytes base draft seen ++ past ≡ bytes → length bytes ≡ draft_size draft → filled_of draft ≡ draft_size draft
filled_from_taken base draft is_over past bytes seen whole over same size =
    let holds = holds_from_taken base draft is_over past bytes seen whole over same (omega (arith, size)) in
    omega (arith, holds.count, size)

pub held_from_taken : (base : ℕ) (draft : Draft) (is_over : Bool) (past bytes seen : List ℕ) → ReadsWhole base draft seen → ArePast draft is_over past
    → held_bytes base draft seen ++ past ≡ bytes → length bytes ≤ draft_size draft → held_bytes base draft seen ≡ bytes
held_from_taken base draft is_over past bytes seen whole over same fits = held_from_holds base draft bytes seen (holds_from_taken base draft is_over past bytes seen whole over same fits)
