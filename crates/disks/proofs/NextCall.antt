-- One call more in the record of a disk.
use Rattle.std.proofs.Common.{◌≡◌, ◌<◌, ◌≤◌, ◌+◌, zero, suc, get_or, inl, inr, ℕ, ◌-◌, min, List, [], ◌∷◌, ◌++◌, length, take, replicate, length-take, length-append, true, refl, sym, ◌∙◌, ap, subst, arith}
use Rattle.std.proofs.lemmas.List.{take_more, take_at, length-replicate}
use Rattle.std.proofs.lemmas.Bool.Decides.{nat_tests}
use Rattle.std.specs.Prelude.{nat_le, if◌then◌else◌, Bool, false, Option, Some, unwrap_or, not}
use Rattle.disks.specs.declared.call.Call.{Call}
use Rattle.disks.specs.declared.call.Move.{Move}
use Rattle.disks.specs.declared.call.Move.TheVariants.{Write, Cut, Sync}
use Rattle.disks.specs.declared.call.Pick.{Pick}
use Rattle.disks.specs.declared.call.Pick.TheVariants.{Kept, Lost, Filled}
use Rattle.small_types.specs.Bytes.{fill}
use Rattle.disks.specs.Disk.{Torn, CutOff, Elapses}
use Rattle.disks.specs.Moves.{moved, reads_after, picked, picked_after, Leaves, IsImage, MayRecord, acts, until, all_by, fits, all_fit}
use Rattle.disks.specs.ReadsLeft.{torn_same, torn_with, torn_put, cut_same, cut_take, until_all}

pub reads_after-push : (reads : List ℕ) (moves : List Move) (m : Move) → reads_after reads (moves ++ m ∷ []) ≡ moved m (reads_after reads moves)
reads_after-push reads [] m = refl
reads_after-push reads (x ∷ moves) m = reads_after-push (moved x reads) moves m

image_push : (reads image : List ℕ) (moves : List Move) (m : Move) (c : List ℕ) → IsImage reads image (moves ++ m ∷ []) c
    → (d : List ℕ) × IsImage reads image moves d × Leaves m (reads_after reads moves) d c
image_push reads image [] m c made = (image, refl, subst (Leaves m reads image) (sym made.2) made.1)
image_push reads image (x ∷ moves) m c made =
    let later = image_push (moved x reads) made.0 moves m c made.2 in
    (later.0, (made.0, made.1, later.1), later.2)

acts-push : (calls : List Call) (x : Call) → acts (calls ++ x ∷ []) ≡ acts calls ++ x.act ∷ []
acts-push [] x = refl
acts-push (y ∷ calls) x = ap (λ (l : List Move). y.act ∷ l) (acts-push calls x)

-- a call after a moment is none of those until then
until_before : (t : ℕ) (calls : List Call) (x : Call) → t < x.number → until t (calls ++ x ∷ []) ≡ until t calls
until_before t [] x late = grind (arith, nat_tests)
until_before t (y ∷ calls) x late = ap (λ (l : List Move). if nat_le y.number t then y.act ∷ l else l) (until_before t calls x late)

pub all_later : (t u : ℕ) (calls : List Call) → t ≤ u → all_by t calls ≡ true → all_by u calls ≡ true
all_later t u [] le all = refl
all_later t u (x ∷ calls) le all =
    let rest : all_by t calls ≡ true = grind (arith, nat_tests) in
    let later = all_later t u calls le rest in
    grind (arith, nat_tests, later)

pub all_push : (t : ℕ) (calls : List Call) (x : Call) → x.number ≤ t → all_by t calls ≡ true → all_by t (calls ++ x ∷ []) ≡ true
all_push t [] x le all = grind (arith, nat_tests)
all_push t (y ∷ calls) x le all =
    let rest : all_by t calls ≡ true = grind (arith, nat_tests) in
    let later = all_push t calls x le rest in
    grind (arith, nat_tests, later)

all_fit-push : (calls : List Call) (x : Call) → all_fit calls ≡ true → fits x.act ≡ true → all_fit (calls ++ x ∷ []) ≡ true
all_fit-push [] x all here = grind (arith, nat_tests)
all_fit-push (y ∷ calls) x all here =
    let rest : all_fit calls ≡ true = grind (arith, nat_tests) in
    let later = all_fit-push calls x rest here in
    grind (arith, nat_tests, later)

-- one call more is a replay of the first bytes that were kept
pub record_grown : (first first_new : Option (List ℕ)) (bytes slice made : List ℕ) (old mid new : List Call) (x : Call)
    → slice ≡ bytes → first_new ≡ Some (unwrap_or first slice) → mid ≡ old → new ≡ mid ++ x ∷ [] → bytes ≡ reads_after (unwrap_or first bytes) (acts old) → all_fit old ≡ true
    → made ≡ moved x.act bytes → fits x.act ≡ true → (made ≡ reads_after (unwrap_or first_new made) (acts new)) × (all_fit new ≡ true)
record_grown first first_new bytes slice made old mid new x is_slice is_first is_mid is_new is_replay all is_made here =
    let grown : new ≡ old ++ x ∷ [] = is_new ∙ ap (λ (l : List Call). l ++ x ∷ []) is_mid in
    let began : unwrap_or first bytes ≡ unwrap_or first_new made = sym (ap (λ (o : Option (List ℕ)). unwrap_or o made) (is_first ∙ ap (λ (b : List ℕ). Some (unwrap_or first b)) is_slice)) in (
      is_made ∙ ap (moved x.act) is_replay ∙ sym (reads_after-push (unwrap_or first bytes) (acts old) x.act)
          ∙ ap (reads_after (unwrap_or first bytes)) (sym (ap acts grown ∙ acts-push old x)) ∙ ap (λ (b : List ℕ). reads_after b (acts new)) began,
      ap all_fit grown ∙ all_fit-push old x all here,
    )

pub cut_failed : (n : ℕ) (fails : Bool) (bytes : List ℕ) → fails ≡ true → bytes ≡ moved (Cut n (not fails)) bytes
cut_failed n fails bytes is = ap (λ (b : Bool). moved (Cut n (not b)) bytes) (sym is)

pub cut_done : (n : ℕ) (fails : Bool) (bytes : List ℕ) → fails ≡ false → take n bytes ≡ moved (Cut n (not fails)) bytes
cut_done n fails bytes is = ap (λ (b : Bool). moved (Cut n (not b)) bytes) (sym is)

pub write_fits : (place : ℕ) (bytes piece : List ℕ) (done : Bool) → bytes ≡ piece → place + length piece ≤ 0xffff_ffff_ffff_ffff → fits (Write place bytes done) ≡ true
write_fits place bytes piece done is within = grind (arith, nat_tests)

module _ (old new : List Call) (x : Call) (now later : ℕ) (tick : later ≡ now + 1) (next : x.number ≡ later) (all : all_by now old ≡ true) where
  pub all_recorded : MayRecord x old new → all_by later new ≡ true
  all_recorded (inl same) = ap (all_by later) same ∙ all_later now later old (omega (arith, tick)) all
  all_recorded (inr grown) = ap (all_by later) grown ∙ all_push later old x (omega (arith, next, tick)) (all_later now later old (omega (arith, tick)) all)

  pub until_recorded : MayRecord x old new → (t : ℕ) → t ≤ now → until t new ≡ until t old
  until_recorded (inl same) t le = ap (until t) same
  until_recorded (inr grown) t le = ap (until t) grown ∙ until_before t old x (omega (arith, next, tick))

  until_unchanged : new ≡ old → until later new ≡ until now old
  until_unchanged same = ap (until later) same ∙ until_all later old (all_later now later old (omega (arith, tick)) all) ∙ sym (until_all now old all)

  -- what a call made of an image of a disk that read so at first
  pub image_done : (first image : List ℕ) → new ≡ old ++ x ∷ [] → (c : List ℕ) → IsImage first image (until later new) c → (d : List ℕ) × IsImage first image (until now old) d × Leaves x.act (reads_after first (acts old)) d c
  image_done first image grown c left =
      let whole = until_all later new (all_recorded (inr grown)) ∙ ap acts grown ∙ acts-push old x in
      let from = image_push first image (acts old) x.act c (subst (λ (ms : List Move). IsImage first image ms c) whole left) in
      (from.0, subst (λ (ms : List Move). IsImage first image ms from.0) (sym (until_all now old all)) from.1, from.2)

-- what a stop now may leave
abbrev pub Now : List ℕ → List Call → ℕ → List ℕ → Type 0
Now first calls t c = IsImage first first (until t calls) c

module _ (first began : List ℕ) (same_first : began ≡ first) (old new : List Call) (x : Call) (now later : ℕ) (tick : later ≡ now + 1) (next : x.number ≡ later) (all : all_by now old ≡ true) where
  pub all_new : MayRecord x old new → all_by later new ≡ true
  all_new recorded = all_recorded old new x now later tick next all recorded

  pub stop_done : new ≡ old ++ x ∷ [] → (c : List ℕ) → Now began new later c → (d : List ℕ) × Now first old now d × Leaves x.act (reads_after first (acts old)) d c
  stop_done grown c left = image_done old new x now later tick next all first first grown c (subst (λ (b : List ℕ). IsImage b b (until later new) c) same_first left)

  pub stop_failed : MayRecord x old new → (c : List ℕ) → Leaves x.act (reads_after first (acts old)) c c → Now began new later c → (d : List ℕ) × Now first old now d × Leaves x.act (reads_after first (acts old)) d c
  stop_failed (inl same) c stays left =
      let here : IsImage first first (until later new) c = subst (λ (b : List ℕ). IsImage b b (until later new) c) same_first left in
      (c, subst (λ (ms : List Move). IsImage first first ms c) (until_unchanged old new x now later tick next all same) here, stays)
  stop_failed (inr grown) c stays left = stop_done grown c left

  pub elapses : MayRecord x old new → Elapses now (λ t c. IsImage first first (until t old) c) (λ t c. IsImage began began (until t new) c)
  elapses recorded =
      let same : (t : ℕ) → t ≤ now → until t new ≡ until t old = until_recorded old new x now later tick next all recorded in
      record {
        same = λ t c le left. subst (λ (b : List ℕ). IsImage b b (until t old) c) same_first (subst (λ (ms : List Move). IsImage began began ms c) (same t le) left);
        keeps = λ t c le left. subst (λ (b : List ℕ). IsImage b b (until t new) c) (sym same_first) (subst (λ (ms : List Move). IsImage first first ms c) (sym (same t le)) left);
      }

until_at : (t : ℕ) (calls : List Call) (x : Call) → x.number ≤ t → until t (calls ++ x ∷ []) ≡ until t calls ++ x.act ∷ []
until_at t [] x early = grind (arith, nat_tests)
until_at t (y ∷ calls) x early =
    let later = until_at t calls x early in
    grind (arith, nat_tests, later)

picked_after-push : (pick : Pick) (reads image : List ℕ) (moves : List Move) (m : Move) → picked_after pick reads image (moves ++ m ∷ []) ≡ picked pick m (reads_after reads moves) (picked_after pick reads image moves)
picked_after-push pick reads image [] m = refl
picked_after-push pick reads image (x ∷ moves) m = picked_after-push pick (moved x reads) (picked pick x reads image) moves m

-- each recorded write fits
pub fits_at : (calls : List Call) (n : ℕ) (x : Call) → all_fit calls ≡ true → n < length calls → x ≡ get_or calls n x → fits x.act ≡ true
fits_at [] n x all within at_n = absurd (omega (arith, within))
fits_at (y ∷ calls) zero x all within at_n =
    let here : fits y.act ≡ true = grind (arith, nat_tests) in
    ap (λ (z : Call). fits z.act) at_n ∙ here
fits_at (y ∷ calls) (suc n) x all within at_n =
    let rest : all_fit calls ≡ true = grind (arith, nat_tests) in
    fits_at calls n x rest (omega (arith, within)) at_n

pub replay_more : (pick : Pick) (first reads image r made_reads made_image : List ℕ) (calls : List Call) (n t : ℕ) (x : Call) → n < length calls → x ≡ get_or calls n x → x.number ≤ t
    → reads ≡ reads_after first (until t (take n calls)) → image ≡ picked_after pick first first (until t (take n calls)) → r ≡ reads → made_image ≡ picked pick x.act r image → made_reads ≡ moved x.act reads
    → (made_reads ≡ reads_after first (until t (take (n + 1) calls))) × (made_image ≡ picked_after pick first first (until t (take (n + 1) calls)))
replay_more pick first reads image r made_reads made_image calls n t x within at_n early reads_is image_is r_is made_image_is made_reads_is =
    let so_far = until t (take n calls) in
    let grown : until t (take (n + 1) calls) ≡ so_far ++ x.act ∷ [] =
    ap (until t) (take_more calls n x within ∙ ap (λ (y : Call). take n calls ++ y ∷ []) (sym at_n)) ∙ until_at t (take n calls) x early in (
      made_reads_is ∙ ap (moved x.act) reads_is ∙ sym (reads_after-push first so_far x.act) ∙ ap (reads_after first) (sym grown),
      made_image_is ∙ ap (λ (b : List ℕ). picked pick x.act b image) (r_is ∙ reads_is) ∙ ap (picked pick x.act (reads_after first so_far)) image_is
          ∙ sym (picked_after-push pick first first so_far x.act) ∙ ap (picked_after pick first first) (sym grown),
    )

pub replay_over : (pick : Pick) (first reads image : List ℕ) (calls : List Call) (n t : ℕ) (x : Call) → n < length calls → x ≡ get_or calls n x → t < x.number
    → reads ≡ reads_after first (until t (take n calls)) → image ≡ picked_after pick first first (until t (take n calls))
    → (reads ≡ reads_after first (until t (take (n + 1) calls))) × (image ≡ picked_after pick first first (until t (take (n + 1) calls)))
replay_over pick first reads image calls n t x within at_n late reads_is image_is =
    let same : until t (take (n + 1) calls) ≡ until t (take n calls) =
    ap (until t) (take_more calls n x within ∙ ap (λ (y : Call). take n calls ++ y ∷ []) (sym at_n)) ∙ until_before t (take n calls) x late in (
      reads_is ∙ ap (reads_after first) (sym same),
      image_is ∙ ap (picked_after pick first first) (sym same),
    )

torn_fill : (place n byte : ℕ) (d : List ℕ) → Torn place n d (fill place n byte d)
torn_fill place n byte d =
    torn_with place n d (replicate (place + n - min place (length d)) byte) (omega (arith, length-take place d, length-replicate {A = ℕ} (place + n - min place (length d)) byte))

cut_fill : (n byte : ℕ) (d : List ℕ) → CutOff n d (take n d ++ replicate (length d - n) byte)
cut_fill n byte d = record {
  before = take_at (take n d) (replicate (length d - n) byte) (min n (length d)) (length-take n d);
  size = inl (omega (arith, length-append (take n d) (replicate (length d - n) byte), length-take n d, length-replicate {A = ℕ} (length d - n) byte));
}

-- what each pick makes of an image is what a stop may leave of it
picked_leaves : (pick : Pick) (m : Move) (reads image : List ℕ) → Leaves m reads image (picked pick m reads image)
picked_leaves Kept (Write place bytes true) reads image = torn_put place bytes image
picked_leaves Kept (Write place bytes false) reads image = torn_same place (length bytes) image
picked_leaves Lost (Write place bytes done) reads image = torn_same place (length bytes) image
picked_leaves (Filled byte) (Write place bytes done) reads image = torn_fill place (length bytes) byte image
picked_leaves Kept (Cut n true) reads image = cut_take n image
picked_leaves Kept (Cut n false) reads image = cut_same n image
picked_leaves Lost (Cut n done) reads image = cut_same n image
picked_leaves (Filled byte) (Cut n done) reads image = cut_fill n byte image
picked_leaves pick (Sync true) reads image = refl
picked_leaves pick (Sync false) reads image = refl

picked_left : (pick : Pick) (reads image : List ℕ) (moves : List Move) → IsImage reads image moves (picked_after pick reads image moves)
picked_left pick reads image [] = refl
picked_left pick reads image (m ∷ moves) = (picked pick m reads image, picked_leaves pick m reads image, picked_left pick (moved m reads) (picked pick m reads image) moves)

pub picked_is_left : (pick : Pick) (first f : List ℕ) (calls cs : List Call) (t : ℕ) (made bytes : List ℕ) → f ≡ first → cs ≡ calls → made ≡ picked_after pick f f (until t cs) → bytes ≡ made → IsImage first first (until t calls) bytes
picked_is_left pick first f calls cs t made bytes is_first is_calls is_made is =
    let whole : bytes ≡ picked_after pick first first (until t calls) =
    is ∙ is_made ∙ ap (λ (b : List ℕ). picked_after pick b b (until t cs)) is_first ∙ ap (λ (l : List Call). picked_after pick first first (until t l)) is_calls in
    subst (IsImage first first (until t calls)) (sym whole) (picked_left pick first first (until t calls))

pub image_grows : (reads image : List ℕ) (moves : List Move) (m : Move) (d c : List ℕ) → IsImage reads image moves d → Leaves m (reads_after reads moves) d c → IsImage reads image (moves ++ m ∷ []) c
image_grows reads image [] m d c left step = (c, subst (λ (b : List ℕ). Leaves m reads b c) left step, refl)
image_grows reads image (x ∷ moves) m d c left step = (left.0, left.1, image_grows (moved x reads) left.0 moves m d c left.2 step)
