-- What a disk in a file tells of a call, by what it noted of it.
use Rattle.std.proofs.Common.{◌≡◌, ◌≤◌, ◌+◌, ℕ, List, [], ◌∷◌, ◌++◌, length, take, drop, true, false, refl, sym, ◌∙◌, ap, subst, arith}
use Rattle.std.specs.Prelude.{Bool, Result, Ok, Err, IfOk, OnOk, OnErr, is_ok}
use Rattle.std.proofs.lemmas.Bool.{false≢true}
use Rattle.std.proofs.lemmas.List.{append-nil}
use Rattle.small_types.specs.Bytes.{put}
use Rattle.disks.specs.declared.answer.Answer.{Answer}
use Rattle.disks.specs.declared.answer.Answer.TheVariants.{Measured, Gave, Changed}
use Rattle.disks.specs.declared.call.Call.{Call}
use Rattle.disks.specs.declared.call.Move.{Move}
use Rattle.disks.specs.declared.call.Move.TheVariants.{Write, Cut, Sync}
use Rattle.disks.specs.Answers.{seen_after, IsHonest, changes, LeftAfter}
use Rattle.disks.specs.Disk.{Torn, CutOff, Follows, Elapses, Only, Gives}
use Rattle.disks.specs.Moves.{moved, Leaves, all_by}
use Rattle.disks.specs.ReadsLeft.{torn_same, torn_put, cut_same, cut_take}
use Rattle.disks.proofs.NextCall.{all_later, all_push}
use Rattle.disks.proofs.NextAnswer.{seen_push, change_push, length_push, read_push, was_honest, agreed, gives_true, seen_is_left, passes, from, moved_on}
use Rattle.outside_real.specs.Notes.{told_length, told_read, taken_part}

-- a call that only reads
pub record Quiet (old new : List Answer) : Type 0 where
  pub same : changes new ≡ changes old
  pub seen : (first : List ℕ) → seen_after first new ≡ seen_after first old
  pub told : (first : List ℕ) → IsHonest first new → IsHonest first old

unchanged : (old new : List Answer) → new ≡ old → Quiet old new
unchanged old new is = record {
  same = ap changes is;
  seen = λ first. ap (seen_after first) is;
  told = λ first honest. subst (IsHonest first) is honest;
}

pub length_quiet : {E : Type 0} (old new : List Answer) (r : Result ℕ E) → new ≡ old ++ told_length r → Quiet old new
length_quiet old new (Ok n) noted = record {
  same = ap changes noted ∙ length_push old n;
  seen = λ first. ap (seen_after first) noted ∙ seen_push first old (Measured n);
  told = λ first honest. was_honest first old (Measured n) (subst (IsHonest first) noted honest);
}
length_quiet old new (Err e) noted = unchanged old new (noted ∙ append-nil old)

pub length_true : {E : Type 0} (first : List ℕ) (old new : List Answer) (r : Result ℕ E) → new ≡ old ++ told_length r → IsHonest first new → IfOk r (λ n. n ≡ length (seen_after first old))
length_true first old new (Ok n) noted honest = agreed first old (Measured n) (subst (IsHonest first) noted honest)
length_true first old new (Err e) noted honest = tt

pub read_quiet : {E : Type 0} (old new : List Answer) (place : ℕ) (buf : List ℕ) (r : Result ℕ E) → new ≡ old ++ told_read place buf r → Quiet old new
read_quiet old new place buf (Ok n) noted = record {
  same = ap changes noted ∙ read_push old place (length buf) (take n buf);
  seen = λ first. ap (seen_after first) noted ∙ seen_push first old (Gave place (length buf) (take n buf));
  told = λ first honest. was_honest first old (Gave place (length buf) (take n buf)) (subst (IsHonest first) noted honest);
}
read_quiet old new place buf (Err e) noted = unchanged old new (noted ∙ append-nil old)

pub read_true : {E : Type 0} (first : List ℕ) (old new : List Answer) (place : ℕ) (buf_old buf : List ℕ) (r : Result ℕ E) → new ≡ old ++ told_read place buf r
    → IfOk r (λ n. n ≤ length buf_old) → length buf ≡ length buf_old → IfOk r (λ n. drop n buf ≡ drop n buf_old) → IsHonest first new
    → IfOk r (λ n. Gives (seen_after first old) place buf_old buf n)
read_true first old new place buf_old buf (Ok n) noted within same rest honest =
    let given = agreed first old (Gave place (length buf) (take n buf)) (subst (IsHonest first) noted honest) in
    gives_true (seen_after first old) place n buf_old buf within same rest (subst (λ (m : ℕ). take n buf ≡ take m (drop place (seen_after first old))) same given)
read_true first old new place buf_old buf (Err e) noted within same rest honest = tt

torn_moved : (place : ℕ) (bytes : List ℕ) (done : Bool) (reads : List ℕ) → Torn place (length bytes) reads (moved (Write place bytes done) reads)
torn_moved place bytes true reads = torn_put place bytes reads
torn_moved place bytes false reads = torn_same place (length bytes) reads

cut_moved : (n : ℕ) (done : Bool) (reads : List ℕ) → CutOff n reads (moved (Cut n done) reads)
cut_moved n true reads = cut_take n reads
cut_moved n false reads = cut_same n reads

-- a count of calls goes on, or stays where it would end
pub goes_on : (old new : ℕ) (went : Bool) → (went ≡ true → new ≡ old + 1) → (went ≡ false → new ≡ old) → old ≤ new
goes_on old new true counted full = omega (arith, counted refl)
goes_on old new false counted full = omega (arith, full refl)

-- each number that has been has been later too
pub count_on : (answers : List Answer) (now later : ℕ) → now ≤ later → all_by now (changes answers) ≡ true → all_by later (changes answers) ≡ true
count_on answers now later le all = all_later now later (changes answers) le all

-- and so has that of one answer more
pub note_on : (old new : List Answer) (x : Call) (now : ℕ) → new ≡ old ++ Changed x ∷ [] → x.number ≤ now → all_by now (changes old) ≡ true → all_by now (changes new) ≡ true
note_on old new x now noted le all = ap (λ (l : List Answer). all_by now (changes l)) noted ∙ ap (all_by now) (change_push old x) ∙ all_push now (changes old) x le all

pub quiet_on : {old new : List Answer} (now : ℕ) → Quiet old new → all_by now (changes old) ≡ true → all_by now (changes new) ≡ true
quiet_on now quiet all = ap (all_by now) quiet.same ∙ all

-- an output took what it answered
pub sink_takes : {E : Type 0} (old new bytes : List ℕ) (r s : Result ℕ E) → s ≡ r → new ≡ old ++ taken_part bytes r → IfOk s (λ n. new ≡ old ++ take n bytes)
sink_takes old new bytes (Ok n) s same noted = subst (λ (q : Result _ _). IfOk q (λ n. new ≡ old ++ take n bytes)) (sym same) noted
sink_takes old new bytes (Err e) s same noted = subst (λ (q : Result _ _). IfOk q (λ n. new ≡ old ++ take n bytes)) (sym same) tt

pub sink_keeps : {E : Type 0} (old new bytes : List ℕ) (r s : Result ℕ E) → s ≡ r → new ≡ old ++ taken_part bytes r → OnErr s (new ≡ old)
sink_keeps old new bytes (Ok n) s same noted = subst (λ (q : Result _ _). OnErr q (new ≡ old)) (sym same) tt
sink_keeps old new bytes (Err e) s same noted = subst (λ (q : Result _ _). OnErr q (new ≡ old)) (sym same) (noted ∙ append-nil old)

-- what holds of a result that is another's
pub where_ok : {T E : Type 0} {P : Type 0} {r s : Result T E} {done : Bool} → s ≡ r → done ≡ is_ok r → (done ≡ true → P) → OnOk s P
where_ok {P = P} {r = Ok x} same is holds = subst (λ (q : Result _ _). OnOk q P) (sym same) (holds is)
where_ok {P = P} {r = Err e} same is holds = subst (λ (q : Result _ _). OnOk q P) (sym same) tt

-- a call was counted, made and noted, and stands last
pub noted_last : {T E : Type 0} (act : Bool → Move) {r s : Result T E} (done : Bool) (old mid new : List Answer) (now number later : ℕ) → s ≡ r → done ≡ is_ok r → mid ≡ old → number ≡ now + 1
    → new ≡ mid ++ Changed (record { number = number; act = act done }) ∷ [] → later ≡ number
    → (later ≡ now + 1) × (new ≡ old ++ Changed (record { number = later; act = act (is_ok s) }) ∷ [])
noted_last act done old mid new now number later same is counted tick noted last = (
  last ∙ tick,
  noted ∙ ap (λ (l : List Answer). l ++ Changed (record { number = number; act = act done }) ∷ []) counted
      ∙ ap (λ (n : ℕ). old ++ Changed (record { number = n; act = act done }) ∷ []) (sym last)
      ∙ ap (λ (b : Bool). old ++ Changed (record { number = later; act = act b }) ∷ []) (is ∙ sym (ap is_ok same)),
)

-- what a call that may change the file makes of what was told
pub record Passes (first : List ℕ) (left : List ℕ → Type 0) (now : ℕ) (old new : List Answer) : Type 0 where
  pub time : Elapses now (LeftAfter first left old) (LeftAfter first left new)
  pub told : IsHonest first new → IsHonest first old

pub record Written (place : ℕ) (bytes : List ℕ) (done : Bool) (first : List ℕ) (left : List ℕ → Type 0) (now later : ℕ) (old new : List Answer) : Type 0 where
  pub passes : Passes first left now old new
  pub seen : Torn place (length bytes) (seen_after first old) (seen_after first new)
  pub written : done ≡ true → seen_after first new ≡ put place bytes (seen_after first old)
  pub stop : Follows (Torn place (length bytes)) (LeftAfter first left old now) (LeftAfter first left new later)

pub record Shortened (size : ℕ) (done : Bool) (first : List ℕ) (left : List ℕ → Type 0) (now later : ℕ) (old new : List Answer) : Type 0 where
  pub passes : Passes first left now old new
  pub seen : CutOff size (seen_after first old) (seen_after first new)
  pub written : done ≡ true → seen_after first new ≡ take size (seen_after first old)
  pub stop : Follows (CutOff size) (LeftAfter first left old now) (LeftAfter first left new later)

pub record Synced (done : Bool) (first : List ℕ) (left : List ℕ → Type 0) (now later : ℕ) (old new : List Answer) : Type 0 where
  pub passes : Passes first left now old new
  pub seen : seen_after first new ≡ seen_after first old
  pub durable : done ≡ true → Only (seen_after first old) (LeftAfter first left new later)
  pub stop : (c : List ℕ) → LeftAfter first left new later c → LeftAfter first left old now c

-- a call was counted, made and noted
module _ (first : List ℕ) (left : List ℕ → Type 0) (old mid new : List Answer) (x : Call) (now number later : ℕ) (counted : mid ≡ old) (tick : number ≡ now + 1) (noted : new ≡ mid ++ Changed x ∷ []) (same : later ≡ number) (all : all_by now (changes old) ≡ true) where
  grown : new ≡ old ++ Changed x ∷ []
  grown = noted ∙ ap (λ (l : List Answer). l ++ Changed x ∷ []) counted

  passed : x.number ≡ number → Passes first left now old new
  passed is = record {
    time = passes first left old new x grown now later (same ∙ tick) (is ∙ sym same) all;
    told = λ honest. was_honest first old (Changed x) (subst (IsHonest first) grown honest);
  }

  on : x.number ≡ number → seen_after first new ≡ moved x.act (seen_after first old)
  on is = moved_on first left old new x grown now later (same ∙ tick) (is ∙ sym same) all

  came : x.number ≡ number → (c : List ℕ) → LeftAfter first left new later c → (d : List ℕ) × LeftAfter first left old now d × Leaves x.act (seen_after first old) d c
  came is c left_c = from first left old new x grown now later (same ∙ tick) (is ∙ sym same) all c left_c

module _ (first : List ℕ) (left : List ℕ → Type 0) (old mid new : List Answer) (now number later : ℕ) where
  pub write_told : (place : ℕ) (bytes : List ℕ) (done : Bool) → mid ≡ old → number ≡ now + 1 → new ≡ mid ++ Changed (record { number = number; act = Write place bytes done }) ∷ [] → later ≡ number → all_by now (changes old) ≡ true
      → Written place bytes done first left now later old new
  write_told place bytes done counted tick noted same all =
      let x : Call = record { number = number; act = Write place bytes done } in
      let made = on first left old mid new x now number later counted tick noted same all refl in
      record {
        passes = passed first left old mid new x now number later counted tick noted same all refl;
        seen = subst (λ (b : List ℕ). Torn place (length bytes) (seen_after first old) b) (sym made) (torn_moved place bytes done (seen_after first old));
        written = λ is. made ∙ ap (λ (b : Bool). moved (Write place bytes b) (seen_after first old)) is;
        stop = λ c is. came first left old mid new x now number later counted tick noted same all refl c is;
      }

  pub cut_told : (size : ℕ) (done : Bool) → mid ≡ old → number ≡ now + 1 → new ≡ mid ++ Changed (record { number = number; act = Cut size done }) ∷ [] → later ≡ number → all_by now (changes old) ≡ true
      → Shortened size done first left now later old new
  cut_told size done counted tick noted same all =
      let x : Call = record { number = number; act = Cut size done } in
      let made = on first left old mid new x now number later counted tick noted same all refl in
      record {
        passes = passed first left old mid new x now number later counted tick noted same all refl;
        seen = subst (λ (b : List ℕ). CutOff size (seen_after first old) b) (sym made) (cut_moved size done (seen_after first old));
        written = λ is. made ∙ ap (λ (b : Bool). moved (Cut size b) (seen_after first old)) is;
        stop = λ c is. came first left old mid new x now number later counted tick noted same all refl c is;
      }

  pub sync_told : (done : Bool) → left first → mid ≡ old → number ≡ now + 1 → new ≡ mid ++ Changed (record { number = number; act = Sync done }) ∷ [] → later ≡ number → all_by now (changes old) ≡ true
      → Synced done first left now later old new
  sync_told true began counted tick noted same all =
      let x : Call = record { number = number; act = Sync true } in record {
        passes = passed first left old mid new x now number later counted tick noted same all refl;
        seen = on first left old mid new x now number later counted tick noted same all refl;
        durable = λ is c left_c. (came first left old mid new x now number later counted tick noted same all refl c left_c).2;
        stop = λ c left_c. subst (LeftAfter first left old now) (sym (came first left old mid new x now number later counted tick noted same all refl c left_c).2) (seen_is_left first left began old now all);
      }
  sync_told false began counted tick noted same all =
      let x : Call = record { number = number; act = Sync false } in record {
        passes = passed first left old mid new x now number later counted tick noted same all refl;
        seen = on first left old mid new x now number later counted tick noted same all refl;
        durable = λ is. absurd (false≢true is);
        stop = λ c left_c. let before = came first left old mid new x now number later counted tick noted same all refl c left_c in subst (LeftAfter first left old now) (sym before.2) before.1;
      }
