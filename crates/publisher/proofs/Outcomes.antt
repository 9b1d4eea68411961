-- What a call gives, against what the definitions say.
use Rattle.std.proofs.Common.{◌≡◌, Ok, Err, IfOk, IfErr, IsErr, OnOk, OnErr, sym, ap, subst, ◌∙◌}
use Rattle.std.specs.Prelude.{IsErrAnd}
use Rattle.small_types.specs.Outcome.{◌>>=◌}
use Rattle.publisher.specs.declared.fault.PublishFault.{PublishFault}
use Rattle.publisher.specs.declared.fault.PublishFault.TheVariants.{ReadFault, WriteFault, Changed, Memory}
use Rattle.publisher.specs.Faults.{IsReading, IsWriting}
use Rattle.publisher.specs.Outcome.{Fails, Gives}
use Rattle.publisher.specs.Publication.{Outcome}

abbrev err_of : {A : Type 0} → PublishFault → Outcome A
err_of e = Err e

-- the same outcome under another name
pub fails_same : {A : Type 0} (e : PublishFault) (outcome other : Outcome A) → other ≡ outcome → Fails e outcome → Fails e other
fails_same {A} e outcome other is h = subst (λ (o : Outcome A). Fails e o) (sym is) h

-- what fails first fails the whole
pub fails_then : {A B : Type 0} (e : PublishFault) (outcome : Outcome A) (next : A → Outcome B) → Fails e outcome → Fails e (outcome >>= next)
fails_then ReadFault outcome next h = tt
fails_then Memory outcome next h = tt
fails_then WriteFault outcome next h = h
fails_then (Changed file difference) outcome next h = h
fails_then {A} e outcome next h = ap (λ (o : Outcome A). o >>= next) h

pub fails_after : {A B : Type 0} (e : PublishFault) (outcome : Outcome A) (x : A) (next : A → Outcome B) → outcome ≡ Ok x → Fails e (next x) → Fails e (outcome >>= next)
fails_after {A} e outcome x next is h = fails_same e (next x) (outcome >>= next) (ap (λ (o : Outcome A). o >>= next) is) h

-- a call that ends where a part of it fails
pub exits : {A B : Type 0} (view : A → B) (r : Outcome A) (e : PublishFault) (outcome : Outcome B) → r ≡ Err e → Fails e outcome → Gives view r outcome
exits {A} view r e outcome is h = subst (λ (x : Outcome A). Gives view x outcome) (sym is) h

-- a fault of a reading fails whatever is read
pub reading_fails : {A : Type 0} (e : PublishFault) (outcome : Outcome A) → IsReading e → Fails e outcome
reading_fails ReadFault outcome h = tt
reading_fails Memory outcome h = tt
reading_fails e outcome h = absurd h

memory_fails : {A : Type 0} (e : PublishFault) (outcome : Outcome A) → e ≡ Memory → Fails e outcome
memory_fails {A} e outcome is = subst (λ (f : PublishFault). Fails f outcome) (sym is) tt

the_error : {A : Type 0} (e f : PublishFault) → err_of {A = A} e ≡ err_of {A = A} f → e ≡ f
the_error e f is = cc

-- a call at the end that fails only for want of memory
pub gives_last : {A : Type 0} (r outcome : Outcome A) → IfOk r (λ x. outcome ≡ Ok x) → OnErr r (r ≡ Err Memory) → Gives (λ x. x) r outcome
gives_last (Ok x) outcome ok err = ok
gives_last {A} (Err e) outcome ok err = memory_fails e outcome (the_error {A = A} e Memory err)

-- a call that ends where a part of it finds no memory
pub exits_memory : {A B C : Type 0} (view : A → B) (r : Outcome A) (part : Outcome C) (e : PublishFault) (outcome : Outcome B) → r ≡ Err e → part ≡ Err e → part ≡ Err Memory → Gives view r outcome
exits_memory {C = C} view r part e outcome is part_is memory = exits view r e outcome is (memory_fails e outcome (the_error {A = C} e Memory (sym part_is ∙ memory)))

-- what a call at the end gives, where its value is known
pub last_ok : {A : Type 0} (r outcome : Outcome A) (x : A) → IfOk r (λ made. made ≡ x) → outcome ≡ Ok x → IfOk r (λ made. outcome ≡ Ok made)
last_ok (Ok made) outcome x is known = known ∙ ap Ok (sym is)
last_ok (Err e) outcome x is known = tt

-- an error that is handed on
pub handed_on : {A B : Type 0} (view : A → B) (r : Outcome A) (e : PublishFault) (outcome : Outcome B) → IsErr r × IsErrAnd r (λ f. f ≡ e) → Fails e outcome → Gives view r outcome
handed_on view (Ok x) e outcome is h = absurd is.1
handed_on view (Err f) e outcome is h = subst (λ (g : PublishFault). Fails g outcome) (sym is.1) h

-- a fact of an error that is handed on
pub err_handed_on : {A : Type 0} (r : Outcome A) (P : PublishFault → Type 0) (e : PublishFault) → IsErr r × IsErrAnd r (λ f. f ≡ e) → P e → IfErr r P
err_handed_on (Ok x) P e is h = absurd is.1
err_handed_on (Err f) P e is h = subst P (sym is.1) h

-- what holds anyway
pub on_err : {A : Type 0} (r : Outcome A) (P : Type 0) → P → OnErr r P
on_err (Ok x) P h = tt
on_err (Err e) P h = h

-- what holds anyway, where it is asked for at one error alone
pub on_error : {A : Type 0} (r : Outcome A) (fault : PublishFault) (P : Type 0) → P → IfErr r (λ e. e ≡ fault → P)
on_error (Ok x) fault P h = tt
on_error (Err e) fault P h = λ _. h

-- a fault of a writing is none of a reading
pub never_reading : (e : PublishFault) (P : Type 0) → IsWriting e → e ≡ ReadFault → P
never_reading e P fault is = absurd (subst IsWriting is fault)

-- what follows
pub then_ok : {A : Type 0} (r : Outcome A) (P Q : Type 0) → (P → Q) → OnOk r P → OnOk r Q
then_ok (Ok x) P Q f h = f h
then_ok (Err e) P Q f h = tt

pub then_err : {A : Type 0} (r : Outcome A) (P Q : Type 0) → (P → Q) → OnErr r P → OnErr r Q
then_err (Ok x) P Q f h = tt
then_err (Err e) P Q f h = f h

pub err_then : {A : Type 0} (r : Outcome A) (P Q : PublishFault → Type 0) → ((e : PublishFault) → P e → Q e) → IfErr r P → IfErr r Q
err_then (Ok x) P Q f h = tt
err_then (Err e) P Q f h = f e h

pub ok_then : {A : Type 0} (r : Outcome A) (P Q : A → Type 0) → ((x : A) → P x → Q x) → IfOk r P → IfOk r Q
ok_then (Ok x) P Q f h = f x h
ok_then (Err e) P Q f h = tt
