-- Rows as data: the refusals of a command in their order, and what it does where none of them is
-- given.
use Rattle.std.specs.Prelude.{◌≡◌, ◌⊎◌, ℕ, zero, suc, List, [], ◌∷◌}

-- the replies that it may give, when it may be passed, and what it leaves of what was there
pub record Refusal (R S : Type 0) : Type 1 where
  pub gives : R → Type 0
  pub otherwise : Type 0
  pub leaves : S → S

-- given exactly where the condition holds, with this reply; it changes nothing
abbrev pub exactly : {R S : Type 0} → Type 0 → R → Refusal R S
exactly when reply = record { gives = λ r. when × (r ≡ reply); otherwise = ¬ when; leaves = λ s. s }

-- the same of a condition on something that the reply shows
abbrev pub exactly_with : {R S A : Type 0} → (A → Type 0) → (A → R) → Refusal R S
exactly_with {A = A} when reply = record {
  gives = λ r. (x : A) × when x × (r ≡ reply x);
  otherwise = (x : A) → when x → ⊥;
  leaves = λ s. s;
}

-- a free choice, which changes nothing
abbrev pub maybe : {R S : Type 0} → R → Refusal R S
maybe reply = record { gives = λ r. r ≡ reply; otherwise = Unit {0}; leaves = λ s. s }

-- the same refusal, which leaves something
abbrev pub leaving : {R S : Type 0} → Refusal R S → (S → S) → Refusal R S
leaving refusal f = record refusal { leaves = f }

-- the first k are passed
abbrev pub Passes : {R S : Type 0} → ℕ → List (Refusal R S) → Type 0
Passes zero refusals = Unit {0}
Passes (suc k) [] = Unit {0}
Passes (suc k) (refusal ∷ refusals) = refusal.otherwise × Passes k refusals

-- the one behind the first k gives this reply
abbrev pub GivesAt : {R S : Type 0} → ℕ → List (Refusal R S) → S → R → S → Type 0
GivesAt k [] old reply new = ⊥
GivesAt zero (refusal ∷ refusals) old reply new = refusal.gives reply × (new ≡ refusal.leaves old)
GivesAt (suc k) (refusal ∷ refusals) old reply new = GivesAt k refusals old reply new

-- all are passed
abbrev pub PassesAll : {R S : Type 0} → List (Refusal R S) → Type 0
PassesAll [] = Unit {0}
PassesAll (refusal ∷ refusals) = refusal.otherwise × PassesAll refusals

-- one is given, and all before it are passed
abbrev pub Refuses : {R S : Type 0} → List (Refusal R S) → S → R → S → Type 0
Refuses [] old reply new = ⊥
Refuses (refusal ∷ refusals) old reply new =
    (refusal.gives reply × (new ≡ refusal.leaves old))
    ⊎ (refusal.otherwise × Refuses refusals old reply new)

-- it is not given where it may be passed, and it gives one reply
pub record IsExact {R S : Type 0} (refusal : Refusal R S) : Type 0 where
  pub settled : (reply : R) → refusal.gives reply → refusal.otherwise → ⊥
  pub one : (a b : R) → refusal.gives a → refusal.gives b → a ≡ b

-- none is a free choice
abbrev pub AreExact : {R S : Type 0} → List (Refusal R S) → Type 0
AreExact [] = Unit {0}
AreExact (refusal ∷ refusals) = IsExact refusal × AreExact refusals

-- the one behind the first k leaves everything as it was
abbrev pub LeavesNothingAt : {R S : Type 0} → ℕ → List (Refusal R S) → Type 0
LeavesNothingAt k [] = Unit {0}
LeavesNothingAt {S = S} zero (refusal ∷ refusals) = (s : S) → refusal.leaves s ≡ s
LeavesNothingAt (suc k) (refusal ∷ refusals) = LeavesNothingAt k refusals

-- each leaves everything as it was
abbrev pub ChangeNothing : {R S : Type 0} → List (Refusal R S) → Type 0
ChangeNothing {S = S} [] = Unit {0}
ChangeNothing {S = S} (refusal ∷ refusals) =
    ((s : S) → refusal.leaves s ≡ s) × ChangeNothing refusals

-- the first refusal that is not passed is the reply, and where all are passed the effect is that of
-- the row
abbrev pub FirstOf :
    {R S : Type 0} → List (Refusal R S) → (S → R → S → Type 0) → S → R → S → Type 0
FirstOf refusals effect old reply new =
    Refuses refusals old reply new ⊎ (PassesAll refusals × effect old reply new)
