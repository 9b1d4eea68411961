-- Refusals in lists: of two parts, and of two lists whose refusals hold where those of the other do.
use Rattle.std.proofs.Common.{◌≡◌, ◌∙◌, ◌++◌, inl, inr, refl, List, [], ◌∷◌}
use Rattle.machine.specs.declared.reply.Reply.{Reply}
use Rattle.machine.specs.Rows.{PassesAll, Refusal, Refuses, exactly, exactly_with}
use Rattle.machine.specs.Store.{Session}
use Rattle.install_plan.specs.Judges.{Refused}

-- ---- one list behind another one

module _ {R S : Type 0} where
  pub refuses_left : (rs ss : List (Refusal R S)) (old : S) (reply : R) (new : S) → Refuses rs old reply new → Refuses (rs ++ ss) old reply new
  refuses_left [] ss old reply new refuses = absurd refuses
  refuses_left (r ∷ rs) ss old reply new (inl given) = inl given
  refuses_left (r ∷ rs) ss old reply new (inr later) = inr (later.0, refuses_left rs ss old reply new later.1)

  pub refuses_right : (rs ss : List (Refusal R S)) (old : S) (reply : R) (new : S) → PassesAll rs → Refuses ss old reply new → Refuses (rs ++ ss) old reply new
  refuses_right [] ss old reply new passes refuses = refuses
  refuses_right (r ∷ rs) ss old reply new passes refuses = inr (passes.0, refuses_right rs ss old reply new passes.1 refuses)

  pub passes_both : (rs ss : List (Refusal R S)) → PassesAll rs → PassesAll ss → PassesAll (rs ++ ss)
  passes_both [] ss first second = second
  passes_both (r ∷ rs) ss first second = (first.0, passes_both rs ss first.1 second)

  -- ---- alike

  -- the second is given where the first is, and passed where the first is
  pub record Alike (r s : Refusal R S) : Type 0 where
    pub gives : (reply : R) → r.gives reply → s.gives reply
    pub otherwise : r.otherwise → s.otherwise
    pub leaves : (x : S) → r.leaves x ≡ s.leaves x

  abbrev pub AreAlike : List (Refusal R S) → List (Refusal R S) → Type 0
  AreAlike [] [] = Unit {0}
  AreAlike [] (s ∷ ss) = ⊥
  AreAlike (r ∷ rs) [] = ⊥
  AreAlike (r ∷ rs) (s ∷ ss) = Alike r s × AreAlike rs ss

  pub passes_alike : (rs ss : List (Refusal R S)) → AreAlike rs ss → PassesAll rs → PassesAll ss
  passes_alike [] [] alike passes = tt
  passes_alike [] (s ∷ ss) alike passes = absurd alike
  passes_alike (r ∷ rs) [] alike passes = absurd alike
  passes_alike (r ∷ rs) (s ∷ ss) alike passes = (alike.0.otherwise passes.0, passes_alike rs ss alike.1 passes.1)

  pub refuses_alike : (rs ss : List (Refusal R S)) (old : S) (reply : R) (new : S) → AreAlike rs ss → Refuses rs old reply new → Refuses ss old reply new
  refuses_alike [] [] old reply new alike refuses = refuses
  refuses_alike [] (s ∷ ss) old reply new alike refuses = absurd alike
  refuses_alike (r ∷ rs) [] old reply new alike refuses = absurd alike
  refuses_alike (r ∷ rs) (s ∷ ss) old reply new alike (inl given) = inl (alike.0.gives reply given.0, given.1 ∙ alike.0.leaves old)
  refuses_alike (r ∷ rs) (s ∷ ss) old reply new alike (inr later) = inr (alike.0.otherwise later.0, refuses_alike rs ss old reply new alike.1 later.1)

  pub exactly_alike : (W V : Type 0) (reply : R) → (W → V) → (V → W) → Alike (exactly {S = S} W reply) (exactly {S = S} V reply)
  exactly_alike W V reply to from = record {
    gives = λ r given. (to given.0, given.1);
    otherwise = λ no v. no (from v);
    leaves = λ x. refl;
  }

  pub exactly_with_alike : {A : Type 0} (W V : A → Type 0) (reply : A → R) → ((x : A) → W x → V x) → ((x : A) → V x → W x) → Alike (exactly_with {S = S} W reply) (exactly_with {S = S} V reply)
  exactly_with_alike W V reply to from = record {
    gives = λ r given. (given.0, to given.0 given.1, given.2);
    otherwise = λ no x v. no x (from x v);
    leaves = λ x. refl;
  }

-- ---- judgements

pub refused_left : (rs ss : List (Refusal Reply Session)) (reply : Reply) → Refused rs reply → Refused (rs ++ ss) reply
refused_left rs ss reply (inl memory) = inl memory
refused_left rs ss reply (inr refuses) = inr (λ old. refuses_left rs ss old reply old (refuses old))

pub refused_right : (rs ss : List (Refusal Reply Session)) (reply : Reply) → PassesAll rs → Refused ss reply → Refused (rs ++ ss) reply
refused_right rs ss reply passes (inl memory) = inl memory
refused_right rs ss reply passes (inr refuses) = inr (λ old. refuses_right rs ss old reply old passes (refuses old))

pub refused_alike : (rs ss : List (Refusal Reply Session)) (reply : Reply) → AreAlike rs ss → Refused rs reply → Refused ss reply
refused_alike rs ss reply alike (inl memory) = inl memory
refused_alike rs ss reply alike (inr refuses) = inr (λ old. refuses_alike rs ss old reply old alike (refuses old))
