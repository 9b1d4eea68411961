-- How many items lack what others have.
use Rattle.std.proofs.Common.{◌≡◌, ◌≢◌, ◌⊎◌, ℕ, ◌+◌, ◌-◌, ◌<◌, ◌≤◌, List, [], ◌∷◌, ◌++◌, length, inl, inr, arith, ap, ◌∙◌, append_assoc, length-append, Result, Err, refl}
use Rattle.outside.specs.Streams.{Rose}
use Rattle.connections.specs.Door.{Accepted}
use Rattle.folders.specs.declared.folder.Held.{Held}
use Rattle.host_cli.specs.declared.run.RunFault.{RunFault}
use Rattle.host_cli.specs.declared.run.RunFault.TheVariants.{Missed, Memory}
use Rattle.host_cli.specs.Run.{AllBut, IsHeardWithin, HasAnswer, HasPartAtMost, AcceptsOne, AcceptsAsking, HostsOne, HostsBut, HostsButLast, rises}

module _ {A : Type 0} (P : A → Type 0) where
  -- more may lack it
  pub weaker : (xs : List A) (n m : ℕ) → n ≤ m → AllBut P xs n → AllBut P xs m
  weaker [] n m le all = tt
  weaker (x ∷ xs) n m le (inl has) = inl (has.0, weaker xs n m le has.1)
  weaker (x ∷ xs) n m le (inr lacks) =
      let more : m ≡ (m - 1) + 1 = omega (arith, lacks.1) in
      let less : lacks.0 ≤ m - 1 = omega (arith, lacks.1) in
      inr (m - 1, more, weaker xs lacks.0 (m - 1) less lacks.2)

  -- one more that has it
  pub one_has : (xs : List A) (x : A) (n : ℕ) → AllBut P xs n → P x → AllBut P (xs ++ x ∷ []) n
  one_has [] x n all has = inl (has, tt)
  one_has (y ∷ xs) x n (inl first) has = inl (first.0, one_has xs x n first.1 has)
  one_has (y ∷ xs) x n (inr lacks) has = inr (lacks.0, lacks.1, one_has xs x lacks.0 lacks.2 has)

  -- one more that lacks it
  pub one_lacks : (xs : List A) (x : A) (n : ℕ) → AllBut P xs n → AllBut P (xs ++ x ∷ []) (n + 1)
  one_lacks [] x n all = inr (n, omega arith, tt)
  one_lacks (y ∷ xs) x n (inl first) = inl (first.0, one_lacks xs x n first.1)
  one_lacks (y ∷ xs) x n (inr lacks) = inr (lacks.0 + 1, omega (arith, lacks.1), one_lacks xs x lacks.0 lacks.2)

-- a count that rose and is not full is greater
greater : (old new : ℕ) → Rose old new → old ≤ new → new < 0xffff_ffff_ffff_ffff → old < new
greater old new (inl less) le short = less
greater old new (inr full) le short = absurd (omega arith)

module _ (files : List Held) (old mid new : List Accepted) (g0 g1 g2 f0 f1 f2 : ℕ) (g01 : g0 ≤ g1) (g12 : g1 ≤ g2) (f01 : f0 ≤ f1) (f12 : f1 ≤ f2)
    (g_short : g2 < 0xffff_ffff_ffff_ffff) (f_short : f2 < 0xffff_ffff_ffff_ffff) (b : HostsBut files old mid (rises g0 g1 f0 f1)) where
  fated : (connection : Accepted) → HasAnswer files connection ⊎ (Rose g1 g2 ⊎ Rose f1 f2)
      → AllBut (HasAnswer files) (b.made ++ connection ∷ []) (rises g0 g2 f0 f2)
  fated connection (inl served) =
      let le : rises g0 g1 f0 f1 ≤ rises g0 g2 f0 f2 = omega arith in
      weaker (HasAnswer files) (b.made ++ connection ∷ []) (rises g0 g1 f0 f1) (rises g0 g2 f0 f2) le (one_has (HasAnswer files) b.made connection (rises g0 g1 f0 f1) b.served served)
  fated connection (inr (inl rose)) =
      let more : g1 < g2 = greater g1 g2 rose g12 g_short in
      let le : rises g0 g1 f0 f1 + 1 ≤ rises g0 g2 f0 f2 = omega arith in
      weaker (HasAnswer files) (b.made ++ connection ∷ []) (rises g0 g1 f0 f1 + 1) (rises g0 g2 f0 f2) le (one_lacks (HasAnswer files) b.made connection (rises g0 g1 f0 f1) b.served)
  fated connection (inr (inr rose)) =
      let more : f1 < f2 = greater f1 f2 rose f12 f_short in
      let le : rises g0 g1 f0 f1 + 1 ≤ rises g0 g2 f0 f2 = omega arith in
      weaker (HasAnswer files) (b.made ++ connection ∷ []) (rises g0 g1 f0 f1 + 1) (rises g0 g2 f0 f2) le (one_lacks (HasAnswer files) b.made connection (rises g0 g1 f0 f1) b.served)

  -- one connection more
  pub hosts_on : HostsOne files mid new g1 g2 f1 f2 → HostsBut files old new (rises g0 g2 f0 f2)
  hosts_on one = record {
    made = b.made ++ one.connection ∷ [];
    after = one.after ∙ ap (λ (m : List Accepted). m ++ one.connection ∷ []) b.after ∙ append_assoc old b.made (one.connection ∷ []);
    served = fated one.connection one.fate;
    begun = one_has (HasPartAtMost files) b.made one.connection 0 b.begun one.begun;
    heard = one_has IsHeardWithin b.made one.connection 0 b.heard one.heard;
  }

  -- one connection more, which is left out
  pub hosts_last : AcceptsAsking mid new → HostsButLast files old new (rises g0 g2 f0 f2)
  hosts_last one =
      let le : rises g0 g1 f0 f1 ≤ rises g0 g2 f0 f2 = omega arith in
      record {
        made = b.made;
        last = one.connection;
        after = one.after ∙ ap (λ (m : List Accepted). m ++ one.connection ∷ []) b.after;
        unsent = one.unsent;
        asks = one.asks;
        begun = b.begun;
        heard = b.heard;
        last_heard = one.heard;
        served = weaker (HasAnswer files) b.made (rises g0 g1 f0 f1) (rises g0 g2 f0 f2) le b.served;
      }

  -- no connection more
  pub hosts_still : new ≡ mid → HostsBut files old new (rises g0 g2 f0 f2)
  hosts_still same =
      let le : rises g0 g1 f0 f1 ≤ rises g0 g2 f0 f2 = omega arith in
      record {
        made = b.made;
        after = same ∙ b.after;
        begun = b.begun;
        heard = b.heard;
        served = weaker (HasAnswer files) b.made (rises g0 g1 f0 f1) (rises g0 g2 f0 f2) le b.served;
      }

-- one connection more
pub one_longer : (old new : List Accepted) → AcceptsOne old new → length new ≡ length old + 1
one_longer old new one = ap length one.after ∙ length-append old (one.connection ∷ [])

-- a run that ended early, and not for want of memory
pub missed_then : {T : Type 0} → (fault : RunFault) → (let r : Result T RunFault = Err fault in r) ≢ Err Memory → (let r : Result T RunFault = Err fault in r) ≡ Err Missed
missed_then Missed other = refl
missed_then Memory other = absurd (other refl)
