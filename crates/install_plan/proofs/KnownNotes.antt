-- Whether what is noted of an application is known already.
use Rattle.std.proofs.Common.{◌≡◌, ◌≢◌, ◌∙◌, ◌↔◌, refl, sym, ap, ℕ, Bool, true, false, IsTrue, Option, Some}
use Rattle.identity.specs.declared.version.Version.{Version}
use Rattle.machine.specs.declared.app.AppState.{AppState}
use Rattle.machine.specs.CheckRow.{unheard_app}
use Rattle.machine.specs.Installed.{above, raised_by}
use Rattle.install_plan.specs.declared.check.Offered.{Offered}
use Rattle.install_plan.specs.Checks.{heard_of}
use Rattle.install_plan.proofs.Judged.{not_so}

false_is : (b : Bool) → b ≡ false → IsTrue b → ⊥
false_is true e is = cc
false_is false e is = cc

never : (P : Type 0) → (P → ⊥) → IsTrue false ↔ P
never P fails = ((λ is. absurd (false_is false refl is)), (λ p. absurd (fails p)))

-- ---- what was heard

module _ (offered : Offered) (app : AppState) where
  abbrev offer : Option Version
  offer = above offered.have (Some offered.version)

  abbrev minimum : Option Version
  minimum = raised_by offered.minimum app.minimum

  abbrev Known : Type 0
  Known = heard_of offered app ≡ app

  pub never_checked : app.checked ≡ false → IsTrue false ↔ Known
  never_checked is =
      never Known (λ known. false_is app.checked is
      (sym (ap (λ (x : AppState). x.checked) known)))

  pub never_then : (test : Bool) → IsTrue test ↔ app.last_check ≡ Some offered.now
      → test ≡ false → IsTrue false ↔ Known
  never_then test exact is =
      never Known (λ known. not_so test (app.last_check ≡ Some offered.now) exact is
      (sym (ap (λ (x : AppState). x.last_check) known)))

  pub never_offered : (test : Bool) (found : Option Version) → found ≡ offer
      → IsTrue test ↔ app.offer ≡ found → test ≡ false → IsTrue false ↔ Known
  never_offered test found same exact is =
      never Known (λ known. not_so test (app.offer ≡ found) exact is
      (sym (ap (λ (x : AppState). x.offer) known) ∙ sym same))

  known : app.checked ≡ true → app.last_check ≡ Some offered.now → app.offer ≡ offer
      → app.minimum ≡ minimum → Known
  known checked last same least =
      ap (λ (m : Option Version). record app {
        minimum = m;
        offer = offer;
        last_check = Some offered.now;
        checked = true;
      }) (sym least)
      ∙ ap (λ (o : Option Version). record app {
        offer = o;
        last_check = Some offered.now;
        checked = true;
      }) (sym same)
      ∙ ap (λ (l : Option ℕ). record app { last_check = l; checked = true }) (sym last)
      ∙ ap (λ (b : Bool). record app { checked = b }) (sym checked)

  -- the minimum decides where the rest is known
  pub known_by : app.checked ≡ true
      → (last : Bool) → IsTrue last ↔ app.last_check ≡ Some offered.now → last ≡ true
      → (same : Bool) (found : Option Version) → found ≡ offer → IsTrue same ↔ app.offer ≡ found
      → same ≡ true
      → (result : Bool) (least : Option Version) → least ≡ minimum
      → IsTrue result ↔ app.minimum ≡ least → IsTrue result ↔ Known
  known_by checked last last_exact last_is same found found_is same_exact same_is result least least_is exact = (
    (λ is. known checked (last_exact.0 last_is) (same_exact.0 same_is ∙ found_is)
        (exact.0 is ∙ least_is)),
    (λ all. exact.1 (sym (ap (λ (x : AppState). x.minimum) all) ∙ sym least_is)),
  )

-- ---- where nothing was heard

module _ (app : AppState) where
  pub checked_stays : app.checked ≡ true → unheard_app app ≡ app
  checked_stays is = ap (λ (b : Bool). record app { checked = b }) (sym is)

  pub checked_differs : app.checked ≡ false → unheard_app app ≢ app
  checked_differs is same =
      false_is app.checked is (sym (ap (λ (x : AppState). x.checked) same))
