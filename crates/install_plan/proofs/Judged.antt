-- What the tests of a judgement say.
use Rattle.std.proofs.Common.{◌≡◌, ◌≢◌, ◌∙◌, ◌⊎◌, ◌||◌, ◌<◌, ℕ, inl, inr, refl, sym, ap, true, false, Bool, not, List, [], ◌∷◌, length, map, get_or, Ok, Err}
use Rattle.std.specs.Prelude.{◌↔◌, Any, IsTrue, Result, sum_by}
use Rattle.std.specs.List.{list_any}
use Rattle.std.proofs.lemmas.List.{get_or_default, length-map}
use Rattle.small_types.specs.declared.target.Target.{Target}
use Rattle.small_types.specs.Name.{IsBelowPre}
use Rattle.addresses.specs.declared.fault.UrlFault.{UrlFault}
use Rattle.addresses.specs.declared.fault.UrlFault.TheVariants.{BadUrl, NotHttp, Memory}
use Rattle.addresses.specs.Address.{Gives, target_of_text}
use Rattle.manifests.specs.Applications.{is_below_pre}
use Rattle.manifests.specs.Facts.{IsProvider}
use Rattle.machine.specs.declared.reply.Reply.{Reply}
use Rattle.machine.specs.declared.reply.Reply.TheVariants as says
use Rattle.machine.specs.Shape.{BareData, BareView}
use Rattle.machine.proofs.Members.{sum_map}
use Rattle.machine.proofs.Names.{below_test, outside_test}
use Rattle.store_state.specs.declared.view.LocalFile.{LocalFile}
use Rattle.store_state.specs.declared.view.View.{View}
use Rattle.store_state.specs.Rows.{listed_files}
use Rattle.store_state.specs.Tables.{bare_local, bare_row}
use Rattle.install_plan.specs.Replies.{url_reply}

-- ---- tests

pub not_so : (b : Bool) (P : Type 0) → IsTrue b ↔ P → b ≡ false → P → ⊥
not_so b P exact is holds = other b is (exact.1 holds)
  where
    other : (t : Bool) → t ≡ false → IsTrue t → ⊥
    other true e f = cc
    other false e f = cc

pub or_first : (r a b : Bool) → r ≡ a → r ≡ true → r ≡ (a || b)
or_first r a b is holds = holds ∙ sym (ap (λ (t : Bool). t || b) (sym is ∙ holds))

pub or_second : (r a t b : Bool) → r ≡ a → r ≡ false → t ≡ b → t ≡ (a || b)
or_second r a t b is fails new = new ∙ sym (ap (λ (x : Bool). x || b) (sym is ∙ fails))

pub outside_flag : (r : Bool) (name : List ℕ) → IsTrue r ↔ IsBelowPre name → not r ≡ not (is_below_pre name)
outside_flag true name exact = sym (ap not (below_test name (exact.0 refl)))
outside_flag false name exact = sym (ap not (outside_test name (λ below. (let e : false ≡ true = exact.1 below in cc))))

-- ---- the tables and their shape

pub rows : (views : List View) → length (map bare_row views) ≡ length views
rows views = length-map views bare_row

pub listed_rows : (views : List View) → sum_by (λ (view : BareView). length view.application.files) (map bare_row views) ≡ listed_files views
listed_rows views = sum_map bare_row (λ (view : BareView). length view.application.files) views

pub data_in_rows : (files : List LocalFile) → list_any (λ (file : LocalFile). not (is_below_pre file.name)) files ≡ list_any (λ (file : BareData). not (is_below_pre file.name)) (map bare_local files)
data_in_rows [] = refl
data_in_rows (file ∷ files) = ap (λ (b : Bool). not (is_below_pre file.name) || b) (data_in_rows files)

-- ---- addresses of files

-- a file's address is refused as a bad one alone
pub file_refused : (fault : UrlFault) (reply : Reply) (found named : Result Target UrlFault) → reply ≡ url_reply fault → Gives (Err fault) found
    → ((scheme : List ℕ) → ◌≢◌ {A = Result Target UrlFault} (Err fault) (Err (NotHttp scheme))) → named ≡ found
    → (reply ≡ says.Memory) ⊎ ((reply ≡ says.BadUrl) × (named ≡ Err BadUrl))
file_refused BadUrl reply found named is gives http same = inr (is, same ∙ gives)
file_refused (NotHttp scheme) reply found named is gives http same = absurd (http scheme refl)
file_refused Memory reply found named is gives http same = inl is

-- that of the file at a place is
pub refused_at : (reply : Reply) (P : ℕ → Type 0) (places : List ℕ) (k : ℕ) → k < length places
    → (reply ≡ says.Memory) ⊎ ((reply ≡ says.BadUrl) × P (get_or places k 0)) → (reply ≡ says.Memory) ⊎ ((reply ≡ says.BadUrl) × Any P places)
refused_at reply P places k within (inl memory) = inl memory
refused_at reply P places k within (inr bad) = inr (bad.0, (k, get_or places k 0, within, get_or_default places k (get_or places k 0) 0 within, bad.1))

-- ---- addresses of providers

-- what was read as an address is read as one again, unless there is no memory
pub only_memory : (text bytes : List ℕ) (fault : UrlFault) → bytes ≡ text → IsProvider text → Gives (Err fault) (target_of_text bytes) → fault ≡ Memory
only_memory text bytes fault same is gives = by fault gives
  where
    clash : (t : Target) (e : UrlFault) → ◌≡◌ {A = Result Target UrlFault} (Ok t) (Err e) → ⊥
    clash t e is = cc

    read : target_of_text bytes ≡ Ok is.target
    read = ap target_of_text same ∙ is.address

    by : (e : UrlFault) → Gives (Err e) (target_of_text bytes) → e ≡ Memory
    by BadUrl gives = absurd (clash is.target BadUrl (sym read ∙ gives))
    by (NotHttp scheme) gives = absurd (clash is.target (NotHttp scheme) (sym read ∙ gives))
    by Memory gives = refl
