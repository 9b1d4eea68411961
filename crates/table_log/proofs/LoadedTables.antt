-- What the texts of a journal's changes lead to.
use Rattle.std.proofs.Common.{◌≡◌, ℕ, suc, ◌+◌, ◌<◌, ◌≤◌, List, [], ◌∷◌, ◌++◌, Bool, true, false, length, get_or, drop, Result, Ok, Err, drop-cons, add-one, sym, ap, subst, ◌∙◌, refl, arith}
use Rattle.std.proofs.lemmas.Grind.{common_steps}
use Rattle.record_fields.specs.declared.fault.CodecFault.{CodecFault}
use Rattle.record_fields.specs.declared.fault.CodecFault.TheVariants.{Bad}
use Rattle.record_codec.specs.Codec.{change_text, group_text, heard_text, install_text, put_text, remove_text, IsChange}
use Rattle.record_fields.specs.Readers.{Gives}
use Rattle.record_codec.proofs.Changes.{change_text_injective}
use Rattle.std.specs.Prelude.{IfOk, OnOk}
use Rattle.store_state.specs.declared.state.StateFault.{StateFault}
use Rattle.store_state.specs.declared.change.Change.{Change}
use Rattle.store_state.specs.declared.change.Change.TheVariants.{Boot, Require, Install, Heard, Unheard, Skip, Rollback, Launch, Finish, Group, Put, Remove, Clean}
use Rattle.store_state.specs.Change.{Fits, effect}
use Rattle.store_state.specs.Tables.{Tables}
use Rattle.table_codec.specs.Laws.{FieldsStay}
use Rattle.table_codec.specs.Values.{HaveFields}
use Rattle.table_log.specs.Texts.{Encodes, Loads}
use Rattle.table_log.specs.Replay.{FitsNone, IsMade, LoadsNone, Makes, Tests, Tries}

-- a change has some text
pub some_text : (change : Change) → 1 ≤ length (change_text change)
unfolding change_text install_text heard_text group_text put_text remove_text
some_text (Boot boot) = omega arith
some_text (Require key version) = omega arith
some_text (Install view contents provider now) = omega arith
some_text (Heard key version minimum now) = omega arith
some_text (Unheard key) = omega arith
some_text (Skip app) = omega arith
some_text (Rollback app) = omega arith
some_text (Launch app) = omega arith
some_text (Finish lease) = omega arith
some_text (Group view group contents) = omega arith
some_text (Put view file) = omega arith
some_text (Remove view name) = omega arith
some_text Clean = omega arith

-- a text encodes one change
pub one_encoded : (a b : Change) (text : List ℕ) → Encodes a text → Encodes b text → a ≡ b
one_encoded a b text first second = change_text_injective a b first.has second.has (sym first.is ∙ second.is)

-- ---- what is read

-- a text that cannot be read encodes nothing
pub none_read : (text : List ℕ) (old : Tables) (read : Result Change CodecFault) (place : ℕ) → read ≡ Err (Bad place) → ((c : Change) → IsChange c → text ≡ change_text c → Gives read (Ok c)) → FitsNone text old
unfolding FitsNone
none_read text old read place is only change encodes fits =
    let gives : Gives (Err (Bad place)) (Ok change) = subst (λ (r : Result Change CodecFault). Gives r (Ok change)) is (only change encodes.has encodes.is) in
    absurd (let clash : Ok change ≡ Err (Bad place) = gives in cc)

-- a text that is read encodes what was read
pub unfit_read : (text : List ℕ) (old : Tables) (read : Result Change CodecFault) (change : Change) → read ≡ Ok change → ((c : Change) → IsChange c → text ≡ change_text c → Gives read (Ok c)) → (Fits old change → ⊥) → FitsNone text old
unfolding FitsNone
unfit_read text old read change is only unfit other encodes fits =
    let gives : Gives (Ok change) (Ok other) = subst (λ (r : Result Change CodecFault). Gives r (Ok other)) is (only other encodes.has encodes.is) in
    let same : other ≡ change = (let e : ◌≡◌ {A = Result Change CodecFault} (Ok other) (Ok change) = gives in cc) in
    unfit (subst (λ (c : Change). Fits old c) same fits)

-- and is made
pub made_read : (text : List ℕ) (old new : Tables) (change : Change) → IsChange change × (text ≡ change_text change) → Fits old change → new ≡ effect change old → Makes text old new
made_read text old new change is fits leads = record { change = change; encodes = record { has = is.0; is = is.1 }; fits = fits; leads = leads }

-- texts lead to one state of the tables
pub loads_same : (old a b : Tables) (texts : List (List ℕ)) → Loads old texts a → Loads old texts b → a ≡ b
loads_same old a b [] first second = first ∙ sym second
loads_same old a b (text ∷ texts) first second =
    let same : second.0 ≡ first.0 = one_encoded second.0 first.0 text second.1 first.1 in
    loads_same (effect first.0 old) a b texts first.3 (subst (λ (c : Change). Loads (effect c old) texts b) same second.3)

-- where the fields of tables have encodings, so have those to which changes lead
pub loads_fields : FieldsStay → (old new : Tables) (texts : List (List ℕ)) → HaveFields old → Loads old texts new → HaveFields new
loads_fields stay old new [] have loads = subst HaveFields (sym loads) have
loads_fields stay old new (text ∷ texts) have loads = loads_fields stay (effect loads.0 old) new texts (stay old loads.0 have loads.2 loads.1.has) loads.3

-- one change more
pub loads-push : (old mid : Tables) (texts : List (List ℕ)) (change : Change) (last : List ℕ) → Loads old texts mid → Encodes change last → Fits mid change → Loads old (texts ++ last ∷ []) (effect change mid)
loads-push old mid [] change last loads encodes fits = (change, encodes, subst (λ (s : Tables). Fits s change) loads fits, ap (effect change) loads)
loads-push old mid (text ∷ texts) change last loads encodes fits = (loads.0, loads.1, loads.2, loads-push (effect loads.0 old) mid texts change last loads.3 encodes fits)

-- a text that is made leads on
made_on : (text : List ℕ) (texts : List (List ℕ)) (old mid new : Tables) → Makes text old mid → Loads mid texts new → Loads old (text ∷ texts) new
made_on text texts old mid new made loads = (made.change, made.encodes, made.fits, subst (λ (s : Tables). Loads s texts new) made.leads loads)

-- and is the only one that leads on
made_only : (text : List ℕ) (texts : List (List ℕ)) (old mid new : Tables) → Makes text old mid → Loads old (text ∷ texts) new → Loads mid texts new
made_only text texts old mid new made loads =
    let same : loads.0 ≡ made.change = one_encoded loads.0 made.change text loads.1 made.encodes in
    subst (λ (s : Tables). Loads s texts new) (ap (λ (c : Change). effect c old) same ∙ sym made.leads) loads.3

-- a text that is made by none leads nowhere
none_on : (text : List ℕ) (texts : List (List ℕ)) (old new : Tables) → FitsNone text old → Loads old (text ∷ texts) new → ⊥
unfolding FitsNone
none_on text texts old new none loads = none loads.0 loads.1 loads.2

-- the next text
next_text : (texts : List (List ℕ)) (i : ℕ) (text : List ℕ) → i < length texts → text ≡ get_or texts i text → drop i texts ≡ text ∷ drop (i + 1) texts
next_text texts i text within is =
    drop-cons texts i text within ∙ ap (λ (t : List ℕ). t ∷ drop (suc i) texts) (sym is) ∙ ap (λ (n : ℕ). text ∷ drop n texts) (sym (add-one i))

-- what is left of the texts, from the i-th on, leads from these tables to others exactly where all of them lead there
-- from the first ones
pub record LeadsOn (texts : List (List ℕ)) (i : ℕ) (first mid : Tables) : Type 0 where
  pub onto : (tables : Tables) → Loads mid (drop i texts) tables → Loads first texts tables
  pub back : (tables : Tables) → Loads first texts tables → Loads mid (drop i texts) tables

pub leads_more : (texts : List (List ℕ)) (i : ℕ) (text : List ℕ) (first mid new : Tables) → LeadsOn texts i first mid → i < length texts → text ≡ get_or texts i text → Makes text mid new → LeadsOn texts (i + 1) first new
leads_more texts i text first mid new leads within is made =
    let next = next_text texts i text within is in
    record {
      onto = λ tables loads. leads.onto tables (subst (λ (l : List (List ℕ)). Loads mid l tables) (sym next) (made_on text (drop (i + 1) texts) mid new tables made loads));
      back = λ tables loads. made_only text (drop (i + 1) texts) mid new tables made (subst (λ (l : List (List ℕ)). Loads mid l tables) next (leads.back tables loads));
    }

pub leads_nowhere : (texts : List (List ℕ)) (i : ℕ) (text : List ℕ) (first mid : Tables) → LeadsOn texts i first mid → i < length texts → text ≡ get_or texts i text → FitsNone text mid → LoadsNone first texts
unfolding LoadsNone
leads_nowhere texts i text first mid leads within is none tables loads =
    none_on text (drop (i + 1) texts) mid tables none (subst (λ (l : List (List ℕ)). Loads mid l tables) (next_text texts i text within is) (leads.back tables loads))

nothing_left : (texts : List (List ℕ)) (i : ℕ) → length texts ≤ i → drop i texts ≡ []
nothing_left texts i all = grind (arith, common_steps)

pub leads_through : (texts : List (List ℕ)) (i : ℕ) (first mid : Tables) → LeadsOn texts i first mid → length texts ≤ i → Loads first texts mid
leads_through texts i first mid leads all = leads.onto mid (subst (λ (l : List (List ℕ)). Loads mid l mid) (sym (nothing_left texts i all)) refl)

pub leads_first : (texts : List (List ℕ)) (first : Tables) → LeadsOn texts 0 first first
leads_first texts first = record { onto = λ tables loads. loads; back = λ tables loads. loads }

-- ---- by the answer

pub made_if : (made : Bool) (text : List ℕ) (old new : Tables) → Tries text old new made → made ≡ true → Makes text old new
made_if made text old new tries is = subst (Tries text old new) is tries

pub none_if : (made : Bool) (text : List ℕ) (old new : Tables) → Tries text old new made → made ≡ false → FitsNone text old
none_if made text old new tries is = subst (Tries text old new) is tries

-- ---- by what became of the change

-- a change that was tried
pub tried : (text : List ℕ) (old new : Tables) (read : Result Change CodecFault) (change : Change) (result : Result Bool StateFault) → read ≡ Ok change → IfOk read (λ c. IsChange c × (text ≡ change_text c)) → ((c : Change) → IsChange c → text ≡ change_text c → Gives read (Ok c)) → IfOk result (Tests change old new) → IfOk result (Tries text old new)
tried text old new read change (Ok true) is found only tests = made_read text old new change (let at = rw is at found in at) tests.0 tests.1
tried text old new read change (Ok false) is found only tests = unfit_read text old read change is only tests
tried text old new read change (Err fault) is found only tests = tt

-- one that fits was made, or there was no memory
pub made_by : (change : Change) (old new : Tables) (applied : Result (Unit {0}) StateFault) (result : Result Bool StateFault) → Fits old change → OnOk applied (new ≡ effect change old) → IsMade applied result → IfOk result (Tests change old new)
made_by change old new (Ok done) result fits leads is = subst (λ (r : Result Bool StateFault). IfOk r (Tests change old new)) (sym is) (fits, leads)
made_by change old new (Err fault) result fits leads is = subst (λ (r : Result Bool StateFault). IfOk r (Tests change old new)) (sym is) tt
