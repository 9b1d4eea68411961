-- The wanted files, fetched one after another.
use Rattle.std.proofs.Common.{◌≡◌, ◌∙◌, ◌++◌, ◌+◌, ◌<◌, ◌^◌, inl, inr, refl, sym, ap, subst, ℕ, suc, List, [], ◌∷◌, length, take, drop, get_or, Option, Some, None, add-one, append_assoc, drop-cons}
use Rattle.std.specs.Prelude.{IfSome, IsSomeAnd, slice_get}
use Rattle.std.specs.List.{AllZip}
use Rattle.std.proofs.lemmas.List.{append-nil, map-append, take-append-drop}
use Rattle.std.proofs.lemmas.Option.{slice_get_read}
use Rattle.std.proofs.Math.Seq.{take-suc}
use Rattle.small_types.specs.declared.target.Target.{Target}
use Rattle.causes.specs.declared.cause.Cause.{Cause}
use Rattle.digest_list.specs.declared.digest.Digest.{Digest}
use Rattle.digest_list.specs.Matches.{Matches}
use Rattle.manifests.specs.declared.facts.FileEntry.{FileEntry}
use Rattle.machine.specs.declared.reply.Reply.{Reply}
use Rattle.machine.specs.declared.reply.Reply.TheVariants.{AllLinks, Memory}
use Rattle.links.specs.Links.{LinksState}
use Rattle.fetcher.specs.Fetched.{WasAsked, Kept, KeptBut, MayAsk}
use Rattle.fetcher.proofs.Liars.{but_all, but_then, but_weaker}
use Rattle.fetcher.proofs.Sequence.{all_same, quiet_second}
use Rattle.install_plan.specs.declared.plan.WantedFile.{WantedFile}
use Rattle.install_plan.specs.Brought.{IsFileFrom}
use Rattle.install_plan.specs.FetchedFiles.{ArePlaces, AsksFirst, HasFetched, IsEntryAt, IsFetched, IsFileAt, IsFileUngiven, IsLack, IsListedIn, IsStopped, Stops, addresses}
use Rattle.install_plan.proofs.Causes.{causes_from, file_follows}
use Rattle.install_plan.proofs.Extends.{left_from, left_on}

some_map : {X : Type 0} (P Q : X → Type 0) (o : Option X) → ((x : X) → P x → Q x) → IfSome o P → IfSome o Q
some_map P Q None each is = tt
some_map P Q (Some x) each is = each x is

zip_map : {X Y : Type 0} (P Q : X → Y → Type 0) (xs : List X) (ys : List Y) → ((x : X) (y : Y) → P x y → Q x y) → AllZip P xs ys → AllZip Q xs ys
zip_map P Q [] [] each is = tt
zip_map P Q [] (y ∷ ys) each is = absurd is
zip_map P Q (x ∷ xs) [] each is = absurd is
zip_map P Q (x ∷ xs) (y ∷ ys) each is = (each x y is.0, zip_map P Q xs ys each is.1)

zip_push : {X Y : Type 0} (P : X → Y → Type 0) (xs : List X) (ys : List Y) (x : X) (y : Y) → AllZip P xs ys → P x y → AllZip P (xs ++ x ∷ []) (ys ++ y ∷ [])
zip_push P [] [] x y all last = (last, tt)
zip_push P [] (z ∷ ys) x y all last = absurd all
zip_push P (w ∷ xs) [] x y all last = absurd all
zip_push P (w ∷ xs) (z ∷ ys) x y all last = (all.0, zip_push P xs ys x y all.1 last)

-- ---- over more of the line

module _ (a b c : LinksState) (one : Kept a b) (two : Kept b c) where
  file_from : (entry : FileEntry) (target : Target) (bytes : List ℕ) → IsFileFrom b c entry target bytes → IsFileFrom a c entry target bytes
  file_from entry target bytes is = left_from a b c one two (Matches entry.list entry.size) target bytes is

  file_on : (entry : FileEntry) (target : Target) (bytes : List ℕ) → IsFileFrom a b entry target bytes → IsFileFrom a c entry target bytes
  file_on entry target bytes is = left_on a b c one two (Matches entry.list entry.size) target bytes is

  at_on : (files : List FileEntry) (file : WantedFile) (bytes : List ℕ) → IsFileAt a b files file bytes → IsFileAt a c files file bytes
  at_on files file bytes is = some_map (λ entry. IsFileFrom a b entry file.target bytes) (λ entry. IsFileFrom a c entry file.target bytes) (slice_get files file.place) (λ entry of. file_on entry file.target bytes of) is

  at_from : (files : List FileEntry) (file : WantedFile) (bytes : List ℕ) → IsFileAt b c files file bytes → IsFileAt a c files file bytes
  at_from files file bytes is = some_map (λ entry. IsFileFrom b c entry file.target bytes) (λ entry. IsFileFrom a c entry file.target bytes) (slice_get files file.place) (λ entry of. file_from entry file.target bytes of) is

  pub all_on : (files : List FileEntry) (wanted : List WantedFile) (gave : List (List ℕ)) → AllZip (IsFileAt a b files) wanted gave → AllZip (IsFileAt a c files) wanted gave
  all_on files wanted gave all = zip_map (IsFileAt a b files) (IsFileAt a c files) wanted gave (at_on files) all

  pub all_from : (files : List FileEntry) (wanted : List WantedFile) (gave : List (List ℕ)) → AllZip (IsFileAt b c files) wanted gave → AllZip (IsFileAt a c files) wanted gave
  all_from files wanted gave all = zip_map (IsFileAt b c files) (IsFileAt a c files) wanted gave (at_from files) all

  pub lack_from : (entry : FileEntry) (target : Target) (reasons : List Cause) → IsFileUngiven entry target b c reasons → IsFileUngiven entry target a c reasons
  lack_from entry target reasons is = record {
    causes = causes_from _ a b c reasons (file_follows entry.list entry.size target) one two is.causes;
    none = λ quiet. is.none (quiet_second a b c one two quiet);
  }

-- ---- what is listed

listed_more : (files : List FileEntry) (wanted more : List WantedFile) (t : Target) (l : List Digest) (s : ℕ)
    → IsListedIn files wanted t l s → IsListedIn files (wanted ++ more) t l s
listed_more files [] more t l s is = absurd is
listed_more files (file ∷ wanted) more t l s (inl here) = inl here
listed_more files (file ∷ wanted) more t l s (inr there) = inr (listed_more files wanted more t l s there)

listed_last : (files : List FileEntry) (wanted : List WantedFile) (file : WantedFile) (t : Target) (l : List Digest) (s : ℕ)
    → IsSomeAnd (slice_get files file.place) (λ entry. IsEntryAt entry file.target t l s)
    → IsListedIn files (wanted ++ file ∷ []) t l s
listed_last files [] file t l s is = inl is
listed_last files (first ∷ wanted) file t l s is = inr (listed_last files wanted file t l s is)

-- ---- the loop

pub nothing_yet : (files : List FileEntry) (wanted : List WantedFile) (a : LinksState) → HasFetched files (take 0 wanted) a a []
nothing_yet files wanted a = record {
  kept = but_all (IsListedIn files (take 0 wanted)) a a (all_same a);
  grown = sym (append-nil a.asked);
  each = tt;
}

module _ (files : List FileEntry) (a b c : LinksState) (earlier : List WantedFile) (gave : List (List ℕ)) (file : WantedFile) (entry : FileEntry) (at : slice_get files file.place ≡ Some entry) (so : HasFetched files earlier a b gave) (but : KeptBut (IsEntryAt entry file.target) b c) where
  abbrev first : Kept a b
  first = so.kept.kept

  abbrev kept : Kept b c
  kept = but.kept

  -- what is listed for them, and for one file more
  one_listed : (t : Target) (l : List Digest) (s : ℕ) → IsEntryAt entry file.target t l s
      → IsListedIn files (earlier ++ file ∷ []) t l s
  one_listed t l s is =
      listed_last files earlier file t l s
      (subst (λ (o : Option FileEntry). IsSomeAnd o (λ e. IsEntryAt e file.target t l s)) (sym at) is)

  but_more : KeptBut (IsListedIn files (earlier ++ file ∷ [])) a c
  but_more =
      but_then (IsListedIn files (earlier ++ file ∷ [])) a b c
      (but_weaker (IsListedIn files earlier) (IsListedIn files (earlier ++ file ∷ [])) a b
      (λ t l s is. listed_more files earlier (file ∷ []) t l s is) so.kept)
      (but_weaker (IsEntryAt entry file.target) (IsListedIn files (earlier ++ file ∷ [])) b c one_listed but)

  pub same_asked : c.asked ≡ b.asked → c.asked ≡ a.asked ++ addresses earlier
  same_asked same = same ∙ so.grown

  more_asked : WasAsked file.target b c → c.asked ≡ a.asked ++ (addresses earlier ++ file.target ∷ [])
  more_asked asked = asked ∙ ap (λ (ts : List Target). ts ++ file.target ∷ []) so.grown ∙ append_assoc a.asked (addresses earlier) (file.target ∷ [])

  pub more_addresses : WasAsked file.target b c → c.asked ≡ a.asked ++ addresses (earlier ++ file ∷ [])
  more_addresses asked = more_asked asked ∙ ap (λ (ts : List Target). a.asked ++ ts) (sym (map-append (λ (f : WantedFile). f.target) earlier (file ∷ [])))

  pub one_more : (bytes : List ℕ) → IsFetched entry file.target b c bytes → HasFetched files (earlier ++ file ∷ []) a c (gave ++ bytes ∷ [])
  one_more bytes is = record {
    kept = but_more;
    grown = more_addresses is.asked;
    each = zip_push (IsFileAt a c files) earlier gave file bytes (all_on a b c first kept files earlier gave so.each)
        (subst (λ (o : Option FileEntry). IfSome o (λ e. IsFileFrom a c e file.target bytes)) (sym at) (file_from a b c first kept entry file.target bytes is.is));
  }

  module _ (wanted later : List WantedFile) (wants : wanted ≡ earlier ++ file ∷ later) where
    stops : (reply : Reply) → IsLack entry file.target b c reply → Stops files wanted a c reply
    stops (AllLinks named reasons) lack = record {
      earlier = earlier;
      file = file;
      later = later;
      wants = wants;
      shown = lack.0;
      grown = more_asked lack.1 ∙ ap (λ (t : Target). a.asked ++ (addresses earlier ++ t ∷ [])) (sym lack.0);
      bytes = gave;
      gave = all_on a b c first kept files earlier gave so.each;
      ungiven = subst (λ (o : Option FileEntry). IfSome o (λ e. IsFileUngiven e named a c reasons)) (sym at)
          (subst (λ (t : Target). IsFileUngiven entry t a c reasons) (sym lack.0) (lack_from a b c first kept entry file.target reasons lack.2));
    }
    stops Memory (inl same) = record { asked = earlier; others = file ∷ later; wants = wants; grown = same_asked same }
    stops Memory (inr asked) = record { asked = earlier ++ file ∷ []; others = later; wants = wants ∙ sym (append_assoc earlier (file ∷ []) later); grown = more_addresses asked }
    stops _ lack = absurd lack

    but_all_wanted : KeptBut (IsListedIn files wanted) a c
    but_all_wanted =
        but_weaker (IsListedIn files (earlier ++ file ∷ [])) (IsListedIn files wanted) a c
        (λ t l s is. subst (λ (ws : List WantedFile). IsListedIn files ws t l s)
        (append_assoc earlier (file ∷ []) later ∙ sym wants)
        (listed_more files (earlier ++ file ∷ []) later t l s is)) but_more

    pub stopped : (reply : Reply) → IsLack entry file.target b c reply → IsStopped files wanted a c reply
    stopped reply lack = record { kept = but_all_wanted; stops = stops reply lack }

    -- The first of the wanted files were asked for: those before this one, and this one unless there
    -- was no memory.
    abbrev pub asks_first : MayAsk file.target b c → AsksFirst wanted a c
    asks_first (inl same) = record { asked = earlier; others = file ∷ later; wants = wants; grown = same_asked same }
    asks_first (inr asked) = record { asked = earlier ++ file ∷ []; others = later; wants = wants ∙ sym (append_assoc earlier (file ∷ []) later); grown = more_addresses asked }

-- ---- by places

pub split_at : {X : Type 0} (xs : List X) (i : ℕ) (x : X) → i < length xs → x ≡ get_or xs i x → xs ≡ take i xs ++ x ∷ drop (suc i) xs
split_at xs i x lt is =
    sym (take-append-drop i xs)
    ∙ ap (λ rest. take i xs ++ rest) (drop-cons xs i x lt)
    ∙ ap (λ y. take i xs ++ y ∷ drop (suc i) xs) (sym is)

pub front_more : {X : Type 0} (xs : List X) (i : ℕ) (x : X) → i < length xs → x ≡ get_or xs i x → take (i + 1) xs ≡ take i xs ++ x ∷ []
front_more xs i x lt is = rw add-one (take-suc xs i x lt) ∙ ap (λ y. take i xs ++ y ∷ []) (sym is)

-- the file that is listed at the place of a wanted one
pub at_place : (files : List FileEntry) (wanted : List WantedFile) (i : ℕ) (file : WantedFile) (entry : FileEntry) → ArePlaces files wanted → i < length wanted → file ≡ get_or wanted i file → entry ≡ get_or files file.place entry
    → slice_get files file.place ≡ Some entry
at_place files wanted i file entry places lt is entry_is =
    let within : file.place < length files = subst (λ (f : WantedFile). f.place < length files) (sym is) (places.within i file lt) in
    slice_get_read files (length files) file.place entry refl within entry_is

-- and its size is one that can be hashed
pub small_place : (files : List FileEntry) (wanted : List WantedFile) (i : ℕ) (file : WantedFile) (entry : FileEntry) → ArePlaces files wanted → i < length wanted → file ≡ get_or wanted i file → entry ≡ get_or files file.place entry
    → entry.size < 2 ^ 61
small_place files wanted i file entry places lt is entry_is =
    let within : file.place < length files = subst (λ (f : WantedFile). f.place < length files) (sym is) (places.within i file lt) in
    subst (λ (e : FileEntry). e.size < 2 ^ 61) (sym entry_is) (places.sized file.place entry within)
