-- Bytes of a link that are checked and taken piece by piece.
use Rattle.std.proofs.Common.{◌≡◌, ℕ, ◌+◌, ◌≤◌, List, [], ◌∷◌, ◌++◌, length, take, inl, inr, refl, sym, ap, subst, ◌∙◌, append_assoc, arith}
use Rattle.std.proofs.lemmas.List.{append-nil, length-append, length-take, take_all, take_at}
use Rattle.digest_list.specs.declared.checker.Checker.{Checker}
use Rattle.digest_list.specs.declared.digest.Digest.{Digest}
use Rattle.digest_list.specs.Checker.{IsFed}
use Rattle.links.specs.declared.history.LinkCall.{LinkCall}
use Rattle.links.specs.declared.history.LinkCall.TheVariants.{Gave}
use Rattle.links.specs.Asked.{Calls}
use Rattle.links.specs.Link.{LinkState, KeepsSite}
use Rattle.outside.specs.Streams.{Consumes}
use Rattle.fetcher.specs.Once.{Took}
use Rattle.fetcher.specs.Stopped.{Pours, PoursPiece}
use Rattle.fetcher.proofs.Histories.{AllGave, StopAtEmpty, gave_ends, took_gave, took_none}

-- so many bytes of a link were checked and taken, by calls as it says
pub record Poured (Ends : List LinkCall → Type 0) (done : ℕ) (first now : LinkState) (old new : Checker) (tells : Type 0) (before after : List ℕ) : Type 0 where
  pub bytes : List ℕ
  pub counted : length bytes ≡ done
  pub fed : (list : List Digest) (size : ℕ) (m : List ℕ) → IsFed old list size m → IsFed new list size (m ++ bytes)
  pub taken : tells → after ≡ before ++ bytes
  pub told : first.tells → first.rest ≡ bytes ++ now.rest
  pub took : Took Ends first now bytes

pub poured_none : (first : LinkState) (checker : Checker) (tells : Type 0) (taken : List ℕ) → Poured AllGave 0 first first checker checker tells taken taken
poured_none first checker tells taken = record {
  bytes = [];
  counted = refl;
  fed = λ list size m fed. subst (IsFed checker list size) (sym (append-nil m)) fed;
  taken = λ t. sym (append-nil taken);
  told = λ t. refl;
  took = took_none first;
}

-- a piece more
pub poured_more : (Ends : List LinkCall → Type 0) (done n : ℕ) (first now next : LinkState) (old mid new : Checker) (tells : Type 0) (before during after buf : List ℕ)
    → Poured AllGave done first now old mid tells before during → PoursPiece mid new tells during after (take n buf) → n ≤ length buf → KeepsSite first now
    → (now.tells → Consumes now.rest next.rest buf n) → Calls now next (Gave (take n buf) ∷ [])
    → ((calls : List LinkCall) → AllGave calls → Ends (calls ++ Gave (take n buf) ∷ []))
    → Poured Ends (done + n) first next old new tells before after
poured_more Ends done n first now next old mid new tells before during after buf so piece within site told calls ends =
    let long : length (take n buf) ≡ n = omega (arith, length-take n buf) in
    record {
      bytes = so.bytes ++ take n buf;
      counted = omega (arith, length-append so.bytes (take n buf), so.counted, long);
      fed = λ list size m fed. subst (IsFed new list size) (append_assoc m so.bytes (take n buf)) (piece.fed list size (m ++ so.bytes) (so.fed list size m fed));
      taken = λ t. piece.taken t ∙ ap (λ (l : List ℕ). l ++ take n buf) (so.taken t) ∙ append_assoc before so.bytes (take n buf);
      told = λ t. so.told t ∙ ap (λ (l : List ℕ). so.bytes ++ l) (told (site.tells.0 t)).given ∙ sym (append_assoc so.bytes (take n buf) next.rest);
      took = took_gave Ends first now next so.bytes (take n buf) so.took calls ends;
    }

-- as many as are wanted
pub poured_all : (done size : ℕ) (first now : LinkState) (old new : Checker) (tells : Type 0) (before after : List ℕ)
    → Poured AllGave done first now old new tells before after → done ≡ size → Pours size first now old new tells before after
poured_all done size first now old new tells before after so all = record {
  bytes = so.bytes;
  fed = so.fed;
  taken = so.taken;
  told = λ t. sym (ap (take size) (so.told t) ∙ take_at so.bytes now.rest size (so.counted ∙ all));
  took = record {
    pieces = so.took.pieces;
    only = so.took.only;
    calls = so.took.calls;
    ends = gave_ends so.took.pieces so.took.ends;
    given = so.took.given;
  };
  all = inl (ap length so.took.given ∙ so.counted ∙ all);
}

-- all that there are
pub poured_end : (done size : ℕ) (first now : LinkState) (old new : Checker) (tells : Type 0) (before after : List ℕ)
    → Poured StopAtEmpty done first now old new tells before after → done ≤ size → (first.tells → now.rest ≡ []) → Pours size first now old new tells before after
poured_end done size first now old new tells before after so within none = record {
  bytes = so.bytes;
  fed = so.fed;
  taken = so.taken;
  told = λ t.
      let all : first.rest ≡ so.bytes = so.told t ∙ ap (λ (l : List ℕ). so.bytes ++ l) (none t) ∙ append-nil so.bytes in
      sym (ap (take size) all ∙ take_all size so.bytes (omega (arith, so.counted, within)));
  took = record {
    pieces = so.took.pieces;
    only = so.took.only;
    calls = so.took.calls;
    ends = so.took.ends.0;
    given = so.took.given;
  };
  all = inr so.took.ends.1;
}

-- where no byte came, none is left
pub nothing_left : (n : ℕ) (old new buf : List ℕ) → n ≡ 0 → Consumes old new buf n → new ≡ []
nothing_left n old new buf none consumes =
    let same : old ≡ new = consumes.given ∙ ap (λ (k : ℕ). take k buf ++ new) none in
    sym same ∙ consumes.end none
