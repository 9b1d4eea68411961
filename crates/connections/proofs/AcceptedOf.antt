-- The connections of a host as they grow and change at the end.
use Rattle.std.proofs.Common.{◌≡◌, ℕ, ◌+◌, ◌<◌, ◌≤◌, List, [], ◌∷◌, ◌++◌, length, drop, ap, sym, ◌∙◌, refl, arith, length-append, length-drop}
use Rattle.std.specs.Prelude.{slice_index_or}
use Rattle.std.proofs.lemmas.List.{drop_more}
use Rattle.connections.specs.Door.{ReceivesOnLast, SendsOnLast}
use Rattle.connections.specs.Places.{connection, accepted_of, ReceivesAt}
use Rattle.connections.specs.Wire.{SendsLast}
use Rattle.connections.proofs.Ends.{Ends, ends}

-- one more connection stands behind the others
pub accepted-snoc : (places : List ℕ) (requests sent : List (List ℕ)) (place : ℕ) (one : List ℕ) → length places ≡ length sent → length places < length requests
    → accepted_of (places ++ place ∷ []) requests (sent ++ one ∷ []) ≡ accepted_of places requests sent ++ connection place (slice_index_or requests (length places) []) one ∷ []
accepted-snoc [] [] sent place one same less = absurd (omega arith)
accepted-snoc [] (r ∷ requests) [] place one same less = refl
accepted-snoc [] (r ∷ requests) (s ∷ sent) place one same less = absurd (omega arith)
accepted-snoc (p ∷ places) [] sent place one same less = absurd (omega arith)
accepted-snoc (p ∷ places) (r ∷ requests) [] place one same less = absurd (omega arith)
accepted-snoc (p ∷ places) (r ∷ requests) (s ∷ sent) place one same less = ap (λ xs. connection p r s ∷ xs) (accepted-snoc places requests sent place one (omega arith) (omega arith))

-- the connections whose places and sent bytes end in these
pub accepted_ends : (places earlier : List ℕ) (requests sent before : List (List ℕ)) (place : ℕ) (one : List ℕ)
    → places ≡ earlier ++ place ∷ [] → sent ≡ before ++ one ∷ [] → length earlier ≡ length before → length earlier < length requests
    → accepted_of places requests sent ≡ accepted_of earlier requests before ++ connection place (slice_index_or requests (length earlier) []) one ∷ []
accepted_ends places earlier requests sent before place one is_places is_sent same less =
    ap (λ (o : List ℕ). accepted_of o requests sent) is_places
    ∙ ap (λ (s : List (List ℕ)). accepted_of (earlier ++ place ∷ []) requests s) is_sent
    ∙ accepted-snoc earlier requests before place one same less

-- the next request leaves those to come
pub next_request : (places new : List ℕ) (requests : List (List ℕ)) → new ≡ places ++ 0 ∷ [] → length places < length requests
    → drop (length places) requests ≡ slice_index_or requests (length places) [] ∷ drop (length new) requests
next_request places new requests is less =
    let longer : length places + 1 ≡ length new = sym (ap length is ∙ length-append places (0 ∷ [])) in
    drop_more requests (length places) [] less ∙ ap (λ (n : ℕ). slice_index_or requests (length places) [] ∷ drop n requests) longer

-- a text is to come where there are more of them than connections
pub some_to_come : (n : ℕ) (texts : List (List ℕ)) → n < length texts → drop n texts ≡ [] → ⊥
some_to_come n texts less none =
    let long = length-drop n texts in
    let empty : length (drop n texts) ≡ 0 = ap length none in
    omega arith

-- connections that have places were accepted
pub some_accepted : (places : List ℕ) (requests sent : List (List ℕ)) → length places ≡ length sent → length places ≤ length requests → 0 < length places
    → accepted_of places requests sent ≡ [] → ⊥
some_accepted [] requests sent same known some none = omega arith
some_accepted (p ∷ places) [] sent same known some none = omega arith
some_accepted (p ∷ places) (r ∷ requests) [] same known some none = omega arith
some_accepted (p ∷ places) (r ∷ requests) (s ∷ sent) same known some none = cc

-- receiving of the last request changes only the last connection
pub receives : (requests sent : List (List ℕ)) (old new buf : List ℕ) (n : ℕ) → length old ≡ length sent → length old ≤ length requests
    → ReceivesAt requests old new buf n → ReceivesOnLast (accepted_of old requests sent) (accepted_of new requests sent) buf n
receives requests sent old new buf n same known r =
    let longer : length old ≡ length r.earlier + 1 = ap length r.before ∙ length-append r.earlier (r.place ∷ []) in
    let s : Ends sent = ends sent (omega arith) in
    let as_long : length sent ≡ length s.earlier + 1 = ap length s.is ∙ length-append s.earlier (s.last ∷ []) in
    let pair : length r.earlier ≡ length s.earlier = omega arith in
    let less : length r.earlier < length requests = omega arith in
    let request : List ℕ = slice_index_or requests (length r.earlier) [] in
    record {
      earlier = accepted_of r.earlier requests s.earlier;
      last = connection r.place request s.last;
      left = drop r.next request;
      before = accepted_ends old r.earlier requests sent s.earlier r.place s.last r.before s.is pair less;
      after = accepted_ends new r.earlier requests sent s.earlier r.next s.last r.after s.is pair less;
      given = r.given;
    }

-- sending on the last changes only the last connection
pub sends : (places : List ℕ) (requests old new : List (List ℕ)) (bytes : List ℕ) → length places ≡ length old → length places ≤ length requests
    → SendsLast old new bytes → SendsOnLast (accepted_of places requests old) (accepted_of places requests new) bytes
sends places requests old new bytes same known s =
    let longer : length old ≡ length s.earlier + 1 = ap length s.before ∙ length-append s.earlier (s.last ∷ []) in
    let p : Ends places = ends places (omega arith) in
    let as_long : length places ≡ length p.earlier + 1 = ap length p.is ∙ length-append p.earlier (p.last ∷ []) in
    let pair : length p.earlier ≡ length s.earlier = omega arith in
    let less : length p.earlier < length requests = omega arith in
    record {
      earlier = accepted_of p.earlier requests s.earlier;
      last = connection p.last (slice_index_or requests (length p.earlier) []) s.last;
      before = accepted_ends places p.earlier requests old s.earlier p.last s.last p.is s.before pair less;
      after = accepted_ends places p.earlier requests new s.earlier p.last (s.last ++ bytes) p.is s.after pair less;
    }
