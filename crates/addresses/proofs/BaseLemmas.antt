-- The URL of an address has its scheme and a host.
use Rattle.std.proofs.Common.{◌≡◌, ℕ, ◌≤◌, ◌+◌, ◌-◌, Bool, true, false, not, ◌&&◌, ◌||◌, ◌⊎◌, inl, inr, List, [], ◌∷◌, ◌++◌, length, take, drop, Option, Some, None, Ok, Err, IfOk, refl, sym, ap, subst, ◌∙◌, arith}
use Rattle.std.specs.Prelude.{codes, is_some, unwrap_or, reverse, filter}
use Rattle.std.specs.List.{prefix_len, suffix_len}
use Rattle.std.proofs.lemmas.Bool.{cond_both, cond-false}
use Rattle.std.proofs.lemmas.List.{reverse-append, length-append, length-reverse}
use Rattle.std.proofs.Math.Seq.{take-append-add}
use Rattle.url.specs.declared.host.Host.{Host}
use Rattle.url.specs.Input.{is_c0_control_or_space, trim_c0_control_and_space, strip_tabs_and_new_lines, is_tab_or_new_line, split_once, rsplit_once}
use Rattle.url.specs.Scheme.{scheme_type, default_port, scheme_len, is_special}
use Rattle.url.specs.Host.{parse_host}
use Rattle.url.specs.Path.{segment_len, parse_path_start, escape_end}
use Rattle.url.specs.Parts.{Parts, kind_of}
use Rattle.url.specs.Head.{with_authority}
use Rattle.url.specs.Parser.{Parsed, and_then, split_port, parse_port, lacks_host, parse_authority, with_path, skip_slashes, after_double_slash, parse_body, with_tail, before_tail, parse_parts, split_scheme, parse_url}
use Rattle.addresses.specs.Address.{http}

-- ---- the scheme stays in front

-- what stops at a byte does so within what stands before it
prefix_within : (test : ℕ → Bool) (front : List ℕ) (b : ℕ) (back : List ℕ) → test b ≡ false → prefix_len test (front ++ b ∷ back) ≤ length front
prefix_within test [] b back stops = rw (cond-false _ _ _ stops) (omega arith)
prefix_within test (x ∷ front) b back stops =
    let rest = prefix_within test front b back stops in
    cond_both (test x) (1 + prefix_len test (front ++ b ∷ back)) 0 (λ n. n ≤ length (x ∷ front)) (λ _. omega arith) (λ _. omega arith)

-- the text of an address before its host
abbrev front : List ℕ
front = codes "http://"

suffix_small : (rest : List ℕ) → suffix_len is_c0_control_or_space (front ++ rest) ≤ length rest
suffix_small rest =
    rw (reverse-append front rest)
    (let small = prefix_within is_c0_control_or_space (reverse rest) 47 (reverse (codes "http:/")) refl in
    let same = length-reverse rest in
    omega arith)

-- the text without what is trimmed and stripped
kept : List ℕ → List ℕ
kept rest = filter (λ b. not (is_tab_or_new_line b)) (take (length rest - suffix_len is_c0_control_or_space (front ++ rest)) rest)

front_kept : (rest : List ℕ) → strip_tabs_and_new_lines (trim_c0_control_and_space (front ++ rest)) ≡ front ++ kept rest
unfolding strip_tabs_and_new_lines trim_c0_control_and_space kept
front_kept rest =
    let small = suffix_small rest in
    let count : length (front ++ rest) - suffix_len is_c0_control_or_space (front ++ rest) ≡ length front + (length rest - suffix_len is_c0_control_or_space (front ++ rest)) = omega (arith, length-append front rest) in
    ap (λ n. filter (λ b. not (is_tab_or_new_line b)) (take n (front ++ rest))) count
    ∙ ap (filter (λ b. not (is_tab_or_new_line b))) (take-append-add front rest (length rest - suffix_len is_c0_control_or_space (front ++ rest)))

-- ---- the parts

-- the scheme of an address, and a host
abbrev pub IsHttp : Parts → Type 0
IsHttp url = (url.scheme ≡ http) × (is_some url.host ≡ true)

-- an authority read with that scheme has it
authority_of : (username password : List ℕ) (host : Parsed (Host (List ℕ))) (port : Parsed (Option ℕ)) → IfOk (and_then host (λ h. and_then port (λ p. Ok (with_authority http username password h p)))) IsHttp
authority_of username password (Ok h) (Ok p) = (refl, refl)
authority_of username password (Ok h) (Err e) = tt
authority_of username password (Err d) port = tt

authority_http : (bytes : List ℕ) → IfOk (parse_authority http bytes) IsHttp
unfolding parse_authority
authority_http bytes =
    let at = rsplit_once 64 bytes in
    let host_port = split_port at.1 in
    let userinfo = split_once 58 (unwrap_or at.0 []) in
    cond_both (lacks_host at.0 host_port.0 host_port.1) _ _ (λ (r : Parsed Parts). IfOk r IsHttp) (λ _. tt)
    (λ _. authority_of userinfo.0 (unwrap_or userinfo.1 []) (parse_host (scheme_type http) host_port.0) (parse_port http (unwrap_or host_port.1 [])))

-- so has the URL with what stands behind it
path_of : (r : Parsed Parts) (path : List ℕ) → IfOk r IsHttp → IfOk (and_then r (λ head. Ok (with_path head path))) IsHttp
path_of (Ok head) path is = is
path_of (Err e) path is = tt

slashes_http : (bytes : List ℕ) → IfOk (after_double_slash http bytes) IsHttp
unfolding after_double_slash
slashes_http bytes =
    let kind = scheme_type http in
    let len = segment_len kind bytes in
    path_of (parse_authority http (take len bytes)) (parse_path_start kind [] (drop len bytes)) (authority_http (take len bytes))

body_http : (rest : List ℕ) → parse_body http None (47 ∷ 47 ∷ rest) ≡ after_double_slash http (skip_slashes (47 ∷ 47 ∷ rest))
unfolding parse_body scheme_type default_port
body_http rest = refl

end_http : (url : Parts) (query fragment : Option (List ℕ)) → IsHttp url → IsHttp (with_tail (before_tail url query fragment) query fragment)
end_http url query fragment is =
    cond_both (not (is_special (kind_of url)) && (is_some query || is_some fragment)) (with_path url (escape_end url.path)) url (λ (u : Parts). IsHttp (with_tail u query fragment)) (λ _. is) (λ _. is)

tail_of : (r : Parsed Parts) (query fragment : Option (List ℕ)) → IfOk r IsHttp → IfOk (and_then r (λ url. Ok (with_tail (before_tail url query fragment) query fragment))) IsHttp
tail_of (Ok url) query fragment is = end_http url query fragment is
tail_of (Err e) query fragment is = tt

parts_http : (rest : List ℕ) (query fragment : Option (List ℕ)) → IfOk (parse_parts http None (47 ∷ 47 ∷ rest) query fragment) IsHttp
unfolding parse_parts
parts_http rest query fragment =
    tail_of (parse_body http None (47 ∷ 47 ∷ rest)) query fragment (rw (body_http rest) (slashes_http (skip_slashes (47 ∷ 47 ∷ rest))))

-- ---- the whole

scheme_front : (rest : List ℕ) → split_scheme (front ++ rest) ≡ Some (http, 47 ∷ 47 ∷ rest)
unfolding split_scheme scheme_len
scheme_front rest = refl

mark_front : (mark : ℕ) (rest : List ℕ) → (mark ≡ 35) ⊎ (mark ≡ 63) → split_once mark (front ++ rest) ≡ (front ++ (split_once mark rest).0, (split_once mark rest).1)
unfolding split_once
mark_front mark rest (inl hash) = subst (λ (m : ℕ). split_once m (front ++ rest) ≡ (front ++ (split_once m rest).0, (split_once m rest).1)) (sym hash) refl
mark_front mark rest (inr question) = subst (λ (m : ℕ). split_once m (front ++ rest) ≡ (front ++ (split_once m rest).0, (split_once m rest).1)) (sym question) refl

-- a text that begins so is a URL with that scheme and a host, if it is one
pub front_http : (rest : List ℕ) → IfOk (parse_url None (front ++ rest)) IsHttp
unfolding parse_url
front_http rest =
    let hash = split_once 35 (kept rest) in
    let question = split_once 63 hash.0 in
    rw (front_kept rest, mark_front 35 (kept rest) (inl refl), mark_front 63 hash.0 (inr refl), scheme_front question.0) (parts_http question.0 question.1 hash.1)
