-- The host of a URL is written in bytes below 128.
use Rattle.std.proofs.Common.{◌≡◌, ℕ, zero, suc, ◌+◌, ◌*◌, ◌-◌, ◌^◌, ◌<◌, ◌≤◌, Bool, true, false, cond, List, [], ◌∷◌, ◌++◌, length, get_or, drop, replicate, All, IfSome, IfOk, Option, Some, None, Result, Ok, Err, refl, arith, codes}
use Rattle.std.specs.Prelude.{◌&&◌, ◌==◌, nat_lt, option_and_then, slice_index, slice_range}
use Rattle.std.specs.Int.{w32, to_be_bytes}
use Rattle.std.specs.List.{list_any}
use Rattle.std.specs.Net.Addr.{segments_of}
use Rattle.std.specs.Net.Reader.{Segments, map_or, read_byte, read_ipv4, read_ipv4_if, read_ipv6, read_number, read_octet, read_segment, read_segments, read_separator, read_tail, whole_value}
use Rattle.std.specs.Net.Text.{hex_groups_text, ipv4_text}
use Rattle.std.proofs.NetLemmas.Alphabet.{All-hex_groups_text, All-ipv4_text, IsDigitOrDot, IsHexOrColon}
use Rattle.std.proofs.lemmas.Bool.{and_parts, leb-true}
use Rattle.std.proofs.lemmas.List.Elements.{All-nil, All-cons, All-append, All-replicate, All-weaker}
use Rattle.percent_encoding.proofs.AsciiSetLemmas.{ascii_from_kept}
use Rattle.percent_encoding.specs.Percent.{percent_decode}
use Rattle.url.specs.declared.error.ParseError.{ParseError}
use Rattle.url.specs.declared.error.ParseError.TheVariants.{EmptyHost, IdnaError}
use Rattle.url.specs.declared.host.Host.{Host}
use Rattle.url.specs.declared.host.Host.TheVariants.{Domain}
use Rattle.url.specs.declared.sets.TheConstants.{FORBIDDEN_DOMAIN}
use Rattle.url.specs.Host.{ascii_domain, host_of_ascii, host_text, ipv4_host, ipv6_host, is_forbidden_in_domain, parse_bracketed, parse_domain, parse_special_host}
use Rattle.url.specs.Input.{is_empty}
use Rattle.url.specs.Ipv4.{ends_in_a_number, parse_ipv4}
use Rattle.url.proofs.HostLemmas.{none_from_list_any}

-- bytes below 128
abbrev pub Small : List ℕ → Type 0
Small bytes = All (λ b. b < 128) bytes

-- ---- readings

some_then : {A B : Type 0} (P : A → Type 0) (Q : B → Type 0) (r : Option A) (f : A → Option B) → IfSome r P → ((x : A) → P x → IfSome (f x) Q) → IfSome (option_and_then f r) Q
some_then P Q None f p q = tt
some_then P Q (Some x) f p q = q x p

abbrev Any_value : {A : Type 0} → A → Type 0
Any_value x = Unit {0}

some_any : {A : Type 0} (r : Option A) → IfSome r Any_value
some_any None = tt
some_any (Some x) = tt

some_test : {A : Type 0} (P : A → Type 0) (b : Bool) (x : A) → (b ≡ true → P x) → IfSome (cond b (Some x) None) P
some_test P true x p = p refl
some_test P false x p = tt

none_test : {A : Type 0} (P : A → Type 0) (b : Bool) (r : Option A) → IfSome r P → IfSome (cond b None r) P
none_test P true r p = tt
none_test P false r p = p

-- ---- IPv6

abbrev Fits : ℕ → Type 0
Fits n = n < 2 ^ 16

number_within : (radix max : ℕ) (text : List ℕ) → IfSome (read_number radix max text) (λ n. n.0 ≤ max)
unfolding read_number
number_within radix max text = some_test (λ (n : ℕ × ℕ). n.0 ≤ max) _ _ (λ is. leb-true _ max (and_parts _ _ is).1)

segment_fits : (text : List ℕ) → IfSome (read_segment text) (λ s. Fits s.0)
unfolding read_segment
segment_fits text =
    some_then (λ (n : ℕ × ℕ). n.0 ≤ 65535) (λ (s : ℕ × List ℕ). Fits s.0) (read_number 16 65535 text) _ (number_within 16 65535 text) (λ n few.
    none_test (λ (s : ℕ × List ℕ). Fits s.0) (nat_lt 4 n.1) (Some (n.0, drop n.1 text)) (omega (arith, few)))

octet_fits : (text : List ℕ) → IfSome (read_octet text) (λ o. o.0 < 256)
unfolding read_octet
octet_fits text =
    some_then (λ (n : ℕ × ℕ). n.0 ≤ 255) (λ (o : ℕ × List ℕ). o.0 < 256) (read_number 10 255 text) _ (number_within 10 255 text) (λ n few.
    none_test (λ (o : ℕ × List ℕ). o.0 < 256) (nat_lt 1 n.1 && slice_index text 0 == 48) (Some (n.0, drop n.1 text)) (omega (arith, few)))

abbrev IpFits : List ℕ × List ℕ → Type 0
IpFits ip = All Fits (segments_of ip.0)

ipv4_fits : (text : List ℕ) → IfSome (read_ipv4 text) IpFits
unfolding read_ipv4
ipv4_fits text =
    let Octet : ℕ × List ℕ → Type 0 = λ o. o.0 < 256 in
    some_then Octet IpFits (read_octet text) _ (octet_fits text) (λ a p.
    some_then Any_value IpFits (read_byte 46 a.1) _ (some_any (read_byte 46 a.1)) (λ after_a any.
    some_then Octet IpFits (read_octet after_a) _ (octet_fits after_a) (λ b q.
    some_then Any_value IpFits (read_byte 46 b.1) _ (some_any (read_byte 46 b.1)) (λ after_b any₁.
    some_then Octet IpFits (read_octet after_b) _ (octet_fits after_b) (λ c r.
    some_then Any_value IpFits (read_byte 46 c.1) _ (some_any (read_byte 46 c.1)) (λ after_c any₂.
    some_then Octet IpFits (read_octet after_c) _ (octet_fits after_c) (λ d s.
    All-cons Fits (a.0 * 256 + b.0) ((c.0 * 256 + d.0) ∷ []) (omega (arith, p, q)) (All-cons Fits (c.0 * 256 + d.0) [] (omega (arith, r, s)) (All-nil Fits)))))))))

ipv4_if_fits : (fits : Bool) (text : List ℕ) → IfSome (read_ipv4_if fits text) IpFits
ipv4_if_fits true text = ipv4_fits text
ipv4_if_fits false text = tt

abbrev AreFit : Segments → Type 0
AreFit found = All Fits found.0

mapped : {A : Type 0} (P : A → Type 0) (o : Option A) (d : Segments) (f : A → Segments) → IfSome o P → AreFit d → ((x : A) → P x → AreFit (f x)) → AreFit (map_or o d f)
mapped P None d f p q r = q
mapped P (Some x) d f p q r = r x p

segments_fit : (room : ℕ) (first : Bool) (text : List ℕ) → AreFit (read_segments room first text)
unfolding read_segments
segments_fit zero first text = All-nil Fits
segments_fit (suc room) first text =
    let none : Segments = ([], false, text) in
    mapped Any_value (read_separator first text) none _ (some_any (read_separator first text)) (All-nil Fits) (λ group any.
    mapped IpFits (read_ipv4_if (nat_lt 0 room) group) _ _ (ipv4_if_fits (nat_lt 0 room) group)
    (mapped (λ (s : ℕ × List ℕ). Fits s.0) (read_segment group) none _ (segment_fits group) (All-nil Fits) (λ s fits.
    All-append Fits (s.0 ∷ []) (read_segments room false s.1).0 (All-cons Fits s.0 [] fits (All-nil Fits)) (segments_fit room false s.1)))
    (λ ip fits. fits))

abbrev AllFit : List ℕ × List ℕ → Type 0
AllFit found = All Fits found.0

tail_fits : (head text : List ℕ) → All Fits head → IfSome (read_tail head text) AllFit
tail_fits head text fits =
    some_then Any_value AllFit (read_byte 58 text) _ (some_any (read_byte 58 text)) (λ one any.
    some_then Any_value AllFit (read_byte 58 one) _ (some_any (read_byte 58 one)) (λ two any₁.
    let tail = read_segments (7 - length head) true two in
    let zeros = replicate (8 - length head - length tail.0) 0 in
    All-append Fits (head ++ zeros) tail.0 (All-append Fits head zeros fits (All-replicate Fits (8 - length head - length tail.0) 0 (omega arith))) (segments_fit (7 - length head) true two)))

either_fits : (whole ended : Bool) (found : List ℕ × List ℕ) (tail : Option (List ℕ × List ℕ)) → AllFit found → IfSome tail AllFit → IfSome (cond whole (Some found) (cond ended None tail)) AllFit
either_fits true ended found tail p q = p
either_fits false true found tail p q = tt
either_fits false false found tail p q = q

ipv6_fits : (text : List ℕ) → IfSome (read_ipv6 text) AllFit
unfolding read_ipv6
ipv6_fits text =
    let head = read_segments 8 true text in
    let fits = segments_fit 8 true text in
    either_fits (length head.0 == 8) head.1 (head.0, head.2) (read_tail head.0 head.2) fits (tail_fits head.0 head.2 fits)

whole_fits : (r : Option (List ℕ × List ℕ)) → IfSome r AllFit → IfSome (whole_value r) (All Fits)
whole_fits r h = some_then AllFit (All Fits) r _ h (λ p fits. some_test (All Fits) (length p.1 == 0) p.0 (λ is. fits))

-- ---- texts

get_fits : (xs : List ℕ) (n : ℕ) → n ≡ 2 ^ 16 → All (λ x. x < n) xs → (k : ℕ) → get_or xs k 0 < n
get_fits [] n is all k = omega arith
get_fits (x ∷ xs) n is all zero = all 0 0 (omega arith)
get_fits (x ∷ xs) n is all (suc k) = get_fits xs n is (λ j d lt. all (suc j) d (omega arith)) k

hex_small : (b : ℕ) → IsHexOrColon b → b < 128
hex_small b is = grind arith

dot_small : (b : ℕ) → IsDigitOrDot b → b < 128
dot_small b is = grind arith

ipv6_small : (segments : List ℕ) → All Fits segments → Small (codes "[" ++ hex_groups_text segments ++ codes "]")
ipv6_small segments fits =
    let text = hex_groups_text segments in
    All-append (λ b. b < 128) (codes "[" ++ text) (codes "]")
    (All-cons (λ b. b < 128) 91 text (omega arith) (All-weaker IsHexOrColon (λ b. b < 128) hex_small text (All-hex_groups_text segments (get_fits segments (2 ^ 16) refl fits))))
    (All-cons (λ b. b < 128) 93 [] (omega arith) (All-nil _))

octets_fit : (bits k : ℕ) → get_or (to_be_bytes w32 bits) k 0 < 2 ^ 8
octets_fit bits zero = omega arith
octets_fit bits (suc zero) = omega arith
octets_fit bits (suc (suc zero)) = omega arith
octets_fit bits (suc (suc (suc zero))) = omega arith
octets_fit bits (suc (suc (suc (suc k)))) = omega arith

ipv4_small : (bits : ℕ) → Small (ipv4_text (to_be_bytes w32 bits))
ipv4_small bits = All-weaker IsDigitOrDot (λ b. b < 128) dot_small (ipv4_text (to_be_bytes w32 bits)) (All-ipv4_text (to_be_bytes w32 bits) (octets_fit bits))

-- ---- hosts

abbrev pub HostSmall : Host (List ℕ) → Type 0
HostSmall host = Small (host_text host)

abbrev Parsed : Type 0
Parsed = Result (Host (List ℕ)) ParseError

ok_test : (b : Bool) (r : Parsed) (e : ParseError) → IfOk r HostSmall → IfOk (cond b r (Err e)) HostSmall
ok_test true r e p = p
ok_test false r e p = tt

err_test : (b : Bool) (r : Parsed) (e : ParseError) → (b ≡ false → IfOk r HostSmall) → IfOk (cond b (Err e) r) HostSmall
err_test true r e p = tt
err_test false r e p = p refl

either_host : (b : Bool) (x y : Parsed) → IfOk x HostSmall → IfOk y HostSmall → IfOk (cond b x y) HostSmall
either_host true x y p q = p
either_host false x y p q = q

ipv6_host_small : (o : Option (List ℕ)) → IfSome o (All Fits) → IfOk (ipv6_host o) HostSmall
ipv6_host_small None h = tt
ipv6_host_small (Some segments) h = ipv6_small segments h

bracketed_small : (bytes : List ℕ) → IfOk (parse_bracketed bytes) HostSmall
unfolding parse_bracketed
bracketed_small bytes =
    let inner = slice_range bytes 1 (length bytes - 1) in
    ok_test _ (ipv6_host (whole_value (read_ipv6 inner))) _ (ipv6_host_small (whole_value (read_ipv6 inner)) (whole_fits (read_ipv6 inner) (ipv6_fits inner)))

ipv4_host_small : (o : Option ℕ) → IfOk (ipv4_host o) HostSmall
ipv4_host_small None = tt
ipv4_host_small (Some bits) = ipv4_small bits

domain_small : (o : Option (List ℕ)) → IfOk (host_of_ascii o) HostSmall
domain_small None = tt
domain_small (Some domain) =
    err_test (is_empty domain) _ EmptyHost (λ some.
    err_test (list_any is_forbidden_in_domain domain) _ IdnaError (λ none.
    either_host (ends_in_a_number domain) (ipv4_host (parse_ipv4 domain)) (Ok (Domain domain)) (ipv4_host_small (parse_ipv4 domain))
    (All-weaker (λ b. is_forbidden_in_domain b ≡ false) (λ b. b < 128) (λ b kept. ascii_from_kept FORBIDDEN_DOMAIN b kept) domain (none_from_list_any is_forbidden_in_domain domain none))))

pub special_host_small : (bytes : List ℕ) → IfOk (parse_special_host bytes) HostSmall
unfolding parse_special_host
special_host_small bytes = either_host _ (parse_bracketed bytes) (parse_domain (percent_decode bytes)) (bracketed_small bytes) (domain_small (ascii_domain (percent_decode bytes)))
