-- A client's request, read by a host.
use Rattle.std.proofs.Common.{◌≡◌, ◌≤◌, ◌<◌, ◌+◌, ◌&&◌, ◌^◌, ◌==◌, not, ℕ, Bool, true, false, cond, List, [], ◌∷◌, ◌++◌, length, take, drop, eqb, ltb, codes, All, Option, Some, None, refl, ap, sym, subst, ◌∙◌, arith, append_assoc, take-append-drop, length-take}
use Rattle.std.specs.Fmt.{decimal}
use Rattle.std.specs.List.{flat_map, list_all}
use Rattle.std.proofs.lemmas.Str.{IsUtf8-from_ascii}
use Rattle.std.proofs.lemmas.Str.Ascii.{IsAscii-from_all}
use Rattle.std.proofs.lemmas.List.{append-nil}
use Rattle.std.proofs.lemmas.List.Elements.{All-cons, All-nil, All-weaker}
use Rattle.std.proofs.lemmas.List.Folds.{list_all-append}
use Rattle.std.proofs.lemmas.List.Sums.{AllPass-from_list_all}
use Rattle.std.proofs.lemmas.Bool.Decides.{nat_tests}
use Rattle.std.proofs.Math.Seq.{take-length}
use Rattle.std.proofs.lemmas.Bool.{ltb-false, ltb-true}
use Rattle.httparse.specs.Ascii.{crlf_bytes}
use Rattle.httparse.specs.Grammar.{Field, IsField, crlf, is_token_byte, is_uri_byte, is_value_byte, print_field, RequestHead, IsRequestHead, print_request}
use Rattle.small_types.specs.declared.target.Target.{Target}
use Rattle.folders.specs.declared.folder.Held.{Held}
use Rattle.folders.specs.Files.{file_in}
use Rattle.http_plain.specs.declared.demand.Demand.{Demand}
use Rattle.http_plain.specs.declared.demand.Demand.TheVariants.{Refused}
use Rattle.http_plain.specs.declared.refusals.Refusal.TheVariants.{BadRequest, FieldsTooLarge}
use Rattle.http_plain.specs.declared.request.Asked.{Asked}
use Rattle.http_plain.specs.Asked.{IsRequest, asked_of}
use Rattle.http_plain.specs.Exchange.{host_value, request_text}
use Rattle.http_plain.specs.Fields.{pairs_of, values_of}
use Rattle.http_plain.specs.Head.{head_end, Whole, TooLong, Short, front_at, front_of}
use Rattle.http_plain.specs.declared.head.TheConstants.{HEAD_LIMIT}
use Rattle.http_plain.specs.Path.{name_in_path}
use Rattle.http_plain.specs.HostsAreFolders.{is_visible, IsPlain, ReadsAs, Fetches}
use Rattle.http_plain.specs.Served.{Asks, Demands, Answer, answer_of, demand_of, file_answer, file_demand, found_answer, head_text, Serves}
use Rattle.http_plain.proofs.Answered.{and_true, are_values, decimal_digits, digits_clean, digits_values, field, file_answer_gives, is_field}
use Rattle.http_plain.proofs.Determined.{one_demand}
use Rattle.http_plain.proofs.Ends.{end_bounds, end_longer}
use Rattle.http_plain.proofs.Fronts.{ended_front, not_below}
use Rattle.http_plain.proofs.Lines.{is_clean, head_ends}

-- ---- visible bytes

clean_byte : (b : ℕ) → is_visible b ≡ true → not (eqb 13 b) ≡ true
clean_byte b e = grind (arith, nat_tests)

value_byte : (b : ℕ) → is_visible b ≡ true → is_value_byte b ≡ true
value_byte b e = grind (arith, nat_tests)

uri_byte : (b : ℕ) → is_visible b ≡ true → is_uri_byte b ≡ true
uri_byte b e = grind (arith, nat_tests)

ascii_byte : (b : ℕ) → is_visible b ≡ true → b < 128
ascii_byte b e = grind (arith, nat_tests)

both : (s t : Bool) → (s && t) ≡ true → (s ≡ true) × (t ≡ true)
both true t e = (refl, e)
both false t e = cc

-- a test that visible bytes pass
all_visible : (p : ℕ → Bool) → ((b : ℕ) → is_visible b ≡ true → p b ≡ true) → (bytes : List ℕ) → list_all is_visible bytes ≡ true → list_all p bytes ≡ true
all_visible p each [] e = refl
all_visible p each (b ∷ bytes) e =
    let parts = both (is_visible b) (list_all is_visible bytes) e in
    and_true (each b parts.0) (all_visible p each bytes parts.1)

-- ---- the host

with_port : (p : ℕ → Bool) (t : Bool) (digits : List ℕ) → p 58 ≡ true → list_all p digits ≡ true → list_all p (cond t [] (58 ∷ digits)) ≡ true
with_port p true digits colon rest = refl
with_port p false digits colon rest = and_true colon rest

host_passes : (p : ℕ → Bool) → ((b : ℕ) → is_visible b ≡ true → p b ≡ true) → (target : Target) → IsPlain target → list_all p (decimal target.port) ≡ true
    → list_all p (host_value target) ≡ true
host_passes p each target plain digits =
    list_all-append p target.host (cond (target.port == 80) [] (58 ∷ decimal target.port))
    ∙ and_true (all_visible p each target.host plain.host) (with_port p (target.port == 80) (decimal target.port) (each 58 refl) digits)

port_wide : (target : Target) → IsPlain target → target.port < 10 ^ 64
port_wide target plain = let small : target.port < 2 ^ 16 = plain.port in omega (arith, small)

host_clean : (target : Target) → IsPlain target → is_clean (host_value target) ≡ true
host_clean target plain =
    host_passes (λ b. not (eqb 13 b)) clean_byte target plain (digits_clean (decimal target.port) (decimal_digits target.port (port_wide target plain)))

host_values : (target : Target) → IsPlain target → are_values (host_value target) ≡ true
host_values target plain =
    host_passes is_value_byte value_byte target plain (digits_values (decimal target.port) (decimal_digits target.port (port_wide target plain)))

-- ---- the head

abbrev pub get_fields : List ℕ → List Field
get_fields host = field (codes "Host") host ∷ field (codes "Accept-Encoding") (codes "identity") ∷ field (codes "Connection") (codes "close") ∷ []

abbrev pub get_head : List ℕ → List ℕ → RequestHead
get_head path host = record {
  blank = [];
  method = codes "GET";
  target = path;
  minor = 1;
  line_end = crlf;
  fields = get_fields host;
  last = crlf;
}

fields_are : (host : List ℕ) → are_values host ≡ true → All IsField (get_fields host)
unfolding is_token_byte
fields_are host values =
    let second : Field = field (codes "Accept-Encoding") (codes "identity") in
    let third : Field = field (codes "Connection") (codes "close") in
    All-cons IsField (field (codes "Host") host) (second ∷ third ∷ []) (is_field (codes "Host") host (omega arith) refl values)
    (All-cons IsField second (third ∷ []) (is_field (codes "Accept-Encoding") (codes "identity") (omega arith) refl refl)
    (All-cons IsField third [] (is_field (codes "Connection") (codes "close") (omega arith) refl refl)
    (All-nil IsField)))

is_get_head : (path host : List ℕ) → 0 < length path → list_all is_visible path ≡ true → are_values host ≡ true → IsRequestHead (get_head path host)
unfolding is_token_byte
is_get_head path host some visible values =
    let each = AllPass-from_list_all is_visible path visible in
    record {
      method = (omega arith, AllPass-from_list_all is_token_byte (codes "GET") refl);
      target = (some, AllPass-from_list_all is_uri_byte path (all_visible is_uri_byte uri_byte path visible));
      target_text = IsUtf8-from_ascii path (IsAscii-from_all path (All-weaker (λ b. is_visible b ≡ true) (λ b. b < 128) ascii_byte path each));
      minor = omega arith;
      fields = fields_are host values;
    }

abbrev pub get_lines : List ℕ → List (List ℕ)
get_lines host = (codes "Host: " ++ host) ∷ codes "Accept-Encoding: identity" ∷ codes "Connection: close" ∷ []

abbrev pub get_line : List ℕ → List ℕ
get_line path = codes "GET " ++ path ++ codes " HTTP/1.1"

abbrev pub get_text : List ℕ → List ℕ → List ℕ
get_text path host = head_text (get_line path ∷ get_lines host)

text_is : (target : Target) → request_text target ≡ get_text target.path (host_value target)
unfolding request_text
text_is target = refl

printed_is : (path host : List ℕ) → print_request (get_head path host) ≡ get_text path host
unfolding print_request
printed_is path host = sym (append_assoc (get_line path ++ crlf_bytes) (flat_map print_field (get_fields host)) crlf_bytes)

text_reads : (path host : List ℕ) → 0 < length path → list_all is_visible path ≡ true → are_values host ≡ true → IsRequest (get_text path host) (get_head path host)
text_reads path host some visible values = record {
  reads = (is_get_head path host some visible values, sym (printed_is path host) ∙ sym (append-nil (print_request (get_head path host))));
  few = omega arith;
}

line_clean : (path : List ℕ) → list_all is_visible path ≡ true → is_clean (get_line path) ≡ true
line_clean path visible =
    list_all-append (λ b. not (eqb 13 b)) path (codes " HTTP/1.1") ∙ and_true (all_visible (λ b. not (eqb 13 b)) clean_byte path visible) refl

text_ends : (path host : List ℕ) → list_all is_visible path ≡ true → is_clean host ≡ true → head_end (get_text path host) ≡ Some (length (get_text path host))
text_ends path host visible clean =
    ap head_end (sym (append-nil (get_text path host)))
    ∙ head_ends (get_line path) (get_lines host) [] (line_clean path visible) (and_true clean refl)

-- ---- what it asks for

one_host : (host : List ℕ) → length (values_of (codes "host") (pairs_of (get_fields host))) ≡ 1
unfolding values_of
one_host host = refl

abbrev pub get_asked : List ℕ → ℕ → Asked
get_asked path hosts = record { method = codes "GET"; target = path; version = 1; hosts = hosts }

demand_is : (path : List ℕ) → demand_of (get_asked path 1) ≡ file_demand true (name_in_path path)
unfolding demand_of
demand_is path = refl

asks_file : (path host : List ℕ) → 0 < length path → list_all is_visible path ≡ true → are_values host ≡ true → is_clean host ≡ true
    → length (get_text path host) ≤ HEAD_LIMIT → Asks (get_text path host) (file_demand true (name_in_path path))
asks_file path host some visible values clean fits =
    let text : List ℕ = get_text path host in
    let front : front_of text ≡ Whole text = ended_front text (length text) fits (text_ends path host visible clean) ∙ ap Whole (take-length text) in
    subst (λ f. Demands f (file_demand true (name_in_path path))) (sym front) (
      Some (asked_of (get_head path host)),
      (get_head path host, text_reads path host some visible values, refl),
      sym (ap (λ hosts. demand_of (get_asked path hosts)) (one_host host) ∙ demand_is path),
    )

some_same : (m n : ℕ) → ◌≡◌ {A = Option ℕ} (Some m) (Some n) → m ≡ n
some_same m n e = cc

no_early_end : (text : List ℕ) (end : Option ℕ) → head_end (take HEAD_LIMIT text) ≡ end → head_end text ≡ Some (length text) → HEAD_LIMIT < length text
    → head_end (take HEAD_LIMIT text) ≡ None
no_early_end text None is whole long = is
no_early_end text (Some m) is whole long =
    let longer : head_end text ≡ Some m = ap head_end (sym (take-append-drop HEAD_LIMIT text)) ∙ end_longer (take HEAD_LIMIT text) (drop HEAD_LIMIT text) m is in
    let same : m ≡ length text = some_same m (length text) (sym longer ∙ whole) in
    absurd (omega (arith, same, long, end_bounds (take HEAD_LIMIT text) m is, length-take HEAD_LIMIT text))

too_long : (text : List ℕ) → head_end text ≡ Some (length text) → HEAD_LIMIT < length text → front_of text ≡ TooLong
unfolding front_of
too_long text whole long =
    ap (front_at text) (no_early_end text (head_end (take HEAD_LIMIT text)) refl whole long)
    ∙ ap (λ t. cond t Short TooLong) (not_below (length text) HEAD_LIMIT (omega (arith, long)))

asks_too_much : (path host : List ℕ) → list_all is_visible path ≡ true → is_clean host ≡ true → HEAD_LIMIT < length (get_text path host)
    → Asks (get_text path host) (Refused FieldsTooLarge)
asks_too_much path host visible clean long =
    let text : List ℕ = get_text path host in
    subst (λ f. Demands f (Refused FieldsTooLarge)) (sym (too_long text (text_ends path host visible clean) long)) refl

-- ---- what is answered

abbrev pub ok_answer : List ℕ → Answer
ok_answer answer = record { code = Some 200; bytes = answer }

other_code : (answer : Answer) (bytes : List ℕ) (code : ℕ) → answer.code ≡ Some code → 200 < code → ok_answer bytes ≡ answer → ⊥
other_code answer bytes code is above e =
    let same : 200 ≡ code = some_same 200 code (ap (λ (a : Answer). a.code) e ∙ is) in
    omega (arith, same, above)

held_by : (files : List Held) (target : Target) (answer name : List ℕ) (held : Option (List ℕ)) → name_in_path target.path ≡ Some name → file_in name files ≡ held
    → ok_answer answer ≡ found_answer name true held → Fetches files target answer
held_by files target answer name None named is e = absurd (other_code (found_answer name true None) answer 404 refl (omega arith) e)
held_by files target answer name (Some bytes) named is e =
    let same : answer ≡ file_answer name true bytes = ap (λ (a : Answer). a.bytes) e in
    record {
      name = name;
      bytes = bytes;
      named = named;
      held = is;
      read = λ small.
          let read = file_answer_gives name bytes small in
          subst (λ (a : List ℕ). ReadsAs a bytes) (sym same) (record { gives = read.0; body = read.1 });
    }

named_by_path : (files : List Held) (target : Target) (answer : List ℕ) (name : Option (List ℕ)) → name_in_path target.path ≡ name
    → ok_answer answer ≡ answer_of files (file_demand true name) → Fetches files target answer
named_by_path files target answer None is e = absurd (other_code (answer_of files (Refused BadRequest)) answer 400 refl (omega arith) e)
named_by_path files target answer (Some name) is e = held_by files target answer name (file_in name files) is refl e

fetches_by : (files : List Held) (target : Target) (answer : List ℕ) (long : Bool) → ltb HEAD_LIMIT (length (get_text target.path (host_value target))) ≡ long
    → IsPlain target → Serves files (get_text target.path (host_value target)) (ok_answer answer) → Fetches files target answer
fetches_by files target answer true is plain serves =
    let text : List ℕ = get_text target.path (host_value target) in
    let same : serves.demand ≡ Refused FieldsTooLarge =
    one_demand text serves.demand (Refused FieldsTooLarge) serves.asks
    (asks_too_much target.path (host_value target) plain.path (host_clean target plain) (ltb-true HEAD_LIMIT (length text) is)) in
    absurd (other_code (answer_of files (Refused FieldsTooLarge)) answer 431 refl (omega arith) (serves.answers ∙ ap (answer_of files) same))
fetches_by files target answer false is plain serves =
    let text : List ℕ = get_text target.path (host_value target) in
    let demand : Demand = file_demand true (name_in_path target.path) in
    let same : serves.demand ≡ demand =
    one_demand text serves.demand demand serves.asks
    (asks_file target.path (host_value target) plain.some plain.path (host_values target plain) (host_clean target plain) (ltb-false HEAD_LIMIT (length text) is)) in
    named_by_path files target answer (name_in_path target.path) refl (serves.answers ∙ ap (answer_of files) same)

-- an answer of status 200 is read as the file that the path names
pub fetches : (files : List Held) (target : Target) (answer : List ℕ) → IsPlain target → Serves files (request_text target) (ok_answer answer)
    → Fetches files target answer
fetches files target answer plain serves =
    fetches_by files target answer (ltb HEAD_LIMIT (length (get_text target.path (host_value target)))) refl plain
    (subst (λ (text : List ℕ). Serves files text (ok_answer answer)) (text_is target) serves)
