-- The texts of answers.
use Rattle.std.proofs.Common.{◌≡◌, ℕ, List, [], ◌∷◌, ◌++◌, Bool, true, false, ap, sym, ◌∙◌, append_assoc}
use Rattle.std.specs.Prelude.{codes, decimal, nat_eq, if◌then◌else◌}
use Rattle.std.specs.List.{ends_with, flat_map}
use Rattle.std.proofs.lemmas.Grind.{flat_map-append}
use Rattle.std.proofs.lemmas.List.{append-nil}
use Rattle.httparse.specs.Ascii.{crlf_bytes}
use Rattle.http_plain.specs.Served.{answer_head, status_line, length_line, type_line, type_of}
use Rattle.http_plain.proofs.Answered.{decimal_200}
use Rattle.plain_host.specs.Prepared.{ended, closing}

-- the first line of an answer with a file
pub ok_line : codes "HTTP/1.1 200 OK\r\n" ≡ ended (status_line 200 (codes "OK"))
ok_line = sym (ap (λ (d : List ℕ). ended (codes "HTTP/1.1 " ++ d ++ codes " " ++ codes "OK")) decimal_200)

-- the lines of a head, one after the other
pub assembled : (code count : ℕ) (reason : List ℕ) (own : List (List ℕ)) → (ended (status_line code reason) ++ flat_map ended own) ++ closing count ≡ answer_head code reason own count
unfolding answer_head
assembled code count reason own =
    let a = status_line code reason in
    let l = length_line count in
    let c = codes "Connection: close" in
    let split : flat_map ended ((a ∷ [] ++ own) ++ l ∷ c ∷ []) ≡ (ended a ++ flat_map ended own) ++ (ended l ++ ended c) =
    flat_map-append ended (a ∷ own) (l ∷ c ∷ []) ∙ ap (λ (t : List ℕ). (ended a ++ flat_map ended own) ++ (ended l ++ t)) (append-nil (ended c)) in
    sym (append_assoc (ended a ++ flat_map ended own) (ended l ++ ended c) crlf_bytes) ∙ ap (λ (t : List ℕ). t ++ crlf_bytes) (sym split)

-- the same by steps, with one line of its own
pub assembled_one : (code count : ℕ) (reason line a b c : List ℕ) → a ≡ ended (status_line code reason) → b ≡ a ++ ended line → c ≡ b ++ closing count
    → c ≡ answer_head code reason (line ∷ []) count
assembled_one code count reason line a b c is_a is_b is_c =
    is_c
    ∙ ap (λ (t : List ℕ). t ++ closing count) (is_b ∙ ap (λ (t : List ℕ). t ++ ended line) is_a ∙ ap (λ (t : List ℕ). ended (status_line code reason) ++ t) (sym (append-nil (ended line))))
    ∙ assembled code count reason (line ∷ [])

-- the line of a file's type
pub typed_by : (a b name text : List ℕ) → b ≡ a ++ ended (codes "Content-Type: " ++ text) → text ≡ type_of name → b ≡ a ++ ended (type_line name)
typed_by a b name text is same = is ∙ ap (λ (t : List ℕ). a ++ ended (codes "Content-Type: " ++ t)) same

-- the end of a head by steps
pub closed : (t0 t1 t2 t3 value : List ℕ) (count : ℕ) → t1 ≡ t0 ++ ended (codes "Content-Length: " ++ value) → value ≡ decimal count
    → t2 ≡ t1 ++ ended (codes "Connection: close") → t3 ≡ t2 ++ crlf_bytes → t3 ≡ t0 ++ closing count
closed t0 t1 t2 t3 value count is_1 is_value is_2 is_3 =
    let l = ended (length_line count) in
    let c = ended (codes "Connection: close") in
    is_3
    ∙ ap (λ (t : List ℕ). t ++ crlf_bytes) (is_2 ∙ ap (λ (t : List ℕ). t ++ c) (is_1 ∙ ap (λ (v : List ℕ). t0 ++ ended (codes "Content-Length: " ++ v)) is_value) ∙ append_assoc t0 l c)
    ∙ append_assoc t0 (l ++ c) crlf_bytes

-- the type by the end of a name
module _ (text name : List ℕ) (same : text ≡ name) (r : Bool) where
  pub deployment_type : r ≡ ends_with nat_eq text (codes ".application") → r ≡ true → codes "application/x-ms-application" ≡ type_of name
  unfolding type_of
  deployment_type is holds =
      ap (λ (b : Bool). if b then codes "application/x-ms-application" else
      if ends_with nat_eq name (codes ".manifest") then codes "application/x-ms-manifest" else codes "application/octet-stream")
      (sym holds ∙ is ∙ ap (λ (t : List ℕ). ends_with nat_eq t (codes ".application")) same)

  pub manifest_type : (s : Bool) → r ≡ ends_with nat_eq text (codes ".application") → r ≡ false → s ≡ ends_with nat_eq text (codes ".manifest") → s ≡ true
      → codes "application/x-ms-manifest" ≡ type_of name
  unfolding type_of
  manifest_type s is fails is_too holds =
      ap (λ (b : Bool). if b then codes "application/x-ms-manifest" else codes "application/octet-stream")
      (sym holds ∙ is_too ∙ ap (λ (t : List ℕ). ends_with nat_eq t (codes ".manifest")) same)
      ∙ ap (λ (b : Bool). if b then codes "application/x-ms-application" else
      if ends_with nat_eq name (codes ".manifest") then codes "application/x-ms-manifest" else codes "application/octet-stream")
      (sym fails ∙ is ∙ ap (λ (t : List ℕ). ends_with nat_eq t (codes ".application")) same)

  pub other_type : (s : Bool) → r ≡ ends_with nat_eq text (codes ".application") → r ≡ false → s ≡ ends_with nat_eq text (codes ".manifest") → s ≡ false
      → codes "application/octet-stream" ≡ type_of name
  unfolding type_of
  other_type s is fails is_too fails_too =
      ap (λ (b : Bool). if b then codes "application/x-ms-manifest" else codes "application/octet-stream")
      (sym fails_too ∙ is_too ∙ ap (λ (t : List ℕ). ends_with nat_eq t (codes ".manifest")) same)
      ∙ ap (λ (b : Bool). if b then codes "application/x-ms-application" else
      if ends_with nat_eq name (codes ".manifest") then codes "application/x-ms-manifest" else codes "application/octet-stream")
      (sym fails ∙ is ∙ ap (λ (t : List ℕ). ends_with nat_eq t (codes ".application")) same)
