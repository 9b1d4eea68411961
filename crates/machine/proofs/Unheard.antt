-- An install that hears nothing has an answer.
use Rattle.std.proofs.Common.{◌≡◌, ◌≢◌, ◌∙◌, ◌||◌, inl, inr, refl, sym, ℕ, Bool, true, false, not, cond, bytes_eq, List, [], length, None, Result, Ok, Err}
use Rattle.std.specs.Prelude.{nat_lt}
use Rattle.std.specs.Str.{is_utf8}
use Rattle.url.specs.Parts.{Parts}
use Rattle.url.specs.Parser.{Parsed, parse_url}
use Rattle.small_types.specs.declared.limits.TheConstants.{URL_LIMIT}
use Rattle.small_types.specs.declared.target.Target.{Target}
use Rattle.small_types.specs.Outcome.{◌>>=◌}
use Rattle.addresses.specs.declared.fault.UrlFault.{UrlFault}
use Rattle.addresses.specs.declared.fault.UrlFault.TheVariants as fault
use Rattle.addresses.specs.Address.{address, http, is_refused, target_of_text, target_of_url, url_of}
use Rattle.machine.specs.declared.command.Command.TheVariants.{Install}
use Rattle.machine.specs.declared.reply.Reply.TheVariants as says
use Rattle.machine.specs.Laws.{IsAnswered}
use Rattle.machine.specs.Store.{Session}

target_is_no_bad : (target : Target)
    → ◌≡◌ {A = Result Target UrlFault} (Ok target) (Err fault.BadUrl) → ⊥
target_is_no_bad target e = cc

target_has_scheme : (target : Target) (scheme : List ℕ)
    → ◌≡◌ {A = Result Target UrlFault} (Ok target) (Err (fault.NotHttp scheme)) → ⊥
target_has_scheme target scheme e = cc

scheme_is_no_bad : (scheme : List ℕ)
    → ◌≡◌ {A = Result Target UrlFault} (Err (fault.NotHttp scheme)) (Err fault.BadUrl) → ⊥
scheme_is_no_bad scheme e = cc

-- ---- reading an address finds memory

bad_is_other : ◌≡◌ {A = Result Target UrlFault} (Err fault.BadUrl) (Err fault.Memory) → ⊥
bad_is_other e = cc

scheme_is_other : (scheme : List ℕ)
    → ◌≡◌ {A = Result Target UrlFault} (Err (fault.NotHttp scheme)) (Err fault.Memory) → ⊥
scheme_is_other scheme e = cc

target_is_other : (target : Target)
    → ◌≡◌ {A = Result Target UrlFault} (Ok target) (Err fault.Memory) → ⊥
target_is_other target e = cc

url_read : (url : Parts) → target_of_url url ≡ Err fault.Memory → ⊥
unfolding target_of_url
url_read url e = by (is_refused url) (not (bytes_eq url.scheme http)) e
  where
    by : (a b : Bool)
        → ◌≡◌ {A = Result Target UrlFault}
        (cond a (Err fault.BadUrl) (cond b (Err (fault.NotHttp url.scheme)) (Ok (address url))))
        (Err fault.Memory) → ⊥
    by true b e = bad_is_other e
    by false true e = scheme_is_other url.scheme e
    by false false e = target_is_other (address url) e

parsed_read : (parsed : Parsed Parts) → (url_of parsed >>= target_of_url) ≡ Err fault.Memory → ⊥
parsed_read (Ok url) e = url_read url e
parsed_read (Err x) e = bad_is_other e

text_read : (text : List ℕ) → target_of_text text ≡ Err fault.Memory → ⊥
unfolding target_of_text
text_read text e = by (nat_lt URL_LIMIT (length text) || not (is_utf8 text)) e
  where
    by : (b : Bool)
        → ◌≡◌ {A = Result Target UrlFault}
        (cond b (Err fault.BadUrl) (url_of (parse_url None text) >>= target_of_url))
        (Err fault.Memory) → ⊥
    by true e = bad_is_other e
    by false e = parsed_read (parse_url None text) e

-- ---- an install that hears nothing

bad_url_is_other : says.BadUrl ≢ says.Memory
bad_url_is_other e = cc

not_http_is_other : says.NotHttp ≢ says.Memory
not_http_is_other e = cc

all_links_is_other : (target : Target) → says.AllLinks target [] ≢ says.Memory
all_links_is_other target e = cc

pub unheard : (now : ℕ) (old : Session) (url : List ℕ) (read : Result Target UrlFault)
    → target_of_text url ≡ read → IsAnswered now [] old (Install url)
unheard now old url (Err fault.BadUrl) is = record {
  reply = says.BadUrl;
  new = old;
  answers = inl (inr (tt, inl ((is, refl), refl)));
  other = bad_url_is_other;
}
unheard now old url (Err (fault.NotHttp scheme)) is = record {
  reply = says.NotHttp;
  new = old;
  answers = inl (inr
      (tt, inr ((λ e. scheme_is_no_bad scheme (sym is ∙ e)), inl ((scheme, is, refl), refl))));
  other = not_http_is_other;
}
unheard now old url (Err fault.Memory) is = absurd (text_read url is)
unheard now old url (Ok target) is = record {
  reply = says.AllLinks target [];
  new = old;
  answers = inl (inr (
    tt,
    inr (
      (λ e. target_is_no_bad target (sym is ∙ e)),
      inr (
        (λ scheme e. target_has_scheme target scheme (sym is ∙ e)),
        inl ((target, [], (is, refl), refl), refl),
      ),
    ),
  ));
  other = all_links_is_other target;
}
