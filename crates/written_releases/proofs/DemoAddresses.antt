-- The addresses of the session, read as the standard's parser reads them.
use Rattle.std.proofs.Common.{◌≡◌, ◌∙◌, refl, ap, List, ℕ, [], true, Some, None, Ok}
use Rattle.std.specs.Prelude.{codes}
use Rattle.std.specs.Fmt.{digits}
use Rattle.std.specs.Str.{chars, is_utf8}
use Rattle.small_types.specs.declared.target.Target.{Target}
use Rattle.identity.specs.Key.{word_text}
use Rattle.percent_encoding.specs.AsciiSet.{should_percent_encode}
use Rattle.percent_encoding.specs.Percent.{percent_decode, percent_encode, percent_encode_byte}
use Rattle.url.specs.declared.host.Host.TheVariants.{Domain}
use Rattle.url.specs.Host.{ascii_domain, parse_special_host}
use Rattle.url.specs.Input.{rsplit_once, split_once, strip_tabs_and_new_lines, trim_c0_control_and_space}
use Rattle.url.specs.Ipv4.{ends_in_a_number, parse_number}
use Rattle.url.specs.Parser.{after_double_slash, host_len, leading_slashes, parse_authority, parse_body, parse_parts, parse_port, parse_relative, parse_url, split_scheme}
use Rattle.url.specs.Parts.{Parts}
use Rattle.url.specs.Path.{dot_count, parse_path_start, parse_segments, push_segment, shorten_path}
use Rattle.url.specs.Scheme.{default_port, scheme_len, scheme_type}
use Rattle.addresses.specs.Address.{address, is_refused, is_too_long, target_of_text, target_of_url}
use Rattle.addresses.specs.Join.{app_target_of, file_reference, file_target_of, resolved, short_address, target_text}
use Rattle.written_releases.specs.TwoReleases.{url}

abbrev target_at : List ℕ → Target
target_at path = record { host = codes "demo.test"; port = 80; path = path }

abbrev parts_at : List ℕ → Parts
parts_at path = record {
  scheme = codes "http";
  username = [];
  password = [];
  host = Some (Domain (codes "demo.test"));
  port = None;
  path = path;
  query = None;
  fragment = None;
}

abbrev pub given : Target
given = target_at (codes "/demo.application")

abbrev pub base : Target
base = target_at (codes "/demo.manifest")

abbrev pub file : Target
file = target_at (codes "/demo.exe.deploy")

-- ---- the address that is given

url_parts : parse_url None url ≡ Ok (parts_at (codes "/demo.application"))
unfolding should_percent_encode percent_encode_byte percent_encode percent_decode host_len parse_port parse_authority leading_slashes after_double_slash parse_body parse_parts parse_relative split_scheme parse_url default_port scheme_type scheme_len dot_count push_segment parse_segments parse_path_start shorten_path trim_c0_control_and_space strip_tabs_and_new_lines split_once rsplit_once ascii_domain parse_special_host parse_number ends_in_a_number
url_parts = refl

parts_given : target_of_url (parts_at (codes "/demo.application")) ≡ Ok given
unfolding target_of_url is_refused is_too_long address
parts_given = refl

url_utf8 : is_utf8 url ≡ true
unfolding is_utf8 chars lib.Utf8.encode
url_utf8 = refl

pub url_read : target_of_text url ≡ Ok given
unfolding target_of_text
url_read = rw (url_utf8, url_parts) parts_given

-- ---- what stands beside it

given_text : target_text given ≡ codes "http://demo.test:80/demo.application"
unfolding target_text digits
given_text = refl

given_parts : parse_url None (codes "http://demo.test:80/demo.application") ≡ Ok (parts_at (codes "/demo.application"))
unfolding should_percent_encode percent_encode_byte percent_encode percent_decode host_len parse_port parse_authority leading_slashes after_double_slash parse_body parse_parts parse_relative split_scheme parse_url default_port scheme_type scheme_len dot_count push_segment parse_segments parse_path_start shorten_path trim_c0_control_and_space strip_tabs_and_new_lines split_once rsplit_once ascii_domain parse_special_host parse_number ends_in_a_number
given_parts = refl

manifest_parts : parse_url (Some (parts_at (codes "/demo.application"))) (codes "demo.manifest") ≡ Ok (parts_at (codes "/demo.manifest"))
unfolding should_percent_encode percent_encode_byte percent_encode percent_decode host_len parse_port parse_authority leading_slashes after_double_slash parse_body parse_parts parse_relative split_scheme parse_url default_port scheme_type scheme_len dot_count push_segment parse_segments parse_path_start shorten_path trim_c0_control_and_space strip_tabs_and_new_lines split_once rsplit_once ascii_domain parse_special_host parse_number ends_in_a_number
manifest_parts = refl

resolved_by : (target : Target) (document parts : Parts) (reference : List ℕ) → parse_url None (target_text target) ≡ Ok document → parse_url (Some document) reference ≡ Ok parts
    → resolved target reference ≡ Ok parts
unfolding resolved
resolved_by target document parts reference whole beside = rw (whole, beside) refl

parts_base : target_of_url (parts_at (codes "/demo.manifest")) ≡ Ok base
unfolding target_of_url is_refused is_too_long address
parts_base = refl

pub base_joined : app_target_of given (codes "demo.manifest") ≡ Ok base
unfolding app_target_of
base_joined =
    rw (resolved_by given (parts_at (codes "/demo.application")) (parts_at (codes "/demo.manifest")) (codes "demo.manifest") (ap (parse_url None) given_text ∙ given_parts) manifest_parts)
    parts_base

-- ---- the file

base_text : target_text base ≡ codes "http://demo.test:80/demo.manifest"
unfolding target_text digits
base_text = refl

base_parts : parse_url None (codes "http://demo.test:80/demo.manifest") ≡ Ok (parts_at (codes "/demo.manifest"))
unfolding should_percent_encode percent_encode_byte percent_encode percent_decode host_len parse_port parse_authority leading_slashes after_double_slash parse_body parse_parts parse_relative split_scheme parse_url default_port scheme_type scheme_len dot_count push_segment parse_segments parse_path_start shorten_path trim_c0_control_and_space strip_tabs_and_new_lines split_once rsplit_once ascii_domain parse_special_host parse_number ends_in_a_number
base_parts = refl

file_parts : parse_url (Some (parts_at (codes "/demo.manifest"))) (codes "demo.exe.deploy") ≡ Ok (parts_at (codes "/demo.exe.deploy"))
unfolding should_percent_encode percent_encode_byte percent_encode percent_decode host_len parse_port parse_authority leading_slashes after_double_slash parse_body parse_parts parse_relative split_scheme parse_url default_port scheme_type scheme_len dot_count push_segment parse_segments parse_path_start shorten_path trim_c0_control_and_space strip_tabs_and_new_lines split_once rsplit_once ascii_domain parse_special_host parse_number ends_in_a_number
file_parts = refl

file_text : file_reference true (codes "demo.exe") ≡ codes "demo.exe.deploy"
unfolding file_reference word_text
file_text = refl

parts_file : short_address (parts_at (codes "/demo.exe.deploy")) ≡ Ok file
unfolding short_address is_too_long address
parts_file = refl

pub file_joined : file_target_of base true (codes "demo.exe") ≡ Ok file
unfolding file_target_of
file_joined =
    rw (file_text, resolved_by base (parts_at (codes "/demo.manifest")) (parts_at (codes "/demo.exe.deploy")) (codes "demo.exe.deploy") (ap (parse_url None) base_text ∙ base_parts) file_parts)
    parts_file
