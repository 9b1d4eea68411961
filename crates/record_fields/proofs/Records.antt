-- Manifests are read just as they are spelled.
use Rattle.std.proofs.Common.{◌≡◌, ℕ, ◌<◌, ◌≤◌, ◌^◌, List, ◌++◌, length, Ok, refl, ap, arith}
use Rattle.std.specs.Prelude.{All, IfSome}
use Rattle.std.specs.Int.{w64, to_be_bytes}
use Rattle.small_types.specs.declared.limits.TheConstants.{FILE_COUNT_LIMIT, NAME_LIMIT, URL_LIMIT}
use Rattle.small_types.specs.Outcome.{◌>>=◌}
use Rattle.identity.specs.Version.{IsVersion}
use Rattle.manifests.specs.declared.facts.Application.{Application}
use Rattle.manifests.specs.declared.facts.Deployment.{Deployment}
use Rattle.manifests.specs.declared.facts.FileEntry.{FileEntry}
use Rattle.small_types.specs.Short.{IsShort}
use Rattle.record_fields.specs.declared.deployment_readers.Terms.{Terms}
use Rattle.record_fields.specs.declared.deployment_readers.Listed.{Listed}
use Rattle.record_fields.specs.Fields.{text_field, version_field}
use Rattle.record_fields.specs.Readers.{number_at, text_at, version_at}
use Rattle.record_fields.specs.Parts.{digests_at, identity_at, list_at, option_at, rule_at, truth_at}
use Rattle.record_fields.specs.Records.{entry_at, terms_at, listed_at, joined, deployment_at, application_at}
use Rattle.record_fields.specs.Spelled.{truth_field, option_field, list_field, identity_field, rule_field, digest_field, entry_field, terms_field, listed_field, deployment_field, application_field}
use Rattle.record_fields.specs.Values.{IsEncodableIdentity, IsEncodableRule, AreDigests, IsEncodableEntry, IsEncodableDeployment, IsEncodableApplication}
use Rattle.record_fields.specs.Reads.{ReadsField}
use Rattle.record_fields.proofs.Forms.{truth_reads}
use Rattle.record_fields.proofs.Rules.{rule_reads}
use Rattle.record_fields.proofs.Structs.{number64_reads, text_reads, version_reads, identity_reads}
use Rattle.record_fields.proofs.Bytes.{name_reads}
use Rattle.record_fields.proofs.Lists.{option_reads, list_reads}
use Rattle.record_fields.proofs.Digests.{digests_reads}
use Rattle.record_fields.proofs.Together.{first, last, same_values}

pub entry_reads : ReadsField IsEncodableEntry entry_field entry_at
unfolding entry_at entry_field
entry_reads = same_values IsEncodableEntry (
    first {X = FileEntry} name_reads (λ x. x.name) (λ a0 x. (x.size < 2 ^ 64) × (AreDigests x.list × (IfSome x.group (IsShort NAME_LIMIT) × (Unit {0} × (x ≡ record { name = a0; size = x.size; list = x.list; group = x.group; local = x.local }))))) (λ x. (to_be_bytes w64) x.size ++ (list_field digest_field x.list ++ (option_field text_field x.group ++ (truth_field x.local)))) (λ a0 bytes place. number_at w64 bytes place >>= λ p1. digests_at bytes p1.1 >>= λ p2. option_at (text_at NAME_LIMIT) bytes p2.1 >>= λ p3. truth_at bytes p3.1 >>= λ p4. Ok (record { name = a0; size = p1.0; list = p2.0; group = p3.0; local = p4.0 }, p4.1)) (λ a0 x is. ap (λ (y : FileEntry). y.name) is.1.1.1.1) (λ a0.
    first {X = FileEntry} number64_reads (λ x. x.size) (λ a1 x. AreDigests x.list × (IfSome x.group (IsShort NAME_LIMIT) × (Unit {0} × (x ≡ record { name = a0; size = a1; list = x.list; group = x.group; local = x.local })))) (λ x. list_field digest_field x.list ++ (option_field text_field x.group ++ (truth_field x.local))) (λ a1 bytes place. digests_at bytes place >>= λ p2. option_at (text_at NAME_LIMIT) bytes p2.1 >>= λ p3. truth_at bytes p3.1 >>= λ p4. Ok (record { name = a0; size = a1; list = p2.0; group = p3.0; local = p4.0 }, p4.1)) (λ a1 x is. ap (λ (y : FileEntry). y.size) is.1.1.1) (λ a1.
    first {X = FileEntry} digests_reads (λ x. x.list) (λ a2 x. IfSome x.group (IsShort NAME_LIMIT) × (Unit {0} × (x ≡ record { name = a0; size = a1; list = a2; group = x.group; local = x.local }))) (λ x. option_field text_field x.group ++ (truth_field x.local)) (λ a2 bytes place. option_at (text_at NAME_LIMIT) bytes place >>= λ p3. truth_at bytes p3.1 >>= λ p4. Ok (record { name = a0; size = a1; list = a2; group = p3.0; local = p4.0 }, p4.1)) (λ a2 x is. ap (λ (y : FileEntry). y.list) is.1.1) (λ a2.
    first {X = FileEntry} (option_reads (text_reads NAME_LIMIT (omega arith))) (λ x. x.group) (λ a3 x. Unit {0} × (x ≡ record { name = a0; size = a1; list = a2; group = a3; local = x.local })) (λ x. truth_field x.local) (λ a3 bytes place. truth_at bytes place >>= λ p4. Ok (record { name = a0; size = a1; list = a2; group = a3; local = p4.0 }, p4.1)) (λ a3 x is. ap (λ (y : FileEntry). y.group) is.1) (λ a3.
    last {X = FileEntry} truth_reads (λ x. x.local) (λ a4. record { name = a0; size = a1; list = a2; group = a3; local = a4 }) (λ a4. refl))))))
    (λ x is. record { name = is.0; size = is.1.0; list = is.1.1.0; group = is.1.1.1.0 })
    (λ x is. (is.name, (is.size, (is.list, (is.group, (tt, refl))))))

record IsTerms (t : Terms) : Type 0 where
  identity : IsEncodableIdentity t.identity
  minimum : IfSome t.minimum IsVersion
  rule : IsEncodableRule t.rule
  provider : IfSome t.provider (IsShort URL_LIMIT)

abbrev terms_text : Terms → List ℕ
terms_text t =
    identity_field t.identity ++ (truth_field t.install ++ (option_field version_field t.minimum
    ++ (truth_field t.mapped ++ (rule_field t.rule ++ option_field text_field t.provider))))

terms_reads : ReadsField IsTerms terms_text terms_at
unfolding terms_at
terms_reads = same_values IsTerms (
    first {X = Terms} identity_reads (λ x. x.identity) (λ a0 x. Unit {0} × (IfSome x.minimum IsVersion × (Unit {0} × (IsEncodableRule x.rule × (IfSome x.provider (IsShort URL_LIMIT) × (x ≡ record { identity = a0; install = x.install; minimum = x.minimum; mapped = x.mapped; rule = x.rule; provider = x.provider })))))) (λ x. truth_field x.install ++ (option_field version_field x.minimum ++ (truth_field x.mapped ++ (rule_field x.rule ++ (option_field text_field x.provider))))) (λ a0 bytes place. truth_at bytes place >>= λ p1. option_at version_at bytes p1.1 >>= λ p2. truth_at bytes p2.1 >>= λ p3. rule_at bytes p3.1 >>= λ p4. option_at (text_at URL_LIMIT) bytes p4.1 >>= λ p5. Ok (record { identity = a0; install = p1.0; minimum = p2.0; mapped = p3.0; rule = p4.0; provider = p5.0 }, p5.1)) (λ a0 x is. ap (λ (y : Terms). y.identity) is.1.1.1.1.1) (λ a0.
    first {X = Terms} truth_reads (λ x. x.install) (λ a1 x. IfSome x.minimum IsVersion × (Unit {0} × (IsEncodableRule x.rule × (IfSome x.provider (IsShort URL_LIMIT) × (x ≡ record { identity = a0; install = a1; minimum = x.minimum; mapped = x.mapped; rule = x.rule; provider = x.provider }))))) (λ x. option_field version_field x.minimum ++ (truth_field x.mapped ++ (rule_field x.rule ++ (option_field text_field x.provider)))) (λ a1 bytes place. option_at version_at bytes place >>= λ p2. truth_at bytes p2.1 >>= λ p3. rule_at bytes p3.1 >>= λ p4. option_at (text_at URL_LIMIT) bytes p4.1 >>= λ p5. Ok (record { identity = a0; install = a1; minimum = p2.0; mapped = p3.0; rule = p4.0; provider = p5.0 }, p5.1)) (λ a1 x is. ap (λ (y : Terms). y.install) is.1.1.1.1) (λ a1.
    first {X = Terms} (option_reads version_reads) (λ x. x.minimum) (λ a2 x. Unit {0} × (IsEncodableRule x.rule × (IfSome x.provider (IsShort URL_LIMIT) × (x ≡ record { identity = a0; install = a1; minimum = a2; mapped = x.mapped; rule = x.rule; provider = x.provider })))) (λ x. truth_field x.mapped ++ (rule_field x.rule ++ (option_field text_field x.provider))) (λ a2 bytes place. truth_at bytes place >>= λ p3. rule_at bytes p3.1 >>= λ p4. option_at (text_at URL_LIMIT) bytes p4.1 >>= λ p5. Ok (record { identity = a0; install = a1; minimum = a2; mapped = p3.0; rule = p4.0; provider = p5.0 }, p5.1)) (λ a2 x is. ap (λ (y : Terms). y.minimum) is.1.1.1) (λ a2.
    first {X = Terms} truth_reads (λ x. x.mapped) (λ a3 x. IsEncodableRule x.rule × (IfSome x.provider (IsShort URL_LIMIT) × (x ≡ record { identity = a0; install = a1; minimum = a2; mapped = a3; rule = x.rule; provider = x.provider }))) (λ x. rule_field x.rule ++ (option_field text_field x.provider)) (λ a3 bytes place. rule_at bytes place >>= λ p4. option_at (text_at URL_LIMIT) bytes p4.1 >>= λ p5. Ok (record { identity = a0; install = a1; minimum = a2; mapped = a3; rule = p4.0; provider = p5.0 }, p5.1)) (λ a3 x is. ap (λ (y : Terms). y.mapped) is.1.1) (λ a3.
    first {X = Terms} rule_reads (λ x. x.rule) (λ a4 x. IfSome x.provider (IsShort URL_LIMIT) × (x ≡ record { identity = a0; install = a1; minimum = a2; mapped = a3; rule = a4; provider = x.provider })) (λ x. option_field text_field x.provider) (λ a4 bytes place. option_at (text_at URL_LIMIT) bytes place >>= λ p5. Ok (record { identity = a0; install = a1; minimum = a2; mapped = a3; rule = a4; provider = p5.0 }, p5.1)) (λ a4 x is. ap (λ (y : Terms). y.rule) is.1) (λ a4.
    last {X = Terms} (option_reads (text_reads URL_LIMIT (omega arith))) (λ x. x.provider) (λ a5. record { identity = a0; install = a1; minimum = a2; mapped = a3; rule = a4; provider = a5 }) (λ a5. refl)))))))
    (λ x is. record { identity = is.0; minimum = is.1.1.0; rule = is.1.1.1.1.0; provider = is.1.1.1.1.1.0 })
    (λ x is. (is.identity, (tt, (is.minimum, (tt, (is.rule, (is.provider, refl)))))))

record IsListed (l : Listed) : Type 0 where
  codebase : IsShort URL_LIMIT l.codebase
  app : IsEncodableIdentity l.app
  app_size : l.app_size < 2 ^ 64
  app_list : AreDigests l.app_list

abbrev listed_text : Listed → List ℕ
listed_text l =
    text_field l.codebase ++ (identity_field l.app ++ (to_be_bytes w64 l.app_size
    ++ list_field digest_field l.app_list))

listed_reads : ReadsField IsListed listed_text listed_at
unfolding listed_at
listed_reads = same_values IsListed (
    first {X = Listed} (text_reads URL_LIMIT (omega arith)) (λ x. x.codebase) (λ a0 x. IsEncodableIdentity x.app × ((x.app_size < 2 ^ 64) × (AreDigests x.app_list × (x ≡ record { codebase = a0; app = x.app; app_size = x.app_size; app_list = x.app_list })))) (λ x. identity_field x.app ++ ((to_be_bytes w64) x.app_size ++ (list_field digest_field x.app_list))) (λ a0 bytes place. identity_at bytes place >>= λ p1. number_at w64 bytes p1.1 >>= λ p2. digests_at bytes p2.1 >>= λ p3. Ok (record { codebase = a0; app = p1.0; app_size = p2.0; app_list = p3.0 }, p3.1)) (λ a0 x is. ap (λ (y : Listed). y.codebase) is.1.1.1) (λ a0.
    first {X = Listed} identity_reads (λ x. x.app) (λ a1 x. (x.app_size < 2 ^ 64) × (AreDigests x.app_list × (x ≡ record { codebase = a0; app = a1; app_size = x.app_size; app_list = x.app_list }))) (λ x. (to_be_bytes w64) x.app_size ++ (list_field digest_field x.app_list)) (λ a1 bytes place. number_at w64 bytes place >>= λ p2. digests_at bytes p2.1 >>= λ p3. Ok (record { codebase = a0; app = a1; app_size = p2.0; app_list = p3.0 }, p3.1)) (λ a1 x is. ap (λ (y : Listed). y.app) is.1.1) (λ a1.
    first {X = Listed} number64_reads (λ x. x.app_size) (λ a2 x. AreDigests x.app_list × (x ≡ record { codebase = a0; app = a1; app_size = a2; app_list = x.app_list })) (λ x. list_field digest_field x.app_list) (λ a2 bytes place. digests_at bytes place >>= λ p3. Ok (record { codebase = a0; app = a1; app_size = a2; app_list = p3.0 }, p3.1)) (λ a2 x is. ap (λ (y : Listed). y.app_size) is.1) (λ a2.
    last {X = Listed} digests_reads (λ x. x.app_list) (λ a3. record { codebase = a0; app = a1; app_size = a2; app_list = a3 }) (λ a3. refl)))))
    (λ x is. record { codebase = is.0; app = is.1.0; app_size = is.1.1.0; app_list = is.1.1.1.0 })
    (λ x is. (is.codebase, (is.app, (is.app_size, (is.app_list, refl)))))

abbrev terms_of : Deployment → Terms
terms_of d = record { identity = d.identity; install = d.install; minimum = d.minimum; mapped = d.mapped; rule = d.rule; provider = d.provider }

abbrev listed_of : Deployment → Listed
listed_of d = record { codebase = d.codebase; app = d.app; app_size = d.app_size; app_list = d.app_list }

pub deployment_reads : ReadsField IsEncodableDeployment deployment_field deployment_at
unfolding deployment_at deployment_field terms_field listed_field
deployment_reads = same_values IsEncodableDeployment (
    first {X = Deployment} terms_reads terms_of (λ a0 x. IsListed (listed_of x) × (x ≡ joined a0 (listed_of x))) (λ x. listed_text (listed_of x)) (λ a0 bytes place. listed_at bytes place >>= λ p1. Ok (joined a0 p1.0, p1.1)) (λ a0 x is. ap terms_of is.1) (λ a0.
    last {X = Deployment} listed_reads listed_of (λ a1. joined a0 a1) (λ a1. refl)))
    (λ x is. record { identity = is.0.identity; minimum = is.0.minimum; rule = is.0.rule; provider = is.0.provider; codebase = is.1.0.codebase; app = is.1.0.app; app_size = is.1.0.app_size; app_list = is.1.0.app_list })
    (λ x is. (record { identity = is.identity; minimum = is.minimum; rule = is.rule; provider = is.provider }, (record { codebase = is.codebase; app = is.app; app_size = is.app_size; app_list = is.app_list }, refl)))

pub application_reads : ReadsField IsEncodableApplication application_field application_at
unfolding application_at application_field
application_reads = same_values IsEncodableApplication (
    first {X = Application} identity_reads (λ x. x.identity) (λ a0 x. IsShort NAME_LIMIT x.entry × (IsShort URL_LIMIT x.parameters × (((length x.files ≤ FILE_COUNT_LIMIT) × All IsEncodableEntry x.files) × (x ≡ record { identity = a0; entry = x.entry; parameters = x.parameters; files = x.files })))) (λ x. text_field x.entry ++ (text_field x.parameters ++ (list_field entry_field x.files))) (λ a0 bytes place. text_at NAME_LIMIT bytes place >>= λ p1. text_at URL_LIMIT bytes p1.1 >>= λ p2. list_at FILE_COUNT_LIMIT entry_at bytes p2.1 >>= λ p3. Ok (record { identity = a0; entry = p1.0; parameters = p2.0; files = p3.0 }, p3.1)) (λ a0 x is. ap (λ (y : Application). y.identity) is.1.1.1) (λ a0.
    first {X = Application} (text_reads NAME_LIMIT (omega arith)) (λ x. x.entry) (λ a1 x. IsShort URL_LIMIT x.parameters × (((length x.files ≤ FILE_COUNT_LIMIT) × All IsEncodableEntry x.files) × (x ≡ record { identity = a0; entry = a1; parameters = x.parameters; files = x.files }))) (λ x. text_field x.parameters ++ (list_field entry_field x.files)) (λ a1 bytes place. text_at URL_LIMIT bytes place >>= λ p2. list_at FILE_COUNT_LIMIT entry_at bytes p2.1 >>= λ p3. Ok (record { identity = a0; entry = a1; parameters = p2.0; files = p3.0 }, p3.1)) (λ a1 x is. ap (λ (y : Application). y.entry) is.1.1) (λ a1.
    first {X = Application} (text_reads URL_LIMIT (omega arith)) (λ x. x.parameters) (λ a2 x. ((length x.files ≤ FILE_COUNT_LIMIT) × All IsEncodableEntry x.files) × (x ≡ record { identity = a0; entry = a1; parameters = a2; files = x.files })) (λ x. list_field entry_field x.files) (λ a2 bytes place. list_at FILE_COUNT_LIMIT entry_at bytes place >>= λ p3. Ok (record { identity = a0; entry = a1; parameters = a2; files = p3.0 }, p3.1)) (λ a2 x is. ap (λ (y : Application). y.parameters) is.1) (λ a2.
    last {X = Application} (list_reads entry_reads FILE_COUNT_LIMIT (omega arith)) (λ x. x.files) (λ a3. record { identity = a0; entry = a1; parameters = a2; files = a3 }) (λ a3. refl)))))
    (λ x is. record { identity = is.0; entry = is.1.0; parameters = is.1.1.0; few = is.1.1.1.0.0; files = is.1.1.1.0.1 })
    (λ x is. (is.identity, (is.entry, (is.parameters, ((is.few, is.files), refl)))))
