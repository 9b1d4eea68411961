-- Views and their files are read just as they are spelled.
use Rattle.std.proofs.Common.{◌≡◌, ℕ, ◌<◌, ◌≤◌, ◌^◌, ◌++◌, length, Ok, refl, ap, arith}
use Rattle.std.specs.Prelude.{All, List}
use Rattle.std.specs.Int.{w64, to_be_bytes}
use Rattle.small_types.specs.declared.limits.TheConstants.{FILE_COUNT_LIMIT, NAME_LIMIT}
use Rattle.small_types.specs.Outcome.{◌>>=◌}
use Rattle.small_types.specs.Short.{IsShort, IsTarget}
use Rattle.store_state.specs.declared.view.Content.{Content}
use Rattle.store_state.specs.declared.view.LocalFile.{LocalFile}
use Rattle.store_state.specs.declared.view.View.{View}
use Rattle.record_fields.specs.Fields.{text_field}
use Rattle.record_fields.specs.Readers.{number_at, text_at}
use Rattle.record_fields.specs.Parts.{digests_at, list_at, target_at}
use Rattle.record_codec.specs.declared.numbers.TheConstants.{COUNT_LIMIT}
use Rattle.record_fields.specs.Records.{deployment_at, application_at}
use Rattle.record_codec.specs.Records.{block_at, content_at, local_at, view_at}
use Rattle.record_fields.specs.Spelled.{list_field, target_field, digest_field, deployment_field, application_field}
use Rattle.record_codec.specs.Spelled.{block_field, content_field, local_field, view_field}
use Rattle.record_fields.specs.Values.{AreDigests, IsEncodableDeployment, IsEncodableApplication}
use Rattle.record_codec.specs.Values.{IsBlock, IsEncodableContent, IsEncodableLocal, IsEncodableView}
use Rattle.record_fields.specs.Reads.{ReadsField}
use Rattle.record_fields.proofs.Structs.{number32_reads, number64_reads, text_reads, target_reads}
use Rattle.record_fields.proofs.Bytes.{name_reads}
use Rattle.record_fields.proofs.Lists.{list_reads}
use Rattle.record_fields.proofs.Digests.{digests_reads}
use Rattle.record_fields.proofs.Together.{first, last, same_values}
use Rattle.record_fields.proofs.Records.{application_reads, deployment_reads}

pub block_reads : ReadsField IsBlock block_field block_at
block_reads = number32_reads

blocks_reads : ReadsField (λ (held : List ℕ). (length held ≤ COUNT_LIMIT) × All IsBlock held)
    (list_field block_field) (list_at COUNT_LIMIT block_at)
blocks_reads = list_reads block_reads COUNT_LIMIT (omega arith)

pub content_reads : ReadsField IsEncodableContent content_field content_at
unfolding content_at content_field
content_reads = same_values IsEncodableContent (
    first {X = Content} number64_reads (λ x. x.size) (λ a0 x. AreDigests x.list × (((length x.held ≤ COUNT_LIMIT) × All IsBlock x.held) × (x ≡ record { size = a0; list = x.list; held = x.held }))) (λ x. list_field digest_field x.list ++ (list_field block_field x.held)) (λ a0 bytes place. digests_at bytes place >>= λ p1. list_at COUNT_LIMIT block_at bytes p1.1 >>= λ p2. Ok (record { size = a0; list = p1.0; held = p2.0 }, p2.1)) (λ a0 x is. ap (λ (y : Content). y.size) is.1.1) (λ a0.
    first {X = Content} digests_reads (λ x. x.list) (λ a1 x. ((length x.held ≤ COUNT_LIMIT) × All IsBlock x.held) × (x ≡ record { size = a0; list = a1; held = x.held })) (λ x. list_field block_field x.held) (λ a1 bytes place. list_at COUNT_LIMIT block_at bytes place >>= λ p2. Ok (record { size = a0; list = a1; held = p2.0 }, p2.1)) (λ a1 x is. ap (λ (y : Content). y.list) is.1) (λ a1.
    last {X = Content} blocks_reads (λ x. x.held) (λ a2. record { size = a0; list = a1; held = a2 }) (λ a2. refl))))
    (λ x is. record { size = is.0; list = is.1.0; few_blocks = is.1.1.0.0; blocks = is.1.1.0.1 })
    (λ x is. (is.size, (is.list, ((is.few_blocks, is.blocks), refl))))

pub local_reads : ReadsField IsEncodableLocal local_field local_at
unfolding local_at local_field
local_reads = same_values IsEncodableLocal (
    first {X = LocalFile} name_reads (λ x. x.name) (λ a0 x. (x.length < 2 ^ 64) × (((length x.held ≤ COUNT_LIMIT) × All IsBlock x.held) × (x ≡ record { name = a0; length = x.length; held = x.held }))) (λ x. (to_be_bytes w64) x.length ++ (list_field block_field x.held)) (λ a0 bytes place. number_at w64 bytes place >>= λ p1. list_at COUNT_LIMIT block_at bytes p1.1 >>= λ p2. Ok (record { name = a0; length = p1.0; held = p2.0 }, p2.1)) (λ a0 x is. ap (λ (y : LocalFile). y.name) is.1.1) (λ a0.
    first {X = LocalFile} number64_reads (λ x. x.length) (λ a1 x. ((length x.held ≤ COUNT_LIMIT) × All IsBlock x.held) × (x ≡ record { name = a0; length = a1; held = x.held })) (λ x. list_field block_field x.held) (λ a1 bytes place. list_at COUNT_LIMIT block_at bytes place >>= λ p2. Ok (record { name = a0; length = a1; held = p2.0 }, p2.1)) (λ a1 x is. ap (λ (y : LocalFile). y.length) is.1) (λ a1.
    last {X = LocalFile} blocks_reads (λ x. x.held) (λ a2. record { name = a0; length = a1; held = a2 }) (λ a2. refl))))
    (λ x is. record { name = is.0; size = is.1.0; few_blocks = is.1.1.0.0; blocks = is.1.1.0.1 })
    (λ x is. (is.name, (is.size, ((is.few_blocks, is.blocks), refl))))

pub view_reads : (most : ℕ) → most < 2 ^ 32
    → ReadsField (IsEncodableView most) view_field (view_at most)
unfolding view_at view_field
view_reads most small = same_values (IsEncodableView most) (
    first {X = View} number64_reads (λ x. x.number) (λ a0 x. IsEncodableDeployment x.deployment × (IsEncodableApplication x.application × (IsTarget x.base × (((length x.groups ≤ most) × All (IsShort NAME_LIMIT) x.groups) × (((length x.locals ≤ most) × All IsEncodableLocal x.locals) × (x ≡ record { number = a0; deployment = x.deployment; application = x.application; base = x.base; groups = x.groups; locals = x.locals })))))) (λ x. deployment_field x.deployment ++ (application_field x.application ++ (target_field x.base ++ (list_field text_field x.groups ++ (list_field local_field x.locals))))) (λ a0 bytes place. deployment_at bytes place >>= λ p1. application_at bytes p1.1 >>= λ p2. target_at bytes p2.1 >>= λ p3. list_at most (text_at NAME_LIMIT) bytes p3.1 >>= λ p4. list_at most local_at bytes p4.1 >>= λ p5. Ok (record { number = a0; deployment = p1.0; application = p2.0; base = p3.0; groups = p4.0; locals = p5.0 }, p5.1)) (λ a0 x is. ap (λ (y : View). y.number) is.1.1.1.1.1) (λ a0.
    first {X = View} deployment_reads (λ x. x.deployment) (λ a1 x. IsEncodableApplication x.application × (IsTarget x.base × (((length x.groups ≤ most) × All (IsShort NAME_LIMIT) x.groups) × (((length x.locals ≤ most) × All IsEncodableLocal x.locals) × (x ≡ record { number = a0; deployment = a1; application = x.application; base = x.base; groups = x.groups; locals = x.locals }))))) (λ x. application_field x.application ++ (target_field x.base ++ (list_field text_field x.groups ++ (list_field local_field x.locals)))) (λ a1 bytes place. application_at bytes place >>= λ p2. target_at bytes p2.1 >>= λ p3. list_at most (text_at NAME_LIMIT) bytes p3.1 >>= λ p4. list_at most local_at bytes p4.1 >>= λ p5. Ok (record { number = a0; deployment = a1; application = p2.0; base = p3.0; groups = p4.0; locals = p5.0 }, p5.1)) (λ a1 x is. ap (λ (y : View). y.deployment) is.1.1.1.1) (λ a1.
    first {X = View} application_reads (λ x. x.application) (λ a2 x. IsTarget x.base × (((length x.groups ≤ most) × All (IsShort NAME_LIMIT) x.groups) × (((length x.locals ≤ most) × All IsEncodableLocal x.locals) × (x ≡ record { number = a0; deployment = a1; application = a2; base = x.base; groups = x.groups; locals = x.locals })))) (λ x. target_field x.base ++ (list_field text_field x.groups ++ (list_field local_field x.locals))) (λ a2 bytes place. target_at bytes place >>= λ p3. list_at most (text_at NAME_LIMIT) bytes p3.1 >>= λ p4. list_at most local_at bytes p4.1 >>= λ p5. Ok (record { number = a0; deployment = a1; application = a2; base = p3.0; groups = p4.0; locals = p5.0 }, p5.1)) (λ a2 x is. ap (λ (y : View). y.application) is.1.1.1) (λ a2.
    first {X = View} target_reads (λ x. x.base) (λ a3 x. ((length x.groups ≤ most) × All (IsShort NAME_LIMIT) x.groups) × (((length x.locals ≤ most) × All IsEncodableLocal x.locals) × (x ≡ record { number = a0; deployment = a1; application = a2; base = a3; groups = x.groups; locals = x.locals }))) (λ x. list_field text_field x.groups ++ (list_field local_field x.locals)) (λ a3 bytes place. list_at most (text_at NAME_LIMIT) bytes place >>= λ p4. list_at most local_at bytes p4.1 >>= λ p5. Ok (record { number = a0; deployment = a1; application = a2; base = a3; groups = p4.0; locals = p5.0 }, p5.1)) (λ a3 x is. ap (λ (y : View). y.base) is.1.1) (λ a3.
    first {X = View} (list_reads (text_reads NAME_LIMIT (omega arith)) most small) (λ x. x.groups) (λ a4 x. ((length x.locals ≤ most) × All IsEncodableLocal x.locals) × (x ≡ record { number = a0; deployment = a1; application = a2; base = a3; groups = a4; locals = x.locals })) (λ x. list_field local_field x.locals) (λ a4 bytes place. list_at most local_at bytes place >>= λ p5. Ok (record { number = a0; deployment = a1; application = a2; base = a3; groups = a4; locals = p5.0 }, p5.1)) (λ a4 x is. ap (λ (y : View). y.groups) is.1) (λ a4.
    last {X = View} (list_reads local_reads most small) (λ x. x.locals) (λ a5. record { number = a0; deployment = a1; application = a2; base = a3; groups = a4; locals = a5 }) (λ a5. refl)))))))
    (λ x is. record { number = is.0; deployment = is.1.0; application = is.1.1.0; base = is.1.1.1.0; few_groups = is.1.1.1.1.0.0; groups = is.1.1.1.1.0.1; few_locals = is.1.1.1.1.1.0.0; locals = is.1.1.1.1.1.0.1 })
    (λ x is. (is.number, (is.deployment, (is.application, (is.base, ((is.few_groups, is.groups), ((is.few_locals, is.locals), refl)))))))

-- a view with few enough groups and data files for a change has no more than a count can say
pub wider : (v : View) → IsEncodableView FILE_COUNT_LIMIT v → IsEncodableView COUNT_LIMIT v
wider v is = record {
  number = is.number;
  deployment = is.deployment;
  application = is.application;
  base = is.base;
  few_groups = (let few = is.few_groups in omega arith);
  groups = is.groups;
  few_locals = (let few = is.few_locals in omega arith);
  locals = is.locals;
}
