use Rattle.std.proofs.Common.{subst, ◌∙◌, arith}
use Rattle.record_codec.specs.Codec.{IsChange}
use Rattle.record_codec.proofs.Written.{length-change_text_boot, length-change_text_require, length-change_text_unheard, length-change_text_skip, length-change_text_rollback, length-change_text_launch, length-change_text_finish, length-change_text_put, length-change_text_remove, length-change_text_clean, length-installed, length-heard, length-grouped}
use Rattle.record_fields.proofs.Bounds.{key_le, named_le}
use Rattle.record_codec.proofs.Bounds.{change_le, local_le, installed_le, heard_within, grouped_within}
use Rattle.record_codec.proofs.encoder.encoded_length.Goals as goal

pub key_length-requires : goal.key_length-requires
key_length-requires c =
    let fits = subst IsChange c.in-Require.is c.requires in
    omega (arith, key_le c.in-Require.key fits.0)

pub overflow_add-result : goal.overflow_add-result
overflow_add-result c =
    let fits = subst IsChange c.in-Require.is c.requires in
    omega (arith, key_le c.in-Require.key fits.0)

pub install_length-requires : goal.install_length-requires
install_length-requires c =
    let long = length-installed 0 c.in-Install.is c.as_slice.ensures in
    omega (arith, installed_le c.in-Install.is c.requires)

pub returns-in-Boot-clause-length : goal.returns-in-Boot-clause-length
returns-in-Boot-clause-length c =
    rw c.in-Boot.is (omega (arith, length-change_text_boot c.in-Boot.boot))

pub returns-in-Require-clause-length : goal.returns-in-Require-clause-length
returns-in-Require-clause-length c =
    let long = length-change_text_require c.in-Require.key c.in-Require.version in
    rw c.in-Require.is (omega arith)

pub returns-in-Require-clause-bound : goal.returns-in-Require-clause-bound
returns-in-Require-clause-bound c =
    let fits = subst IsChange c.in-Require.is c.requires in
    rw c.in-Require.is (omega (arith, key_le c.in-Require.key fits.0))

pub returns-in-Install-clause-length : goal.returns-in-Install-clause-length
returns-in-Install-clause-length c =
    c.install_length.ensures ∙ length-installed 0 c.in-Install.is c.as_slice.ensures

pub returns-in-Install-clause-bound : goal.returns-in-Install-clause-bound
returns-in-Install-clause-bound c =
    let long = length-installed 0 c.in-Install.is c.as_slice.ensures in
    omega (arith, c.install_length.ensures, change_le c.args.change.now c.requires)

pub heard_length-requires : goal.heard_length-requires
heard_length-requires c =
    let long = length-heard 0 c.in-Heard.is in
    omega (arith, heard_within c.in-Heard.is c.requires)

pub returns-in-Heard-clause-length : goal.returns-in-Heard-clause-length
returns-in-Heard-clause-length c = c.heard_length.ensures ∙ length-heard 0 c.in-Heard.is

pub returns-in-Heard-clause-bound : goal.returns-in-Heard-clause-bound
returns-in-Heard-clause-bound c =
    let long = length-heard 0 c.in-Heard.is in
    omega (arith, c.heard_length.ensures, change_le c.args.change.now c.requires)

pub key_length-requires-in-Unheard : goal.key_length-requires-in-Unheard
key_length-requires-in-Unheard c =
    let fits = subst IsChange c.in-Unheard.is c.requires in
    omega (arith, key_le c.in-Unheard.key fits)

pub overflow_add-result-in-Unheard : goal.overflow_add-result-in-Unheard
overflow_add-result-in-Unheard c =
    let fits = subst IsChange c.in-Unheard.is c.requires in
    omega (arith, key_le c.in-Unheard.key fits)

pub returns-in-Unheard-clause-length : goal.returns-in-Unheard-clause-length
returns-in-Unheard-clause-length c =
    let long = length-change_text_unheard c.in-Unheard.key in
    rw c.in-Unheard.is (omega arith)

pub returns-in-Unheard-clause-bound : goal.returns-in-Unheard-clause-bound
returns-in-Unheard-clause-bound c =
    let fits = subst IsChange c.in-Unheard.is c.requires in
    rw c.in-Unheard.is (omega (arith, key_le c.in-Unheard.key fits))

pub returns-in-Skip-clause-length : goal.returns-in-Skip-clause-length
returns-in-Skip-clause-length c =
    rw c.in-Skip.is (omega (arith, length-change_text_skip c.in-Skip.app))

pub returns-in-Rollback-clause-length : goal.returns-in-Rollback-clause-length
returns-in-Rollback-clause-length c =
    rw c.in-Rollback.is (omega (arith, length-change_text_rollback c.in-Rollback.app))

pub returns-in-Launch-clause-length : goal.returns-in-Launch-clause-length
returns-in-Launch-clause-length c =
    rw c.in-Launch.is (omega (arith, length-change_text_launch c.in-Launch.app))

pub returns-in-Finish-clause-length : goal.returns-in-Finish-clause-length
returns-in-Finish-clause-length c =
    rw c.in-Finish.is (omega (arith, length-change_text_finish c.in-Finish.lease))

pub group_length-requires : goal.group_length-requires
group_length-requires c =
    let long = length-grouped 0 c.in-Group.is c.as_slice-in-Group.ensures in
    omega (arith, grouped_within c.in-Group.is c.requires)

pub returns-in-Group-clause-length : goal.returns-in-Group-clause-length
returns-in-Group-clause-length c =
    c.group_length.ensures ∙ length-grouped 0 c.in-Group.is c.as_slice-in-Group.ensures

pub returns-in-Group-clause-bound : goal.returns-in-Group-clause-bound
returns-in-Group-clause-bound c =
    let long = length-grouped 0 c.in-Group.is c.as_slice-in-Group.ensures in
    omega (arith, c.group_length.ensures, change_le c.args.change.now c.requires)

pub local_length-requires : goal.local_length-requires
local_length-requires c =
    let fits = subst IsChange c.in-Put.is c.requires in
    omega (arith, local_le c.in-Put.file fits.1)

pub overflow_add-result-in-Put : goal.overflow_add-result-in-Put
overflow_add-result-in-Put c =
    let fits = subst IsChange c.in-Put.is c.requires in
    omega (arith, local_le c.in-Put.file fits.1)

pub returns-in-Put-clause-length : goal.returns-in-Put-clause-length
returns-in-Put-clause-length c =
    let long = length-change_text_put c.in-Put.view c.in-Put.file in
    rw c.in-Put.is (omega arith)

pub returns-in-Put-clause-bound : goal.returns-in-Put-clause-bound
returns-in-Put-clause-bound c =
    let fits = subst IsChange c.in-Put.is c.requires in
    rw c.in-Put.is (omega (arith, local_le c.in-Put.file fits.1))

pub name_length-requires : goal.name_length-requires
name_length-requires c =
    let fits = subst IsChange c.in-Remove.is c.requires in
    omega (arith, named_le c.in-Remove.name fits.1)

pub overflow_add-result-in-Remove : goal.overflow_add-result-in-Remove
overflow_add-result-in-Remove c =
    let fits = subst IsChange c.in-Remove.is c.requires in
    omega (arith, named_le c.in-Remove.name fits.1)

pub returns-in-Remove-clause-length : goal.returns-in-Remove-clause-length
returns-in-Remove-clause-length c =
    let long = length-change_text_remove c.in-Remove.view c.in-Remove.name in
    rw c.in-Remove.is (omega arith)

pub returns-in-Remove-clause-bound : goal.returns-in-Remove-clause-bound
returns-in-Remove-clause-bound c =
    let fits = subst IsChange c.in-Remove.is c.requires in
    rw c.in-Remove.is (omega (arith, named_le c.in-Remove.name fits.1))

pub returns-in-Clean-clause-length : goal.returns-in-Clean-clause-length
returns-in-Clean-clause-length c = rw c.in-Clean.is (omega (arith, length-change_text_clean))
