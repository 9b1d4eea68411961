use Rattle.std.proofs.Common.{length, ap, subst, arith}
use Rattle.store_state.specs.declared.change.Change.{Change}
use Rattle.record_codec.specs.Codec.{change_text, IsChange}
use Rattle.record_fields.proofs.Written.{then, at_front}
use Rattle.record_codec.proofs.Written.{length-change_text_boot, length-change_text_require, length-installed, length-heard, length-grouped, length-put, length-removed, boot_room, require_room, unheard_room, skip_room, rollback_room, launch_room, finish_room, clean_room, length-change_text_unheard, length-change_text_skip, length-change_text_rollback, length-change_text_launch, length-change_text_finish, length-change_text_clean, change_text_boot, change_text_require, change_text_install, change_text_heard, change_text_unheard, change_text_skip, change_text_rollback, change_text_launch, change_text_finish, change_text_group, change_text_put, change_text_remove, change_text_clean}
use Rattle.record_fields.proofs.Long.{length-version_field}
use Rattle.record_codec.proofs.encoder.encode_change.Goals as goal

-- ---- a boot number

pub write_u8-next-requires : goal.write_u8-next-requires
write_u8-next-requires c = omega (arith, boot_room c.args.change.now c.in-Boot.boot (length c.args.out.now) c.in-Boot.is c.requires.room)

pub write_u64-requires : goal.write_u64-requires
write_u64-requires c = omega (arith, boot_room c.args.change.now c.in-Boot.boot (length c.args.out.now) c.in-Boot.is c.requires.room)

pub returns-in-Boot-clause-length : goal.returns-in-Boot-clause-length
returns-in-Boot-clause-length c = let is = ap (λ (x : Change). length (change_text x)) c.in-Boot.is in omega (arith, length-change_text_boot c.in-Boot.boot)

pub returns-in-Boot-clause-text : goal.returns-in-Boot-clause-text
returns-in-Boot-clause-text c =
    rw (c.in-Boot.is, change_text_boot c.in-Boot.boot)
    (at_front (then c.write_u8-next.ensures c.write_u64.ensures))

-- ---- a requirement

pub write_u8-next-requires-in-Require : goal.write_u8-next-requires-in-Require
write_u8-next-requires-in-Require c = omega (arith, require_room c.args.change.now c.in-Require.key c.in-Require.version (length c.args.out.now) c.in-Require.is c.requires.room)

pub write_key-next-requires-clause-room : goal.write_key-next-requires-clause-room
write_key-next-requires-clause-room c = omega (arith, require_room c.args.change.now c.in-Require.key c.in-Require.version (length c.args.out.now) c.in-Require.is c.requires.room)

pub write_version-requires : goal.write_version-requires
write_version-requires c = omega (arith, require_room c.args.change.now c.in-Require.key c.in-Require.version (length c.args.out.now) c.in-Require.is c.requires.room)

pub returns-in-Require-clause-length : goal.returns-in-Require-clause-length
returns-in-Require-clause-length c =
    let is = ap (λ (x : Change). length (change_text x)) c.in-Require.is in
    omega (
      arith,
      length-change_text_require c.in-Require.key c.in-Require.version,
      length-version_field c.in-Require.version,
    )

pub returns-in-Require-clause-text : goal.returns-in-Require-clause-text
returns-in-Require-clause-text c =
    rw (c.in-Require.is, change_text_require c.in-Require.key c.in-Require.version)
    (at_front (then c.write_u8-next-in-Require.ensures
    (then c.write_key-next.ensures c.write_version.ensures)))

-- ---- an installation

pub write_install-requires-clause-install : goal.write_install-requires-clause-install
write_install-requires-clause-install c =
    let fits = subst IsChange c.in-Install.is c.requires.change in
    rw c.as_slice.ensures fits

pub write_install-requires-clause-room : goal.write_install-requires-clause-room
write_install-requires-clause-room c =
    let long = length-installed c.in-Install.now c.in-Install.is c.as_slice.ensures in
    omega (arith, c.requires.room)

pub returns-in-Install-clause-length : goal.returns-in-Install-clause-length
returns-in-Install-clause-length c =
    let long = length-installed c.in-Install.now c.in-Install.is c.as_slice.ensures in
    omega (arith, c.write_install.ensures.behind)

pub returns-in-Install-clause-text : goal.returns-in-Install-clause-text
returns-in-Install-clause-text c =
    rw (c.in-Install.is, change_text_install, ← c.as_slice.ensures)
    (at_front c.write_install.ensures)

-- ---- what a check heard

pub write_heard-requires-clause-heard : goal.write_heard-requires-clause-heard
write_heard-requires-clause-heard c = subst IsChange c.in-Heard.is c.requires.change

pub write_heard-requires-clause-room : goal.write_heard-requires-clause-room
write_heard-requires-clause-room c =
    let long = length-heard c.in-Heard.now c.in-Heard.is in
    omega (arith, c.requires.room)

pub returns-in-Heard-clause-length : goal.returns-in-Heard-clause-length
returns-in-Heard-clause-length c =
    let long = length-heard c.in-Heard.now c.in-Heard.is in
    omega (arith, c.write_heard.ensures.behind)

pub returns-in-Heard-clause-text : goal.returns-in-Heard-clause-text
returns-in-Heard-clause-text c =
    rw (c.in-Heard.is, change_text_heard) (at_front c.write_heard.ensures)

-- ---- a check that heard nothing

pub write_u8-next-requires-in-Unheard : goal.write_u8-next-requires-in-Unheard
write_u8-next-requires-in-Unheard c =
    omega (arith, unheard_room c.args.change.now c.in-Unheard.key (length c.args.out.now) c.in-Unheard.is c.requires.room)

pub write_key-requires-clause-key : goal.write_key-requires-clause-key
write_key-requires-clause-key c = subst IsChange c.in-Unheard.is c.requires.change

pub write_key-requires-clause-room : goal.write_key-requires-clause-room
write_key-requires-clause-room c =
    omega (arith, unheard_room c.args.change.now c.in-Unheard.key (length c.args.out.now) c.in-Unheard.is c.requires.room)

pub returns-in-Unheard-clause-length : goal.returns-in-Unheard-clause-length
returns-in-Unheard-clause-length c =
    let is = ap (λ (x : Change). length (change_text x)) c.in-Unheard.is in
    omega (arith, length-change_text_unheard c.in-Unheard.key)

pub returns-in-Unheard-clause-text : goal.returns-in-Unheard-clause-text
returns-in-Unheard-clause-text c =
    rw (c.in-Unheard.is, change_text_unheard c.in-Unheard.key)
    (at_front (then c.write_u8-next-in-Unheard.ensures c.write_key.ensures))

-- ---- a skip

pub write_u8-next-requires-in-Skip : goal.write_u8-next-requires-in-Skip
write_u8-next-requires-in-Skip c =
    omega (arith, skip_room c.args.change.now c.in-Skip.app (length c.args.out.now) c.in-Skip.is c.requires.room)

pub write_u32-requires : goal.write_u32-requires
write_u32-requires c =
    omega (arith, skip_room c.args.change.now c.in-Skip.app (length c.args.out.now) c.in-Skip.is c.requires.room)

pub returns-in-Skip-clause-length : goal.returns-in-Skip-clause-length
returns-in-Skip-clause-length c =
    let is = ap (λ (x : Change). length (change_text x)) c.in-Skip.is in
    omega (arith, length-change_text_skip c.in-Skip.app)

pub returns-in-Skip-clause-text : goal.returns-in-Skip-clause-text
returns-in-Skip-clause-text c =
    rw (c.in-Skip.is, change_text_skip c.in-Skip.app)
    (at_front (then c.write_u8-next-in-Skip.ensures c.write_u32.ensures))

-- ---- a rollback

pub write_u8-next-requires-in-Rollback : goal.write_u8-next-requires-in-Rollback
write_u8-next-requires-in-Rollback c =
    omega (arith, rollback_room c.args.change.now c.in-Rollback.app (length c.args.out.now) c.in-Rollback.is c.requires.room)

pub write_u32-requires-in-Rollback : goal.write_u32-requires-in-Rollback
write_u32-requires-in-Rollback c =
    omega (arith, rollback_room c.args.change.now c.in-Rollback.app (length c.args.out.now) c.in-Rollback.is c.requires.room)

pub returns-in-Rollback-clause-length : goal.returns-in-Rollback-clause-length
returns-in-Rollback-clause-length c =
    let is = ap (λ (x : Change). length (change_text x)) c.in-Rollback.is in
    omega (arith, length-change_text_rollback c.in-Rollback.app)

pub returns-in-Rollback-clause-text : goal.returns-in-Rollback-clause-text
returns-in-Rollback-clause-text c =
    rw (c.in-Rollback.is, change_text_rollback c.in-Rollback.app)
    (at_front (then c.write_u8-next-in-Rollback.ensures c.write_u32-in-Rollback.ensures))

-- ---- a launch

pub write_u8-next-requires-in-Launch : goal.write_u8-next-requires-in-Launch
write_u8-next-requires-in-Launch c =
    omega (arith, launch_room c.args.change.now c.in-Launch.app (length c.args.out.now) c.in-Launch.is c.requires.room)

pub write_u32-requires-in-Launch : goal.write_u32-requires-in-Launch
write_u32-requires-in-Launch c =
    omega (arith, launch_room c.args.change.now c.in-Launch.app (length c.args.out.now) c.in-Launch.is c.requires.room)

pub returns-in-Launch-clause-length : goal.returns-in-Launch-clause-length
returns-in-Launch-clause-length c =
    let is = ap (λ (x : Change). length (change_text x)) c.in-Launch.is in
    omega (arith, length-change_text_launch c.in-Launch.app)

pub returns-in-Launch-clause-text : goal.returns-in-Launch-clause-text
returns-in-Launch-clause-text c =
    rw (c.in-Launch.is, change_text_launch c.in-Launch.app)
    (at_front (then c.write_u8-next-in-Launch.ensures c.write_u32-in-Launch.ensures))

-- ---- the end of a lease

pub write_u8-next-requires-in-Finish : goal.write_u8-next-requires-in-Finish
write_u8-next-requires-in-Finish c =
    omega (arith, finish_room c.args.change.now c.in-Finish.lease (length c.args.out.now) c.in-Finish.is c.requires.room)

pub write_u64-requires-in-Finish : goal.write_u64-requires-in-Finish
write_u64-requires-in-Finish c =
    omega (arith, finish_room c.args.change.now c.in-Finish.lease (length c.args.out.now) c.in-Finish.is c.requires.room)

pub returns-in-Finish-clause-length : goal.returns-in-Finish-clause-length
returns-in-Finish-clause-length c =
    let is = ap (λ (x : Change). length (change_text x)) c.in-Finish.is in
    omega (arith, length-change_text_finish c.in-Finish.lease)

pub returns-in-Finish-clause-text : goal.returns-in-Finish-clause-text
returns-in-Finish-clause-text c =
    rw (c.in-Finish.is, change_text_finish c.in-Finish.lease)
    (at_front (then c.write_u8-next-in-Finish.ensures c.write_u64-in-Finish.ensures))

-- ---- a group

pub write_group-requires-clause-group : goal.write_group-requires-clause-group
write_group-requires-clause-group c =
    let fits = subst IsChange c.in-Group.is c.requires.change in
    rw c.as_slice-in-Group.ensures fits

pub write_group-requires-clause-room : goal.write_group-requires-clause-room
write_group-requires-clause-room c =
    let long = length-grouped c.in-Group.view c.in-Group.is c.as_slice-in-Group.ensures in
    omega (arith, c.requires.room)

pub returns-in-Group-clause-length : goal.returns-in-Group-clause-length
returns-in-Group-clause-length c =
    let long = length-grouped c.in-Group.view c.in-Group.is c.as_slice-in-Group.ensures in
    omega (arith, c.write_group.ensures.behind)

pub returns-in-Group-clause-text : goal.returns-in-Group-clause-text
returns-in-Group-clause-text c =
    rw (c.in-Group.is, change_text_group, ← c.as_slice-in-Group.ensures)
    (at_front c.write_group.ensures)

-- ---- a data file

pub write_put-requires-clause-file : goal.write_put-requires-clause-file
write_put-requires-clause-file c =
    let fits = subst IsChange c.in-Put.is c.requires.change in
    fits.1

pub write_put-requires-clause-room : goal.write_put-requires-clause-room
write_put-requires-clause-room c =
    let long = length-put c.in-Put.is in
    omega (arith, c.requires.room)

pub returns-in-Put-clause-length : goal.returns-in-Put-clause-length
returns-in-Put-clause-length c =
    let long = length-put c.in-Put.is in
    omega (arith, c.write_put.ensures.behind)

pub returns-in-Put-clause-text : goal.returns-in-Put-clause-text
returns-in-Put-clause-text c =
    rw (c.in-Put.is, change_text_put) (at_front c.write_put.ensures)

-- ---- a data file that is removed

pub write_remove-requires-clause-name : goal.write_remove-requires-clause-name
write_remove-requires-clause-name c =
    let fits = subst IsChange c.in-Remove.is c.requires.change in
    fits.1

pub write_remove-requires-clause-room : goal.write_remove-requires-clause-room
write_remove-requires-clause-room c =
    let long = length-removed c.in-Remove.is in
    omega (arith, c.requires.room)

pub returns-in-Remove-clause-length : goal.returns-in-Remove-clause-length
returns-in-Remove-clause-length c =
    let long = length-removed c.in-Remove.is in
    omega (arith, c.write_remove.ensures.behind)

pub returns-in-Remove-clause-text : goal.returns-in-Remove-clause-text
returns-in-Remove-clause-text c =
    rw (c.in-Remove.is, change_text_remove) (at_front c.write_remove.ensures)

-- ---- a clean

pub write_u8-requires : goal.write_u8-requires
write_u8-requires c =
    omega (arith, clean_room c.args.change.now (length c.args.out.now) c.in-Clean.is c.requires.room)

pub returns-in-Clean-clause-length : goal.returns-in-Clean-clause-length
returns-in-Clean-clause-length c =
    let is = ap (λ (x : Change). length (change_text x)) c.in-Clean.is in
    omega (arith, length-change_text_clean, c.write_u8.ensures.behind)

pub returns-in-Clean-clause-text : goal.returns-in-Clean-clause-text
returns-in-Clean-clause-text c = rw (c.in-Clean.is, change_text_clean) (at_front c.write_u8.ensures)
