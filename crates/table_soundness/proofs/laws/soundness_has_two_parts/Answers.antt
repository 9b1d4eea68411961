use Rattle.table_soundness.proofs.BothParts.{parts_sound, sound_parts}
use Rattle.table_soundness.proofs.laws.soundness_has_two_parts.Goals as goal

pub returns-clause-sound : goal.returns-clause-sound
returns-clause-sound c = parts_sound

pub returns-clause-parts : goal.returns-clause-parts
returns-clause-parts c = sound_parts
