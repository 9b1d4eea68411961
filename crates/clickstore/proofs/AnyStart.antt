-- The bound `Start` asks nothing of its members. So what is proved over `S: Start` holds of the code at `Unknown`, for any bytes of
-- the file and any images.
use seplogic.Ra.Ura.{Ura}
use mir.Syntax.{Dict}
use prog.Model.{Model}
use types.Logic.{Logic}
use contract.Running.{Running}
use denote.RattleType.{RattleType}
use Rattle.disks.specs.declared.start.Start.{Ghosts}
use Rattle.disks.specs.contracts.start.Start.TheBound.{Met}

pub any_start : {M : Type 1} {𝓤 : Ura M} (𝓛 : Logic 𝓤) (𝓜 : Model 𝓤 𝓛.H) (𝓡 : Running 𝓤 𝓛.H 𝓜) (S : RattleType) (start : Ghosts S.Denot) (methods : Dict) → Met 𝓛 𝓜 𝓡 𝓡.env S start methods
any_start 𝓛 𝓜 𝓡 S start methods = record {}
